use Rattle.run_reading.proofs.Runs.{run_named, run_gives_named, run_orders_whole}
use Rattle.run_reading.proofs.laws.blobs_served_are_named.Goals as goal

pub returns-clause-answers : goal.returns-clause-answers
returns-clause-answers c = run_named

pub returns-clause-streams : goal.returns-clause-streams
returns-clause-streams c = run_gives_named

pub returns-clause-orders : goal.returns-clause-orders
returns-clause-orders c = run_orders_whole
