use Rattle.instance_core.proofs.WatchKept.{made_watched, open_given}
use Rattle.instance_core.proofs.WatchTold.{told_there, starts_rest, late_rest, ended_rest}
use Rattle.instance_core.proofs.laws.starts_are_told_on_one_connection.Goals as goal

pub returns-clause-kept : goal.returns-clause-kept
returns-clause-kept c = λ k s t event on w made during.
    (made_watched k s t event on made (record { numbers = open_given s.jobs w.jobs; during = during })).during

pub returns-clause-told : goal.returns-clause-told
returns-clause-told c = λ k s w during. told_there k s during

pub returns-clause-starts : goal.returns-clause-starts
returns-clause-starts c = λ k s w during. starts_rest k s during

pub returns-clause-late : goal.returns-clause-late
returns-clause-late c = λ s w rest. late_rest s rest

pub returns-clause-ended : goal.returns-clause-ended
returns-clause-ended c = λ s n outcome w runs rest. ended_rest s n outcome rest
