use Rattle.std.proofs.Common.{option_copied}
use Rattle.job_queue.proofs.Places.{ended_is}
use Rattle.job_queue.proofs.queue.find_ended.Goals as goal

pub returns : goal.returns
returns c = ended_is c.args.number c.args.ended.now.items (option_copied c.find_along.result) c.find_along.ensures
