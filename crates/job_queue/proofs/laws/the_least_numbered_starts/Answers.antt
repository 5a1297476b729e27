use Rattle.job_queue.proofs.Numbers.{least-starts}
use Rattle.job_queue.proofs.laws.the_least_numbered_starts.Goals as goal

pub returns : goal.returns
returns g c = least-starts
