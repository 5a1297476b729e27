use Rattle.job_runs.proofs.Numbering.{number_finds}
use Rattle.job_runs.proofs.laws.a_number_finds_the_text_of_its_digest.Goals as goal

pub returns : goal.returns
returns c = number_finds
