use Rattle.serve.proofs.FaultLines.{whole_lines}
use Rattle.serve.proofs.laws.faults_are_told_by_whole_lines.Goals as goal

pub returns : goal.returns
returns c = whole_lines
