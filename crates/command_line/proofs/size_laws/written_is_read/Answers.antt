use Rattle.command_line.proofs.Words.{written_is_read}
use Rattle.command_line.proofs.size_laws.written_is_read.Goals as goal

pub returns : goal.returns
returns c = written_is_read
