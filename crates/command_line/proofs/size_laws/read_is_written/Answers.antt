use Rattle.command_line.proofs.Words.{read_is_written}
use Rattle.command_line.proofs.size_laws.read_is_written.Goals as goal

pub returns : goal.returns
returns c = read_is_written
