use Rattle.hpack.proofs.Encodings.{first_read, later_read}
use Rattle.hpack.proofs.laws.server_blocks_are_read_back.Goals as goal

pub returns-clause-first : goal.returns-clause-first
returns-clause-first c = first_read

pub returns-clause-later : goal.returns-clause-later
returns-clause-later c = later_read
