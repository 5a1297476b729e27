use Rattle.std.proofs.Common.{rules}
use Rattle.input_tree.proofs.Readings.{begin_given}
use Rattle.input_tree.proofs.directory_reading.DirectoryReading.begin.Goals as goal

pub returns-clause-given : goal.returns-clause-given
returns-clause-given c =
    begin_given c.new.result c.args.text.items _ c.new.ensures.is_bad (search rules) (search rules) c.new.ensures.at c.new.ensures.taken
