use Rattle.std.proofs.Common.{◌≡◌, true, false, rules}
use Rattle.input_tree.specs.Taken.{taken_shown}
use Rattle.input_tree.specs.Taking.{is_ordered}
use Rattle.input_tree.proofs.Readings.{end_none, end_some}
use Rattle.input_tree.proofs.directory_reading.DirectoryReading.end.Goals as goal

pub returns-then-not-is_ordered : goal.returns-then-not-is_ordered
returns-then-not-is_ordered c =
    let no : is_ordered (taken_shown c.args.self.taken) ≡ false = search rules in
    end_none c.args.self c.requires.over c.if-self.false no

pub returns : goal.returns
returns c =
    let yes : is_ordered (taken_shown c.args.self.taken) ≡ true = search rules in
    end_some c.args.self c.requires.over c.if-self.false yes
