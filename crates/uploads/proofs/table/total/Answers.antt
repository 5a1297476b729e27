use Rattle.std.proofs.Common.{◌∙◌}
use Rattle.uploads.proofs.TableLemmas.{bytes_shown}
use Rattle.uploads.proofs.table.total.Goals as goal

pub sum_of_lengths-requires : goal.sum_of_lengths-requires
sum_of_lengths-requires c = rw (bytes_shown c.args.table.now.entries) c.requires

pub returns : goal.returns
returns c = c.sum_of_lengths.ensures ∙ bytes_shown c.args.table.now.entries
