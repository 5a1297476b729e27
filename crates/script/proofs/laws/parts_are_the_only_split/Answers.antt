use Rattle.std.proofs.Common.{sym, ap, ◌∙◌}
use Rattle.std.proofs.lemmas.List.Splits.{join_with_byte-slice_split}
use Rattle.script.specs.Parts.{parts_of}
use Rattle.script.proofs.SplitLemmas.{parts_of-join, Lacks-parts_of}
use Rattle.script.proofs.laws.parts_are_the_only_split.Goals as goal

pub returns-clause-joined : goal.returns-clause-joined
returns-clause-joined c = join_with_byte-slice_split c.args.separator c.args.text.now

pub returns-clause-apart : goal.returns-clause-apart
returns-clause-apart c = Lacks-parts_of c.args.separator c.args.text.now

pub returns-clause-only : goal.returns-clause-only
returns-clause-only c part parts joined apart =
    sym (parts_of-join c.args.separator part parts apart) ∙ ap (parts_of c.args.separator) joined
