use Rattle.std.proofs.Common.{ap, ◌∙◌, map, sym}
use Rattle.script.specs.UnaryScript.{instance_index}
use Rattle.script.specs.UnaryShown.{entry_value}
use Rattle.script.proofs.EntryLemmas.{instance_index-entries, instance_index-no_text}
use Rattle.script.proofs.unary.parser.place.Goals as goal

pub returns-in-Ok : goal.returns-in-Ok
returns-in-Ok c =
    let known = c.args.known.now.entries in
    c.get_index_of.ensures.index ∙ instance_index-entries known c.in-Ok.name.now
    ∙ ap (instance_index (map entry_value known)) c.in-Ok.ensures.cases.0

pub returns-in-Err : goal.returns-in-Err
returns-in-Err c = sym (instance_index-no_text c.args.known.now.entries c.args.name.now c.in-Err.ensures.cases.0)
