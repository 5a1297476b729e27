use Rattle.std.proofs.Common.{ap, ◌∙◌, [], ◌∷◌, map}
use Rattle.std.proofs.lemmas.List.{map-append}
use Rattle.script.specs.UnaryShown.{entry_value}
use Rattle.script.proofs.EntryLemmas.{insert_entry-last}
use Rattle.script.proofs.unary.parser.add_instance.Goals as goal

pub returns : goal.returns
returns c =
    let known = c.args.known.now.entries in
    let name = c.args.instance.name in
    let quota = c.args.instance.quota in
    ap (map entry_value) (c.in_ok-insert.ensures.entries ∙ insert_entry-last known name quota c.requires)
    ∙ map-append entry_value known ((name, quota) ∷ [])
