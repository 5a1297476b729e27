use Rattle.std.proofs.Common.{◌∙◌, ap}
use Rattle.std.specs.Option.{option_map}
use Rattle.std.proofs.lemmas.Option.{slice_get-map, slice_get-get_or}
use Rattle.hpack.specs.Shown.{row_shown}
use Rattle.hpack.proofs.static_table.row_at.Goals as goal

pub returns : goal.returns
returns c = slice_get-map row_shown c.args.rows.now c.args.place
    ∙ ap (option_map row_shown) (slice_get-get_or c.args.rows.now c.args.place _ c.requires)
