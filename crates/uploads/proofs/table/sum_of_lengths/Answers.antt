use Rattle.std.proofs.Common.{rules, length}
use Rattle.std.proofs.lemmas.Iterator.{YieldsList-from_map}
use Rattle.std.proofs.lemmas.Iterator.Consumers.{sum_by_from_yields_List, YieldsList-from_rest, YieldsList-at}
use Rattle.keyed_maps.specs.IndexMap.{values}
use Rattle.uploads.specs.declared.table.Upload.{Upload}
use Rattle.uploads.proofs.table.sum_of_lengths.Goals as goal

pub returns : goal.returns
returns c =
    sum_by_from_yields_List (λ (u : Upload). length u.draft.text) (values c.args.table.now) c.map.result c.sum.result c.sum.ensures.ran
    (YieldsList-from_map _ (λ (u : Upload). length u.draft.text)
    (YieldsList-at c.map.ensures.source (YieldsList-from_rest (values c.args.table.now) c.values.ensures.rest)) c.map.ensures.closure
    (λ x r q k. search rules))
