use Rattle.std.proofs.Common.{sym, ◌∙◌}
use Rattle.run_folders.proofs.PlaceLemmas.{passes}
use Rattle.run_folders.specs.Segments.{path_names}
use Rattle.run_folders.proofs.entering.rest_below.Goals as goal

pub names-preserved : goal.names-preserved
names-preserved c =
    let (names, p, a) = rw (c.in-Some.is, c.in-Some-left.is) at c.names.invariant in
    passes (path_names c.args.path.now) (path_names c.args.above.now) c.in-Some.first.now c.in-Some-left.rest.now _ _ _ _ names p a
    c.first_segment.ensures c.first_segment-in-Some.ensures (sym c.is_same_name.ensures ∙ c.if-not-is_same_name.false)
