use Rattle.std.proofs.Common.{◌≡◌, ◌+◌, ◌≤◌, map, length}
use Rattle.instance_view.specs.Texts.{look_of}
use Rattle.action_cache.specs.Complete.{with_each}
use Rattle.action_cache.specs.Work.{sum_of}
use Rattle.action_cache.proofs.complete.name_each.Given as goal

abbrev pub invariant-parts : goal.invariant-parts
invariant-parts g l = record {
  named : with_each (g.P.NamesBlobs.with_part (look_of l.blobs.texts)) l.named.items (map g.P.NamesBlobs.shown l.left)
      ≡ with_each (g.P.NamesBlobs.with_part (look_of l.blobs.texts)) l.fn.named.items (map g.P.NamesBlobs.shown l.parts);
  looks : l.work.looks + sum_of (g.P.NamesBlobs.looks_for (look_of l.blobs.texts)) (map g.P.NamesBlobs.shown l.left)
      ≤ l.fn.work.looks + sum_of (g.P.NamesBlobs.looks_for (look_of l.blobs.texts)) (map g.P.NamesBlobs.shown l.parts);
  bytes : l.work.bytes + sum_of (g.P.NamesBlobs.bytes_of (look_of l.blobs.texts)) (map g.P.NamesBlobs.shown l.left)
      ≤ l.fn.work.bytes + sum_of (g.P.NamesBlobs.bytes_of (look_of l.blobs.texts)) (map g.P.NamesBlobs.shown l.parts);
}

abbrev pub decreases-parts : goal.decreases-parts
decreases-parts g l = length l.left
