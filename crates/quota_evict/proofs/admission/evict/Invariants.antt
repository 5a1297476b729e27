use Rattle.std.proofs.Common.{◌≡◌, length}
use Rattle.std.specs.List.{AllByRecursion}
use Rattle.digest.specs.Naming.{Names}
use Rattle.blob_pool.specs.Moves.{Moves, AreHeld}
use Rattle.instance_view.specs.Visible.{Blob}
use Rattle.instance_view.specs.Shown.{visible_in, holders}
use Rattle.quota_evict.specs.Admission.{longest_front}
use Rattle.quota_evict.proofs.admission.evict.Given as goal

abbrev pub invariant-texts : goal.invariant-texts
invariant-texts l = record {
  shown_is : longest_front l.quota (visible_in l.pool l.view) ≡ longest_front l.quota (visible_in l.fn.pool l.fn.view);
  moves : Moves l.fn.pool l.pool (holders l.fn.view) (holders l.view);
  held : AreHeld l.pool (holders l.view);
  named : AllByRecursion (λ (b : Blob). Names b.0 b.1) (visible_in l.pool l.view);
  limit : l.view.limit ≡ l.fn.view.limit;
}

abbrev pub decreases-texts : goal.decreases-texts
decreases-texts l = length (visible_in l.pool l.view)
