-- What an instance sees beside its own texts.
use Rattle.std.proofs.Common.{◌≡◌, ℕ, ◌+◌, ◌≤◌, List, [], ◌∷◌, ◌++◌, Option, Some, None, Result, Ok, Err, refl, sym, ap, subst, ◌∙◌}
use Rattle.std.specs.Prelude.{OnOk, OnErr}
use Rattle.std.specs.List.{AllByRecursion}
use Rattle.std.specs.declared.alloc.Global.{Global}
use Rattle.std.specs.declared.alloc.AllocError.{AllocError}
use Rattle.std.specs.declared.vec.Vec.{Vec}
use Rattle.digest.specs.Naming.{Names}
use Rattle.blob_pool.specs.Slots.{Slots, count_at}
use Rattle.blob_pool.specs.Moves.{Moves, Holders}
use Rattle.instance_view.specs.Visible.{Blob}
use Rattle.instance_view.specs.Shown.{ViewValue, visible_in, holders}
use Rattle.instance_view.proofs.Held.{shown_apart}
use Rattle.rpc.specs.declared.method.Method.{Method}
use Rattle.rpc.specs.declared.method.Method.TheVariants.{Write}
use Rattle.instance_core.specs.declared.event.CallId.{CallId}
use Rattle.instance_core.specs.declared.event.Reply.{Reply}
use Rattle.instance_core.specs.Calls.{CallValue, ProgressValue, waits, has, writes, watches}
use Rattle.instance_core.specs.State.{InstanceState, IsInstanceWithin, seen, seeing}
use Rattle.instance_core.specs.Changes.{InstanceChange, Text, Goes, Ends, Wrote, Keeps, Expires, Does, Pushes, Settles, state_after_change, state_after_changes, MadeInPart}
use Rattle.instance_core.specs.Answer.{first_message_answer, answer_by_progress, message_answer}

all_both : (as' bs : List Blob) → AllByRecursion (λ (b : Blob). Names b.0 b.1) as' → AllByRecursion (λ (b : Blob). Names b.0 b.1) bs →
    AllByRecursion (λ (b : Blob). Names b.0 b.1) (as' ++ bs)
all_both [] bs h k = k
all_both (a ∷ as') bs h k = (h.0, all_both as' bs h.1 k)

-- all that it sees is what its digest says
pub all_named : (s : InstanceState) → IsInstanceWithin s → AllByRecursion (λ (b : Blob). Names b.0 b.1) (seen s)
all_named s w = all_both s.visible s.parent w.texts.named w.parent

-- ---- changes are the same, whatever else is seen

change_seeing : (parent : List Blob) (c : InstanceChange) (s : InstanceState) →
    state_after_change c (seeing parent s) ≡ seeing parent (state_after_change c s)
change_seeing parent (Text c) s = refl
change_seeing parent (Goes id call) s = refl
change_seeing parent (Ends id) s = refl
change_seeing parent (Wrote w) s = refl
change_seeing parent (Keeps results) s = refl
change_seeing parent Expires s = refl
change_seeing parent (Does operation) s = refl
change_seeing parent (Pushes job) s = refl
change_seeing parent (Settles steps) s = refl

pub after_seeing : (parent : List Blob) (cs : List InstanceChange) (s : InstanceState) →
    state_after_changes cs (seeing parent s) ≡ seeing parent (state_after_changes cs s)
after_seeing parent [] s = refl
after_seeing parent (c ∷ cs) s = ap (state_after_changes cs) (change_seeing parent c s) ∙ after_seeing parent cs (state_after_change c s)

part_seeing : (parent : List Blob) (cs : List InstanceChange) (old new : InstanceState) → MadeInPart cs old new →
    MadeInPart cs (seeing parent old) (seeing parent new)
part_seeing parent cs old new h = record {
  made = h.made;
  left = h.left;
  front = h.front;
  so_far =
      ap (seeing parent) h.so_far ∙ sym (after_seeing parent h.made old);
}

abbrev pub Given : Type 0
Given = Result (Vec Reply Global) AllocError

pub whole_seeing : (r : Given) (parent : List Blob) (cs : List InstanceChange) (old new : InstanceState) →
    OnOk r (new ≡ state_after_changes cs old) → OnOk r (seeing parent new ≡ state_after_changes cs (seeing parent old))
whole_seeing (Ok x) parent cs old new h = ap (seeing parent) h ∙ sym (after_seeing parent cs old)
whole_seeing (Err e) parent cs old new h = tt

pub front_seeing : (r : Given) (parent : List Blob) (cs : List InstanceChange) (old new : InstanceState) → OnErr r (MadeInPart cs old new) →
    OnErr r (MadeInPart cs (seeing parent old) (seeing parent new))
front_seeing (Ok x) parent cs old new h = tt
front_seeing (Err e) parent cs old new h = part_seeing parent cs old new h

-- ---- messages are answered from the own texts alone

first_seeing : (parent : List Blob) (s : InstanceState) (id : CallId) (method : Method) (bytes : List ℕ) →
    first_message_answer (seeing parent s) id method bytes ≡ first_message_answer s id method bytes
first_seeing parent s id Write bytes = refl
first_seeing parent s id _ bytes = refl

pub message_seeing : (parent : List Blob) (s : InstanceState) (id : CallId) (bytes : List ℕ) (o : Option CallValue) →
    message_answer (seeing parent s) id bytes o ≡ message_answer s id bytes o
message_seeing parent s id bytes None = refl
message_seeing parent s id bytes (Some call) = go call.progress where
  go : (progress : ProgressValue) → answer_by_progress (seeing parent s) id call.method bytes progress
      ≡ answer_by_progress s id call.method bytes progress
  go waits = first_seeing parent s id call.method bytes
  go (has first) = refl
  go (writes write) = refl
  go (watches n) = refl

-- ---- what a parent has is not touched

pub parent_same : (p q : Slots) (parent : ViewValue) (these those : Holders) → Moves p q these those →
    ((k : ℕ) → these k + holders parent k ≤ count_at p k) → visible_in q parent ≡ visible_in p parent
parent_same p q parent these those m apart = shown_apart p q parent.entries these those m apart

pub whole_moved : (r : Given) (a b : List Blob) (cs : List InstanceChange) (old new : InstanceState) → b ≡ a →
    OnOk r (seeing a new ≡ state_after_changes cs (seeing a old)) → OnOk r (seeing b new ≡ state_after_changes cs (seeing a old))
whole_moved r a b cs old new is h = subst (λ (x : List Blob). OnOk r (seeing x new ≡ state_after_changes cs (seeing a old))) (sym is) h

pub front_moved : (r : Given) (a b : List Blob) (cs : List InstanceChange) (old new : InstanceState) → b ≡ a →
    OnErr r (MadeInPart cs (seeing a old) (seeing a new)) → OnErr r (MadeInPart cs (seeing a old) (seeing b new))
front_moved r a b cs old new is h = subst (λ (x : List Blob). OnErr r (MadeInPart cs (seeing a old) (seeing x new))) (sym is) h
