-- What want of memory leaves of an instance: a blob that is gone had no room.
use Rattle.std.proofs.Common.{◌≡◌, ℕ, List, [], ◌∷◌, ◌++◌, refl, sym, ap, ◌∙◌, subst, inl, inr, append_assoc}
use Rattle.std.specs.List.{AllByRecursion}
use Rattle.std.proofs.lemmas.List.{append-nil}
use Rattle.job_queue.specs.Jobs.{running_job}
use Rattle.run_calls.specs.Outcomes.{OutcomeValue}
use Rattle.instance_core.specs.Digest.{Digest}
use Rattle.instance_core.specs.Visible.{Blob}
use Rattle.instance_core.specs.Calls.{CallEventValue, end_job}
use Rattle.instance_core.specs.State.{InstanceState, IsInstanceWithin}
use Rattle.instance_core.specs.Changes.{InstanceChange, Text, Goes, Ends, Wrote, Keeps, Expires, Does, Pushes, Settles, MadeInPart, state_after_change, state_after_changes}
use Rattle.instance_core.specs.Answer.{answer, state_after, ending_changes, steps_at}
use Rattle.instance_core.specs.Room.{all_touched, IsOneOf, LosesForRoom}
use Rattle.instance_core.proofs.RoomMade.{Holds, of_both, part_holds, loses_from, touched_front}
use Rattle.server_events.specs.Events.{LoneEvent, WhatValue, opened, received, took, closed, tick, ended}
use Rattle.served_instance.specs.Lone.{LoneInstance, lone_at_moment}
use Rattle.served_instance.specs.Events.{bytes_events}
use Rattle.served_instance.specs.Room.{touched_by, touched_at}
use Rattle.served_instance.specs.Short.{IsCutShort, IsEndedInPart, IsCutEffect, Short}

-- how many texts an instance may have, and of how many bytes
abbrev given : InstanceState → ℕ × ℕ
given s = (s.limits.blobs, s.quota)

-- the blob stands behind those that may stand there, as far as these limits go
abbrev HoldsWithin : ℕ × ℕ → List Digest → Blob → List Blob → Type 0
HoldsWithin g ds b xs = Holds g.0 g.1 ds b xs

changed_given : (c : InstanceChange) (s : InstanceState) → given (state_after_change c s) ≡ given s
changed_given (Text c) s = refl
changed_given (Goes id call) s = refl
changed_given (Ends id) s = refl
changed_given (Wrote w) s = refl
changed_given (Keeps results) s = refl
changed_given Expires s = refl
changed_given (Does operation) s = refl
changed_given (Pushes job) s = refl
changed_given (Settles steps) s = refl

changes_given : (cs : List InstanceChange) (s : InstanceState) → given (state_after_changes cs s) ≡ given s
changes_given [] s = refl
changes_given (c ∷ cs) s = changes_given cs (state_after_change c s) ∙ changed_given c s

-- all changes of an event are a front of them
abbrev pub all_made : (s : InstanceState) (event : CallEventValue) → MadeInPart (answer s event).changes s (state_after s event)
all_made s event = record { made = (answer s event).changes; left = []; front = sym (append-nil (answer s event).changes); so_far = refl }

cut_holds : (events : List CallEventValue) (s t : InstanceState) (ds : List Digest) (b : Blob) → IsCutShort events s t →
    AllByRecursion (IsOneOf ds) (touched_by events s) → HoldsWithin (given s) ds b s.visible → HoldsWithin (given s) ds b t.visible
cut_holds [] s t ds b same one h = subst (λ (x : InstanceState). HoldsWithin (given s) ds b x.visible) (sym same) h
cut_holds (event ∷ events) s t ds b (inl part) one h =
    let parts = of_both (IsOneOf ds) (all_touched (answer s event).changes) (touched_by events (state_after s event)) one in
    let made = touched_front (IsOneOf ds) part.made part.left
    (subst (λ (cs : List InstanceChange). AllByRecursion (IsOneOf ds) (all_touched cs)) part.front parts.0) in
    part_holds s t event ds b part made h
cut_holds (event ∷ events) s t ds b (inr rest) one h =
    let parts = of_both (IsOneOf ds) (all_touched (answer s event).changes) (touched_by events (state_after s event)) one in
    let next : InstanceState = state_after s event in
    let after : HoldsWithin (given s) ds b next.visible = part_holds s next event ds b (all_made s event) parts.0 h in
    let same : given next ≡ given s = changes_given (answer s event).changes s in
    subst (λ (g : ℕ × ℕ). HoldsWithin g ds b t.visible) same
    (cut_holds events next t ds b rest parts.1 (subst (λ (g : ℕ × ℕ). HoldsWithin g ds b next.visible) (sym same) after))

ended_holds : (n : ℕ) (outcome : OutcomeValue) (l m : LoneInstance) (ds : List Digest) (b : Blob) → IsEndedInPart n outcome l m →
    AllByRecursion (IsOneOf ds) (all_touched (ending_changes l.state outcome (running_job n l.state.jobs))) →
    HoldsWithin (given l.state) ds b l.state.visible → HoldsWithin (given l.state) ds b m.state.visible
ended_holds n outcome l m ds b h one start =
    let rest : List InstanceChange = Settles (steps_at l.state (end_job n outcome)) ∷ [] in
    let part : MadeInPart (answer l.state (end_job n outcome)).changes l.state h.left = record {
      made = h.made.made;
      left = h.made.left ++ rest;
      front = ap (λ (xs : List InstanceChange). xs ++ rest) h.made.front ∙ append_assoc h.made.made h.made.left rest;
      so_far = h.made.so_far;
    } in
    let made = touched_front (IsOneOf ds) h.made.made h.made.left
    (subst (λ (cs : List InstanceChange). AllByRecursion (IsOneOf ds) (all_touched cs)) h.made.front one) in
    subst (HoldsWithin (given l.state) ds b) (sym (ap (λ (k : LoneInstance). k.state.visible) h.gone))
    (part_holds l.state h.left (end_job n outcome) ds b part made start)

effect_holds : (what : WhatValue) (l m : LoneInstance) (ds : List Digest) (b : Blob) → IsCutEffect what l m →
    AllByRecursion (IsOneOf ds) (touched_at what l) → HoldsWithin (given l.state) ds b l.state.visible →
    HoldsWithin (given l.state) ds b m.state.visible
effect_holds (opened c) l m ds b same one h = subst (λ (k : LoneInstance). HoldsWithin (given l.state) ds b k.state.visible) (sym same) h
effect_holds (received c bytes) l m ds b cut one h =
    subst (HoldsWithin (given l.state) ds b) (sym (ap (λ (k : LoneInstance). k.state.visible) cut.gone))
    (cut_holds (bytes_events c bytes l) l.state cut.left ds b cut.cut one h)
effect_holds (took c n) l m ds b cut one h = absurd cut
effect_holds (closed c) l m ds b cut one h = absurd cut
effect_holds tick l m ds b same one h = subst (λ (k : LoneInstance). HoldsWithin (given l.state) ds b k.state.visible) (sym same) h
effect_holds (ended n outcome) l m ds b cut one h = ended_holds n outcome l m ds b cut one h

pub short_loses_for_room : (parent : List Blob) (e : LoneEvent) (l m : LoneInstance) → IsInstanceWithin l.state → Short parent e l m
    → LosesForRoom l.state.limits.blobs l.state.quota (touched_at e.what (lone_at_moment e.moment parent l)) l.state.visible m.state.visible
short_loses_for_room parent e l m w h =
    let here : LoneInstance = lone_at_moment e.moment parent l in
    loses_from l.state.limits.blobs l.state.quota (touched_at e.what here) l.state.visible m.state.visible w.limits.some_blobs w.texts
    (λ ds b one start. effect_holds e.what here m ds b h one start)
