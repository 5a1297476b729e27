-- What was chosen for an instance stays, whatever happens.
use Rattle.std.proofs.Common.{◌≡◌, List, [], ◌∷◌, refl, ◌∙◌}
use Rattle.std.specs.Prelude.{fold}
use Rattle.instance_core.specs.State.{InstanceState}
use Rattle.instance_core.specs.Calls.{CallEventValue, tick as time_passes}
use Rattle.instance_core.specs.Changes.{InstanceChange, Text, Goes, Ends, Wrote, Keeps, Expires, Does, Pushes, Settles, state_after_change, state_after_changes}
use Rattle.instance_core.specs.Answer.{answer, state_after}
use Rattle.run_reading.specs.Happenings.{Happening, MomentCame, EventOver, TimePassed, RequestAnswered, CallEventCame, JobsTurned}
use Rattle.run_reading.specs.Replies.{state_after_happening}

limits_change : (c : InstanceChange) (s : InstanceState) → (state_after_change c s).limits ≡ s.limits
limits_change (Text c) s = refl
limits_change (Goes id call) s = refl
limits_change (Ends id) s = refl
limits_change (Wrote w) s = refl
limits_change (Keeps results) s = refl
limits_change Expires s = refl
limits_change (Does operation) s = refl
limits_change (Pushes job) s = refl
limits_change (Settles steps) s = refl

limits_changes : (cs : List InstanceChange) (s : InstanceState) → (state_after_changes cs s).limits ≡ s.limits
limits_changes [] s = refl
limits_changes (c ∷ cs) s = limits_changes cs (state_after_change c s) ∙ limits_change c s

pub limits_after : (s : InstanceState) (event : CallEventValue) → (state_after s event).limits ≡ s.limits
limits_after s event = limits_changes (answer s event).changes s

limits_happening : (h : Happening) (s : InstanceState) → (state_after_happening s h).limits ≡ s.limits
limits_happening (MomentCame parent moment) s = refl
limits_happening EventOver s = refl
limits_happening TimePassed s = limits_after s time_passes
limits_happening (RequestAnswered place stream item) s = refl
limits_happening (CallEventCame place event) s = limits_after s event
limits_happening (JobsTurned places event) s = limits_after s event

pub limits_fold : (hs : List Happening) (s : InstanceState) → (fold state_after_happening s hs).limits ≡ s.limits
limits_fold [] s = refl
limits_fold (h ∷ hs) s = limits_fold hs (state_after_happening s h) ∙ limits_happening h s
