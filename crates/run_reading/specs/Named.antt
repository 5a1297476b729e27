-- The answers of an instance in a run, and what streams are given, named by their digests.
use Rattle.std.specs.Prelude.{List, [], ◌∷◌}
use Rattle.std.specs.List.{AllByRecursion}
use Rattle.instance_core.specs.Naming.{Names}
use Rattle.grpc_sending.specs.Owed.{Item, Headed, Message, Range}
use Rattle.instance_core.specs.Calls.{tick}
use Rattle.instance_core.specs.Answer.{state_after}
use Rattle.instance_core.specs.State.{InstanceState, seeing}
use Rattle.served_instance.specs.Lone.{state_at_event}
use Rattle.instance_core.specs.NamedReplies.{AnsweredEvent}
use Rattle.server_core.specs.Families.{Family, FamilyEvent}
use Rattle.run_reading.specs.Replies.{GivenItems, new_instance_of, run_happenings}
use Rattle.run_reading.specs.Happenings.{Happening, MomentCame, EventOver, TimePassed, RequestAnswered, CallEventCame, JobsTurned}

-- ---- the answers of a run

abbrev pub answered_events : InstanceState → List Happening → List AnsweredEvent
answered_events s [] = []
answered_events s (MomentCame parent moment ∷ hs) =
    answered_events (state_at_event moment parent s) hs
answered_events s (EventOver ∷ hs) = answered_events (seeing [] s) hs
answered_events s (TimePassed ∷ hs) = answered_events (state_after s tick) hs
answered_events s (RequestAnswered place stream item ∷ hs) = answered_events s hs
answered_events s (CallEventCame place event ∷ hs) =
    record { state = s; event = event } ∷ answered_events (state_after s event) hs
answered_events s (JobsTurned places event ∷ hs) =
    record { state = s; event = event } ∷ answered_events (state_after s event) hs

-- of all answers that the instance gives in a run
abbrev pub run_answered_events : Family → List FamilyEvent → List AnsweredEvent
run_answered_events family events =
    answered_events (new_instance_of family.own) (run_happenings family events)

-- ---- what streams are given

-- a range is of the text that its digest names
abbrev pub IsNamedGift : Item → Type 0
IsNamedGift (Range digest text from count) = Names digest text
IsNamedGift (Headed block) = Unit {0}
IsNamedGift (Message bytes) = Unit {0}

abbrev pub GivesNamed : GivenItems → Type 0
GivesNamed g = AllByRecursion IsNamedGift g.items
