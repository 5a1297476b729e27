-- What the streams of a run's connections are given for all that happens: at a request that is no
-- call the answer to it, and at an event of a call what the instance replies (`answer` of
-- instance_core). Its state is a run of such answers, of the moments at which they are given, with
-- the texts that its parent has then, and of the passing of time, and of nothing else.
use Rattle.std.specs.Prelude.{◌≡◌, ℕ, ◌-◌, ◌==◌, ◌&&◌, suc, if◌then◌else◌, List, [], ◌∷◌, ◌++◌, map, fold, Option, Some, None}
use Rattle.std.specs.List.{flat_map}
use Rattle.conn_core.specs.ReaderConstants.{CLIENT_PREFACE}
use Rattle.conn_core.specs.RawFrame.{RawFrame}
use Rattle.conn_core.specs.Reading.{split}
use Rattle.conn_core.specs.GrpcMessagesWire.{message_length_limit}
use Rattle.grpc_sending.specs.Owed.{Item, items_owed_on}
use Rattle.conn_core.specs.Past.{Past}
use Rattle.conn_core.specs.Received.{received_raw_frames}
use Rattle.instance_core.specs.Calls.{tick}
use Rattle.instance_core.specs.Replies.{ReplyValue}
use Rattle.instance_core.specs.Answer.{answer, state_after}
use Rattle.instance_core.specs.State.{InstanceState, new_instance, seeing}
use Rattle.server_events.specs.Configs.{ConfigValue}
use Rattle.served_instance.specs.Connections.{LoneConnection}
use Rattle.served_instance.specs.Calls.{owed_items}
use Rattle.served_instance.specs.Lone.{state_at_event}
use Rattle.server_core.specs.Families.{Family, FamilyEvent}
use Rattle.server_core.specs.Runs.{new_family_run, run_of_family}
use Rattle.client_reading.specs.Changes.{IsPast}
use Rattle.client_reading.specs.Responses.{stream_parts, response_of, IsBeginning}
use Rattle.client_reading.specs.Reads.{IsReadByClient}
use Rattle.run_reading.specs.Happenings.{Happening, MomentCame, EventOver, TimePassed, RequestAnswered, CallEventCame, JobsTurned, happenings}

-- items that a stream of the connection at this place is given
pub record GivenItems : Type 0 where
  pub place : ℕ
  pub stream : ℕ
  pub items : List Item

abbrev pub items_of_reply : ℕ → ReplyValue → GivenItems
items_of_reply place reply =
    record { place = place; stream = reply.call.stream; items = owed_items reply.items }

-- a call that watches a job may be on any connection; on a stream that is closed it gets nothing
abbrev pub items_at_place : Option ℕ → ReplyValue → List GivenItems
items_at_place None reply = []
items_at_place (Some place) reply = items_of_reply place reply ∷ []

abbrev pub given_items_at : InstanceState → Happening → List GivenItems
given_items_at s (MomentCame parent moment) = []
given_items_at s EventOver = []
given_items_at s TimePassed = []
given_items_at s (RequestAnswered place stream item) =
    record { place = place; stream = stream; items = item ∷ [] } ∷ []
given_items_at s (CallEventCame place event) = map (items_of_reply place) (answer s event).replies
given_items_at s (JobsTurned places event) =
    flat_map (λ reply. items_at_place (places reply.call) reply) (answer s event).replies

abbrev pub state_after_happening : InstanceState → Happening → InstanceState
state_after_happening s (MomentCame parent moment) = state_at_event moment parent s
state_after_happening s EventOver = seeing [] s
state_after_happening s TimePassed = state_after s tick
state_after_happening s (RequestAnswered place stream item) = s
state_after_happening s (CallEventCame place event) = state_after s event
state_after_happening s (JobsTurned places event) = state_after s event

-- each reply is that of the state that the earlier events of calls have made
abbrev pub given_items_from : InstanceState → List Happening → List GivenItems
given_items_from s [] = []
given_items_from s (h ∷ hs) = given_items_at s h ++ given_items_from (state_after_happening s h) hs

-- what a stream is given, in order
abbrev pub items_given : ℕ → ℕ → GivenItems → List Item
items_given place stream g = if g.place == place && g.stream == stream then g.items else []

abbrev pub items_on : ℕ → ℕ → List GivenItems → List Item
items_on place stream gs = flat_map (items_given place stream) gs

-- ---- runs

abbrev pub new_instance_of : ConfigValue → InstanceState
new_instance_of config =
    new_instance config.name config.quota config.slots config.limits

abbrev pub run_happenings : Family → List FamilyEvent → List Happening
run_happenings family events = happenings (new_family_run family) events

abbrev pub run_given_items : Family → List FamilyEvent → List GivenItems
run_given_items family events =
    given_items_from (new_instance_of family.own) (run_happenings family events)

-- what their answers make of the instance
abbrev pub run_state : Family → List FamilyEvent → InstanceState
run_state family events =
    fold state_after_happening (new_instance_of family.own) (run_happenings family events)

-- the connections of the run, in order of opening
abbrev pub run_connections : Family → List FamilyEvent → List LoneConnection
run_connections family events = (run_of_family family events).own.lone.connections

-- the longest message that the four bytes in front of it can state (gRPC over HTTP2,
-- Length-Prefixed-Message)
abbrev pub longest_message : ℕ
longest_message = message_length_limit - 1

-- the frames that were received are those of the bytes that came, in order; some may be left behind
-- an error
abbrev pub ReadsText : Past → Type 0
ReadsText p =
    (later : List RawFrame)
    × ((split CLIENT_PREFACE.now p.text).items ≡ received_raw_frames p.history ++ later)

-- on each stream of the connection at this place, whose windows are of so many bytes, the client
-- reads a beginning of what was given
pub record IsConnectionRead (window place : ℕ) (gs : List GivenItems) (k : LoneConnection) : Type 0
  where
    pub made : IsPast window k.past
    pub text : ReadsText k.past
    pub reads : IsReadByClient window k.past
    pub owed : (s : ℕ) → items_owed_on s k.past.owed ≡ items_on place s gs
    pub responses : (s : ℕ) →
        IsBeginning longest_message (stream_parts k.past.history s)
        (response_of (items_on place s gs))

-- of the connections from this place on
abbrev pub AreConnectionsRead : ℕ → ℕ → List GivenItems → List LoneConnection → Type 0
AreConnectionsRead window place gs [] = Unit {0}
AreConnectionsRead window place gs (k ∷ ks) =
    IsConnectionRead window place gs k × AreConnectionsRead window (suc place) gs ks
