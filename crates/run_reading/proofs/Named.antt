-- Each answer of a run is given within the instance's limits, so that it is short, and what it
-- serves is named.
use Rattle.std.proofs.Common.{ℕ, ◌<◌, ◌^◌, List, [], ◌∷◌, sym, subst, length}
use Rattle.std.specs.Prelude.{map, Option, Some, None}
use Rattle.std.specs.List.{AllByRecursion, flat_map}
use Rattle.instance_core.specs.Digest.{Digest}
use Rattle.instance_core.specs.Naming.{Names}
use Rattle.grpc_sending.specs.Owed.{Item, Headed, Message, Range}
use Rattle.instance_core.specs.declared.event.CallId.{CallId}
use Rattle.instance_core.specs.Replies.{ReplyItemValue, begins, says, gives, ends, refuses, ReplyValue}
use Rattle.instance_core.specs.Answer.{answer, state_after}
use Rattle.instance_core.specs.Calls.{CallEventValue, tick, IsShortEvent}
use Rattle.instance_core.specs.State.{InstanceState, IsInstanceWithin, at_moment, seeing}
use Rattle.served_instance.specs.Lone.{state_at_event}
use Rattle.served_instance.specs.Calls.{item_of, owed_items}
use Rattle.served_instance.proofs.LimitsKept.{AreNamed, moment_within, seeing_within}
use Rattle.client_reading.proofs.Choices.{all_append}
use Rattle.instance_core.proofs.EventLimits.{after_keeps}
use Rattle.run_reading.specs.Replies.{GivenItems, items_of_reply, items_at_place, given_items_from}
use Rattle.run_reading.specs.Happenings.{Happening, MomentCame, EventOver, TimePassed, RequestAnswered, CallEventCame, JobsTurned}
use Rattle.instance_core.specs.NamedReplies.{AnsweredEvent, Request, request_at, IsNamedItem, ServesNamed}
use Rattle.instance_core.proofs.NamedReplies.{AreNamedItems, AreNamedReplies, serves_named}
use Rattle.run_reading.specs.Named.{answered_events, IsNamedGift, GivesNamed}

-- ---- all answers

-- what a request is answered at once is no range, and a message's length can be written in front of
-- it; and a parent's texts are what their digests say
abbrev pub IsShortItem : Item → Type 0
IsShortItem (Headed block) = Unit {0}
IsShortItem (Message bytes) = length bytes < 2 ^ 32
IsShortItem (Range digest text from count) = ⊥

abbrev pub IsShortHappening : Happening → Type 0
IsShortHappening (MomentCame parent moment) = AreNamed parent
IsShortHappening EventOver = Unit {0}
IsShortHappening TimePassed = Unit {0}
IsShortHappening (RequestAnswered place stream item) = IsShortItem item
IsShortHappening (CallEventCame place event) = IsShortEvent event
IsShortHappening (JobsTurned places event) = IsShortEvent event

-- what holds of each answer that is given within the limits, holds of all
pub each_answer : (P : AnsweredEvent → Type 0) (s : InstanceState) (hs : List Happening) →
    ((t : InstanceState) (event : CallEventValue) → IsInstanceWithin t → P (record { state = t; event = event })) →
    AllByRecursion IsShortHappening hs → IsInstanceWithin s → AllByRecursion P (answered_events s hs)
each_answer P s [] good short w = tt
each_answer P s (MomentCame parent moment ∷ hs) good short w =
    each_answer P (state_at_event moment parent s) hs good short.1
    (seeing_within parent (at_moment moment s) short.0 (moment_within moment s w))
each_answer P s (EventOver ∷ hs) good short w = each_answer P (seeing [] s) hs good short.1 (seeing_within [] s tt w)
each_answer P s (TimePassed ∷ hs) good short w = each_answer P (state_after s tick) hs good short.1 (after_keeps s tick tt w)
each_answer P s (RequestAnswered place stream item ∷ hs) good short w = each_answer P s hs good short.1 w
each_answer P s (CallEventCame place event ∷ hs) good short w =
    (good s event w, each_answer P (state_after s event) hs good short.1 (after_keeps s event short.0 w))
each_answer P s (JobsTurned places event ∷ hs) good short w =
    (good s event w, each_answer P (state_after s event) hs good short.1 (after_keeps s event short.0 w))

pub all_named : (s : InstanceState) (hs : List Happening) → AllByRecursion IsShortHappening hs → IsInstanceWithin s →
    AllByRecursion ServesNamed (answered_events s hs)
all_named s hs short w = each_answer ServesNamed s hs serves_named short w

-- ---- all that is given

-- each item that a reply owes is so
abbrev pub HasItems : (Item → Type 0) → ReplyValue → Type 0
HasItems P r = AllByRecursion P (owed_items r.items)

abbrev AreItems : (Item → Type 0) → List GivenItems → Type 0
AreItems P gs = AllByRecursion (λ (g : GivenItems). AllByRecursion P g.items) gs

each_at : (P : Item → Type 0) (place : ℕ) (rs : List ReplyValue) → AllByRecursion (HasItems P) rs →
    AreItems P (map (items_of_reply place) rs)
each_at P place [] h = tt
each_at P place (r ∷ rs) h = (h.0, each_at P place rs h.1)

one_at : (P : Item → Type 0) (place : Option ℕ) (r : ReplyValue) → HasItems P r → AreItems P (items_at_place place r)
one_at P None r h = tt
one_at P (Some place) r h = (h, tt)

each_turned : (P : Item → Type 0) (places : CallId → Option ℕ) (rs : List ReplyValue) → AllByRecursion (HasItems P) rs →
    AreItems P (flat_map (λ (r : ReplyValue). items_at_place (places r.call) r) rs)
each_turned P places [] h = tt
each_turned P places (r ∷ rs) h =
    all_append (λ (g : GivenItems). AllByRecursion P g.items) (items_at_place (places r.call) r)
    (flat_map (λ (r : ReplyValue). items_at_place (places r.call) r) rs)
    (one_at P (places r.call) r h.0) (each_turned P places rs h.1)

item_gift : (s : InstanceState) (event : CallEventValue) (request : Option Request) (item : ReplyItemValue) →
    IsNamedItem s event request item → IsNamedGift (item_of item)
item_gift s event (Some request) (gives given) h = subst (λ (d : Digest). Names d given.text) (sym h.1.same_digest) h.1.named
item_gift s event None (gives given) h = absurd h
item_gift s event request begins h = tt
item_gift s event request (says bytes) h = tt
item_gift s event request ends h = tt
item_gift s event request (refuses refusal) h = tt

items_gifts : (s : InstanceState) (event : CallEventValue) (request : Option Request) (items : List ReplyItemValue) →
    AreNamedItems s event request items → AllByRecursion IsNamedGift (owed_items items)
items_gifts s event request [] h = tt
items_gifts s event request (item ∷ items) h = (item_gift s event request item h.0, items_gifts s event request items h.1)

replies_gifts : (s : InstanceState) (event : CallEventValue) (request : Option Request) (replies : List ReplyValue) →
    AreNamedReplies s event request replies → AllByRecursion (HasItems IsNamedGift) replies
replies_gifts s event request [] h = tt
replies_gifts s event request (r ∷ rs) h = (items_gifts s event request r.items h.0, replies_gifts s event request rs h.1)

request_gift : (item : Item) → IsShortItem item → IsNamedGift item
request_gift (Headed block) h = tt
request_gift (Message bytes) h = tt
request_gift (Range digest text from count) h = absurd h

-- what holds of each item that is given within the limits, holds of all
pub all_given : (P : Item → Type 0) → ((item : Item) → IsShortItem item → P item)
    → ((t : InstanceState) (event : CallEventValue) → IsShortEvent event → IsInstanceWithin t →
    AllByRecursion (HasItems P) (answer t event).replies)
    → (s : InstanceState) (hs : List Happening) → AllByRecursion IsShortHappening hs → IsInstanceWithin s →
    AreItems P (given_items_from s hs)
all_given P one replies s [] short w = tt
all_given P one replies s (MomentCame parent moment ∷ hs) short w =
    all_given P one replies (state_at_event moment parent s) hs short.1
    (seeing_within parent (at_moment moment s) short.0 (moment_within moment s w))
all_given P one replies s (EventOver ∷ hs) short w = all_given P one replies (seeing [] s) hs short.1 (seeing_within [] s tt w)
all_given P one replies s (TimePassed ∷ hs) short w = all_given P one replies (state_after s tick) hs short.1 (after_keeps s tick tt w)
all_given P one replies s (RequestAnswered place stream item ∷ hs) short w =
    ((one item short.0, tt), all_given P one replies s hs short.1 w)
all_given P one replies s (CallEventCame place event ∷ hs) short w =
    all_append (λ (g : GivenItems). AllByRecursion P g.items) (map (items_of_reply place) (answer s event).replies)
    (given_items_from (state_after s event) hs)
    (each_at P place (answer s event).replies (replies s event short.0 w))
    (all_given P one replies (state_after s event) hs short.1 (after_keeps s event short.0 w))
all_given P one replies s (JobsTurned places event ∷ hs) short w =
    all_append (λ (g : GivenItems). AllByRecursion P g.items)
    (flat_map (λ (r : ReplyValue). items_at_place (places r.call) r) (answer s event).replies)
    (given_items_from (state_after s event) hs)
    (each_turned P places (answer s event).replies (replies s event short.0 w))
    (all_given P one replies (state_after s event) hs short.1 (after_keeps s event short.0 w))

pub all_gifts : (s : InstanceState) (hs : List Happening) → AllByRecursion IsShortHappening hs → IsInstanceWithin s →
    AllByRecursion GivesNamed (given_items_from s hs)
all_gifts s hs short w = all_given IsNamedGift request_gift
    (λ t event e v. replies_gifts t event (request_at t event) (answer t event).replies (serves_named t event v)) s hs short w
