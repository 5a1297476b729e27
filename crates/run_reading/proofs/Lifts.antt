-- Each step of an instance makes changes of its connections.
use Rattle.std.proofs.Common.{◌≡◌, ℕ, List, [], ◌∷◌, refl, sym, ap, subst}
use Rattle.std.specs.Prelude.{true, false, drop, length, zero, suc, Option, Some, None, Result, Ok, Err}
use Rattle.std.specs.List.{AllByRecursion}
use Rattle.std.specs.Option.{option_map_or}
use Rattle.conn_core.specs.ReaderConstants.{CLIENT_PREFACE}
use Rattle.conn_core.specs.ErrorCode.{ErrorCode}
use Rattle.conn_core.specs.FrameError.{FrameError}
use Rattle.conn_core.specs.RawFrame.{RawFrame}
use Rattle.conn_core.specs.Reading.{split}
use Rattle.conn_core.specs.Rules.{reading_fault}
use Rattle.grpc_sending.specs.Owed.{Item}
use Rattle.conn_core.specs.declared.event.CallEvent.{CallEvent}
use Rattle.conn_core.specs.Received.{received_raw_frames}
use Rattle.conn_core.specs.Calls.{cancels}
use Rattle.conn_core.specs.Past.{Past, new_past, with_frame, with_fault, with_item, with_taken, with_pumped, with_bytes}
use Rattle.instance_core.specs.Calls.{CallEventValue, start_jobs, end_late_jobs, end_job, tick as time_passes}
use Rattle.instance_core.specs.State.{LimitsValue}
use Rattle.instance_core.specs.Replies.{ReplyValue}
use Rattle.instance_core.specs.Answer.{answer, state_after}
use Rattle.server_events.specs.Events.{WhatValue, opened, received, took, closed, tick, ended}
use Rattle.served_instance.specs.Connections.{LoneConnection, is_open_at, open_at, at_open, with_closed, step_if_open, at_all_open}
use Rattle.served_instance.specs.Calls.{call_event_on, owed_items, with_items}
use Rattle.served_instance.specs.Lone.{LoneInstance, after_replies, after_call_event, after_call_events, due_at, without_due, after_due_on, after_frame_on, is_over, after_frames_on, after_fault_on, after_end_on, unread_frames, after_reading_on, after_bytes_on, effect_of, after_pump}
use Rattle.client_reading.specs.Changes.{IsReceivable, IsPast, BytesReceived, FrameRead, FaultMet, ItemGiven, BytesTaken, FramesPut, EventsGiven}
use Rattle.client_reading.proofs.Choices.{choose, all_append}
use Rattle.client_reading.proofs.Pasts.{first_past, next_past, frames_received}
use Rattle.run_reading.proofs.Connections.{ArePasts}
use Rattle.run_reading.proofs.Chosen.{limits_after}

abbrev MadeStays : ℕ → (Past → Past) → Type 0
MadeStays window step = (p : Past) → IsPast window p → IsPast window (step p)

abbrev pub AreMade : ℕ → List LoneConnection → Type 0
AreMade window ks = AllByRecursion (λ k. IsPast window k.past) ks

pub at_open_made : (window : ℕ) (c : ℕ) (step : Past → Past) (ks : List LoneConnection) → MadeStays window step → AreMade window ks →
    AreMade window (at_open c step ks)
at_open_made window c step [] f h = tt
at_open_made window c step (k ∷ ks) f h = choose (AreMade window) (is_open_at c k) (record k { past = step k.past } ∷ ks)
    (k ∷ at_open c step ks) (λ _. (f k.past h.0, h.1)) (λ _. (h.0, at_open_made window c step ks f h.1))

closed_made : (window : ℕ) (c : ℕ) (ks : List LoneConnection) → AreMade window ks → AreMade window (with_closed c ks)
closed_made window c [] h = tt
closed_made window c (k ∷ ks) h = choose (AreMade window) (is_open_at c k) (record k { is_open = false } ∷ ks) (k ∷ with_closed c ks)
    (λ _. h) (λ _. (h.0, closed_made window c ks h.1))

one_made : (window : ℕ) (k : LoneConnection) (step : Past → Past) → MadeStays window step → IsPast window k.past →
    IsPast window (step_if_open step k).past
one_made window k step f h = choose (λ (x : LoneConnection). IsPast window x.past) k.is_open (record k { past = step k.past }) k
    (λ _. f k.past h) (λ _. h)

all_open_made : (window : ℕ) (step : Past → Past) (ks : List LoneConnection) → MadeStays window step → AreMade window ks →
    AreMade window (at_all_open step ks)
all_open_made window step [] f h = tt
all_open_made window step (k ∷ ks) f h = (one_made window k step f h.0, all_open_made window step ks f h.1)

-- ---- calls

pub items_made : (window s : ℕ) (items : List Item) → MadeStays window (with_items s items)
items_made window s [] p h = h
items_made window s (item ∷ items) p h = items_made window s items (with_item p s item) (next_past window p (ItemGiven s item) tt h)

replied_made : (rs : List ReplyValue) (l : LoneInstance) → ArePasts l → ArePasts (after_replies rs l)
replied_made [] l h = h
replied_made (r ∷ rs) l h =
    replied_made rs (record l { connections = at_open r.call.connection (with_items r.call.stream (owed_items r.items)) l.connections })
    (at_open_made l.state.limits.window r.call.connection (with_items r.call.stream (owed_items r.items)) l.connections
    (items_made l.state.limits.window r.call.stream (owed_items r.items)) h)

pub happened_made : (event : CallEventValue) (l : LoneInstance) → ArePasts l → ArePasts (after_call_event event l)
happened_made event l h =
    replied_made (answer l.state event).replies (record l { state = state_after l.state event })
    (subst (λ (window : ℕ). AreMade window l.connections)
    (sym (ap (λ (limits : LimitsValue). limits.window) (limits_after l.state event))) h)

all_happened_made : (c : ℕ) (es : List CallEvent) (l : LoneInstance) → ArePasts l → ArePasts (after_call_events c es l)
all_happened_made c [] l h = h
all_happened_made c (e ∷ es) l h = all_happened_made c es (after_call_event (call_event_on c e) l) (happened_made (call_event_on c e) l h)

due_made : (c : ℕ) (l : LoneInstance) → ArePasts l → ArePasts (after_due_on c l)
due_made c l h = all_happened_made c (due_at c l) (record l { connections = at_open c without_due l.connections })
    (at_open_made l.state.limits.window c without_due l.connections (λ p is. next_past l.state.limits.window p (EventsGiven []) tt is) h)

-- ---- received bytes

pub frame_made : (c : ℕ) (f : RawFrame) (l : LoneInstance) → IsReceivable f → ArePasts l → ArePasts (after_frame_on c f l)
frame_made c f l is h = due_made c (record l { connections = at_open c (λ p. with_frame p f) l.connections })
    (at_open_made l.state.limits.window c (λ p. with_frame p f) l.connections
    (λ p k. next_past l.state.limits.window p (FrameRead f) is k) h)

frames_made : (c : ℕ) (fs : List RawFrame) (l : LoneInstance) → AllByRecursion IsReceivable fs → ArePasts l →
    ArePasts (after_frames_on c fs l)
frames_made c [] l all h = h
frames_made c (f ∷ fs) l all h = choose ArePasts (is_over c l) l (after_frames_on c fs (after_frame_on c f l)) (λ _. h)
    (λ _. frames_made c fs (after_frame_on c f l) all.1 (frame_made c f l all.0 h))

pub fault_made : (c : ℕ) (e : FrameError) (l : LoneInstance) (o : Option ErrorCode) → reading_fault e ≡ o → ArePasts l →
    ArePasts (after_fault_on c e l o)
fault_made c e l None is h = h
fault_made c e l (Some code) is h = due_made c (record l { connections = at_open c (λ p. with_fault p e code) l.connections })
    (at_open_made l.state.limits.window c (λ p. with_fault p e code) l.connections
    (λ p k. next_past l.state.limits.window p (FaultMet e code) is k) h)

end_made : (c : ℕ) (r : Result (List ℕ) FrameError) (l : LoneInstance) → ArePasts l → ArePasts (after_end_on c r l)
end_made c (Ok rest) l h = h
end_made c (Err e) l h = choose ArePasts (is_over c l) l (after_fault_on c e l (reading_fault e)) (λ _. h)
    (λ _. fault_made c e l (reading_fault e) refl h)

pub all_drop : (n : ℕ) (fs : List RawFrame) → AllByRecursion IsReceivable fs → AllByRecursion IsReceivable (drop n fs)
all_drop zero fs h = h
all_drop (suc n) [] h = tt
all_drop (suc n) (f ∷ fs) h = all_drop n fs h.1

read_made : (c : ℕ) (l : LoneInstance) (o : Option Past) → ArePasts l → ArePasts (after_reading_on c l o)
read_made c l None h = h
read_made c l (Some p) h =
    end_made c (split CLIENT_PREFACE.now p.text).end (after_frames_on c (unread_frames p) l)
    (frames_made c (unread_frames p) l (all_drop (length (received_raw_frames p.history)) (split CLIENT_PREFACE.now p.text).items
    (frames_received CLIENT_PREFACE.now p.text)) h)

came_made : (c : ℕ) (bytes : List ℕ) (l : LoneInstance) → ArePasts l → ArePasts (after_bytes_on c bytes l)
came_made c bytes l h =
    read_made c (record l { connections = at_open c (with_bytes bytes) l.connections })
    (open_at c (at_open c (with_bytes bytes) l.connections))
    (at_open_made l.state.limits.window c (with_bytes bytes) l.connections
    (λ p k. next_past l.state.limits.window p (BytesReceived bytes) tt k) h)

-- ---- events

pub acted_made : (w : WhatValue) (l : LoneInstance) → ArePasts l → ArePasts (effect_of w l)
acted_made (opened c) l h = all_append (λ (k : LoneConnection). IsPast l.state.limits.window k.past) l.connections
    (record { number = c; past = new_past l.state.limits.window; is_open = true } ∷ []) h (first_past l.state.limits.window, tt)
acted_made (received c bytes) l h = happened_made start_jobs (after_bytes_on c bytes l) (came_made c bytes l h)
acted_made (took c n) l h = at_open_made l.state.limits.window c (λ p. with_taken p n) l.connections
    (λ p k. next_past l.state.limits.window p (BytesTaken n) tt k) h
acted_made (closed c) l h = all_happened_made c (option_map_or (λ (p : Past). cancels p.history) (open_at c l.connections) [])
    (record l { connections = with_closed c l.connections }) (closed_made l.state.limits.window c l.connections h)
acted_made tick l h = happened_made end_late_jobs (after_call_event time_passes l) (happened_made time_passes l h)
acted_made (ended job outcome) l h = happened_made (end_job job outcome) l h

pub pumped_made : (l : LoneInstance) → ArePasts l → ArePasts (after_pump l)
pumped_made l h = all_open_made l.state.limits.window with_pumped l.connections (λ p k. next_past l.state.limits.window p FramesPut tt k) h

pub bytes_made : (c : ℕ) (bytes : List ℕ) (l : LoneInstance) → ArePasts l →
    AreMade l.state.limits.window (at_open c (with_bytes bytes) l.connections)
bytes_made c bytes l h = at_open_made l.state.limits.window c (with_bytes bytes) l.connections
    (λ p k. next_past l.state.limits.window p (BytesReceived bytes) tt k) h
