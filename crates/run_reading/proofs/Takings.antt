-- Nobody takes more of a connection of a run than was put on it, so that its pump leaves nothing
-- that could be put.
use Rattle.std.proofs.Common.{◌≡◌, ℕ, ◌+◌, ◌≤◌, List, [], ◌∷◌, ◌++◌, ap, ◌∙◌, sym, subst, append_assoc, arith, length, length-drop, refl, inl, inr}
use Rattle.std.specs.Prelude.{Bool, true, false, cond, nat_lt, map, fold, sum_by, zero, suc, Option, Some, None, Result, Ok, Err}
use Rattle.std.specs.List.{AllByRecursion, flat_map}
use Rattle.std.specs.Option.{option_map_or}
use Rattle.std.proofs.lemmas.Bool.{cases_Bool, ltb-false}
use Rattle.std.proofs.lemmas.List.Elements.{filter_map-append}
use Rattle.std.proofs.lemmas.List.Sums.{sum_by-append, fold-append}
use Rattle.conn_core.specs.ReaderConstants.{CLIENT_PREFACE}
use Rattle.conn_core.specs.ErrorCode.{ErrorCode}
use Rattle.conn_core.specs.Frame.{Frame}
use Rattle.conn_core.specs.FrameError.{FrameError}
use Rattle.conn_core.specs.RawFrame.{RawFrame}
use Rattle.conn_core.specs.Reading.{split}
use Rattle.conn_core.specs.Rules.{reading_fault}
use Rattle.conn_core.specs.Writing.{text_of}
use Rattle.conn_core.specs.History.{Entry, In, Out, Took, Unreadable, frame_out, sent_frames, has_failed, highest_stream}
use Rattle.grpc_sending.specs.Bytes.{bytes_put, count_taken, count_taken_by, untaken_count}
use Rattle.grpc_sending.specs.Owed.{OwedItem, Item}
use Rattle.grpc_sending.specs.Pump.{next_frames, history_after_puts, history_after_pump}
use Rattle.grpc_sending.proofs.Histories.{append-nil, taken_within}
use Rattle.grpc_sending.proofs.Settles.{pump_settles as the_pump_settles}
use Rattle.conn_core.specs.declared.event.CallEvent.{CallEvent}
use Rattle.conn_core.specs.Calls.{cancels}
use Rattle.conn_core.specs.Received.{outcome, fault_frames}
use Rattle.conn_core.proofs.Greeting.{nothing_taken}
use Rattle.conn_core.specs.Past.{Past, new_past, greeting, with_frame, with_fault, with_item, with_taken, with_pumped, with_bytes}
use Rattle.instance_core.specs.Calls.{CallEventValue, tick as time_passes, start_jobs, end_late_jobs, end_job}
use Rattle.instance_core.specs.Replies.{ReplyValue}
use Rattle.instance_core.specs.Answer.{answer, state_after}
use Rattle.server_events.specs.Events.{LoneEvent, WhatValue, opened, received, took, closed, tick, ended}
use Rattle.served_instance.specs.declared.refusal.EventRefusal.{EventRefusal}
use Rattle.served_instance.specs.declared.refusal.EventRefusal.TheVariants.{TimeWentBack, NoSuchConnection, TookTooMuch}
use Rattle.served_instance.specs.Connections.{LoneConnection, is_open, is_open_at, open_ones, open_at, at_open, with_closed, at_all_open}
use Rattle.served_instance.specs.Calls.{call_event_on, owed_items, with_items}
use Rattle.served_instance.specs.Lone.{LoneInstance, after_replies, after_call_event, after_call_events, due_at, without_due, after_due_on, after_frame_on, is_over, after_frames_on, after_fault_on, after_end_on, unread_frames, after_reading_on, after_bytes_on, effect_of, lone_at_moment}
use Rattle.served_instance.specs.Refusals.{refusal_of, refusal_of_what, after_event_unless}
use Rattle.served_instance.specs.StandsFor.{IsSettledConnection, AreSettled}
use Rattle.served_instance.proofs.Opens.{stepped_by, at_all_open_is}
use Rattle.instance_core.specs.Visible.{Blob}
use Rattle.server_core.specs.Families.{Family, FamilyEvent, own_event, parent_event}
use Rattle.server_core.specs.Runs.{FamilyRun, new_family_run, texts_of_parent, family_step, run_of_family}
use Rattle.client_reading.proofs.Choices.{choose, all_append, all_filter}

-- ---- one history

abbrev IsWithin : List Entry → Type 0
IsWithin d = count_taken d ≤ length (bytes_put d)

-- an entry that takes nothing, and puts nothing
heard : (d : List Entry) (e : Entry) → count_taken_by e ≡ 0 → sent_frames (e ∷ []) ≡ [] → IsWithin d → IsWithin (d ++ e ∷ [])
heard d e none quiet h =
    let same : sent_frames (d ++ e ∷ []) ≡ sent_frames d =
    filter_map-append frame_out d (e ∷ []) ∙ ap (λ (fs : List Frame). sent_frames d ++ fs) quiet ∙ append-nil (sent_frames d) in
    let one : sum_by count_taken_by (e ∷ []) ≡ 0 = ap (λ n. 0 + n) none in
    omega (arith, h, sum_by-append count_taken_by d (e ∷ []), one, ap (λ (fs : List Frame). length (flat_map text_of fs)) same)

-- .. and then frames were put
heard_and_put : (d : List Entry) (e : Entry) (fs : List Frame) → count_taken_by e ≡ 0 → sent_frames (e ∷ []) ≡ [] → IsWithin d →
    IsWithin (d ++ e ∷ map Out fs)
heard_and_put d e fs none quiet h =
    subst IsWithin (append_assoc d (e ∷ []) (map Out fs)) (taken_within (d ++ e ∷ []) fs (heard d e none quiet h))

-- no more were taken than there were
took_some : (d : List Entry) (n : ℕ) → n ≤ untaken_count d → IsWithin d → IsWithin (d ++ Took n ∷ [])
took_some d n few h =
    let same : sent_frames (d ++ Took n ∷ []) ≡ sent_frames d = filter_map-append frame_out d (Took n ∷ []) ∙ append-nil (sent_frames d) in
    let one : sum_by count_taken_by (Took n ∷ []) ≡ 0 + n = refl in
    omega (
      arith,
      h,
      few,
      length-drop (count_taken d) (bytes_put d),
      sum_by-append count_taken_by d (Took n ∷ []),
      one,
      ap
          (λ (fs : List Frame). length (flat_map text_of fs)) same,
    )

put_some : (k : ℕ) (d : List Entry) (os : List OwedItem) → IsWithin d → IsWithin (history_after_puts k d os)
put_some zero d os h = h
put_some (suc k) d os h = go (next_frames d os) (λ fs. put_some k (d ++ map Out fs) os (taken_within d fs h)) where
  go : (o : Option (List Frame)) → ((fs : List Frame) → IsWithin (history_after_puts k (d ++ map Out fs) os)) →
      IsWithin (option_map_or (λ fs. history_after_puts k (d ++ map Out fs) os) o d)
  go None later = h
  go (Some fs) later = later fs

pumped : (d : List Entry) (os : List OwedItem) → IsWithin d → IsWithin (history_after_pump d os)
pumped d os h = put_some _ d os h

-- ---- connections

abbrev HasRest : Past → Type 0
HasRest p = IsWithin p.history

abbrev Keeps : (Past → Past) → Type 0
Keeps step = (p : Past) → HasRest p → HasRest (step p)

abbrev HaveRest : List LoneConnection → Type 0
HaveRest ks = AllByRecursion (λ (k : LoneConnection). HasRest k.past) ks

at_open_rest : (c : ℕ) (step : Past → Past) (ks : List LoneConnection) → Keeps step → HaveRest ks → HaveRest (at_open c step ks)
at_open_rest c step [] f h = tt
at_open_rest c step (k ∷ ks) f h = choose HaveRest (is_open_at c k) (record k { past = step k.past } ∷ ks) (k ∷ at_open c step ks)
    (λ _. (f k.past h.0, h.1)) (λ _. (h.0, at_open_rest c step ks f h.1))

closed_rest : (c : ℕ) (ks : List LoneConnection) → HaveRest ks → HaveRest (with_closed c ks)
closed_rest c [] h = tt
closed_rest c (k ∷ ks) h = choose HaveRest (is_open_at c k) (record k { is_open = false } ∷ ks) (k ∷ with_closed c ks) (λ _. h)
    (λ _. (h.0, closed_rest c ks h.1))

all_open_rest : (step : Past → Past) (ks : List LoneConnection) → Keeps step → HaveRest ks → HaveRest (at_all_open step ks)
all_open_rest step [] f h = tt
all_open_rest step (k ∷ ks) f h = (
  choose (λ (x : LoneConnection). HasRest x.past) k.is_open (record k { past = step k.past }) k (λ _. f k.past h.0)
      (λ _. h.0),
  all_open_rest step ks f h.1,
)

-- ---- calls

items_rest : (s : ℕ) (items : List Item) → Keeps (with_items s items)
items_rest s [] p h = h
items_rest s (item ∷ items) p h = items_rest s items (with_item p s item) h

replied_rest : (rs : List ReplyValue) (l : LoneInstance) → HaveRest l.connections → HaveRest (after_replies rs l).connections
replied_rest [] l h = h
replied_rest (r ∷ rs) l h =
    replied_rest rs (record l { connections = at_open r.call.connection (with_items r.call.stream (owed_items r.items)) l.connections })
    (at_open_rest r.call.connection (with_items r.call.stream (owed_items r.items)) l.connections
    (items_rest r.call.stream (owed_items r.items)) h)

happened_rest : (event : CallEventValue) (l : LoneInstance) → HaveRest l.connections → HaveRest (after_call_event event l).connections
happened_rest event l h = replied_rest (answer l.state event).replies (record l { state = state_after l.state event }) h

all_happened_rest : (c : ℕ) (es : List CallEvent) (l : LoneInstance) → HaveRest l.connections →
    HaveRest (after_call_events c es l).connections
all_happened_rest c [] l h = h
all_happened_rest c (e ∷ es) l h = all_happened_rest c es (after_call_event (call_event_on c e) l) (happened_rest (call_event_on c e) l h)

due_rest : (c : ℕ) (l : LoneInstance) → HaveRest l.connections → HaveRest (after_due_on c l).connections
due_rest c l h = all_happened_rest c (due_at c l) (record l { connections = at_open c without_due l.connections })
    (at_open_rest c without_due l.connections (λ p is. is) h)

-- ---- received bytes

frame_rest : (c : ℕ) (f : RawFrame) (l : LoneInstance) → HaveRest l.connections → HaveRest (after_frame_on c f l).connections
frame_rest c f l h =
    due_rest c (record l { connections = at_open c (λ p. with_frame p f) l.connections })
    (at_open_rest c (λ p. with_frame p f) l.connections (λ p is. heard_and_put p.history (In f) (outcome p.history f).put refl refl is) h)

frames_rest : (c : ℕ) (fs : List RawFrame) (l : LoneInstance) → HaveRest l.connections → HaveRest (after_frames_on c fs l).connections
frames_rest c [] l h = h
frames_rest c (f ∷ fs) l h = choose (λ (x : LoneInstance). HaveRest x.connections) (is_over c l) l
    (after_frames_on c fs (after_frame_on c f l)) (λ _. h) (λ _. frames_rest c fs (after_frame_on c f l) (frame_rest c f l h))

fault_rest : (c : ℕ) (e : FrameError) (l : LoneInstance) (o : Option ErrorCode) → HaveRest l.connections →
    HaveRest (after_fault_on c e l o).connections
fault_rest c e l None h = h
fault_rest c e l (Some code) h =
    due_rest c (record l { connections = at_open c (λ p. with_fault p e code) l.connections })
    (at_open_rest c (λ p. with_fault p e code) l.connections
    (λ p is. heard_and_put p.history (Unreadable e) (fault_frames (has_failed p.history) (highest_stream p.history) code) refl refl is)
    h)

end_rest : (c : ℕ) (r : Result (List ℕ) FrameError) (l : LoneInstance) → HaveRest l.connections → HaveRest (after_end_on c r l).connections
end_rest c (Ok rest) l h = h
end_rest c (Err e) l h = choose (λ (x : LoneInstance). HaveRest x.connections) (is_over c l) l (after_fault_on c e l (reading_fault e))
    (λ _. h) (λ _. fault_rest c e l (reading_fault e) h)

read_rest : (c : ℕ) (l : LoneInstance) (o : Option Past) → HaveRest l.connections → HaveRest (after_reading_on c l o).connections
read_rest c l None h = h
read_rest c l (Some p) h = end_rest c (split CLIENT_PREFACE.now p.text).end (after_frames_on c (unread_frames p) l)
    (frames_rest c (unread_frames p) l h)

came_rest : (c : ℕ) (bytes : List ℕ) (l : LoneInstance) → HaveRest l.connections → HaveRest (after_bytes_on c bytes l).connections
came_rest c bytes l h =
    read_rest c (record l { connections = at_open c (with_bytes bytes) l.connections })
    (open_at c (at_open c (with_bytes bytes) l.connections))
    (at_open_rest c (with_bytes bytes) l.connections (λ p is. is) h)

-- ---- bytes that were taken

abbrev taken_refusal : ℕ → Past → Option EventRefusal
taken_refusal n p = cond (nat_lt (untaken_count p.history) n) (Some TookTooMuch) None

few_taken : (n m : ℕ) → cond {A = Option EventRefusal} (nat_lt m n) (Some TookTooMuch) None ≡ None → n ≤ m
few_taken n m is = elim (cases_Bool (nat_lt m n)) [
  | inl more ↦ let no : Some TookTooMuch ≡ None = sym (ap (λ b. cond {A = Option EventRefusal} b (Some TookTooMuch) None) more) ∙ is in cc
  | inr less ↦ let f = ltb-false m n less in omega (arith, f)
]

took_rest : (c n : ℕ) (ks : List LoneConnection) → option_map_or (taken_refusal n) (open_at c ks) (Some NoSuchConnection) ≡ None →
    HaveRest ks → HaveRest (at_open c (λ p. with_taken p n) ks)
took_rest c n [] is h = tt
took_rest c n (k ∷ ks) is h = go (is_open_at c k) is (λ later. took_rest c n ks later h.1) where
  go : (b : Bool) → option_map_or (taken_refusal n) (cond b (Some k.past) (open_at c ks)) (Some NoSuchConnection) ≡ None
      → (option_map_or (taken_refusal n) (open_at c ks) (Some NoSuchConnection) ≡ None → HaveRest (at_open c (λ p. with_taken p n) ks))
      → HaveRest (cond b (record k { past = with_taken k.past n } ∷ ks) (k ∷ at_open c (λ p. with_taken p n) ks))
  go true is later = (took_some k.past.history n (few_taken n (untaken_count k.past.history) is) h.0, h.1)
  go false is later = (h.0, later is)

-- ---- events

-- of entries nothing is taken
untouched : (d : List Entry) → count_taken d ≡ 0 → IsWithin d
untouched d none = omega (arith, none)

start_rest : (window : ℕ) → HasRest (new_past window)
start_rest window = untouched (greeting window) (nothing_taken window)

acted_rest : (w : WhatValue) (l : LoneInstance) → refusal_of_what w l ≡ None → HaveRest l.connections → HaveRest (effect_of w l).connections
acted_rest (opened c) l is h = all_append (λ (k : LoneConnection). HasRest k.past) l.connections
    (record { number = c; past = new_past l.state.limits.window; is_open = true } ∷ []) h (start_rest l.state.limits.window, tt)
acted_rest (received c bytes) l is h = happened_rest start_jobs (after_bytes_on c bytes l) (came_rest c bytes l h)
acted_rest (took c n) l is h = took_rest c n l.connections is h
acted_rest (closed c) l is h = all_happened_rest c (option_map_or (λ (p : Past). cancels p.history) (open_at c l.connections) [])
    (record l { connections = with_closed c l.connections }) (closed_rest c l.connections h)
acted_rest tick l is h = happened_rest end_late_jobs (after_call_event time_passes l) h
acted_rest (ended job outcome) l is h = happened_rest (end_job job outcome) l h

none_of_what : (b : Bool) (o : Option EventRefusal) → cond b (Some TimeWentBack) o ≡ None → o ≡ None
none_of_what true o is = cc
none_of_what false o is = is

what_accepted : (parent : List Blob) (e : LoneEvent) (l : LoneInstance) → refusal_of e l ≡ None →
    refusal_of_what e.what (lone_at_moment e.moment parent l) ≡ None
what_accepted parent e l is = same e.what (none_of_what (nat_lt e.moment l.state.moment) (refusal_of_what e.what l) is) where
  same : (w : WhatValue) → refusal_of_what w l ≡ None → refusal_of_what w (lone_at_moment e.moment parent l) ≡ None
  same (opened c) is = is
  same (received c bytes) is = is
  same (took c n) is = is
  same (closed c) is = is
  same tick is = is
  same (ended job outcome) is = is

-- what was done at an accepted event, before its pump
before_pump : (parent : List Blob) (e : LoneEvent) (l : LoneInstance) → refusal_of e l ≡ None → HaveRest l.connections →
    HaveRest (effect_of e.what (lone_at_moment e.moment parent l)).connections
before_pump parent e l is h = acted_rest e.what (lone_at_moment e.moment parent l) (what_accepted parent e l is) h

stepped_rest : (parent : List Blob) (e : LoneEvent) (l : LoneInstance) (o : Option EventRefusal) → refusal_of e l ≡ o →
    HaveRest l.connections → HaveRest (after_event_unless parent e l o).connections
stepped_rest parent e l (Some refusal) is h = h
stepped_rest parent e l None is h = all_open_rest with_pumped (effect_of e.what (lone_at_moment e.moment parent l)).connections
    (λ p k. pumped p.history p.owed k) (before_pump parent e l is h)

family_rest : (es : List FamilyEvent) (f : FamilyRun) → HaveRest f.own.lone.connections →
    HaveRest (fold family_step f es).own.lone.connections
family_rest [] f h = h
family_rest (own_event e ∷ es) f h = family_rest es (family_step f (own_event e))
    (stepped_rest (texts_of_parent f.parent) e f.own.lone (refusal_of e f.own.lone) refl h)
family_rest (parent_event e ∷ es) f h = family_rest es (family_step f (parent_event e)) h

-- ---- settled

settled_each : (ks : List LoneConnection) → HaveRest ks → AllByRecursion IsSettledConnection (map (stepped_by with_pumped) ks)
settled_each [] h = tt
settled_each (k ∷ ks) h = (the_pump_settles k.past.history k.past.owed h.0, settled_each ks h.1)

stepped_settled : (parent : List Blob) (e : LoneEvent) (l : LoneInstance) (o : Option EventRefusal) → refusal_of e l ≡ o → o ≡ None →
    HaveRest l.connections → AreSettled (after_event_unless parent e l o)
stepped_settled parent e l (Some refusal) is none h = cc
stepped_settled parent e l None is none h =
    let ks = (effect_of e.what (lone_at_moment e.moment parent l)).connections in
    let P : List LoneConnection → Type 0 = λ xs. AllByRecursion IsSettledConnection xs in
    subst P (sym (at_all_open_is with_pumped ks))
    (settled_each (open_ones ks) (all_filter (λ (k : LoneConnection). HasRest k.past) is_open ks (before_pump parent e l is h)))

pub family_settled : (family : Family) (events : List FamilyEvent) (e : LoneEvent) →
    refusal_of e (run_of_family family events).own.lone ≡ None → AreSettled (run_of_family family (events ++ own_event e ∷ [])).own.lone
family_settled family events e is =
    let f : FamilyRun = run_of_family family events in
    let more : run_of_family family (events ++ own_event e ∷ []) ≡ family_step f (own_event e) =
    fold-append family_step (new_family_run family) events (own_event e ∷ []) in
    subst (λ (x : FamilyRun). AreSettled x.own.lone) (sym more)
    (stepped_settled (texts_of_parent f.parent) e f.own.lone (refusal_of e f.own.lone) refl is
    (family_rest events (new_family_run family) tt))
