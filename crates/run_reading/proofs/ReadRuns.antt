-- What a stream that asks for a blob is owed in a run.
use Rattle.std.proofs.Common.{◌≡◌, ℕ, ◌-◌, List, [], ◌∷◌, ◌++◌, refl, ap, ◌∙◌, sym, subst, length, arith, take, drop, inl, inr}
use Rattle.std.specs.Prelude.{Bool, true, false, cond, ◌==◌, ◌⊎◌, nat_lt, suc, map, fold, Option, Some, None, Result, Ok, Err}
use Rattle.std.specs.List.{AllByRecursion}
use Rattle.std.specs.Option.{option_map_or}
use Rattle.std.proofs.lemmas.Bool.{cases_Bool, eqb-true}
use Rattle.std.proofs.lemmas.Bool.Decides.{nat_tests}
use Rattle.grpc_sending.specs.Owed.{Item, items_owed_on}
use Rattle.conn_core.specs.ReaderConstants.{CLIENT_PREFACE}
use Rattle.conn_core.specs.ErrorCode.{ErrorCode}
use Rattle.conn_core.specs.Event.{Event}
use Rattle.conn_core.specs.FrameError.{FrameError}
use Rattle.conn_core.specs.RawFrame.{RawFrame}
use Rattle.conn_core.specs.Reading.{split}
use Rattle.conn_core.specs.History.{Entry, Took, has_failed, highest_stream}
use Rattle.conn_core.specs.Rules.{reading_fault}
use Rattle.conn_core.specs.declared.event.CallEvent.{CallEvent}
use Rattle.conn_core.specs.Calls.{events, cancels, call_events_of, items_at_once}
use Rattle.conn_core.specs.Received.{outcome, frame_entries, fault_frames, received_raw_frames}
use Rattle.conn_core.proofs.Greeting.{greeted}
use Rattle.conn_core.specs.Past.{Past, new_past, greeting, with_frame, with_fault, with_taken, with_pumped, with_bytes}
use Rattle.conn_core.proofs.Events.{events_frame}
use Rattle.conn_core.proofs.Opened.{opened_still, idle}
use Rattle.bytestream.specs.Reading.{SourceValue}
use Rattle.instance_core.specs.Calls.{CallValue, tick as time_passes, start_jobs, end_late_jobs, end_job}
use Rattle.instance_core.specs.Method.TheVariants.{Read}
use Rattle.instance_core.specs.State.{InstanceState, at_moment}
use Rattle.instance_core.specs.Visible.{Blob}
use Rattle.instance_core.specs.Replies.{begins, gives, ends, range, items_of}
use Rattle.server_events.specs.Events.{LoneEvent, WhatValue, opened as opens, received, took, closed as closes, tick, ended}
use Rattle.served_instance.specs.declared.refusal.EventRefusal.{EventRefusal}
use Rattle.served_instance.specs.Connections.{LoneConnection, is_open_at, open_at, at_open, with_closed}
use Rattle.served_instance.specs.Calls.{call_event_on, item_of, owed_items}
use Rattle.served_instance.specs.Lone.{LoneInstance, after_call_event, after_call_events, due_at, without_due, after_due_on, after_frame_on, is_over, after_frames_on, after_fault_on, after_end_on, unread_frames, after_reading_on, after_bytes_on, after_opening, after_closing, effect_of, after_pump, lone_at_moment, lone_at_rest, after_event}
use Rattle.served_instance.specs.Narrow.{IsNarrow}
use Rattle.served_instance.specs.Refusals.{refusal_of, after_event_unless, lone_step}
use Rattle.served_instance.proofs.Brought.{IsShortCall, DueShort, frame_short, fault_short}
use Rattle.served_instance.proofs.LimitsKept.{AreDueShort, AreNamed, moment_within, seeing_within}
use Rattle.server_core.specs.Families.{Family, FamilyEvent, AreLimited, own_event, parent_event, event_in}
use Rattle.server_core.specs.Runs.{FamilyRun, new_family_run, texts_of_parent, family_step, run_of_family}
use Rattle.server_core.proofs.Limits.{FamilyKeeps, named_beside, new_family_keeps, step_keeps}
use Rattle.client_reading.specs.Answerable.{IsAnswerable}
use Rattle.client_reading.specs.Changes.{IsReceivable, IsPast}
use Rattle.client_reading.specs.Responses.{IsBeginning, WholeMessage, read_messages, response_of, stream_parts}
use Rattle.client_reading.proofs.Answerable.{calls_answerable, requests_answerable}
use Rattle.client_reading.proofs.Choices.{choose}
use Rattle.client_reading.proofs.Pasts.{frames_received}
use Rattle.run_reading.specs.Happenings.{Happening, MomentCame, EventOver, TimePassed, RequestAnswered, CallEventCame, JobsTurned, frame_happenings, fault_happenings, step_happenings}
use Rattle.run_reading.specs.ReadsBlob.{methods_on, IsResponseToRead, Unanswered, Refused, Given, ReadsBlobsAskedFor}
use Rattle.run_reading.specs.Replies.{GivenItems, state_after_happening, given_items_from, longest_message, AreConnectionsRead, IsConnectionRead, run_given_items}
use Rattle.run_reading.proofs.Lifts.{bytes_made, all_drop}
use Rattle.run_reading.proofs.Owes.{open_step, none_open, open_has}
use Rattle.run_reading.proofs.Calls.{owes_quiet, due_is}
use Rattle.run_reading.proofs.Happens.{Holds, Moves, Comes, quiet_due, frame_moves, fault_moves, goes_on, step_moves, first_holds}
use Rattle.run_reading.proofs.Runs.{replies_read}
use Rattle.run_reading.proofs.Looks.{Look, look_of, look_at, opened, closed, quiet_look, other_look, none_look, past_of, closed_look, other_closing, own_closing, no_closing, more_look, new_look, all_look, none_stepped, none_is_open, first_look}
use Rattle.run_reading.proofs.OneStream.{all_cancels_bring}
use Rattle.run_reading.proofs.ReadCalls.{IsGivenPart, IsAnswered, NotYet, Refuses, Gives, answered, same_name}
use Rattle.run_reading.proofs.ReadStreams.{messages_to, kept, calls_closed, IsAside, calls_elsewhere, IsFine, event_fine}
use Rattle.run_reading.proofs.ReadStands.{Live, Done, TracksBy, TracksLook, Tracks, same_tracks, tracks_by, by_tracks, IsSeen, seen, text_same, methods_same, live_same, took_same, pump_same, fault_same, IsTurn, start_turn, late_turn, end_turn, turn_tracks, Brought, brought_tracks, quiet_brought, Unknown, Shut, Alive}
use Rattle.run_reading.proofs.ReadFrames.{aside_at_once, all_unopened, no_heads_in, Heard, frame_read}

-- ---- steps of an instance

-- what holds of it besides
pub record IsSound (name : List ℕ) (l : LoneInstance) : Type 0 where
  pub fine : IsFine name l
  pub given : List GivenItems
  pub holds : Holds given l

-- limits, frame by frame
short_at : (c : ℕ) (step : Past → Past) → ((p : Past) → DueShort p → DueShort (step p)) → (ks : List LoneConnection) → AreDueShort ks →
    AreDueShort (at_open c step ks)
short_at c step keeps [] short = tt
short_at c step keeps (k ∷ ks) short = choose AreDueShort (is_open_at c k) (record k { past = step k.past } ∷ ks) (k ∷ at_open c step ks)
    (λ _. (keeps k.past short.0, short.1)) (λ _. (short.0, short_at c step keeps ks short.1))

short_due : (c : ℕ) (ks : List LoneConnection) → AreDueShort ks →
    AllByRecursion IsShortCall (option_map_or (λ (p : Past). p.due) (open_at c ks) [])
short_due c [] short = tt
short_due c (k ∷ ks) short = choose (λ (o : Option Past). AllByRecursion IsShortCall (option_map_or (λ (p : Past). p.due) o []))
    (is_open_at c k) (Some k.past) (open_at c ks) (λ _. short.0) (λ _. short_due c ks short.1)

calls_fine : (name : List ℕ) (c : ℕ) (es : List CallEvent) (l : LoneInstance) → AllByRecursion IsShortCall es → IsFine name l →
    IsFine name (after_call_events c es l)
calls_fine name c [] l short h = h
calls_fine name c (e ∷ es) l short h = calls_fine name c es (after_call_event (call_event_on c e) l) short.1
    (event_fine name c e l short.0 h)

step_fine : (name : List ℕ) (c : ℕ) (step : Past → Past) (l : LoneInstance) → ((p : Past) → DueShort p → DueShort (step p)) →
    IsFine name l → IsFine name (record l { connections = at_open c step l.connections })
step_fine name c step l keeps h = record {
  limits =
      record { within = h.limits.within; short = short_at c step keeps l.connections h.limits.short };
  own = h.own;
}

due_fine : (name : List ℕ) (c : ℕ) (l : LoneInstance) → IsFine name l → IsFine name (after_due_on c l)
due_fine name c l h = calls_fine name c (due_at c l) (record l { connections = at_open c without_due l.connections })
    (short_due c l.connections h.limits.short) (step_fine name c without_due l (λ p short. tt) h)

-- the due events of a connection that is open
due_step : (c : ℕ) (step : Past → Past) (l : LoneInstance) (p : Past) → open_at c l.connections ≡ Some p →
    due_at c (record l { connections = at_open c step l.connections }) ≡ (step p).due
due_step c step l p is = due_is c (record l { connections = at_open c step l.connections }) (step p) (open_step c step l.connections p is)

-- another connection
other_due : (name : List ℕ) (c s n : ℕ) (l : LoneInstance) (step : Past → Past) → (n == c) ≡ false →
    IsAside c s l (after_due_on n (record l { connections = at_open n step l.connections }))
other_due name c s n l step other =
    let m : LoneInstance = record l { connections = at_open n step l.connections } in
    let k : LoneInstance = record m { connections = at_open n without_due m.connections } in
    let a = calls_elsewhere c s n (due_at n m) k other in
    record { calls = a.calls; look = a.look ∙ other_look c n s without_due m.connections other ∙ other_look c n s step l.connections other }

-- one that is closed
closed_due_on : (c s : ℕ) (l : LoneInstance) (step : Past → Past) (x : Look) → x.lives ≡ false → look_at c s l.connections ≡ Some x →
    look_at c s (after_due_on c (record l { connections = at_open c step l.connections })).connections ≡ Some x
closed_due_on c s l step x shut is =
    let m : LoneInstance = record l { connections = at_open c step l.connections } in
    let k : LoneInstance = record m { connections = at_open c without_due m.connections } in
    calls_closed c s c (due_at c m) k x shut (closed_look c s without_due m.connections x shut
    (closed_look c s step l.connections x shut is))

-- one that never was
no_due : (c : ℕ) (l : LoneInstance) (step : Past → Past) → open_at c l.connections ≡ None →
    due_at c (record l { connections = at_open c step l.connections }) ≡ []
no_due c l step is = ap (λ (o : Option Past). option_map_or (λ (q : Past). q.due) o []) (none_open c step l.connections is)

unknown_due : (name : List ℕ) (c s : ℕ) (l : LoneInstance) (step : Past → Past) → look_at c s l.connections ≡ None → Tracks name c s l →
    Tracks name c s (after_due_on c (record l { connections = at_open c step l.connections }))
unknown_due name c s l step is h =
    let m : LoneInstance = record l { connections = at_open c step l.connections } in
    let k : LoneInstance = record m { connections = at_open c without_due m.connections } in
    let none : due_at c m ≡ [] = no_due c l step (none_is_open c s l.connections is) in
    let look : look_at c s k.connections ≡ None = none_look c c s without_due m.connections (none_look c c s step l.connections is) in
    let kept_none : kept c s l ≡ [] = by_tracks name c s l None is h in
    subst (λ (es : List CallEvent). Tracks name c s (after_call_events c es k)) (sym none) (tracks_by name c s k None look kept_none)

-- a frame
frame_tracks : (name : List ℕ) (c s n : ℕ) (f : RawFrame) (l : LoneInstance) (q : Past) → open_at n l.connections ≡ Some q →
    has_failed q.history ≡ false → IsSound name l → Tracks name c s l → Tracks name c s (after_frame_on n f l)
frame_tracks name c s n f l q at whole sound h = elim (cases_Bool (n == c)) [
  | inr other ↦ same_tracks name c s l (after_frame_on n f l) (other_due name c s n l (λ p. with_frame p f) other) h
  | inl same ↦ subst (λ (m : ℕ). Tracks name c s (after_frame_on m f l)) (sym (eqb-true n c same))
      (go (subst (λ (m : ℕ). open_at m l.connections ≡ Some q) (eqb-true n c same) at) (seen c s l))
] where
  step : Past → Past
  step p = with_frame p f

  go : open_at c l.connections ≡ Some q → IsSeen c s l → Tracks name c s (after_frame_on c f l)
  go on (Unknown is) = unknown_due name c s l step is h
  go on (Shut d items is) = tracks_by name c s (after_frame_on c f l) (Some (closed d items))
      (closed_due_on c s l step (closed d items) refl is) (by_tracks name c s l (Some (closed d items)) is h)
  go on (Alive d items is) =
      let m : LoneInstance = record l { connections = at_open c step l.connections } in
      let k : LoneInstance = record m { connections = at_open c without_due m.connections } in
      let p = past_of c s l.connections (opened d items) refl is in
      let e : List Entry = (with_frame p.past f).history in
      let v : Event = (outcome p.past.history f).event in
      let made : IsPast l.state.limits.window p.past =
      open_has (IsPast l.state.limits.window) c l.connections p.past p.lives sound.holds.pasts in
      let none_due : p.past.due ≡ [] = open_has (λ (r : Past). r.due ≡ []) c l.connections p.past p.lives sound.holds.due in
      let same : q ≡ p.past = cc in
      let whole' : has_failed p.past.history ≡ false = subst (λ (r : Past). has_failed r.history ≡ false) same whole in
      let es : List CallEvent = cond (outcome p.past.history f).fails (cancels p.past.history) (call_events_of p.past.history v) in
      let due : due_at c m ≡ es = due_step c step l p.past p.lives ∙ ap (λ (xs : List CallEvent). xs ++ es) none_due in
      let items' : List Item = items_owed_on s (with_frame p.past f).owed in
      let look : look_at c s k.connections ≡ Some (opened e items') =
      quiet_look c c s without_due m.connections (λ r. (refl, refl)) ∙ p.step step in
      let fine : IsFine name k = step_fine name c without_due m (λ r short. tt) (step_fine name c step l (frame_short f) sound.fine) in
      let short : AllByRecursion IsShortCall es = subst (AllByRecursion IsShortCall) due
      (short_due c m.connections (short_at c step (frame_short f) l.connections sound.fine.limits.short)) in
      let live : Live name s (kept c s l) p.past.history (items_owed_on s p.past.owed) =
      subst (λ (is : List Item). Live name s (kept c s l) p.past.history is) (sym p.items)
      (subst (λ (x : List Entry). Live name s (kept c s l) x items) (sym p.history) (by_tracks name c s l (Some (opened d items)) is h)) in
      let heard : Heard name c s k p.past.history e p.past.owed v es =
      record { fine = fine; short = short; brings = events_frame p.past.history f; look = look; live = live } in
      let calls : AllByRecursion (IsAnswerable e) es =
      subst (λ (xs : List CallEvent). AllByRecursion (IsAnswerable e) (xs ++ es)) none_due
      (calls_answerable l.state.limits.window p.past f made (whole', none_due)) in
      let brought : Brought name c s k e es = record {
        lives = record { items = items'; look = look };
        idle = λ un.
            let i = live.idle (λ o. un (opened_still p.past.history (frame_entries p.past.history f) s o)) in (
              i.0,
              aside_at_once e p.past.owed s (items_at_once v)
                  (all_unopened e s (items_at_once v) un (requests_answerable l.state.limits.window p.past f made (whole', none_due)))
                  ∙ i.1,
              no_heads_in e s es un calls,
            );
        read = λ read. frame_read name c s k p.past.history e p.past.owed f heard read;
      } in
      subst (λ (xs : List CallEvent). Tracks name c s (after_call_events c xs k)) (sym due) (brought_tracks name c s es k e brought)

-- bytes that are no frame
fault_tracks : (name : List ℕ) (c s n : ℕ) (x : FrameError) (code : ErrorCode) (l : LoneInstance) → IsSound name l → Tracks name c s l →
    Tracks name c s (after_fault_on n x l (Some code))
fault_tracks name c s n x code l sound h = elim (cases_Bool (n == c)) [
  | inr other ↦ same_tracks name c s l (after_fault_on n x l (Some code)) (other_due name c s n l (λ p. with_fault p x code) other) h
  | inl same ↦ subst (λ (m : ℕ). Tracks name c s (after_fault_on m x l (Some code))) (sym (eqb-true n c same)) (go (seen c s l))
] where
  step : Past → Past
  step p = with_fault p x code

  go : IsSeen c s l → Tracks name c s (after_fault_on c x l (Some code))
  go (Unknown is) = unknown_due name c s l step is h
  go (Shut d items is) = tracks_by name c s (after_fault_on c x l (Some code)) (Some (closed d items))
      (closed_due_on c s l step (closed d items) refl is) (by_tracks name c s l (Some (closed d items)) is h)
  go (Alive d items is) =
      let m : LoneInstance = record l { connections = at_open c step l.connections } in
      let k : LoneInstance = record m { connections = at_open c without_due m.connections } in
      let p = past_of c s l.connections (opened d items) refl is in
      let none_due : p.past.due ≡ [] = open_has (λ (r : Past). r.due ≡ []) c l.connections p.past p.lives sound.holds.due in
      let es : List CallEvent = cancels p.past.history in
      let e : List Entry = (with_fault p.past x code).history in
      let due : due_at c m ≡ es = due_step c step l p.past p.lives ∙ ap (λ (xs : List CallEvent). xs ++ es) none_due in
      let look : look_at c s k.connections ≡ Some (opened e (items_owed_on s p.past.owed)) =
      quiet_look c c s without_due m.connections (λ r. (refl, refl)) ∙ p.step step in
      let fine : IsFine name k = step_fine name c without_due m (λ r short. tt) (step_fine name c step l (fault_short x code) sound.fine) in
      let short : AllByRecursion IsShortCall es = subst (AllByRecursion IsShortCall) due
      (short_due c m.connections (short_at c step (fault_short x code) l.connections sound.fine.limits.short)) in
      let live : Live name s (kept c s l) p.past.history (items_owed_on s p.past.owed) =
      subst (λ (is : List Item). Live name s (kept c s l) p.past.history is) (sym p.items)
      (subst (λ (y : List Entry). Live name s (kept c s l) y items) (sym p.history) (by_tracks name c s l (Some (opened d items)) is h)) in
      let later : Live name s (kept c s k) e (items_owed_on s p.past.owed) =
      live_same name s (kept c s l) p.past.history e (items_owed_on s p.past.owed)
      (fault_same p.past.history x (fault_frames (has_failed p.past.history) (highest_stream p.past.history) code)) live in
      subst (λ (xs : List CallEvent). Tracks name c s (after_call_events c xs k)) (sym due)
      (brought_tracks name c s es k e (quiet_brought name c s es k e (items_owed_on s p.past.owed) fine short
      (all_cancels_bring s p.past.history) look later))

-- ---- all of it, in order

-- steps that are sound, and keep this
frame_sound : (name : List ℕ) (n : ℕ) (f : RawFrame) (l : LoneInstance) (q : Past) → open_at n l.connections ≡ Some q →
    has_failed q.history ≡ false → IsReceivable f → IsSound name l → IsSound name (after_frame_on n f l)
frame_sound name n f l q at whole framed sound =
    let moved : Moves Unit l (frame_happenings n f l) (after_frame_on n f l) = frame_moves n f l q at whole framed in
    record {
      fine = due_fine name n (record l { connections = at_open n (λ p. with_frame p f) l.connections })
          (step_fine name n (λ p. with_frame p f) l (frame_short f) sound.fine);
      given = sound.given ++ given_items_from l.state (frame_happenings n f l);
      holds = moved.holds sound.given sound.holds;
    }

fault_sound : (name : List ℕ) (n : ℕ) (x : FrameError) (code : ErrorCode) (l : LoneInstance) → reading_fault x ≡ Some code →
    IsSound name l → IsSound name (after_fault_on n x l (Some code))
fault_sound name n x code l is sound =
    let moved : Moves Unit l (fault_happenings n x l (Some code)) (after_fault_on n x l (Some code)) = fault_moves n x l (Some code) is in
    record {
      fine = due_fine name n (record l { connections = at_open n (λ p. with_fault p x code) l.connections })
          (step_fine name n (λ p. with_fault p x code) l (fault_short x code) sound.fine);
      given = sound.given ++ given_items_from l.state (fault_happenings n x l (Some code));
      holds = moved.holds sound.given sound.holds;
    }

pub record Keeps (name : List ℕ) (c s : ℕ) (l : LoneInstance) : Type 0 where
  pub sound : IsSound name l
  pub tracks : Tracks name c s l

frames_keep : (name : List ℕ) (c s n : ℕ) (fs : List RawFrame) (l : LoneInstance) → AllByRecursion IsReceivable fs → Keeps name c s l →
    Keeps name c s (after_frames_on n fs l)
frames_keep name c s n [] l all h = h
frames_keep name c s n (f ∷ fs) l all h = elim (cases_Bool (is_over n l)) [
  | inl over ↦ rw over h
  | inr whole ↦
      let on = goes_on n l whole in
      let one : Keeps name c s (after_frame_on n f l) = record {
        sound = frame_sound name n f l on.past on.is on.fine all.0 h.sound;
        tracks = frame_tracks name c s n f l on.past on.is on.fine h.sound h.tracks;
      } in
      rw whole (frames_keep name c s n fs (after_frame_on n f l) all.1 one)
]

fault_keeps : (name : List ℕ) (c s n : ℕ) (x : FrameError) (l : LoneInstance) (o : Option ErrorCode) → reading_fault x ≡ o →
    Keeps name c s l → Keeps name c s (after_fault_on n x l o)
fault_keeps name c s n x l None is h = h
fault_keeps name c s n x l (Some code) is h = record
    { sound = fault_sound name n x code l is h.sound; tracks = fault_tracks name c s n x code l h.sound h.tracks }

end_keeps : (name : List ℕ) (c s n : ℕ) (r : Result (List ℕ) FrameError) (l : LoneInstance) → Keeps name c s l →
    Keeps name c s (after_end_on n r l)
end_keeps name c s n (Ok rest) l h = h
end_keeps name c s n (Err x) l h = choose (Keeps name c s) (is_over n l) l (after_fault_on n x l (reading_fault x)) (λ _. h)
    (λ _. fault_keeps name c s n x l (reading_fault x) refl h)

reading_keeps : (name : List ℕ) (c s n : ℕ) (l : LoneInstance) (o : Option Past) → Keeps name c s l →
    Keeps name c s (after_reading_on n l o)
reading_keeps name c s n l None h = h
reading_keeps name c s n l (Some p) h =
    end_keeps name c s n (split CLIENT_PREFACE.now p.text).end (after_frames_on n (unread_frames p) l)
    (frames_keep name c s n (unread_frames p) l (all_drop (length (received_raw_frames p.history)) (split CLIENT_PREFACE.now p.text).items
    (frames_received CLIENT_PREFACE.now p.text)) h)

bytes_sound : (name : List ℕ) (n : ℕ) (bytes : List ℕ) (l : LoneInstance) → IsSound name l →
    IsSound name (record l { connections = at_open n (with_bytes bytes) l.connections })
bytes_sound name n bytes l sound = record {
  fine = step_fine name n (with_bytes bytes) l (λ p short. short) sound.fine;
  given = sound.given;
  holds = record {
    owes = owes_quiet n (with_bytes bytes) sound.given l (λ p. refl) sound.holds.owes;
    pasts = bytes_made n bytes l sound.holds.pasts;
    due = quiet_due n (with_bytes bytes) l.connections (λ p. refl) sound.holds.due;
  };
}

came_keeps : (name : List ℕ) (c s n : ℕ) (bytes : List ℕ) (l : LoneInstance) → Keeps name c s l → Keeps name c s (after_bytes_on n bytes l)
came_keeps name c s n bytes l h =
    let m : LoneInstance = record l { connections = at_open n (with_bytes bytes) l.connections } in
    let off : IsAside c s l m = record { calls = refl; look = quiet_look c n s (with_bytes bytes) l.connections (λ p. (refl, refl)) } in
    reading_keeps name c s n m (open_at n m.connections)
    (record { sound = bytes_sound name n bytes l h.sound; tracks = same_tracks name c s l m off h.tracks })

-- ---- events

start_live : (name : List ℕ) (s window : ℕ) → Live name s [] (greeting window) []
start_live name s window =
    greeted (λ (d : List Entry). Live name s [] d []) window
    (record { idle = λ none. (refl, refl); read = λ is. absurd (let z : ⊥ = cc in z) })
    (record { idle = λ none. (refl, refl); read = λ is. absurd (let z : ⊥ = cc in z) })

opening_tracks : (name : List ℕ) (c s n : ℕ) (l : LoneInstance) → Tracks name c s l → Tracks name c s (after_opening n l)
opening_tracks name c s n l h = go (look_at c s l.connections) refl where
  k : LoneConnection
  k = record { number = n; past = new_past l.state.limits.window; is_open = true }

  new : (b : Bool) → (n == c) ≡ b → look_at c s l.connections ≡ None → Tracks name c s (after_opening n l)
  new true at is =
      let look : look_at c s (l.connections ++ k ∷ []) ≡ Some (opened (greeting l.state.limits.window) []) =
      new_look c s l.connections (k ∷ []) is ∙ ap (λ b. cond b (Some (look_of s k)) None) at in
      let none : kept c s l ≡ [] = by_tracks name c s l None is h in
      tracks_by name c s (after_opening n l) (Some (opened (greeting l.state.limits.window) [])) look
      (subst (λ (vs : List CallValue). Live name s vs (greeting l.state.limits.window) []) (sym none)
      (start_live name s l.state.limits.window))
  new false at is =
      let look : look_at c s (l.connections ++ k ∷ []) ≡ None =
      new_look c s l.connections (k ∷ []) is ∙ ap (λ b. cond b (Some (look_of s k)) None) at in
      tracks_by name c s (after_opening n l) None look (by_tracks name c s l None is h)

  go : (o : Option Look) → look_at c s l.connections ≡ o → Tracks name c s (after_opening n l)
  go None is = new (n == c) refl is
  go (Some x) is = tracks_by name c s (after_opening n l) (Some x) (more_look c s l.connections (k ∷ []) x is)
      (by_tracks name c s l (Some x) is h)

took_tracks : (name : List ℕ) (c s n count : ℕ) (l : LoneInstance) → Tracks name c s l → Tracks name c s (effect_of (took n count) l)
took_tracks name c s n count l h = elim (cases_Bool (n == c)) [
  | inr other ↦ same_tracks name c s l (effect_of (took n count) l)
      (record { calls = refl; look = other_look c n s step l.connections other }) h
  | inl same ↦ subst (λ (m : ℕ). Tracks name c s (effect_of (took m count) l)) (sym (eqb-true n c same)) (go (seen c s l))
] where
  step : Past → Past
  step p = with_taken p count

  go : IsSeen c s l → Tracks name c s (effect_of (took c count) l)
  go (Unknown is) = tracks_by name c s (effect_of (took c count) l) None (none_look c c s step l.connections is)
      (by_tracks name c s l None is h)
  go (Shut d items is) = tracks_by name c s (effect_of (took c count) l) (Some (closed d items))
      (closed_look c s step l.connections (closed d items) refl is) (by_tracks name c s l (Some (closed d items)) is h)
  go (Alive d items is) =
      let p = past_of c s l.connections (opened d items) refl is in
      let e : List Entry = p.past.history ++ Took count ∷ [] in
      let live : Live name s (kept c s l) p.past.history (items_owed_on s p.past.owed) =
      subst (λ (is : List Item). Live name s (kept c s l) p.past.history is) (sym p.items)
      (subst (λ (y : List Entry). Live name s (kept c s l) y items) (sym p.history) (by_tracks name c s l (Some (opened d items)) is h)) in
      tracks_by name c s (effect_of (took c count) l) (Some (opened e (items_owed_on s p.past.owed))) (p.step step)
      (live_same name s (kept c s l) p.past.history e (items_owed_on s p.past.owed) (took_same p.past.history count) live)

live_done : (name : List ℕ) (s : ℕ) (vs : List CallValue) (d : List Entry) (items : List Item) → Live name s vs d items →
    Done name s d items
live_done name s vs d items live = λ read. answered name vs (messages_to d s) items (live.read read)

closing_tracks : (name : List ℕ) (c s n : ℕ) (l : LoneInstance) → Tracks name c s l → Tracks name c s (after_closing n l)
closing_tracks name c s n l h = elim (cases_Bool (n == c)) [
  | inr other ↦
      let a = calls_elsewhere c s n (es n) (m n) other in
      same_tracks name c s l (after_closing n l) (record { calls = a.calls; look = a.look ∙ other_closing c n s l.connections other }) h
  | inl same ↦ subst (λ (x : ℕ). Tracks name c s (after_closing x l)) (sym (eqb-true n c same)) (go (seen c s l))
] where
  es : ℕ → List CallEvent
  es n = option_map_or (λ (p : Past). cancels p.history) (open_at n l.connections) []

  m : ℕ → LoneInstance
  m n = record l { connections = with_closed n l.connections }

  shut : (d : List Entry) (items : List Item) → look_at c s (with_closed c l.connections) ≡ Some (closed d items) → Done name s d items →
      Tracks name c s (after_closing c l)
  shut d items is done = tracks_by name c s (after_closing c l) (Some (closed d items))
      (calls_closed c s c (es c) (m c) (closed d items) refl is) done

  go : IsSeen c s l → Tracks name c s (after_closing c l)
  go (Shut d items is) = shut d items (own_closing c s l.connections (closed d items) is)
      (by_tracks name c s l (Some (closed d items)) is h)
  go (Alive d items is) = shut d items (own_closing c s l.connections (opened d items) is)
      (live_done name s (kept c s l) d items (by_tracks name c s l (Some (opened d items)) is h))
  go (Unknown is) =
      let none : es c ≡ [] = ap (λ (o : Option Past). option_map_or (λ (p : Past). cancels p.history) o [])
      (none_is_open c s l.connections is) in
      subst (λ (xs : List CallEvent). Tracks name c s (after_call_events c xs (m c))) (sym none)
      (tracks_by name c s (m c) None (no_closing c s c l.connections is) (by_tracks name c s l None is h))

quiet_turn : IsTurn time_passes
quiet_turn l c s h = record { calls = refl; look = refl }

acted_tracks : (name : List ℕ) (c s : ℕ) (w : WhatValue) (l : LoneInstance) → Keeps name c s l → Tracks name c s (effect_of w l)
acted_tracks name c s (opens n) l h = opening_tracks name c s n l h.tracks
acted_tracks name c s (received n bytes) l h =
    turn_tracks name c s start_jobs (after_bytes_on n bytes l) start_turn (came_keeps name c s n bytes l h).tracks
acted_tracks name c s (took n count) l h = took_tracks name c s n count l h.tracks
acted_tracks name c s (closes n) l h = closing_tracks name c s n l h.tracks
acted_tracks name c s tick l h = turn_tracks name c s end_late_jobs (after_call_event time_passes l) late_turn
    (turn_tracks name c s time_passes l quiet_turn h.tracks)
acted_tracks name c s (ended job outcome) l h = turn_tracks name c s (end_job job outcome) l (end_turn job outcome) h.tracks

pump_tracks : (name : List ℕ) (c s : ℕ) (l : LoneInstance) → Tracks name c s l → Tracks name c s (after_pump l)
pump_tracks name c s l h = go (seen c s l) where
  live_at : (d e : List Entry) (items : List Item) (y : Look) → y.lives ≡ true → y.items ≡ items →
      (y.history ≡ d) ⊎ ((p : Past) × (p.history ≡ d) × (y.history ≡ (with_pumped p).history)) → Live name s (kept c s l) d items →
      TracksLook name s (kept c s l) (Some y)
  live_at d e items y lives same (inl is) live =
      subst (λ b. TracksBy name s (kept c s l) b y) (sym lives)
      (subst (λ (x : List Entry). Live name s (kept c s l) x y.items) (sym is)
      (subst (λ (xs : List Item). Live name s (kept c s l) d xs) (sym same) live))
  live_at d e items y lives same (inr p) live =
      let one : Live name s (kept c s l) p.0.history y.items =
      subst (λ (x : List Entry). Live name s (kept c s l) x y.items) (sym p.1)
      (subst (λ (xs : List Item). Live name s (kept c s l) d xs) (sym same) live) in
      let next : Live name s (kept c s l) (with_pumped p.0).history y.items =
      live_same name s (kept c s l) p.0.history (with_pumped p.0).history y.items (pump_same p.0.history p.0.owed) one in
      subst (λ b. TracksBy name s (kept c s l) b y) (sym lives)
      (subst (λ (x : List Entry). Live name s (kept c s l) x y.items) (sym p.2) next)

  done_at : (d : List Entry) (items : List Item) (y : Look) → y.lives ≡ false → y.items ≡ items →
      (y.history ≡ d) ⊎ ((p : Past) × (p.history ≡ d) × (y.history ≡ (with_pumped p).history)) → Done name s d items →
      TracksLook name s (kept c s l) (Some y)
  done_at d items y lives same (inl is) done =
      subst (λ b. TracksBy name s (kept c s l) b y) (sym lives)
      (subst (λ (x : List Entry). Done name s x y.items) (sym is) (subst (λ (xs : List Item). Done name s d xs) (sym same) done))
  done_at d items y lives same (inr p) done =
      let heard = pump_same p.0.history p.0.owed in
      let one : Done name s p.0.history y.items = subst (λ (x : List Entry). Done name s x y.items) (sym p.1)
      (subst (λ (xs : List Item). Done name s d xs) (sym same) done) in
      let next : Done name s (with_pumped p.0).history y.items = λ read.
      subst (λ (ms : List (List ℕ)). IsAnswered name ms y.items) (sym (text_same p.0.history (with_pumped p.0).history s heard))
      (one (sym (methods_same p.0.history (with_pumped p.0).history s heard) ∙ read)) in
      subst (λ b. TracksBy name s (kept c s l) b y) (sym lives) (subst (λ (x : List Entry). Done name s x y.items) (sym p.2) next)

  go : IsSeen c s l → Tracks name c s (after_pump l)
  go (Unknown is) = tracks_by name c s (after_pump l) None (none_stepped with_pumped c s l.connections is) (by_tracks name c s l None is h)
  go (Shut d items is) =
      let x = all_look with_pumped c s l.connections (closed d items) (λ p. refl) is in
      tracks_by name c s (after_pump l) (Some x.then) x.look
      (done_at d items x.then x.stepped.lives x.stepped.items x.stepped.history (by_tracks name c s l (Some (closed d items)) is h))
  go (Alive d items is) =
      let x = all_look with_pumped c s l.connections (opened d items) (λ p. refl) is in
      tracks_by name c s (after_pump l) (Some x.then) x.look
      (live_at d d items x.then x.stepped.lives x.stepped.items x.stepped.history (by_tracks name c s l (Some (opened d items)) is h))

-- ---- a run

happening_name : (h : Happening) (s : InstanceState) → (state_after_happening s h).name ≡ s.name
happening_name (MomentCame parent moment) s = refl
happening_name EventOver s = refl
happening_name TimePassed s = same_name s time_passes
happening_name (RequestAnswered place stream item) s = refl
happening_name (CallEventCame place event) s = same_name s event
happening_name (JobsTurned places event) s = same_name s event

happenings_name : (hs : List Happening) (s : InstanceState) → (fold state_after_happening s hs).name ≡ s.name
happenings_name [] s = refl
happenings_name (h ∷ hs) s = happenings_name hs (state_after_happening s h) ∙ happening_name h s

accepted_tracks : (name : List ℕ) (c s : ℕ) (parent : List Blob) (e : LoneEvent) (l : LoneInstance) → AreNamed parent → Keeps name c s l →
    Tracks name c s (after_event parent e l)
accepted_tracks name c s parent e l named h =
    let at : LoneInstance = lone_at_moment e.moment parent l in
    let fine : IsFine name at = record {
      limits = record {
        within = seeing_within parent (at_moment e.moment l.state) named
            (moment_within e.moment l.state h.sound.fine.limits.within);
        short = h.sound.fine.limits.short;
      };
      own = h.sound.fine.own;
    } in
    let sound : IsSound name at = record {
      fine = fine;
      given = h.sound.given;
      holds =
          record {
            owes = record { owed = h.sound.holds.owes.owed; below = h.sound.holds.owes.below };
            pasts = h.sound.holds.pasts;
            due =
                h.sound.holds.due;
          };
    } in
    let acted : Tracks name c s (effect_of e.what at) = acted_tracks name c s e.what at (record { sound = sound; tracks = h.tracks }) in
    pump_tracks name c s (lone_at_rest (effect_of e.what at)) acted

unless_tracks : (name : List ℕ) (c s : ℕ) (parent : List Blob) (e : LoneEvent) (l : LoneInstance) (o : Option EventRefusal) →
    AreNamed parent → Keeps name c s l → Tracks name c s (after_event_unless parent e l o)
unless_tracks name c s parent e l None named h = accepted_tracks name c s parent e l named h
unless_tracks name c s parent e l (Some refusal) named h = h.tracks

-- the instance is sound in each run
run_tracks : (name : List ℕ) (c s : ℕ) (f : FamilyRun) (es : List FamilyEvent) (gs : List GivenItems) → FamilyKeeps f →
    AllByRecursion IsNarrow (map event_in es) → f.own.lone.state.name ≡ name → Holds gs f.own.lone → Tracks name c s f.own.lone →
    Tracks name c s (fold family_step f es).own.lone
run_tracks name c s f [] gs keeps narrow own holds h = h
run_tracks name c s f (parent_event e ∷ es) gs keeps narrow own holds h =
    run_tracks name c s (family_step f (parent_event e)) es gs (step_keeps f (parent_event e) narrow.0 keeps) narrow.1 own holds h
run_tracks name c s f (own_event e ∷ es) gs keeps narrow own holds h =
    let parent : List Blob = texts_of_parent f.parent in
    let l : LoneInstance = f.own.lone in
    let named : AreNamed parent = named_beside f.parent keeps.beside in
    let moved : Moves (Comes parent e) l (step_happenings parent e l) (lone_step parent e l) = step_moves parent e l in
    let all : Keeps name c s l = record {
      sound = record { fine = record { limits = keeps.own; own = own }; given = gs; holds = holds };
      tracks = h;
    } in
    run_tracks name c s (family_step f (own_event e)) es (gs ++ given_items_from l.state (step_happenings parent e l))
    (step_keeps f (own_event e) narrow.0 keeps) narrow.1
    (ap (λ (t : InstanceState). t.name) moved.state ∙ happenings_name (step_happenings parent e l) l.state ∙ own) (moved.holds gs holds)
    (unless_tracks name c s parent e l (refusal_of e l) named all)

-- ---- what a client reads

read_of : (window place : ℕ) (gs : List GivenItems) (before after : List LoneConnection) (k : LoneConnection) →
    AreConnectionsRead window place gs (before ++ k ∷ after) → (n : ℕ) × IsConnectionRead window n gs k
read_of window place gs [] after k h = (place, h.0)
read_of window place gs (j ∷ before) after k h = read_of window (suc place) gs before after k h.1

none_between : (given : SourceValue) → nat_lt given.from given.until ≡ false →
    take (given.until - given.from) (drop given.from given.text) ≡ []
none_between given past =
    let none : given.until - given.from ≡ 0 = grind (arith, nat_tests) in
    ap (λ (n : ℕ). take n (drop given.from given.text)) none

given_response : (given : SourceValue) → response_of (owed_items (items_of (Ok (range given))))
    ≡ response_of (item_of begins ∷ []) ++ (map WholeMessage (read_messages (take (given.until - given.from) (drop given.from given.text)))
    ++ response_of (item_of ends ∷ []))
given_response given = go (nat_lt given.from given.until) refl where
  go : (b : Bool) → nat_lt given.from given.until ≡ b → response_of (owed_items (begins ∷ cond b (gives given ∷ []) [] ++ ends ∷ []))
      ≡ response_of (item_of begins ∷ []) ++ (map WholeMessage
      (read_messages (take (given.until - given.from) (drop given.from given.text))) ++ response_of (item_of ends ∷ []))
  go true is = refl
  go false is = ap (λ (bytes : List ℕ). response_of (item_of begins ∷ [])
      ++ (map WholeMessage (read_messages bytes) ++ response_of (item_of ends ∷ []))) (sym (none_between given is))

is_response : (name message : List ℕ) (ms later : List (List ℕ)) (items : List Item) → ms ≡ message ∷ later → IsAnswered name ms items →
    IsResponseToRead name message (response_of items)
is_response name message ms later items first (NotYet none) = Unanswered (ap response_of none)
is_response name message ms later items first (Refuses refusal is) = Refused refusal (ap response_of is)
is_response name message ms later items first (Gives request more given came part is) =
    let same : request ≡ message = cc in
    let bytes : List ℕ = take (given.until - given.from) (drop given.from given.text) in
    let of_message : IsGivenPart name message given = subst (λ (r : List ℕ). IsGivenPart name r given) same part in
    Given bytes
    (record {
      asked = of_message.asked;
      asks = of_message.asks;
      text = given.text;
      named = of_message.named;
      from = given.from;
      offset =
          of_message.offset;
      part = of_message.bytes;
    })
    (ap response_of is ∙ given_response given)

tracked : (name : List ℕ) (s : ℕ) (vs : List CallValue) (b : Bool) (x : Look) → TracksBy name s vs b x →
    methods_on x.history s ≡ Read ∷ [] → IsAnswered name (messages_to x.history s) x.items
tracked name s vs true x h read = answered name vs (messages_to x.history s) x.items (h.read read)
tracked name s vs false x h read = h read

pub blobs_read : (family : Family) (events : List FamilyEvent) → AreLimited family → AllByRecursion IsNarrow (map event_in events) →
    ReadsBlobsAskedFor family events
blobs_read family events limited narrow before after k s message is none asks =
    let name : List ℕ = family.own.name in
    let f : FamilyRun = new_family_run family in
    let run : LoneInstance = (run_of_family family events).own.lone in
    let tracks : Tracks name k.number s run = run_tracks name k.number s f events [] (new_family_keeps family limited) narrow refl
    (first_holds family.own.name family.own.quota family.own.slots family.own.limits) refl in
    let look : look_at k.number s run.connections ≡ Some (look_of s k) = ap (look_at k.number s) is ∙ first_look s before after k none in
    let by : TracksBy name s (kept k.number s run) k.is_open (look_of s k) =
    by_tracks name k.number s run (Some (look_of s k)) look tracks in
    let so : IsAnswered name (messages_to k.past.history s) (items_owed_on s k.past.owed) =
    tracked name s (kept k.number s run) k.is_open (look_of s k) by asks.method in
    let gs : List GivenItems = run_given_items family events in
    let read = read_of family.own.limits.window 0 gs before after k
    (subst (λ (ks : List LoneConnection). AreConnectionsRead family.own.limits.window 0 gs ks) is
    (replies_read family events limited narrow)) in
    record {
      response = response_of (items_owed_on s k.past.owed);
      right = is_response name message (messages_to k.past.history s) asks.later (items_owed_on s k.past.owed) asks.first so;
      reads = subst (λ (items : List Item). IsBeginning longest_message (stream_parts k.past.history s) (response_of items))
          (sym (read.1.owed s)) (read.1.responses s);
    }
