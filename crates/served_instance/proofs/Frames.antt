-- Instances by themselves: what is due happens one by one, and what was received is read frame by
-- frame.
use Rattle.std.proofs.Common.{◌≡◌, refl, sym, ap, ◌∙◌, append_assoc}
use Rattle.std.proofs.Math.Seq.{drop-append_seam, drop-length}
use Rattle.std.specs.Prelude.{ℕ, Bool, true, false, List, [], ◌∷◌, ◌++◌, length, map, drop, option_map, Option, Some, None, Result, Ok, Err, ◌||◌}
use Rattle.std.specs.Option.{option_map_or}
use Rattle.std.specs.List.{list_any}
use Rattle.std.proofs.lemmas.List.Elements.{filter_map-append}
use Rattle.std.proofs.lemmas.List.Folds.{list_any-append}
use Rattle.std.proofs.lemmas.Bool.{cond-false, cond-true}
use Rattle.conn_core.specs.ReaderConstants.{CLIENT_PREFACE}
use Rattle.conn_core.specs.ErrorCode.{ErrorCode}
use Rattle.conn_core.specs.FrameError.{FrameError}
use Rattle.conn_core.specs.RawFrame.{RawFrame}
use Rattle.conn_core.specs.Reading.{split}
use Rattle.conn_core.specs.Wire.{Split}
use Rattle.grpc_sending.specs.Owed.{Item}
use Rattle.conn_core.specs.History.{Entry, Out, Unreadable, highest_stream, has_failed, sent_frames, frame_out, is_goaway}
use Rattle.conn_core.specs.Rules.{reading_fault}
use Rattle.conn_core.specs.declared.event.CallEvent.{CallEvent}
use Rattle.conn_core.specs.Entries.{goaway_frame}
use Rattle.conn_core.specs.Received.{raw_in, received_raw_frames, outcome, frame_entries, fault_frames, fault_entries}
use Rattle.conn_core.specs.Past.{Past, with_frame, with_fault}
use Rattle.conn_core.specs.StandsFor.{IsNextFault, HasNoFrameLeft}
use Rattle.conn_core.proofs.Events.{raw_out}
use Rattle.instance_core.specs.Calls.{CallEventValue}
use Rattle.instance_core.specs.Answer.{answer, state_after}
use Rattle.instance_core.specs.Replies.{ReplyValue}
use Rattle.served_instance.specs.Connections.{LoneConnection, open_at, at_open}
use Rattle.served_instance.specs.Calls.{call_event_on, with_items}
use Rattle.served_instance.specs.Lone.{LoneInstance, after_call_event, after_call_events, due_at, without_due, after_due_on, after_frame_on, is_over, after_frames_on, after_fault_on, after_end_on, after_reading_on}
use Rattle.served_instance.specs.Acts.{after_rest_on}
use Rattle.served_instance.proofs.Changes.{or_of}
use Rattle.served_instance.proofs.Commutes.{Wire, wire, given, replied_is, given_commutes, given_keeps, items_due, items_keep_due, items_keep_wire, fuse, no_step, open_stepped, view_kept}

-- ---- one event

pub happened_is : (event : CallEventValue) (l : LoneInstance) →
    after_call_event event l ≡ record l {
      state = state_after l.state event;
      connections =
          given (answer l.state event).replies l.connections;
    }
happened_is event l = replied_is (answer l.state event).replies (record l { state = state_after l.state event })

abbrev pub with_due : List CallEvent → Past → Past
with_due due p = record p { due = due }

abbrev pub due_of : Past → List CallEvent
due_of p = p.due

pub due_is : (c : ℕ) (l : LoneInstance) (p : Past) → open_at c l.connections ≡ Some p → due_at c l ≡ p.due
due_is c l p h = ap (λ (o : Option Past). option_map_or due_of o []) h

pub due_left : (c : ℕ) (rs : List ReplyValue) (rest : List CallEvent) (ks : List LoneConnection) (p : Past) → open_at c ks ≡ Some p →
    option_map_or due_of (open_at c (given rs (at_open c (with_due rest) ks))) [] ≡ rest
due_left c rs rest ks p h =
    let xs = at_open c (with_due rest) ks in
    let a : option_map due_of (open_at c (given rs xs)) ≡ option_map due_of (open_at c xs) = given_keeps due_of c rs xs items_keep_due in
    let b : open_at c xs ≡ Some (with_due rest p) = open_stepped c (with_due rest) ks ∙ ap (option_map (with_due rest)) h in
    or_of due_of [] (open_at c (given rs xs)) ∙ ap (λ (o : Option (List CallEvent)). option_map_or (λ x. x) o [])
    (a ∙ ap (option_map due_of) b)

none_due_commutes : (s : ℕ) (items : List Item) (p : Past) → without_due (with_items s items p) ≡ with_items s items (without_due p)
none_due_commutes s items p = items_due s items p []

-- the first of what is due, and then the others
pub next_due : (c : ℕ) (event : CallEvent) (rest : List CallEvent) (l : LoneInstance) (p : Past) → open_at c l.connections ≡ Some p →
    p.due ≡ event ∷ rest →
    after_due_on c (after_call_event (call_event_on c event) (record l { connections = at_open c (with_due rest) l.connections }))
    ≡ after_due_on c l
next_due c event rest l p h d =
    let what = call_event_on c event in
    let rs = (answer l.state what).replies in
    let ks = l.connections in
    let kept : LoneInstance = record l { state = state_after l.state what; connections = given rs (at_open c (with_due rest) ks) } in
    let behind : List LoneConnection → LoneInstance = λ xs. record l { state = state_after l.state what; connections = xs } in
    let same : at_open c without_due (given rs (at_open c (with_due rest) ks)) ≡ given rs (at_open c without_due ks) =
    given_commutes c without_due rs (at_open c (with_due rest) ks) none_due_commutes
    ∙ ap (given rs) (fuse c without_due (with_due rest) ks) in
    ap (after_due_on c) (happened_is what (record l { connections = at_open c (with_due rest) ks }))
    ∙ ap (λ (es : List CallEvent). after_call_events c es (behind (at_open c without_due (given rs (at_open c (with_due rest) ks)))))
    (due_left c rs rest ks p h)
    ∙ ap (λ (xs : List LoneConnection). after_call_events c rest (behind xs)) same
    ∙ sym (ap (λ (es : List CallEvent). after_call_events c es (record l { connections = at_open c without_due ks })) (due_is c l p h ∙ d)
    ∙ ap (after_call_events c rest) (happened_is what (record l { connections = at_open c without_due ks })))

pub nothing_due : (c : ℕ) (l : LoneInstance) (p : Past) → open_at c l.connections ≡ Some p → p.due ≡ [] → after_due_on c l ≡ l
nothing_due c l p h d =
    ap (λ (es : List CallEvent). after_call_events c es (record l { connections = at_open c without_due l.connections }))
    (due_is c l p h ∙ d)
    ∙ ap (λ (xs : List LoneConnection). let k : LoneInstance = record l { connections = xs } in k)
    (no_step c without_due l.connections (λ q e. let same : q ≡ p = cc in
    ap (λ (es : List CallEvent). with_due es q) (sym (ap due_of same ∙ d))))

pub none_due_there : (c : ℕ) (l : LoneInstance) → open_at c l.connections ≡ None → after_due_on c l ≡ l
none_due_there c l h =
    ap (λ (o : Option Past). after_call_events c (option_map_or due_of o [])
    (record l { connections = at_open c without_due l.connections })) h
    ∙ ap (λ (xs : List LoneConnection). let k : LoneInstance = record l { connections = xs } in k)
    (no_step c without_due l.connections (λ q e. cc))

-- ---- what stays while calls go on

happened_wire : (c : ℕ) (event : CallEventValue) (l : LoneInstance) →
    option_map wire (open_at c (after_call_event event l).connections) ≡ option_map wire (open_at c l.connections)
happened_wire c event l =
    ap (λ (k : LoneInstance). option_map wire (open_at c k.connections)) (happened_is event l)
    ∙ given_keeps wire c (answer l.state event).replies l.connections items_keep_wire

all_wire : (c d : ℕ) (es : List CallEvent) (l : LoneInstance) →
    option_map wire (open_at c (after_call_events d es l).connections) ≡ option_map wire (open_at c l.connections)
all_wire c d [] l = refl
all_wire c d (e ∷ es) l = all_wire c d es (after_call_event (call_event_on d e) l) ∙ happened_wire c (call_event_on d e) l

due_wire : (c : ℕ) (l : LoneInstance) → option_map wire (open_at c (after_due_on c l).connections)
    ≡ option_map wire (open_at c l.connections)
due_wire c l = all_wire c c (due_at c l) (record l { connections = at_open c without_due l.connections })
    ∙ view_kept wire c c without_due l.connections (λ p. refl)

some_wire : (o : Option Past) (x : Wire) → option_map wire o ≡ Some x → (q : Past) × (o ≡ Some q) × (wire q ≡ x)
some_wire None x h = cc
some_wire (Some q) x h = (q, refl, cc)

-- after a step of c and what is due then
pub stepped_wire : (c : ℕ) (step : Past → Past) (l : LoneInstance) (p : Past) → open_at c l.connections ≡ Some p →
    (q : Past) × (open_at c (after_due_on c (record l { connections = at_open c step l.connections })).connections ≡ Some q)
    × (wire q ≡ wire (step p))
stepped_wire c step l p h =
    some_wire (open_at c (after_due_on c (record l { connections = at_open c step l.connections })).connections) (wire (step p))
    (due_wire c (record l { connections = at_open c step l.connections })
    ∙ ap (option_map wire) (open_stepped c step l.connections ∙ ap (option_map step) h))

-- ---- frames

-- reading on, behind so many frames of this text
abbrev read_on : ℕ → LoneInstance → ℕ → Split → LoneInstance
read_on c l n whole = after_end_on c whole.end (after_frames_on c (drop n whole.items) l)

abbrev read_from : ℕ → LoneInstance → Wire → LoneInstance
read_from c l x = read_on c l (length (received_raw_frames x.1)) (split CLIENT_PREFACE.now x.0)

rest_is : (c : ℕ) (l : LoneInstance) (p : Past) → open_at c l.connections ≡ Some p → after_rest_on c l ≡ read_from c l (wire p)
rest_is c l p h = ap (λ (o : Option Past). after_reading_on c l o) h

pub over_is : (c : ℕ) (l : LoneInstance) (p : Past) → open_at c l.connections ≡ Some p → is_over c l ≡ has_failed p.history
over_is c l p h = ap (λ (o : Option Past). option_map_or (λ (q : Past). has_failed q.history) o true) h

pub raw_more : (d : List Entry) (f : RawFrame) → received_raw_frames (d ++ frame_entries d f) ≡ received_raw_frames d ++ f ∷ []
raw_more d f = filter_map-append raw_in d (frame_entries d f)
    ∙ ap (λ (fs : List RawFrame). received_raw_frames d ++ f ∷ fs) (raw_out [] (outcome d f).put)

-- a frame was read, and the others are left
pub frame_leads : (c : ℕ) (f : RawFrame) (later : List RawFrame) (l : LoneInstance) (p : Past) → open_at c l.connections ≡ Some p →
    has_failed p.history ≡ false → (split CLIENT_PREFACE.now p.text).items ≡ received_raw_frames p.history ++ f ∷ later →
    after_rest_on c (after_frame_on c f l) ≡ after_rest_on c l
frame_leads c f later l p h alive e =
    let k = after_frame_on c f l in
    let after = stepped_wire c (λ q. with_frame q f) l p h in
    let whole = split CLIENT_PREFACE.now p.text in
    let rr = received_raw_frames p.history in
    let back : drop (length (rr ++ f ∷ [])) (rr ++ f ∷ later) ≡ later =
    ap (drop (length (rr ++ f ∷ []))) (sym (append_assoc rr (f ∷ []) later)) ∙ drop-append_seam (rr ++ f ∷ []) later in
    rest_is c k after.0 after.1
    ∙ ap (read_from c k) after.2
    ∙ ap (λ (ns : List RawFrame). after_end_on c whole.end (after_frames_on c (drop (length ns) whole.items) k)) (raw_more p.history f)
    ∙ ap (λ (fs : List RawFrame). after_end_on c whole.end (after_frames_on c fs k)) (ap (drop (length (rr ++ f ∷ []))) e ∙ back)
    ∙ sym (rest_is c l p h
    ∙ ap (λ (fs : List RawFrame). after_end_on c whole.end (after_frames_on c fs l))
    (ap (drop (length rr)) e ∙ drop-append_seam rr (f ∷ later))
    ∙ ap (after_end_on c whole.end) (cond-false (is_over c l) l (after_frames_on c later (after_frame_on c f l)) (over_is c l p h ∙ alive)))

-- ---- a fault

or_true : (b : Bool) → (b || true) ≡ true
or_true true = refl
or_true false = refl

pub failed_now : (d : List Entry) (e : FrameError) (code : ErrorCode) → has_failed d ≡ false →
    has_failed (d ++ fault_entries d e code) ≡ true
failed_now d e code h =
    ap (λ (b : Bool). has_failed (d ++ Unreadable e ∷ map Out (fault_frames b (highest_stream d) code))) h
    ∙ ap (list_any is_goaway) (filter_map-append frame_out d (Unreadable e ∷ Out (goaway_frame (highest_stream d) code) ∷ []))
    ∙ list_any-append is_goaway (sent_frames d) (goaway_frame (highest_stream d) code ∷ [])
    ∙ or_true (list_any is_goaway (sent_frames d))

-- nothing is read behind an error of the connection
over_frames : (c : ℕ) (fs : List RawFrame) (l : LoneInstance) → is_over c l ≡ true → after_frames_on c fs l ≡ l
over_frames c [] l h = refl
over_frames c (f ∷ fs) l h = cond-true (is_over c l) l (after_frames_on c fs (after_frame_on c f l)) h

over_end : (c : ℕ) (end : Result (List ℕ) FrameError) (l : LoneInstance) → is_over c l ≡ true → after_end_on c end l ≡ l
over_end c (Ok rest) l h = refl
over_end c (Err e) l h = cond-true (is_over c l) l (after_fault_on c e l (reading_fault e)) h

pub over_rest : (c : ℕ) (l : LoneInstance) (p : Past) → open_at c l.connections ≡ Some p → has_failed p.history ≡ true →
    after_rest_on c l ≡ l
over_rest c l p h f =
    let whole = split CLIENT_PREFACE.now p.text in
    let over = over_is c l p h ∙ f in
    rest_is c l p h
    ∙ ap (after_end_on c whole.end) (over_frames c (drop (length (received_raw_frames p.history)) whole.items) l over)
    ∙ over_end c whole.end l over

-- the text is at its end
pub read_rest : (c : ℕ) (l : LoneInstance) (p : Past) → open_at c l.connections ≡ Some p → HasNoFrameLeft p → after_rest_on c l ≡ l
read_rest c l p h r =
    rest_is c l p h
    ∙ ap (read_on c l (length (received_raw_frames p.history))) r.1
    ∙ ap (λ (fs : List RawFrame). after_frames_on c fs l) (drop-length (received_raw_frames p.history))

pub nothing_there : (c : ℕ) (l : LoneInstance) → open_at c l.connections ≡ None → after_rest_on c l ≡ l
nothing_there c l h = ap (λ (o : Option Past). after_reading_on c l o) h

pub fault_leads : (c : ℕ) (e : FrameError) (code : ErrorCode) (l : LoneInstance) (p : Past) → open_at c l.connections ≡ Some p →
    has_failed p.history ≡ false → IsNextFault p e code →
    after_rest_on c (after_due_on c (record l { connections = at_open c (λ q. with_fault q e code) l.connections })) ≡ after_rest_on c l
fault_leads c e code l p h alive next =
    let k = after_due_on c (record l { connections = at_open c (λ q. with_fault q e code) l.connections }) in
    let after = stepped_wire c (λ q. with_fault q e code) l p h in
    let now : has_failed after.0.history ≡ true = ap (λ (x : Wire). has_failed x.1) after.2 ∙ failed_now p.history e code alive in
    over_rest c k after.0 after.1 now
    ∙ sym (rest_is c l p h
    ∙ ap (read_on c l (length (received_raw_frames p.history))) next.read
    ∙ ap (λ (fs : List RawFrame). after_end_on c (Err e) (after_frames_on c fs l)) (drop-length (received_raw_frames p.history))
    ∙ cond-false (is_over c l) l (after_fault_on c e l (reading_fault e)) (over_is c l p h ∙ alive)
    ∙ ap (after_fault_on c e l) next.fault)
