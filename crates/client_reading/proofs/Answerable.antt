-- What a frame brings to calls is on live streams.
use Rattle.std.proofs.Common.{◌≡◌, ℕ, List, [], ◌∷◌, ◌++◌, refl, ap, ◌∙◌, sym, subst, length, inl, inr}
use Rattle.std.specs.Prelude.{Bool, true, false, cond, ◌==◌, ◌||◌, map, filter, drop, Result, Ok, Err}
use Rattle.std.specs.List.{AllByRecursion}
use Rattle.std.proofs.lemmas.Bool.{cases_Bool}
use Rattle.std.proofs.lemmas.List.Folds.{list_any-append}
use Rattle.http2_frames.specs.declared.codes.ErrorCode.{ErrorCode}
use Rattle.http2_frames.specs.declared.codes.ErrorCode.TheVariants.{EnhanceYourCalm}
use Rattle.http2_frames.specs.declared.frame.RawFrame.{RawFrame}
use Rattle.http2_streams.specs.declared.event.Event.{Event}
use Rattle.http2_streams.specs.declared.event.Event.TheVariants.{Nothing, Request, Content, Trailers, Cancel}
use Rattle.http2_streams.specs.declared.event.StreamEvent.{StreamEvent}
use Rattle.http2_streams.specs.History.{Entry, live_streams, has_failed, is_ended_by_server}
use Rattle.http2_streams.specs.LiveStreams.{has_stream, IsOnItsStream, live_after_end, live_after, other_streams}
use Rattle.http2_streams.specs.Rules.{answer_after}
use Rattle.http2_streams.specs.Entries.{entries_of}
use Rattle.http2_streams.proofs.EventLaw.{event_on_stream, live_after_frame, stays_whole}
use Rattle.http2_streams.proofs.LiveLaw.{listed_is_live}
use Rattle.http2_streams.specs.Standing.{standing}
use Rattle.grpc_messages.specs.declared.error.MessagesError.{MessagesError}
use Rattle.grpc_messages.specs.Wire.{Split}
use Rattle.grpc_calls.specs.Method.{Method}
use Rattle.grpc_calls.specs.declared.request.HeadFault.{HeadFault}
use Rattle.grpc_calls.specs.Requests.{head_of}
use Rattle.grpc_sending.specs.Bytes.{untaken_count}
use Rattle.grpc_sending.specs.Owed.{Item}
use Rattle.conn_core.specs.declared.event.CallEvent.{CallEvent}
use Rattle.conn_core.specs.declared.event.CallEvent.TheVariants.{Message as MessageCame, Cancel as CallCancel}
use Rattle.conn_core.specs.Calls.{is_call, stream_text, messages_of, events_at_end, events_behind_messages, events_behind_front, events_by_end, events_of_content, events_of_request, call_events_of, cancels, answer_to_head, items_at_once}
use Rattle.conn_core.specs.Past.{Past, with_frame}
use Rattle.conn_core.specs.Floods.{is_flood}
use Rattle.conn_core.specs.Received.{Outcome, outcome, fits, frame_entries}
use Rattle.conn_core.proofs.Answered.{good, outcome_good, outcome_cut, outcome_fault}
use Rattle.conn_core.proofs.Numbers.{any_later, same_number}
use Rattle.client_reading.specs.Answerable.{IsAnswerableStream, IsAnswerable, CanGoOn, AreAnswerableCalls, AnswersOnStreams}
use Rattle.client_reading.specs.Changes.{IsPast}
use Rattle.client_reading.proofs.Choices.{choose, all_append}
use Rattle.client_reading.proofs.Standings.{Stands, as_kept, entries_good, stands_past}
use Rattle.client_reading.proofs.Ends.{EndsLive, ends_past}

abbrev AreAnswerable : List Entry → List CallEvent → Type 0
AreAnswerable d es = AllByRecursion (IsAnswerable d) es

-- ---- the events of one stream

messages_on : (d : List Entry) (s : ℕ) (ms : List (List ℕ)) → IsAnswerableStream d s → AreAnswerable d (map (MessageCame s) ms)
messages_on d s [] h = tt
messages_on d s (m ∷ ms) h = (h, messages_on d s ms h)

end_on : (d : List Entry) (s : ℕ) (rest : List ℕ) → IsAnswerableStream d s → AreAnswerable d (events_at_end s rest)
end_on d s [] h = (h, tt)
end_on d s (b ∷ bs) h = (h, tt)

behind_on : (d : List Entry) (s : ℕ) (e : Bool) (r : Result (List ℕ) MessagesError) → IsAnswerableStream d s →
    AreAnswerable d (events_behind_messages s e r)
behind_on d s true (Ok rest) h = end_on d s rest h
behind_on d s false (Ok rest) h = tt
behind_on d s e (Err fault) h = (h, tt)

by_end_on : (d : List Entry) (r : Result (List ℕ) MessagesError) (es : List CallEvent) → AreAnswerable d es →
    AreAnswerable d (events_by_end r es)
by_end_on d (Ok rest) es h = h
by_end_on d (Err fault) es h = tt

text_on : (d : List Entry) (s : ℕ) (before content : List ℕ) (e : Bool) → IsAnswerableStream d s →
    AreAnswerable d (events_of_content s before content e)
text_on d s before content e h =
    let whole : Split = messages_of (before ++ content) in
    let count : ℕ = length (messages_of before).items in
    by_end_on d (messages_of before).end (events_behind_front s e count whole)
    (all_append (IsAnswerable d) (map (MessageCame s) (drop count whole.items)) (events_behind_messages s e whole.end)
    (messages_on d s (drop count whole.items) h) (behind_on d s e whole.end h))

call_text_on : (d e : List Entry) (s : ℕ) (content : List ℕ) (end_stream : Bool) → IsAnswerableStream e s →
    AreAnswerable e (cond (is_call d s) (events_of_content s (stream_text d s) content end_stream) [])
call_text_on d e s content end_stream h = choose (AreAnswerable e) (is_call d s) (events_of_content s (stream_text d s) content end_stream)
    [] (λ _. text_on e s (stream_text d s) content end_stream h) (λ _. tt)

request_on : (d : List Entry) (s : ℕ) (e : Bool) (r : Result Method HeadFault) → IsAnswerableStream d s →
    AreAnswerable d (events_of_request s e r)
request_on d s e (Ok method) h = (h, text_on d s [] [] e h)
request_on d s e (Err fault) h = tt

cancels_on : (d : List Entry) (ss : List ℕ) → AreAnswerable d (map CallCancel ss)
cancels_on d [] = tt
cancels_on d (s ∷ ss) = (tt, cancels_on d ss)

all_cancels : (d e : List Entry) → AreAnswerable e (cancels d)
all_cancels d e = choose (AreAnswerable e) (has_failed d) [] (map CallCancel (filter (is_call d) (live_streams d))) (λ _. tt)
    (λ _. cancels_on e (filter (is_call d) (live_streams d)))

-- ---- the streams after a frame

-- a live stream is live when the client has ended it, too
end_leaves : (d : List Entry) (s : ℕ) (e : Bool) → EndsLive d → has_stream (live_streams d) s ≡ true →
    has_stream (cond e (live_after_end d s) (live_streams d)) s ≡ true
end_leaves d s false h lives = lives
end_leaves d s true h lives =
    let unended : is_ended_by_server d s ≡ false = h s (listed_is_live d s lives).0 in
    ap (λ b. has_stream (cond b (other_streams s (live_streams d)) (live_streams d)) s) unended ∙ lives

request_last : (s : ℕ) (ss : List ℕ) → has_stream (ss ++ s ∷ []) s ≡ true
request_last s ss = list_any-append (λ t. t == s) ss (s ∷ [])
    ∙ any_later (has_stream ss s) (s == s || false) (ap (λ b. b || false) (same_number s))

-- what is brought is on a stream that is live after it
brought_on : (d e : List Entry) (v : Event) → EndsLive d → IsOnItsStream d v → live_streams e ≡ live_after d v → has_failed e ≡ false →
    AreAnswerable e (call_events_of d v)
brought_on d e Nothing h on after fine = tt
brought_on d e (Request s fields end_stream) h on after fine =
    request_on e s end_stream (head_of fields) (fine, ap (λ (ss : List ℕ). has_stream ss s) after ∙ request_last s (live_streams d))
brought_on d e (Content s content end_stream) h on after fine =
    call_text_on d e s content end_stream (fine, ap (λ (ss : List ℕ). has_stream ss s) after ∙ end_leaves d s end_stream h on)
brought_on d e (Trailers s) h on after fine = call_text_on d e s [] true
    (fine, ap (λ (ss : List ℕ). has_stream ss s) after ∙ end_leaves d s true h on)
brought_on d e (Cancel s) h on after fine = choose (AreAnswerable e) (is_call d s) (CallCancel s ∷ []) [] (λ _. (tt, tt)) (λ _. tt)

abbrev AreOnLive : List Entry → List (ℕ × Item) → Type 0
AreOnLive d xs = AllByRecursion (λ (x : ℕ × Item). IsAnswerableStream d x.0) xs

head_on : (e : List Entry) (s : ℕ) (r : Result Method HeadFault) → IsAnswerableStream e s → AreOnLive e (answer_to_head s r)
head_on e s (Ok method) h = tt
head_on e s (Err fault) h = (h, tt)

at_once_on : (d e : List Entry) (v : Event) → live_streams e ≡ live_after d v → has_failed e ≡ false → AreOnLive e (items_at_once v)
at_once_on d e Nothing after fine = tt
at_once_on d e (Request s fields end_stream) after fine =
    head_on e s (head_of fields) (fine, ap (λ (ss : List ℕ). has_stream ss s) after ∙ request_last s (live_streams d))
at_once_on d e (Content s content end_stream) after fine = tt
at_once_on d e (Trailers s) after fine = tt
at_once_on d e (Cancel s) after fine = tt

-- ---- a frame

abbrev Both : List Entry → List Entry → Outcome → Type 0
Both d e o = AreAnswerable e (cond o.fails (cancels d) (call_events_of d o.event)) × AreOnLive e (items_at_once o.event)

fault_both : (d e : List Entry) (f : RawFrame) (last : ℕ) (code : ErrorCode) (o : Outcome) → o.fails ≡ true → o.event ≡ Nothing → Both d e o
fault_both d e f last code o fails event = (
  subst (λ b. AreAnswerable e (cond b (cancels d) (call_events_of d o.event))) (sym fails)
      (all_cancels d e),
  subst (λ (v : Event). AreOnLive e (items_at_once v)) (sym event) tt,
)

good_both : (d : List Entry) (f : RawFrame) (a : StreamEvent) → Stands d → EndsLive d → has_failed d ≡ false → answer_after d f ≡ Ok a →
    fits (is_flood d f) (untaken_count d) a ≡ true → Both d (d ++ frame_entries d f) (outcome d f)
good_both d f a stands ends fine is fit =
    let es : d ++ entries_of d f ≡ d ++ frame_entries d f = ap (λ (x : List Entry). d ++ x) (sym (entries_good d f a is fit)) in
    let after : live_streams (d ++ frame_entries d f) ≡ live_after d a.event =
    ap live_streams (sym es) ∙ live_after_frame (standing d) d f a (as_kept d stands) fine is in
    let whole : has_failed (d ++ frame_entries d f) ≡ false = ap has_failed (sym es) ∙ stays_whole d f a fine is in
    let brings : Both d (d ++ frame_entries d f) (good a) = (
      brought_on d (d ++ frame_entries d f) a.event ends (event_on_stream d f a is) after whole,
      at_once_on d
          (d ++ frame_entries d f) a.event after whole,
    ) in
    subst (λ (o : Outcome). Both d (d ++ frame_entries d f) o) (sym (outcome_good d f a is fit)) brings

frame_both : (d : List Entry) (f : RawFrame) (r : Result StreamEvent ErrorCode) → answer_after d f ≡ r → Stands d → EndsLive d →
    has_failed d ≡ false → Both d (d ++ frame_entries d f) (outcome d f)
frame_both d f (Err code) is stands ends fine =
    let o = outcome_fault d f code is in
    fault_both d (d ++ frame_entries d f) f 0 code (outcome d f) (ap (λ (x : Outcome). x.fails) o) (ap (λ (x : Outcome). x.event) o)
frame_both d f (Ok a) is stands ends fine = elim (cases_Bool (fits (is_flood d f) (untaken_count d) a)) [
  | inl fit ↦ good_both d f a stands ends fine is fit
  | inr cut ↦ let o = outcome_cut d f a is cut in
      fault_both d (d ++ frame_entries d f) f 0 EnhanceYourCalm (outcome d f) (ap (λ (x : Outcome). x.fails) o)
      (ap (λ (x : Outcome). x.event) o)
]

past_both : (window : ℕ) (p : Past) (f : RawFrame) → IsPast window p → has_failed p.history ≡ false →
    Both p.history (with_frame p f).history (outcome p.history f)
past_both window p f h fine =
    let stands : Stands p.history = subst (λ (q : Past). Stands q.history) (sym h.2) (stands_past window h.0 h.1) in
    let ends : EndsLive p.history = subst (λ (q : Past). EndsLive q.history) (sym h.2) (ends_past window h.0 h.1) in
    frame_both p.history f (answer_after p.history f) refl stands ends fine

pub calls_answerable : (window : ℕ) (p : Past) (f : RawFrame) → IsPast window p → CanGoOn p → AreAnswerableCalls (with_frame p f)
calls_answerable window p f h on = subst (λ (es : List CallEvent). AreAnswerable (with_frame p f).history
    (es ++ cond (outcome p.history f).fails (cancels p.history) (call_events_of p.history (outcome p.history f).event))) (sym on.1)
    (past_both window p f h on.0).0

pub requests_answerable : (window : ℕ) (p : Past) (f : RawFrame) → IsPast window p → CanGoOn p → AnswersOnStreams p f
requests_answerable window p f h on = (past_both window p f h on.0).1
