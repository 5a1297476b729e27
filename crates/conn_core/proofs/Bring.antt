-- What is kept after an event stands for the past with its frame.
use Rattle.std.proofs.Common.{◌≡◌, ℕ, List, [], ◌∷◌, ◌++◌, length, refl, ap, ◌∙◌, sym, subst}
use Rattle.std.specs.Prelude.{Bool, true, false, ◌==◌, ◌||◌, cond, map, Result, Ok, Err, OnOk}
use Rattle.std.specs.List.{list_any}
use Rattle.std.specs.Result.{is_ok}
use Rattle.hpack.specs.Header.{Header}
use Rattle.http2_frames.specs.declared.frame.RawFrame.{RawFrame}
use Rattle.http2_streams.specs.declared.stream.Stream.{Stream}
use Rattle.http2_streams.specs.declared.event.Event.{Event}
use Rattle.http2_streams.specs.declared.event.Event.TheVariants.{Nothing, Request, Content, Trailers, Cancel}
use Rattle.http2_streams.specs.History.{Entry, live_streams, is_not_closed, is_ended_by_server, has_failed}
use Rattle.http2_streams.specs.LiveStreams.{live_after_end}
use Rattle.http2_streams.specs.Rules.{number_is}
use Rattle.http2_streams.specs.Standing.{Standing, stream_at}
use Rattle.http2_streams.specs.StandsFor.{AreStreams}
use Rattle.rpc.specs.declared.method.Method.{Method}
use Rattle.grpc_calls.specs.declared.request.HeadFault.{HeadFault}
use Rattle.grpc_calls.specs.declared.response.ResponseBlock.{ResponseBlock}
use Rattle.grpc_calls.specs.Requests.{head_of}
use Rattle.grpc_calls.specs.Responses.{response_to}
use Rattle.grpc_sending.specs.Owed.{OwedItem, Headed, owed_with_item}
use Rattle.grpc_sending.specs.StoredSending.{SourceTexts, StoredSending, IsStoredSending, AddsNothing, AddsToLive, stored_on}
use Rattle.grpc_sending.proofs.Histories.{append-nil}
use Rattle.conn_core.specs.declared.call.Call.{Call}
use Rattle.conn_core.specs.declared.event.CallEvent.{CallEvent}
use Rattle.conn_core.specs.Received.{outcome, frame_entries}
use Rattle.conn_core.specs.Calls.{events, is_call, stream_text, call_events_of, events_of_request, cancels, items_at_once, answer_to_head}
use Rattle.conn_core.specs.Past.{Past, with_frame, owed_with_items}
use Rattle.conn_core.specs.StandsFor.{ConnectionValue, IsConnection, call_on, calls_kept}
use Rattle.conn_core.specs.Step.{after_frame, HasBrought, BringsEvent}
use Rattle.conn_core.specs.CallSteps.{TakesOn, BeginsCall, without_call, has_call, cancel_if}
use Rattle.conn_core.proofs.Events.{events_frame}
use Rattle.conn_core.proofs.Numbers.{or_none, same_number}
use Rattle.conn_core.proofs.Places.{has_is_some, kept_open}
use Rattle.conn_core.proofs.Brought.{Brings, After, AfterText, IsSieved, call_frame, text_frame, called, sieve_none, sieve_if, after_nothing, after_text, after_cancel}
use Rattle.conn_core.proofs.Began.{after_refused, after_begun, thinned}
use Rattle.conn_core.proofs.Reset.{reset_stream}
use Rattle.conn_core.proofs.Forgets.{KeepsOut, Forgets, unmet, unlisted, keeps_closed, some_brought, none_ended}
use Rattle.std.proofs.Common.{inr}

abbrev pub kept_as : ConnectionValue → StoredSending → List Call → List CallEvent → ConnectionValue
kept_as v w cs due = record {
  reader = v.reader;
  streams = v.streams;
  sending = w;
  calls = cs;
  due = due;
  ended = v.ended;
  reset_count =
      v.reset_count;
}

brings : (p : Past) (f : RawFrame) (event : Event) → (outcome p.history f).event ≡ event → Brings p.history (after_frame p f) event
brings p f event is = events_frame p.history f ∙ ap (λ (x : Event). events p.history ++ x ∷ []) is

brought_by : (texts : SourceTexts) (v : ConnectionValue) (w : StoredSending) (cs : List Call) (due : List CallEvent) (p : Past)
    (f : RawFrame) (event : Event) → HasBrought texts v p f event →
    IsStoredSending texts w (after_frame p f) (owed_with_items (after_frame p f) p.owed (items_at_once event)) →
    due ≡ v.due ++ call_events_of p.history event → After (after_frame p f) cs → KeepsOut (after_frame p f) v.sending.queues w.queues →
    Forgets event w.queues → IsConnection texts (kept_as v w cs due) (with_frame p f)
brought_by texts v w cs due p f event h sending events after none forgets = record {
  ended = h.ended ∙ sym h.lives;
  streams = h.streams;
  sending = subst (λ (x : Event). IsStoredSending texts w (after_frame p f) (owed_with_items (after_frame p f) p.owed (items_at_once x)))
      (sym h.is_event) sending;
  due = events
      ∙ ap (λ (es : List CallEvent). es ++ call_events_of p.history event) h.due
      ∙ ap (λ (x : Event). p.due ++ call_events_of p.history x) (sym h.is_event)
      ∙ ap (λ (b : Bool). p.due ++ cond b (cancels p.history) (call_events_of p.history (outcome p.history f).event)) (sym h.fits);
  over = λ failed s. unmet (stored_on s w.queues ≡ []) (has_failed (after_frame p f)) h.lives failed;
  alive = λ alive. record {
    reader = h.reader;
    calls = after.calls;
    order = after.order;
    live =
        some_brought p.history (after_frame p f) event v.sending.queues w.queues h.change.streams none forgets h.calls.finished h.calls.live;
    finished = none_ended p.history (after_frame p f) v.sending.queues w.queues h.ends h.change.falls
        (keeps_closed (after_frame p f) v.sending.queues w.queues none) h.calls.finished;
    counted = h.counted;
  };
}

-- ---- no event

nothing_stands : (texts : SourceTexts) (v : ConnectionValue) (p : Past) (f : RawFrame) → HasBrought texts v p f Nothing →
    IsConnection texts v (with_frame p f)
nothing_stands texts v p f h =
    let d : List Entry = p.history in
    let e : List Entry = after_frame p f in
    brought_by texts v v.sending v.calls v.due p f Nothing h h.sending (sym (append-nil v.due))
    (after_nothing p.history (after_frame p f) v.calls (brings p f Nothing h.is_event)
    (sieve_none p.history (after_frame p f) h.change.streams) h.change.falls h.calls.calls h.calls.order) (λ s out none. none) tt

pub nothing_by : (texts : SourceTexts) (v : ConnectionValue) (event : Event) → event ≡ Nothing → (p : Past) (f : RawFrame) →
    HasBrought texts v p f event → IsConnection texts v (with_frame p f)
nothing_by texts v event is p f h = nothing_stands texts v p f (subst (λ (x : Event). HasBrought texts v p f x) is h)

pub brings_by : {T E : Type 0} (r : Result T E) (v x : ConnectionValue) (event brought : Event) → event ≡ brought →
    OnOk r (BringsEvent v brought x) → OnOk r (BringsEvent v event x)
brings_by r v x event brought is h = subst (λ (z : Event). OnOk r (BringsEvent v z x)) (sym is) h

-- ---- more of a request

ended_sieve : (d e : List Entry) (s : ℕ) (b : Bool) → live_streams e ≡ cond b (live_after_end d s) (live_streams d) → IsSieved d e
ended_sieve d e s true h = sieve_if d e (is_ended_by_server d s) s h
ended_sieve d e s false h = sieve_none d e h

content_stands : (texts : SourceTexts) (v : ConnectionValue) (cs : List Call) (due : List CallEvent) (s : ℕ) (content : List ℕ)
    (end_stream : Bool) (p : Past) (f : RawFrame) → TakesOn s content end_stream v.calls cs v.due due →
    HasBrought texts v p f (Content s content end_stream) → IsConnection texts (kept_as v v.sending cs due) (with_frame p f)
content_stands texts v cs due s content end_stream p f takes h =
    let b : Brings p.history (after_frame p f) (Content s content end_stream) = brings p f (Content s content end_stream) h.is_event in
    let a : AfterText p.history (after_frame p f) s content end_stream cs v.due due =
    after_text p.history (after_frame p f) s content end_stream v.calls cs v.due due
    (λ t. call_frame p.history (after_frame p f) (Content s content end_stream) t b ∙ or_none (is_call p.history t))
    (λ t other. text_frame p.history (after_frame p f) (Content s content end_stream) t b
    ∙ ap (λ (x : Bool). stream_text p.history t ++ cond x content []) other ∙ append-nil (stream_text p.history t))
    (text_frame p.history (after_frame p f) (Content s content end_stream) s b
    ∙ ap (λ (x : Bool). stream_text p.history s ++ cond x content []) (same_number s))
    (ended_sieve p.history (after_frame p f) s end_stream h.change.streams) h.change.falls
    (h.change.opened s h.change.event).1 h.calls.calls h.calls.order takes in
    brought_by texts v v.sending cs due p f (Content s content end_stream) h h.sending a.events a.holds (λ s out none. none) tt

pub content_by : (texts : SourceTexts) {T E : Type 0} (r : Result T E) (v old : ConnectionValue) (cs : List Call) (due : List CallEvent)
    (s : ℕ) (content : List ℕ) (end_stream : Bool) → v ≡ old → OnOk r (TakesOn s content end_stream v.calls cs v.due due) →
    OnOk r ((p : Past) (f : RawFrame) → HasBrought texts old p f (Content s content end_stream) →
    IsConnection texts (kept_as v v.sending cs due) (with_frame p f))
content_by texts (Err x) v old cs due s content end_stream is takes = tt
content_by texts (Ok x) v old cs due s content end_stream is takes =
    λ p f h. content_stands texts v cs due s content end_stream p f takes
    (subst (λ (y : ConnectionValue). HasBrought texts y p f (Content s content end_stream)) (sym is) h)

trailers_stand : (texts : SourceTexts) (v : ConnectionValue) (cs : List Call) (due : List CallEvent) (s : ℕ) (p : Past) (f : RawFrame) →
    TakesOn s [] true v.calls cs v.due due → HasBrought texts v p f (Trailers s) →
    IsConnection texts (kept_as v v.sending cs due) (with_frame p f)
trailers_stand texts v cs due s p f takes h =
    let b : Brings p.history (after_frame p f) (Trailers s) = brings p f (Trailers s) h.is_event in
    let a : AfterText p.history (after_frame p f) s [] true cs v.due due =
    after_text p.history (after_frame p f) s [] true v.calls cs v.due due
    (λ t. call_frame p.history (after_frame p f) (Trailers s) t b ∙ or_none (is_call p.history t))
    (λ t other. text_frame p.history (after_frame p f) (Trailers s) t b ∙ append-nil (stream_text p.history t))
    (text_frame p.history (after_frame p f) (Trailers s) s b)
    (sieve_if p.history (after_frame p f) (is_ended_by_server p.history s) s h.change.streams) h.change.falls
    (h.change.opened s h.change.event).1 h.calls.calls h.calls.order takes in
    brought_by texts v v.sending cs due p f (Trailers s) h h.sending a.events a.holds (λ s out none. none) tt

pub trailers_by : (texts : SourceTexts) {T E : Type 0} (r : Result T E) (v old : ConnectionValue) (cs : List Call) (due : List CallEvent)
    (s : ℕ) → v ≡ old → OnOk r (TakesOn s [] true v.calls cs v.due due) →
    OnOk r ((p : Past) (f : RawFrame) → HasBrought texts old p f (Trailers s) →
    IsConnection texts (kept_as v v.sending cs due) (with_frame p f))
trailers_by texts (Err x) v old cs due s is takes = tt
trailers_by texts (Ok x) v old cs due s is takes =
    λ p f h. trailers_stand texts v cs due s p f takes (subst (λ (y : ConnectionValue). HasBrought texts y p f (Trailers s)) (sym is) h)

-- ---- a stream that was reset

cancel_stands : (texts : SourceTexts) (v : ConnectionValue) (w : StoredSending) (due : List CallEvent) (s : ℕ) (p : Past) (f : RawFrame) →
    ((d : List Entry) (os : List OwedItem) → is_not_closed d s ≡ false → IsStoredSending texts v.sending d os →
    IsStoredSending texts w d os) → AddsNothing v.sending w → stored_on s w.queues ≡ [] → due ≡ v.due ++ cancel_if (has_call s v.calls) s →
    HasBrought texts v p f (Cancel s) → IsConnection texts (kept_as v w (without_call s v.calls) due) (with_frame p f)
cancel_stands texts v w due s p f forgets none dropped events h =
    let b : Brings p.history (after_frame p f) (Cancel s) = brings p f (Cancel s) h.is_event in
    let gone : is_not_closed (after_frame p f) s ≡ false =
    reset_stream p.history (frame_entries p.history f) s h.change.event h.change.streams in
    let call : has_call s v.calls ≡ is_call p.history s =
    has_is_some s v.calls ∙ sym (called p.history s (call_on s v.calls) (h.calls.calls s (h.change.opened s h.change.event).1)) in
    brought_by texts v w (without_call s v.calls) due p f (Cancel s) h (forgets (after_frame p f) p.owed gone h.sending)
    (events ∙ ap (λ (x : Bool). v.due ++ cancel_if x s) call)
    (after_cancel p.history (after_frame p f) s v.calls b h.change.streams gone h.change.falls h.calls.calls h.calls.order)
    (λ t out. none t)
    dropped

pub cancel_by : (texts : SourceTexts) {T E : Type 0} (r : Result T E) (v old : ConnectionValue) (w : StoredSending) (cs : List Call)
    (due : List CallEvent) (s : ℕ) → v ≡ old → ((d : List Entry) (os : List OwedItem) → is_not_closed d s ≡ false →
    IsStoredSending texts v.sending d os → IsStoredSending texts w d os) → AddsNothing v.sending w → stored_on s w.queues ≡ [] →
    OnOk r (cs ≡ without_call s v.calls) → OnOk r (due ≡ v.due ++ cancel_if (has_call s v.calls) s) →
    OnOk r ((p : Past) (f : RawFrame) → HasBrought texts old p f (Cancel s) → IsConnection texts (kept_as v w cs due) (with_frame p f))
cancel_by texts (Err x) v old w cs due s is forgets none dropped calls events = tt
cancel_by texts (Ok x) v old w cs due s is forgets none dropped calls events = λ p f h.
    subst (λ (ys : List Call). IsConnection texts (kept_as v w ys due) (with_frame p f)) (sym calls)
    (cancel_stands texts v w due s p f forgets none dropped events
    (subst (λ (y : ConnectionValue). HasBrought texts y p f (Cancel s)) (sym is) h))

-- ---- a request

numbers_are : (e : List Entry) (t : ℕ) (ss : List ℕ) → list_any (number_is t) (map (stream_at e) ss) ≡ list_any (λ u. u == t) ss
numbers_are e t [] = refl
numbers_are e t (s ∷ ss) = ap (λ (b : Bool). (s == t) || b) (numbers_are e t ss)

pub listed_streams : (v : Standing) (d : List Entry) (t : ℕ) → AreStreams v d → has_failed d ≡ false →
    list_any (number_is t) v.live ≡ list_any (λ u. u == t) (live_streams d)
listed_streams v d t at alive = ap (λ (x : Standing). list_any (number_is t) x.live) (at.state alive).is ∙ numbers_are d t (live_streams d)

begun_stands : (texts : SourceTexts) (v : ConnectionValue) (cs : List Call) (due : List CallEvent) (s : ℕ) (fields : List Header)
    (end_stream : Bool) (method : Method) (p : Past) (f : RawFrame) → head_of fields ≡ Ok method →
    BeginsCall s method end_stream v.streams.live v.calls cs v.due due → HasBrought texts v p f (Request s fields end_stream) →
    IsConnection texts (kept_as v v.sending cs due) (with_frame p f)
begun_stands texts v cs due s fields end_stream method p f head begins h =
    let b : Brings p.history (after_frame p f) (Request s fields end_stream) = brings p f (Request s fields end_stream) h.is_event in
    let thin = thinned p.history (after_frame p f) s fields end_stream v.streams.live v.calls
    (calls_kept (length v.calls) v.streams.live v.calls) h.change h.calls.calls
    (λ t. listed_streams v.streams (after_frame p f) t h.streams h.lives) (kept_open (length v.calls) v.streams.live v.calls _ refl) in
    let a : After (after_frame p f) (calls_kept (length v.calls) v.streams.live v.calls ++ begins.call ∷ []) =
    after_begun p.history (after_frame p f) s fields end_stream v.calls
    (calls_kept (length v.calls) v.streams.live v.calls) begins.call b
    (ap is_ok head) h.change h.calls.calls h.calls.order thin begins.stream begins.messages in
    brought_by texts v v.sending cs due p f (Request s fields end_stream) h
    (subst (λ (o : Result Method HeadFault). IsStoredSending texts v.sending (after_frame p f)
    (owed_with_items (after_frame p f) p.owed (answer_to_head s o))) (sym head) h.sending)
    (begins.events ∙ ap (λ (o : Result Method HeadFault). v.due ++ events_of_request s end_stream o) (sym head))
    (subst (λ (ys : List Call). After (after_frame p f) ys) (sym begins.calls) a) (λ s' out none. none) tt

pub begun_by : (texts : SourceTexts) {T E : Type 0} (r : Result T E) (v old : ConnectionValue) (cs : List Call) (due : List CallEvent)
    (s : ℕ) (fields : List Header) (end_stream : Bool) (method : Method) (streams : List Stream) → v ≡ old → head_of fields ≡ Ok method →
    streams ≡ v.streams.live → OnOk r (BeginsCall s method end_stream streams v.calls cs v.due due) →
    OnOk r ((p : Past) (f : RawFrame) → HasBrought texts old p f (Request s fields end_stream) →
    IsConnection texts (kept_as v v.sending cs due) (with_frame p f))
begun_by texts (Err x) v old cs due s fields end_stream method streams is head lives begins = tt
begun_by texts (Ok x) v old cs due s fields end_stream method streams is head lives begins =
    λ p f h. begun_stands texts v cs due s fields end_stream method p f head
    (subst (λ (ss : List Stream). BeginsCall s method end_stream ss v.calls cs v.due due) lives begins)
    (subst (λ (y : ConnectionValue). HasBrought texts y p f (Request s fields end_stream)) (sym is) h)

refused_stands : (texts : SourceTexts) (v : ConnectionValue) (w : StoredSending) (s : ℕ) (fields : List Header) (end_stream : Bool)
    (fault : HeadFault) (p : Past) (f : RawFrame) → head_of fields ≡ Err fault →
    ((d : List Entry) (os : List OwedItem) → AreStreams v.streams d → IsStoredSending texts v.sending d os →
    IsStoredSending texts w d (owed_with_item d os s (Headed (response_to fault)))) → AddsToLive v.streams v.sending w →
    HasBrought texts v p f (Request s fields end_stream) → IsConnection texts (kept_as v w v.calls v.due) (with_frame p f)
refused_stands texts v w s fields end_stream fault p f head owes none h =
    let b : Brings p.history (after_frame p f) (Request s fields end_stream) = brings p f (Request s fields end_stream) h.is_event in
    brought_by texts v w v.calls v.due p f (Request s fields end_stream) h
    (subst (λ (o : Result Method HeadFault). IsStoredSending texts w (after_frame p f)
    (owed_with_items (after_frame p f) p.owed (answer_to_head s o))) (sym head) (owes (after_frame p f) p.owed h.streams h.sending))
    (sym (append-nil v.due) ∙ ap (λ (o : Result Method HeadFault). v.due ++ events_of_request s end_stream o) (sym head))
    (after_refused p.history (after_frame p f) s fields end_stream v.calls b (ap is_ok head) h.change h.calls.calls h.calls.order)
    (λ s' out. none s' (inr (unlisted v.streams (after_frame p f) s' h.streams h.lives out)))
    tt

pub refused_by : (texts : SourceTexts) {T E : Type 0} (r : Result T E) (v old : ConnectionValue) (w : StoredSending) (s : ℕ)
    (fields : List Header) (end_stream : Bool) (fault : HeadFault) (block : ResponseBlock) → v ≡ old → head_of fields ≡ Err fault →
    block ≡ response_to fault → AddsToLive v.streams v.sending w →
    OnOk r ((d : List Entry) (os : List OwedItem) → AreStreams v.streams d → IsStoredSending texts v.sending d os →
    IsStoredSending texts w d (owed_with_item d os s (Headed block))) →
    OnOk r ((p : Past) (f : RawFrame) → HasBrought texts old p f (Request s fields end_stream) →
    IsConnection texts (kept_as v w v.calls v.due) (with_frame p f))
refused_by texts (Err x) v old w s fields end_stream fault block is head answer none owes = tt
refused_by texts (Ok x) v old w s fields end_stream fault block is head answer none owes = λ p f h.
    refused_stands texts v w s fields end_stream fault p f head
    (λ d os at sending. subst (λ (y : ResponseBlock). IsStoredSending texts w d (owed_with_item d os s (Headed y))) answer
    (owes d os at sending)) none (subst (λ (y : ConnectionValue). HasBrought texts y p f (Request s fields end_stream)) (sym is) h)
