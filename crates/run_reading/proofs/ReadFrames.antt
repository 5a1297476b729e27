-- What a frame brings to a stream that asks for a blob.
use Rattle.std.proofs.Common.{◌≡◌, ℕ, ◌-◌, ◌<◌, List, [], ◌∷◌, ◌++◌, refl, ap, ◌∙◌, sym, subst, inl, inr}
use Rattle.std.specs.Prelude.{Bool, true, false, cond, ◌==◌, ◌⊎◌, Some, Result, Ok, Err}
use Rattle.std.specs.List.{AllByRecursion}
use Rattle.std.proofs.lemmas.Bool.{cases_Bool, eqb-true}
use Rattle.hpack.specs.Header.{Header}
use Rattle.http2_streams.specs.declared.event.StreamEvent.{StreamEvent}
use Rattle.http2_streams.specs.LiveStreams.{IsOnItsStream}
use Rattle.http2_streams.specs.Rules.{answer_after}
use Rattle.http2_streams.proofs.EventLaw.{event_on_stream}
use Rattle.grpc_calls.specs.Responses.{response_to}
use Rattle.grpc_sending.specs.Bytes.{untaken_count}
use Rattle.grpc_sending.specs.Owed.{OwedItem, Item, Headed, items_owed_on, owed_with_item}
use Rattle.grpc_sending.proofs.Histories.{append-nil}
use Rattle.conn_core.specs.ErrorCode.{ErrorCode}
use Rattle.conn_core.specs.Event.{Event}
use Rattle.conn_core.specs.Event.TheVariants.{Nothing, Request, Content, Trailers, Cancel}
use Rattle.conn_core.specs.Floods.{is_flood}
use Rattle.conn_core.specs.RawFrame.{RawFrame}
use Rattle.conn_core.specs.History.{Entry, highest_stream}
use Rattle.conn_core.specs.HeadFault.{HeadFault}
use Rattle.conn_core.specs.Requests.{head_of}
use Rattle.conn_core.specs.declared.event.CallEvent.{CallEvent}
use Rattle.conn_core.specs.declared.event.CallEvent.TheVariants as Seen
use Rattle.conn_core.specs.Calls.{events, is_call, content_on, stream_text, messages_of, cancels, events_of_content, events_of_request, call_events_of, answer_to_head, items_at_once}
use Rattle.conn_core.specs.Received.{Outcome, outcome, fits}
use Rattle.conn_core.specs.Past.{owed_with_items}
use Rattle.conn_core.proofs.Answered.{outcome_good, outcome_cut, outcome_fault}
use Rattle.conn_core.proofs.Brought.{Brings, text_frame}
use Rattle.conn_core.proofs.Numbers.{same_number}
use Rattle.conn_core.proofs.Opened.{IsOpened, idle}
use Rattle.instance_core.specs.Method.{Method}
use Rattle.instance_core.specs.Method.TheVariants.{Read}
use Rattle.instance_core.specs.Replies.{begins}
use Rattle.served_instance.specs.Calls.{call_event_on}
use Rattle.served_instance.specs.Lone.{LoneInstance, after_call_event, after_call_events}
use Rattle.served_instance.proofs.Brought.{IsShortCall}
use Rattle.client_reading.specs.Answerable.{IsAnswerableStream, IsAnswerable}
use Rattle.client_reading.proofs.Choices.{choose}
use Rattle.run_reading.specs.ReadsBlob.{methods_on, method_on, method_of}
use Rattle.run_reading.proofs.Looks.{look_at, opened}
use Rattle.run_reading.proofs.OneStream.{heads_in, messages_in, BringsNone, all_cancels_bring, AddsMessages, text_brings, text_elsewhere, none_read, methods_frame, uncalled, live_was_opened}
use Rattle.run_reading.proofs.ReadCalls.{answered}
use Rattle.run_reading.proofs.ReadStreams.{messages_to, kept, item_aside, Reads, IsFine, event_fine, read_events, begun}
use Rattle.run_reading.proofs.ReadStands.{Live, fresh, some_method}

-- ---- what is answered at once

pub aside_at_once : (d : List Entry) (os : List OwedItem) (s : ℕ) (xs : List (ℕ × Item)) →
    AllByRecursion (λ (x : ℕ × Item). (x.0 == s) ≡ false) xs → items_owed_on s (owed_with_items d os xs) ≡ items_owed_on s os
aside_at_once d os s [] off = refl
aside_at_once d os s (x ∷ xs) off = aside_at_once d (owed_with_item d os x.0 x.1) s xs off.1 ∙ item_aside d os s x.0 x.1 off.0

unopened : (e : List Entry) (s t : ℕ) → (IsOpened e s → ⊥) → IsAnswerableStream e t → (t == s) ≡ false
unopened e s t none h = elim (cases_Bool (t == s)) [
  | inl at ↦ absurd (none (subst (λ (n : ℕ). IsOpened e n) (eqb-true t s at) (live_was_opened e t h.1)))
  | inr other ↦ other
]

pub all_unopened : (e : List Entry) (s : ℕ) (xs : List (ℕ × Item)) → (IsOpened e s → ⊥) →
    AllByRecursion (λ (x : ℕ × Item). IsAnswerableStream e x.0) xs → AllByRecursion (λ (x : ℕ × Item). (x.0 == s) ≡ false) xs
all_unopened e s [] none h = tt
all_unopened e s (x ∷ xs) none h = (unopened e s x.0 none h.0, all_unopened e s xs none h.1)

pub no_heads_in : (e : List Entry) (s : ℕ) (es : List CallEvent) → (IsOpened e s → ⊥) → AllByRecursion (IsAnswerable e) es →
    heads_in s es ≡ []
no_heads_in e s [] none h = refl
no_heads_in e s (Seen.Head t m ∷ es) none h = ap (λ b. cond b (m ∷ []) [] ++ heads_in s es) (unopened e s t none h.0)
    ∙ no_heads_in e s es none h.1
no_heads_in e s (Seen.Message t bytes ∷ es) none h = no_heads_in e s es none h.1
no_heads_in e s (Seen.Fault t refusal ∷ es) none h = no_heads_in e s es none h.1
no_heads_in e s (Seen.End t ∷ es) none h = no_heads_in e s es none h.1
no_heads_in e s (Seen.Cancel t ∷ es) none h = no_heads_in e s es none h.1

-- ---- what a frame brings, by its event

-- the frame was heard, and its events are still to come
pub record Heard (name : List ℕ) (c s : ℕ) (l : LoneInstance) (d e : List Entry) (os : List OwedItem) (v : Event)
    (es : List CallEvent) : Type 0 where
  pub fine : IsFine name l
  pub short : AllByRecursion IsShortCall es
  pub brings : Brings d e v
  pub look : look_at c s l.connections ≡ Some (opened e (items_owed_on s (owed_with_items e os (items_at_once v))))
  pub live : Live name s (kept c s l) d (items_owed_on s os)

-- what it brings is nothing to the stream
pub record IsNothingTo (s : ℕ) (e : List Entry) (os : List OwedItem) (v : Event) (es : List CallEvent) : Type 0 where
  pub events : BringsNone s es
  pub method : method_on s v ≡ []
  pub content : content_on s v ≡ []
  pub items : items_owed_on s (owed_with_items e os (items_at_once v)) ≡ items_owed_on s os

methods_none : (d e : List Entry) (s : ℕ) (v : Event) → Brings d e v → method_on s v ≡ [] → methods_on e s ≡ Read ∷ [] →
    methods_on d s ≡ Read ∷ []
methods_none d e s v brings none is = sym (append-nil (methods_on d s)) ∙ ap (λ (xs : List Method). methods_on d s ++ xs) (sym none)
    ∙ sym (methods_frame d e v s brings) ∙ is

text_none : (d e : List Entry) (s : ℕ) (v : Event) → Brings d e v → content_on s v ≡ [] → stream_text e s ≡ stream_text d s
text_none d e s v brings none = text_frame d e v s brings ∙ ap (λ (xs : List ℕ). stream_text d s ++ xs) none ∙ append-nil (stream_text d s)

nothing_read : (name : List ℕ) (c s : ℕ) (l : LoneInstance) (d e : List Entry) (os : List OwedItem) (v : Event) (es : List CallEvent) →
    Heard name c s l d e os v es → IsNothingTo s e os v es → methods_on e s ≡ Read ∷ [] →
    Reads name c s (after_call_events c es l) e (messages_to e s)
nothing_read name c s l d e os v es h none is =
    let same : messages_to e s ≡ messages_to d s = ap (λ (t : List ℕ). (messages_of t).items) (text_none d e s v h.brings none.content) in
    let one : Reads name c s l e (messages_to d s) = record {
      items = items_owed_on s os;
      look = h.look ∙ ap (λ (is : List Item). Some (opened e is)) none.items;
      stands = h.live.read (methods_none d e s v h.brings none.method is);
    } in
    subst (Reads name c s (after_call_events c es l) e)
    (ap (λ (xs : List (List ℕ)). messages_to d s ++ xs) none.events.messages ∙ append-nil (messages_to d s) ∙ sym same)
    (read_events name c s es l e (messages_to d s) h.fine h.short none.events.heads one)

-- more of its text
text_read : (name : List ℕ) (c s : ℕ) (l : LoneInstance) (d e : List Entry) (os : List OwedItem) (v : Event) (content : List ℕ)
    (end_stream : Bool) (es : List CallEvent) → Heard name c s l d e os v es
    → method_on s v ≡ [] → content_on s v ≡ content → items_at_once v ≡ [] → es ≡ events_of_content s (stream_text d s) content end_stream →
    methods_on e s ≡ Read ∷ [] → Reads name c s (after_call_events c es l) e (messages_to e s)
text_read name c s l d e os v content end_stream es h no_method brought at_once events is =
    let adds : AddsMessages s (stream_text d s) (stream_text d s ++ content) es =
    subst (AddsMessages s (stream_text d s) (stream_text d s ++ content)) (sym events)
    (text_brings s (stream_text d s) content end_stream) in
    let text : stream_text e s ≡ stream_text d s ++ content =
    text_frame d e v s h.brings ∙ ap (λ (xs : List ℕ). stream_text d s ++ xs) brought in
    let one : Reads name c s l e (messages_to d s) = record {
      items = items_owed_on s os;
      look = h.look ∙ ap (λ (xs : List (ℕ × Item)). Some (opened e (items_owed_on s (owed_with_items e os xs)))) at_once;
      stands = h.live.read (methods_none d e s v h.brings no_method is);
    } in
    subst (Reads name c s (after_call_events c es l) e) (sym adds.items ∙ ap (λ (t : List ℕ). (messages_of t).items) (sym text))
    (read_events name c s es l e (messages_to d s) h.fine h.short adds.heads one)

nothing_of : (s : ℕ) (e : List Entry) (os : List OwedItem) (v : Event) (es : List CallEvent) → BringsNone s es → method_on s v ≡ [] →
    content_on s v ≡ [] → items_at_once v ≡ [] → IsNothingTo s e os v es
nothing_of s e os v es none no_method no_content at_once = record {
  events = none;
  method = no_method;
  content = no_content;
  items = ap (λ (xs : List (ℕ × Item)). items_owed_on s (owed_with_items e os xs)) at_once;
}

no_events : (s : ℕ) → BringsNone s []
no_events s = record { heads = refl; messages = refl }

if_call : (s t : ℕ) (d : List Entry) (content : List ℕ) (end_stream : Bool) → (t == s) ≡ false →
    BringsNone s (cond (is_call d t) (events_of_content t (stream_text d t) content end_stream) [])
if_call s t d content end_stream other = choose (BringsNone s) (is_call d t) (events_of_content t (stream_text d t) content end_stream) []
    (λ _. text_elsewhere s t (stream_text d t) content end_stream other) (λ _. no_events s)

-- ---- a request

request_elsewhere : (s t : ℕ) (end_stream : Bool) (r : Result Method HeadFault) → (t == s) ≡ false →
    BringsNone s (events_of_request t end_stream r)
request_elsewhere s t end_stream (Ok m) other =
    let none = text_elsewhere s t [] [] end_stream other in
    record {
      heads = ap (λ b. cond b (m ∷ []) [] ++ heads_in s (events_of_content t [] [] end_stream)) other ∙ none.heads;
      messages =
          none.messages;
    }
request_elsewhere s t end_stream (Err fault) other = record { heads = refl; messages = refl }

head_items_aside : (e : List Entry) (os : List OwedItem) (s t : ℕ) (r : Result Method HeadFault) → (t == s) ≡ false →
    items_owed_on s (owed_with_items e os (answer_to_head t r)) ≡ items_owed_on s os
head_items_aside e os s t (Ok m) other = refl
head_items_aside e os s t (Err fault) other = item_aside e os s t (Headed (response_to fault)) other

request_read : (name : List ℕ) (c s : ℕ) (l : LoneInstance) (d e : List Entry) (os : List OwedItem) (fields : List Header)
    (end_stream : Bool) (r : Result Method HeadFault) → head_of fields ≡ r → highest_stream d < s
    → Heard name c s l d e os (Request s fields end_stream) (events_of_request s end_stream r) → methods_on e s ≡ Read ∷ [] →
    Reads name c s (after_call_events c (events_of_request s end_stream r) l) e (messages_to e s)
request_read name c s l d e os fields end_stream r head above h is = go r head h where
  uncalled_d : methods_on d s ≡ []
  uncalled_d = uncalled d s (idle d s above).0

  methods : method_of (head_of fields) ≡ Read ∷ []
  methods =
      sym (ap (λ b. cond b (method_of (head_of fields)) []) (same_number s))
      ∙ ap (λ (xs : List Method). xs ++ method_on s (Request s fields end_stream)) (sym uncalled_d)
      ∙ sym (methods_frame d e (Request s fields end_stream) s h.brings) ∙ is

  text : stream_text e s ≡ []
  text = text_none d e s (Request s fields end_stream) h.brings refl ∙ (idle d s above).1

  go : (r : Result Method HeadFault) → head_of fields ≡ r →
      Heard name c s l d e os (Request s fields end_stream) (events_of_request s end_stream r) →
      Reads name c s (after_call_events c (events_of_request s end_stream r) l) e (messages_to e s)
  go (Err fault) head h = absurd (let no : [] ≡ Read ∷ [] = sym (ap method_of head) ∙ methods in let z : ⊥ = cc in z)
  go (Ok m) head h =
      let one : m ∷ [] ≡ Read ∷ [] = sym (ap method_of head) ∙ methods in
      let reads : m ≡ Read = cc in
      let empty = h.live.idle (fresh d s above) in
      let at_once : items_at_once (Request s fields end_stream) ≡ [] = ap (answer_to_head s) head in
      let look : look_at c s l.connections ≡ Some (opened e (items_owed_on s os)) =
      h.look ∙ ap (λ (xs : List (ℕ × Item)). Some (opened e (items_owed_on s (owed_with_items e os xs)))) at_once in
      let more : List CallEvent = events_of_content s [] [] end_stream in
      let adds = text_brings s [] [] end_stream in
      let ms : [] ++ messages_in s more ≡ messages_to e s =
      ap (λ (xs : List (List ℕ)). xs ++ messages_in s more) (sym none_read) ∙ sym adds.items
      ∙ ap (λ (t : List ℕ). (messages_of t).items) (sym text) in
      let begins : Reads name c s (after_call_event (call_event_on c (Seen.Head s Read)) l) e [] =
      begun name c s l e (items_owed_on s os) look empty.0 empty.1 in
      let all : Reads name c s (after_call_events c (Seen.Head s Read ∷ more) l) e ([] ++ messages_in s more) =
      read_events name c s more (after_call_event (call_event_on c (Seen.Head s Read)) l) e []
      (event_fine name c (Seen.Head s Read) l tt h.fine) h.short.1 adds.heads begins in
      subst (λ (x : Method). Reads name c s (after_call_events c (Seen.Head s x ∷ more) l) e (messages_to e s)) (sym reads)
      (subst (Reads name c s (after_call_events c (Seen.Head s Read ∷ more) l) e) ms all)

-- ---- all events of frames

off_or_on : (s t : ℕ) → ((t == s) ≡ true) ⊎ ((t == s) ≡ false)
off_or_on s t = cases_Bool (t == s)

event_read : (name : List ℕ) (c s : ℕ) (l : LoneInstance) (d e : List Entry) (os : List OwedItem) (v : Event) → IsOnItsStream d v →
    Heard name c s l d e os v (call_events_of d v) → methods_on e s ≡ Read ∷ [] →
    Reads name c s (after_call_events c (call_events_of d v) l) e (messages_to e s)
event_read name c s l d e os Nothing on h is =
    nothing_read name c s l d e os Nothing [] h (nothing_of s e os Nothing [] (no_events s) refl refl refl) is
event_read name c s l d e os (Request t fields end_stream) on h is = go (off_or_on s t) where
  go : ((t == s) ≡ true) ⊎ ((t == s) ≡ false) → Reads name c s (after_call_events c (call_events_of d (Request t fields end_stream)) l) e
      (messages_to e s)
  go (inr other) = nothing_read name c s l d e os (Request t fields end_stream) (events_of_request t end_stream (head_of fields)) h
      (record {
        events = request_elsewhere s t end_stream (head_of fields) other;
        method = ap (λ b. cond b (method_of (head_of fields)) []) other;
        content = refl;
        items = head_items_aside e os s t (head_of fields) other;
      }) is
  go (inl at) = moved t (eqb-true t s at) on h where
    moved : (t : ℕ) → t ≡ s → highest_stream d < t →
        Heard name c s l d e os (Request t fields end_stream) (events_of_request t end_stream (head_of fields)) →
        Reads name c s (after_call_events c (events_of_request t end_stream (head_of fields)) l) e (messages_to e s)
    moved t same above h =
        subst (λ (n : ℕ). Reads name c s (after_call_events c (events_of_request n end_stream (head_of fields)) l) e (messages_to e s))
        (sym same)
        (request_read name c s l d e os fields end_stream (head_of fields) refl (subst (λ (n : ℕ). highest_stream d < n) same above)
        (subst (λ (n : ℕ). Heard name c s l d e os (Request n fields end_stream) (events_of_request n end_stream (head_of fields))) same h)
        is)
event_read name c s l d e os (Content t content end_stream) on h is = go (off_or_on s t) where
  v : Event
  v = Content t content end_stream

  go : ((t == s) ≡ true) ⊎ ((t == s) ≡ false) → Reads name c s (after_call_events c (call_events_of d v) l) e (messages_to e s)
  go (inr other) = nothing_read name c s l d e os v (call_events_of d v) h
      (nothing_of s e os v (call_events_of d v) (if_call s t d content end_stream other) refl (ap (λ b. cond b content []) other) refl) is
  go (inl at) =
      let called : is_call d s ≡ true = some_method d s (methods_none d e s v h.brings refl is) in
      let events : call_events_of d v ≡ events_of_content s (stream_text d s) content end_stream =
      ap (λ (n : ℕ). cond (is_call d n) (events_of_content n (stream_text d n) content end_stream) []) (eqb-true t s at)
      ∙ ap (λ b. cond b (events_of_content s (stream_text d s) content end_stream) []) called in
      text_read name c s l d e os v content end_stream (call_events_of d v) h refl (ap (λ b. cond b content []) at) refl events is
event_read name c s l d e os (Trailers t) on h is = go (off_or_on s t) where
  v : Event
  v = Trailers t

  go : ((t == s) ≡ true) ⊎ ((t == s) ≡ false) → Reads name c s (after_call_events c (call_events_of d v) l) e (messages_to e s)
  go (inr other) = nothing_read name c s l d e os v (call_events_of d v) h
      (nothing_of s e os v (call_events_of d v) (if_call s t d [] true other) refl refl refl) is
  go (inl at) =
      let called : is_call d s ≡ true = some_method d s (methods_none d e s v h.brings refl is) in
      let events : call_events_of d v ≡ events_of_content s (stream_text d s) [] true =
      ap (λ (n : ℕ). cond (is_call d n) (events_of_content n (stream_text d n) [] true) []) (eqb-true t s at)
      ∙ ap (λ b. cond b (events_of_content s (stream_text d s) [] true) []) called in
      text_read name c s l d e os v [] true (call_events_of d v) h refl refl refl events is
event_read name c s l d e os (Cancel t) on h is =
    nothing_read name c s l d e os (Cancel t) (call_events_of d (Cancel t)) h
    (nothing_of s e os (Cancel t) (call_events_of d (Cancel t))
    (choose (BringsNone s) (is_call d t) (Seen.Cancel t ∷ []) [] (λ _. record { heads = refl; messages = refl }) (λ _. no_events s))
    refl refl refl) is

-- what a frame comes to that is no error is on its stream; an error brings nothing
good_event : (d : List Entry) (f : RawFrame) → (outcome d f).fails ≡ false → IsOnItsStream d (outcome d f).event
good_event d f fine = go (answer_after d f) refl where
  go : (r : Result StreamEvent ErrorCode) → answer_after d f ≡ r → IsOnItsStream d (outcome d f).event
  go (Err code) is = let no : true ≡ false = sym (ap (λ (o : Outcome). o.fails) (outcome_fault d f code is)) ∙ fine in
      absurd (let z : ⊥ = cc in z)
  go (Ok a) is = elim (cases_Bool (fits (is_flood d f) (untaken_count d) a)) [
    | inl fit ↦ subst (IsOnItsStream d) (sym (ap (λ (o : Outcome). o.event) (outcome_good d f a is fit))) (event_on_stream d f a is)
    | inr short ↦ let no : true ≡ false = sym (ap (λ (o : Outcome). o.fails) (outcome_cut d f a is short)) ∙ fine in
        absurd (let z : ⊥ = cc in z)
  ]

bad_event : (d : List Entry) (f : RawFrame) → (outcome d f).fails ≡ true → (outcome d f).event ≡ Nothing
bad_event d f bad = go (answer_after d f) refl where
  go : (r : Result StreamEvent ErrorCode) → answer_after d f ≡ r → (outcome d f).event ≡ Nothing
  go (Err code) is = ap (λ (o : Outcome). o.event) (outcome_fault d f code is)
  go (Ok a) is = elim (cases_Bool (fits (is_flood d f) (untaken_count d) a)) [
    | inl fit ↦ let no : false ≡ true = sym (ap (λ (o : Outcome). o.fails) (outcome_good d f a is fit)) ∙ bad in
        absurd (let z : ⊥ = cc in z)
    | inr short ↦ ap (λ (o : Outcome). o.event) (outcome_cut d f a is short)
  ]

pub frame_read : (name : List ℕ) (c s : ℕ) (l : LoneInstance) (d e : List Entry) (os : List OwedItem) (f : RawFrame)
    → Heard name c s l d e os (outcome d f).event (cond (outcome d f).fails (cancels d) (call_events_of d (outcome d f).event)) →
    methods_on e s ≡ Read ∷ []
    → Reads name c s (after_call_events c (cond (outcome d f).fails (cancels d) (call_events_of d (outcome d f).event)) l) e
    (messages_to e s)
frame_read name c s l d e os f h is = go (outcome d f).fails refl h where
  go : (b : Bool) → (outcome d f).fails ≡ b → Heard name c s l d e os (outcome d f).event
      (cond b (cancels d) (call_events_of d (outcome d f).event))
      → Reads name c s (after_call_events c (cond b (cancels d) (call_events_of d (outcome d f).event)) l) e (messages_to e s)
  go false fine h = event_read name c s l d e os (outcome d f).event (good_event d f fine) h is
  go true bad h =
      let none : (outcome d f).event ≡ Nothing = bad_event d f bad in
      nothing_read name c s l d e os (outcome d f).event (cancels d) h
      (nothing_of s e os (outcome d f).event (cancels d) (all_cancels_bring s d) (ap (method_on s) none) (ap (content_on s) none)
      (ap items_at_once none)) is
