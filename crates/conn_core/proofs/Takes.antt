-- One call takes more of the text of its request.
use Rattle.std.proofs.Common.{◌≡◌, ◌≢◌, ℕ, List, [], ◌∷◌, ◌++◌, refl, ap, ◌∙◌, sym, subst, append_assoc}
use Rattle.std.specs.Prelude.{Bool, true, false, ◌&&◌, map, Option, Some, None, Result, Ok, Err, IfErr, IfOk, IfNone, IsOk, OnOk}
use Rattle.std.specs.Result.{is_ok}
use Rattle.std.proofs.lemmas.List.{map-append}
use Rattle.grpc_messages.specs.declared.error.MessagesError.{MessagesError}
use Rattle.grpc_messages.specs.declared.error.MessagesError.TheVariants.{NoMemory}
use Rattle.grpc_messages.specs.Wire.{Split}
use Rattle.grpc_messages.specs.Reading.{message_format, split}
use Rattle.grpc_messages.specs.Reader.{bytes_left, messages_in, AreMessages}
use Rattle.grpc_messages.proofs.Fronts.{steady}
use Rattle.http2_frames.proofs.WireItemsDivisions.{grows}
use Rattle.grpc_sending.proofs.Histories.{append-nil}
use Rattle.conn_core.specs.declared.event.CallEvent.{CallEvent}
use Rattle.conn_core.specs.declared.event.CallEvent.TheVariants.{Message, Fault}
use Rattle.conn_core.specs.Calls.{message_limit, messages_of, events_at_end, events_behind_messages, events_of_content, message_refusal}
use Rattle.conn_core.specs.CallSteps.{GaveMessages, GaveAll, TakesAll}
use Rattle.conn_core.proofs.Texts.{rest_is, no_more, more_is, stands_behind}

abbrev Kept : Type 0
Kept = Result (List ℕ) MessagesError

abbrev Stands : Kept → Kept → List (List ℕ) → Type 0
Stands old new ms = (text : List ℕ) (given : List (List ℕ)) → AreMessages message_limit old text given →
    AreMessages message_limit new text (given ++ ms)

-- ---- the loop

pub gave_more : (given : List (List ℕ)) (s t : ℕ) (old mid new : Kept) (before after later : List CallEvent) (message : List ℕ) →
    GaveMessages given s t old mid before after → Stands mid new (message ∷ []) → later ≡ after ++ Message t message ∷ [] →
    GaveMessages (given ++ message ∷ []) s t old new before later
gave_more given s t old mid new before after later message h stands events = record {
  stream = h.stream;
  events = events
      ∙ ap (λ (es : List CallEvent). es ++ Message t message ∷ []) h.events
      ∙ append_assoc before (map (Message s) given) (Message t message ∷ [])
      ∙ ap (λ (n : ℕ). before ++ (map (Message s) given ++ Message n message ∷ [])) h.stream
      ∙ ap (λ (es : List CallEvent). before ++ es) (sym (map-append (Message s) given (message ∷ [])));
  stands = λ u earlier st. subst (λ (gs : List (List ℕ)). AreMessages message_limit new u gs) (append_assoc earlier given (message ∷ []))
      (stands u (earlier ++ given) (h.stands u earlier st));
}

pub gave_more_by : (given : List (List ℕ)) (s t : ℕ) (old mid new : Kept) (before after later : List CallEvent) (message : List ℕ)
    (r : Result (Option (List ℕ)) MessagesError) → GaveMessages given s t old mid before after → r ≡ Ok (Some message) →
    ((text : List ℕ) (gs : List (List ℕ)) → AreMessages message_limit mid text gs →
    AreMessages message_limit new text (gs ++ messages_in r)) → later ≡ after ++ Message t message ∷ [] →
    GaveMessages (given ++ message ∷ []) s t old new before later
gave_more_by given s t old mid new before after later message r h is stands events =
    gave_more given s t old mid new before after later message h
    (λ text gs st. subst (λ (x : Result (Option (List ℕ)) MessagesError). AreMessages message_limit new text (gs ++ messages_in x)) is
    (stands text gs st)) events

pub gave_all : (given : List (List ℕ)) (s t : ℕ) (old mid new : Kept) (before after : List CallEvent) →
    GaveMessages given s t old mid before after → Stands mid new [] →
    ((text : List ℕ) (gs : List (List ℕ)) → AreMessages message_limit mid text gs →
    split message_limit text ≡ record { items = gs; end = Ok (bytes_left new) }) → TakesAll s true old new before after
gave_all given s t old mid new before after h stands none u earlier st =
    let at : AreMessages message_limit mid u (earlier ++ given) = h.stands u earlier st in
    let is = none u (earlier ++ given) at in
    let now : AreMessages message_limit new u (earlier ++ given) =
    subst (λ (gs : List (List ℕ)). AreMessages message_limit new u gs) (append-nil (earlier ++ given))
    (stands u (earlier ++ given) at) in
    let end : (messages_of u).end ≡ Ok (bytes_left new) = ap (λ (x : Split). x.end) is in (
      given,
      record {
        all = ap (λ (x : Split). x.items) is;
        end = rest_is message_limit new u (earlier ++ given) now is;
        whole = ap (λ (e : Kept). is_ok e) end;
        events = h.events ∙ ap (λ (es : List CallEvent). before ++ es)
            (sym (ap (λ (e : Kept). map (Message s) given ++ events_behind_messages s false e) end ∙ append-nil (map (Message s) given)));
      },
    )

pub gave_all_by : (given : List (List ℕ)) (s t : ℕ) (old mid new : Kept) (before after : List CallEvent)
    (r : Result (Option (List ℕ)) MessagesError) → GaveMessages given s t old mid before after → r ≡ Ok None →
    ((text : List ℕ) (gs : List (List ℕ)) → AreMessages message_limit mid text gs →
    AreMessages message_limit new text (gs ++ messages_in r)) →
    IfOk r (λ o. IfNone o ((text : List ℕ) (gs : List (List ℕ)) → AreMessages message_limit mid text gs →
    split message_limit text ≡ record { items = gs; end = Ok (bytes_left new) })) → TakesAll s true old new before after
gave_all_by given s t old mid new before after r h is stands none =
    gave_all given s t old mid new before after h
    (λ text gs st. subst (λ (x : Result (Option (List ℕ)) MessagesError). AreMessages message_limit new text (gs ++ messages_in x)) is
    (stands text gs st))
    (subst (λ (x : Result (Option (List ℕ)) MessagesError). IfOk x
    (λ o. IfNone o ((text : List ℕ) (gs : List (List ℕ)) → AreMessages message_limit mid text gs →
    split message_limit text ≡ record { items = gs; end = Ok (bytes_left new) }))) is none)

pub gave_fault : (given : List (List ℕ)) (s t : ℕ) (old mid new : Kept) (before after later : List CallEvent) (fault : MessagesError) →
    GaveMessages given s t old mid before after →
    ((text : List ℕ) (gs : List (List ℕ)) → AreMessages message_limit mid text gs →
    split message_limit text ≡ record { items = gs; end = Err fault }) → new ≡ Err fault →
    later ≡ after ++ Fault t (message_refusal fault) ∷ [] → TakesAll s false old new before later
gave_fault given s t old mid new before after later fault h refused is events u earlier st =
    let at : AreMessages message_limit mid u (earlier ++ given) = h.stands u earlier st in
    let split_is = refused u (earlier ++ given) at in
    let end : (messages_of u).end ≡ Err fault = ap (λ (x : Split). x.end) split_is in (
      given,
      record {
        all = ap (λ (x : Split). x.items) split_is;
        end = is ∙ sym end;
        whole = ap (λ (e : Kept). is_ok e) end;
        events = events
            ∙ ap (λ (es : List CallEvent). es ++ Fault t (message_refusal fault) ∷ []) h.events
            ∙ append_assoc before (map (Message s) given) (Fault t (message_refusal fault) ∷ [])
            ∙ ap (λ (n : ℕ). before ++ (map (Message s) given ++ Fault n (message_refusal fault) ∷ [])) h.stream
            ∙ ap (λ (e : Kept). before ++ (map (Message s) given ++ events_behind_messages s false e)) (sym end);
      },
    )

pub gave_fault_by : (given : List (List ℕ)) (s t : ℕ) (old mid new : Kept) (before after later : List CallEvent) (fault : MessagesError)
    (r : Result (Option (List ℕ)) MessagesError) → GaveMessages given s t old mid before after → r ≡ Err fault → fault ≢ NoMemory →
    IfErr r (λ e. e ≢ NoMemory → (text : List ℕ) (gs : List (List ℕ)) → AreMessages message_limit mid text gs →
    split message_limit text ≡ record { items = gs; end = Err e }) → IfErr r (λ e. e ≢ NoMemory → new ≡ Err e) →
    later ≡ after ++ Fault t (message_refusal fault) ∷ [] → TakesAll s false old new before later
gave_fault_by given s t old mid new before after later fault r h is other refused lasts events =
    gave_fault given s t old mid new before after later fault h
    (subst (λ (x : Result (Option (List ℕ)) MessagesError). IfErr x
    (λ e. e ≢ NoMemory → (text : List ℕ) (gs : List (List ℕ)) → AreMessages message_limit mid text gs →
    split message_limit text ≡ record { items = gs; end = Err e })) is refused other)
    (subst (λ (x : Result (Option (List ℕ)) MessagesError). IfErr x (λ e. e ≢ NoMemory → new ≡ Err e)) is lasts other)
    events

-- ---- a whole step

-- what is kept of the longer text, and what its data brought
pub record Took (s : ℕ) (content : List ℕ) (end_stream : Bool) (new : Kept) (before after : List CallEvent) (t : List ℕ) : Type 0 where
  pub messages : new ≡ (messages_of (t ++ content)).end
  pub events : after ≡ before ++ events_of_content s t content end_stream

abbrev pub Takes : ℕ → List ℕ → Bool → Kept → Kept → List CallEvent → List CallEvent → Type 0
Takes s content end_stream old new before after = (t : List ℕ) → old ≡ (messages_of t).end → Took s content end_stream new before after t

-- after a fault
pub took_refused : (s : ℕ) (content : List ℕ) (end_stream : Bool) (old new : Kept) (es : List CallEvent) (fault : MessagesError) →
    fault ≢ NoMemory → (IsOk old → fault ≡ NoMemory) → new ≡ old → Takes s content end_stream old new es es
took_refused s content end_stream (Ok bytes) new es fault other ok same t h = absurd (other (ok refl))
took_refused s content end_stream (Err e) new es fault other ok same t h =
    let lasts : messages_of (t ++ content) ≡ messages_of t =
    (grows (message_format message_limit) (steady message_limit) t content).ended e (sym h) in
    record {
      messages = same ∙ h ∙ ap (λ (x : Split). x.end) (sym lasts);
      events = sym (ap (λ (xs : List CallEvent). es ++ xs) (no_more s t content end_stream e (sym h)) ∙ append-nil es);
    }

abbrev pub fed_ok : Result Unit MessagesError
fed_ok = Ok tt

-- what was behind the messages of the front was no fault
was_whole : (old : Kept) → IfErr old (λ e. fed_ok ≡ Err e) → (rest : List ℕ) × (old ≡ Ok rest)
was_whole (Ok bytes) h = (bytes, refl)
was_whole (Err e) h = absurd cc

behind_end : (s : ℕ) (end m : Kept) → m ≡ end → is_ok end ≡ true →
    events_behind_messages s false end ++ events_at_end s (bytes_left m) ≡ events_behind_messages s true end
behind_end s (Ok rest) m is ok = ap (λ (x : Kept). events_at_end s (bytes_left x)) is
behind_end s (Err e) m is ok = absurd cc

behind_open : (s : ℕ) (whole end_stream : Bool) (end : Kept) → is_ok end ≡ whole → (whole && end_stream) ≡ false →
    events_behind_messages s false end ≡ events_behind_messages s end_stream end
behind_open s whole end_stream (Err e) ok h = refl
behind_open s whole false (Ok rest) ok h = refl
behind_open s whole true (Ok rest) ok h = let k : (true && true) ≡ false = ap (λ (b : Bool). b && true) ok ∙ h in absurd cc

took_from : (s : ℕ) (content rest : List ℕ) (end_stream whole : Bool) (given : List (List ℕ)) (new : Kept)
    (before after later : List CallEvent) (t : List ℕ) → (messages_of t).end ≡ Ok rest →
    GaveAll given (messages_of t).items (t ++ content) s whole new before after →
    later ≡ before ++ (map (Message s) given ++ events_behind_messages s end_stream (messages_of (t ++ content)).end) →
    Took s content end_stream new before later t
took_from s content rest end_stream whole given new before after later t first g events = record {
  messages = g.end;
  events = events ∙ ap (λ (es : List CallEvent). before ++ es) (sym (more_is s t content rest end_stream given first g.all));
}

abbrev Fed : Kept → Kept → List ℕ → Type 0
Fed old fed content = (text : List ℕ) (given : List (List ℕ)) → AreMessages message_limit old text given →
    AreMessages message_limit fed (text ++ content) given

at_front : (old fed : Kept) (content t : List ℕ) → Fed old fed content → old ≡ (messages_of t).end →
    AreMessages message_limit fed (t ++ content) (messages_of t).items
at_front old fed content t feeds h = feeds t (messages_of t).items
    (subst (λ (m : Kept). AreMessages message_limit m t (messages_of t).items) (sym h) (stands_behind message_limit t))

-- the request goes on, or a fault was met
pub took_open : (s : ℕ) (content : List ℕ) (end_stream whole : Bool) (old fed new : Kept) (before after : List CallEvent) →
    IfErr old (λ e. fed_ok ≡ Err e) → Fed old fed content → TakesAll s whole fed new before after → (whole && end_stream) ≡ false →
    Takes s content end_stream old new before after
took_open s content end_stream whole old fed new before after first feeds takes open' t h =
    let w = was_whole old first in
    let g = takes (t ++ content) (messages_of t).items (at_front old fed content t feeds h) in
    took_from s content w.0 end_stream whole g.0 new before after after t (sym h ∙ w.1) g.1
    (g.1.events ∙ ap (λ (es : List CallEvent). before ++ (map (Message s) g.0 ++ es))
    (behind_open s whole end_stream (messages_of (t ++ content)).end g.1.whole open'))

-- the request ends behind whole messages, or in one
pub took_end : (s : ℕ) (content : List ℕ) (old fed new : Kept) (before after later : List CallEvent) → IfErr old (λ e. fed_ok ≡ Err e) →
    Fed old fed content → TakesAll s true fed new before after → later ≡ after ++ events_at_end s (bytes_left new) →
    Takes s content true old new before later
took_end s content old fed new before after later first feeds takes events t h =
    let w = was_whole old first in
    let g = takes (t ++ content) (messages_of t).items (at_front old fed content t feeds h) in
    let end : Kept = (messages_of (t ++ content)).end in
    took_from s content w.0 true true g.0 new before after later t (sym h ∙ w.1) g.1
    (events
    ∙ ap (λ (es : List CallEvent). es ++ events_at_end s (bytes_left new)) g.1.events
    ∙ append_assoc before (map (Message s) g.0 ++ events_behind_messages s false (messages_of (t ++ content)).end)
    (events_at_end s (bytes_left new))
    ∙ ap (λ (es : List CallEvent). before ++ es) (append_assoc (map (Message s) g.0)
    (events_behind_messages s false (messages_of (t ++ content)).end) (events_at_end s (bytes_left new)))
    ∙ ap (λ (es : List CallEvent). before ++ (map (Message s) g.0 ++ es))
    (behind_end s (messages_of (t ++ content)).end new g.1.end g.1.whole))

-- ---- the same by what the code holds

pub took_end_by : {T E : Type 0} (r : Result T E) (s n : ℕ) (content : List ℕ) (end_stream whole : Bool) (old fed new : Kept)
    (before after later : List CallEvent) → end_stream ≡ true → whole ≡ true → n ≡ s → IfErr old (λ e. fed_ok ≡ Err e) →
    Fed old fed content → TakesAll s whole fed new before after → OnOk r (later ≡ after ++ events_at_end n (bytes_left new)) →
    OnOk r (Takes s content end_stream old new before later)
took_end_by (Err x) s n content end_stream whole old fed new before after later ends is at first feeds takes events = tt
took_end_by (Ok x) s n content end_stream whole old fed new before after later ends is at first feeds takes events =
    subst (λ (b : Bool). Takes s content b old new before later) (sym ends)
    (took_end s content old fed new before after later first feeds (subst (λ (b : Bool). TakesAll s b fed new before after) is takes)
    (events ∙ ap (λ (k : ℕ). after ++ events_at_end k (bytes_left new)) at))

pub took_messages : {T E : Type 0} (r : Result T E) (s : ℕ) (content : List ℕ) (end_stream : Bool) (old new : Kept)
    (before after : List CallEvent) → OnOk r (Takes s content end_stream old new before after) →
    OnOk r ((t : List ℕ) → old ≡ (messages_of t).end → new ≡ (messages_of (t ++ content)).end)
took_messages (Err x) s content end_stream old new before after h = tt
took_messages (Ok x) s content end_stream old new before after h = λ t k. (h t k).messages

pub took_events : {T E : Type 0} (r : Result T E) (s : ℕ) (content : List ℕ) (end_stream : Bool) (old new : Kept)
    (before after : List CallEvent) → OnOk r (Takes s content end_stream old new before after) →
    OnOk r ((t : List ℕ) → old ≡ (messages_of t).end → after ≡ before ++ events_of_content s t content end_stream)
took_events (Err x) s content end_stream old new before after h = tt
took_events (Ok x) s content end_stream old new before after h = λ t k. (h t k).events
