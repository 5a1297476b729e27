-- What a frame brings to the call on one stream.
use Rattle.std.proofs.Common.{◌≡◌, ℕ, ◌<◌, ◌≤◌, List, [], ◌∷◌, ◌++◌, refl, ap, ◌∙◌, sym, subst, append_assoc, length, arith, drop, inl, inr}
use Rattle.std.specs.Prelude.{Bool, true, false, cond, ◌==◌, ◌||◌, ◌&&◌, map, filter, Result, Ok, Err}
use Rattle.std.specs.List.{AllByRecursion, flat_map, list_any}
use Rattle.std.specs.Result.{is_ok}
use Rattle.std.proofs.lemmas.Bool.{and_parts, cases_Bool, eqb-true}
use Rattle.std.proofs.lemmas.Grind.{flat_map-append}
use Rattle.http2_streams.specs.declared.event.Event.{Event}
use Rattle.http2_streams.specs.declared.event.Event.TheVariants.{Nothing, Request, Content, Trailers, Cancel}
use Rattle.http2_streams.specs.History.{Entry, has_failed, live_streams, opened_streams, is_not_closed}
use Rattle.grpc_messages.specs.declared.error.MessagesError.{MessagesError}
use Rattle.grpc_messages.specs.Wire.{Split}
use Rattle.grpc_messages.specs.Reading.{message_format}
use Rattle.grpc_messages.proofs.Fronts.{steady}
use Rattle.http2_frames.specs.Items.{divide_in}
use Rattle.http2_frames.proofs.WireItemsDivisions.{grows}
use Rattle.grpc_sending.proofs.Histories.{append-nil}
use Rattle.grpc_calls.specs.declared.request.HeadFault.{HeadFault}
use Rattle.grpc_calls.specs.Requests.{head_of}
use Rattle.conn_core.specs.declared.event.CallEvent.{CallEvent}
use Rattle.conn_core.specs.declared.event.CallEvent.TheVariants as Seen
use Rattle.conn_core.specs.Calls.{events, is_call, begins_call, content_on, stream_text, message_limit, messages_of, message_refusal, events_at_end, events_behind_messages, events_behind_front, events_by_end, events_of_content, events_of_request, call_events_of, cancels}
use Rattle.conn_core.proofs.Brought.{Brings, call_frame, text_frame}
use Rattle.conn_core.proofs.Numbers.{same_number}
use Rattle.conn_core.proofs.Opened.{IsOpened, call_opened}
use Rattle.conn_core.proofs.StreamsLaws.{in_live}
use Rattle.instance_core.specs.Method.{Method}
use Rattle.instance_core.specs.Method.TheVariants.{Read}
use Rattle.client_reading.proofs.Choices.{choose}
use Rattle.run_reading.specs.ReadsBlob.{method_of, method_on, methods_on}

-- ---- what events of calls bring to stream s

abbrev pub head_in : ℕ → CallEvent → List Method
head_in s (Seen.Head t method) = cond (t == s) (method ∷ []) []
head_in s (Seen.Message t bytes) = []
head_in s (Seen.Fault t refusal) = []
head_in s (Seen.End t) = []
head_in s (Seen.Cancel t) = []

abbrev pub message_in : ℕ → CallEvent → List (List ℕ)
message_in s (Seen.Head t method) = []
message_in s (Seen.Message t bytes) = cond (t == s) (bytes ∷ []) []
message_in s (Seen.Fault t refusal) = []
message_in s (Seen.End t) = []
message_in s (Seen.Cancel t) = []

abbrev pub heads_in : ℕ → List CallEvent → List Method
heads_in s es = flat_map (head_in s) es

abbrev pub messages_in : ℕ → List CallEvent → List (List ℕ)
messages_in s es = flat_map (message_in s) es

heads_append : (s : ℕ) (es fs : List CallEvent) → heads_in s (es ++ fs) ≡ heads_in s es ++ heads_in s fs
heads_append s es fs = flat_map-append (head_in s) es fs

messages_append : (s : ℕ) (es fs : List CallEvent) → messages_in s (es ++ fs) ≡ messages_in s es ++ messages_in s fs
messages_append s es fs = flat_map-append (message_in s) es fs

-- neither a head nor a message
pub record BringsNone (s : ℕ) (es : List CallEvent) : Type 0 where
  pub heads : heads_in s es ≡ []
  pub messages : messages_in s es ≡ []

cancels_bring : (s : ℕ) (ts : List ℕ) → BringsNone s (map Seen.Cancel ts)
cancels_bring s [] = record { heads = refl; messages = refl }
cancels_bring s (t ∷ ts) = let more = cancels_bring s ts in record { heads = more.heads; messages = more.messages }

pub all_cancels_bring : (s : ℕ) (d : List Entry) → BringsNone s (cancels d)
all_cancels_bring s d = choose (BringsNone s) (has_failed d) [] (map Seen.Cancel (filter (is_call d) (live_streams d)))
    (λ _. record { heads = refl; messages = refl }) (λ _. cancels_bring s (filter (is_call d) (live_streams d)))

end_brings : (s t : ℕ) (rest : List ℕ) → BringsNone s (events_at_end t rest)
end_brings s t [] = record { heads = refl; messages = refl }
end_brings s t (b ∷ bs) = record { heads = refl; messages = refl }

behind_brings : (s t : ℕ) (e : Bool) (r : Result (List ℕ) MessagesError) → BringsNone s (events_behind_messages t e r)
behind_brings s t true (Ok rest) = end_brings s t rest
behind_brings s t false (Ok rest) = record { heads = refl; messages = refl }
behind_brings s t e (Err fault) = record { heads = refl; messages = refl }

-- messages on a stream
messages_on : (s : ℕ) (ms : List (List ℕ)) → messages_in s (map (Seen.Message s) ms) ≡ ms
messages_on s [] = refl
messages_on s (m ∷ ms) = ap (λ b. cond b (m ∷ []) [] ++ messages_in s (map (Seen.Message s) ms)) (same_number s)
    ∙ ap (λ xs. m ∷ xs) (messages_on s ms)

messages_elsewhere : (s t : ℕ) (ms : List (List ℕ)) → (t == s) ≡ false → messages_in s (map (Seen.Message t) ms) ≡ []
messages_elsewhere s t [] other = refl
messages_elsewhere s t (m ∷ ms) other = ap (λ b. cond b (m ∷ []) [] ++ messages_in s (map (Seen.Message t) ms)) other
    ∙ messages_elsewhere s t ms other

no_heads : (s t : ℕ) (ms : List (List ℕ)) → heads_in s (map (Seen.Message t) ms) ≡ []
no_heads s t [] = refl
no_heads s t (m ∷ ms) = no_heads s t ms

drop_front : {A : Type 0} (xs ys : List A) → drop (length xs) (xs ++ ys) ≡ ys
drop_front [] ys = refl
drop_front (x ∷ xs) ys = drop_front xs ys

-- ---- more of the text of a stream

-- what is brought stands behind the messages before
pub record AddsMessages (s : ℕ) (before after : List ℕ) (es : List CallEvent) : Type 0 where
  pub heads : heads_in s es ≡ []
  pub items : (messages_of after).items ≡ (messages_of before).items ++ messages_in s es

front_brings : (s t : ℕ) (ms : List (List ℕ)) (tail : List CallEvent) → BringsNone s tail →
    heads_in s (map (Seen.Message t) ms ++ tail) ≡ []
front_brings s t ms tail none = heads_append s (map (Seen.Message t) ms) tail ∙ ap (λ xs. xs ++ heads_in s tail) (no_heads s t ms)
    ∙ none.heads

pub text_brings : (s : ℕ) (before content : List ℕ) (e : Bool) →
    AddsMessages s before (before ++ content) (events_of_content s before content e)
text_brings s before content e = go (messages_of before).end refl where
  whole : Split
  whole = messages_of (before ++ content)

  more : List (List ℕ)
  more = drop (length (messages_of before).items) whole.items

  go : (r : Result (List ℕ) MessagesError) → (messages_of before).end ≡ r →
      AddsMessages s before (before ++ content) (events_by_end r (map (Seen.Message s) more ++ events_behind_messages s e whole.end))
  go (Ok rest) is =
      let none = behind_brings s s e whole.end in
      let g = (grows (message_format message_limit) (steady message_limit) before content).more in
      let same : more ≡ g.0 = ap (drop (length (messages_of before).items)) g.1 ∙ drop_front (messages_of before).items g.0 in
      let brought : messages_in s (map (Seen.Message s) more ++ events_behind_messages s e whole.end) ≡ g.0 =
      messages_append s (map (Seen.Message s) more) (events_behind_messages s e whole.end)
      ∙ ap (λ xs. messages_in s (map (Seen.Message s) more) ++ xs) none.messages
      ∙ append-nil (messages_in s (map (Seen.Message s) more)) ∙ messages_on s more ∙ same in
      record {
        heads = front_brings s s more (events_behind_messages s e whole.end) none;
        items = g.1 ∙ ap (λ xs. (messages_of before).items ++ xs) (sym brought);
      }
  go (Err fault) is =
      let g = (grows (message_format message_limit) (steady message_limit) before content).ended fault is in
      record { heads = refl; items = ap (λ (d : Split). d.items) g ∙ sym (append-nil (messages_of before).items) }

-- on another stream
pub text_elsewhere : (s t : ℕ) (before content : List ℕ) (e : Bool) → (t == s) ≡ false → BringsNone s (events_of_content t before content e)
text_elsewhere s t before content e other = go (messages_of before).end where
  whole : Split
  whole = messages_of (before ++ content)

  more : List (List ℕ)
  more = drop (length (messages_of before).items) whole.items

  go : (r : Result (List ℕ) MessagesError) → BringsNone s
      (events_by_end r (map (Seen.Message t) more ++ events_behind_messages t e whole.end))
  go (Ok rest) =
      let none = behind_brings s t e whole.end in
      record {
        heads = front_brings s t more (events_behind_messages t e whole.end) none;
        messages = messages_append s (map (Seen.Message t) more) (events_behind_messages t e whole.end)
            ∙ ap (λ xs. xs ++ messages_in s (events_behind_messages t e whole.end)) (messages_elsewhere s t more other) ∙ none.messages;
      }
  go (Err fault) = record { heads = refl; messages = refl }

-- nothing at all is read of no bytes
pub none_read : (messages_of []).items ≡ []
unfolding divide_in
none_read = refl

-- ---- the methods of a stream

pub methods_frame : (d e : List Entry) (event : Event) (s : ℕ) → Brings d e event → methods_on e s ≡ methods_on d s ++ method_on s event
methods_frame d e event s h = ap (flat_map (method_on s)) h ∙ flat_map-append (method_on s) (events d) (event ∷ [])
    ∙ ap (λ (xs : List Method). methods_on d s ++ xs) (append-nil (method_on s event))

or_parts : (a b : Bool) → (a || b) ≡ false → (a ≡ false) × (b ≡ false)
or_parts true b h = cc
or_parts false b h = (refl, h)

none_begun : (s t : ℕ) (r : Result Method HeadFault) → (t == s && is_ok r) ≡ false → cond (t == s) (method_of r) [] ≡ []
none_begun s t r h = go (t == s) r h where
  go : (b : Bool) (r : Result Method HeadFault) → (b && is_ok r) ≡ false → cond b (method_of r) [] ≡ []
  go true (Ok m) h = absurd (let z : ⊥ = cc in z)
  go true (Err fault) h = refl
  go false r h = refl

no_method : (s : ℕ) (e : Event) → begins_call s e ≡ false → method_on s e ≡ []
no_method s Nothing h = refl
no_method s (Request t fields end_stream) h = none_begun s t (head_of fields) h
no_method s (Content t content end_stream) h = refl
no_method s (Trailers t) h = refl
no_method s (Cancel t) h = refl

none_called : (s : ℕ) (es : List Event) → list_any (begins_call s) es ≡ false → flat_map (method_on s) es ≡ []
none_called s [] h = refl
none_called s (e ∷ es) h =
    let p = or_parts (begins_call s e) (list_any (begins_call s) es) h in
    ap (λ xs. xs ++ flat_map (method_on s) es) (no_method s e p.0) ∙ none_called s es p.1

pub uncalled : (d : List Entry) (s : ℕ) → is_call d s ≡ false → methods_on d s ≡ []
uncalled d s h = none_called s (events d) h

-- a stream that is live was opened
pub live_was_opened : (d : List Entry) (s : ℕ) → list_any (λ t. t == s) (live_streams d) ≡ true → IsOpened d s
live_was_opened d s h = (and_parts (list_any (λ t. t == s) (opened_streams d)) (is_not_closed d s) (sym (in_live d s) ∙ h)).0
