-- What one call of a reader says of the split of the text that it stands for.
use Rattle.std.proofs.Common.{◌≡◌, ◌≢◌, ℕ, ◌+◌, ◌<◌, ◌≤◌, inl, inr, List, [], ◌∷◌, ◌++◌, length, drop, Option, Some, None, Result, Ok, Err, IfOk, IfErr, IfNone, IfSome, IsErrOf, OnOk, OnSome, refl, sym, ap, subst, ◌∙◌, append_assoc, arith, length-append}
use Rattle.std.proofs.lemmas.List.{append-nil, length-drop, length-take-le}
use Rattle.http2_frames.specs.Items.{behind, rest_only, fault_only}
use Rattle.http2_frames.proofs.WireItemsDivisions.{divide_partial, divide_fault, divide_whole, divide_whole_more, divide_fault_more}
use Rattle.http2_frames.proofs.Givings.{given_more, given_now, given_all, given_fault}
use Rattle.grpc_messages.specs.declared.error.MessagesError.{MessagesError}
use Rattle.grpc_messages.specs.declared.error.MessagesError.TheVariants.{Compressed, TooLarge, CutOff, NoMemory}
use Rattle.grpc_messages.specs.Wire.{Split, end_of_rest, size_of, IsUnfinished}
use Rattle.grpc_messages.specs.Reading.{whole_at, message_at, message_format, split}
use Rattle.grpc_messages.specs.Reader.{bytes_left, split_left, with_more_bytes, AreMessages, messages_in}
use Rattle.grpc_messages.specs.Step.{step_by_front, step, TakesMessage, end_by_front, ends_at}
use Rattle.grpc_messages.proofs.Fronts.{unfinished_is, IsWhole, whole_is, steady}

abbrev Reader : Type 0
Reader = Result (List ℕ) MessagesError

abbrev Answer : Type 0
Answer = Result (Option (List ℕ)) MessagesError

-- what is left when more bytes follow
abbrev left : ℕ → Reader → List ℕ → Split
left limit v more = split_left limit (with_more_bytes v more)

followed_twice : (v : Reader) (piece more : List ℕ) → with_more_bytes (with_more_bytes v piece) more ≡ with_more_bytes v (piece ++ more)
followed_twice (Ok bytes) piece more = ap (λ (x : List ℕ). Ok x) (append_assoc bytes piece more)
followed_twice (Err e) piece more = refl

pub stands_fed : (limit : ℕ) (v : Reader) (piece text : List ℕ) (given : List (List ℕ)) → AreMessages limit v text given →
    AreMessages limit (with_more_bytes v piece) (text ++ piece) given
stands_fed limit v piece text given stands more =
    ap (split limit) (append_assoc text piece more) ∙ stands (piece ++ more)
    ∙ ap (λ (x : Reader). behind given (split_left limit x)) (sym (followed_twice v piece more))

pub stands_on_ok : (limit : ℕ) (r : Result Unit MessagesError) (old : Reader) (piece : List ℕ) (new : Reader) →
    OnOk r (new ≡ with_more_bytes old piece)
    → OnOk r ((text : List ℕ) (given : List (List ℕ)) → AreMessages limit old text given → AreMessages limit new (text ++ piece) given)
stands_on_ok limit (Ok u) old piece new e = λ text given stands.
    subst (λ (v : Reader). AreMessages limit v (text ++ piece) given) (sym e) (stands_fed limit old piece text given stands)
stands_on_ok limit (Err d) old piece new e = tt

taken_follows : (limit : ℕ) (v : Reader) (more : List ℕ) →
    split_left limit (with_more_bytes v more) ≡ behind (messages_in (step limit v).0)
    (split_left limit (with_more_bytes (step limit v).1 more))
taken_follows limit (Err e) more = refl
taken_follows limit (Ok bytes) more = at_front (whole_at limit bytes) refl where
  at_front : (w : Result (Option ℕ) MessagesError) → whole_at limit bytes ≡ w →
      split limit (bytes ++ more) ≡ behind (messages_in (step_by_front w bytes).0)
      (split_left limit (with_more_bytes (step_by_front w bytes).1 more))
  at_front (Ok None) e = refl
  at_front (Ok (Some n)) e = divide_whole_more (message_format limit) (steady limit) bytes more n e
  at_front (Err d) e = divide_fault_more (message_format limit) (steady limit) bytes more d e

-- what the answer says of the split where no message is taken
abbrev SaysEnd : ℕ → Reader → Answer → Reader → Type 0
SaysEnd limit old (Ok None) new = (split_left limit old ≡ rest_only (bytes_left new)) × IsUnfinished limit (bytes_left new)
SaysEnd limit old (Ok (Some f)) new = Unit {0}
SaysEnd limit old (Err e) new = (split_left limit old ≡ fault_only e) × (new ≡ Err e)

taken_ends : (limit : ℕ) (v : Reader) → SaysEnd limit v (step limit v).0 (step limit v).1
taken_ends limit (Err e) = (refl, refl)
taken_ends limit (Ok bytes) = at_front (whole_at limit bytes) refl where
  at_front : (w : Result (Option ℕ) MessagesError) → whole_at limit bytes ≡ w →
      SaysEnd limit (Ok bytes) (step_by_front w bytes).0 (step_by_front w bytes).1
  at_front (Ok None) e = (divide_partial (message_format limit) (steady limit) bytes e, unfinished_is limit bytes e)
  at_front (Ok (Some n)) e = tt
  at_front (Err d) e = (divide_fault (message_format limit) (steady limit) bytes d e, refl)

taken_as : (limit : ℕ) (old : Reader) (r : Answer) (new : Reader) → step limit old ≡ (r, new) → (more : List ℕ) →
    split_left limit (with_more_bytes old more) ≡ behind (messages_in r) (split_left limit (with_more_bytes new more))
taken_as limit old r new e more = taken_follows limit old more
    ∙ ap (λ (x : Answer × Reader). behind (messages_in x.0) (split_left limit (with_more_bytes x.1 more))) e

takes_follows : (limit : ℕ) (old : Reader) (r : Answer) (new : Reader) → TakesMessage limit old r new → (more : List ℕ) →
    split_left limit (with_more_bytes old more) ≡ behind (messages_in r) (split_left limit (with_more_bytes new more))
takes_follows limit old (Ok o) new h more = taken_as limit old (Ok o) new h more
takes_follows limit old (Err Compressed) new h more = taken_as limit old (Err Compressed) new h more
takes_follows limit old (Err TooLarge) new h more = taken_as limit old (Err TooLarge) new h more
takes_follows limit old (Err CutOff) new h more = taken_as limit old (Err CutOff) new h more
takes_follows limit old (Err NoMemory) new h more = ap (λ (v : Reader). split_left limit (with_more_bytes v more)) (sym h.0)

pub stands_after : (limit : ℕ) (old : Reader) (r : Answer) (new : Reader) → TakesMessage limit old r new
    → (t : List ℕ) (gs : List (List ℕ)) → AreMessages limit old t gs → AreMessages limit new t (gs ++ messages_in r)
stands_after limit old r new h t gs stands = given_more (split limit) (left limit old) t gs stands (left limit new) (messages_in r)
    (takes_follows limit old r new h)

followed_by_none : (v : Reader) → with_more_bytes v [] ≡ v
followed_by_none (Ok bytes) = ap (λ (x : List ℕ). Ok x) (append-nil bytes)
followed_by_none (Err e) = refl

-- what is left now, where nothing follows
none_follows : (limit : ℕ) (v : Reader) → left limit v [] ≡ split_left limit v
none_follows limit v = ap (split_left limit) (followed_by_none v)

pub left_now : (limit : ℕ) (v : Reader) (t : List ℕ) (gs : List (List ℕ)) → AreMessages limit v t gs →
    split limit t ≡ behind gs (split_left limit v)
left_now limit v t gs stands = given_now (split limit) (left limit v) t gs stands ∙ ap (behind gs) (none_follows limit v)

says : (limit : ℕ) (old : Reader) (r : Answer) (new : Reader) → step limit old ≡ (r, new) → SaysEnd limit old r new
says limit old r new h = subst (λ (x : Answer × Reader). SaysEnd limit old x.0 x.1) h (taken_ends limit old)

abbrev pub IsAllGiven : ℕ → Reader → Reader → Type 0
IsAllGiven limit old new = (t : List ℕ) (gs : List (List ℕ)) → AreMessages limit old t gs →
    split limit t ≡ record { items = gs; end = Ok (bytes_left new) }

abbrev pub IsFaultOf : ℕ → Reader → MessagesError → Type 0
IsFaultOf limit old e = (t : List ℕ) (gs : List (List ℕ)) → AreMessages limit old t gs → split limit t ≡ record { items = gs; end = Err e }

none_after : (limit : ℕ) (old : Reader) (new : Reader) → step limit old ≡ (Ok None, new) → IsAllGiven limit old new
none_after limit old new h t gs stands = given_all (split limit) (left limit old) t gs stands (bytes_left new)
    (none_follows limit old ∙ (says limit old (Ok None) new h).0)

pub all_given : (limit : ℕ) (old : Reader) (r : Answer) (new : Reader) → TakesMessage limit old r new →
    IfOk r (λ o. IfNone o (IsAllGiven limit old new))
all_given limit old (Ok None) new h = none_after limit old new h
all_given limit old (Ok (Some f)) new h = tt
all_given limit old (Err e) new h = tt

unfinished_below : (limit : ℕ) (bytes : List ℕ) → IsUnfinished limit bytes → length bytes < 5 + limit
unfinished_below limit bytes (inl less) = omega arith
unfinished_below limit bytes (inr h) = let small = h.1 in let less = h.2 in omega arith

pub kept_is_unfinished : (limit : ℕ) (old : Reader) (r : Answer) (new : Reader) → TakesMessage limit old r new →
    IfOk r (λ o. IfNone o (length (bytes_left new) < 5 + limit))
kept_is_unfinished limit old (Ok None) new h = unfinished_below limit (bytes_left new) (says limit old (Ok None) new h).1
kept_is_unfinished limit old (Ok (Some f)) new h = tt
kept_is_unfinished limit old (Err e) new h = tt

fault_as : (limit : ℕ) (old : Reader) (e : MessagesError) (new : Reader) → step limit old ≡ (Err e, new) → IsFaultOf limit old e
fault_as limit old e new h t gs stands = given_fault (split limit) (left limit old) t gs stands e
    (none_follows limit old ∙ (says limit old (Err e) new h).0)

fault_after : (limit : ℕ) (old : Reader) (e : MessagesError) (new : Reader) → TakesMessage limit old (Err e) new → e ≢ NoMemory →
    step limit old ≡ (Err e, new)
fault_after limit old Compressed new h other = h
fault_after limit old TooLarge new h other = h
fault_after limit old CutOff new h other = h
fault_after limit old NoMemory new h other = absurd (other refl)

pub fault_of : (limit : ℕ) (old : Reader) (r : Answer) (new : Reader) → TakesMessage limit old r new →
    IfErr r (λ e. e ≢ NoMemory → IsFaultOf limit old e)
fault_of limit old (Ok o) new h = tt
fault_of limit old (Err e) new h = λ other. fault_as limit old e new (fault_after limit old e new h other)

pub fault_kept : (limit : ℕ) (old : Reader) (r : Answer) (new : Reader) → TakesMessage limit old r new →
    IfErr r (λ e. e ≢ NoMemory → new ≡ Err e)
fault_kept limit old (Ok o) new h = tt
fault_kept limit old (Err e) new h = λ other. (says limit old (Err e) new (fault_after limit old e new h other)).1

given : (r s : Answer) (new old : Reader) (x y : Answer × Reader) → x ≡ y → x.0 ≡ s → y.0 ≡ r → r ≡ s
given r s new old x y h p q = sym q ∙ sym (ap (λ (z : Answer × Reader). z.0) h) ∙ p

repeats_as : (limit : ℕ) (e : MessagesError) (r : Answer) (new : Reader) → TakesMessage limit (Err e) r new → r ≡ Err e
repeats_as limit e (Ok o) new h = given (Ok o) (Err e) new (Err e) _ _ h refl refl
repeats_as limit e (Err Compressed) new h = given (Err Compressed) (Err e) new (Err e) _ _ h refl refl
repeats_as limit e (Err TooLarge) new h = given (Err TooLarge) (Err e) new (Err e) _ _ h refl refl
repeats_as limit e (Err CutOff) new h = given (Err CutOff) (Err e) new (Err e) _ _ h refl refl
repeats_as limit e (Err NoMemory) new h = absurd (h.1 refl)

pub repeats : (limit : ℕ) (old : Reader) (r : Answer) (new : Reader) → TakesMessage limit old r new → IfErr old (λ e. r ≡ Err e)
repeats limit (Ok bytes) r new h = tt
repeats limit (Err e) r new h = repeats_as limit e r new h

-- what the answer says of the message that is given
abbrev SaysGiven : ℕ → Reader → Answer → Reader → Type 0
SaysGiven limit old (Ok None) new = Unit {0}
SaysGiven limit old (Ok (Some m)) new = (length m ≤ limit) × (length (bytes_left new) < length (bytes_left old))
SaysGiven limit old (Err e) new = Unit {0}

given_at : (limit : ℕ) (bytes : List ℕ) (n : ℕ) → IsWhole limit bytes n →
    (length (message_at bytes) ≤ limit) × (length (drop (5 + n) bytes) < length bytes)
given_at limit bytes n w =
    let s = w.size in let b = w.short in let f = w.fits in
    let first = length-drop 5 bytes in
    let rest = length-drop (5 + n) bytes in
    let size : length (message_at bytes) ≡ size_of bytes = length-take-le (size_of bytes) (drop 5 bytes) (omega arith) in
    (omega arith, omega arith)

taken_gives : (limit : ℕ) (v : Reader) → SaysGiven limit v (step limit v).0 (step limit v).1
taken_gives limit (Err e) = tt
taken_gives limit (Ok bytes) = at_front (whole_at limit bytes) refl where
  at_front : (w : Result (Option ℕ) MessagesError) → whole_at limit bytes ≡ w →
      SaysGiven limit (Ok bytes) (step_by_front w bytes).0 (step_by_front w bytes).1
  at_front (Ok None) e = tt
  at_front (Ok (Some n)) e = given_at limit bytes n (whole_is limit bytes n e)
  at_front (Err d) e = tt

gives : (limit : ℕ) (old : Reader) (m : List ℕ) (new : Reader) → TakesMessage limit old (Ok (Some m)) new →
    SaysGiven limit old (Ok (Some m)) new
gives limit old m new h = subst (λ (x : Answer × Reader). SaysGiven limit old x.0 x.1) h (taken_gives limit old)

pub given_is_short : (limit : ℕ) (old : Reader) (r : Answer) (new : Reader) → TakesMessage limit old r new →
    IfOk r (λ o. IfSome o (λ m. length m ≤ limit))
given_is_short limit old (Ok None) new h = tt
given_is_short limit old (Ok (Some m)) new h = (gives limit old m new h).0
given_is_short limit old (Err e) new h = tt

pub less_is_left : (limit : ℕ) (old : Reader) (r : Answer) (new : Reader) → TakesMessage limit old r new →
    IfOk r (λ o. OnSome o (length (bytes_left new) < length (bytes_left old)))
less_is_left limit old (Ok None) new h = tt
less_is_left limit old (Ok (Some m)) new h = (gives limit old m new h).1
less_is_left limit old (Err e) new h = tt

none_in_front : (fs gs : List (List ℕ)) → fs ++ gs ≡ [] → fs ≡ []
none_in_front [] gs e = refl
none_in_front (f ∷ fs) gs e = absurd cc

pub memory_for : (limit : ℕ) (old : Reader) (r : Answer) (new : Reader) → TakesMessage limit old r new → IsErrOf r NoMemory →
    (new ≡ old) × ((split_left limit old).items ≢ [])
memory_for limit old (Ok o) new h e = absurd cc
memory_for limit old (Err Compressed) new h e = absurd cc
memory_for limit old (Err TooLarge) new h e = absurd cc
memory_for limit old (Err CutOff) new h e = absurd cc
memory_for limit old (Err NoMemory) new h e = (
  h.0,
  λ none.
      let same = ap (split_left limit) (followed_by_none old) in
      h.1 (none_in_front _ _ (sym (ap (λ (s : Split). s.items) (sym same ∙ taken_follows limit old [])) ∙ none)),
)

-- ---- the end of a request

none_more : (gs ms : List (List ℕ)) → gs ++ ms ≡ gs → ms ≡ []
none_more gs [] e = refl
none_more gs (m ∷ ms) e = absurd (let len = ap (length {A = List ℕ}) e in omega (arith, length-append {A = List ℕ}))

split_as : (s : Split) (ms : List (List ℕ)) (end : Result (List ℕ) MessagesError) → s.items ≡ ms → s.end ≡ end →
    s ≡ record { items = ms; end = end }
split_as s ms end p q =
    ap (λ (xs : List (List ℕ)). record { items = xs; end = s.end }) p
    ∙ ap (λ (r : Result (List ℕ) MessagesError). record { items = ms; end = r }) q

nothing_left : (limit : ℕ) (v : Reader) (t : List ℕ) (gs : List (List ℕ)) (end : Result (List ℕ) MessagesError)
    → AreMessages limit v t gs → split limit t ≡ record { items = gs; end = end } → split_left limit v ≡ record { items = []; end = end }
nothing_left limit v t gs end stands e =
    let now : behind gs (split_left limit v) ≡ record { items = gs; end = end } = sym (left_now limit v t gs stands) ∙ e in
    let none : (split_left limit v).items ≡ [] = none_more gs _ (ap (λ (s : Split). s.items) now) in
    let last : (split_left limit v).end ≡ end = ap (λ (s : Split). s.end) now in
    split_as (split_left limit v) [] end none last

ended_left : (limit : ℕ) (v : Reader) (end : Result (List ℕ) MessagesError) → split_left limit v ≡ record { items = []; end = end } →
    ends_at limit v ≡ end_of_rest end
ended_left limit (Err d) end e = ap (λ (s : Split). end_of_rest s.end) e
ended_left limit (Ok bytes) end e = at_front (whole_at limit bytes) refl where
  none : (bs : List ℕ) → end_by_front (Ok None) bs ≡ end_of_rest (Ok bs)
  none [] = refl
  none (b ∷ bs) = refl

  at_front : (w : Result (Option ℕ) MessagesError) → whole_at limit bytes ≡ w → end_by_front w bytes ≡ end_of_rest end
  at_front (Ok None) h = none bytes ∙ ap (λ (s : Split). end_of_rest s.end)
      (sym (divide_partial (message_format limit) (steady limit) bytes h) ∙ e)
  at_front (Ok (Some n)) h = let first = sym (divide_whole (message_format limit) (steady limit) bytes n h) ∙ e in let some =
      ap (λ (s : Split). s.items) first in cc
  at_front (Err d) h = ap (λ (s : Split). end_of_rest s.end) (sym (divide_fault (message_format limit) (steady limit) bytes d h) ∙ e)

pub end_is : (limit : ℕ) (v : Reader) (r : Result Unit MessagesError) → r ≡ ends_at limit v →
    (t : List ℕ) (gs : List (List ℕ)) (end : Result (List ℕ) MessagesError)
    → AreMessages limit v t gs → split limit t ≡ record { items = gs; end = end } → r ≡ end_of_rest end
end_is limit v r h t gs end stands e = h ∙ ended_left limit v end (nothing_left limit v t gs end stands e)

ends_empty : (limit : ℕ) (v : Reader) → OnOk (ends_at limit v) (split_left limit v ≡ rest_only [])
ends_empty limit (Err d) = tt
ends_empty limit (Ok bytes) = at_front (whole_at limit bytes) refl bytes refl where
  at_front : (w : Result (Option ℕ) MessagesError) → whole_at limit bytes ≡ w → (bs : List ℕ) → bytes ≡ bs →
      OnOk (end_by_front w bs) (split limit bytes ≡ rest_only [])
  at_front (Ok None) h [] e = divide_partial (message_format limit) (steady limit) bytes h ∙ ap rest_only e
  at_front (Ok None) h (b ∷ bs) e = tt
  at_front (Ok (Some n)) h bs e = tt
  at_front (Err d) h bs e = tt

-- while a whole message is left the request is cut off, whatever follows that message
pub untaken : (limit : ℕ) (v : Reader) (r : Result Unit MessagesError) → r ≡ ends_at limit v → (split_left limit v).items ≢ [] →
    r ≡ Err CutOff
untaken limit (Err d) r h some = absurd (some refl)
untaken limit (Ok bytes) r h some = h ∙ at_front (whole_at limit bytes) refl where
  at_front : (w : Result (Option ℕ) MessagesError) → whole_at limit bytes ≡ w → end_by_front w bytes ≡ Err CutOff
  at_front (Ok None) e = absurd (some (ap (λ (s : Split). s.items) (divide_partial (message_format limit) (steady limit) bytes e)))
  at_front (Ok (Some n)) e = refl
  at_front (Err d) e = absurd (some (ap (λ (s : Split). s.items) (divide_fault (message_format limit) (steady limit) bytes d e)))

on_ok : {P Q : Type 0} (r : Result Unit MessagesError) → OnOk r P → (P → Q) → OnOk r Q
on_ok (Ok u) p f = f p
on_ok (Err e) p f = tt

pub end_is_whole : (limit : ℕ) (v : Reader) (r : Result Unit MessagesError) → r ≡ ends_at limit v
    → OnOk r ((t : List ℕ) (gs : List (List ℕ)) → AreMessages limit v t gs → split limit t ≡ record { items = gs; end = Ok [] })
end_is_whole limit v r h = on_ok r (subst (λ (x : Result Unit MessagesError). OnOk x (split_left limit v ≡ rest_only [])) (sym h)
    (ends_empty limit v))
    (λ empty t gs stands. given_all (split limit) (left limit v) t gs stands [] (none_follows limit v ∙ empty))
