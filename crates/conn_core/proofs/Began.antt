-- A request that came: a call begins, or the request is no call.
use Rattle.std.proofs.Common.{◌≡◌, ℕ, ◌<◌, ◌≤◌, List, [], ◌∷◌, ◌++◌, refl, ap, ◌∙◌, sym, subst, arith, inl, inr}
use Rattle.std.specs.Prelude.{Bool, true, false, ◌==◌, ◌||◌, ◌&&◌, cond, map, filter, Option, Some, None, Result}
use Rattle.std.specs.List.{list_any}
use Rattle.std.specs.Result.{is_ok}
use Rattle.std.proofs.lemmas.Bool.{cases_Bool, eqb-true}
use Rattle.std.proofs.lemmas.Bool.Decides.{nat_tests}
use Rattle.std.proofs.lemmas.List.{map-append}
use Rattle.std.proofs.lemmas.List.Folds.{list_any-append}
use Rattle.hpack.specs.Header.{Header}
use Rattle.http2_streams.specs.declared.stream.Stream.{Stream}
use Rattle.http2_streams.specs.declared.event.Event.TheVariants.{Request}
use Rattle.http2_streams.specs.History.{Entry, live_streams, is_not_closed, highest_stream}
use Rattle.http2_streams.specs.Rules.{number_is}
use Rattle.http2_streams.proofs.LiveLaw.{listed_is_live}
use Rattle.grpc_messages.specs.declared.error.MessagesError.{MessagesError}
use Rattle.grpc_calls.specs.Requests.{head_of}
use Rattle.grpc_sending.proofs.Histories.{append-nil}
use Rattle.conn_core.specs.declared.call.Call.{Call}
use Rattle.conn_core.specs.Calls.{is_call, stream_text, messages_of}
use Rattle.conn_core.specs.StandsFor.{IsRestOfCall, call_on, call_stream, members_of}
use Rattle.conn_core.specs.Step.{ChangesStreams}
use Rattle.conn_core.proofs.Numbers.{or_none, any_later, filter_agree, filter_less, filter-append, same_number}
use Rattle.conn_core.proofs.Places.{KeepsOpen, kept_on, none_kept, kept_streams, more_on, last_on, not_among}
use Rattle.conn_core.proofs.Brought.{Brings, After, Holds, IsOrdered, call_frame, text_frame, call_same, not_called}

abbrev Kept : Type 0
Kept = Option (Result (List ℕ) MessagesError)

-- ---- the new stream

-- those in the list of the live streams are live
pub listed : (d : List Entry) (s : ℕ) → list_any (λ t. t == s) (live_streams d) ≡ true → is_not_closed d s ≡ true
listed d s h = (listed_is_live d s h).0

any_last : (xs : List ℕ) (s t : ℕ) → list_any (λ u. u == t) (xs ++ s ∷ []) ≡ (list_any (λ u. u == t) xs || (s == t))
any_last xs s t = list_any-append (λ u. u == t) xs (s ∷ []) ∙ ap (λ b. list_any (λ u. u == t) xs || b) (or_none (s == t))

-- a new stream is live, and was not before
pub record IsNew (d e : List Entry) (s : ℕ) (cs : List Call) : Type 0 where
  pub lives : is_not_closed d s ≡ true
  pub no_call : is_call d s ≡ false
  pub no_text : stream_text d s ≡ []
  pub none : call_on s cs ≡ None
  pub apart : (t : ℕ) → list_any (λ u. u == t) (live_streams d) ≡ true → (s == t) ≡ false

pub new_stream : (d e : List Entry) (s : ℕ) (fields : List Header) (end_stream : Bool) (cs : List Call) →
    ChangesStreams d e (Request s fields end_stream) → Holds d cs → IsNew d e s cs
new_stream d e s fields end_stream cs change holds =
    let above : highest_stream d < s = change.event in
    let in_e : list_any (λ u. u == s) (live_streams e) ≡ true =
    ap (list_any (λ u. u == s)) change.streams ∙ any_last (live_streams d) s s
    ∙ any_later (list_any (λ u. u == s) (live_streams d)) (s == s) (same_number s) in
    let lives : is_not_closed d s ≡ true = change.falls s (listed e s in_e) in
    let idle = change.idle s above in
    record {
      lives = lives;
      no_call = idle.0;
      no_text = idle.1;
      none = not_called d s (call_on s cs) (holds s lives) idle.0;
      apart = λ t listed'. let low : t ≤ highest_stream d = (change.opened t listed').0 in let less : t < s = omega (arith, low, above) in
          grind (arith, nat_tests);
    }

-- no member of the list is s
pub no_last : (os : List ℕ) (s t : ℕ) (xs : List ℕ) → list_any (λ u. u == s) xs ≡ false → list_any (λ u. u == t) xs ≡ true →
    (list_any (λ u. u == t) os || (s == t)) ≡ list_any (λ u. u == t) os
no_last os s t xs none h = elim (cases_Bool (s == t)) [
  | inl at ↦ let is : s ≡ t = eqb-true s t at in let no : true ≡ false =
      sym h ∙ ap (λ (n : ℕ). list_any (λ u. u == n) xs) (sym is) ∙ none in absurd (let z : ⊥ = cc in z)
  | inr other ↦ rw other (or_none (list_any (λ u. u == t) os))
]

-- ---- a request that is no call

pub after_refused : (d e : List Entry) (s : ℕ) (fields : List Header) (end_stream : Bool) (cs : List Call) →
    Brings d e (Request s fields end_stream) → is_ok (head_of fields) ≡ false → ChangesStreams d e (Request s fields end_stream) →
    Holds d cs → IsOrdered d (map call_stream cs) → After e cs
after_refused d e s fields end_stream cs brings refused change holds order =
    let new : IsNew d e s cs = new_stream d e s fields end_stream cs change holds in
    let same : (t : ℕ) → is_call e t ≡ is_call d t =
    λ t. call_frame d e (Request s fields end_stream) t brings ∙ ap (λ b. is_call d t || ((s == t) && b)) refused
    ∙ or_false (is_call d t) (s == t) in
    record {
      calls = λ t lives. call_same d e t (call_on t cs) (same t)
          (text_frame d e (Request s fields end_stream) t brings ∙ append-nil (stream_text d t)) (holds t (change.falls t lives));
      order =
          ap (λ (ss : List ℕ). members_of ss (map call_stream cs)) change.streams
          ∙ filter_agree (λ t. list_any (λ u. u == t) (live_streams d ++ s ∷ [])) (λ t. list_any (λ u. u == t) (live_streams d))
          (map call_stream cs) (λ t h. any_last (live_streams d) s t
          ∙ no_last (live_streams d) s t (map call_stream cs) (not_among s cs new.none) h)
          ∙ order
          ∙ filter_agree (is_call d) (is_call e) (live_streams d) (λ t h. sym (same t))
          ∙ sym (append-nil (filter (is_call e) (live_streams d)))
          ∙ ap (λ (b : Bool). filter (is_call e) (live_streams d) ++ cond b (s ∷ []) []) (sym (same s ∙ new.no_call))
          ∙ sym (filter-append (is_call e) (live_streams d) (s ∷ []))
          ∙ ap (λ (ss : List ℕ). filter (is_call e) ss) (sym change.streams);
    } where
      or_false : (b c : Bool) → (b || (c && false)) ≡ b
      or_false true c = refl
      or_false false true = refl
      or_false false false = refl

-- ---- a call

-- what is kept of the calls, all of them or those on live streams
pub record IsThinned (d : List Entry) (cs kept : List Call) : Type 0 where
  pub calls : (t : ℕ) → is_not_closed d t ≡ true → call_on t kept ≡ call_on t cs
  pub nothing : (t : ℕ) → call_on t cs ≡ None → call_on t kept ≡ None
  pub order : members_of (live_streams d) (map call_stream kept) ≡ members_of (live_streams d) (map call_stream cs)

any_grows : (d e : List Entry) (s t : ℕ) → live_streams e ≡ live_streams d ++ s ∷ [] → list_any (λ u. u == t) (live_streams d) ≡ true →
    list_any (λ u. u == t) (live_streams e) ≡ true
any_grows d e s t lives h = ap (list_any (λ u. u == t)) lives ∙ any_last (live_streams d) s t ∙ ap (λ b. b || (s == t)) h

pub none_left : (d : List Entry) (cs kept : List Call) (t : ℕ) (o : Kept) → call_on t cs ≡ o → IsRestOfCall d t o →
    (is_call d t ≡ true → ⊥) → (call_on t cs ≡ None → call_on t kept ≡ None) → call_on t kept ≡ call_on t cs
none_left d cs kept t None at call never nothing = nothing at ∙ sym at
none_left d cs kept t (Some m) at call never nothing = absurd (never call.0)

pub thinned : (d e : List Entry) (s : ℕ) (fields : List Header) (end_stream : Bool) (streams : List Stream) (cs kept : List Call) →
    ChangesStreams d e (Request s fields end_stream) → Holds d cs →
    ((t : ℕ) → list_any (number_is t) streams ≡ list_any (λ u. u == t) (live_streams e)) → KeepsOpen streams cs kept → IsThinned d cs kept
thinned d e s fields end_stream streams cs kept change holds listed' (inl all) =
    let same : (t : ℕ) → call_on t kept ≡ call_on t cs = λ t. ap (λ (xs : List Call). call_on t xs) all in
    record {
      calls = λ t lives. same t;
      nothing = λ t none. same t ∙ none;
      order =
          ap (λ (xs : List Call). members_of (live_streams d) (map call_stream xs)) all;
    }
thinned d e s fields end_stream streams cs kept change holds listed' (inr some) =
    let q : ℕ → Bool = λ t. list_any (number_is t) streams in
    let nothing' : (t : ℕ) → call_on t cs ≡ None → call_on t kept ≡ None =
    λ t none. ap (λ (xs : List Call). call_on t xs) some ∙ none_kept (λ n. list_any (number_is n) streams) t cs none in
    record {
      calls = λ t lives. elim (cases_Bool (list_any (λ u. u == t) (live_streams d))) [
        | inl in_d ↦ ap (λ (xs : List Call). call_on t xs) some
            ∙ kept_on (λ n. list_any (number_is n) streams) t cs (listed' t ∙ any_grows d e s t change.streams in_d)
        | inr out ↦ none_left d cs kept t (call_on t cs) refl (holds t lives)
            (λ call. let no : true ≡ false = sym (change.begun t call lives) ∙ out in let z : ⊥ = cc in z) (nothing' t)
      ];
      nothing = nothing';
      order =
          ap (λ (xs : List Call). members_of (live_streams d) (map call_stream xs)) some
          ∙ ap (λ (ns : List ℕ). members_of (live_streams d) ns) (kept_streams (λ n. list_any (number_is n) streams) cs)
          ∙ filter_less (λ t. list_any (λ u. u == t) (live_streams d)) (λ n. list_any (number_is n) streams) (map call_stream cs)
          (λ t h. listed' t ∙ any_grows d e s t change.streams h);
    }

pub after_begun : (d e : List Entry) (s : ℕ) (fields : List Header) (end_stream : Bool) (cs kept : List Call) (c : Call) →
    Brings d e (Request s fields end_stream) → is_ok (head_of fields) ≡ true → ChangesStreams d e (Request s fields end_stream) →
    Holds d cs → IsOrdered d (map call_stream cs) → IsThinned d cs kept → c.stream ≡ s → c.messages ≡ (messages_of []).end →
    After e (kept ++ c ∷ [])
after_begun d e s fields end_stream cs kept c brings ok change holds order thin stream messages =
    let new : IsNew d e s cs = new_stream d e s fields end_stream cs change holds in
    let none : call_on s kept ≡ None = thin.nothing s new.none in
    let texts : (t : ℕ) → stream_text e t ≡ stream_text d t =
    λ t. text_frame d e (Request s fields end_stream) t brings ∙ append-nil (stream_text d t) in
    let at_s : is_call e s ≡ true = call_frame d e (Request s fields end_stream) s brings
    ∙ any_later (is_call d s) ((s == s) && is_ok (head_of fields)) (ap (λ b. (s == s) && b) ok ∙ ap (λ b. b && true) (same_number s)) in
    let other_call : (t : ℕ) → (s == t) ≡ false → is_call e t ≡ is_call d t =
    λ t other. call_frame d e (Request s fields end_stream) t brings ∙ ap (λ b. is_call d t || (b && is_ok (head_of fields))) other
    ∙ or_none (is_call d t) in
    record {
      calls = λ t lives. elim (cases_Bool (s == t)) [
        | inl at ↦
            let is : s ≡ t = eqb-true s t at in
            subst (λ (n : ℕ). IsRestOfCall e n (call_on n (kept ++ c ∷ []))) is
            (subst (λ (x : Kept). IsRestOfCall e s x) (sym (last_on s kept c none stream))
            (at_s, messages ∙ ap (λ (x : List ℕ). (messages_of x).end) (sym (texts s ∙ new.no_text))))
        | inr other ↦
            let apart : (c.stream == t) ≡ false = ap (λ (n : ℕ). n == t) stream ∙ other in
            let before : is_not_closed d t ≡ true = change.falls t lives in
            subst (λ (x : Kept). IsRestOfCall e t x) (sym (more_on t kept c apart ∙ thin.calls t before))
            (call_same d e t (call_on t cs) (other_call t other) (texts t) (holds t before))
      ];
      order =
          ap (λ (ss : List ℕ). members_of ss (map call_stream (kept ++ c ∷ []))) change.streams
          ∙ ap (λ (ns : List ℕ). members_of (live_streams d ++ s ∷ []) ns)
          (map-append call_stream kept (c ∷ []) ∙ ap (λ (n : ℕ). map call_stream kept ++ n ∷ []) stream)
          ∙ filter-append (λ t. list_any (λ u. u == t) (live_streams d ++ s ∷ [])) (map call_stream kept) (s ∷ [])
          ∙ ap (λ (b : Bool). members_of (live_streams d ++ s ∷ []) (map call_stream kept) ++ cond b (s ∷ []) [])
          (any_last (live_streams d) s s ∙ any_later (list_any (λ u. u == s) (live_streams d)) (s == s) (same_number s))
          ∙ ap (λ (ns : List ℕ). ns ++ s ∷ []) (filter_agree (λ t. list_any (λ u. u == t) (live_streams d ++ s ∷ []))
          (λ t. list_any (λ u. u == t) (live_streams d)) (map call_stream kept)
          (λ t h. any_last (live_streams d) s t ∙ no_last (live_streams d) s t (map call_stream kept) (not_among s kept none) h))
          ∙ ap (λ (ns : List ℕ). ns ++ s ∷ []) (thin.order ∙ order
          ∙ filter_agree (is_call d) (is_call e) (live_streams d) (λ t h. sym (other_call t (new.apart t h))))
          ∙ ap (λ (b : Bool). filter (is_call e) (live_streams d) ++ cond b (s ∷ []) []) (sym at_s)
          ∙ sym (filter-append (is_call e) (live_streams d) (s ∷ []))
          ∙ ap (λ (ss : List ℕ). filter (is_call e) ss) (sym change.streams);
    }
