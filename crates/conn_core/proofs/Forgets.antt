-- Nothing is kept to be put but on live streams, nor after an error of the connection.
use Rattle.std.proofs.Common.{◌≡◌, ℕ, List, [], ◌∷◌, ◌++◌, ap, ◌∙◌, sym, inl, inr}
use Rattle.std.specs.Prelude.{Bool, true, false, ◌==◌, ◌&&◌, ◌⊎◌, not}
use Rattle.std.specs.List.{list_any}
use Rattle.std.proofs.lemmas.Bool.{cases_Bool, eqb-true}
use Rattle.std.proofs.lemmas.List.Folds.{list_any-append}
use Rattle.http2_streams.specs.declared.event.Event.{Event}
use Rattle.http2_streams.specs.declared.event.Event.TheVariants.{Nothing, Request, Content, Trailers, Cancel}
use Rattle.http2_streams.specs.LiveStreams.{has_stream, other_streams, live_after_end, live_after}
use Rattle.http2_streams.specs.History.{Entry, is_ended_by_server, has_failed, is_not_closed, live_streams, opened_streams}
use Rattle.http2_streams.specs.Standing.{Standing}
use Rattle.http2_streams.specs.StandsFor.{AreStreams}
use Rattle.http2_streams.specs.Rules.{is_live_at}
use Rattle.grpc_sending.specs.declared.queue.StoredQueue.{StoredQueue}
use Rattle.grpc_sending.specs.StoredSending.{StoredSending, AddsToLive, ForgetsEnded, stored_on}
use Rattle.grpc_sending.proofs.Takes.{live_is}
use Rattle.conn_core.specs.StandsFor.{AreForLive, ForgetsFailed}
use Rattle.conn_core.proofs.Numbers.{any_first, any_kept, false_both}
use Rattle.conn_core.proofs.StreamsLaws.{in_live}

pub never : (P : Type 0) → false ≡ true → P
never P h = absurd (let z : ⊥ = cc in z)

pub unmet : (P : Type 0) (b : Bool) → b ≡ false → b ≡ true → P
unmet P b h k = never P (sym h ∙ k)

-- what is closed stays so
stays_closed : (d e : List Entry) (s : ℕ) → ((t : ℕ) → is_not_closed e t ≡ true → is_not_closed d t ≡ true) → is_not_closed d s ≡ false →
    is_not_closed e s ≡ false
stays_closed d e s falls h = elim (cases_Bool (is_not_closed e s)) [
  | inl lives ↦ unmet (is_not_closed e s ≡ false) (is_not_closed d s) h (falls s lives)
  | inr closed ↦ closed
]

pub not_listed : (v : Standing) (d : List Entry) (s : ℕ) → AreStreams v d → has_failed d ≡ false → is_not_closed d s ≡ false →
    is_live_at v s ≡ false
not_listed v d s at alive closed = live_is v d s at (at.fault ∙ alive) ∙ in_live d s
    ∙ ap (λ b. list_any (λ t. t == s) (opened_streams d) && b) closed ∙ false_both (list_any (λ t. t == s) (opened_streams d))

-- no live stream
pub unlisted : (v : Standing) (d : List Entry) (s : ℕ) → AreStreams v d → has_failed d ≡ false → has_stream (live_streams d) s ≡ false →
    is_live_at v s ≡ false
unlisted v d s at alive out = live_is v d s at (at.fault ∙ alive) ∙ out

-- a closed stream is none
pub closed_out : (d : List Entry) (s : ℕ) → is_not_closed d s ≡ false → has_stream (live_streams d) s ≡ false
closed_out d s closed = in_live d s ∙ ap (λ b. list_any (λ t. t == s) (opened_streams d) && b) closed
    ∙ false_both (list_any (λ t. t == s) (opened_streams d))

-- ---- an item

pub item_live : (streams : Standing) (v w : StoredSending) (d : List Entry) → AreStreams streams d → has_failed d ≡ false →
    AddsToLive streams v w → AreForLive v.queues d → AreForLive w.queues d
item_live streams v w d at alive none h s out = none s (inr (unlisted streams d s at alive out)) (h s out)

pub item_failed : (streams : Standing) (v w : StoredSending) (d : List Entry) → AreStreams streams d → AddsToLive streams v w →
    ForgetsFailed v.queues d → ForgetsFailed w.queues d
item_failed streams v w d at none h failed s = none s (inl (at.fault ∙ failed)) (h failed s)

-- ---- entries that change no stream

pub same_lists : (d e : List Entry) (qs rs : List StoredQueue) → live_streams e ≡ live_streams d →
    ((t : ℕ) → stored_on t qs ≡ [] → stored_on t rs ≡ []) → AreForLive qs d → AreForLive rs e
same_lists d e qs rs same none h s out = none s (h s (ap (λ (ss : List ℕ). has_stream ss s) (sym same) ∙ out))

-- ---- a frame that brought something

-- for no stream that is not live anything is kept anew
abbrev pub KeepsOut : List Entry → List StoredQueue → List StoredQueue → Type 0
KeepsOut e qs rs = (t : ℕ) → has_stream (live_streams e) t ≡ false → stored_on t qs ≡ [] → stored_on t rs ≡ []

abbrev pub KeepsClosed : List Entry → List StoredQueue → List StoredQueue → Type 0
KeepsClosed e qs rs = (t : ℕ) → is_not_closed e t ≡ false → stored_on t qs ≡ [] → stored_on t rs ≡ []

pub keeps_closed : (e : List Entry) (qs rs : List StoredQueue) → KeepsOut e qs rs → KeepsClosed e qs rs
keeps_closed e qs rs none t closed = none t (closed_out e t closed)

-- what is to be put on a stream that is cancelled is dropped
abbrev pub Forgets : Event → List StoredQueue → Type 0
Forgets (Cancel s) rs = stored_on s rs ≡ []
Forgets _ rs = Unit {0}

other_or_out : (s t : ℕ) (ss : List ℕ) → has_stream (other_streams s ss) t ≡ false → (t ≡ s) ⊎ (has_stream ss t ≡ false)
other_or_out s t ss out =
    let k : (has_stream ss t && not (t == s)) ≡ false = sym (any_kept (λ u. not (u == s)) t ss) ∙ out in
    elim (cases_Bool (t == s)) [
      | inl same ↦ inl (eqb-true t s same)
      | inr other ↦ elim (cases_Bool (has_stream ss t)) [
        | inl member ↦ let no : true ≡ false = rw (member, other) at k in cc
        | inr none ↦ inr none
      ]
    ]

-- what is kept for a stream that is live no more after END_STREAM of the client
none_at_end : (d : List Entry) (s t : ℕ) (qs : List StoredQueue) → ForgetsEnded qs d → AreForLive qs d →
    has_stream (live_after_end d s) t ≡ false → stored_on t qs ≡ []
none_at_end d s t qs finished h out = elim (cases_Bool (is_ended_by_server d s)) [
  | inl ended ↦
      let out' : has_stream (other_streams s (live_streams d)) t ≡ false = rw ended at out in
      elim (other_or_out s t (live_streams d) out') [
        | inl same ↦ ap (λ (n : ℕ). stored_on n qs) same ∙ (finished s ended).1
        | inr before ↦ h t before
      ]
  | inr open' ↦ let out' : has_stream (live_streams d) t ≡ false = rw open' at out in h t out'
]

before_request : (s t : ℕ) (ss : List ℕ) → has_stream (ss ++ s ∷ []) t ≡ false → has_stream ss t ≡ false
before_request s t ss out = elim (cases_Bool (has_stream ss t)) [
  | inl member ↦
      let some : has_stream (ss ++ s ∷ []) t ≡ true =
      list_any-append (λ u. u == t) ss (s ∷ []) ∙ any_first (has_stream ss t) (has_stream (s ∷ []) t) member in
      unmet (has_stream ss t ≡ false) (has_stream (ss ++ s ∷ []) t) out some
  | inr none ↦ none
]

abbrev Out' : List Entry → Event → ℕ → Type 0
Out' d event t = has_stream (live_after d event) t ≡ false

brought_none : (d e : List Entry) (event : Event) (qs rs : List StoredQueue) (t : ℕ) → (stored_on t qs ≡ [] → stored_on t rs ≡ []) →
    Forgets event rs → ForgetsEnded qs d → AreForLive qs d → Out' d event t → stored_on t rs ≡ []
brought_none d e Nothing qs rs t none forgets finished h out = none (h t out)
brought_none d e (Request s fields end_stream) qs rs t none forgets finished h out = none (h t (before_request s t (live_streams d) out))
brought_none d e (Content s content true) qs rs t none forgets finished h out = none (none_at_end d s t qs finished h out)
brought_none d e (Content s content false) qs rs t none forgets finished h out = none (h t out)
brought_none d e (Trailers s) qs rs t none forgets finished h out = none (none_at_end d s t qs finished h out)
brought_none d e (Cancel s) qs rs t none forgets finished h out = elim (other_or_out s t (live_streams d) out) [
  | inl same ↦ ap (λ (n : ℕ). stored_on n rs) same ∙ forgets
  | inr before ↦ none (h t before)
]

pub some_brought : (d e : List Entry) (event : Event) (qs rs : List StoredQueue) → live_streams e ≡ live_after d event → KeepsOut e qs rs →
    Forgets event rs → ForgetsEnded qs d → AreForLive qs d → AreForLive rs e
some_brought d e event qs rs lives none forgets finished h t out =
    brought_none d e event qs rs t (none t out) forgets finished h (ap (λ (ss : List ℕ). has_stream ss t) (sym lives) ∙ out)

-- ---- streams that the server ended

pub item_ended : (streams : Standing) (v w : StoredSending) (d : List Entry) → AreStreams streams d → has_failed d ≡ false →
    AddsToLive streams v w → ForgetsEnded v.queues d → ForgetsEnded w.queues d
item_ended streams v w d at alive none h s was = let k = h s was in (k.0, none s (inr (not_listed streams d s at alive k.0)) k.1)

pub none_ended : (d e : List Entry) (qs rs : List StoredQueue) → ((t : ℕ) → is_ended_by_server e t ≡ is_ended_by_server d t) →
    ((t : ℕ) → is_not_closed e t ≡ true → is_not_closed d t ≡ true) → KeepsClosed e qs rs → ForgetsEnded qs d → ForgetsEnded rs e
none_ended d e qs rs same falls none h s was =
    let k = h s (sym (same s) ∙ was) in
    let closed : is_not_closed e s ≡ false = stays_closed d e s falls k.0 in
    (closed, none s closed k.1)
