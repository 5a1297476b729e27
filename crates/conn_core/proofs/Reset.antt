-- A stream that was reset is live no more.
use Rattle.std.proofs.Common.{◌≡◌, ℕ, List, ◌++◌, ap, ◌∙◌, sym, inl, inr}
use Rattle.std.specs.Prelude.{Bool, true, false, ◌==◌, ◌&&◌, not}
use Rattle.std.specs.List.{list_any}
use Rattle.std.proofs.lemmas.Bool.{and_parts, cases_Bool}
use Rattle.http2_streams.specs.History.{Entry, opened_streams, live_streams, is_not_closed}
use Rattle.http2_streams.specs.LiveStreams.{other_streams}
use Rattle.conn_core.proofs.Numbers.{in_others, same_number}
use Rattle.conn_core.proofs.Opened.{opened_still}
use Rattle.conn_core.proofs.StreamsLaws.{in_live}

not_live : (a b : Bool) → a ≡ true → (a && b) ≡ false → b ≡ false
not_live true b h k = k
not_live false b h k = absurd cc

not_in_others : (s : ℕ) (os : List ℕ) → list_any (λ t. t == s) (other_streams s os) ≡ false
not_in_others s os = elim (cases_Bool (list_any (λ t. t == s) (other_streams s os))) [
  | inl h ↦ let k : not (s == s) ≡ true = in_others s s os h in let no : false ≡ true = sym (ap not (same_number s)) ∙ k in
      absurd (let z : ⊥ = cc in z)
  | inr h ↦ h
]

pub reset_stream : (d es : List Entry) (s : ℕ) → list_any (λ t. t == s) (live_streams d) ≡ true →
    live_streams (d ++ es) ≡ other_streams s (live_streams d) → is_not_closed (d ++ es) s ≡ false
reset_stream d es s h lives =
    let was : list_any (λ t. t == s) (opened_streams d) ≡ true =
    (and_parts (list_any (λ t. t == s) (opened_streams d)) (is_not_closed d s) (sym (in_live d s) ∙ h)).0 in
    let is : list_any (λ t. t == s) (opened_streams (d ++ es)) ≡ true = opened_still d es s was in
    let gone : list_any (λ t. t == s) (live_streams (d ++ es)) ≡ false =
    ap (list_any (λ t. t == s)) lives ∙ not_in_others s (live_streams d) in
    not_live (list_any (λ t. t == s) (opened_streams (d ++ es))) (is_not_closed (d ++ es) s) is (sym (in_live (d ++ es) s) ∙ gone)
