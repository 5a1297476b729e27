-- What was given of a text, and what is left of it.
use Rattle.std.proofs.Common.{◌≡◌, ℕ, List, [], ◌++◌, Ok, Err, sym, ap, ◌∙◌}
use Rattle.std.proofs.lemmas.List.{append-nil}
use Rattle.http2_frames.specs.Items.{Division, behind, rest_only, fault_only, AreItemsSoFar}
use Rattle.http2_frames.proofs.WireItemsDivisions.{behind_both}

module _ {A E : Type 0} (divided left : List ℕ → Division A E) (text : List ℕ) (given : List A)
    (stands : AreItemsSoFar divided left text given) where
  pub given_more : (later : List ℕ → Division A E) (next : List A) → ((more : List ℕ) → left more ≡ behind next (later more)) →
      AreItemsSoFar divided later text (given ++ next)
  given_more later next step more = stands more ∙ ap (behind given) (step more) ∙ behind_both given next (later more)

  pub given_now : divided text ≡ behind given (left [])
  given_now = ap divided (sym (append-nil text)) ∙ stands []

  pub given_all : (rest : List ℕ) → left [] ≡ rest_only rest → divided text ≡ record { items = given; end = Ok rest }
  given_all rest e = given_now ∙ ap (behind given) e ∙ ap (λ (xs : List A). record { items = xs; end = Ok rest }) (append-nil given)

  pub given_fault : (x : E) → left [] ≡ fault_only x → divided text ≡ record { items = given; end = Err x }
  given_fault x e = given_now ∙ ap (behind given) e ∙ ap (λ (xs : List A). record { items = xs; end = Err x }) (append-nil given)
