-- What a log says of connections, or of runs, stays true as the log grows.
use Rattle.std.proofs.Common.{◌≡◌, ◌∙◌, ap, sym, refl, subst, List, [], ◌++◌, Option, None, Some, is_some, append-nil, append_assoc, inl, inr}
use Rattle.std.specs.Prelude.{◌⊎◌}
use Rattle.std.specs.Option.{option_map}
use Rattle.std.proofs.Math.Logic.{∥∥₁_map}
use Rattle.std.proofs.lemmas.Bool.{true≢false}

abbrev known : {E : Type 0} → Option (List E) → List E
known None = []
known (Some h) = h

abbrev AddsSo : {E : Type 0} → Option (List E) → Option (List E) → List E → Type 0
AddsSo before after more = (after ≡ None) ⊎ (after ≡ option_map (λ h. h ++ more) before)

module _ {E : Type 0} (old new : List E → Type 0) where
  -- these events were put into the log
  pub carried_on : (before after : Option (List E)) (more : List E)
      → ((h : List E) → before ≡ Some h → ∥ old h ∥₁)
      → ((h : List E) → old h → new (h ++ more)) → AddsSo before after more
      → (h : List E) → after ≡ Some h → ∥ new h ∥₁
  carried_on before after more was goes adds h is = elim adds [
    | inl lost ↦ absurd (true≢false (ap is_some (sym is ∙ lost)))
    | inr all ↦ from before was (sym is ∙ all)
  ]
    where
      from : (o : Option (List E))
          → ((l : List E) → o ≡ Some l → ∥ old l ∥₁)
          → Some h ≡ option_map (λ l. l ++ more) o → ∥ new h ∥₁
      from None so same = absurd (true≢false (ap is_some same))
      from (Some l) so same = ∥∥₁_map (so l refl)
          (λ holds. subst new (sym (ap known same)) (goes l holds))

  -- these were, told by other words
  pub carried_as : (before after : Option (List E)) (told more : List E)
      → told ≡ more → ((h : List E) → before ≡ Some h → ∥ old h ∥₁)
      → ((h : List E) → old h → new (h ++ more)) → AddsSo before after told
      → (h : List E) → after ≡ Some h → ∥ new h ∥₁
  carried_as before after told more same was goes adds = carried_on before after more was goes
      (subst (λ (es : List E). AddsSo before after es) same adds)

  -- nothing was
  pub carried_still : (before : Option (List E))
      → ((h : List E) → before ≡ Some h → ∥ old h ∥₁) → ((h : List E) → old h → new (h ++ []))
      → (h : List E) → before ≡ Some h → ∥ new h ∥₁
  carried_still before was goes h is =
      ∥∥₁_map (was h is) (λ holds. subst new (append-nil h) (goes h holds))

  -- the log was lost
  pub carried_lost : (after : Option (List E)) → after ≡ None → (h : List E) → after ≡ Some h → ∥ new h ∥₁
  carried_lost after lost h is = absurd (true≢false (ap is_some (sym is ∙ lost)))

  -- what is not known does not get known
  pub carried_never : (after : Option (List E)) (more : List E) → AddsSo None after more
      → (h : List E) → after ≡ Some h → ∥ new h ∥₁
  carried_never after more adds = carried_lost after (elim adds [
    | inl lost ↦ lost
    | inr all ↦ all
  ])

  one_by_one : (before mid after : Option (List E)) (one two more : List E)
      → AddsSo before mid one → AddsSo mid after two → one ++ two ≡ more → AddsSo before after more
  one_by_one before mid after one two more first next same = elim next [
    | inl lost ↦ inl lost
    | inr then ↦ elim first [
      | inl lost ↦ inl (then ∙ ap (option_map (λ (l : List E). l ++ two)) lost)
      | inr so ↦ inr (then ∙ ap (option_map (λ (l : List E). l ++ two)) so ∙ both before)
    ]
  ]
    where
      both : (o : Option (List E)) → option_map (λ (l : List E). l ++ two) (option_map (λ (l : List E). l ++ one) o)
          ≡ option_map (λ (l : List E). l ++ more) o
      both None = refl
      both (Some l) = ap Some (append_assoc l one two ∙ ap (λ (m : List E). l ++ m) same)

  -- these were, one after the other; or the log was lost then
  pub carried_twice : (before mid after : Option (List E)) (one two more : List E)
      → ((h : List E) → before ≡ Some h → ∥ old h ∥₁)
      → ((h : List E) → old h → new (h ++ more)) → AddsSo before mid one → AddsSo mid after two
      → (after ≡ None) ⊎ (one ++ two ≡ more) → (h : List E) → after ≡ Some h → ∥ new h ∥₁
  carried_twice before mid after one two more was goes first next so = elim so [
    | inl lost ↦ carried_lost after lost
    | inr same ↦ carried_on before after more was goes (one_by_one before mid after one two more first next same)
  ]
