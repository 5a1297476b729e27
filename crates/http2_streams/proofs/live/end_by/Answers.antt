use Rattle.std.proofs.Common.{◌≡◌, refl, ap, subst, ◌∙◌, Bool, List, [], ◌∷◌, rules}
use Rattle.std.specs.Prelude.{true, false, map, filter, cond, not, ◌&&◌, ◌==◌}
use Rattle.std.specs.List.{retain_mut}
use Rattle.std.specs.List.Retain.{RetainsInTurn}
use Rattle.http2_streams.specs.declared.stream.Side.{Side}
use Rattle.http2_streams.specs.declared.stream.Stream.{Stream}
use Rattle.http2_streams.specs.Step.{is_ended_by, with_end}
use Rattle.http2_streams.proofs.live.end_by.Goals as goal

-- what a closure keeps and changes that stays as it is
retained : {S X : Type 0} (R : S → X → Bool → S → X → Type 0) (keep : X → Bool) (change : X → X) (s : S) →
    ((x : X) (b : Bool) (t : S) (y : X) → R s x b t y → (b ≡ keep x) × (y ≡ change x) × (t ≡ s)) → (xs ys : List X) →
    RetainsInTurn R s xs ys → ys ≡ retain_mut keep change xs
retained R keep change s f [] ys h = h
retained R keep change s f (x ∷ xs) ys h =
    let said = f x h.0 h.1 h.2 h.3 in
    let rest = retained R keep change s f xs h.4 (subst (λ t. RetainsInTurn R t xs h.4) said.2 h.5) in
    h.6 ∙ (λ i. cond (said.0 i) (said.1 i ∷ rest i) (rest i))

kept_then : {X : Type 0} (change : X → X) (x : X) (ys zs : List X) → ys ≡ map change zs → (b : Bool) →
    cond b (change x ∷ ys) ys ≡ map change (cond b (x ∷ zs) zs)
kept_then change x ys zs same true = ap (λ l. change x ∷ l) same
kept_then change x ys zs same false = same

-- what is kept and changed in one go is kept first, and then changed
kept_changed : {X : Type 0} (keep : X → Bool) (change : X → X) (xs : List X) → retain_mut keep change xs ≡ map change (filter keep xs)
kept_changed keep change [] = refl
kept_changed keep change (x ∷ xs) = kept_then change x (retain_mut keep change xs) (filter keep xs) (kept_changed keep change xs) (keep x)

pub returns-clause-list : goal.returns-clause-list
returns-clause-list c =
    let keep : Side → Stream → Bool = λ side x. not (x.number == c.args.number && is_ended_by side x) in
    let change = λ (x : Stream). with_end c.args.side c.args.number x in
    retained _ (keep c.other-other.result) change _ (λ x b t y k. search rules) _ _ c.retain_mut.ensures.filtered
    ∙ kept_changed (keep c.other-other.result) change c.args.live.now.items
    ∙ ap (λ side. map change (filter (keep side) c.args.live.now.items)) c.other-other.ensures
