use Rattle.std.proofs.Common.{◌≡◌, refl, rules, List, [], ◌∷◌}
use Rattle.std.specs.Prelude.{Bool, filter}
use Rattle.std.specs.List.Retain.{ReturnsInTurn, IsFiltered}
use Rattle.std.proofs.lemmas.List.Elements.{filter_from_retain}
use Rattle.conn_core.specs.StandsFor.{has_live_stream}
use Rattle.conn_core.specs.contracts.call.fn.drop_closed.retain as closure
use Rattle.conn_core.proofs.call.drop_closed.Goals as goal

-- what each call keeps holds at each call
kept : {X P : Type 0} (R : P → X → Bool → P → Type 0) (J : P → Type 0) → ((p : P) (x : X) (b : Bool) (q : P) → J p → R p x b q → J q) →
    (p : P) (bs : List Bool) (xs : List X) (q : P) → J p → ReturnsInTurn R p bs xs q → ReturnsInTurn (λ p x b q. J p × R p x b q) p bs xs q
kept R J keeps p [] xs q j h = h
kept R J keeps p (b ∷ bs) [] q j h = h
kept R J keeps p (b ∷ bs) (x ∷ xs) q j h = (h.0, (j, h.1), kept R J keeps h.0 bs xs q (keeps p x b h.0 j h.1) h.2)

filtered : {X P : Type 0} (R : P → X → Bool → P → Type 0) (J : P → Type 0) (test : X → Bool) →
    ((p : P) (x : X) (b : Bool) (q : P) → J p → R p x b q → J q) →
    ((p : P) (x : X) (b : Bool) (q : P) → J p → R p x b q → b ≡ test x) → (p : P) (xs ys : List X) → J p → IsFiltered R p xs ys →
    ys ≡ filter test xs
filtered R J test keeps says p xs ys j h = filter_from_retain (λ p x b q. J p × R p x b q) test (λ p x b q k. says p x b q k.0 k.1) p xs ys
    (h.0, h.1, h.2, kept R J keeps p h.0 xs h.1 j h.3, h.4)

pub returns : goal.returns
returns c = filtered _ (λ f. let l = closure.captures f in l.live.now ≡ c.args.live.now) (has_live_stream c.args.live.now)
    (λ p x b q j k. search rules)
    (λ p x b q j k. search rules) _ _ _ refl c.retain.ensures.filtered
