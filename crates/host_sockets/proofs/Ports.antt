-- Where one port changes, and stays where it was, the others stay.
use Rattle.std.proofs.Common.{◌≡◌, ◌≢◌, ◌∙◌, refl, ap, sym, subst, ℕ, zero, suc, List, [], ◌∷◌, ◌++◌, length, map, slice_get, slice_set, slice_index_or, Option, Some, None, IfSome, is_some}
use Rattle.std.proofs.lemmas.Bool.{true≢false}
use Rattle.std.specs.List.{AllZip}
use Rattle.std.proofs.Math.Seq.{map-set_same}
use Rattle.std.specs.declared.net.socket_addr.SocketAddr.{SocketAddr}
use Rattle.host_sockets.specs.declared.port.Port.{Port}
use Rattle.host_sockets.specs.Ports.{AreAt, BecomesAt, NoneIsOpen, OthersStay, Turns, wire_at, wires_of}

slice_get-set_other : {X : Type 0} (xs : List X) (i j : ℕ) (w : X) → j ≢ i
    → slice_get (slice_set xs i w) j ≡ slice_get xs j
slice_get-set_other [] i j w h = refl
slice_get-set_other (x ∷ xs) zero zero w h = absurd (h refl)
slice_get-set_other (x ∷ xs) zero (suc j) w h = refl
slice_get-set_other (x ∷ xs) (suc i) zero w h = refl
slice_get-set_other (x ∷ xs) (suc i) (suc j) w h =
    slice_get-set_other xs i j w (λ e. h (ap suc e))

becomes : {X : Type 0} (Becomes : X → X → Type 0) (xs : List X) (i : ℕ) (x after : X)
    → x ≡ slice_index_or xs i x → Becomes x after
    → Turns Becomes (slice_get xs i) (slice_get (slice_set xs i after) i)
becomes B [] i x after is so = refl
becomes B (y ∷ xs) zero x after is so = subst (λ z. B z after) is so
becomes B (y ∷ xs) (suc i) x after is so = becomes B xs i x after is so

-- what holds of each, by its place, holds of one more that stands behind them
of_more : {X : Type 0} (P : ℕ → X → Type 0) (xs : List X) (x : X)
    → ((i : ℕ) (y : X) → slice_get xs i ≡ Some y → P i y) → P (length xs) x
    → (i : ℕ) (y : X) → slice_get (xs ++ x ∷ []) i ≡ Some y → P i y
of_more P [] x was last zero y is = subst (P 0) (ap (got x) is) last
  where
    got : {X : Type 0} → X → Option X → X
    got d None = d
    got d (Some x) = x
of_more P [] x was last (suc i) y is = absurd (true≢false (ap is_some (sym is)))
of_more P (z ∷ xs) x was last zero y is = was zero y is
of_more P (z ∷ xs) x was last (suc i) y is =
    of_more (λ j w. P (suc j) w) xs x (λ j w at. was (suc j) w at) last i y is

module _ {D W : Type 0} where
  pub added_at : (at : D → Option (SocketAddr × ℕ)) (ports more : List (Port D W))
      (port : Port D W) (door : D) (address : SocketAddr) (place : ℕ)
      → more ≡ ports ++ port ∷ [] → place ≡ length ports → port.door ≡ door
      → port.address ≡ address → IfSome (at door) (λ known. known ≡ (address, place))
      → AreAt at ports → AreAt at more
  added_at at ports more port door address place is last own where_it_is known was =
      subst (λ (ps : List (Port D W)). AreAt at ps) (sym is)
      (of_more (λ (i : ℕ) (p : Port D W). IfSome (at p.door) (λ k. k ≡ (p.address, i))) ports port
      was (subst (λ (n : ℕ). IfSome (at port.door) (λ k. k ≡ (port.address, n))) last
      (subst (λ (a : SocketAddr). IfSome (at port.door) (λ k. k ≡ (a, place))) (sym where_it_is)
      (subst (λ (d : D). IfSome (at d) (λ k. k ≡ (address, place))) (sym own) known))))

  pub added_unopened : (ports more : List (Port D W)) (port : Port D W)
      → more ≡ ports ++ port ∷ [] → port.wires.entries ≡ [] → NoneIsOpen ports → NoneIsOpen more
  added_unopened ports more port is none was =
      subst (λ (ps : List (Port D W)). NoneIsOpen ps) (sym is) (λ i c. go ports i c (λ j. was j c))
    where
      go : (ps : List (Port D W)) (i c : ℕ) → ((j : ℕ) → wires_of ps j c ≡ None)
          → wires_of (ps ++ port ∷ []) i c ≡ None
      go [] zero c so = ap (wire_at c) none
      go [] (suc i) c so = refl
      go (p ∷ ps) zero c so = so zero
      go (p ∷ ps) (suc i) c so = go ps i c (λ j. so (suc j))

  -- what is the same of each port stays so where one is put in its place that has it alike
  pub alike : {X : Type 0} (f : Port D W → X) (old new : List (Port D W)) (i : ℕ)
      (port after : Port D W) → new ≡ slice_set old i after → port ≡ slice_index_or old i port
      → f after ≡ f port → map f new ≡ map f old
  alike f old new i port after changed was stays =
      ap (map f) changed ∙ map-set_same f old i after port (stays ∙ ap f was)

  abbrev pub address_of : Port D W → SocketAddr
  address_of port = port.address

  pub one_changes : (old : List (Port D W)) (i : ℕ) (port after : Port D W)
      → port ≡ slice_index_or old i port → after.address ≡ port.address
      → OthersStay i old (slice_set old i after)
  one_changes old i port after was stays = record {
    addresses = alike address_of old (slice_set old i after) i port after refl was stays;
    others = λ j apart. slice_get-set_other old i j after apart;
  }

  pub one_becomes : (Becomes : Port D W → Port D W → Type 0) (old : List (Port D W)) (i : ℕ)
      (port after : Port D W) → port ≡ slice_index_or old i port → Becomes port after
      → BecomesAt i Becomes old (slice_set old i after)
  one_becomes Becomes old i port after was so = becomes Becomes old i port after was so

  -- of one more port this came next, where what comes in turn is alike
  pub one_more : (Becomes : Port D W → Port D W → Type 0)
      → ((p q r : Port D W) → Becomes p q → Becomes q r → Becomes p r)
      → (old ports : List (Port D W)) (i : ℕ) (port after : Port D W)
      → port ≡ slice_index_or ports i port → Becomes (slice_index_or ports i port) after
      → AllZip Becomes old ports → AllZip Becomes old (slice_set ports i after)
  one_more B again [] [] i port after is goes stay = tt
  one_more B again [] (q ∷ qs) i port after is goes bad = absurd bad
  one_more B again (p ∷ ps) [] i port after is goes bad = absurd bad
  one_more B again (p ∷ ps) (q ∷ qs) zero port after is goes stay =
      (again p q after stay.0 goes, stay.1)
  one_more B again (p ∷ ps) (q ∷ qs) (suc i) port after is goes stay =
      (stay.0, one_more B again ps qs i port after is goes stay.1)
