-- What is left of the connections that linger.
use Rattle.std.proofs.Common.{◌≡◌, ◌⊎◌, inl, inr, refl, sym, ap, subst, ◌∙◌, ℕ, Bool, true, false, List, [], ◌∷◌, ◌++◌, Option, None, Some, Result, Ok, Err, take, append-nil, append_assoc, cond}
use Rattle.std.specs.Option.{option_map}
use Rattle.std.specs.List.Retain.{RetainsInTurn}
use Rattle.std.specs.List.{AllByRecursion}
use Rattle.std.specs.IoError.{error_kind}
use Rattle.std.specs.declared.io.Error.{Error}
use Rattle.wires.specs.Wires.{WireEvent, Adds, came, failed, is_unready, read_events}
use Rattle.host_sockets.specs.declared.lingering.Lingering.{Lingering}
use Rattle.host_sockets.specs.declared.port.Port.{Port}
use Rattle.host_sockets.specs.Came.{IsHeard, OnlyCame}
use Rattle.host_sockets.specs.Ports.{AreLeft, OnlyClosedGo, OpenStay}

pub adds_none : (o : Option (List WireEvent)) → Adds o o []
adds_none None = inl refl
adds_none (Some h) = inr (ap Some (sym (append-nil h)))

adds_both : (x y z : Option (List WireEvent)) (m n : List WireEvent) → Adds x y m → Adds y z n
    → Adds x z (m ++ n)
adds_both x y z m n first next = elim next [
  | inl lost ↦ inl lost
  | inr more ↦ elim first [
    | inl lost ↦ inl (more ∙ ap (option_map (λ h. h ++ n)) lost)
    | inr some ↦ inr (more ∙ ap (option_map (λ h. h ++ n)) some ∙ join x)
  ]
]
  where
    join : (o : Option (List WireEvent)) → option_map (λ h. h ++ n) (option_map (λ h. h ++ m) o)
        ≡ option_map (λ h. h ++ (m ++ n)) o
    join None = refl
    join (Some h) = ap Some (append_assoc h m n)

both_heard : (m n : List WireEvent) → AllByRecursion IsHeard m → AllByRecursion IsHeard n
    → AllByRecursion IsHeard (m ++ n)
both_heard [] n first next = next
both_heard (x ∷ m) n first next = (first.0, both_heard m n first.1 next)

failure_heard : (b : Bool) → AllByRecursion IsHeard (cond b [] (failed ∷ []))
failure_heard true = tt
failure_heard false = (tt, tt)

module _ {W : Type 0} (happened : W → Option (List WireEvent)) where
  pub none_came : (w : W) → OnlyCame happened w w
  none_came w = ([], tt, adds_none (happened w))

  -- one call of `read`, whatever it answers
  pub one_read : (w v : W) (r : Result ℕ Error) (room : List ℕ)
      → Adds (happened w) (happened v) (read_events r room) → OnlyCame happened w v
  one_read w v (Ok n) room adds = (came (take n room) ∷ [], (tt, tt), adds)
  one_read w v (Err e) room adds = (
    cond (is_unready (error_kind e)) [] (failed ∷ []),
    failure_heard (is_unready (error_kind e)),
    adds,
  )

  both_came : (u v w : W) → OnlyCame happened u v → OnlyCame happened v w → OnlyCame happened u w
  both_came u v w first next = (
    first.0 ++ next.0,
    both_heard first.0 next.0 first.1 next.1,
    adds_both (happened u) (happened v) (happened w) first.0 next.0 first.2 next.2,
  )

  all_left : (xs : List (Lingering W)) → AreLeft happened xs xs
  all_left [] = refl
  all_left (x ∷ xs) = (xs, all_left xs, inr (x, none_came x.wire, refl))

  left_again : (xs ys zs : List (Lingering W)) → AreLeft happened xs ys → AreLeft happened ys zs
      → AreLeft happened xs zs
  left_again [] ys zs none next = subst (λ l. AreLeft happened l zs) none next
  left_again (x ∷ xs) ys zs first next = elim first.2 [
    | inl same ↦ (
      zs,
      left_again xs first.0 zs first.1 (subst (λ l. AreLeft happened l zs) same next),
      inl refl,
    )
    | inr t ↦ let so = subst (λ l. AreLeft happened l zs) t.2 next in (
      so.0,
      left_again xs first.0 so.0 first.1 so.1,
      elim so.2 [
        | inl same ↦ inl same
        | inr u ↦ inr (u.0, both_came x.wire t.0.wire u.0.wire t.1 u.1, u.2)
      ],
    )
  ]

  -- what a closure keeps that only reads of each
  pub retained : {S : Type 0} (R : S → Lingering W → Bool → S → Lingering W → Type 0)
      → ((s : S) (x : Lingering W) (b : Bool) (t : S) (y : Lingering W) → R s x b t y
      → OnlyCame happened x.wire y.wire)
      → (s : S) (xs ys : List (Lingering W)) → RetainsInTurn R s xs ys → AreLeft happened xs ys
  retained R reads s [] ys none = none
  retained R reads s (x ∷ xs) ys h =
      (h.4, retained R reads h.1 xs h.4 h.5, go h.0 h.3 h.6)
    where
      go : (b : Bool) → R s x b h.1 h.2 → ys ≡ cond b (h.2 ∷ h.4) h.4
          → (ys ≡ h.4) ⊎ ((kept : Lingering W) × OnlyCame happened x.wire kept.wire
          × (ys ≡ kept ∷ h.4))
      go true called is = inr (h.2, reads s x true h.1 h.2 called, is)
      go false called is = inl is

  module _ {D : Type 0} where
    all_stay : (p : Port D W) → OnlyClosedGo happened p p
    all_stay p = record {
      address = refl;
      door = refl;
      wires = refl;
      lingering = all_left p.lingering.items;
    }

    pub stay_again : (p q r : Port D W) → OnlyClosedGo happened p q → OnlyClosedGo happened q r
        → OnlyClosedGo happened p r
    stay_again p q r first next = record {
      address = next.address ∙ first.address;
      door = next.door ∙ first.door;
      wires = next.wires ∙ first.wires;
      lingering = left_again p.lingering.items q.lingering.items r.lingering.items
          first.lingering next.lingering;
    }

    pub ports_stay : (ports : List (Port D W)) → OpenStay happened ports ports
    ports_stay [] = tt
    ports_stay (p ∷ ps) = (all_stay p, ports_stay ps)
