-- Where no two open connections have one number, the first of a number is the only one.
use Rattle.std.proofs.Common.{◌≡◌, refl, sym, ap, ◌∙◌, zero, suc, arith, get_or, inl, inr, ◌<◌}
use Rattle.std.specs.Prelude.{ℕ, ◌==◌, if◌then◌else◌, Bool, true, false, cond, List, [], ◌∷◌, length, map, Option, Some, None}
use Rattle.std.specs.Option.{is_some}
use Rattle.std.proofs.lemmas.Bool.{cases_Bool, true≢false, eqb-true, eq-eqb}
use Rattle.grpc_sending.specs.StoredSending.{SourceTexts}
use Rattle.conn_core.specs.Past.{Past}
use Rattle.conn_core.specs.StandsFor.{ConnectionValue}
use Rattle.served_instance.specs.Connections.{LoneConnection, AreApart, open_ones, open_at}
use Rattle.served_instance.specs.declared.open_connection.OpenConnection.{OpenConnection}
use Rattle.served_instance.specs.StandsFor.{AreServed}
use Rattle.served_instance.specs.Places.{connection_at}
use Rattle.served_instance.specs.Shown.{connection_shown}
use Rattle.served_instance.proofs.Opens.{first_past, open_at_is}

-- none of the others has the number of the first
abbrev AreAlone : List LoneConnection → Type 0
AreAlone [] = Unit {0}
AreAlone (k ∷ ks) = (first_past k.number ks ≡ None) × AreAlone ks

alone_if : (k : LoneConnection) (ks : List LoneConnection) (b : Bool) → k.is_open ≡ b → (k.is_open ≡ true → open_at k.number ks ≡ None) →
    AreAlone (open_ones ks) → AreAlone (cond b (k ∷ open_ones ks) (open_ones ks))
alone_if k ks true is h later = (sym (open_at_is k.number ks) ∙ h is, later)
alone_if k ks false is h later = later

are_alone : (ks : List LoneConnection) → AreApart ks → AreAlone (open_ones ks)
are_alone [] a = tt
are_alone (k ∷ ks) a = alone_if k ks k.is_open refl a.0 (are_alone ks a.1)

-- one that stands among them has a past
abbrev HasPast : Option Past → Type 0
HasPast o = is_some o ≡ true

has_by : (b : Bool) (p : Past) (r : Option Past) → HasPast r → HasPast (if b then Some p else r)
has_by true p r h = refl
has_by false p r h = h

has_here : (b : Bool) (p : Past) (r : Option Past) → b ≡ true → HasPast (if b then Some p else r)
has_here true p r e = refl
has_here false p r e = absurd (true≢false (sym e))

has_past : (texts : SourceTexts) (c : ℕ) (os : List OpenConnection) (ls : List LoneConnection) (i : ℕ) (d : OpenConnection) →
    AreServed texts (map connection_shown os) ls → i < length os → (get_or os i d).number ≡ c → HasPast (first_past c ls)
has_past texts c [] ls i d s lt e = absurd (omega arith)
has_past texts c (o ∷ os) [] i d s lt e = absurd s
has_past texts c (o ∷ os) (l ∷ ls) zero d s lt e = has_here (l.number == c) l.past (first_past c ls) (eq-eqb l.number c (sym s.0 ∙ e))
has_past texts c (o ∷ os) (l ∷ ls) (suc i) d s lt e =
    has_by (l.number == c) l.past (first_past c ls) (has_past texts c os ls i d s.2 (omega arith) e)

none_has : (o : Option Past) → HasPast o → o ≡ None → ⊥
none_has o h none = true≢false (sym h ∙ ap is_some none)

found_here : (b : Bool) (v : ConnectionValue) (r : Option ConnectionValue) → b ≡ true → Some v ≡ (if b then Some v else r)
found_here true v r e = refl
found_here false v r e = absurd (true≢false (sym e))

found_later : (b : Bool) (u v : ConnectionValue) (r : Option ConnectionValue) → b ≡ false → Some v ≡ r → Some v ≡ (if b then Some u else r)
found_later true u v r e h = absurd (true≢false e)
found_later false u v r e h = h

found_at : (texts : SourceTexts) (c : ℕ) (os : List OpenConnection) (ls : List LoneConnection) (i : ℕ) (b d : OpenConnection) →
    AreServed texts (map connection_shown os) ls → AreAlone ls → i < length os → (get_or os i b).number ≡ c →
    Some (get_or os i d).connection ≡ connection_at c (map connection_shown os)
found_at texts c [] ls i b d s a lt e = absurd (omega arith)
found_at texts c (o ∷ os) [] i b d s a lt e = absurd s
found_at texts c (o ∷ os) (l ∷ ls) zero b d s a lt e =
    found_here (o.number == c) o.connection (connection_at c (map connection_shown os)) (eq-eqb o.number c e)
found_at texts c (o ∷ os) (l ∷ ls) (suc i) b d s a lt e = elim (cases_Bool (o.number == c)) [
  | inl same ↦
      let number : l.number ≡ c = sym s.0 ∙ eqb-true o.number c same in
      absurd (none_has (first_past c ls) (has_past texts c os ls i b s.2 (omega arith) e)
      (ap (λ (n : ℕ). first_past n ls) (sym number) ∙ a.0))
  | inr other ↦ found_later (o.number == c) o.connection (get_or os i d).connection (connection_at c (map connection_shown os)) other
      (found_at texts c os ls i b d s.2 a.1 (omega arith) e)
]

-- the connection at a place is the one of its number
pub only_at : (texts : SourceTexts) (c : ℕ) (os : List OpenConnection) (ks : List LoneConnection) (i : ℕ) (b d : OpenConnection) →
    AreServed texts (map connection_shown os) (open_ones ks) → AreApart ks → i < length os → (get_or os i b).number ≡ c →
    Some (get_or os i d).connection ≡ connection_at c (map connection_shown os)
only_at texts c os ks i b d s a lt e = found_at texts c os (open_ones ks) i b d s (are_alone ks a) lt e
