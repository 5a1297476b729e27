-- Where the connection of a number stands.
use Rattle.std.proofs.Common.{◌≡◌, ◌<◌, refl, sym, ap, ◌∙◌, zero, suc, arith, get_or, length}
use Rattle.std.proofs.Math.ListN.{set}
use Rattle.std.specs.Prelude.{ℕ, ◌+◌, ◌==◌, if◌then◌else◌, Bool, true, false, List, [], ◌∷◌, map, option_map, Option, Some, None, position}
use Rattle.std.specs.List.{position_from}
use Rattle.std.proofs.lemmas.Iterator.Adapters.{position_from-zero}
use Rattle.conn_core.specs.StandsFor.{ConnectionValue}
use Rattle.served_instance.specs.declared.open_connection.OpenConnection.{OpenConnection}
use Rattle.served_instance.specs.Present.{is_numbered, StayInPlace}
use Rattle.served_instance.specs.Places.{connection_at}
use Rattle.served_instance.specs.Shown.{connection_shown}

-- the place of the first of this number
abbrev pub place_of : ℕ → List OpenConnection → Option ℕ
place_of c [] = None
place_of c (o ∷ os) = if o.number == c then Some 0 else option_map suc (place_of c os)

later : (i : ℕ) (r : Option ℕ) → option_map (λ (j : ℕ). (i + 1) + j) r ≡ option_map (λ (j : ℕ). i + j) (option_map suc r)
later i None = refl
later i (Some j) = ap Some (omega arith)

place_by : (i : ℕ) (b : Bool) (r s : Option ℕ) → r ≡ option_map (λ (j : ℕ). (i + 1) + j) s →
    (if b then Some i else r) ≡ option_map (λ (j : ℕ). i + j) (if b then Some 0 else option_map suc s)
place_by i true r s h = ap Some (omega arith)
place_by i false r s h = h ∙ later i s

place_from : (c i : ℕ) (os : List OpenConnection) → position_from (is_numbered c) i os ≡ option_map (λ (j : ℕ). i + j) (place_of c os)
place_from c i [] = refl
place_from c i (o ∷ os) = place_by i (o.number == c) (position_from (is_numbered c) (i + 1) os) (place_of c os) (place_from c (i + 1) os)

from_zero : (r : Option ℕ) → option_map (λ (j : ℕ). 0 + j) r ≡ r
from_zero None = refl
from_zero (Some j) = ap Some (omega arith)

pub place_is : (c : ℕ) (os : List OpenConnection) → position (is_numbered c) os ≡ place_of c os
place_is c os = position_from-zero (is_numbered c) os ∙ (place_from c 0 os ∙ from_zero (place_of c os))

-- it stands at this place, and not before
abbrev pub IsPlace : ℕ → List OpenConnection → ℕ → Type 0
IsPlace c [] k = ⊥
IsPlace c (o ∷ os) zero = (o.number == c) ≡ true
IsPlace c (o ∷ os) (suc k) = ((o.number == c) ≡ false) × IsPlace c os k

found_by : (c : ℕ) (o : OpenConnection) (os : List OpenConnection) (r : Option ℕ) (k : ℕ) (b : Bool) → o.number == c ≡ b →
    ((j : ℕ) → r ≡ Some j → IsPlace c os j) → (if b then Some 0 else option_map suc r) ≡ Some k → IsPlace c (o ∷ os) k
found_by c o os r zero true e h f = e
found_by c o os r (suc k) true e h f = let same : 0 ≡ suc k = cc in absurd (omega arith)
found_by c o os (Some j) zero false e h f = let same : suc j ≡ 0 = cc in absurd (omega arith)
found_by c o os (Some j) (suc k) false e h f = let same : suc j ≡ suc k = cc in (e, h k (ap Some (omega arith)))
found_by c o os None k false e h f = cc

found_at : (c : ℕ) (os : List OpenConnection) (k : ℕ) → place_of c os ≡ Some k → IsPlace c os k
found_at c [] k h = cc
found_at c (o ∷ os) k h = found_by c o os (place_of c os) k (o.number == c) refl (λ j. found_at c os j) h

pub is_place : (c : ℕ) (os : List OpenConnection) (k : ℕ) → position (is_numbered c) os ≡ Some k → IsPlace c os k
is_place c os k h = found_at c os k (sym (place_is c os) ∙ h)

at_by : (b : Bool) (v : ConnectionValue) (r : Option ConnectionValue) → b ≡ true → Some v ≡ (if b then Some v else r)
at_by true v r e = refl
at_by false v r e = cc

later_by : (b : Bool) (v : ConnectionValue) (r s : Option ConnectionValue) → b ≡ false → s ≡ r → s ≡ (if b then Some v else r)
later_by true v r s e h = cc
later_by false v r s e h = h

connection_of : (c : ℕ) (os : List OpenConnection) (k : ℕ) (d : OpenConnection) → IsPlace c os k →
    Some (get_or os k d).connection ≡ connection_at c (map connection_shown os)
connection_of c [] k d h = absurd h
connection_of c (o ∷ os) zero d h = at_by (o.number == c) o.connection (connection_at c (map connection_shown os)) h
connection_of c (o ∷ os) (suc k) d h = later_by (o.number == c) o.connection (connection_at c (map connection_shown os))
    (Some (get_or os k d).connection) h.0 (connection_of c os k d h.1)

pub place_some : (c : ℕ) (os : List OpenConnection) (k : ℕ) (d : OpenConnection) → position (is_numbered c) os ≡ Some k →
    Some (get_or os k d).connection ≡ connection_at c (map connection_shown os)
place_some c os k d h = connection_of c os k d (is_place c os k h)

none_by : (b : Bool) (r : Option ℕ) (v : ConnectionValue) (s : Option ConnectionValue) → (r ≡ None → None ≡ s) →
    (if b then Some 0 else option_map suc r) ≡ None → None ≡ (if b then Some v else s)
none_by true r v s h f = cc
none_by false None v s h f = h refl
none_by false (Some j) v s h f = cc

none_at : (c : ℕ) (os : List OpenConnection) → place_of c os ≡ None → None ≡ connection_at c (map connection_shown os)
none_at c [] h = refl
none_at c (o ∷ os) h = none_by (o.number == c) (place_of c os) o.connection (connection_at c (map connection_shown os))
    (λ e. none_at c os e) h

pub place_none : (c : ℕ) (os : List OpenConnection) → position (is_numbered c) os ≡ None → None ≡ connection_at c (map connection_shown os)
place_none c os h = none_at c os (sym (place_is c os) ∙ h)

-- ---- a place that is known

within : (c : ℕ) (os : List OpenConnection) (k : ℕ) → IsPlace c os k → k < length os
within c [] k h = absurd h
within c (o ∷ os) zero h = omega arith
within c (o ∷ os) (suc k) h = omega (arith, within c os k h.1)

pub place_within : (c k : ℕ) (os : List OpenConnection) → position (is_numbered c) os ≡ Some k → k < length os
place_within c k os h = within c os k (is_place c os k h)

there_by : (b : Bool) (v : ConnectionValue) (r : Option ConnectionValue) → b ≡ true → (if b then Some v else r) ≡ None → ⊥
there_by true v r e n = cc
there_by false v r e n = cc

not_here : (b : Bool) (v : ConnectionValue) (r : Option ConnectionValue) → b ≡ false → (if b then Some v else r) ≡ None → r ≡ None
not_here true v r e n = cc
not_here false v r e n = n

there : (c : ℕ) (os : List OpenConnection) (k : ℕ) → IsPlace c os k → connection_at c (map connection_shown os) ≡ None → ⊥
there c [] k h n = absurd h
there c (o ∷ os) zero h n = there_by (o.number == c) o.connection (connection_at c (map connection_shown os)) h n
there c (o ∷ os) (suc k) h n = there c os k h.1 (not_here (o.number == c) o.connection (connection_at c (map connection_shown os)) h.0 n)

pub place_there : (c k : ℕ) (os : List OpenConnection) → position (is_numbered c) os ≡ Some k →
    connection_at c (map connection_shown os) ≡ None → ⊥
place_there c k os h n = there c os k (is_place c os k h) n

-- one becomes another of its number
stays : (c : ℕ) (os : List OpenConnection) (k : ℕ) (d : OpenConnection) (w : ConnectionValue) →
    place_of c (set os k (record { number = (get_or os k d).number; connection = w })) ≡ place_of c os
stays c [] k d w = refl
stays c (o ∷ os) zero d w = refl
stays c (o ∷ os) (suc k) d w = ap (λ (r : Option ℕ). if o.number == c then Some 0 else option_map suc r) (stays c os k d w)

pub places_kept : (os : List OpenConnection) (k : ℕ) (d : OpenConnection) (w : ConnectionValue) →
    StayInPlace os (set os k (record { number = (get_or os k d).number; connection = w }))
places_kept os k d w = λ c. place_is c (set os k (record { number = (get_or os k d).number; connection = w })) ∙ stays c os k d w
    ∙ sym (place_is c os)
