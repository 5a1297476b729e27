-- Kept connections stand for the open ones, one by one.
use Rattle.std.proofs.Common.{◌≡◌, refl, sym, ap, ◌∙◌, subst, zero, suc, arith, get_or, ◌<◌, ◌≤◌}
use Rattle.std.proofs.Math.ListN.{set}
use Rattle.std.specs.Prelude.{ℕ, ◌==◌, if◌then◌else◌, Bool, true, false, List, [], ◌∷◌, length, map, Option, Some, None}
use Rattle.std.specs.List.{AllByRecursion}
use Rattle.grpc_sending.specs.StoredSending.{SourceTexts}
use Rattle.conn_core.specs.Past.{Past, with_pumped}
use Rattle.conn_core.specs.StandsFor.{ConnectionValue, IsConnection}
use Rattle.served_instance.specs.Connections.{LoneConnection, open_ones, at_all_open, open_at}
use Rattle.served_instance.specs.StandsFor.{ServedConnection, AreServed, IsSettledConnection}
use Rattle.served_instance.specs.Places.{connection_at}
use Rattle.served_instance.specs.Shown.{connection_shown}
use Rattle.served_instance.specs.declared.open_connection.OpenConnection.{OpenConnection}
use Rattle.grpc_sending.proofs.Settles.{pump_settles as the_pump_settles}
use Rattle.served_instance.proofs.Opens.{first_past, stepped_by, open_at_is, at_all_open_is}

-- both or neither is there
abbrev pub SameAt : SourceTexts → Option ConnectionValue → Option Past → Type 0
SameAt texts None None = Unit {0}
SameAt texts (Some v) (Some p) = IsConnection texts v p
SameAt texts v p = ⊥

found_by : (texts : SourceTexts) (m n : Bool) (v : ConnectionValue) (p : Past) (a : Option ConnectionValue) (b : Option Past) → m ≡ n →
    IsConnection texts v p → SameAt texts a b → SameAt texts (if m then Some v else a) (if n then Some p else b)
found_by texts true true v p a b e h r = h
found_by texts false false v p a b e h r = r
found_by texts true false v p a b e h r = cc
found_by texts false true v p a b e h r = cc

first_is : (texts : SourceTexts) (c : ℕ) (vs : List ServedConnection) (ls : List LoneConnection) → AreServed texts vs ls →
    SameAt texts (connection_at c vs) (first_past c ls)
first_is texts c [] [] s = tt
first_is texts c [] (k ∷ ks) s = absurd s
first_is texts c (v ∷ vs) [] s = absurd s
first_is texts c (v ∷ vs) (k ∷ ks) s = found_by texts (v.number == c) (k.number == c) v.connection k.past (connection_at c vs)
    (first_past c ks) (ap (λ (n : ℕ). n == c) s.0) s.1 (first_is texts c vs ks s.2)

pub same_at : (texts : SourceTexts) (c : ℕ) (vs : List ServedConnection) (ks : List LoneConnection) → AreServed texts vs (open_ones ks) →
    SameAt texts (connection_at c vs) (open_at c ks)
same_at texts c vs ks s = let P : Option Past → Type 0 = λ p. SameAt texts (connection_at c vs) p in
    subst P (sym (open_at_is c ks)) (first_is texts c vs (open_ones ks) s)

pub same_length : (texts : SourceTexts) (vs : List ServedConnection) (ls : List LoneConnection) → AreServed texts vs ls →
    length vs ≡ length ls
same_length texts [] [] s = refl
same_length texts [] (k ∷ ks) s = absurd s
same_length texts (v ∷ vs) [] s = absurd s
same_length texts (v ∷ vs) (k ∷ ks) s = grind (arith, same_length texts vs ks s.2)

-- ---- a step of each

-- a kept connection after the pump
abbrev pub Pumps : SourceTexts → OpenConnection → OpenConnection → Type 0
Pumps texts o n = (n.number ≡ o.number) × ((p : Past) → IsConnection texts o.connection p → IsConnection texts n.connection (with_pumped p))

-- the first of them, so many, after the pump
abbrev pub ArePumped : SourceTexts → ℕ → List OpenConnection → List OpenConnection → Type 0
ArePumped texts zero os ns = ns ≡ os
ArePumped texts (suc i) (o ∷ os) (n ∷ ns) = Pumps texts o n × ArePumped texts i os ns
ArePumped texts (suc i) [] ns = ⊥
ArePumped texts (suc i) (o ∷ os) [] = ⊥

pub pumped_more : (texts : SourceTexts) (i : ℕ) (os ns : List OpenConnection) (d w : OpenConnection) → i < length ns →
    Pumps texts (get_or ns i d) w → ArePumped texts i os ns → ArePumped texts (suc i) os (set ns i w)
pumped_more texts zero os [] d w lt h s = absurd (omega arith)
pumped_more texts zero [] (n ∷ ns) d w lt h s = cc
pumped_more texts zero (o ∷ os) (n ∷ ns) d w lt h s =
    let same : n ≡ o = cc in
    (let P : OpenConnection → Type 0 = λ y. Pumps texts y w in subst P same h, cc)
pumped_more texts (suc i) [] ns d w lt h s = absurd s
pumped_more texts (suc i) (o ∷ os) [] d w lt h s = absurd s
pumped_more texts (suc i) (o ∷ os) (n ∷ ns) d w lt h s = (s.0, pumped_more texts i os ns d w (omega arith) h s.1)

pub pumped_served : (texts : SourceTexts) (i : ℕ) (os ns : List OpenConnection) (ls : List LoneConnection) → length ns ≤ i →
    ArePumped texts i os ns → AreServed texts (map connection_shown os) ls →
    AreServed texts (map connection_shown ns) (map (stepped_by with_pumped) ls)
pumped_served texts zero [] [] [] le e s = tt
pumped_served texts zero [] [] (k ∷ ks) le e s = absurd s
pumped_served texts zero (o ∷ os) [] ls le e s = cc
pumped_served texts zero os (n ∷ ns) ls le e s = absurd (omega arith)
pumped_served texts (suc i) [] ns ls le h s = absurd h
pumped_served texts (suc i) (o ∷ os) [] ls le h s = absurd h
pumped_served texts (suc i) (o ∷ os) (n ∷ ns) [] le h s = absurd s
pumped_served texts (suc i) (o ∷ os) (n ∷ ns) (k ∷ ks) le h s =
    (h.0.0 ∙ s.0, h.0.1 k.past s.1, pumped_served texts i os ns ks (omega arith) h.1 s.2)

pub pump_serves : (texts : SourceTexts) (i : ℕ) (os ns : List OpenConnection) → length ns ≤ i → ArePumped texts i os ns →
    (ks : List LoneConnection) → AreServed texts (map connection_shown os) (open_ones ks) →
    AreServed texts (map connection_shown ns) (open_ones (at_all_open with_pumped ks))
pump_serves texts i os ns le h ks s =
    let P : List LoneConnection → Type 0 = λ xs. AreServed texts (map connection_shown ns) xs in
    subst P (sym (at_all_open_is with_pumped ks)) (pumped_served texts i os ns (open_ones ks) le h s)

-- ---- nothing more can be put

settled_each : (texts : SourceTexts) (vs : List ServedConnection) (ls : List LoneConnection) → AreServed texts vs ls →
    AllByRecursion IsSettledConnection (map (stepped_by with_pumped) ls)
settled_each texts [] [] s = tt
settled_each texts [] (k ∷ ks) s = absurd s
settled_each texts (v ∷ vs) [] s = absurd s
settled_each texts (v ∷ vs) (k ∷ ks) s = (the_pump_settles k.past.history k.past.owed s.1.sending.taken, settled_each texts vs ks s.2)

pub pump_settles : (texts : SourceTexts) (vs : List ServedConnection) (ks : List LoneConnection) → AreServed texts vs (open_ones ks) →
    AllByRecursion IsSettledConnection (open_ones (at_all_open with_pumped ks))
pump_settles texts vs ks s =
    let P : List LoneConnection → Type 0 = λ xs. AllByRecursion IsSettledConnection xs in
    subst P (sym (at_all_open_is with_pumped ks)) (settled_each texts vs (open_ones ks) s)
