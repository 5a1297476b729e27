-- Instances as entries of a map: an instance's name, and its quota.
use Rattle.std.proofs.Common.{◌≡◌, ◌≢◌, ℕ, suc, ◌<◌, Bool, true, false, List, [], ◌∷◌, ◌++◌, length, map, get_or, None, refl, sym, ap, ◌∙◌, subst, arith}
use Rattle.std.specs.Prelude.{nat_lt, is_none}
use Rattle.std.proofs.lemmas.Bool.Decides.{nat_tests}
use Rattle.std.proofs.lemmas.Slice.Eq.{bytes_eq-Decides}
use Rattle.std.proofs.lemmas.Str.{IsUtf8-string_bytes}
use Rattle.std.specs.List.{position, position_or_len}
use Rattle.std.specs.Map.{keys_of}
use Rattle.std.specs.Str.{bytes_eq, IsUtf8}
use Rattle.std.specs.String.{string_bytes, string_eq}
use Rattle.std.specs.declared.string.String.{String}
use Rattle.keyed_maps.specs.IndexMap.{insert_entry}
use Rattle.script.specs.UnaryScript.{InstanceValue, instance_index}
use Rattle.script.specs.UnaryShown.{entry_value}
use Rattle.script.proofs.PlaceLemmas.{position-map}
use Rattle.script.proofs.WellFormedLemmas.{new_name}

-- ---- the place of a name

position_or_len-alike : {X : Type 0} (p q : X → Bool) (xs : List X) → ((x : X) → p x ≡ q x) → position_or_len p xs ≡ position_or_len q xs
position_or_len-alike p q [] h = refl
position_or_len-alike p q (x ∷ xs) h = rw (h x, position_or_len-alike p q xs h) refl

position-alike : {X : Type 0} (p q : X → Bool) (xs : List X) → ((x : X) → p x ≡ q x) → position p xs ≡ position q xs
position-alike p q xs h = rw (position_or_len-alike p q xs h) refl

bytes_eq-swap : (a b : List ℕ) → bytes_eq a b ≡ bytes_eq b a
bytes_eq-swap a b = go (bytes_eq a b) refl (bytes_eq b a) refl
  where
    go : (x : Bool) → bytes_eq a b ≡ x → (y : Bool) → bytes_eq b a ≡ y → bytes_eq a b ≡ bytes_eq b a
    go true e true f = e ∙ sym f
    go false e false f = e ∙ sym f
    go true e false f =
        let clash : false ≡ true = sym f ∙ (bytes_eq-Decides b a).1 (sym ((bytes_eq-Decides a b).0 e)) in
        cc
    go false e true f =
        let clash : false ≡ true = sym e ∙ (bytes_eq-Decides a b).1 (sym ((bytes_eq-Decides b a).0 f)) in
        cc

-- a map finds the place of a name
pub instance_index-entries : {Z : Type 0} (es : List (String Z × ℕ)) (name : List ℕ)
    → position (λ key. bytes_eq name (string_bytes key)) (keys_of es) ≡ instance_index (map entry_value es) name
instance_index-entries es name =
    position-map (λ key. bytes_eq name (string_bytes key)) (λ e. e.0) es
    ∙ position-alike (λ e. bytes_eq name (string_bytes e.0)) (λ e. bytes_eq (string_bytes e.0) name) es
    (λ e. bytes_eq-swap name (string_bytes e.0))
    ∙ sym (position-map (λ instance. bytes_eq instance.name name) entry_value es)

position_or_len-none : {X : Type 0} (p : X → Bool) (xs : List X) → ((x : X) → p x ≡ false) → position_or_len p xs ≡ length xs
position_or_len-none p [] h = refl
position_or_len-none p (x ∷ xs) h =
    let tail = position_or_len-none p xs h in
    rw (h x) (omega (arith, tail))

position-none : {X : Type 0} (p : X → Bool) (xs : List X) → ((x : X) → p x ≡ false) → position p xs ≡ None
position-none p xs h =
    let n = length xs in
    let far : nat_lt n n ≡ false = grind (arith, nat_tests) in
    rw (position_or_len-none p xs h, far) refl

is_not : (key name : List ℕ) → IsUtf8 key → (IsUtf8 name → ⊥) → bytes_eq key name ≡ false
is_not key name text h = go (bytes_eq key name) refl
  where
    go : (b : Bool) → bytes_eq key name ≡ b → bytes_eq key name ≡ false
    go false e = e
    go true e = absurd (h (subst IsUtf8 ((bytes_eq-Decides key name).0 e) text))

-- what is no text is no instance's name
pub instance_index-no_text : {Z : Type 0} (es : List (String Z × ℕ)) (name : List ℕ) → (IsUtf8 name → ⊥) →
    instance_index (map entry_value es) name ≡ None
instance_index-no_text es name h =
    position-map (λ instance. bytes_eq instance.name name) entry_value es
    ∙ position-none (λ e. bytes_eq (string_bytes e.0) name) es (λ e. is_not (string_bytes e.0) name (IsUtf8-string_bytes e.0) h)

-- ---- one more instance

differs : (key name : List ℕ) → (key ≡ name → ⊥) → bytes_eq key name ≡ false
differs key name h = go (bytes_eq key name) refl
  where
    go : (b : Bool) → bytes_eq key name ≡ b → bytes_eq key name ≡ false
    go false e = e
    go true e = absurd (h ((bytes_eq-Decides key name).0 e))

insert_entry-new : {Z : Type 0} (es : List (String Z × ℕ)) (key : String Z) (quota : ℕ)
    → ((j : ℕ) (d : InstanceValue) → j < length (map entry_value es) → string_bytes key ≢ (get_or (map entry_value es) j d).name)
    → insert_entry string_eq es key quota ≡ es ++ (key, quota) ∷ []
insert_entry-new [] key quota h = refl
insert_entry-new (e ∷ es) key quota h =
    let other : string_eq key e.0 ≡ false = differs (string_bytes key) (string_bytes e.0) (h 0 (entry_value e) (omega arith)) in
    rw (other, insert_entry-new es key quota (λ j d lt. h (suc j) d (omega (arith, lt)))) refl

-- an instance of a new name goes last
pub insert_entry-last : {Z : Type 0} (es : List (String Z × ℕ)) (key : String Z) (quota : ℕ) →
    instance_index (map entry_value es) (string_bytes key) ≡ None
    → insert_entry string_eq es key quota ≡ es ++ (key, quota) ∷ []
insert_entry-last es key quota h = insert_entry-new es key quota (new_name (map entry_value es) (string_bytes key) (ap is_none h))
