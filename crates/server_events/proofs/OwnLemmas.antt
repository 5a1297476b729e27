-- The first fault of one instance that follows others.
use Rattle.std.proofs.Common.{◌≡◌, ◌≢◌, ℕ, Bool, true, false, ◌||◌, not, cond, List, [], ◌∷◌, length, get_or, Option, Some, None, refl, sym, ◌∙◌, arith}
use Rattle.std.proofs.lemmas.Bool.Decides.{nat_tests}
use Rattle.std.proofs.lemmas.List.Elements.{All-head, All-tail}
use Rattle.std.proofs.lemmas.List.Folds.{list_any_at}
use Rattle.std.proofs.lemmas.Slice.Eq.{bytes_eq-Decides}
use Rattle.std.specs.List.{All}
use Rattle.std.specs.Prelude.{nat_le}
use Rattle.std.specs.Str.{bytes_eq}
use Rattle.server_events.specs.Instance.{IsInstanceName, is_instance_name, quota_limit, slots_limit}
use Rattle.server_events.proofs.NameLemmas.{IsInstanceName-from_test, is_instance_name-true}
use Rattle.server_events.specs.declared.fault.ConfigFault.{ConfigFault}
use Rattle.server_events.specs.declared.fault.ConfigFault.TheVariants.{BadName, BadQuota, BadSlots, DuplicateName, TooMany, BadParent}
use Rattle.server_events.specs.Configs.{ConfigValue, is_named_among, own_fault}
use Rattle.server_events.specs.Faults.{IsConfig, IsOwnFault}

-- no other has the name
abbrev pub IsNewName : List ConfigValue → List ℕ → Type 0
IsNewName before name = All (λ other. name ≢ other.name) before

-- ---- the tests

has_bad_name : (name : List ℕ) → is_instance_name name ≡ false → ¬ (IsInstanceName name)
has_bad_name name e h = let clash : false ≡ true = sym e ∙ is_instance_name-true name h in cc

new_name : (before : List ConfigValue) (name : List ℕ) → is_named_among before name ≡ false → IsNewName before name
new_name before name e k d lt same =
    let found = list_any_at (λ config. bytes_eq config.name name) before k d lt
    ((bytes_eq-Decides (get_or before k d).name name).1 (sym same)) in
    let clash : false ≡ true = sym e ∙ found in
    cc

either : (a b : Bool) → (a || b) ≡ true → a ≡ false → b ≡ true
either true b h e = cc
either false b h e = h

known_name : (before : List ConfigValue) (name : List ℕ) → is_named_among before name ≡ true → IsNewName before name → ⊥
known_name [] name e new = cc
known_name (first ∷ before) name e new =
    go (λ among. known_name before name among (All-tail (λ other. name ≢ other.name) first before new)) (bytes_eq first.name name) refl
  where
    go : (is_named_among before name ≡ true → ⊥) → (same : Bool) → bytes_eq first.name name ≡ same → ⊥
    go later true s = All-head (λ other. name ≢ other.name) first before new (sym ((bytes_eq-Decides first.name name).0 s))
    go later false s = later (either (bytes_eq first.name name) (is_named_among before name) e s)

-- ---- the fault, by the tests

fault_by : (named fits slotted taken : Bool) → ℕ → Option ConfigFault
fault_by named fits slotted taken number =
    cond (not named) (Some (BadName number)) (cond (not fits) (Some (BadQuota number))
    (cond (not slotted) (Some (BadSlots number)) (cond taken (Some (DuplicateName number)) None)))

-- what the tests of an instance say
record AreTests (before : List ConfigValue) (config : ConfigValue) (named fits slotted taken : Bool) : Type 0 where
  named_is : is_instance_name config.name ≡ named
  fits_is : nat_le config.quota quota_limit ≡ fits
  slotted_is : nat_le config.slots slots_limit ≡ slotted
  taken_is : is_named_among before config.name ≡ taken

tests_of : (before : List ConfigValue) (config : ConfigValue)
    → AreTests before config (is_instance_name config.name) (nat_le config.quota quota_limit) (nat_le config.slots slots_limit)
    (is_named_among before config.name)
tests_of before config = record { named_is = refl; fits_is = refl; slotted_is = refl; taken_is = refl }

pub own_fault-None : (before : List ConfigValue) (config : ConfigValue) → own_fault before config ≡ None →
    IsConfig config × IsNewName before config.name
unfolding fault_by
own_fault-None before config h =
    go (is_instance_name config.name) (nat_le config.quota quota_limit) (nat_le config.slots slots_limit)
    (is_named_among before config.name) (tests_of before config) h
  where
    go : (named fits slotted taken : Bool) → AreTests before config named fits slotted taken →
        fault_by named fits slotted taken (length before) ≡ None
        → IsConfig config × IsNewName before config.name
    go true true true true t h = cc
    go true true true false t h =
        let small = t.fits_is in
        let few = t.slotted_is in (
          record {
            name = IsInstanceName-from_test config.name t.named_is;
            quota = grind (arith, nat_tests);
            slots =
                grind (arith, nat_tests);
          },
          new_name before config.name t.taken_is,
        )
    go true true false taken t h = cc
    go true false slotted taken t h = cc
    go false fits slotted taken t h = cc

pub None-from_good : (before : List ConfigValue) (config : ConfigValue) → IsConfig config → IsNewName before config.name →
    own_fault before config ≡ None
None-from_good before config good new = go (is_named_among before config.name) refl
  where
    go : (taken : Bool) → is_named_among before config.name ≡ taken → own_fault before config ≡ None
    go true e = absurd (known_name before config.name e new)
    go false e =
        let fits = good.quota in
        let few = good.slots in
        let fits_is : nat_le config.quota quota_limit ≡ true = grind (arith, nat_tests) in
        let slotted_is : nat_le config.slots slots_limit ≡ true = grind (arith, nat_tests) in
        rw (is_instance_name-true config.name good.name, fits_is, slotted_is, e) refl

pub own_fault-Some : (before : List ConfigValue) (config : ConfigValue) (fault : ConfigFault) → own_fault before config ≡ Some fault →
    IsOwnFault before config fault
unfolding fault_by
own_fault-Some before config fault h =
    go (is_instance_name config.name) (nat_le config.quota quota_limit) (nat_le config.slots slots_limit)
    (is_named_among before config.name) (tests_of before config) h
  where
    go : (named fits slotted taken : Bool) → AreTests before config named fits slotted taken →
        fault_by named fits slotted taken (length before) ≡ Some fault
        → IsOwnFault before config fault
    go true true true true t h =
        let same : DuplicateName (length before) ≡ fault = cc in
        let small = t.fits_is in
        let few = t.slotted_is in
        rw (← same) (
          refl,
          record {
            name = IsInstanceName-from_test config.name t.named_is;
            quota = grind (arith, nat_tests);
            slots =
                grind (arith, nat_tests);
          },
          known_name before config.name t.taken_is,
        )
    go true true true false t h = cc
    go true true false taken t h =
        let same : BadSlots (length before) ≡ fault = cc in
        let small = t.fits_is in
        let few = t.slotted_is in
        rw (← same) (refl, IsInstanceName-from_test config.name t.named_is, grind (arith, nat_tests), grind (arith, nat_tests))
    go true false slotted taken t h =
        let same : BadQuota (length before) ≡ fault = cc in
        let small = t.fits_is in
        rw (← same) (refl, IsInstanceName-from_test config.name t.named_is, grind (arith, nat_tests))
    go false fits slotted taken t h =
        let same : BadName (length before) ≡ fault = cc in
        rw (← same) (refl, has_bad_name config.name t.named_is)

pub Some-from_fault : (before : List ConfigValue) (config : ConfigValue) (fault : ConfigFault) → IsOwnFault before config fault →
    own_fault before config ≡ Some fault
Some-from_fault before config (BadName number) h = go (is_instance_name config.name) refl
  where
    go : (named : Bool) → is_instance_name config.name ≡ named → own_fault before config ≡ Some (BadName number)
    go true e = absurd (h.1 (IsInstanceName-from_test config.name e))
    go false e = rw (e, h.0) refl
Some-from_fault before config (BadQuota number) h =
    let over = h.2 in
    let fits_is : nat_le config.quota quota_limit ≡ false = grind (arith, nat_tests) in
    rw (is_instance_name-true config.name h.1, fits_is, h.0) refl
Some-from_fault before config (BadSlots number) h =
    let fits = h.2 in
    let over = h.3 in
    let fits_is : nat_le config.quota quota_limit ≡ true = grind (arith, nat_tests) in
    let slotted_is : nat_le config.slots slots_limit ≡ false = grind (arith, nat_tests) in
    rw (is_instance_name-true config.name h.1, fits_is, slotted_is, h.0) refl
Some-from_fault before config (DuplicateName number) h = go (is_named_among before config.name) refl
  where
    go : (taken : Bool) → is_named_among before config.name ≡ taken → own_fault before config ≡ Some (DuplicateName number)
    go true e =
        let fits = h.1.quota in
        let few = h.1.slots in
        let fits_is : nat_le config.quota quota_limit ≡ true = grind (arith, nat_tests) in
        let slotted_is : nat_le config.slots slots_limit ≡ true = grind (arith, nat_tests) in
        rw (is_instance_name-true config.name h.1.name, fits_is, slotted_is, e, h.0) refl
    go false e = absurd (h.2 (new_name before config.name e))
Some-from_fault before config TooMany h = absurd h
Some-from_fault before config (BadParent number) h = absurd h
