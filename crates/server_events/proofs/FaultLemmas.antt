-- The first fault of a list of instances.
use Rattle.std.proofs.Common.{◌≡◌, ◌≢◌, ℕ, ◌<◌, Bool, true, false, inl, inr, cond, List, [], ◌∷◌, ◌++◌, length, get_or, Option, Some, None, refl, sym, ap, ◌∙◌, subst, arith, append_assoc, append-nil}
use Rattle.std.proofs.lemmas.Bool.Decides.{nat_tests}
use Rattle.std.proofs.Math.Seq.{get_or-append_seam}
use Rattle.std.proofs.lemmas.List.{get_or_append_left, length-append}
use Rattle.std.proofs.lemmas.List.Elements.{All-nil, All-push}
use Rattle.std.proofs.lemmas.List.Quantifiers.{all_pairs_push}
use Rattle.std.specs.Option.{option_or}
use Rattle.std.specs.Prelude.{◌↔◌, ◌⊎◌, ◌≤◌, nat_lt}
use Rattle.server_events.specs.declared.fault.ConfigFault.{ConfigFault}
use Rattle.server_events.specs.declared.fault.ConfigFault.TheVariants.{TooMany}
use Rattle.server_events.specs.Configs.{ConfigValue, config_fault, first_own_fault, first_parent_fault, instance_limit, own_fault, parents_of}
use Rattle.server_events.specs.Faults.{AreConfigs, AreGood, AreParents, IsConfig, IsFaultOf, IsOwnFault}
use Rattle.server_events.proofs.ParentLemmas.{bad_is_some, none_is_well, parents_are, some_is_bad, well_is_none}
use Rattle.server_events.proofs.OwnLemmas.{IsNewName, None-from_good, Some-from_fault, own_fault-None, own_fault-Some}

-- ---- good instances

AreGood-nil : AreGood []
AreGood-nil = record { each = All-nil _; distinct = λ i j d below lt. absurd (omega arith) }

AreGood-push : (configs : List ConfigValue) (last : ConfigValue) → AreGood configs → IsConfig last → IsNewName configs last.name →
    AreGood (configs ++ last ∷ [])
AreGood-push configs last h good new = record {
  each = All-push IsConfig configs last h.each good;
  distinct = all_pairs_push (λ earlier later. later.name ≢ earlier.name) configs last h.distinct new;
}

-- an instance among good ones is good beside those before it
good_at : (before : List ConfigValue) (config : ConfigValue) (after : List ConfigValue) → AreGood (before ++ config ∷ after)
    → IsConfig config × IsNewName before config.name
good_at before config after h = (here, λ k d lt. there k d lt)
  where
    seam : (d : ConfigValue) → get_or (before ++ config ∷ after) (length before) d ≡ config
    seam d = get_or-append_seam before config after d

    front : (k : ℕ) (d : ConfigValue) → k < length before → get_or (before ++ config ∷ after) k d ≡ get_or before k d
    front k d lt = get_or_append_left before (config ∷ after) d k lt

    within : length before < length (before ++ config ∷ after)
    within = let both = length-append before (config ∷ after) in omega (arith, both)

    here : IsConfig config
    here = subst IsConfig (seam config) (h.each (length before) config within)

    there : (k : ℕ) (d : ConfigValue) → k < length before → config.name ≢ (get_or before k d).name
    there k d lt same =
        h.distinct k (length before) d lt within (ap (λ c. c.name) (seam d) ∙ same ∙ ap (λ c. c.name) (sym (front k d lt)))

-- the same with the instance among those before
along : (before : List ConfigValue) (config : ConfigValue) (after : List ConfigValue) →
    (before ++ config ∷ []) ++ after ≡ before ++ config ∷ after
along before config after = append_assoc before (config ∷ []) after

-- ---- no fault

first_none : (before configs : List ConfigValue) → AreGood before → first_own_fault before configs ≡ None → AreGood (before ++ configs)
first_none before [] h e = subst AreGood (sym (append-nil before)) h
first_none before (config ∷ configs) h e = go (λ g k. first_none (before ++ config ∷ []) configs g k) (own_fault before config) refl e
  where
    go : (AreGood (before ++ config ∷ []) → first_own_fault (before ++ config ∷ []) configs ≡ None →
        AreGood ((before ++ config ∷ []) ++ configs))
        → (r : Option ConfigFault) → own_fault before config ≡ r → option_or r (first_own_fault (before ++ config ∷ []) configs) ≡ None
        → AreGood (before ++ config ∷ configs)
    go later None own rest =
        let good = own_fault-None before config own in
        subst AreGood (along before config configs) (later (AreGood-push before config h good.0 good.1) rest)
    go later (Some fault) own rest = cc

none_first : (before configs : List ConfigValue) → AreGood (before ++ configs) → first_own_fault before configs ≡ None
none_first before [] h = refl
none_first before (config ∷ configs) h =
    let good = good_at before config configs h in
    let own = None-from_good before config good.0 good.1 in
    ap (λ r. option_or r (first_own_fault (before ++ config ∷ []) configs)) own
    ∙ none_first (before ++ config ∷ []) configs (subst AreGood (sym (along before config configs)) h)

-- ---- a fault

-- the first fault of instances that follow others
record IsFirstAfter (before configs : List ConfigValue) (fault : ConfigFault) : Type 0 where
  front : List ConfigValue
  config : ConfigValue
  back : List ConfigValue
  whole : configs ≡ front ++ config ∷ back
  good : AreGood (before ++ front)
  bad : IsOwnFault (before ++ front) config fault

first_some : (before configs : List ConfigValue) (fault : ConfigFault) → AreGood before → first_own_fault before configs ≡ Some fault
    → IsFirstAfter before configs fault
first_some before [] fault h e = cc
first_some before (config ∷ configs) fault h e =
    go (λ g k. first_some (before ++ config ∷ []) configs fault g k) (own_fault before config) refl e
  where
    go : (AreGood (before ++ config ∷ []) → first_own_fault (before ++ config ∷ []) configs ≡ Some fault →
        IsFirstAfter (before ++ config ∷ []) configs fault)
        → (r : Option ConfigFault) → own_fault before config ≡ r →
        option_or r (first_own_fault (before ++ config ∷ []) configs) ≡ Some fault
        → IsFirstAfter before (config ∷ configs) fault
    go later None own rest =
        let good = own_fault-None before config own in
        let found = later (AreGood-push before config h good.0 good.1) rest in
        record {
          front = config ∷ found.front;
          config = found.config;
          back = found.back;
          whole = ap (λ cs. config ∷ cs) found.whole;
          good = subst AreGood (along before config found.front) found.good;
          bad = subst (λ cs. IsOwnFault cs found.config fault) (along before config found.front) found.bad;
        }
    go later (Some other) own rest =
        let same : other ≡ fault = cc in
        record {
          front = [];
          config = config;
          back = configs;
          whole = refl;
          good = subst AreGood (sym (append-nil before)) h;
          bad = subst (λ cs. IsOwnFault cs config fault) (sym (append-nil before))
              (own_fault-Some before config fault (own ∙ ap Some same));
        }

some_first : (before front : List ConfigValue) (config : ConfigValue) (back : List ConfigValue) (fault : ConfigFault) →
    AreGood (before ++ front)
    → IsOwnFault (before ++ front) config fault → first_own_fault before (front ++ config ∷ back) ≡ Some fault
some_first before [] config back fault h bad =
    let own = Some-from_fault before config fault (subst (λ cs. IsOwnFault cs config fault) (append-nil before) bad) in
    ap (λ r. option_or r (first_own_fault (before ++ config ∷ []) back)) own
some_first before (first ∷ front) config back fault h bad =
    let good = good_at before first front h in
    let own = None-from_good before first good.0 good.1 in
    ap (λ r. option_or r (first_own_fault (before ++ first ∷ []) (front ++ config ∷ back))) own
    ∙ some_first (before ++ first ∷ []) front config back fault (subst AreGood (sym (along before first front)) h)
    (subst (λ cs. IsOwnFault cs config fault) (sym (along before first front)) bad)

-- ---- whole lists

-- the two parts of a fault, where there is none
no_parts : (own parent : Option ConfigFault) → option_or own parent ≡ None → (own ≡ None) × (parent ≡ None)
no_parts None parent h = (refl, h)
no_parts (Some fault) parent h = cc

-- and where there is one
some_part : (own parent : Option ConfigFault) (fault : ConfigFault) → option_or own parent ≡ Some fault
    → (own ≡ Some fault) ⊎ ((own ≡ None) × (parent ≡ Some fault))
some_part None parent fault h = inr (refl, h)
some_part (Some other) parent fault h = inl h

pub none_is_good : (configs : List ConfigValue) → (config_fault configs ≡ None) ↔ AreConfigs configs
none_is_good configs = (go (nat_lt instance_limit (length configs)) refl, back)
  where
    at : (many : Bool) → nat_lt instance_limit (length configs) ≡ many →
        config_fault configs ≡ cond many (Some TooMany) (option_or (first_own_fault [] configs) (first_parent_fault configs))
    at many e = ap (λ b. cond b (Some TooMany) (option_or (first_own_fault [] configs) (first_parent_fault configs))) e

    go : (many : Bool) → nat_lt instance_limit (length configs) ≡ many → config_fault configs ≡ None → AreConfigs configs
    go true e h = let clash : Some TooMany ≡ None = sym (at true e) ∙ h in cc
    go false e h =
        let parts = no_parts (first_own_fault [] configs) (first_parent_fault configs) (sym (at false e) ∙ h) in
        let good = first_none [] configs AreGood-nil parts.0 in
        record { few = grind (arith, nat_tests); good = good; parents = none_is_well configs good parts.1 }

    back : AreConfigs configs → config_fault configs ≡ None
    back h =
        let few = h.few in
        let e : nat_lt instance_limit (length configs) ≡ false = grind (arith, nat_tests) in
        at false e ∙ ap (λ r. option_or r (first_parent_fault configs)) (none_first [] configs h.good) ∙ well_is_none configs h.parents

pub some_is_first : (configs : List ConfigValue) (fault : ConfigFault) → (config_fault configs ≡ Some fault) ↔ IsFaultOf configs fault
some_is_first configs fault = (go (nat_lt instance_limit (length configs)) refl, back)
  where
    at : (many : Bool) → nat_lt instance_limit (length configs) ≡ many →
        config_fault configs ≡ cond many (Some TooMany) (option_or (first_own_fault [] configs) (first_parent_fault configs))
    at many e = ap (λ b. cond b (Some TooMany) (option_or (first_own_fault [] configs) (first_parent_fault configs))) e

    part : length configs ≤ instance_limit → (first_own_fault [] configs ≡ Some fault)
        ⊎ ((first_own_fault [] configs ≡ None) × (first_parent_fault configs ≡ Some fault))
        → IsFaultOf configs fault
    part few (inl own) =
        let found = first_some [] configs fault AreGood-nil own in
        inr (inl (
          few,
          record {
            front = found.front;
            config = found.config;
            back = found.back;
            whole = found.whole;
            good = found.good;
            bad =
                found.bad;
          },
        ))
    part few (inr parent) = inr (inr (few, some_is_bad configs fault (first_none [] configs AreGood-nil parent.0) parent.1))

    go : (many : Bool) → nat_lt instance_limit (length configs) ≡ many → config_fault configs ≡ Some fault → IsFaultOf configs fault
    go true e h =
        let same : Some TooMany ≡ Some fault = sym (at true e) ∙ h in
        inl (cc, grind (arith, nat_tests))
    go false e h = part (grind (arith, nat_tests))
        (some_part (first_own_fault [] configs) (first_parent_fault configs) fault (sym (at false e) ∙ h))

    not_many : length configs ≤ instance_limit → nat_lt instance_limit (length configs) ≡ false
    not_many few = grind (arith, nat_tests)

    back : IsFaultOf configs fault → config_fault configs ≡ Some fault
    back (inl h) =
        let many = h.1 in
        let e : nat_lt instance_limit (length configs) ≡ true = grind (arith, nat_tests) in
        at true e ∙ ap Some (sym h.0)
    back (inr (inl h)) =
        at false (not_many h.0)
        ∙ ap (λ r. option_or r (first_parent_fault configs))
        (ap (first_own_fault []) h.1.whole ∙ some_first [] h.1.front h.1.config h.1.back fault h.1.good h.1.bad)
    back (inr (inr h)) =
        at false (not_many h.0)
        ∙ ap (λ r. option_or r (first_parent_fault configs)) (none_first [] configs h.1.good) ∙ bad_is_some configs fault h.1

-- instances without a fault build on others that build on none
pub parents_good : (configs : List ConfigValue) → config_fault configs ≡ None → AreParents (parents_of configs)
parents_good configs h =
    let good = (none_is_good configs).0 h in
    parents_are configs good.good good.parents
