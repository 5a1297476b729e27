-- A server and its records at their beginning.
use Rattle.std.proofs.Common.{◌≡◌, ℕ, ◌+◌, ◌^◌, ◌<◌, ◌≤◌, List, [], ◌∷◌, ◌++◌, length, get_or, take, map, refl, ap, ◌∙◌, sym, subst, arith, inl, inr, All}
use Rattle.std.specs.Prelude.{◌==◌, true, cond, Option, Some, None, string_bytes}
use Rattle.std.proofs.lemmas.Bool.Decides.{nat_tests}
use Rattle.std.specs.List.{slice_get, AllByRecursion}
use Rattle.blob_pool.specs.Slots.{Slots, text_at, count_at}
use Rattle.std.proofs.lemmas.Bool.{cases_lt}
use Rattle.std.proofs.lemmas.List.{get_or-map, map_more, map_push, length-map}
use Rattle.std.proofs.lemmas.Grind.{common_steps}
use Rattle.server_events.specs.declared.configs.InstanceConfig.{InstanceConfig}
use Rattle.job_queue.specs.declared.queue.TheConstants.{MOST_RUNNING}
use Rattle.server_events.specs.Instance.{slots_limit}
use Rattle.server_events.specs.Configs.{ConfigValue, instance_limit, parent_of}
use Rattle.server_events.specs.Faults.{IsConfig}
use Rattle.server_events.specs.Limits.{usual_limits}
use Rattle.server_events.specs.LimitsShown.{limits_value}
use Rattle.server_events.specs.Shown.{config_value}
use Rattle.served_instance.specs.Lone.{new_lone}
use Rattle.served_instance.specs.StandsFor.{ServedConnection, ServedState, IsServedInstance, IsServedWithin}
use Rattle.served_instance.specs.Slots.{ServedSlots, served_state_in, holders_of}
use Rattle.served_instance.specs.Sources.{count_of}
use Rattle.served_instance.specs.StoredSending.{SourceTexts, sources_of}
use Rattle.served_instance.specs.Ranges.{sources_at, range_holders, RangesEndWithin, HaveFewSources, AreTidy}
use Rattle.served_instance.proofs.Agreeing.{count_append}
use Rattle.served_instance.proofs.Ranges.{fit_none}
use Rattle.server_core.specs.Shared.{all_in, all_holders, HasRanges, IsServer}
use Rattle.server_core.specs.Runs.{new_run}
use Rattle.server_core.specs.Records.{RecordValue, IsRecord}
use Rattle.server_core.specs.LoneOutput.{config_at}
use Rattle.server_core.specs.RunTo.{IsNotedAt}
use Rattle.server_core.specs.StandsFor.{StandsAt}
use Rattle.server_core.proofs.Lists.{get-append, get-last, get-pushed, all-push}

-- the quota of an instance that may be configured
pub quota_in : (xs : List InstanceConfig) (k : ℕ) (x : InstanceConfig) → k < length xs → x ≡ get_or xs k x →
    All IsConfig (map config_value xs) → x.quota ≤ 2 ^ 40
quota_in xs k x lt at all =
    let c : IsConfig (get_or (map config_value xs) k (config_value x)) = all k (config_value x) (rw length-map lt) in
    subst (λ (v : ConfigValue). v.quota ≤ 2 ^ 40) (get_or-map config_value xs k x (config_value x) lt ∙ ap config_value (sym at)) c.quota

-- and how many actions it may run at once
pub slots_in : (xs : List InstanceConfig) (k : ℕ) (x : InstanceConfig) → k < length xs → x ≡ get_or xs k x →
    All IsConfig (map config_value xs) → x.slots ≤ MOST_RUNNING
slots_in xs k x lt at all =
    let c : IsConfig (get_or (map config_value xs) k (config_value x)) = all k (config_value x) (rw length-map lt) in
    let slots = subst (λ (v : ConfigValue). v.slots ≤ slots_limit)
    (get_or-map config_value xs k x (config_value x) lt ∙ ap config_value (sym at)) c.slots in
    omega (arith, slots)

-- the parent of one more
pub parents_more : (configs : List ConfigValue) (xs : List InstanceConfig) (k : ℕ) (x : InstanceConfig) (ps qs : List (Option ℕ))
    (p : Option ℕ) → k < length xs → x ≡ get_or xs k x → qs ≡ ps ++ p ∷ [] → ps ≡ map (parent_of configs) (map config_value (take k xs)) →
    p ≡ parent_of configs (config_value x)
    → qs ≡ map (parent_of configs) (map config_value (take (k + 1) xs))
parents_more configs xs k x ps qs p lt at is so_far own =
    let f : ConfigValue → Option ℕ = parent_of configs in
    let more : map config_value (take (k + 1) xs) ≡ map config_value (take k xs) ++ config_value x ∷ [] =
    map_more config_value xs k x lt ∙ ap (λ (y : InstanceConfig). map config_value (take k xs) ++ config_value y ∷ []) (sym at) in
    is
    ∙ ap (λ (ys : List (Option ℕ)). ys ++ p ∷ []) so_far
    ∙ ap (λ (o : Option ℕ). map f (map config_value (take k xs)) ++ o ∷ []) own
    ∙ sym (ap (map f) more ∙ map_push f (map config_value (take k xs)) (config_value x))

abbrev pub Starts : List ConfigValue → List ServedState → Type 0
Starts configs vs = (i : ℕ) (config : ConfigValue) → config_at i configs ≡ Some config →
    StandsAt i vs (new_lone config.name config.quota config.slots config.limits)

-- one more instance
starts_push : (configs : List ConfigValue) (vs : List ServedState) (x : ConfigValue) (v : ServedState) → length configs ≡ length vs →
    Starts configs vs → IsServedInstance v (new_lone x.name x.quota x.slots x.limits) → Starts (configs ++ x ∷ []) (vs ++ v ∷ [])
starts_push configs vs x v same h own i config is =
    elim (get-pushed configs x config i is) [
      | inl old ↦ let s = h i config old in (s.0, get-append vs (v ∷ []) i s.0 s.1, s.2)
      | inr new ↦ (
        v,
        ap (λ k. slice_get (vs ++ v ∷ []) k) (new.0 ∙ same)
            ∙ get-last vs v,
        subst (λ (c : ConfigValue). IsServedInstance v (new_lone c.name c.quota c.slots c.limits)) new.1 own,
      )
    ]

pub starts_more : (xs : List InstanceConfig) (k : ℕ) (x : InstanceConfig) (vs ws : List ServedState) (v : ServedState) → k < length xs →
    x ≡ get_or xs k x → length vs ≡ k → ws ≡ vs ++ v ∷ [] → Starts (map config_value (take k xs)) vs →
    IsServedInstance v (new_lone (string_bytes x.name) x.quota x.slots (limits_value x.limits)) →
    Starts (map config_value (take (k + 1) xs)) ws
starts_more xs k x vs ws v lt at count is h own =
    let more : map config_value (take (k + 1) xs) ≡ map config_value (take k xs) ++ config_value x ∷ [] =
    map_more config_value xs k x lt ∙ ap (λ (y : InstanceConfig). map config_value (take k xs) ++ config_value y ∷ []) (sym at) in
    let same : length (map config_value (take k xs)) ≡ length vs = grind (arith, common_steps) in
    subst (λ (cs : List ConfigValue). Starts cs ws) (sym more)
    (subst (λ (us : List ServedState). Starts (map config_value (take k xs) ++ config_value x ∷ []) us) (sym is)
    (starts_push (map config_value (take k xs)) vs (config_value x) v same h own))

abbrev pub AreBegun : ℕ → List RecordValue → Type 0
AreBegun n records = (i : ℕ) → i < n → (config : ConfigValue) → IsNotedAt i records (new_run config)

pub begun_more : (records more : List RecordValue) (v : RecordValue) (n : ℕ) → length records ≡ n → more ≡ records ++ v ∷ [] →
    AreBegun n records → ((config : ConfigValue) → IsRecord v (new_run config)) → AreBegun (n + 1) more
begun_more records more v n count is h own i lt config =
    elim (cases_lt i n) [
      | inl old ↦
          let s = h i old config in
          (s.0, ap (λ rs. slice_get rs i) is ∙ get-append records (v ∷ []) i s.0 s.1, s.2)
      | inr new ↦
          let last : i ≡ length records = omega arith in
          (v, ap (λ rs. slice_get rs i) is ∙ ap (λ k. slice_get (records ++ v ∷ []) k) last ∙ get-last records v, own config)
    ]

-- nothing was counted yet
pub none_counted : (v : RecordValue) → ((config : ConfigValue) → IsRecord v (new_run config)) → v.count < 1
none_counted v own =
    let none : v.count ≡ 0 = (own (record { name = []; quota = 0; slots = 0; limits = usual_limits; parent = None })).count in
    omega arith

-- ---- one more instance over a pool

pub all_pushed : (p : Slots) (xs : List ServedSlots) (v : ServedSlots) → all_in p (xs ++ v ∷ []) ≡ all_in p xs ++ served_state_in p v ∷ []
all_pushed p [] v = refl
all_pushed p (x ∷ xs) v = ap (λ (vs : List ServedState). served_state_in p x ∷ vs) (all_pushed p xs v)

pub within_pushed : (p : Slots) (xs : List ServedSlots) (v : ServedSlots) (ys : List ServedSlots) → ys ≡ xs ++ v ∷ [] →
    AllByRecursion IsServedWithin (all_in p xs) → IsServedWithin (served_state_in p v) → AllByRecursion IsServedWithin (all_in p ys)
within_pushed p xs v ys is old own =
    subst (λ (vs : List ServedState). AllByRecursion IsServedWithin vs) (sym (ap (all_in p) is ∙ all_pushed p xs v))
    (all-push IsServedWithin (all_in p xs) (served_state_in p v) old own)

holders_pushed : (xs : List ServedSlots) (v : ServedSlots) (k : ℕ) → all_holders (xs ++ v ∷ []) k ≡ all_holders xs k + holders_of v k
holders_pushed [] v k = omega arith
holders_pushed (x ∷ xs) v k = let ih = holders_pushed xs v k in omega (arith, ih)

pub nobody_pushed : (xs : List ServedSlots) (v : ServedSlots) (ys : List ServedSlots) → ys ≡ xs ++ v ∷ [] →
    ((k : ℕ) → all_holders xs k ≡ 0) → ((k : ℕ) → holders_of v k ≡ 0) → (k : ℕ) → all_holders ys k ≡ 0
nobody_pushed xs v ys is none own k =
    let same : all_holders ys k ≡ all_holders (xs ++ v ∷ []) k = ap (λ (zs : List ServedSlots). all_holders zs k) is in
    omega (arith, same, holders_pushed xs v k, none k, own k)

-- ---- ranges, where no slot is held

none_of : (ns : List ℕ) → ((k : ℕ) → count_of k ns ≡ 0) → ns ≡ []
none_of [] none = refl
none_of (n ∷ ns) none =
    let own : (n == n) ≡ true = grind (arith, nat_tests) in
    let one : cond {A = ℕ} (n == n) 1 0 ≡ 1 = ap (λ b. cond b 1 0) own in
    absurd (omega (arith, one, none n))

fit_bare : (texts : SourceTexts) (vs : List ServedConnection) → ((k : ℕ) → range_holders vs k ≡ 0) → RangesEndWithin texts vs
fit_bare texts [] none = tt
fit_bare texts (v ∷ vs) none =
    let both : (k : ℕ) → range_holders (v ∷ vs) k ≡ count_of k (sources_of v.connection.sending) + range_holders vs k =
    λ k. count_append k (sources_of v.connection.sending) (sources_at vs) in
    let own = none_of (sources_of v.connection.sending) (λ k. omega (arith, none k, both k)) in
    (fit_none texts v.connection.sending own, fit_bare texts vs (λ k. omega (arith, none k, both k)))

few_bare : (vs : List ServedConnection) → ((k : ℕ) → range_holders vs k ≡ 0) → HaveFewSources vs
few_bare [] none = tt
few_bare (v ∷ vs) none =
    let both : (k : ℕ) → range_holders (v ∷ vs) k ≡ count_of k (sources_of v.connection.sending) + range_holders vs k =
    λ k. count_append k (sources_of v.connection.sending) (sources_at vs) in
    (λ k. omega (arith, none k, both k), few_bare vs (λ k. omega (arith, none k, both k)))

-- no instance holds a source of a range that is over
abbrev pub AreAllTidy : List ServedSlots → Type 0
AreAllTidy xs = AllByRecursion (λ (x : ServedSlots). AreTidy x.connections) xs

pub tidy_pushed : (xs : List ServedSlots) (v : ServedSlots) (ys : List ServedSlots) → ys ≡ xs ++ v ∷ [] → AreAllTidy xs →
    AreTidy v.connections → AreAllTidy ys
tidy_pushed xs v ys is old own = subst AreAllTidy (sym is) (all-push (λ (x : ServedSlots). AreTidy x.connections) xs v old own)

ranges_bare : (p : Slots) (xs : List ServedSlots) → ((k : ℕ) → all_holders xs k ≡ 0) → AreAllTidy xs → AllByRecursion (HasRanges p) xs
ranges_bare p [] none tidy = tt
ranges_bare p (x ∷ xs) none tidy =
    let own : (k : ℕ) → range_holders x.connections k ≡ 0 = λ k. omega (arith, none k) in (
      record { fit = fit_bare (text_at p) x.connections own; few = few_bare x.connections own; tidy = tidy.0 },
      ranges_bare p xs
          (λ k. omega (arith, none k)) tidy.1,
    )

-- a server that holds nothing
pub server_begun : (p : Slots) (xs : List ServedSlots) → p ≡ [] → length xs ≤ instance_limit → ((k : ℕ) → all_holders xs k ≡ 0) →
    AllByRecursion IsServedWithin (all_in p xs) → AreAllTidy xs → IsServer p xs
server_begun p xs empty few none within tidy = record {
  exact = λ k. ap (λ (q : Slots). count_at q k) empty ∙ no_count k ∙ sym (none k);
  few = few;
  within = within;
  ranges = ranges_bare p xs none tidy;
}
  where
    no_count : (k : ℕ) → count_at [] k ≡ 0
    no_count k = refl
