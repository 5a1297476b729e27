-- Which instances may build on which, and the first that may not.
use Rattle.std.proofs.Common.{◌≡◌, ℕ, ◌<◌, Bool, true, false, inl, inr, not, ◌&&◌, List, ◌∷◌, ◌++◌, length, get_or, Option, Some, None, refl, sym, ap, ◌∙◌, subst, arith}
use Rattle.std.proofs.lemmas.Bool.{and_parts, cases_order}
use Rattle.std.proofs.lemmas.List.{length-map}
use Rattle.std.proofs.lemmas.List.Elements.{Contains-get_or, Contains-append_left, Contains-append_right}
use Rattle.std.proofs.lemmas.List.Folds.{Any-from_list_any, list_any_at}
use Rattle.std.proofs.lemmas.List.Quantifiers.{position-Some}
use Rattle.std.proofs.lemmas.Option.{slice_get-map, slice_get-get_or, slice_get_within, get_or_from_slice_get}
use Rattle.std.proofs.lemmas.Slice.Eq.{bytes_eq-Decides}
use Rattle.std.specs.List.{All, position, slice_get}
use Rattle.std.specs.Option.{option_map_or}
use Rattle.std.specs.Prelude.{◌⊎◌, Contains, IfSome, is_none, option_map, option_and_then}
use Rattle.std.specs.Str.{bytes_eq}
use Rattle.server_events.specs.declared.fault.ConfigFault.{ConfigFault}
use Rattle.server_events.specs.declared.fault.ConfigFault.TheVariants.{BadParent}
use Rattle.server_events.specs.Configs.{ConfigValue, first_parent_fault, has_bad_parent, names_a_root, number_named, parent_of, parents_of}
use Rattle.server_events.specs.Faults.{AreGood, AreParents, BuildsWell, IsFirstBadParent, IsNameOfParent}
use Rattle.server_events.proofs.ListLemmas.{none_passes, passes_none, position_seam, seam_at}

-- ---- one name, one place

apart : (configs : List ConfigValue) (j k : ℕ) (d : ConfigValue) → AreGood configs → j < length configs → k < length configs
    → (get_or configs j d).name ≡ (get_or configs k d).name → j ≡ k
apart configs j k d good below there same = go (cases_order j k)
  where
    go : (j ≡ k) ⊎ ((j < k) ⊎ (k < j)) → j ≡ k
    go (inl is) = is
    go (inr (inl less)) = absurd (good.distinct j k d less there (sym same))
    go (inr (inr more)) = absurd (good.distinct k j d more below same)

-- two of these that have one name are one
one_named : (configs : List ConfigValue) (one two : ConfigValue) → AreGood configs → Contains configs one → Contains configs two →
    one.name ≡ two.name → one ≡ two
one_named configs one two good here there same =
    let first : get_or configs here.0 one ≡ one = here.2 in
    let other : get_or configs there.0 one ≡ two = get_or_default configs there.0 two one there.1 ∙ there.2 in
    let names : (get_or configs here.0 one).name ≡ (get_or configs there.0 one).name =
    ap (λ (c : ConfigValue). c.name) first ∙ same ∙ ap (λ (c : ConfigValue). c.name) (sym other) in
    let place = apart configs here.0 there.0 one good here.1 there.1 names in
    sym first ∙ ap (λ k. get_or configs k one) place ∙ other
  where
    get_or_default : (xs : List ConfigValue) (k : ℕ) (d e : ConfigValue) → k < length xs → get_or xs k e ≡ get_or xs k d
    get_or_default xs k d e lt = get_or_from_slice_get xs k (get_or xs k d) e (slice_get-get_or xs k d lt)

-- ---- the test of one parent

unnegated : (b : Bool) → not b ≡ false → b ≡ true
unnegated true h = refl
unnegated false h = cc

no_parent : (parent : Option (List ℕ)) → is_none parent ≡ true → parent ≡ None
no_parent None h = refl
no_parent (Some name) h = cc

-- a name that is one of a root among good instances is that of another one
is_name : (configs : List ConfigValue) (config : ConfigValue) (name : List ℕ) → AreGood configs → Contains configs config →
    config.parent ≡ Some name
    → names_a_root configs name ≡ true → IsNameOfParent configs config name
is_name configs config name good there builds h =
    let found = Any-from_list_any (λ (c : ConfigValue). bytes_eq c.name name && is_none c.parent) configs h in
    let other = found.1 in
    let parts = and_parts (bytes_eq other.name name) (is_none other.parent) found.4 in
    let root = no_parent other.parent parts.1 in
    let among : Contains configs other = (found.0, found.2, found.3) in
    record {
      parent = other;
      there = among;
      named = (bytes_eq-Decides other.name name).0 parts.0;
      another = λ same.
          let clash : Some name ≡ None = sym builds ∙ ap (λ (c : ConfigValue). c.parent)
          (sym (one_named configs other config good among there same)) ∙ root in
          cc;
      builds_on_none = root;
    }

well_if : (configs : List ConfigValue) (config : ConfigValue) → AreGood configs → Contains configs config →
    has_bad_parent configs config ≡ false → BuildsWell configs config
well_if configs config good there h = go config.parent refl h
  where
    go : (parent : Option (List ℕ)) → config.parent ≡ parent →
        option_map_or (λ name. not (names_a_root configs name)) parent false ≡ false → IfSome parent (IsNameOfParent configs config)
    go None e h = tt
    go (Some name) e h = is_name configs config name good there e (unnegated (names_a_root configs name) h)

root_named : (configs : List ConfigValue) (config : ConfigValue) (name : List ℕ) → IsNameOfParent configs config name →
    names_a_root configs name ≡ true
root_named configs config name h =
    let there = h.there in
    let passes : (bytes_eq h.parent.name name && is_none h.parent.parent) ≡ true =
    ap (λ b. b && is_none h.parent.parent) ((bytes_eq-Decides h.parent.name name).1 h.named)
    ∙ ap (λ (o : Option (List ℕ)). is_none o) h.builds_on_none in
    list_any_at (λ (c : ConfigValue). bytes_eq c.name name && is_none c.parent) configs there.0 h.parent there.1
    (ap (λ (c : ConfigValue). bytes_eq c.name name && is_none c.parent) there.2 ∙ passes)

if_well : (configs : List ConfigValue) (config : ConfigValue) → BuildsWell configs config → has_bad_parent configs config ≡ false
if_well configs config h = go config.parent h
  where
    go : (parent : Option (List ℕ)) → IfSome parent (IsNameOfParent configs config) →
        option_map_or (λ name. not (names_a_root configs name)) parent false ≡ false
    go None h = refl
    go (Some name) h = ap not (root_named configs config name h)

-- ---- the first bad one

no_fault : (found : Option ℕ) → option_map BadParent found ≡ None → found ≡ None
no_fault None h = refl
no_fault (Some n) h = cc

pub none_is_well : (configs : List ConfigValue) → AreGood configs → first_parent_fault configs ≡ None → All (BuildsWell configs) configs
none_is_well configs good h k d lt =
    well_if configs (get_or configs k d) good (Contains-get_or configs k d lt)
    (none_passes (has_bad_parent configs) configs (no_fault (position (has_bad_parent configs) configs) h) k d lt)

pub well_is_none : (configs : List ConfigValue) → All (BuildsWell configs) configs → first_parent_fault configs ≡ None
well_is_none configs h =
    ap (option_map BadParent) (passes_none (has_bad_parent configs) configs (λ k d lt. if_well configs (get_or configs k d) (h k d lt)))

bad_number : (found : Option ℕ) (fault : ConfigFault) → option_map BadParent found ≡ Some fault →
    (n : ℕ) × (found ≡ Some n) × (fault ≡ BadParent n)
bad_number None fault h = cc
bad_number (Some n) fault h = (n, refl, cc)

pub some_is_bad : (configs : List ConfigValue) (fault : ConfigFault) → AreGood configs → first_parent_fault configs ≡ Some fault →
    IsFirstBadParent configs fault
some_is_bad configs fault good h =
    let found = bad_number (position (has_bad_parent configs) configs) fault h in
    let seam = seam_at (has_bad_parent configs) configs found.0 found.1 in
    record {
      front = seam.front;
      config = seam.here;
      back = seam.back;
      whole = seam.whole;
      good = good;
      before = λ k d lt. well_if configs (get_or seam.front k d) good (among seam.front seam.here seam.back seam.whole k d lt)
          (seam.before k d lt);
      bad = λ well. let clash : true ≡ false = sym seam.passes ∙ if_well configs seam.here well in cc;
      number = found.2 ∙ ap BadParent (sym seam.place);
    }
  where
    among : (front : List ConfigValue) (here : ConfigValue) (back : List ConfigValue) → configs ≡ front ++ here ∷ back →
        (k : ℕ) (d : ConfigValue) → k < length front → Contains configs (get_or front k d)
    among front here back whole k d lt =
        subst (λ (cs : List ConfigValue). Contains cs (get_or front k d)) (sym whole)
        (Contains-append_left front (here ∷ back) (get_or front k d) (Contains-get_or front k d lt))

not_well : (b : Bool) → (b ≡ false → ⊥) → b ≡ true
not_well true h = refl
not_well false h = absurd (h refl)

pub bad_is_some : (configs : List ConfigValue) (fault : ConfigFault) → IsFirstBadParent configs fault →
    first_parent_fault configs ≡ Some fault
bad_is_some configs fault h =
    let there : Contains configs h.config = subst (λ (cs : List ConfigValue). Contains cs h.config) (sym h.whole)
    (Contains-append_right h.front (h.config ∷ h.back) h.config (0, omega arith, refl)) in
    let passes = not_well (has_bad_parent configs h.config) (λ e. h.bad (well_if configs h.config h.good there e)) in
    let place = ap (position (has_bad_parent configs)) h.whole
    ∙ position_seam (has_bad_parent configs) h.front h.config h.back
    (λ k d lt. if_well configs (get_or h.front k d) (h.before k d lt)) passes in
    ap (option_map BadParent) place ∙ ap Some (sym h.number)

-- ---- parents by their numbers

-- whose number a name's is, among good instances
number_is : (configs : List ConfigValue) (name : List ℕ) (n : ℕ) (d : ConfigValue) → number_named configs name ≡ Some n
    → (n < length configs) × ((get_or configs n d).name ≡ name)
number_is configs name n d h =
    let found = position-Some (λ (c : ConfigValue). bytes_eq c.name name) configs n d h in
    (found.0, (bytes_eq-Decides (get_or configs n d).name name).0 found.1)

some_child : (configs : List ConfigValue) (o : Option ConfigValue) (parent : ℕ) → option_map (parent_of configs) o ≡ Some (Some parent)
    → (config : ConfigValue) × (o ≡ Some config) × (parent_of configs config ≡ Some parent)
some_child configs None parent h = cc
some_child configs (Some config) parent h = (config, refl, cc)

some_name : (configs : List ConfigValue) (o : Option (List ℕ)) (parent : ℕ) → option_and_then (number_named configs) o ≡ Some parent
    → (name : List ℕ) × (o ≡ Some name) × (number_named configs name ≡ Some parent)
some_name configs None parent h = cc
some_name configs (Some name) parent h = (name, refl, h)

well_named : (configs : List ConfigValue) (config : ConfigValue) (o : Option (List ℕ)) (name : List ℕ) → o ≡ Some name →
    IfSome o (IsNameOfParent configs config) → IsNameOfParent configs config name
well_named configs config None name e h = cc
well_named configs config (Some other) name e h =
    let same : other ≡ name = cc in
    subst (IsNameOfParent configs config) same h

pub parents_are : (configs : List ConfigValue) → AreGood configs → All (BuildsWell configs) configs → AreParents (parents_of configs)
parents_are configs good well child parent h =
    let found = some_child configs (slice_get configs child) parent (sym (slice_get-map (parent_of configs) configs child) ∙ h) in
    let config = found.0 in
    let lt = slice_get_within configs child config found.1 in
    let here : get_or configs child config ≡ config = get_or_from_slice_get configs child config config found.1 in
    let named = some_name configs config.parent parent found.2 in
    let fits : IsNameOfParent configs config named.0 =
    well_named configs config config.parent named.0 named.1 (subst (BuildsWell configs) here (well child config lt)) in
    let at = number_is configs named.0 parent config named.2 in
    let there : Contains configs (get_or configs parent config) = Contains-get_or configs parent config at.0 in
    let same : get_or configs parent config ≡ fits.parent =
    one_named configs (get_or configs parent config) fits.parent good there fits.there (at.1 ∙ sym fits.named) in
    record {
      within = rw (length-map) at.0;
      another = λ is. fits.another (ap (λ (c : ConfigValue). c.name) (sym same ∙ ap (λ k. get_or configs k config) is ∙ here));
      builds_on_none =
          slice_get-map (parent_of configs) configs parent
          ∙ ap (option_map (parent_of configs)) (slice_get-get_or configs parent config at.0 ∙ ap Some same)
          ∙ ap (λ (o : Option (List ℕ)). Some (option_and_then (number_named configs) o)) fits.builds_on_none;
    }
