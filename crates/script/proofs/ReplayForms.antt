-- A line is good exactly where it has one of the forms.
use Rattle.std.proofs.Common.{◌≡◌, ◌≢◌, ℕ, ◌^◌, ◌==◌, ◌&&◌, Bool, true, false, not, inl, inr, cond, List, [], ◌∷◌, ◌++◌, length, Some, None, codes, refl, sym, ap, ◌∙◌, subst, arith}
use Rattle.std.proofs.lemmas.Bool.{and_parts, false_from_ne_true}
use Rattle.std.proofs.lemmas.Bool.Decides.{Decides-not, nat_tests, not_from_Decides}
use Rattle.std.proofs.lemmas.List.Splits.{join_with_byte-slice_split}
use Rattle.std.proofs.lemmas.Slice.Eq.{bytes_eq-Decides}
use Rattle.std.proofs.lemmas.List.Elements.{All-nil, All-cons, All-head, All-tail}
use Rattle.std.proofs.lemmas.List.Sums.{AllPass-from_list_all, list_all-from_AllPass}
use Rattle.std.specs.Char.{is_ascii}
use Rattle.std.specs.List.{All, AllPass, find, list_all}
use Rattle.std.specs.Option.{option_map_or}
use Rattle.std.specs.Prelude.{◌↔◌, ◌⊎◌, Option, IfSome, nat_lt, is_none, option_map, option_and_then}
use Rattle.std.specs.Str.{bytes_eq}
use Rattle.numerals.specs.Number.{decimal_of}
use Rattle.script.specs.Parts.{words_of}
use Rattle.script.proofs.SplitLemmas.{Lacks-parts_of, parts_of-join}
use Rattle.server_events.specs.Configs.{ConfigValue, instance_limit, own_fault}
use Rattle.server_events.specs.Limits.{LimitsValue}
use Rattle.run_calls.specs.Outcomes.{exited, failed}
use Rattle.server_events.specs.Events.{WhatValue, opened, received, took, closed, tick, ended}
use Rattle.server_events.proofs.OwnLemmas.{None-from_good, own_fault-None}
use Rattle.script.specs.Arguments.{ascii_of, number_of}
use Rattle.script.specs.ReplayEvents.{event_at, event_of, what_of}
use Rattle.script.specs.ReplayLines.{AreConfigWords, IsEventLine, IsGoodReplayLine, IsReplayInstanceLine, IsSpelled, MayBuildOn, Tells}
use Rattle.script.specs.ReplayScript.{ReplayScriptValue, after_replay_line, after_replay_words, config, config_if_good, config_of, first_is_root, may_build, with_config, with_event}
use Rattle.script.proofs.ConfigLemmas.{added, none_is}
use Rattle.script.proofs.EventForms.{Some-from_Tells, Tells-from_Some}
use Rattle.script.proofs.NumberForms.{IsNumber-decimal_below, decimal_below-IsNumber}
use Rattle.script.proofs.LineLemmas.{nothing_left}
use Rattle.script.proofs.Somes.{mapped, chained, chosen, if_some}

-- ---- from a good line to its form

-- the words of an instance
all_ascii : (word text : List ℕ) → ascii_of word ≡ Some text → (word ≡ text) × AllPass is_ascii text
all_ascii word text h =
    let found = chosen (list_all is_ascii word) word text h in
    (found.1, subst (AllPass is_ascii) found.1 (AllPass-from_list_all is_ascii word found.0))

config_words : (limits : LimitsValue) → (words : List (List ℕ)) (made : ConfigValue) → config_of limits words ≡ Some made →
    AreConfigWords words made
config_words limits [] made h = cc
config_words limits (a ∷ []) made h = cc
config_words limits (a ∷ b ∷ []) made h = cc
config_words limits (name ∷ quota ∷ slots ∷ []) made h =
    let read = chained (λ bytes. option_map (λ count. config limits name bytes count None) (number_of slots)) (decimal_of quota) made h in
    let counted = mapped (λ count. config limits name read.0 count None) (number_of slots) made read.2 in
    subst (AreConfigWords (name ∷ quota ∷ slots ∷ [])) counted.2 (record {
      quota = quota;
      slots = slots;
      form = refl;
      bytes_number = read.1;
      count_number = IsNumber-decimal_below (2 ^ 32) slots counted.0 counted.1;
      ascii = tt;
    })
config_words limits (name ∷ quota ∷ slots ∷ parent ∷ []) made h =
    let read = chained (λ bytes. option_and_then (λ count. option_map (λ text. config limits name bytes count (Some text))
    (ascii_of parent)) (number_of slots)) (decimal_of quota) made h in
    let counted = chained (λ count. option_map (λ text. config limits name read.0 count (Some text)) (ascii_of parent))
    (number_of slots) made read.2 in
    let named = mapped (λ text. config limits name read.0 counted.0 (Some text)) (ascii_of parent) made counted.2 in
    let text = all_ascii parent named.0 named.1 in
    subst (AreConfigWords (name ∷ quota ∷ slots ∷ parent ∷ [])) named.2 (record {
      quota = quota;
      slots = slots;
      form = ap (λ p. name ∷ quota ∷ slots ∷ p ∷ []) text.0;
      bytes_number = read.1;
      count_number = IsNumber-decimal_below (2 ^ 32) slots counted.0 counted.1;
      ascii = text.1;
    })
config_words limits (a ∷ b ∷ c ∷ d ∷ e ∷ more) made h = cc

-- the limits are those that were chosen for all
chosen_limits : (limits : LimitsValue) → (words : List (List ℕ)) (made : ConfigValue) → config_of limits words ≡ Some made →
    made.limits ≡ limits
chosen_limits limits [] made h = cc
chosen_limits limits (a ∷ []) made h = cc
chosen_limits limits (a ∷ b ∷ []) made h = cc
chosen_limits limits (name ∷ quota ∷ slots ∷ []) made h =
    let read = chained (λ bytes. option_map (λ count. config limits name bytes count None) (number_of slots)) (decimal_of quota) made h in
    let counted = mapped (λ count. config limits name read.0 count None) (number_of slots) made read.2 in
    ap (λ (c : ConfigValue). c.limits) (sym counted.2)
chosen_limits limits (name ∷ quota ∷ slots ∷ parent ∷ []) made h =
    let read = chained (λ bytes. option_and_then (λ count. option_map (λ text. config limits name bytes count (Some text))
    (ascii_of parent)) (number_of slots)) (decimal_of quota) made h in
    let counted = chained (λ count. option_map (λ text. config limits name read.0 count (Some text)) (ascii_of parent))
    (number_of slots) made read.2 in
    let named = mapped (λ text. config limits name read.0 counted.0 (Some text)) (ascii_of parent) made counted.2 in
    ap (λ (c : ConfigValue). c.limits) (sym named.2)
chosen_limits limits (a ∷ b ∷ c ∷ d ∷ e ∷ more) made h = cc

words_config : (limits : LimitsValue) → (words : List (List ℕ)) (name : List ℕ) (quota slots : ℕ) (parent : Option (List ℕ)) →
    AreConfigWords words (config limits name quota slots parent)
    → config_of limits words ≡ Some (config limits name quota slots parent)
words_config limits words name quota slots None h =
    ap (config_of limits) h.form
    ∙ ap (option_and_then (λ bytes. option_map (λ count. config limits name bytes count None) (number_of h.slots))) h.bytes_number
    ∙ ap (option_map (λ count. config limits name quota count None)) (decimal_below-IsNumber (2 ^ 32) h.slots slots h.count_number)
words_config limits words name quota slots (Some parent) h =
    ap (config_of limits) h.form
    ∙ ap (option_and_then (λ bytes. option_and_then
    (λ count. option_map (λ text. config limits name bytes count (Some text)) (ascii_of parent)) (number_of h.slots))) h.bytes_number
    ∙ ap (option_and_then (λ count. option_map (λ text. config limits name quota count (Some text)) (ascii_of parent)))
    (decimal_below-IsNumber (2 ^ 32) h.slots slots h.count_number)
    ∙ ap (λ b. option_map (λ text. config limits name quota slots (Some text)) (cond b (Some parent) None))
    (list_all-from_AllPass is_ascii parent h.ascii)

-- what stands around the first instance of a name
record IsFirstNamed (all : List ConfigValue) (name : List ℕ) (named : ConfigValue) : Type 0 where
  front : List ConfigValue
  back : List ConfigValue
  whole : all ≡ front ++ named ∷ back
  other_names : All (λ other. other.name ≢ name) front
  has_name : named.name ≡ name

first_named : (all : List ConfigValue) (name : List ℕ) (named : ConfigValue) → find (λ c. bytes_eq c.name name) all ≡ Some named →
    IsFirstNamed all name named
first_named [] name named h = cc
first_named (config ∷ all) name named h = go (first_named all name named) (bytes_eq config.name name) refl h
  where
    go : (find (λ c. bytes_eq c.name name) all ≡ Some named → IsFirstNamed all name named) → (same : Bool) →
        bytes_eq config.name name ≡ same
        → cond same (Some config) (find (λ c. bytes_eq c.name name) all) ≡ Some named → IsFirstNamed (config ∷ all) name named
    go later true e h =
        let is : config ≡ named = cc in
        record {
          front = [];
          back = all;
          whole = ap (λ c. c ∷ all) is;
          other_names = All-nil (λ other. other.name ≢ name);
          has_name =
              subst (λ (c : ConfigValue). c.name ≡ name) is ((bytes_eq-Decides config.name name).0 e);
        }
    go later false e h =
        let found = later h in
        record {
          front = config ∷ found.front;
          back = found.back;
          whole = ap (λ cs. config ∷ cs) found.whole;
          other_names = All-cons (λ other. other.name ≢ name) config found.front
              (not_from_Decides (bytes_eq config.name name) (bytes_eq-Decides config.name name) e) found.other_names;
          has_name = found.has_name;
        }

found_first : (front back : List ConfigValue) (name : List ℕ) (named : ConfigValue) → All (λ other. other.name ≢ name) front →
    named.name ≡ name
    → find (λ c. bytes_eq c.name name) (front ++ named ∷ back) ≡ Some named
found_first [] back name named others is =
    ap (λ b. cond b (Some named) (find (λ c. bytes_eq c.name name) back)) ((bytes_eq-Decides named.name name).1 is)
found_first (config ∷ front) back name named others is =
    ap (λ b. cond b (Some config) (find (λ c. bytes_eq c.name name) (front ++ named ∷ back)))
    (false_from_ne_true (bytes_eq config.name name)
    (λ e. All-head (λ other. other.name ≢ name) config front others ((bytes_eq-Decides config.name name).0 e)))
    ∙ found_first front back name named (All-tail (λ other. other.name ≢ name) config front others) is

-- the instance on which another may build
built_on : (all : List ConfigValue) (made : ConfigValue) → may_build all made ≡ true → IfSome made.parent (MayBuildOn all made)
built_on all made h = go made.parent h
  where
    go : (parent : Option (List ℕ)) → option_map_or (λ name. not (bytes_eq name made.name) && first_is_root all name) parent true ≡ true →
        IfSome parent (MayBuildOn all made)
    go None h = tt
    go (Some name) h = found (find (λ c. bytes_eq c.name name) all) refl parts.1
      where
        parts : (not (bytes_eq name made.name) ≡ true) × (first_is_root all name ≡ true)
        parts = and_parts (not (bytes_eq name made.name)) (first_is_root all name) h

        found : (o : Option ConfigValue) → find (λ c. bytes_eq c.name name) all ≡ o → option_map_or (λ c. is_none c.parent) o false ≡ true →
            MayBuildOn all made name
        found None e h = cc
        found (Some root) e h =
            let first = first_named all name root e in
            record {
              front = first.front;
              root = root;
              back = first.back;
              whole = first.whole;
              other_names = first.other_names;
              named = first.has_name;
              alone = none_is root.parent h;
              another = (Decides-not (bytes_eq name made.name) (bytes_eq-Decides name made.name)).0 parts.0;
            }

builds_on : (all : List ConfigValue) (made : ConfigValue) → IfSome made.parent (MayBuildOn all made) → may_build all made ≡ true
builds_on all made h = go made.parent h
  where
    go : (parent : Option (List ℕ)) → IfSome parent (MayBuildOn all made) →
        option_map_or (λ name. not (bytes_eq name made.name) && first_is_root all name) parent true ≡ true
    go None h = refl
    go (Some name) h =
        ap (λ b. b && first_is_root all name) ((Decides-not (bytes_eq name made.name) (bytes_eq-Decides name made.name)).1 h.another)
        ∙ ap (λ cs. first_is_root cs name) h.whole
        ∙ ap (λ o. option_map_or (λ c. is_none c.parent) o false) (found_first h.front h.back name h.root h.other_names h.named)
        ∙ ap is_none h.alone

instance_form : (limits : LimitsValue) → (all : List ConfigValue) (before after : ReplayScriptValue) (kind : List ℕ)
    (arguments : List (List ℕ)) (made : ConfigValue)
    → kind ≡ codes "instance" → before.events ≡ [] →
    option_and_then (config_if_good all before.configs) (config_of limits arguments) ≡ Some made → with_config before made ≡ after
    → IsReplayInstanceLine limits all before (kind ∷ arguments) after
instance_form limits all before after kind arguments made k first h adds =
    let found = added limits all before.configs arguments made h in
    let may = and_parts (nat_lt (length before.configs) instance_limit) (is_none (own_fault before.configs made)) found.1 in
    let free = may.0 in
    let good = own_fault-None before.configs made (none_is _ may.1) in
    record {
      arguments = arguments;
      made = made;
      form = ap (λ w. w ∷ arguments) k;
      config_words = config_words limits arguments made found.0;
      chosen = chosen_limits limits arguments made found.0;
      first = first;
      room = grind (arith, nat_tests);
      good = good.0;
      new_name = good.1;
      parent = built_on all made found.2;
      adds = sym adds;
    }

event_form : (before after : ReplayScriptValue) (kind : List ℕ) (arguments : List (List ℕ))
    → option_map (with_event before) (event_of kind arguments) ≡ Some after → IsEventLine before (kind ∷ arguments) after
event_form before after kind [] h = cc
event_form before after kind (a ∷ []) h = cc
event_form before after kind (moment ∷ instance ∷ arguments) h =
    let added = mapped (with_event before) (event_of kind (moment ∷ instance ∷ arguments)) after h in
    let at = chained (λ at. option_and_then (λ number. option_map (event_at at number) (what_of kind arguments)) (number_of instance))
    (decimal_of moment) added.0 added.1 in
    let number = chained (λ number. option_map (event_at at.0 number) (what_of kind arguments)) (number_of instance) added.0 at.2 in
    let what = mapped (event_at at.0 number.0) (what_of kind arguments) added.0 number.2 in
    record {
      kind = kind;
      moment = moment;
      instance = instance;
      arguments = arguments;
      at = at.0;
      number = number.0;
      what = what.0;
      form = refl;
      moment_number = at.1;
      instance_number = IsNumber-decimal_below (2 ^ 32) instance number.0 number.1;
      tells = Tells-from_Some kind arguments what.0 what.1;
      adds = sym added.2 ∙ ap (with_event before) (sym what.2);
    }

words_form : (limits : LimitsValue) → (all : List ConfigValue) (before after : ReplayScriptValue) (words : List (List ℕ)) →
    after_replay_words limits all before words ≡ Some after
    → IsReplayInstanceLine limits all before words after ⊎ IsEventLine before words after
words_form limits all before after [] h = cc
words_form limits all before after (kind ∷ arguments) h = go (bytes_eq kind (codes "instance")) refl h
  where
    go : (configures : Bool) → bytes_eq kind (codes "instance") ≡ configures
        → cond configures (cond (length before.events == 0)
        (option_map (with_config before) (option_and_then (config_if_good all before.configs) (config_of limits arguments))) None)
        (option_map (with_event before) (event_of kind arguments)) ≡ Some after
        → IsReplayInstanceLine limits all before (kind ∷ arguments) after ⊎ IsEventLine before (kind ∷ arguments) after
    go true i h =
        let early = if_some (length before.events == 0)
        (option_map (with_config before) (option_and_then (config_if_good all before.configs) (config_of limits arguments))) after h in
        let more = mapped (with_config before) (option_and_then (config_if_good all before.configs) (config_of limits arguments)) after
        early.1 in
        inl (instance_form limits all before after kind arguments more.0 ((bytes_eq-Decides kind (codes "instance")).0 i)
        (nothing_left before.events early.0) more.1 more.2)
    go false i h = inr (event_form before after kind arguments h)

-- ---- from a form to a good line

Some-from_instance : (limits : LimitsValue) → (all : List ConfigValue) (before after : ReplayScriptValue) (words : List (List ℕ)) →
    IsReplayInstanceLine limits all before words after
    → after_replay_words limits all before words ≡ Some after
Some-from_instance limits all before after words h =
    let made = h.made in
    let own = None-from_good before.configs made h.good h.new_name in
    let free = h.room in
    let room : nat_lt (length before.configs) instance_limit ≡ true = grind (arith, nat_tests) in
    let read : option_and_then (config_if_good all before.configs) (config_of limits h.arguments) ≡ Some made =
    ap (option_and_then (config_if_good all before.configs))
    (subst (λ (l : LimitsValue). config_of l h.arguments ≡ Some made) h.chosen
    (words_config made.limits h.arguments made.name made.quota made.slots made.parent h.config_words))
    ∙ ap (λ b. cond ((b && is_none (own_fault before.configs made)) && may_build all made) (Some made) None) room
    ∙ ap (λ r. cond (is_none r && may_build all made) (Some made) None) own
    ∙ ap (λ b. cond b (Some made) None) (builds_on all made h.parent) in
    ap (after_replay_words limits all before) h.form
    ∙ ap (λ events. cond (length events == 0) (option_map (with_config before)
    (option_and_then (config_if_good all before.configs) (config_of limits h.arguments))) None) h.first
    ∙ ap (option_map (with_config before)) read ∙ ap Some (sym h.adds)

-- no line of an event begins as an instance's does
other_kind : (kind : List ℕ) (arguments : List (List ℕ)) (what : WhatValue) → Tells kind arguments what →
    bytes_eq kind (codes "instance") ≡ false
other_kind kind arguments (opened connection) h = rw (h.0) refl
other_kind kind arguments (received connection bytes) h = rw (h.0) refl
other_kind kind arguments (took connection count) h = rw (h.0) refl
other_kind kind arguments (closed connection) h = rw (h.0) refl
other_kind kind arguments tick h = rw (h.0) refl
other_kind kind arguments (ended job failed) h = rw (h.0) refl
other_kind kind arguments (ended job (exited run)) h = rw (h.0) refl

Some-from_event : (limits : LimitsValue) → (all : List ConfigValue) (before after : ReplayScriptValue) (words : List (List ℕ)) →
    IsEventLine before words after
    → after_replay_words limits all before words ≡ Some after
Some-from_event limits all before after words h =
    let read : event_of h.kind (h.moment ∷ h.instance ∷ h.arguments) ≡ Some (event_at h.at h.number h.what) =
    ap (option_and_then (λ at. option_and_then (λ number. option_map (event_at at number) (what_of h.kind h.arguments))
    (number_of h.instance))) h.moment_number
    ∙ ap (option_and_then (λ number. option_map (event_at h.at number) (what_of h.kind h.arguments)))
    (decimal_below-IsNumber (2 ^ 32) h.instance h.number h.instance_number)
    ∙ ap (option_map (event_at h.at h.number)) (Some-from_Tells h.kind h.arguments h.what h.tells) in
    ap (after_replay_words limits all before) h.form
    ∙ ap (λ b. cond b (cond (length before.events == 0)
    (option_map (with_config before) (option_and_then (config_if_good all before.configs)
    (config_of limits (h.moment ∷ h.instance ∷ h.arguments)))) None)
    (option_map (with_event before) (event_of h.kind (h.moment ∷ h.instance ∷ h.arguments))))
    (other_kind h.kind h.arguments h.what h.tells)
    ∙ ap (option_map (with_event before)) read ∙ ap Some (sym h.adds)

Some-from_words : (limits : LimitsValue) → (all : List ConfigValue) (before after : ReplayScriptValue) (words : List (List ℕ)) →
    IsReplayInstanceLine limits all before words after ⊎ IsEventLine before words after
    → after_replay_words limits all before words ≡ Some after
Some-from_words limits all before after words (inl h) = Some-from_instance limits all before after words h
Some-from_words limits all before after words (inr h) = Some-from_event limits all before after words h

-- ---- whole lines

-- an empty line has one empty word, which begins no line
words_alone : (limits : LimitsValue) → (all : List ConfigValue) (before after : ReplayScriptValue) (line : List ℕ) →
    after_replay_words limits all before (words_of line) ≡ Some after
    → after_replay_line limits all before line ≡ Some after
words_alone limits all before after [] h = cc
words_alone limits all before after (byte ∷ line) h = h

words_of-spelled : (line : List ℕ) (words : List (List ℕ)) → IsSpelled line words → (words ≡ [] → ⊥) → words_of line ≡ words
words_of-spelled line [] h some = absurd (some refl)
words_of-spelled line (word ∷ words) h some = ap words_of h.form ∙ parts_of-join 32 word words h.apart

some_words : (limits : LimitsValue) → (all : List ConfigValue) (before after : ReplayScriptValue) (words : List (List ℕ)) →
    after_replay_words limits all before words ≡ Some after → words ≡ [] → ⊥
some_words limits all before after words h e = let none : None ≡ Some after = sym (ap (after_replay_words limits all before) e) ∙ h in cc

pub good_line_has_form : (limits : LimitsValue) → (all : List ConfigValue) (before after : ReplayScriptValue) (line : List ℕ)
    → (after_replay_line limits all before line ≡ Some after) ↔ IsGoodReplayLine limits all before line after
good_line_has_form limits all before after line = (there line, back)
  where
    there : (line : List ℕ) → after_replay_line limits all before line ≡ Some after → IsGoodReplayLine limits all before line after
    there [] h = inl (refl, cc)
    there (byte ∷ line) h =
        inr (
          words_of (byte ∷ line),
          record {
            form = sym (join_with_byte-slice_split 32 (byte ∷ line));
            apart =
                Lacks-parts_of 32 (byte ∷ line);
          },
          words_form limits all before after (words_of (byte ∷ line)) h,
        )

    back : IsGoodReplayLine limits all before line after → after_replay_line limits all before line ≡ Some after
    back (inl empty) = ap (after_replay_line limits all before) empty.0 ∙ ap Some (sym empty.1)
    back (inr form) =
        let read = Some-from_words limits all before after form.0 form.2 in
        words_alone limits all before after line (ap (after_replay_words limits all before)
        (words_of-spelled line form.0 form.1 (some_words limits all before after form.0 read)) ∙ read)
