-- The instances of a script may be those of a server.
use Rattle.std.proofs.Common.{◌≡◌, ℕ, ◌==◌, Bool, true, false, not, ◌&&◌, ◌||◌, cond, List, [], ◌∷◌, ◌++◌, length, get_or, map, Option, Some, None, Ok, codes, refl, sym, ap, ◌∙◌, subst, arith, append_assoc, append-nil}
use Rattle.std.proofs.lemmas.Bool.{and_parts}
use Rattle.std.proofs.lemmas.Bool.Decides.{nat_tests}
use Rattle.std.proofs.lemmas.List.{length_push}
use Rattle.std.proofs.lemmas.List.Elements.{All-nil, All-push}
use Rattle.std.specs.List.{All, find}
use Rattle.std.specs.Option.{option_map_or, option_or, option_to_list}
use Rattle.std.specs.Prelude.{nat_lt, is_none, option_map, option_and_then}
use Rattle.std.specs.Str.{bytes_eq, IsUtf8}
use Rattle.script.specs.Parts.{words_of, lines_of}
use Rattle.server_events.specs.Instance.{is_instance_name}
use Rattle.server_events.proofs.NameLemmas.{IsInstanceName-from_test, IsUtf8-instance_name}
use Rattle.server_events.proofs.ListLemmas.{passes_none}
use Rattle.server_events.specs.declared.fault.ConfigFault.{ConfigFault}
use Rattle.server_events.specs.declared.fault.ConfigFault.TheVariants.{BadParent, TooMany}
use Rattle.server_events.specs.Configs.{ConfigValue, config_fault, first_own_fault, first_parent_fault, has_bad_parent, instance_limit, names_a_root, own_fault}
use Rattle.server_events.specs.Limits.{LimitsValue}
use Rattle.script.specs.declared.replay.instance.InstanceForm.{InstanceForm}
use Rattle.script.specs.ReplayEvents.{event_of}
use Rattle.script.specs.FirstBadLine.{Leads}
use Rattle.script.specs.ReplayScript.{ReplayScriptValue, after_replay_line, after_replay_words, config, config_if_good, config_of, config_of_words, configs_of_lines, empty_replay_script, first_is_root, may_build, may_follow, replay_script_of, with_config, with_event}
use Rattle.script.specs.ReplayShown.{form_value}
use Rattle.script.proofs.FirstLemmas.{Leads-from_Ok}
use Rattle.script.proofs.Somes.{mapped, chained, chosen}

-- ---- names that are no text

not_both : (a b : Bool) → b ≡ false → (a && b) ≡ false
not_both true b h = h
not_both false b h = refl

pub config_if_good-no_text : (all : List ConfigValue) (before : List ConfigValue) (made : ConfigValue) → (IsUtf8 made.name → ⊥)
    → config_if_good all before made ≡ None
config_if_good-no_text all before made h = go (is_instance_name made.name) refl
  where
    go : (good : Bool) → is_instance_name made.name ≡ good → config_if_good all before made ≡ None
    go true e = absurd (h (IsUtf8-instance_name made.name (IsInstanceName-from_test made.name e)))
    go false e = ap (λ b. cond (b && may_build all made) (Some made) None) (not_both (nat_lt (length before) instance_limit) _ (rw e refl))

-- ---- one more instance

or_assoc : {X : Type 0} (a b c : Option X) → option_or a (option_or b c) ≡ option_or (option_or a b) c
or_assoc None b c = refl
or_assoc (Some x) b c = refl

or_none : {X : Type 0} (a : Option X) → option_or a None ≡ a
or_none None = refl
or_none (Some x) = refl

first_own_fault-push : (before configs : List ConfigValue) (last : ConfigValue)
    → first_own_fault before (configs ++ last ∷ []) ≡ option_or (first_own_fault before configs) (own_fault (before ++ configs) last)
first_own_fault-push before [] last = or_none (own_fault before last) ∙ ap (λ l. own_fault l last) (sym (append-nil before))
first_own_fault-push before (first ∷ configs) last =
    ap (option_or (own_fault before first)) (first_own_fault-push (before ++ first ∷ []) configs last
    ∙ ap (λ l. option_or (first_own_fault (before ++ first ∷ []) configs) (own_fault l last)) (append_assoc before (first ∷ []) configs))
    ∙ or_assoc (own_fault before first) (first_own_fault (before ++ first ∷ []) configs) (own_fault (before ++ first ∷ configs) last)

pub none_is : {X : Type 0} (r : Option X) → is_none r ≡ true → r ≡ None
none_is None h = refl
none_is (Some x) h = cc

-- what there is of a fault but for parents
own_faults : List ConfigValue → Option ConfigFault
own_faults configs = cond (nat_lt instance_limit (length configs)) (Some TooMany) (first_own_fault [] configs)

is_within : (few : Bool) (r : Option ConfigFault) (f : ConfigFault) → cond few (Some f) r ≡ None → (few ≡ false) × (r ≡ None)
is_within true r f h = cc
is_within false r f h = (refl, h)

own_faults-push : (configs : List ConfigValue) (last : ConfigValue) → own_faults configs ≡ None → may_follow configs last ≡ true
    → own_faults (configs ++ last ∷ []) ≡ None
unfolding own_faults
own_faults-push configs last h may =
    let parts = and_parts (nat_lt (length configs) instance_limit) (is_none (own_fault configs last)) may in
    let room = parts.0 in
    let own = none_is (own_fault configs last) parts.1 in
    let longer = length_push configs last in
    let few : nat_lt instance_limit (length (configs ++ last ∷ [])) ≡ false = grind (arith, nat_tests) in
    let before = (is_within (nat_lt instance_limit (length configs)) (first_own_fault [] configs) _ h).1 in
    rw (few, first_own_fault-push [] configs last, before) own

-- an instance that is added is good
pub added : (limits : LimitsValue) → (all : List ConfigValue) (before : List ConfigValue) (words : List (List ℕ)) (made : ConfigValue)
    → option_and_then (config_if_good all before) (config_of limits words) ≡ Some made
    → (config_of limits words ≡ Some made) × (may_follow before made ≡ true) × (may_build all made ≡ true)
added limits all before words made h =
    let read = chained (config_if_good all before) (config_of limits words) made h in
    let found = chosen (may_follow before read.0 && may_build all read.0) read.0 made read.2 in
    let parts = and_parts (may_follow before read.0) (may_build all read.0) found.0 in
    (read.1 ∙ ap Some found.1, ap (may_follow before) (sym found.1) ∙ parts.0, ap (may_build all) (sym found.1) ∙ parts.1)

-- ---- the first instance of a name

-- the first of these that has the name, as their type shows them
pub first_is_root-found : (forms : List InstanceForm) (name : List ℕ) (found : Option InstanceForm) →
    found ≡ find (λ form. bytes_eq form.name.now name) forms
    → option_map_or (λ form. is_none form.parent) found false ≡ first_is_root (map form_value forms) name
first_is_root-found forms name found e = ap (λ f. option_map_or (λ form. is_none form.parent) f false) e ∙ shown forms
  where
    unmapped : {X Y : Type 0} (f : X → Y) (o : Option X) → is_none o ≡ is_none (option_map f o)
    unmapped f None = refl
    unmapped f (Some x) = refl

    by : (same : Bool) (form : InstanceForm) (first : Option InstanceForm) (shown_first : Option ConfigValue)
        → option_map_or (λ f. is_none f.parent) first false ≡ option_map_or (λ c. is_none c.parent) shown_first false
        → option_map_or (λ f. is_none f.parent) (cond same (Some form) first) false
        ≡ option_map_or (λ c. is_none c.parent) (cond same (Some (form_value form)) shown_first) false
    by true form first shown_first e = unmapped (λ parent. parent.now) form.parent
    by false form first shown_first e = e

    shown : (forms : List InstanceForm) → option_map_or (λ form. is_none form.parent)
        (find (λ form. bytes_eq form.name.now name) forms) false ≡ first_is_root (map form_value forms) name
    shown [] = refl
    shown (form ∷ forms) =
        by (bytes_eq form.name.now name) form (find (λ f. bytes_eq f.name.now name) forms)
        (find (λ c. bytes_eq c.name name) (map form_value forms)) (shown forms)

-- ---- whole scripts

-- what an instance or an event adds
answer_of : (limits : LimitsValue) → (configures early : Bool) → List ConfigValue → ReplayScriptValue → List ℕ → List (List ℕ) →
    Option ReplayScriptValue
answer_of limits configures early all script kind arguments =
    cond configures (cond early (option_map (with_config script)
    (option_and_then (config_if_good all script.configs) (config_of limits arguments))) None)
    (option_map (with_event script) (event_of kind arguments))

-- what is so of the instances of a script, and stays so where one is added
record StaysWith (all : List ConfigValue) (P : List ConfigValue → Type 0) : Type 0 where
  more : (configs : List ConfigValue) (last : ConfigValue) → P configs → may_follow configs last ≡ true → may_build all last ≡ true →
      P (configs ++ last ∷ [])

kept_answer : (limits : LimitsValue) → (all : List ConfigValue) (P : List ConfigValue → Type 0) → StaysWith all P →
    (configures early : Bool) (script next : ReplayScriptValue) (kind : List ℕ) (arguments : List (List ℕ))
    → P script.configs → answer_of limits configures early all script kind arguments ≡ Some next → P next.configs
unfolding answer_of
kept_answer limits all P stays true true script next kind arguments h e =
    let made = mapped (with_config script) (option_and_then (config_if_good all script.configs) (config_of limits arguments)) next e in
    let good = added limits all script.configs arguments made.0 made.1 in
    subst (λ (s : ReplayScriptValue). P s.configs) made.2 (stays.more script.configs made.0 h good.1 good.2)
kept_answer limits all P stays true false script next kind arguments h e = cc
kept_answer limits all P stays false early script next kind arguments h e =
    let made = mapped (with_event script) (event_of kind arguments) next e in
    subst (λ (s : ReplayScriptValue). P s.configs) made.2 h

kept_words : (limits : LimitsValue) → (all : List ConfigValue) (P : List ConfigValue → Type 0) → StaysWith all P →
    (script next : ReplayScriptValue) (words : List (List ℕ))
    → P script.configs → after_replay_words limits all script words ≡ Some next → P next.configs
unfolding answer_of
kept_words limits all P stays script next [] h e = cc
kept_words limits all P stays script next (kind ∷ arguments) h e =
    kept_answer limits all P stays (bytes_eq kind (codes "instance")) (length script.events == 0) script next kind arguments h e

kept_line : (limits : LimitsValue) → (all : List ConfigValue) (P : List ConfigValue → Type 0) → StaysWith all P →
    (script next : ReplayScriptValue) (line : List ℕ)
    → P script.configs → after_replay_line limits all script line ≡ Some next → P next.configs
kept_line limits all P stays script next [] h e = let same : script ≡ next = cc in subst (λ (s : ReplayScriptValue). P s.configs) same h
kept_line limits all P stays script next (byte ∷ line) h e = kept_words limits all P stays script next (words_of (byte ∷ line)) h e

kept_lines : (limits : LimitsValue) → (all : List ConfigValue) (P : List ConfigValue → Type 0) → StaysWith all P →
    (from to : ReplayScriptValue) (lines : List (List ℕ))
    → P from.configs → Leads (after_replay_line limits all) from lines to → P to.configs
kept_lines limits all P stays from to [] h leads = subst (λ (s : ReplayScriptValue). P s.configs) leads h
kept_lines limits all P stays from to (line ∷ lines) h leads =
    kept_lines limits all P stays leads.0 to lines (kept_line limits all P stays from leads.0 line h leads.1) leads.2

-- ---- parents

-- a line adds the instance that it configures
configs_answer : (limits : LimitsValue) → (configures early : Bool) (all : List ConfigValue) (script next : ReplayScriptValue)
    (kind : List ℕ) (arguments : List (List ℕ))
    → answer_of limits configures early all script kind arguments ≡ Some next
    → next.configs ≡ script.configs ++ option_to_list (cond configures (config_of limits arguments) None)
unfolding answer_of
configs_answer limits true true all script next kind arguments e =
    let made = mapped (with_config script) (option_and_then (config_if_good all script.configs) (config_of limits arguments)) next e in
    let good = added limits all script.configs arguments made.0 made.1 in
    ap (λ (s : ReplayScriptValue). s.configs) (sym made.2)
    ∙ ap (λ (o : Option ConfigValue). script.configs ++ option_to_list o) (sym good.0)
configs_answer limits true false all script next kind arguments e = cc
configs_answer limits false early all script next kind arguments e =
    let made = mapped (with_event script) (event_of kind arguments) next e in
    ap (λ (s : ReplayScriptValue). s.configs) (sym made.2) ∙ sym (append-nil script.configs)

configs_words : (limits : LimitsValue) → (all : List ConfigValue) (script next : ReplayScriptValue) (words : List (List ℕ)) →
    after_replay_words limits all script words ≡ Some next
    → next.configs ≡ script.configs ++ option_to_list (config_of_words limits words)
unfolding answer_of
configs_words limits all script next [] e = cc
configs_words limits all script next (kind ∷ arguments) e =
    configs_answer limits (bytes_eq kind (codes "instance")) (length script.events == 0) all script next kind arguments e

configs_line : (limits : LimitsValue) → (all : List ConfigValue) (script next : ReplayScriptValue) (line : List ℕ) →
    after_replay_line limits all script line ≡ Some next
    → next.configs ≡ script.configs ++ option_to_list (config_of_words limits (words_of line))
configs_line limits all script next [] e =
    let same : script ≡ next = cc in
    ap (λ (s : ReplayScriptValue). s.configs) (sym same) ∙ sym (append-nil script.configs)
configs_line limits all script next (byte ∷ line) e = configs_words limits all script next (words_of (byte ∷ line)) e

-- good lines leave the instances of all lines
configs_lines : (limits : LimitsValue) → (all : List ConfigValue) (from to : ReplayScriptValue) (lines : List (List ℕ)) →
    Leads (after_replay_line limits all) from lines to
    → to.configs ≡ from.configs ++ configs_of_lines limits lines
configs_lines limits all from to [] leads = ap (λ (s : ReplayScriptValue). s.configs) (sym leads) ∙ sym (append-nil from.configs)
configs_lines limits all from to (line ∷ lines) leads =
    configs_lines limits all leads.0 to lines leads.2
    ∙ ap (λ (configs : List ConfigValue). configs ++ configs_of_lines limits lines) (configs_line limits all from leads.0 line leads.1)
    ∙ append_assoc from.configs (option_to_list (config_of_words limits (words_of line))) (configs_of_lines limits lines)

-- the first of a name is one of the name
names_first : (configs : List ConfigValue) (name : List ℕ) → first_is_root configs name ≡ true → names_a_root configs name ≡ true
names_first [] name h = h
names_first (config ∷ configs) name h =
    go (bytes_eq config.name name) (find (λ c. bytes_eq c.name name) configs) (names_a_root configs name) (names_first configs name) h
  where
    go : (same : Bool) (found : Option ConfigValue) (later : Bool) →
        (option_map_or (λ c. is_none c.parent) found false ≡ true → later ≡ true)
        → option_map_or (λ c. is_none c.parent) (cond same (Some config) found) false ≡ true →
        ((same && is_none config.parent) || later) ≡ true
    go true found later tail h = ap (λ b. b || later) h
    go false found later tail h = tail h

not_bad : (configs : List ConfigValue) (config : ConfigValue) → may_build configs config ≡ true → has_bad_parent configs config ≡ false
not_bad configs config h = go config.parent h
  where
    go : (parent : Option (List ℕ)) → option_map_or (λ name. not (bytes_eq name config.name) && first_is_root configs name) parent true
        ≡ true
        → option_map_or (λ name. not (names_a_root configs name)) parent false ≡ false
    go None h = refl
    go (Some name) h = ap not (names_first configs name (and_parts (not (bytes_eq name config.name)) (first_is_root configs name) h).1)

-- all of a script's instances may be a server's
pub config_fault-Leads : (limits : LimitsValue) → (from to : ReplayScriptValue) (lines : List (List ℕ)) → from.configs ≡ []
    → Leads (after_replay_line limits (configs_of_lines limits lines)) from lines to → config_fault to.configs ≡ None
unfolding own_faults
config_fault-Leads limits from to lines empty leads =
    let all = configs_of_lines limits lines in
    let own : own_faults to.configs ≡ None =
    kept_lines limits all (λ configs. own_faults configs ≡ None)
    (record { more = λ configs last h follows builds. own_faults-push configs last h follows }) from to lines (rw empty refl) leads in
    let few = is_within (nat_lt instance_limit (length to.configs)) (first_own_fault [] to.configs) TooMany own in
    let build : All (λ config. may_build all config ≡ true) to.configs =
    kept_lines limits all (All (λ config. may_build all config ≡ true))
    (record { more = λ configs last h follows builds. All-push (λ config. may_build all config ≡ true) configs last h builds }) from to
    lines (rw empty (All-nil (λ config. may_build all config ≡ true))) leads in
    let are : all ≡ to.configs = sym (configs_lines limits all from to lines leads
    ∙ ap (λ (configs : List ConfigValue). configs ++ all) empty) in
    let parents : first_parent_fault to.configs ≡ None =
    ap (option_map BadParent) (passes_none (has_bad_parent to.configs) to.configs
    (λ k d lt. let config = get_or to.configs k d in
    not_bad to.configs config (subst (λ (configs : List ConfigValue). may_build configs config ≡ true) are (build k d lt)))) in
    rw (few.0, few.1) parents

pub config_fault-replay_script_of : (limits : LimitsValue) → (text : List ℕ) (script : ReplayScriptValue) →
    replay_script_of limits text ≡ Ok script → config_fault script.configs ≡ None
config_fault-replay_script_of limits text script read =
    config_fault-Leads limits empty_replay_script script (lines_of text) refl
    (Leads-from_Ok (after_replay_line limits (configs_of_lines limits (lines_of text))) 1 empty_replay_script script
    (lines_of text) read)
