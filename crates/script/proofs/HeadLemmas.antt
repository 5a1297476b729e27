-- A script that is read without keeping its events is the same script.
use Rattle.std.proofs.Common.{◌≡◌, ℕ, ◌+◌, ◌≤◌, ◌==◌, Bool, true, false, cond, not, List, [], ◌∷◌, ◌++◌, length, Option, Some, None, Ok, Err, codes, refl, sym, ap, ap₂, ◌∙◌, arith, append_assoc, append-nil, length-append}
use Rattle.std.specs.Prelude.{Bool, Result, option_map, option_and_then}
use Rattle.std.proofs.lemmas.Bool.Decides.{nat_tests}
use Rattle.std.proofs.lemmas.List.{length_push}
use Rattle.std.proofs.lemmas.Slice.Eq.{bytes_eq-Decides}
use Rattle.std.specs.Option.{option_map_or, option_to_list}
use Rattle.std.specs.Result.{result_map_both}
use Rattle.std.specs.Str.{bytes_eq}
use Rattle.numerals.specs.Number.{decimal_of}
use Rattle.server_events.specs.Configs.{ConfigValue}
use Rattle.server_events.specs.Events.{EventValue}
use Rattle.server_events.specs.Limits.{LimitsValue}
use Rattle.script.specs.declared.fault.ScriptFault.{ScriptFault}
use Rattle.script.specs.declared.fault.ScriptFault.TheVariants.{BadLine, NoMemory}
use Rattle.script.specs.Arguments.{number_of}
use Rattle.script.specs.EventLines.{event_of_line, event_of_words, events_of_lines, events_of_text}
use Rattle.script.specs.Faults.{IsFaultOf}
use Rattle.script.specs.FirstBadLine.{Leads, after_lines}
use Rattle.script.specs.Parts.{lines_of, words_of}
use Rattle.script.specs.ReplayEvents.{event_at, event_of, what_of}
use Rattle.script.specs.ReplayHead.{ReplayHeadValue, after_head_line, after_head_words, head_of, head_with_config, head_with_event}
use Rattle.script.specs.ReplayScript.{ReplayScriptValue, after_replay_line, after_replay_words, config_if_good, config_of, configs_of_lines, empty_replay_script, replay_script_of, with_config, with_event}
use Rattle.script.proofs.FirstLemmas.{Leads-from_Ok}
use Rattle.script.proofs.LineLemmas.{length-lines_of}
use Rattle.script.proofs.Somes.{mapped}

-- ---- one more line

not_empty : (es : List EventValue) (e : EventValue) → (length (es ++ e ∷ []) == 0) ≡ false
not_empty es e =
    let longer = length_push es e in
    grind (arith, nat_tests)

with_event-head : (limits : LimitsValue) → (all : List ConfigValue) (s : ReplayScriptValue) (e : EventValue) →
    head_of limits all (with_event s e) ≡ head_with_event (head_of limits all s) e
with_event-head limits all s e = ap (λ (b : Bool). head_with_none s (not b)) (not_empty s.events e)
  where
    head_with_none : ReplayScriptValue → Bool → ReplayHeadValue
    head_with_none s b = record { limits = limits; all = all; configs = s.configs; has_events = b }

configured : (limits : LimitsValue) → (all : List ConfigValue) (s : ReplayScriptValue) (o : Option ConfigValue)
    → option_map (head_of limits all) (option_map (with_config s) o) ≡ option_map (head_with_config (head_of limits all s)) o
configured limits all s None = refl
configured limits all s (Some c) = refl

happened : (limits : LimitsValue) → (all : List ConfigValue) (s : ReplayScriptValue) (o : Option EventValue)
    → option_map (head_of limits all) (option_map (with_event s) o) ≡ option_map (head_with_event (head_of limits all s)) o
happened limits all s None = refl
happened limits all s (Some e) = ap Some (with_event-head limits all s e)

by_kind : (limits : LimitsValue) → (configures early : Bool) (all : List ConfigValue) (s : ReplayScriptValue) (c : Option ConfigValue)
    (e : Option EventValue)
    → option_map (head_of limits all) (cond configures (cond early (option_map (with_config s) c) None) (option_map (with_event s) e))
    ≡ cond configures (cond (not early) None (option_map (head_with_config (head_of limits all s)) c))
    (option_map (head_with_event (head_of limits all s)) e)
by_kind limits true true all s c e = configured limits all s c
by_kind limits true false all s c e = refl
by_kind limits false early all s c e = happened limits all s e

head_of-after_words : (limits : LimitsValue) → (all : List ConfigValue) (s : ReplayScriptValue) (words : List (List ℕ))
    → option_map (head_of limits all) (after_replay_words limits all s words) ≡ after_head_words (head_of limits all s) words
head_of-after_words limits all s [] = refl
head_of-after_words limits all s (kind ∷ arguments) =
    by_kind limits (bytes_eq kind (codes "instance")) (length s.events == 0) all s
    (option_and_then (config_if_good all s.configs) (config_of limits arguments)) (event_of kind arguments)

head_of-after_line : (limits : LimitsValue) → (all : List ConfigValue) (s : ReplayScriptValue) (line : List ℕ)
    → option_map (head_of limits all) (after_replay_line limits all s line) ≡ after_head_line (head_of limits all s) line
head_of-after_line limits all s [] = refl
head_of-after_line limits all s (byte ∷ line) = head_of-after_words limits all s (words_of (byte ∷ line))

-- an empty line has no kind
no_kind : (kind : List ℕ) (arguments : List (List ℕ)) → words_of [] ≡ kind ∷ arguments → bytes_eq kind (codes "instance") ≡ true → ⊥
no_kind kind arguments words is =
    let empty : [] ≡ kind = cc in
    let clash : false ≡ true = ap (λ k. bytes_eq k (codes "instance")) empty ∙ is in
    cc

-- a line that configures an instance
pub configures_line : (head : ReplayHeadValue) (line kind : List ℕ) (arguments : List (List ℕ)) (config : ConfigValue) →
    words_of line ≡ kind ∷ arguments
    → bytes_eq kind (codes "instance") ≡ true → head.has_events ≡ false →
    option_and_then (config_if_good head.all head.configs) (config_of head.limits arguments) ≡ Some config
    → after_head_line head line ≡ Some (head_with_config head config)
configures_line head [] kind arguments config words is early read = absurd (no_kind kind arguments words is)
configures_line head (byte ∷ line) kind arguments config words is early read =
    ap (after_head_words head) words
    ∙ ap (λ b. cond b (cond head.has_events None (option_map (head_with_config head)
    (option_and_then (config_if_good head.all head.configs) (config_of head.limits arguments))))
    (option_map (head_with_event head) (event_of kind arguments))) is
    ∙ ap (λ b. cond b None (option_map (head_with_config head)
    (option_and_then (config_if_good head.all head.configs) (config_of head.limits arguments)))) early
    ∙ ap (option_map (head_with_config head)) read

-- ---- all lines

head_of-lines : (limits : LimitsValue) → (all : List ConfigValue) (number : ℕ) (s : ReplayScriptValue) (lines : List (List ℕ))
    → result_map_both (head_of limits all) (λ n. n) (after_lines (after_replay_line limits all) number s lines)
    ≡ after_lines after_head_line number (head_of limits all s) lines
head_of-lines limits all number s [] = refl
head_of-lines limits all number s (line ∷ lines) =
    go (λ next. head_of-lines limits all (number + 1) next lines) (after_replay_line limits all s line) refl
  where
    step : (r : Option ReplayScriptValue) → ((next : ReplayScriptValue) →
        result_map_both (head_of limits all) (λ n. n) (after_lines (after_replay_line limits all) (number + 1) next lines)
        ≡ after_lines after_head_line (number + 1) (head_of limits all next) lines)
        → result_map_both (head_of limits all) (λ n. n)
        (option_map_or (λ next. after_lines (after_replay_line limits all) (number + 1) next lines) r (Err number))
        ≡ option_map_or (λ next. after_lines after_head_line (number + 1) next lines) (option_map (head_of limits all) r) (Err number)
    step None later = refl
    step (Some next) later = later next

    go : ((next : ReplayScriptValue) → result_map_both (head_of limits all) (λ n. n)
        (after_lines (after_replay_line limits all) (number + 1) next lines)
        ≡ after_lines after_head_line (number + 1) (head_of limits all next) lines)
        → (r : Option ReplayScriptValue) → after_replay_line limits all s line ≡ r
        → result_map_both (head_of limits all) (λ n. n) (after_lines (after_replay_line limits all) number s (line ∷ lines))
        ≡ after_lines after_head_line number (head_of limits all s) (line ∷ lines)
    go later r e =
        step (after_replay_line limits all s line) later
        ∙ ap (λ o. option_map_or (λ next. after_lines after_head_line (number + 1) next lines) o (Err number))
        (head_of-after_line limits all s line)

-- ---- the events

-- a line that configures an instance is no event
no_event : (arguments : List (List ℕ)) → event_of (codes "instance") arguments ≡ None
no_event [] = refl
no_event (moment ∷ []) = refl
no_event (moment ∷ instance ∷ arguments) = go (decimal_of moment) (number_of instance)
  where
    go : (at number : Option ℕ) → option_and_then
        (λ m. option_and_then (λ i. option_map (event_at m i) (what_of (codes "instance") arguments)) number) at ≡ None
    go None number = refl
    go (Some m) None = refl
    go (Some m) (Some i) = refl

one_more : (s t : ReplayScriptValue) (o : Option EventValue) → option_map (with_event s) o ≡ Some t →
    t.events ≡ s.events ++ option_to_list o
one_more s t None h = cc
one_more s t (Some e) h = let same : with_event s e ≡ t = cc in ap (λ (x : ReplayScriptValue). x.events) (sym same)

after_kind : (configures early : Bool) (s t : ReplayScriptValue) (c : Option ConfigValue) (e : Option EventValue) →
    (configures ≡ true → e ≡ None)
    → cond configures (cond early (option_map (with_config s) c) None) (option_map (with_event s) e) ≡ Some t
    → t.events ≡ s.events ++ option_to_list e
after_kind true true s t c e none h =
    let made = mapped (with_config s) c t h in
    ap (λ (x : ReplayScriptValue). x.events) (sym made.2) ∙ sym (append-nil s.events)
    ∙ ap (λ o. s.events ++ option_to_list o) (sym (none refl))
after_kind true false s t c e none h = cc
after_kind false early s t c e none h = one_more s t e h

events-after_words : (limits : LimitsValue) → (all : List ConfigValue) (s t : ReplayScriptValue) (words : List (List ℕ)) →
    after_replay_words limits all s words ≡ Some t
    → t.events ≡ s.events ++ option_to_list (event_of_words words)
events-after_words limits all s t [] h = cc
events-after_words limits all s t (kind ∷ arguments) h =
    after_kind (bytes_eq kind (codes "instance")) (length s.events == 0) s t
    (option_and_then (config_if_good all s.configs) (config_of limits arguments)) (event_of kind arguments)
    (λ e. ap (λ k. event_of k arguments) ((bytes_eq-Decides kind (codes "instance")).0 e) ∙ no_event arguments) h

events-after_line : (limits : LimitsValue) → (all : List ConfigValue) (s t : ReplayScriptValue) (line : List ℕ) →
    after_replay_line limits all s line ≡ Some t
    → t.events ≡ s.events ++ option_to_list (event_of_line line)
events-after_line limits all s t [] h =
    let same : s ≡ t = cc in
    ap (λ (x : ReplayScriptValue). x.events) (sym same) ∙ sym (append-nil s.events)
events-after_line limits all s t (byte ∷ line) h = events-after_words limits all s t (words_of (byte ∷ line)) h

events-Leads : (limits : LimitsValue) → (all : List ConfigValue) (s t : ReplayScriptValue) (lines : List (List ℕ)) →
    Leads (after_replay_line limits all) s lines t
    → t.events ≡ s.events ++ events_of_lines lines
events-Leads limits all s t [] h = ap (λ (x : ReplayScriptValue). x.events) (sym h) ∙ sym (append-nil s.events)
events-Leads limits all s t (line ∷ lines) h =
    events-Leads limits all h.0 t lines h.2
    ∙ ap (λ es. es ++ events_of_lines lines) (events-after_line limits all s h.0 line h.1)
    ∙ append_assoc s.events (option_to_list (event_of_line line)) (events_of_lines lines)

-- ---- whole texts

script_with : List ConfigValue → List EventValue → ReplayScriptValue
script_with configs events = record { configs = configs; events = events }

-- the script of these lines, which were read without keeping events
script_of_lines-head : (limits : LimitsValue) → (all : List ConfigValue) (lines : List (List ℕ)) (head : ReplayHeadValue) →
    after_lines after_head_line 1 (head_of limits all empty_replay_script) lines ≡ Ok head
    → after_lines (after_replay_line limits all) 1 empty_replay_script lines
    ≡ Ok (record { configs = head.configs; events = events_of_lines lines })
unfolding script_with
script_of_lines-head limits all lines head h = go (after_lines (after_replay_line limits all) 1 empty_replay_script lines) refl
  where
    go : (r : Result ReplayScriptValue ℕ) → after_lines (after_replay_line limits all) 1 empty_replay_script lines ≡ r
        → after_lines (after_replay_line limits all) 1 empty_replay_script lines ≡ Ok (script_with head.configs (events_of_lines lines))
    go (Ok s) e =
        let image : Ok (head_of limits all s) ≡ Ok head =
        ap (result_map_both (head_of limits all) (λ n. n)) (sym e) ∙ head_of-lines limits all 1 empty_replay_script lines ∙ h in
        let same : head_of limits all s ≡ head = cc in
        let events = events-Leads limits all empty_replay_script s lines
        (Leads-from_Ok (after_replay_line limits all) 1 empty_replay_script s lines e) in
        e ∙ ap Ok (ap₂ script_with (ap (λ (x : ReplayHeadValue). x.configs) same) events)
    go (Err n) e =
        let image : Err n ≡ Ok head = ap (result_map_both (head_of limits all) (λ n. n)) (sym e)
        ∙ head_of-lines limits all 1 empty_replay_script lines ∙ h in
        cc

bad_line-head : (limits : LimitsValue) → (all : List ConfigValue) (lines : List (List ℕ)) (number : ℕ) →
    after_lines after_head_line 1 (head_of limits all empty_replay_script) lines ≡ Err number
    → after_lines (after_replay_line limits all) 1 empty_replay_script lines ≡ Err number
bad_line-head limits all lines number h = go (after_lines (after_replay_line limits all) 1 empty_replay_script lines) refl
  where
    go : (r : Result ReplayScriptValue ℕ) → after_lines (after_replay_line limits all) 1 empty_replay_script lines ≡ r
        → after_lines (after_replay_line limits all) 1 empty_replay_script lines ≡ Err number
    go (Ok s) e =
        let image : Ok (head_of limits all s) ≡ Err number =
        ap (result_map_both (head_of limits all) (λ n. n)) (sym e) ∙ head_of-lines limits all 1 empty_replay_script lines ∙ h in
        cc
    go (Err n) e =
        let image : Err n ≡ Err number = ap (result_map_both (head_of limits all) (λ n. n)) (sym e)
        ∙ head_of-lines limits all 1 empty_replay_script lines ∙ h in
        let same : n ≡ number = cc in
        e ∙ ap Err same

-- the script of a text
pub replay_script_of-head : (limits : LimitsValue) → (text : List ℕ) (head : ReplayHeadValue) →
    after_lines after_head_line 1 (head_of limits (configs_of_lines limits (lines_of text)) empty_replay_script) (lines_of text) ≡ Ok head
    → replay_script_of limits text ≡ Ok (record { configs = head.configs; events = events_of_text text })
replay_script_of-head limits text head h = script_of_lines-head limits (configs_of_lines limits (lines_of text)) (lines_of text) head h

-- and its fault
pub IsFaultOf-head : (limits : LimitsValue) → (text : List ℕ) (fault : ScriptFault) →
    IsFaultOf (after_lines after_head_line 1 (head_of limits (configs_of_lines limits (lines_of text)) empty_replay_script) (lines_of text))
    fault
    → IsFaultOf (replay_script_of limits text) fault
IsFaultOf-head limits text (BadLine number) h = bad_line-head limits (configs_of_lines limits (lines_of text)) (lines_of text) number h
IsFaultOf-head limits text NoMemory h = tt

-- ---- how many events

at_most_one : (o : Option EventValue) → length (option_to_list o) ≤ 1
at_most_one None = omega arith
at_most_one (Some e) = omega arith

length-events_of_lines : (lines : List (List ℕ)) → length (events_of_lines lines) ≤ length lines
length-events_of_lines [] = omega arith
length-events_of_lines (line ∷ lines) =
    let one = at_most_one (event_of_line line) in
    let rest = length-events_of_lines lines in
    let all = length-append (option_to_list (event_of_line line)) (events_of_lines lines) in
    omega (arith, one, rest, all)

pub length-events_of_text : (text : List ℕ) → length (events_of_text text) ≤ length text + 1
length-events_of_text text =
    let events = length-events_of_lines (lines_of text) in
    let lines = length-lines_of text in
    omega (arith, events, lines)
