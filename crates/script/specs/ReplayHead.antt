-- What has to be known of the lines of a script so far to tell whether the next is good, namely its
-- instances, what was chosen for them, whether there was an event, and the instances of all lines.
-- For the code alone: no public contract speaks of it.
use Rattle.std.specs.Prelude.{ℕ, Bool, true, not, ◌==◌, if◌then◌else◌, List, [], ◌∷◌, ◌++◌, length, codes, Option, Some, None, option_map, option_and_then}
use Rattle.std.specs.Str.{bytes_eq}
use Rattle.server_events.specs.Configs.{ConfigValue}
use Rattle.server_events.specs.Events.{EventValue}
use Rattle.server_events.specs.Limits.{LimitsValue}
use Rattle.script.specs.Parts.{words_of}
use Rattle.script.specs.ReplayEvents.{event_of}
use Rattle.script.specs.ReplayScript.{ReplayScriptValue, config_if_good, config_of}

pub record ReplayHeadValue : Type 0 where
  pub limits : LimitsValue
  pub all : List ConfigValue
  pub configs : List ConfigValue
  pub has_events : Bool

abbrev pub head_of : LimitsValue → List ConfigValue → ReplayScriptValue → ReplayHeadValue
head_of limits all script = record {
  limits = limits;
  all = all;
  configs = script.configs;
  has_events = not (length script.events == 0);
}

abbrev pub head_with_config : ReplayHeadValue → ConfigValue → ReplayHeadValue
head_with_config head config = record head { configs = head.configs ++ config ∷ [] }

abbrev pub head_with_event : ReplayHeadValue → EventValue → ReplayHeadValue
head_with_event head event = record head { has_events = true }

abbrev pub after_head_words : ReplayHeadValue → List (List ℕ) → Option ReplayHeadValue
after_head_words head [] = None
after_head_words head (kind ∷ arguments) =
    if bytes_eq kind (codes "instance")
    then (if head.has_events
    then None else option_map (head_with_config head)
    (option_and_then (config_if_good head.all head.configs) (config_of head.limits arguments)))
    else option_map (head_with_event head) (event_of kind arguments)

abbrev pub after_head_line : ReplayHeadValue → List ℕ → Option ReplayHeadValue
after_head_line head [] = Some head
after_head_line head (byte ∷ line) = after_head_words head (words_of (byte ∷ line))
