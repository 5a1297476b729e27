use Rattle.std.proofs.Common.{◌≡◌, ◌++◌, ◌+◌, ℕ, List, length, map}
use Rattle.server_events.specs.LimitsShown.{limits_value}
use Rattle.server_events.specs.Configs.{ConfigValue}
use Rattle.server_events.specs.Shown.{config_value}
use Rattle.operator_lines.specs.Words.{AreWordsOf}
use Rattle.operator_lines.proofs.instance_words.read_words.Given as goal

-- whatever the words that are left say, all say that behind what was read
abbrev pub invariant-words : goal.invariant-words
invariant-words l =
    ((ports : List ℕ) (configs : List ConfigValue)
    → AreWordsOf (limits_value l.limits) (map (λ word. word.now) l.left) ports configs
    → AreWordsOf (limits_value l.limits) (map (λ word. word.now) l.words) (l.ports.items ++ ports)
    (map config_value l.configs.items ++ configs))
    × (l.place + length l.left ≡ length l.words)

abbrev pub decreases-words : goal.decreases-words
decreases-words l = length l.left
