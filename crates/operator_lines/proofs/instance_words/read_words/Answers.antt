use Rattle.std.proofs.Common.{◌≡◌, ◌<◌, List, [], ◌∷◌, ℕ, Bor, map, length, subst, arith, append-nil}
use Rattle.server_events.specs.Limits.{LimitsValue}
use Rattle.server_events.specs.LimitsShown.{limits_value}
use Rattle.server_events.specs.Configs.{ConfigValue}
use Rattle.server_events.specs.Shown.{config_value}
use Rattle.operator_lines.specs.Words.{AreWordsOf}
use Rattle.operator_lines.proofs.instance_words.read_words.Goals as goal

-- none is left
says_nothing : (limits : LimitsValue) (left : List (Bor (List ℕ))) → length left < 1 → AreWordsOf limits (map (λ word. word.now) left) [] []
says_nothing limits [] none = tt
says_nothing limits (word ∷ words) none = absurd (omega (arith, none))

pub returns : goal.returns
returns c = both (append-nil c.words.ports.items) (append-nil (map config_value c.words.configs.items))
    (c.words.invariant.0 [] [] (says_nothing limits c.words.left.now c.in_default.len_below)) where
      all : List (List ℕ)
      all = map (λ word. word.now) c.args.words.now

      limits : LimitsValue
      limits = limits_value c.args.limits

      both : {ps qs : List ℕ} {cs ds : List ConfigValue} → ps ≡ qs → cs ≡ ds → AreWordsOf limits all ps cs → AreWordsOf limits all qs ds
      both {ps} {qs} {cs} {ds} p q is = subst (λ (xs : List ConfigValue). AreWordsOf limits all qs xs) q
          (subst (λ (xs : List ℕ). AreWordsOf limits all xs cs) p is)
