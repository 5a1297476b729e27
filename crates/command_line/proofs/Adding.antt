-- What an argument adds to a command.
use Rattle.std.proofs.Common.{◌≡◌, ◌∙◌, ap₂, Bool, false}
use Rattle.std.specs.Prelude.{◌||◌}
use Rattle.clap.specs.Words.{App, Rule, with_rule}

pub with_argument : (app before after : App) (rule given : Rule) (before_global given_global after_global : Bool)
    → (before ≡ app) × (before_global ≡ false) → (given ≡ rule) × (given_global ≡ false)
    → (given_global ≡ false → after ≡ with_rule before given) → after_global ≡ (before_global || given_global)
    → (after ≡ with_rule app rule) × (after_global ≡ false)
with_argument app before after rule given before_global given_global after_global is has shape globals =
    (shape has.1 ∙ ap₂ with_rule is.0 has.0, globals ∙ ap₂ ◌||◌ is.1 has.1)
