-- Parts of texts.
use Rattle.std.proofs.Common.{◌≡◌, ◌+◌, ℕ, List, [], ◌∙◌, sym, arith}
use Rattle.std.proofs.Math.Seq.{drop-nil}
use Rattle.run_calls.specs.Texts.{IsPart}

pub no_part : (text : List ℕ) (from most : ℕ) → text ≡ [] → IsPart text from most []
no_part text from most is =
    rw is (record { follows = drop-nil from ∙ sym (drop-nil (from + 0)); short = omega arith; last = λ wanted none. drop-nil from })
