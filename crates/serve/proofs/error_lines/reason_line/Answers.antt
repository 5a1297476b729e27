use Rattle.std.proofs.Common.{◌≡◌, ℕ, List, ◌++◌, ◌∙◌, ap, sym, length, arith}
use Rattle.std.proofs.lemmas.Grind.{common_steps}
use Rattle.std.specs.Prelude.{◌==◌, false, codes}
use Rattle.std.specs.Fmt.{decimal}
use Rattle.std.specs.Global.{Vec}
use Rattle.serve.specs.FaultLines.{escaped}
use Rattle.serve.proofs.FaultLines.{five, reason_written}
use Rattle.serve.proofs.error_lines.reason_line.Goals as goal

pub returns : goal.returns
returns c =
    let name : List ℕ = c.args.name.now in
    let reason : List ℕ = c.args.reason.now in
    let some : (length reason == 0) ≡ false = grind (arith, common_steps) in
    let begun = c.in_ok-head.ensures.ok ∙ sym (five (codes "remoted: run ") name (codes " ") (decimal c.args.job) (codes ": ")) in
    let said = c.in_ok-extend_escaped.ensures ∙ ap (λ (l : List ℕ). l ++ escaped reason)
    (ap (λ (v : Vec ℕ). v.items) c.into_bytes-line.ensures.value ∙ begun) in
    c.in_ok-push.ensures.items ∙ ap (λ (l : List ℕ). l ++ codes "\n") said ∙ sym (reason_written name reason c.args.job some)
