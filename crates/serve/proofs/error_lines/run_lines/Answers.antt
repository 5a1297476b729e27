use Rattle.std.proofs.Common.{ℕ, List, ◌++◌, ◌∙◌, ap, sym}
use Rattle.std.specs.Prelude.{codes}
use Rattle.std.specs.Fmt.{decimal}
use Rattle.std.specs.Global.{Vec}
use Rattle.serve.specs.FaultLines.{word_of}
use Rattle.serve.proofs.FaultLines.{seven}
use Rattle.serve.proofs.error_lines.run_lines.Goals as goal

pub returns : goal.returns
returns c =
    let name : List ℕ = c.args.name.now in
    let head : List ℕ → List ℕ = λ w. codes "remoted: run " ++ name ++ codes " " ++ decimal c.args.job ++ codes " failed: " ++ w
    ++ codes "\n" in
    let begun = c.in_ok-head.ensures.ok ∙ sym (seven (codes "remoted: run ") name (codes " ") (decimal c.args.job)
    (codes " failed: ") c.word-word.result.now (codes "\n")) ∙ ap head c.word-word.ensures in
    let lines = ap (λ (v : Vec ℕ). v.items) c.into_bytes-lines.ensures.value ∙ begun in
    let why = c.deref.ensures.value ∙ c.in_ok-why.ensures in
    c.in_ok-extend_from_slice.ensures.items ∙ ap (λ (l : List ℕ). l ++ c.deref.result.now) lines
    ∙ ap (λ (l : List ℕ). head (word_of c.args.fault) ++ l) why
