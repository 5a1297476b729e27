use Rattle.std.proofs.Common.{◌≡◌, ℕ, ◌+◌, ◌-◌, List, drop, sym, ap, ◌∙◌, unwrap_or, length, arith}
use Rattle.std.proofs.lemmas.List.{length-drop, length-map, length-take}
use Rattle.std.specs.Map.{lookup}
use Rattle.digest.specs.declared.Digest.{Digest}
use Rattle.digest.specs.Naming.{same_digest}
use Rattle.execution.specs.declared.keeping.KeptText.{KeptText}
use Rattle.execution.specs.Numbers.{digest_number, kept_digests}
use Rattle.execution.proofs.NumberedTexts.{numbers_end, numbers_more}
use Rattle.execution.proofs.numbering.text_numbers.Goals as goal

pub texts-init : goal.texts-init
texts-init c = record {
  found = λ d.
      ap (λ (es : List (Digest × ℕ)). unwrap_or (lookup (same_digest d) es) (0 + digest_number (kept_digests c.args.texts.now) d))
      c.in_ok-numbers.ensures.empty
      ∙ omega arith;
  counted = omega arith;
}

pub texts-preserved : goal.texts-preserved
texts-preserved c = record {
  found = λ d.
      numbers_more c.texts.left.now c.first-item.result _ _ c.texts.number d (omega arith) c.first-item.is (c.in_ok-give_number.ensures d)
      ∙ c.texts.invariant.found d;
  counted =
      let left = c.texts.left.now in
      omega (arith, length-take (length left - 1) (drop 1 left), length-drop 1 left);
}

pub returns : goal.returns
returns c = λ d.
    let texts = c.args.texts.now in
    let all : length (kept_digests texts) ≡ c.texts.number + length c.texts.left.now =
    omega (arith, length-map texts (λ (t : KeptText). t.digest)) in
    ap (λ (n : ℕ). unwrap_or (lookup (same_digest d) c.texts.numbers.entries) n)
    (all ∙ sym (numbers_end c.texts.left.now c.texts.number d c.in_default.len_below))
    ∙ c.texts.invariant.found d
