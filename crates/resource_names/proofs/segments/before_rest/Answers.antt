use Rattle.std.proofs.Common.{refl, ◌≡◌, ◌-◌, length, arith, sym, ◌∙◌, ap, Some, take}
use Rattle.std.specs.Prelude.{slice_range}
use Rattle.resource_names.proofs.SegmentLemmas.{rest-short, joined_segments-none, joined_segments-some, slash-before}
use Rattle.resource_names.proofs.segments.before_rest.Goals as goal

pub overflow_sub-start : goal.overflow_sub-start
overflow_sub-start c = rest-short c.args.text.now c.args.rest.now c.requires.passed c.requires.front

pub returns-then-start-eq0 : goal.returns-then-start-eq0
returns-then-start-eq0 c passed h = sym (joined_segments-none c.args.text.now c.args.rest.now passed h c.if-start-eq0.true)

pub range-requires-clause-end_boundary : goal.range-requires-clause-end_boundary
range-requires-clause-end_boundary c =
    let slash = slash-before c.args.text.now c.args.rest.now c.requires.passed _ c.requires.front refl c.if-start-eq0.false in
    (slash.0, λ _ high. absurd (let e = slash.1 in omega arith))

pub returns : goal.returns
returns c passed h =
    let n = length c.args.text.now - length c.args.rest.now - 1 in
    let same : slice_range c.args.text.now 0 n ≡ take n c.args.text.now = grind arith in
    ap Some (c.range.ensures.value ∙ same) ∙ sym (joined_segments-some c.args.text.now c.args.rest.now passed _ h refl c.if-start-eq0.false)
