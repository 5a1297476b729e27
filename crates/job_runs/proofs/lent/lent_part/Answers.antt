use Rattle.std.proofs.Common.{◌≡◌, List, ℕ, length, Some, None, slice_get, refl, sym, ap, subst}
use Rattle.std.proofs.lemmas.Option.{slice_get_past, slice_get_read}
use Rattle.std.specs.Option.{option_copied}
use Rattle.run_calls.specs.Texts.{IsPart}
use Rattle.job_runs.proofs.Numbering.{lent_text, no_text}
use Rattle.job_runs.proofs.Parts.{no_part}
use Rattle.job_runs.proofs.lent.lent_part.Goals as goal

pub returns-in-Some-get-clause-part : goal.returns-in-Some-get-clause-part
returns-in-Some-get-clause-part c =
    let texts = c.args.texts.now in
    let read = c.in-Some-get.ensures.lookup in
    let found : slice_get texts c.args.number ≡ Some c.in-Some-get.kept.now =
    slice_get_read texts (length texts) c.args.number c.in-Some-get.kept.now refl read.3.0 read.1 in
    let text = lent_text _ c.in-Some.pool.now texts c.args.number c.in-Some-get.kept.now (ap option_copied c.in-Some.is) found in
    subst (λ (t : List ℕ). IsPart t c.args.from c.args.most c.part_of.result.now) (sym text) c.part_of.ensures.part

pub returns-in-None-clause-part : goal.returns-in-None-clause-part
returns-in-None-clause-part c =
    let texts = c.args.texts.now in
    let past : slice_get texts c.args.number ≡ None = slice_get_past texts c.args.number c.in-None.ensures.lookup.3 in
    no_part _ c.args.from c.args.most (no_text _ c.in-Some.pool.now texts c.args.number (ap option_copied c.in-Some.is) past)
