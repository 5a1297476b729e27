use Rattle.std.proofs.Common.{◌≡◌, ◌∙◌, ℕ, List, Option, length, Some, None, slice_get, option_map, refl, sym, ap}
use Rattle.std.proofs.lemmas.Option.{slice_get_past, slice_get_read}
use Rattle.blob_pool.specs.Slots.{text_at}
use Rattle.execution.specs.declared.keeping.KeptText.{KeptText}
use Rattle.execution.specs.Numbers.{digest_number, kept_digests}
use Rattle.execution.proofs.NumberedTexts.{number_finds}
use Rattle.execution.proofs.reading.seen_at.Goals as goal

pub returns-in-Some : goal.returns-in-Some
returns-in-Some c = λ p.
    let texts = c.args.texts.now in
    let number = digest_number (kept_digests texts) c.args.digest.now in
    let read = c.in-Some.ensures.lookup in
    let found : slice_get texts c.number_of-number.result ≡ Some c.in-Some.kept.now =
    slice_get_read texts (length texts) c.number_of-number.result c.in-Some.kept.now refl read.3.0 read.1 in
    ap (option_map (λ (t : KeptText). text_at p t.text)) (sym found ∙ ap (slice_get texts) c.number_of-number.ensures)
    ∙ number_finds p texts c.args.digest.now

pub returns-in-None : goal.returns-in-None
returns-in-None c = λ p.
    let texts = c.args.texts.now in
    let past : slice_get texts c.number_of-number.result ≡ None =
    slice_get_past texts c.number_of-number.result c.in-None.ensures.lookup.3 in
    ap (option_map (λ (t : KeptText). text_at p t.text)) (sym past ∙ ap (slice_get texts) c.number_of-number.ensures)
    ∙ number_finds p texts c.args.digest.now
