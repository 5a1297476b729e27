use Rattle.std.proofs.Common.{ℕ, List, ◌+◌, ◌-◌, ◌%◌, ◌++◌, min, length, drop, Bor, ap, ◌∙◌, arith}
use Rattle.std.specs.List.{flat_map}
use Rattle.blob_pool.specs.Slots.{text_at}
use Rattle.blob_pool.proofs.Parts.{next_part}
use Rattle.cas_service.proofs.Pages.{page_added}
use Rattle.cas_service.proofs.read.pages_of.Goals as goal

pub pages-preserved : goal.pages-preserved
pages-preserved c =
    let text = text_at c.args.pool.now c.args.kept in
    let page = c.part-page.result in
    let from = c.pages.from in
    let next = next_part text page.now 65536 from 4294967295 (omega arith) (omega arith)
    (omega (arith, c.pages-test.true, c.length-length.ensures.length)) c.part-page.ensures in
    let added = page_added {A = Bor (List ℕ)} (λ p. p.now) c.pages.pages.items page text from
    (min 4294967295 (65536 - from % 65536)) c.part-page.ensures c.pages.invariant.0 in (
      ap (λ (ps : List (Bor (List ℕ))). flat_map (λ p. p.now) ps ++ drop (from + length page.now) text) c.in_ok-push.ensures.items ∙ added,
      omega (arith, next.within, c.length-length.ensures.length),
    )
