use Rattle.std.proofs.Common.{◌-◌, ◌%◌, ℕ, List, min, take, subst, arith}
use Rattle.digest.specs.Hashing.{Holds}
use Rattle.blob_pool.proofs.Parts.{next_part}
use Rattle.blob_pool.proofs.Hashings.{front_more}
use Rattle.blob_pool.proofs.hashing.digest_pages.Goals as goal

pub parts-preserved : goal.parts-preserved
parts-preserved c =
    let text = c.args.text.now in
    let part = c.part-part.result in
    let from = c.parts.from in
    let next = next_part text part.now 65536 from 4294967295 (omega arith) (omega arith)
    (omega (arith, c.parts-test.true, c.len-length.ensures.length)) c.part-part.ensures in
    let more = front_more text part.now from (min 4294967295 (65536 - from % 65536))
    (omega (arith, c.parts.invariant.1, c.len-length.ensures.length)) c.part-part.ensures in (
      subst (λ (t : List ℕ). Holds c.update.new.self c.args.function t) more
          (c.update.ensures c.args.function (take from text) c.parts.invariant.0),
      omega (arith, next.within, c.len-length.ensures.length),
    )
