use Rattle.std.proofs.Common.{ℕ, arith, ap, ◌∙◌}
use Rattle.blob_pool.specs.Pages.{part_of}
use Rattle.blob_pool.specs.Slots.{text_at}
use Rattle.grpc_sending.proofs.Filling.{is_part}
use Rattle.served_instance.proofs.pool_parts.PoolPartsParts.part.Goals as goal

pub returns : goal.returns
returns c =
    let pool = c.args.self.now.pool.now in
    is_part 65536 (text_at pool c.args.source) c.args.from c.args.most c.part.result.now (omega arith)
    (c.part.ensures ∙ ap (λ (k : ℕ). part_of 65536 (text_at pool k) c.args.from c.args.most) c.of_number.ensures)
