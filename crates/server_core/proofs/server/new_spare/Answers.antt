use Rattle.std.proofs.Common.{arith}
use Rattle.std.proofs.lemmas.Result.{IfOk-weaker}
use Rattle.served_instance.specs.Slots.{ServedSlots}
use Rattle.server_core.proofs.Acted.{no_entries}
use Rattle.server_core.proofs.server.new_spare.Goals as goal

pub returns : goal.returns
returns c = IfOk-weaker c.new-2.result _ _ (λ (v : ServedSlots) none. no_entries v.instance.view.entries (λ k. omega (arith, none k)))
    c.new-2.ensures.holders
