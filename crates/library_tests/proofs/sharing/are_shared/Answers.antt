use Rattle.std.proofs.Common.{ap, arith}
use Rattle.instance_view.specs.Shown.{ViewValue}
use Rattle.library_tests.proofs.Beside.{beside_none}
use Rattle.library_tests.proofs.sharing.are_shared.Goals as goal

pub loop-case-init : goal.loop-case-init
loop-case-init c =
    let first = c.in_ok-first.ensures in
    let second = c.in_ok-second.ensures in
    beside_none 10 c.new-pool.result c.in_ok-first.first c.in_ok-second.second c.new-pool.ensures (ap (λ (v : ViewValue). v.entries) first)
    (ap (λ (v : ViewValue). v.entries) second)
    (omega (arith, ap (λ (v : ViewValue). v.limit) first)) (omega (arith, ap (λ (v : ViewValue). v.limit) second))
