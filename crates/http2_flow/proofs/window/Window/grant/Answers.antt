use Rattle.std.proofs.Common.{◌≡◌, arith, refl}
use Rattle.std.specs.Prelude.{pos, ◌+ℤ◌}
use Rattle.std.proofs.lemmas.Int.{ints}
use Rattle.http2_flow.specs.Credit.{window_left}
use Rattle.http2_flow.proofs.window.Window.grant.Goals as goal

pub invariant_of-self : goal.invariant_of-self
invariant_of-self c =
    let now : window_left c.args.self.now ≡ pos c.self.inside.initial +ℤ c.self.inside.change = rw (← c.self.view_is) refl in
    (omega arith, omega (arith, ints), omega (arith, ints))
