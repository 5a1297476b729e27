use Rattle.std.proofs.Common.{◌≡◌, ◌-◌, ◌≤◌, length, suc, arith}
use Rattle.instance_view.specs.Shown.{visible_in}
use Rattle.quota_evict.proofs.Steps.{trimmed_one, trimmed_none, length-visible_in}
use Rattle.quota_evict.proofs.admission.trim.Goals as goal

pub returns-then-len-limit-clause-shown : goal.returns-then-len-limit-clause-shown
returns-then-len-limit-clause-shown c = λ d text visible is.
    let bs = visible_in c.args.pool.now c.args.view.now in
    let many : length bs ≡ suc (suc (c.args.limit - 1)) =
    omega (
      arith,
      length-visible_in c.args.pool.now c.args.view.now,
      c.len.ensures,
      c.if-len-limit.true,
      c.requires.length,
      c.requires.some,
    ) in
    trimmed_one (c.args.limit - 1) (d, text) visible bs
    (visible_in c.drop_oldest.new.pool c.drop_oldest.new.self) is many c.drop_oldest.ensures.shown

pub returns-else-len-limit-clause-shown : goal.returns-else-len-limit-clause-shown
returns-else-len-limit-clause-shown c = λ d text visible is.
    let bs = visible_in c.args.pool.now c.args.view.now in
    let few : length bs ≤ suc (c.args.limit - 1) =
    omega (arith, length-visible_in c.args.pool.now c.args.view.now, c.len.ensures, c.if-len-limit.false, c.requires.some) in
    trimmed_none (c.args.limit - 1) (d, text) visible bs is few
