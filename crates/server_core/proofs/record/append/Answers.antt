use Rattle.std.proofs.Common.{◌<◌, ◌≤◌, length, refl, arith}
use Rattle.std.proofs.lemmas.Grind.{common_steps}
use Rattle.server_core.proofs.Places.{appended, more_past}
use Rattle.server_core.proofs.record.append.Goals as goal

pub returns-in_ok-extend_from_slice : goal.returns-in_ok-extend_from_slice
returns-in_ok-extend_from_slice c =
    let lt : c.args.place < length c.args.sent.now.items = grind (arith, common_steps) in
    appended c.args.sent.now.items c.args.place c.index_mut.result.now _ _ c.args.more.now lt c.index_mut.ensures.value refl
    c.in_ok-extend_from_slice.ensures.items

pub returns-else-place-len : goal.returns-else-place-len
returns-else-place-len c =
    let past : length c.args.sent.now.items ≤ c.args.place = grind (arith, common_steps) in
    more_past c.args.sent.now.items c.args.place c.args.more.now past
