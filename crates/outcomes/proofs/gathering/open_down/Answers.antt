use Rattle.std.proofs.Common.{arith, ◌<◌, List, length, map, refl, ap, ◌∙◌}
use Rattle.outcomes.specs.declared.folder.OpenFolder.{OpenFolder}
use Rattle.outcomes.specs.Gathering.{down_to, open_shown}
use Rattle.outcomes.proofs.Opening.{opened_next}
use Rattle.outcomes.proofs.gathering.open_down.Goals as goal

pub loop-alloc-preserved : goal.loop-alloc-preserved
loop-alloc-preserved c =
    let less : length c.loop-alloc.going.items < c.args.level = omega arith in
    ap (λ (fs : List OpenFolder). down_to c.args.level (map open_shown fs)) c.in_ok-push_front.ensures.items
    ∙ opened_next c.args.level c.loop-alloc.going.items (record { files = c.new.result; directories = c.new-in-loop-alloc.result }) less
    (rw (c.new.ensures.items, c.new-in-loop-alloc.ensures.items) refl)
    ∙ c.loop-alloc.invariant
