use Rattle.std.proofs.Common.{◌∙◌}
use Rattle.run_programs.proofs.Starts.{set_more}
use Rattle.run_programs.proofs.starting.add_variables.Goals as goal

pub loop-left-preserved : goal.loop-left-preserved
loop-left-preserved g c =
    let i = c.loop-left.invariant in
    let e = c.in_ok-set.ensures in (
      e.words ∙ i.0,
      e.cleared ∙ i.1,
      (λ name. set_more c.loop-left.left.now c.first-item.result
          (g.C.Command.shown c.loop-left.command) (g.C.Command.shown c.set.new.self)
          c.as_str.result.now c.as_str-in-len1-up.result.now c.in-len1-up.len_at_least c.first-item.is
          c.as_str.ensures.value c.as_str-in-len1-up.ensures.value e.set e.others name ∙ i.2 name),
      e.directory ∙ i.3,
    )
