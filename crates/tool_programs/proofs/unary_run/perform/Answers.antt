use Rattle.std.proofs.Common.{sym, subst, ◌≤◌, ◌^◌, List}
use Rattle.std.specs.List.{All}
use Rattle.script.specs.declared.unary.command.Instance.{Instance}
use Rattle.tool_programs.proofs.CallLines.{quotas_small}
use Rattle.tool_programs.proofs.unary_run.perform.Goals as goal

pub open_all-requires : goal.open_all-requires
open_all-requires g c =
    let AreSmall : List Instance → Type 0 = λ xs. All (λ (i : Instance). i.quota ≤ 2 ^ 40) xs in
    subst AreSmall (sym c.deref.ensures.value) (quotas_small c.args.script.now.instances.items c.requires.instances.quotas)
