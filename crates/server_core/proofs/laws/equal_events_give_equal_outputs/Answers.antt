use Rattle.std.proofs.Common.{ap, ◌∙◌}
use Rattle.server_events.specs.Configs.{parent_of}
use Rattle.server_core.specs.Families.{Family, family_events, family_in}
use Rattle.server_core.specs.LoneOutput.{lone_output}
use Rattle.server_core.specs.Runs.{run_of_family}
use Rattle.server_core.proofs.laws.equal_events_give_equal_outputs.Goals as goal

pub returns-clause-outputs : goal.returns-clause-outputs
returns-clause-outputs c = λ these those i j this that events others at there same alike.
    ap (λ (family : Family). lone_output family (family_events i (parent_of these this) events)) same
    ∙ ap (lone_output (family_in those that)) alike

pub returns-clause-state : goal.returns-clause-state
returns-clause-state c = λ this that events others same alike.
    ap (λ (family : Family). run_of_family family events) same ∙ ap (run_of_family that) alike
