use Rattle.std.proofs.Common.{Global, ap, map, sym, ◌∙◌}
use Rattle.std.specs.Prelude.{option_map, string_bytes}
use Rattle.command_line.specs.Shown.{invocation_value}
use Rattle.command_line.proofs.Faults.{accepted_has_none, refused_is_fault}
use Rattle.command_line.proofs.Matched.{asked_is}
use Rattle.command_line.proofs.asked.Goals as goal

pub returns-in-Err-clause-fault : goal.returns-in-Err-clause-fault
returns-in-Err-clause-fault c = refused_is_fault _ _ _ _ c.requires c.in-Err.ensures.kinds c.from.ensures

pub returns-in-Some-clause-invocation : goal.returns-in-Some-clause-invocation
returns-in-Some-clause-invocation c = asked_is _ _ _ c.requires c.in-Ok.ensures.ok.2 ∙ sym c.in_ok-invocation.ensures
    ∙ ap (option_map invocation_value) c.in-Some.is

pub returns-in-Some-clause-faultless : goal.returns-in-Some-clause-faultless
returns-in-Some-clause-faultless c = accepted_has_none _ _ c.requires c.in-Ok.ensures.kinds

pub returns-in-None-clause-fault : goal.returns-in-None-clause-fault
returns-in-None-clause-fault c =
    c.value_fault.ensures (map (string_bytes {Z = Global}) c.args.words.now)
    (asked_is _ _ _ c.requires c.in-Ok.ensures.ok.2 ∙ sym c.in_ok-invocation.ensures ∙ ap (option_map invocation_value) c.in-None.is)
