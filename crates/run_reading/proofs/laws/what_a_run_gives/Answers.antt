use Rattle.std.proofs.Common.{map}
use Rattle.server_events.specs.Shown.{event_value}
use Rattle.run_reading.proofs.Given.{all_give_well}
use Rattle.run_reading.proofs.laws.what_a_run_gives.Goals as goal

pub returns : goal.returns
returns c = λ i config is. all_give_well c.args.configs.now
    (map event_value c.args.events.now) i config c.instances-instances.ensures.good c.instances-instances.ensures.limits
    c.statuses_are_narrow.ensures is
