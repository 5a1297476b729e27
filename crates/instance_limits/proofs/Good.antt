-- Limits are such as may be chosen.
use Rattle.instance_limits.specs.declared.Limits.{Limits}
use Rattle.instance_limits.specs.Limits.{IsLimits}
use Rattle.instance_limits.specs.Shown.{limits_value}

pub are_good : (limits : Limits) → IsLimits (limits_value limits)
are_good limits = record {
  some_blobs = limits.some_blobs;
  few_blobs = limits.few_blobs;
  few_results = limits.few_results;
  room = limits.room;
  short_results = limits.short_results;
  least = limits.least;
  most = limits.most;
}
