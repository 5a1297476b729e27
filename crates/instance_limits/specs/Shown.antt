-- What the type of limits stands for.
use Rattle.instance_limits.specs.declared.Limits.{Limits}
use Rattle.instance_limits.specs.Limits.{LimitsValue}

abbrev pub limits_value : Limits → LimitsValue
limits_value limits = record {
  blobs = limits.blobs;
  results = limits.results;
  result_bytes = limits.result_bytes;
  window = limits.window;
}
