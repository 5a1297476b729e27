-- How a job ends in the code, as a plain value.
use Rattle.std.specs.Prelude.{map, option_map}
use Rattle.execution_messages.specs.Shown.{end_shown}
use Rattle.outcomes.specs.Completing.{blob_shown}
use Rattle.outcomes.specs.declared.ending.Ending.{Ending}
use Rattle.outcomes.specs.Ending.{EndingValue}

abbrev pub ending_shown : Ending → EndingValue
ending_shown e = record {
  end_is = end_shown e.end;
  blobs = map blob_shown e.blobs.items;
  stored = option_map (λ text. text.items) e.stored;
}
