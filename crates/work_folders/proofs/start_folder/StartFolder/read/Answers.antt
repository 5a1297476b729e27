use Rattle.std.proofs.Common.{◌∙◌, map, string_bytes}
use Rattle.run_calls.specs.Values.{place_shown}
use Rattle.work_folders.proofs.Paths.{is_left}
use Rattle.work_folders.proofs.start_folder.StartFolder.read.Goals as goal

pub open_left-requires-clause-below : goal.open_left-requires-clause-below
open_left-requires-clause-below g c = is_left (place_shown c.args.place.now) c.args.path.now
    (map string_bytes c.args.names.now) c.as_str-in-None.result.now
    (c.as_str-in-None.ensures.value ∙ c.in_ok-path.ensures)
