use Rattle.std.proofs.Common.{◌∙◌, map, string_bytes}
use Rattle.run_calls.specs.Values.{place_shown}
use Rattle.work_folders.proofs.Paths.{is_left}
use Rattle.work_folders.proofs.start_folder.StartFolder.identity_of_left.Goals as goal

pub identity_at-requires-clause-below : goal.identity_at-requires-clause-below
identity_at-requires-clause-below g c = is_left (place_shown c.args.place.now) c.args.path.now
    (map string_bytes c.args.names.now) c.as_str.result.now (c.as_str.ensures.value ∙ c.in_ok-path.ensures)
