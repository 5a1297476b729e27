use Rattle.std.proofs.Common.{◌∙◌, map}
use Rattle.std.specs.Rc.{rc_str_bytes}
use Rattle.work_folders.proofs.Paths.{is_node}
use Rattle.work_folders.proofs.start_folder.StartFolder.identity_of_made.Goals as goal

pub identity_at-requires-clause-below : goal.identity_at-requires-clause-below
identity_at-requires-clause-below g c = is_node c.args.run (map rc_str_bytes c.args.names.now) c.as_str.result.now
    (c.as_str.ensures.value ∙ c.in_ok-path.ensures)
