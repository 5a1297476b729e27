use Rattle.std.proofs.Common.{[]}
use Rattle.work_folders.specs.Rights.{MayRun}
use Rattle.work_folders.proofs.sited.make_at.Goals as goal

pub make_root-requires-clause-root : goal.make_root-requires-clause-root
make_root-requires-clause-root g c =
    let may : MayRun g.D.Directory.may_look g.D.Directory.may_change g.D.Directory.is_settled
    c.args.start.now c.in-PlaceOf.folder = rw c.in-PlaceOf.is at c.requires.tree in
    may.changes []
