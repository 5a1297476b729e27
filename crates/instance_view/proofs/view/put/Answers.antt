use Rattle.instance_view.proofs.Entries.{put_new}
use Rattle.instance_view.proofs.view.put.Goals as goal

pub returns-clause-ok : goal.returns-clause-ok
returns-clause-ok c = rw c.in_ok-push.ensures.entries (put_new c.args.digest c.args.used c.args.cache.now c.requires.absent c.requires.room)
