use Rattle.std.proofs.Common.{map}
use Rattle.std.specs.Rc.{rc_str_bytes}
use Rattle.made_trees.specs.RunTrees.{site_in, site_shown}
use Rattle.work_folders.proofs.AtSites.{at_start}
use Rattle.work_folders.proofs.folders.Folders.write.Goals as goal

pub write_at-requires-clause-tree : goal.write_at-requires-clause-tree
write_at-requires-clause-tree g c = at_start g.D.Directory.may_look g.D.Directory.may_change
    g.D.Directory.is_settled c.args.self.now.work.start c.in-Some.start
    (site_shown c.site-site.result)
    (site_in c.args.run c.args.self.now.trees (map rc_str_bytes c.args.names.now)) c.in-Some.is
    c.site-site.ensures c.requires.tree
