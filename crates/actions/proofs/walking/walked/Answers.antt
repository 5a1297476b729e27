use Rattle.actions.proofs.walking.walked.Goals as goal

pub steps-init : goal.steps-init
steps-init g c = record {
  root = c.begin-walk.ensures.root;
  leads = c.begin-walk.ensures.leads (g.F.Finds.found_in c.args.pool.now c.args.view.now);
}
