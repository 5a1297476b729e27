use Rattle.std.proofs.Common.{◌≡◌, ℕ, List, subst}
use Rattle.instance_view.specs.Shown.{visible_in}
use Rattle.cas_service.specs.Changes.{visible_after_changes}
use Rattle.cas_service.specs.Answers.{IfAnswered}
use Rattle.tool_programs.specs.Session.{changes_by}
use Rattle.tool_programs.proofs.Calls.{called_by}
use Rattle.tool_programs.proofs.store.Store.call.Goals as goal

pub returns-clause-called : goal.returns-clause-called
returns-clause-called c =
    let visible = visible_in c.self.inside.texts.pool c.self.inside.texts.view in
    let IsCalled : List ℕ → Type 0 = λ name. IfAnswered c.call.result
    (visible_in c.call.new.texts.pool c.call.new.texts.view
    ≡ visible_after_changes c.self.inside.texts.view.limit c.self.inside.quota
    (changes_by c.args.method (record {
      name = name;
      quota = c.self.inside.quota;
      limit = c.self.inside.texts.view.limit;
      visible =
          visible;
    }) c.args.message.now) visible) in
    called_by c.call.result c.args.method _ c.args.self.now
    (visible_in c.call.new.texts.pool c.call.new.texts.view) c.call.new.texts.view.limit c.args.message.now c.self.view_is
    c.call.ensures.limit (subst IsCalled c.deref.ensures c.call.ensures.called)
