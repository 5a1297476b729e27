use Rattle.std.proofs.Common.{[], ◌∷◌, ◌∙◌, refl, sym, ap, subst, map, ◌++◌}
use Rattle.std.specs.Prelude.{string_bytes}
use Rattle.std.specs.Rc.{rc_str_bytes}
use Rattle.runner.specs.declared.stage.Stage.TheVariants as Stages
use Rattle.runner.specs.declared.stage.Making.TheVariants as Makings
use Rattle.run_calls.specs.Values.{place_shown, command_shown, task_kind_shown}
use Rattle.run_calls.specs.Calls.{start_asked, node_asked, look_asked, call, Adds, done_of}
use Rattle.runner.specs.Made.{nodes_made}
use Rattle.runner.specs.Steps.{prepared_left}
use Rattle.runner.proofs.Collect.{goes_alone, goes_folder, quiet}
use Rattle.runner.proofs.Popped.{popped, popped_none, named, node_step}
use Rattle.runner.proofs.Sizes.{fits_none}
use Rattle.runner.proofs.Stopped.{folder_failed, folder_stops, memory_refused}
use Rattle.runner.proofs.making.make_node.Goals as goal

pub returns-in_default-clause-goes : goal.returns-in_default-clause-goes
returns-in_default-clause-goes g c = λ text p.
    goes_alone text (place_shown c.args.place.now) _ _ _ p
    (ap (λ ns. nodes_made text c.args.place.now.run (map rc_str_bytes c.args.nodes.above.items) ns
    ++ prepared_left (place_shown c.args.place.now) c.args.nodes.next)
    (popped_none _ _ _ c.pop_front.ensures.items c.pop_front.ensures.rest c.in_default.is)
    ∙ ap (prepared_left (place_shown c.args.place.now)) (sym c.next.ensures))
    (ap (λ n. start_asked (place_shown c.args.place.now) (command_shown n.command) ∷ []) (sym c.next.ensures))
    (ap (λ n. map (look_asked (place_shown c.args.place.now)) (map string_bytes n.outputs.items)) (sym c.next.ensures))
    refl refl
    refl

pub returns-clause-goes : goal.returns-clause-goes
returns-clause-goes g c = λ text p.
    let names = map rc_str_bytes c.push.new.self.items in
    let q = node_asked c.args.place.now.run (map rc_str_bytes c.push.new.self.items) (task_kind_shown c.in-Some.node.kind) in
    goes_folder text (place_shown c.args.place.now) _ _ _ _ p q _ refl
    (subst (λ ns. Adds (g.F.Folder.asked c.args.folder.now) (g.F.Folder.asked c.make_node.new.self)
    (call (node_asked c.args.place.now.run (map rc_str_bytes ns) (task_kind_shown c.in-Some.node.kind)) (done_of c.make_node.result)))
    c.deref.ensures.value c.make_node.ensures.adds)
    (node_step text c.args.place.now.run (map rc_str_bytes c.args.nodes.above.items) names c.in-Some.node _ _ _ _
    (popped _ _ _ _ c.pop_front.ensures.items c.in-Some.is)
    (named rc_str_bytes _ _ _ _ _ _ c.in_ok-push.ensures.items c.truncate.ensures.items c.saturating_sub.ensures)
    (c.after_node-making.ensures.left text (place_shown c.args.place.now)))
    (sym (c.after_node-making.ensures.starts (place_shown c.args.place.now)))
    (ap (map (look_asked (place_shown c.args.place.now))) (sym c.after_node-making.ensures.outputs))
    (sym (quiet q _ (λ x. refl))) refl (fits_none _ refl)
    (tt, [], refl, refl)

pub returns-in_err-of_folder-clause-stops : goal.returns-in_err-of_folder-clause-stops
returns-in_err-of_folder-clause-stops g c = folder_failed c.from_residual-in_err-of_folder.result _ _ _ _
    c.from_residual-in_err-of_folder.ensures.1 c.of_folder.ensures c.in_err-of_folder.was done_of (λ e. refl) (λ fault small text p.
    folder_stops text (place_shown c.args.place.now) _ fault _ _ p
    (node_asked c.args.place.now.run (map rc_str_bytes c.push.new.self.items) (task_kind_shown c.in-Some.node.kind)) _ refl small
    (subst (λ ns. Adds (g.F.Folder.asked c.args.folder.now) (g.F.Folder.asked c.make_node.new.self)
    (call (node_asked c.args.place.now.run (map rc_str_bytes ns) (task_kind_shown c.in-Some.node.kind)) (done_of c.make_node.result)))
    c.deref.ensures.value c.make_node.ensures.adds) (
      _,
      node_step text c.args.place.now.run (map rc_str_bytes c.args.nodes.above.items)
          (map rc_str_bytes c.push.new.self.items) c.in-Some.node _ _ _ _
          (popped _ _ _ _ c.pop_front.ensures.items c.in-Some.is)
          (named rc_str_bytes _ _ _ _ _ _ c.in_ok-push.ensures.items c.truncate.ensures.items c.saturating_sub.ensures)
          refl,
    ))

pub returns-in_err-push-clause-stops : goal.returns-in_err-push-clause-stops
returns-in_err-push-clause-stops g c =
    memory_refused c.from_residual.result (place_shown c.args.place.now) (Stages.Making (Makings.Nodes c.args.nodes))
    (g.F.Folder.asked c.args.folder.now) c.from_residual.ensures.1
