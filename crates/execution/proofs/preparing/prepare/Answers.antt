use Rattle.std.proofs.Common.{◌≡◌, Bool, Option, List, ℕ, Vec, Global, option_map, subst, ◌∙◌}
use Rattle.std.specs.Prelude.{is_some}
use Rattle.input_tree.specs.Texts.{texts_of}
use Rattle.actions.specs.Walk.{TreeFaultValue, walk, Nodes}
use Rattle.actions.specs.Actions.{ActionTaken}
use Rattle.actions.specs.Shown.{action_taken_shown}
use Rattle.execution.specs.Preparing.{walk_fault}
use Rattle.execution.specs.Shown.{FailsWith, IsFault}
use Rattle.execution.proofs.WalkFaults.{walk-fails, is_some-map}
use Rattle.execution.proofs.preparing.prepare.Goals as goal

abbrev items_of : Vec ℕ Global → List ℕ
items_of text = text.items

pub returns-in-Err : goal.returns-in-Err
returns-in-Err c =
    let a : ActionTaken = action_taken_shown c.in_ok-action.action in
    let command : Option (List ℕ) = option_map items_of c.in_ok-command.command in
    let meaning : Nodes = walk (texts_of c.args.pool.now c.args.view.now) a.root in
    let there : c.is_some.result ≡ is_some command = c.is_some.ensures ∙ is_some-map items_of c.in_ok-command.command in
    let faulty : (value : TreeFaultValue) → IsFault c.in-Err.fault value →
    FailsWith c.walk_fault.result (walk_fault a.command (is_some command) value) =
    λ value is. subst (λ (b : Bool). FailsWith c.walk_fault.result (walk_fault a.command b value)) there
    (c.walk_fault.ensures.fault value is) in
    rw (c.in_ok-action.ensures, c.in_ok-command.ensures)
    (walk-fails c.in-Err.fault meaning a command c.walk_fault.result c.in-Err.ensures faulty c.walk_fault.ensures.memory)
