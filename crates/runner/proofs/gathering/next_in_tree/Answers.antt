use Rattle.std.proofs.Common.{refl, sym, ap, map, inr}
use Rattle.std.specs.Prelude.{string_bytes}
use Rattle.run_calls.specs.Values.{place_shown}
use Rattle.run_calls.specs.Calls.{look_asked}
use Rattle.runner.specs.declared.gathering.Next.TheVariants as nexts
use Rattle.runner.proofs.Collect.{goes_drops}
use Rattle.runner.proofs.Trees.{tree_goes}
use Rattle.runner.proofs.Walks.{file_next, directory_next, done_where, is_next, stack_left, stack_taken}
use Rattle.runner.proofs.Told.{taken_on}
use Rattle.runner.proofs.Stopped.{tree_stops}
use Rattle.runner.proofs.gathering.next_in_tree.Goals as goal

pub returns-in-File-clause-goes : goal.returns-in-File-clause-goes
returns-in-File-clause-goes g c =
    let next = is_next c.next_of.result (nexts.File c.in-File.name) _ _ _ _ _ c.in-File.is c.next_of.ensures in
    tree_goes _ (place_shown c.args.place.now) c.args.gathering c.args.tree _ _ _ _ refl refl
    (file_next (place_shown c.args.place.now) _ _ _ _ _ _ _ _ next.0 next.1) c.look_in_tree.ensures.goes

pub returns-in-Directory-clause-goes : goal.returns-in-Directory-clause-goes
returns-in-Directory-clause-goes g c =
    let next = is_next c.next_of.result (nexts.Directory c.in-Directory.inner) _ _ _ _ _ c.in-Directory.is c.next_of.ensures in
    tree_goes _ (place_shown c.args.place.now) c.args.gathering c.args.tree _ _ _ _ refl refl
    (directory_next (place_shown c.args.place.now) _ _ _ _ _ _ c.in-Directory.inner _ next.0 next.1 next.2) c.list_in_tree.ensures.goes

pub returns-in_ok-gathering-in-Nothing-clause-goes : goal.returns-in_ok-gathering-in-Nothing-clause-goes
returns-in_ok-gathering-in-Nothing-clause-goes g c = λ text p.
    goes_drops text (place_shown c.args.place.now) _ _ _ p refl refl
    (ap (λ l. map (look_asked (place_shown c.args.place.now)) (map string_bytes l.items)) (sym c.in_ok-gathering-in-Nothing.ensures.left))
    (c.in_ok-gathering-in-Nothing.ensures.items (place_shown c.args.place.now))
    (c.in_ok-gathering-in-Nothing.ensures.told (place_shown c.args.place.now))
    (inr (
      done_where (place_shown c.args.place.now) _ _ _ _ _ _ c.next_of.result _ _ c.next_of.ensures c.in-Nothing.is
          c.count.ensures.count,
      refl,
    ))

pub returns-in_ok-gathering-in-Nothing-clause-counted : goal.returns-in_ok-gathering-in-Nothing-clause-counted
returns-in_ok-gathering-in-Nothing-clause-counted g c =
    taken_on _ _ _ _ c.requires.counted.0 c.in_ok-gathering-in-Nothing.ensures.taken c.in_ok-gathering-in-Nothing.ensures.length

pub returns-in-File-clause-stops : goal.returns-in-File-clause-stops
returns-in-File-clause-stops g c =
    let next = is_next c.next_of.result (nexts.File c.in-File.name) _ _ _ _ _ c.in-File.is c.next_of.ensures in
    tree_stops _ _ (place_shown c.args.place.now) c.args.gathering c.args.tree _ _ _ refl
    (file_next (place_shown c.args.place.now) _ _ _ _ _ _ _ _ next.0 next.1) c.look_in_tree.ensures.stops

pub returns-in-Directory-clause-stops : goal.returns-in-Directory-clause-stops
returns-in-Directory-clause-stops g c =
    let next = is_next c.next_of.result (nexts.Directory c.in-Directory.inner) _ _ _ _ _ c.in-Directory.is c.next_of.ensures in
    tree_stops _ _ (place_shown c.args.place.now) c.args.gathering c.args.tree _ _ _ refl
    (directory_next (place_shown c.args.place.now) _ _ _ _ _ _ c.in-Directory.inner _ next.0 next.1 next.2) c.list_in_tree.ensures.stops

pub list_in_tree-requires-clause-counted : goal.list_in_tree-requires-clause-counted
list_in_tree-requires-clause-counted g c =
    let next = is_next c.next_of.result (nexts.Directory c.in-Directory.inner) _ _ _ _ _ c.in-Directory.is c.next_of.ensures in (
      c.requires.counted.0,
      stack_left _ c.next_of.new.todo.items c.in-Directory.inner
          (stack_taken _ c.args.tree.todo.items c.next_of.new.todo.items c.in-Directory.inner next.2 c.requires.counted.1),
    )
