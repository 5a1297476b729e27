use Rattle.std.proofs.Common.{◌≡◌, ◌++◌, map, reverse, length}
use Rattle.std.specs.Prelude.{string_bytes}
use Rattle.run_calls.specs.Values.{entry_shown}
use Rattle.runner.specs.Listed.{file_names, inners_of, inner_shown}
use Rattle.runner.proofs.gathering.set_apart.Given as goal

abbrev pub invariant-entries : goal.invariant-entries
invariant-entries l = record {
  files : file_names (map entry_shown l.rest.items) ++ map string_bytes l.files.items ≡ file_names (map entry_shown l.fn.entries.items)
      ++ map string_bytes l.fn.files.items;
  directories : map inner_shown l.todo.items ++ reverse (inners_of l.level (map entry_shown l.rest.items)) ≡ map inner_shown l.fn.todo.items
      ++ reverse (inners_of l.level (map entry_shown l.fn.entries.items));
}

abbrev pub decreases-entries : goal.decreases-entries
decreases-entries l = length l.rest.items
