use Rattle.std.proofs.Common.{sym, ◌∙◌, arith}
use Rattle.hpack.proofs.Evictions.{total_dropped, longest_all, longest_dropped}
use Rattle.hpack.proofs.dynamic_table.evict.Goals as goal

pub size-left-requires : goal.size-left-requires
size-left-requires c =
    let total = total_dropped c.entries.entries.items c.pop_back.new.self.items c.in-Some.oldest c.in-Some.ensures.items in
    omega arith

pub overflow_sub-left : goal.overflow_sub-left
overflow_sub-left c =
    let total = total_dropped c.entries.entries.items c.pop_back.new.self.items c.in-Some.oldest c.in-Some.ensures.items in
    omega arith

pub entries-preserved : goal.entries-preserved
entries-preserved c =
    let total = total_dropped c.entries.entries.items c.pop_back.new.self.items c.in-Some.oldest c.in-Some.ensures.items in
    record {
      counted = omega arith;
      same = longest_dropped c.entries.entries.items c.pop_back.new.self.items c.in-Some.oldest c.args.room c.in-Some.ensures.items
          (omega arith) ∙ c.entries.invariant.same;
      capacity = c.pop_back.ensures.capacity ∙ c.entries.invariant.capacity;
      len = omega (arith, c.in-Some.ensures.cases);
    }

pub returns-clause-entries : goal.returns-clause-entries
returns-clause-entries c =
    sym (longest_all c.entries.entries.items c.args.room (omega arith)) ∙ c.entries.invariant.same
