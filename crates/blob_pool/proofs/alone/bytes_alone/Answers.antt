use Rattle.std.proofs.Common.{◌≡◌, ◌≤◌, ◌<◌, ◌-◌, ◌^◌, ◌==◌, ◌∙◌, ℕ, List, Some, None, sym, ap, subst, arith, rules, cond, length, take, drop, leb}
use Rattle.std.specs.Prelude.{slice_get}
use Rattle.std.specs.List.Sorted.{IsNonDecreasing}
use Rattle.std.proofs.lemmas.List.{take_rest}
use Rattle.std.proofs.lemmas.List.Sorted.{IsNonDecreasingBy-from_sort, IsNonDecreasingBy-drop, IsPartitionPoint-from_clause, IsPartitionedBy-leb}
use Rattle.std.proofs.lemmas.Option.{slice_get_within}
use Rattle.blob_pool.specs.Slots.{text_at, count_at}
use Rattle.blob_pool.specs.Alone.{bytes_alone, holders_at}
use Rattle.blob_pool.proofs.HeldAlone.{alone_sorted, alone_next, alone_over, next_some, if_short, drop_less}
use Rattle.blob_pool.proofs.alone.bytes_alone.Goals as goal

pub texts-init : goal.texts-init
texts-init c = record {
  rising = subst (λ (ns : List ℕ). IsNonDecreasing ns) (sym c.as_slice-rest.ensures.value)
      (IsNonDecreasingBy-from_sort (λ (n : ℕ). n) _ c.sort_unstable.ensures.sorted);
  sum = omega (
    arith,
    alone_sorted c.args.slots.now.slots c.args.holders.items _ c.as_slice-rest.result.now
        c.sort_unstable.ensures.permutation c.as_slice-rest.ensures.value,
  );
  few = omega (arith, c.as_slice-rest.type_inv.1);
  size = c.as_slice-rest.type_inv.1;
}

pub overflow_add-bytes : goal.overflow_add-bytes
overflow_add-bytes c =
    let xs : List ℕ = c.texts.rest.now in
    let n : ℕ = c.partition_point-count.result in
    let head : slice_get xs 0 ≡ Some c.in-Some.slot = sym c.first.ensures.value ∙ sym c.copied.ensures ∙ c.in-Some.is in
    let within : cond (count_at c.args.slots.now.slots c.in-Some.slot == n)
    (length (text_at c.args.slots.now.slots c.in-Some.slot)) 0 ≤ 2 ^ 48 = if_short _ _ (2 ^ 48) (c.requires.short c.in-Some.slot) in
    omega (arith, c.bytes_if_held_by-bytes.ensures, within, c.texts.invariant.few, slice_get_within xs 0 c.in-Some.slot head)

pub offset_bounds-rest-count : goal.offset_bounds-rest-count
offset_bounds-rest-count c = omega (arith, c.partition_point-count.ensures.bound, c.texts.invariant.size)

pub texts-smaller : goal.texts-smaller
texts-smaller c =
    let xs : List ℕ = c.texts.rest.now in
    let n : ℕ = c.partition_point-count.result in
    let head : slice_get xs 0 ≡ Some c.in-Some.slot = sym c.first.ensures.value ∙ sym c.copied.ensures ∙ c.in-Some.is in
    let point = IsPartitionPoint-from_clause (λ (m : ℕ). leb m c.in-Some.slot) _ _ c.partition_point-count.ensures.partitioned
    (IsPartitionedBy-leb (λ (m : ℕ). m) xs c.in-Some.slot c.texts.invariant.rising) (λ a r q k. search rules) in
    let less = drop_less n xs (next_some xs n c.in-Some.slot head point) (slice_get_within xs 0 c.in-Some.slot head) in
    subst (λ (ns : List ℕ). length ns < length xs) (sym (take_rest xs n)) less

pub texts-preserved : goal.texts-preserved
texts-preserved c =
    let xs : List ℕ = c.texts.rest.now in
    let n : ℕ = c.partition_point-count.result in
    let head : slice_get xs 0 ≡ Some c.in-Some.slot = sym c.first.ensures.value ∙ sym c.copied.ensures ∙ c.in-Some.is in
    let within : cond (count_at c.args.slots.now.slots c.in-Some.slot == n)
    (length (text_at c.args.slots.now.slots c.in-Some.slot)) 0 ≤ 2 ^ 48 = if_short _ _ (2 ^ 48) (c.requires.short c.in-Some.slot) in
    let point = IsPartitionPoint-from_clause (λ (m : ℕ). leb m c.in-Some.slot) _ _ c.partition_point-count.ensures.partitioned
    (IsPartitionedBy-leb (λ (m : ℕ). m) xs c.in-Some.slot c.texts.invariant.rising) (λ a r q k. search rules) in
    let less = drop_less n xs (next_some xs n c.in-Some.slot head point) (slice_get_within xs 0 c.in-Some.slot head) in
    let rest = sym (take_rest xs n) in
    let size : length (take (length xs - n) (drop n xs)) ≡ length (drop n xs) = ap length (take_rest xs n) in
    let next = alone_next c.args.slots.now.slots xs n c.in-Some.slot c.requires.held c.texts.invariant.rising head
    c.partition_point-count.ensures.bound point in
    let left = ap (λ (ns : List ℕ). bytes_alone (holders_at ns) 0 c.args.slots.now.slots) (take_rest xs n) in
    record {
      rising = subst (λ (ns : List ℕ). IsNonDecreasing ns) rest (IsNonDecreasingBy-drop (λ (m : ℕ). m) n xs c.texts.invariant.rising);
      sum = omega (arith, c.texts.invariant.sum, next, left, c.bytes_if_held_by-bytes.ensures);
      few = omega (arith, c.texts.invariant.few, c.bytes_if_held_by-bytes.ensures, within, size, less);
      size = omega (arith, c.texts.invariant.size, size, less);
    }

pub returns : goal.returns
returns c =
    let over : slice_get c.texts.rest.now 0 ≡ None = sym (c.in_default.ensures ∙ c.first.ensures.value) in
    omega (arith, c.texts.invariant.sum, alone_over c.args.slots.now.slots c.texts.rest.now over c.requires.held)
