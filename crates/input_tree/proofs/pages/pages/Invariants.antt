use Rattle.std.proofs.Common.{◌≡◌, ◌+◌, ◌≤◌, [], ◌++◌, map, length}
use Rattle.input_tree.specs.Pages.{page_bytes, pages_along, texts}
use Rattle.instance_view.specs.Texts.{look_of}
use Rattle.input_tree.specs.Work.{texts_length}
use Rattle.input_tree.proofs.pages.pages.Given as goal

abbrev pub invariant-digests : goal.invariant-digests
invariant-digests l = record {
  pages_are : map (λ v. v.items) l.pages.items ++ pages_along l.size l.place (map (λ t. t.items) l.page.items)
      (texts (look_of l.seen) l.left) ≡ pages_along l.size l.fn.place [] (texts (look_of l.seen) l.digests);
  bytes_are : l.bytes ≡ page_bytes (map (λ t. t.items) l.page.items);
  none : length l.page.items ≡ 0 → l.bytes ≡ 0;
  places : l.place + length l.left ≡ l.fn.place + length l.digests;
  looks : l.work.looks + length l.left ≤ l.fn.work.looks + length l.digests;
  read : l.work.bytes + texts_length (look_of l.seen) l.left ≤ l.fn.work.bytes + texts_length (look_of l.seen) l.digests;
}

abbrev pub decreases-digests : goal.decreases-digests
decreases-digests l = length l.left
