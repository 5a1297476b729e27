use Rattle.std.proofs.Common.{◌≡◌, ◌+◌, ℕ, List, ◌∷◌, [], ◌++◌, map, length, is_some, arith, refl, rules, sym, ap, ◌∙◌}
use Rattle.std.proofs.lemmas.List.{map-append, length-map}
use Rattle.input_tree.specs.Pages.{page_before, page_bytes, page_from, takes, takes_more, text_or_none}
use Rattle.instance_view.specs.Texts.{look_of}
use Rattle.input_tree.proofs.Lengths.{texts_next}
use Rattle.input_tree.proofs.Paging.{bytes_kept, pages_next, taken}
use Rattle.input_tree.proofs.pages.pages.Goals as goal

pub digests-preserved : goal.digests-preserved
digests-preserved c =
    let size = c.args.size in
    let page : List (List ℕ) = map (λ t. t.items) c.digests.page.items in
    let t : List ℕ = c.in_ok-text.text.items in
    let seen : t ≡ text_or_none (look_of c.args.seen.now) _ = c.in_ok-text.ensures.text in
    let more : c.in_ok-more.more ≡ page_bytes (t ∷ []) = search rules in
    let items : c.len.result ≡ length c.digests.page.items = search rules in
    let count : c.len.result ≡ length page = items ∙ sym (length-map c.digests.page.items (λ t. t.items)) in
    let same : takes_more size c.len.result c.digests.bytes c.in_ok-more.more ≡ takes size page t =
    rw (count, c.digests.invariant.bytes_are, more) refl in
    let goes_on : c.is_some.result ≡ takes size page t =
    c.is_some.ensures ∙ ap is_some c.bytes_with-total.ensures
    ∙ taken (takes_more size c.len.result c.digests.bytes c.in_ok-more.more) (c.digests.bytes + c.in_ok-more.more) ∙ same in
    let closed : map (λ p. p.items) c.page_for.new.pages.items ≡ map (λ p. p.items) c.digests.pages.items
    ++ page_before (takes size page t) c.digests.place page = search (rules, goes_on) in
    let kept : map (λ t. t.items) c.push.new.self.items ≡ page_from (takes size page t) page ++ t ∷ [] =
    ap (map (λ t. t.items)) c.in_ok-push.ensures.items ∙ map-append (λ t. t.items) c.in_ok-page.page.items (c.in_ok-text.text ∷ [])
    ∙ rw (c.in_ok-page.ensures.page, goes_on) refl in
    record {
      pages_are = pages_next (text_or_none (look_of c.args.seen.now)) size c.digests.place _ page _ _ _ c.digests.left.now
          _ _ t (omega arith) seen refl c.digests.invariant.pages_are closed kept;
      bytes_are = search (rules, bytes_kept);
      none = search rules;
      places = omega arith;
      looks = omega (arith, c.text_or_none.ensures.looks);
      read = omega (
        arith,
        c.digests.invariant.read,
        texts_next (look_of c.args.seen.now) c.digests.left.now _ _ _ _ (omega arith)
            refl c.text_or_none.ensures.bytes,
      );
    }
