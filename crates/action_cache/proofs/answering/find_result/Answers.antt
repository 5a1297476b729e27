use Rattle.std.proofs.Common.{◌≡◌, ℕ, List, Option, None, Some, ap, sym, ◌∙◌, rules}
use Rattle.std.specs.Map.{lookup}
use Rattle.digest.specs.declared.Digest.{Digest}
use Rattle.digest.specs.Naming.{same_digest}
use Rattle.input_tree.specs.Texts.{texts_of}
use Rattle.action_cache.specs.Complete.{and_then}
use Rattle.action_cache.specs.LastTrees.{blobs_once}
use Rattle.action_cache.proofs.Found.{blobs_are_found, none_is_found, none_same, text_is_found}
use Rattle.action_cache.proofs.answering.find_result.Goals as goal

pub returns-in_default-2-clause-text : goal.returns-in_default-2-clause-text
returns-in_default-2-clause-text c =
    let look = texts_of c.args.pool.now c.args.view.now in
    let stored : lookup (same_digest c.args.action.now) c.args.results.now ≡ Some c.in-Some.text.now = search rules in
    let nothing : blobs_once look c.in-Some.text.now ≡ None = search rules in
    sym (ap (λ (o : Option (List Digest)). and_then o (λ _. lookup (same_digest c.args.action.now) c.args.results.now))
    (none_is_found look c.args.action.now c.args.results.now c.in-Some.text.now stored nothing))

pub returns-in_default-2-clause-blobs : goal.returns-in_default-2-clause-blobs
returns-in_default-2-clause-blobs c =
    let look = texts_of c.args.pool.now c.args.view.now in
    let stored : lookup (same_digest c.args.action.now) c.args.results.now ≡ Some c.in-Some.text.now = search rules in
    let nothing : blobs_once look c.in-Some.text.now ≡ None = search rules in
    none_same look c.args.action.now c.args.results.now c.in-Some.text.now stored nothing

pub returns-clause-text : goal.returns-clause-text
returns-clause-text c =
    let look = texts_of c.args.pool.now c.args.view.now in
    let stored : lookup (same_digest c.args.action.now) c.args.results.now ≡ Some c.in-Some.text.now = search rules in
    let named : blobs_once look c.in-Some.text.now ≡ Some c.in-Some-2.blobs.items = search rules in
    let same = blobs_are_found look c.args.action.now c.args.results.now c.in-Some.text.now c.in-Some-2.blobs.items stored named in
    ap (λ (t : List ℕ). Some t) c.in_ok-text.ensures.items
    ∙ sym (text_is_found look c.args.action.now c.args.results.now c.in-Some.text.now c.in-Some-2.blobs.items stored same)

pub returns-clause-blobs : goal.returns-clause-blobs
returns-clause-blobs c =
    let look = texts_of c.args.pool.now c.args.view.now in
    let stored : lookup (same_digest c.args.action.now) c.args.results.now ≡ Some c.in-Some.text.now = search rules in
    let named : blobs_once look c.in-Some.text.now ≡ Some c.in-Some-2.blobs.items = search rules in
    blobs_are_found look c.args.action.now c.args.results.now c.in-Some.text.now c.in-Some-2.blobs.items stored named
