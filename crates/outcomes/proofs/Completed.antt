-- What a run comes to.
use Rattle.std.proofs.Common.{◌≡◌, ℕ, Bool, true, false, ◌&&◌, List, ◌∷◌, ◌++◌, length, map, nat_le, Some, None, refl, sym, ap, ◌∙◌}
use Rattle.std.specs.List.{flat_map, list_all}
use Rattle.digest.specs.declared.Digest.{Digest}
use Rattle.input_tree.specs.Directories.{is_directory}
use Rattle.instance_view.specs.Visible.{Blob}
use Rattle.protobuf_wire.specs.Parts.{text_for}
use Rattle.tree_messages.specs.Directories.{DirectoryValue, tree_records}
use Rattle.tree_messages.specs.Results.{OutputDirectoryValue, OutputFileValue, action_result_records}
use Rattle.actions.specs.Commands.{AskedOutput}
use Rattle.outcomes.specs.Asked.{are_asked}
use Rattle.outcomes.specs.Completing.{CollectionValue, no_outputs, with_outputs}
use Rattle.run_calls.specs.Outcomes.{ExitedValue, OutputNodeValue}
use Rattle.outcomes.specs.Results.{completion_of, file_blobs, file_results, is_output, result_with, stream_blobs, stream_digest, tree_blobs, tree_results}
use Rattle.std.proofs.lemmas.Bool.{and_parts}
use Rattle.actions.specs.declared.walking.TheConstants.{MOST_NODES}
use Rattle.outcomes.specs.declared.gathering.Gathering.{Gathering}
use Rattle.outcomes.specs.Gathering.{IsGathered, down_to, open_shown}
use Rattle.outcomes.specs.Trees.{are_walked, below_root, children_of, is_shallow, keeps_walk, root_of}
use Rattle.outcomes.specs.TreeOf.{tree_of}
use Rattle.outcomes.proofs.Gathered.{root_found}
use Rattle.outcomes.proofs.Walked.{first_low}
use Rattle.outcomes.proofs.Collected.{all_collected}

-- ---- trees

pub tree_found : (like : Digest) (nodes : List OutputNodeValue) (root : DirectoryValue) (children : List DirectoryValue) (text : List ℕ) →
    keeps_walk nodes ≡ true → root ≡ root_of like nodes → is_directory root ≡ true → list_all is_directory (below_root like nodes) ≡ true →
    children ≡ children_of like nodes → text ≡ text_for tree_records (record { root = Some root; children = children }) →
    Some text ≡ tree_of like nodes
tree_found like nodes root children text walk is taken below all written =
    let top : is_directory (root_of like nodes) ≡ true = ap is_directory (sym is) ∙ taken in
    ap (λ (t : List ℕ). Some t) (written
    ∙ ap (λ (v : DirectoryValue). text_for tree_records (record { root = Some v; children = children })) is
    ∙ ap (λ (vs : List DirectoryValue). text_for tree_records (record { root = Some (root_of like nodes); children = vs })) all)
    ∙ rw (walk, top, below) refl

pub no_root : (like : Digest) (nodes : List OutputNodeValue) (root : DirectoryValue) → keeps_walk nodes ≡ true → root ≡ root_of like nodes →
    is_directory root ≡ false → None ≡ tree_of like nodes
no_root like nodes root walk is not_taken =
    let denied : is_directory (root_of like nodes) ≡ false = ap is_directory (sym is) ∙ not_taken in
    rw (walk, denied) refl

pub no_below : (like : Digest) (nodes : List OutputNodeValue) → keeps_walk nodes ≡ true →
    list_all is_directory (below_root like nodes) ≡ false → None ≡ tree_of like nodes
no_below like nodes walk denied = go (is_directory (root_of like nodes)) refl where
  go : (b : Bool) → is_directory (root_of like nodes) ≡ b → None ≡ tree_of like nodes
  go true is = rw (walk, is, denied) refl
  go false is = rw (walk, is) refl

walked : (nodes : List OutputNodeValue) → keeps_walk nodes ≡ true → are_walked 1 nodes ≡ true
walked nodes h = (and_parts (list_all is_shallow nodes) (are_walked 1 nodes)
    (and_parts (nat_le (length nodes) MOST_NODES) (list_all is_shallow nodes && are_walked 1 nodes) h).1).1

pub root_is : (like : Digest) (nodes : List OutputNodeValue) (g : Gathering) (v u : DirectoryValue) (rest : List DirectoryValue) →
    keeps_walk nodes ≡ true → IsGathered like g nodes → u ≡ v → v ∷ rest ≡ down_to 1 (map open_shown g.going.items) → u ≡ root_of like nodes
root_is like nodes g v u rest walk gathered same is =
    same ∙ root_found like nodes g v rest gathered (first_low 1 nodes (walked nodes walk)) is

pub no_walk : (like : Digest) (nodes : List OutputNodeValue) → keeps_walk nodes ≡ false → None ≡ tree_of like nodes
no_walk like nodes denied = rw denied refl

-- ---- runs

pub completed : (like : Digest) (asked : List AskedOutput) (x : ExitedValue) (c : CollectionValue) (blobs : List Blob) (result : List ℕ) →
    are_asked asked x.outputs ≡ true → list_all (is_output like) x.outputs ≡ true → c ≡ with_outputs like no_outputs x.outputs →
    result ≡ text_for action_result_records (result_with x.code c.files c.trees (stream_digest like x.stdout)
    (stream_digest like x.stderr)) → blobs ≡ c.file_blobs ++ c.tree_blobs ++ stream_blobs like x.stdout ++ stream_blobs like x.stderr →
    Some (record { blobs = blobs; result = result }) ≡ completion_of like asked x
completed like asked x c blobs result known taken is written joined =
    let all = all_collected like x.outputs c is in
    let text : result ≡ text_for action_result_records
    (result_with x.code (flat_map (file_results like) x.outputs) (flat_map (tree_results like) x.outputs) (stream_digest like x.stdout)
    (stream_digest like x.stderr)) =
    written
    ∙ ap (λ (fs : List OutputFileValue). text_for action_result_records
    (result_with x.code fs c.trees (stream_digest like x.stdout) (stream_digest like x.stderr))) all.files
    ∙ ap (λ (ts : List OutputDirectoryValue). text_for action_result_records
    (result_with x.code (flat_map (file_results like) x.outputs) ts (stream_digest like x.stdout) (stream_digest like x.stderr)))
    all.trees in
    let bytes : blobs ≡ flat_map (file_blobs like) x.outputs ++ flat_map (tree_blobs like) x.outputs ++ stream_blobs like x.stdout
    ++ stream_blobs like x.stderr =
    joined
    ∙ ap (λ (bs : List Blob). bs ++ c.tree_blobs ++ stream_blobs like x.stdout ++ stream_blobs like x.stderr) all.blobs_of_files
    ∙ ap (λ (bs : List Blob). flat_map (file_blobs like) x.outputs ++ bs ++ stream_blobs like x.stdout ++ stream_blobs like x.stderr)
    all.blobs_of_trees in
    ap (λ (bs : List Blob). Some (record { blobs = bs; result = result })) bytes
    ∙ ap (λ (t : List ℕ). Some (record {
      blobs = flat_map (file_blobs like) x.outputs ++ flat_map (tree_blobs like) x.outputs
          ++ stream_blobs like x.stdout ++ stream_blobs like x.stderr;
      result = t;
    })) text
    ∙ rw (known, taken) refl

pub not_asked : (like : Digest) (asked : List AskedOutput) (x : ExitedValue) → are_asked asked x.outputs ≡ false →
    None ≡ completion_of like asked x
not_asked like asked x denied = rw denied refl

pub not_taken : (like : Digest) (asked : List AskedOutput) (x : ExitedValue) → are_asked asked x.outputs ≡ true →
    list_all (is_output like) x.outputs ≡ false → None ≡ completion_of like asked x
not_taken like asked x known denied = rw (known, denied) refl
