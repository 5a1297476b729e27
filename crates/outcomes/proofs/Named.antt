-- Each blob that a run leaves is what its digest says.
use Rattle.std.proofs.Common.{◌≡◌, ℕ, Bool, true, false, List, [], ◌∷◌, ◌++◌, length, nat_lt, ◌==◌, Result, Ok, Err, refl, sym, ap, subst}
use Rattle.std.specs.Prelude.{map, IfOk}
use Rattle.std.specs.List.{AllByRecursion, flat_map}
use Rattle.digest.specs.declared.Digest.{Digest}
use Rattle.digest.specs.Naming.{Names, function_of, hash_by}
use Rattle.digest.proofs.Same.{function_again}
use Rattle.instance_view.specs.Visible.{Blob}
use Rattle.outcomes.specs.Completing.{blob_shown}
use Rattle.outcomes.specs.Naming.{digest_like}
use Rattle.run_calls.specs.Outcomes.{ExitedValue, NodeKindValue, OutcomeValue, OutputNodeValue, OutputValue, as_directory, as_file, exited, failed, output_file, output_tree}
use Rattle.outcomes.specs.Results.{CompletionValue, are_outputs, blobs_given, file_blobs, fresh_bytes, node_blob, node_blobs, result_text, stream_blobs, tree_blobs}
use Rattle.outcomes.specs.Trees.{tree_text}
use Rattle.execution.specs.Job.{JobValue}
use Rattle.outcomes.specs.declared.ending.Ending.{Ending}
use Rattle.outcomes.specs.Ending.{EndingValue, completed, ending, outputs_asked}
use Rattle.outcomes.specs.Endings.{ending_shown}

abbrev pub AllNamed : List Blob → Type 0
AllNamed bs = AllByRecursion (λ (b : Blob). Names b.0 b.1) bs

named_like : (like : Digest) (text : List ℕ) → Names (digest_like like text) text
named_like like text = record { hash = sym (ap (λ f. hash_by f text) (function_again (function_of like.hash) text)); size = refl }

joined : (bs cs : List Blob) → AllNamed bs → AllNamed cs → AllNamed (bs ++ cs)
joined [] cs h i = i
joined (b ∷ bs) cs h i = (h.0, joined bs cs h.1 i)

mapped : {V : Type 0} (f : V → List Blob) (vs : List V) → ((v : V) → AllNamed (f v)) → AllNamed (flat_map f vs)
mapped f [] named = tt
mapped f (v ∷ vs) named = joined (f v) (flat_map f vs) (named v) (mapped f vs named)

file_named : (like : Digest) (o : OutputValue) → AllNamed (file_blobs like o)
file_named like (output_file path text is_executable) = (named_like like text, tt)
file_named like (output_tree path nodes) = tt

kind_named : (like : Digest) (kind : NodeKindValue) → AllNamed (node_blob like kind)
kind_named like (as_file text is_executable) = (named_like like text, tt)
kind_named like as_directory = tt

nodes_named : (like : Digest) (nodes : List OutputNodeValue) → AllNamed (node_blobs like nodes)
nodes_named like nodes = mapped (λ (n : OutputNodeValue). node_blob like n.kind) nodes (λ n. kind_named like n.kind)

tree_named : (like : Digest) (o : OutputValue) → AllNamed (tree_blobs like o)
tree_named like (output_file path text is_executable) = tt
tree_named like (output_tree path nodes) = joined (node_blobs like nodes) _ (nodes_named like nodes)
    (named_like like (tree_text like nodes), tt)

stream_named : (like : Digest) (text : List ℕ) → AllNamed (stream_blobs like text)
stream_named like text = go (length text == 0) refl where
  go : (b : Bool) → (length text == 0) ≡ b → AllNamed (stream_blobs like text)
  go true is = rw is tt
  go false is = rw is (named_like like text, tt)

given_named : (like : Digest) (x : ExitedValue) → AllNamed (blobs_given like x)
given_named like x =
    let files = mapped (file_blobs like) x.outputs (file_named like) in
    let trees = mapped (tree_blobs like) x.outputs (tree_named like) in
    joined (flat_map (file_blobs like) x.outputs ++ flat_map (tree_blobs like) x.outputs ++ stream_blobs like x.stdout)
    (stream_blobs like x.stderr)
    (joined (flat_map (file_blobs like) x.outputs ++ flat_map (tree_blobs like) x.outputs) (stream_blobs like x.stdout)
    (joined (flat_map (file_blobs like) x.outputs) (flat_map (tree_blobs like) x.outputs) files trees)
    (stream_named like x.stdout))
    (stream_named like x.stderr)

completed_named : (quota : ℕ) (visible : List Blob) (job : JobValue) (x : ExitedValue) (c : CompletionValue) → AllNamed c.blobs →
    AllNamed (completed quota visible job x.code c).blobs
completed_named quota visible job x c named = go (nat_lt quota (fresh_bytes visible c.blobs)) refl where
  go : (b : Bool) → nat_lt quota (fresh_bytes visible c.blobs) ≡ b → AllNamed (completed quota visible job x.code c).blobs
  go true is = rw is tt
  go false is = rw is named

pub ending_named : (quota : ℕ) (visible : List Blob) (job : JobValue) (outcome : OutcomeValue) →
    AllNamed (ending quota visible job outcome).blobs
ending_named quota visible job failed = tt
ending_named quota visible job (exited x) = go (are_outputs job.action (outputs_asked job) x.outputs) refl where
  go : (b : Bool) → are_outputs job.action (outputs_asked job) x.outputs ≡ b → AllNamed (ending quota visible job (exited x)).blobs
  go true is = rw is (completed_named quota visible job x (record { blobs = blobs_given job.action x; result = result_text job.action x })
      (given_named job.action x))
  go false is = rw is tt

pub run_named : {E : Type 0} (quota : ℕ) (visible : List Blob) (job : JobValue) (outcome : OutcomeValue) (r : Result Ending E) →
    IfOk r (λ e. ending_shown e ≡ ending quota visible job outcome) → IfOk r (λ e. AllNamed (map blob_shown e.blobs.items))
run_named quota visible job outcome (Ok e) is =
    subst (λ (v : EndingValue). AllNamed v.blobs) (sym is) (ending_named quota visible job outcome)
run_named quota visible job outcome (Err e) is = tt
