-- What a run comes to: the outputs that are taken, the blobs that it leaves, and its ActionResult
-- (remote_execution.proto, ActionResult).
use Rattle.std.specs.Prelude.{ℕ, ◌+◌, ℤ, Bool, true, List, [], ◌∷◌, ◌++◌, length, map, filter, not, is_some, ◌==◌, ◌&&◌, Option, Some, None, if◌then◌else◌}
use Rattle.std.specs.List.{filter_map, flat_map, list_all}
use Rattle.protobuf_wire.specs.Parts.{text_for}
use Rattle.digest.specs.declared.Digest.{Digest}
use Rattle.instance_view.specs.Visible.{Blob, visible_text}
use Rattle.reapi_messages.specs.Digests.{DigestValue}
use Rattle.tree_messages.specs.Results.{ActionResultValue, OutputDirectoryValue, OutputFileValue, action_result_records}
use Rattle.execution_messages.specs.Statuses.{distinct}
use Rattle.actions.specs.Commands.{AskedOutput}
use Rattle.outcomes.specs.Asked.{are_asked}
use Rattle.outcomes.specs.Naming.{blob_like, written_like}
use Rattle.run_calls.specs.Outcomes.{ExitedValue, NodeKindValue, OutputNodeValue, OutputValue, as_directory, as_file, output_file, output_tree}
use Rattle.outcomes.specs.Trees.{is_tree, tree_text}

-- ---- outputs that are taken

abbrev pub is_output : Digest → OutputValue → Bool
is_output like (output_file path text is_executable) = true
is_output like (output_tree path nodes) = is_tree like nodes

-- what was given is what was asked for, and its trees are taken
abbrev pub are_outputs : Digest → List AskedOutput → List OutputValue → Bool
are_outputs like asked outputs = are_asked asked outputs && list_all (is_output like) outputs

-- ---- blobs, in the order in which they are admitted

abbrev pub file_blobs : Digest → OutputValue → List Blob
file_blobs like (output_file path text is_executable) = blob_like like text ∷ []
file_blobs like (output_tree path nodes) = []

abbrev pub node_blob : Digest → NodeKindValue → List Blob
node_blob like (as_file text is_executable) = blob_like like text ∷ []
node_blob like as_directory = []

abbrev pub node_blobs : Digest → List OutputNodeValue → List Blob
node_blobs like nodes = flat_map (λ n. node_blob like n.kind) nodes

-- of an output directory its files in walk order, and then its Tree
abbrev pub tree_blobs : Digest → OutputValue → List Blob
tree_blobs like (output_file path text is_executable) = []
tree_blobs like (output_tree path nodes) =
    node_blobs like nodes ++ blob_like like (tree_text like nodes) ∷ []

-- what was written to a stream, unless that is nothing
abbrev pub stream_blobs : Digest → List ℕ → List Blob
stream_blobs like text = if length text == 0 then [] else blob_like like text ∷ []

-- the output files, then the output directories, then what was written to the streams
abbrev pub blobs_given : Digest → ExitedValue → List Blob
blobs_given like x =
    flat_map (file_blobs like) x.outputs ++ flat_map (tree_blobs like) x.outputs
    ++ stream_blobs like x.stdout ++ stream_blobs like x.stderr

-- ---- the result

abbrev pub file_results : Digest → OutputValue → List OutputFileValue
file_results like (output_file path text is_executable) = record {
  path = path;
  digest = Some (written_like like text);
  is_executable = is_executable;
} ∷ []
file_results like (output_tree path nodes) = []

abbrev pub tree_results : Digest → OutputValue → List OutputDirectoryValue
tree_results like (output_file path text is_executable) = []
tree_results like (output_tree path nodes) =
    record { path = path; tree_digest = Some (written_like like (tree_text like nodes)) } ∷ []

abbrev pub stream_digest : Digest → List ℕ → Option DigestValue
stream_digest like text = if length text == 0 then None else Some (written_like like text)

-- with these files, directories and digests of what was written to the streams
abbrev pub result_with : ℤ → List OutputFileValue → List OutputDirectoryValue →
    Option DigestValue → Option DigestValue → ActionResultValue
result_with code files trees stdout stderr = record {
  output_files = files;
  output_directories = trees;
  exit_code = code;
  stdout_raw = [];
  stdout_digest = stdout;
  stderr_raw = [];
  stderr_digest = stderr;
}

-- the outputs and what was written to the streams are named by their digests
abbrev pub result_of : Digest → ExitedValue → ActionResultValue
result_of like x =
    result_with x.code (flat_map (file_results like) x.outputs)
    (flat_map (tree_results like) x.outputs) (stream_digest like x.stdout)
    (stream_digest like x.stderr)

abbrev pub result_text : Digest → ExitedValue → List ℕ
result_text like x = text_for action_result_records (result_of like x)

-- ---- both

-- the blobs to admit, and the text of the result
pub record CompletionValue : Type 0 where
  pub blobs : List Blob
  pub result : List ℕ

-- what a run comes to whose outputs are taken
abbrev pub completion_of : Digest → List AskedOutput → ExitedValue → Option CompletionValue
completion_of like asked x =
    if are_outputs like asked x.outputs
    then Some (record { blobs = blobs_given like x; result = result_text like x }) else None

-- ---- the quota

-- the sizes of the distinct blobs of these digests that are not there, together
abbrev pub sizes_of : List Digest → ℕ
sizes_of [] = 0
sizes_of (d ∷ ds) = d.size + sizes_of ds

abbrev pub fresh_bytes : List Blob → List Blob → ℕ
fresh_bytes visible blobs =
    sizes_of (filter (λ d. not (is_some (visible_text d visible)))
    (distinct (map (λ (b : Blob). b.0) blobs)))
