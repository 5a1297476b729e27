-- What the code's values stand for while outputs are collected, and after.
use Rattle.std.specs.Prelude.{◌≡◌, ℕ, true, false, List, [], ◌∷◌, ◌++◌, map, Option, Some, None, string_bytes}
use Rattle.std.specs.List.{flat_map, list_all}
use Rattle.digest.specs.declared.Digest.{Digest}
use Rattle.instance_view.specs.Visible.{Blob}
use Rattle.tree_messages.specs.Results.{OutputDirectoryValue, OutputFileValue}
use Rattle.execution_messages.specs.Written.{written_shown}
use Rattle.outcomes.specs.declared.completion.BlobText.{BlobText}
use Rattle.outcomes.specs.declared.completion.BlobText.TheVariants as texts
use Rattle.outcomes.specs.declared.completion.OutputBlob.{OutputBlob}
use Rattle.outcomes.specs.declared.completion.Completion.{Completion}
use Rattle.outcomes.specs.declared.completion.Collection.{Collection}
use Rattle.outcomes.specs.declared.completion.NamedOutput.{NamedOutput}
use Rattle.outcomes.specs.declared.completion.NamedTree.{NamedTree}
use Rattle.run_calls.specs.Outcomes.{OutputValue}
use Rattle.outcomes.specs.Results.{CompletionValue, file_blobs, file_results, is_output, tree_blobs, tree_results}

abbrev pub blob_text : BlobText → List ℕ
blob_text (texts.Draft draft) = draft.text
blob_text (texts.Bytes bytes) = bytes.items

abbrev pub blob_shown : OutputBlob → Blob
blob_shown b = (b.digest, blob_text b.text)

abbrev pub completion_shown : Completion → CompletionValue
completion_shown c =
    record { blobs = map blob_shown c.blobs.items; result = c.result.items }

-- ---- for the code alone

abbrev pub named_output_shown : NamedOutput → OutputFileValue
named_output_shown f = record {
  path = string_bytes f.path;
  digest = Some (written_shown f.digest);
  is_executable = f.is_executable;
}

abbrev pub named_tree_shown : NamedTree → OutputDirectoryValue
named_tree_shown t =
    record { path = string_bytes t.path; tree_digest = Some (written_shown t.digest) }

-- what is collected, as plain lists
pub record CollectionValue : Type 0 where
  pub files : List OutputFileValue
  pub trees : List OutputDirectoryValue
  pub file_blobs : List Blob
  pub tree_blobs : List Blob

abbrev pub collection_shown : Collection → CollectionValue
collection_shown c = record {
  files = map named_output_shown c.files.items;
  trees = map named_tree_shown c.trees.items;
  file_blobs = map blob_shown c.file_blobs.items;
  tree_blobs = map blob_shown c.tree_blobs.items;
}

abbrev pub with_output : Digest → CollectionValue → OutputValue → CollectionValue
with_output like c o = record {
  files = c.files ++ file_results like o;
  trees = c.trees ++ tree_results like o;
  file_blobs = c.file_blobs ++ file_blobs like o;
  tree_blobs = c.tree_blobs ++ tree_blobs like o;
}

-- an output goes last
abbrev pub Collects : Digest → OutputValue → Collection → Collection → Type 0
Collects like o before after =
    collection_shown after ≡ with_output like (collection_shown before) o

abbrev pub with_outputs : Digest → CollectionValue → List OutputValue → CollectionValue
with_outputs like c [] = c
with_outputs like c (o ∷ os) = with_outputs like (with_output like c o) os

abbrev pub no_outputs : CollectionValue
no_outputs = record { files = []; trees = []; file_blobs = []; tree_blobs = [] }

-- all outputs are taken and collected, or one is not taken
abbrev pub IsCollected : Digest → List OutputValue → Option Collection → Type 0
IsCollected like outputs None = list_all (is_output like) outputs ≡ false
IsCollected like outputs (Some c) =
    (list_all (is_output like) outputs ≡ true)
    × (collection_shown c ≡ with_outputs like no_outputs outputs)
