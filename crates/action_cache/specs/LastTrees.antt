-- Trees that a result names many times: the last time is enough.
use Rattle.std.specs.Prelude.{ℕ, Bool, true, false, ◌&&◌, is_some, List, [], ◌∷◌, ◌++◌, Option, Some, None, Result, Ok, Err, if◌then◌else◌}
use Rattle.std.specs.List.{list_any}
use Rattle.digest.specs.declared.Digest.{Digest}
use Rattle.digest.specs.Naming.{same_digest}
use Rattle.protobuf_wire.specs.declared.error.MessageError.{MessageError}
use Rattle.protobuf_wire.specs.Fields.{value_of_text}
use Rattle.tree_messages.specs.Results.{ActionResultValue, OutputDirectoryValue, action_result_of}
use Rattle.input_tree.specs.Directories.{written_digest}
use Rattle.input_tree.specs.Listing.{Lookup}
use Rattle.action_cache.specs.Complete.{and_then, with_each, with_output_file, with_output_directory, with_streams}

abbrev pub same_tree : Option Digest → Option Digest → Bool
same_tree (Some d) (Some e) = same_digest d e
same_tree (Some d) None = false
same_tree None e = false

-- whether two output directories are of one tree
abbrev pub are_of_one_tree : OutputDirectoryValue → OutputDirectoryValue → Bool
are_of_one_tree o p = same_tree (written_digest o.tree_digest) (written_digest p.tree_digest)

-- the last of those of each tree, in order
abbrev pub last_trees : List OutputDirectoryValue → List OutputDirectoryValue
last_trees [] = []
last_trees (o ∷ os) =
    if list_any (are_of_one_tree o) os then last_trees os else o ∷ last_trees os

-- the digests of the blobs that a result names, each tree with its files where it is named last
abbrev pub with_outputs_once : Lookup → Result ActionResultValue MessageError → Option (List Digest)
with_outputs_once look (Err e) = None
with_outputs_once look (Ok v) =
    and_then (with_each (with_output_file look) [] v.output_files)
    (λ files. and_then
    (with_each (with_output_directory look) files (last_trees v.output_directories))
    (λ all. with_streams look all v))

abbrev pub blobs_once : Lookup → List ℕ → Option (List Digest)
blobs_once look text = with_outputs_once look (value_of_text action_result_of text)

-- whether the tree of an output directory is there
abbrev pub is_there : Lookup → Option Digest → Bool
is_there look None = false
is_there look (Some d) = is_some (look d)

abbrev pub is_tree_there : Lookup → OutputDirectoryValue → Bool
is_tree_there look o = is_there look (written_digest o.tree_digest)

abbrev pub are_trees_there : Lookup → List OutputDirectoryValue → Bool
are_trees_there look [] = true
are_trees_there look (o ∷ os) = is_tree_there look o && are_trees_there look os

-- ---- by going along the outputs from the last to the first, with the trees that were met

abbrev pub is_among : List Digest → Option Digest → Bool
is_among met None = false
is_among met (Some d) = list_any (same_digest d) met

abbrev pub with_tree_met : List Digest → Option Digest → List Digest
with_tree_met met None = met
with_tree_met met (Some d) = if list_any (same_digest d) met then met else met ++ d ∷ []

abbrev pub is_met : List Digest → OutputDirectoryValue → Bool
is_met met o = is_among met (written_digest o.tree_digest)

abbrev pub with_met : List Digest → OutputDirectoryValue → List Digest
with_met met o = with_tree_met met (written_digest o.tree_digest)

abbrev pub met_from : List Digest → List OutputDirectoryValue → List Digest
met_from met [] = met
met_from met (o ∷ os) = with_met (met_from met os) o

abbrev pub unless_met : Bool → OutputDirectoryValue → List OutputDirectoryValue
unless_met is o = if is then [] else o ∷ []

abbrev pub kept_from : List Digest → List OutputDirectoryValue → List OutputDirectoryValue
kept_from met [] = []
kept_from met (o ∷ os) = kept_from met os ++ unless_met (is_met (met_from met os) o) o
