-- Which directories are taken for input trees (remote_execution.proto, Directory).
use Rattle.std.specs.Prelude.{ℕ, Bool, List, map, Option, Some, None, Result, Ok, Err, is_some, nat_le, length, ◌&&◌, option_map, if◌then◌else◌}
use Rattle.std.specs.List.{list_all, filter_map}
use Rattle.protobuf_wire.specs.declared.error.MessageError.{MessageError}
use Rattle.protobuf_wire.specs.Fields.{value_of_text}
use Rattle.digest.specs.declared.Digest.{Digest}
use Rattle.digest.specs.Text.{digest_in}
use Rattle.reapi_messages.specs.Digests.{DigestValue}
use Rattle.tree_messages.specs.Directories.{DirectoryValue, DirectoryNodeValue, FileNodeValue, SymlinkNodeValue, directory_of}
use Rattle.input_tree.specs.declared.directory.TheConstants.{MOST_DIRECTORY_BYTES}
use Rattle.input_tree.specs.Names.{is_name, is_target, are_ordered}

-- the digest that a node writes, where it writes one
abbrev pub written_digest : Option DigestValue → Option Digest
written_digest None = None
written_digest (Some v) = digest_in v.hash v.size_bytes

abbrev pub is_file : FileNodeValue → Bool
is_file n = is_name n.name && is_some (written_digest n.digest)

abbrev pub is_child : DirectoryNodeValue → Bool
is_child n = is_name n.name && is_some (written_digest n.digest)

abbrev pub is_symlink : SymlinkNodeValue → Bool
is_symlink n = is_name n.name && is_target n.target

abbrev pub file_names : DirectoryValue → List (List ℕ)
file_names v = map (λ n. n.name) v.files

abbrev pub child_names : DirectoryValue → List (List ℕ)
child_names v = map (λ n. n.name) v.directories

abbrev pub symlink_names : DirectoryValue → List (List ℕ)
symlink_names v = map (λ n. n.name) v.symlinks

-- each node has its form
abbrev pub has_nodes : DirectoryValue → Bool
has_nodes v =
    list_all is_file v.files && (list_all is_child v.directories && list_all is_symlink v.symlinks)

abbrev pub has_order : DirectoryValue → Bool
has_order v = are_ordered (file_names v) (child_names v) (symlink_names v)

abbrev pub is_directory : DirectoryValue → Bool
is_directory v = has_nodes v && has_order v

-- ---- texts of directories

abbrev pub valid_directory : Result DirectoryValue MessageError → Option DirectoryValue
valid_directory (Ok v) = if is_directory v then Some v else None
valid_directory (Err e) = None

-- the directory that a text spells, where it has at most MOST_DIRECTORY_BYTES
abbrev pub directory_in : List ℕ → Option DirectoryValue
directory_in text =
    if nat_le (length text) MOST_DIRECTORY_BYTES
    then valid_directory (value_of_text directory_of text) else None

abbrev pub child_digest : DirectoryNodeValue → Option Digest
child_digest n = written_digest n.digest

-- the digests of the directories in a directory, in order
abbrev pub child_digests : DirectoryValue → List Digest
child_digests v = filter_map child_digest v.directories

abbrev pub children_in : List ℕ → Option (List Digest)
children_in text = option_map child_digests (directory_in text)
