-- Directories that are taken, with their digests as they are read from the text.
use Rattle.std.specs.Prelude.{ℕ, Bool, List, map, Option, option_map}
use Rattle.std.specs.List.{filter_map}
use Rattle.std.specs.Rc.{rc_str_bytes}
use Rattle.digest.specs.declared.Digest.{Digest}
use Rattle.tree_messages.specs.Directories.{DirectoryValue, DirectoryNodeValue, FileNodeValue, SymlinkNodeValue}
use Rattle.instance_view.specs.Texts.{Lookup}
use Rattle.input_tree.specs.Directories.{directory_in, written_digest}
use Rattle.input_tree.specs.declared.taken.FileTaken.{FileTaken}
use Rattle.input_tree.specs.declared.taken.ChildTaken.{ChildTaken}
use Rattle.input_tree.specs.declared.taken.LinkTaken.{LinkTaken}
use Rattle.input_tree.specs.declared.taken.DirectoryTaken.{DirectoryTaken}

pub record FileTakenValue : Type 0 where
  pub name : List ℕ
  pub digest : Digest
  pub is_executable : Bool

pub record ChildTakenValue : Type 0 where
  pub name : List ℕ
  pub digest : Digest

pub record DirectoryTakenValue : Type 0 where
  pub files : List FileTakenValue
  pub directories : List ChildTakenValue
  pub symlinks : List SymlinkNodeValue

abbrev pub file_taken : FileNodeValue → Option FileTakenValue
file_taken n =
    option_map (λ d. record { name = n.name; digest = d; is_executable = n.is_executable })
    (written_digest n.digest)

abbrev pub child_taken : DirectoryNodeValue → Option ChildTakenValue
child_taken n = option_map (λ d. record { name = n.name; digest = d }) (written_digest n.digest)

abbrev pub taken_of : DirectoryValue → DirectoryTakenValue
taken_of v = record {
  files = filter_map file_taken v.files;
  directories = filter_map child_taken v.directories;
  symlinks = v.symlinks;
}

-- what is taken of the directory that a text spells
abbrev pub directory_taken : List ℕ → Option DirectoryTakenValue
directory_taken text = option_map taken_of (directory_in text)

-- and of that of a digest, where its text is there
abbrev pub taken_at : Lookup → Digest → Option (Option DirectoryTakenValue)
taken_at look d = option_map directory_taken (look d)

-- ---- what is taken, as plain values

abbrev pub file_taken_shown : FileTaken → FileTakenValue
file_taken_shown n =
    record { name = rc_str_bytes n.name; digest = n.digest; is_executable = n.is_executable }

abbrev pub child_taken_shown : ChildTaken → ChildTakenValue
child_taken_shown n = record { name = rc_str_bytes n.name; digest = n.digest }

abbrev pub link_taken_shown : LinkTaken → SymlinkNodeValue
link_taken_shown n = record { name = rc_str_bytes n.name; target = rc_str_bytes n.target }

abbrev pub taken_shown : DirectoryTaken → DirectoryTakenValue
taken_shown t = record {
  files = map file_taken_shown t.files.items;
  directories = map child_taken_shown t.directories.items;
  symlinks = map link_taken_shown t.symlinks.items;
}
