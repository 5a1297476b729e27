-- What is gathered: files and directories, and the bytes of files, to the end of each.
use Rattle.std.specs.Prelude.{ℕ, zero, suc, ◌+◌, ◌-◌, Bool, List, [], ◌∷◌, ◌++◌, take, length, string_bytes, Option, Some, None, Result, Ok, Err}
use Rattle.run_calls.specs.declared.folder.Found.{Found}
use Rattle.run_calls.specs.declared.folder.Found.TheVariants as founds
use Rattle.run_calls.specs.declared.folder.FileFacts.{FileFacts}
use Rattle.run_calls.specs.declared.outcome.OutputNodeKind.{OutputNodeKind}
use Rattle.run_calls.specs.declared.outcome.OutputNodeKind.TheVariants as node_kinds
use Rattle.run_calls.specs.declared.outcome.OutputNode.{OutputNode}
use Rattle.run_calls.specs.declared.outcome.OutputKind.{OutputKind}
use Rattle.run_calls.specs.declared.outcome.OutputKind.TheVariants as kinds
use Rattle.run_calls.specs.declared.outcome.Output.{Output}
use Rattle.run_calls.specs.Values.{PlaceValue}
use Rattle.runner.specs.Made.{names_at}
use Rattle.std.specs.declared.io.ErrorKind.{ErrorKind}
use Rattle.run_calls.specs.Calls.{FolderCall, FolderQuestion, FolderAnswer, root_asked, node_asked, text_asked, directory_asked, parents_asked, look_asked, file_asked, list_asked, bytes_asked, removal_asked, found, facts, entries, file_bytes, collect}

-- of a run, at the path of an output and the names below it
pub data ItemValue : Type 0 where
  -- a file, and whether it may be executed
  file_item : PlaceValue → List ℕ → List (List ℕ) → Bool → ItemValue
  -- the byte of a file at a place in it
  byte_at : PlaceValue → List ℕ → List (List ℕ) → ℕ → ℕ → ItemValue
  -- nothing more is in a file from a place on
  end_item : PlaceValue → List ℕ → List (List ℕ) → ℕ → ItemValue
  -- an output is a directory
  found_item : PlaceValue → List ℕ → ItemValue
  -- a directory was listed
  directory_item : PlaceValue → List ℕ → List (List ℕ) → ItemValue

-- the bytes of a file from a place on
abbrev pub numbered : PlaceValue → List ℕ → List (List ℕ) → ℕ → List ℕ → List ItemValue
numbered place path names from [] = []
numbered place path names from (b ∷ bs) =
    byte_at place path names from b ∷ numbered place path names (from + 1) bs

-- the bytes of a file, to its end
abbrev pub whole_file : PlaceValue → List ℕ → List (List ℕ) → List ℕ → List ItemValue
whole_file place path names bs =
    numbered place path names 0 bs ++ end_item place path names (length bs) ∷ []

-- ---- of answers

-- bytes of a file from a place on, or its end, where bytes were wanted and none are there
abbrev pub part_items : PlaceValue → List ℕ → List (List ℕ) → ℕ → ℕ → List ℕ → List ItemValue
part_items place path names from zero [] = []
part_items place path names from (suc most) [] = end_item place path names from ∷ []
part_items place path names from most (b ∷ bs) = numbered place path names from (b ∷ bs)

abbrev pub found_items : PlaceValue → List ℕ → Found → List ItemValue
found_items place path (founds.File f) = file_item place path [] f.is_executable ∷ []
found_items place path founds.Nothing = []
found_items place path founds.Other = []
found_items place path founds.Directory = found_item place path ∷ []

abbrev pub facts_items : PlaceValue → List ℕ → List (List ℕ) → Option FileFacts → List ItemValue
facts_items place path names (Some f) = file_item place path names f.is_executable ∷ []
facts_items place path names None = []

abbrev pub look_items : PlaceValue → List ℕ → FolderAnswer → List ItemValue
look_items place path (found f) = found_items place path f
look_items place path a = []

abbrev pub fact_items : PlaceValue → List ℕ → List (List ℕ) → FolderAnswer → List ItemValue
fact_items place path names (facts f) = facts_items place path names f
fact_items place path names a = []

abbrev pub list_items : PlaceValue → List ℕ → List (List ℕ) → FolderAnswer → List ItemValue
list_items place path names (entries es) = directory_item place path names ∷ []
list_items place path names a = []

abbrev pub bytes_items : PlaceValue → List ℕ → List (List ℕ) → ℕ → ℕ → FolderAnswer → List ItemValue
bytes_items place path names from most (file_bytes bs) = part_items place path names from most bs
bytes_items place path names from most a = []

abbrev pub answer_items : FolderQuestion → FolderAnswer → List ItemValue
answer_items (root_asked run) a = []
answer_items (node_asked run names kind) a = []
answer_items (text_asked run names bytes) a = []
answer_items (directory_asked place) a = []
answer_items (parents_asked place path) a = []
answer_items (look_asked place path) a = look_items place path a
answer_items (file_asked place path names) a = fact_items place path names a
answer_items (list_asked place path names most) a = list_items place path names a
answer_items (bytes_asked place path names from most) a = bytes_items place path names from most a
answer_items (removal_asked run) a = []

abbrev pub call_items : FolderQuestion → Result FolderAnswer ErrorKind → List ItemValue
call_items q (Err e) = []
call_items q (Ok a) = answer_items q a

-- the files that were found, with the bytes read of them, and the directories that were found and
-- listed
abbrev pub items_answered : List FolderCall → List ItemValue
items_answered calls = collect (λ c. call_items c.question c.answer) calls

-- ---- of outputs

abbrev pub node_items : PlaceValue → List ℕ → List (List ℕ) → OutputNodeKind → List ItemValue
node_items place path names (node_kinds.File content is_executable) =
    file_item place path names is_executable ∷ whole_file place path names content
node_items place path names node_kinds.Directory = directory_item place path names ∷ []

-- the directory that is reached with a node
abbrev pub above_after : List (List ℕ) → OutputNode → OutputNodeKind → List (List ℕ)
above_after above n (node_kinds.File content is_executable) = take (n.level - 1) above
above_after above n node_kinds.Directory = names_at above n.level (string_bytes n.name)

abbrev pub above_all : List (List ℕ) → List OutputNode → List (List ℕ)
above_all above [] = above
above_all above (n ∷ ns) = above_all (above_after above n n.kind) ns

abbrev pub nodes_items : PlaceValue → List ℕ → List (List ℕ) → List OutputNode → List ItemValue
nodes_items place path above [] = []
nodes_items place path above (n ∷ ns) =
    node_items place path (names_at above n.level (string_bytes n.name)) n.kind
    ++ nodes_items place path (above_after above n n.kind) ns

abbrev pub kind_items : PlaceValue → List ℕ → OutputKind → List ItemValue
kind_items place path (kinds.File content is_executable) =
    file_item place path [] is_executable ∷ whole_file place path [] content
kind_items place path (kinds.Tree nodes) =
    found_item place path ∷ directory_item place path [] ∷ nodes_items place path [] nodes.items

abbrev pub output_items : PlaceValue → List Output → List ItemValue
output_items place [] = []
output_items place (o ∷ os) = kind_items place (string_bytes o.path) o.kind ++ output_items place os

-- the nodes of an output directory, and the directory that was reached with them
pub record TreeValue : Type 0 where
  pub above : List (List ℕ)
  pub nodes : List OutputNode
