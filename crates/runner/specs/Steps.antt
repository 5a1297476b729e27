-- A run that is not over: what is still to be done of it, what it has gathered, and what a call
-- adds.
use Rattle.std.specs.Prelude.{◌≡◌, ℕ, ◌-◌, List, [], ◌∷◌, ◌++◌, map, take, drop, length, string_bytes, Option}
use Rattle.std.specs.Rc.{rc_str_bytes}
use Rattle.run_calls.specs.declared.outcome.Exited.{Exited}
use Rattle.run_calls.specs.declared.programs.Stream.TheVariants as streams
use Rattle.runner.specs.declared.stage.Prepared.{Prepared}
use Rattle.runner.specs.declared.stage.Nodes.{Nodes}
use Rattle.runner.specs.declared.stage.Making.{Making}
use Rattle.runner.specs.declared.stage.Making.TheVariants as makings
use Rattle.runner.specs.declared.stage.OutputFile.{OutputFile}
use Rattle.runner.specs.declared.stage.TreeFile.{TreeFile}
use Rattle.runner.specs.declared.stage.Stage.{Stage}
use Rattle.runner.specs.declared.stage.Stage.TheVariants as stages
use Rattle.runner.specs.declared.stage.Step.{Step}
use Rattle.runner.specs.declared.stage.Step.TheVariants as steps
use Rattle.runner.specs.declared.tree.Tree.{Tree}
use Rattle.run_calls.specs.declared.node.TaskNodeKind.{TaskNodeKind}
use Rattle.run_calls.specs.declared.node.TaskNodeKind.TheVariants as node_kinds
use Rattle.run_calls.specs.Values.{PlaceValue, command_shown}
use Rattle.run_calls.specs.Calls.{FolderCall, FolderQuestion, ProgramCall, ProgramQuestion, start_asked, look_asked, root_asked, node_asked, text_asked, directory_asked, parents_asked, file_asked, list_asked, bytes_asked, removal_asked, RunCall, folder_calls, program_calls, Adds, collect}
use Rattle.runner.specs.Made.{MadeItem, root_item, byte_item, directory_item, parents_item, nodes_made, made}
use Rattle.runner.specs.Gathered.{ItemValue, items_answered, file_item, found_item, numbered, nodes_items, output_items}
use Rattle.runner.specs.Gathered as Gathered
use Rattle.runner.specs.Told.{ToldItem, code_item, killed_item, stream_bytes, whole_stream, items_told, starts, forgets, failures}
use Rattle.runner.specs.Listed.{Walk, walk_at, walk_then, Meets}
use Rattle.runner.specs.Own.{AreOwn}
use Rattle.runner.specs.Sizes.{held, Fits}

-- ---- what is still to be made, to be started and to be looked at

abbrev pub prepared_left : PlaceValue → Prepared → List MadeItem
prepared_left place p =
    directory_item place ∷ map (λ o. parents_item place (string_bytes o)) p.outputs.items

abbrev pub nodes_left : (ℕ → List ℕ) → PlaceValue → List (List ℕ) → Nodes → List MadeItem
nodes_left text place above n =
    nodes_made text place.run above n.left.items ++ prepared_left place n.next

abbrev pub making_left : (ℕ → List ℕ) → PlaceValue → Making → List MadeItem
making_left text place (makings.Root n) =
    root_item place.run ∷ nodes_left text place (map rc_str_bytes n.above.items) n
making_left text place (makings.Nodes n) = nodes_left text place (map rc_str_bytes n.above.items) n
making_left text place (makings.Writing w) =
    let names : List (List ℕ) = map rc_str_bytes w.nodes.above.items in
    map (byte_item place.run names) (drop w.from (text w.text))
    ++ nodes_left text place (take (length names - 1) names) w.nodes
making_left text place (makings.Directory p) = prepared_left place p
making_left text place (makings.Parents p) =
    map (λ o. parents_item place (string_bytes o)) p.left.items
making_left text place (makings.Starting p) = []

abbrev pub making_starts : PlaceValue → Making → List ProgramQuestion
making_starts place (makings.Root n) = start_asked place (command_shown n.next.command) ∷ []
making_starts place (makings.Nodes n) = start_asked place (command_shown n.next.command) ∷ []
making_starts place (makings.Writing w) =
    start_asked place (command_shown w.nodes.next.command) ∷ []
making_starts place (makings.Directory p) = start_asked place (command_shown p.command) ∷ []
making_starts place (makings.Parents p) = start_asked place (command_shown p.command) ∷ []
making_starts place (makings.Starting p) = start_asked place (command_shown p.command) ∷ []

-- the directory that is reached with a node of these names
abbrev pub above_behind : List (List ℕ) → TaskNodeKind → List (List ℕ)
above_behind names (node_kinds.File number is_executable) = take (length names - 1) names
above_behind names (node_kinds.Symlink target) = take (length names - 1) names
above_behind names node_kinds.Directory = names
above_behind names (node_kinds.Made directory) = take (length names - 1) names

abbrev pub making_outputs : Making → List (List ℕ)
making_outputs (makings.Root n) = map string_bytes n.next.outputs.items
making_outputs (makings.Nodes n) = map string_bytes n.next.outputs.items
making_outputs (makings.Writing w) = map string_bytes w.nodes.next.outputs.items
making_outputs (makings.Directory p) = map string_bytes p.outputs.items
making_outputs (makings.Parents p) = map string_bytes p.made.items ++ map string_bytes p.left.items
making_outputs (makings.Starting p) = map string_bytes p.outputs.items

abbrev pub to_make : (ℕ → List ℕ) → PlaceValue → Stage → List MadeItem
to_make text place (stages.Making m) = making_left text place m
to_make text place s = []

abbrev pub to_start : PlaceValue → Stage → List ProgramQuestion
to_start place (stages.Making m) = making_starts place m
to_start place s = []

abbrev pub outputs_left : Stage → List (List ℕ)
outputs_left (stages.Making m) = making_outputs m
outputs_left (stages.Running outputs) = map string_bytes outputs.items
outputs_left (stages.Stopping e) = map string_bytes e.outputs.items
outputs_left (stages.Measuring e) = map string_bytes e.outputs.items
outputs_left (stages.Output e out) = map string_bytes e.outputs.items
outputs_left (stages.Error e out err) = map string_bytes e.outputs.items
outputs_left (stages.Outputs g) = map string_bytes g.left.items
outputs_left (stages.File g f) = map string_bytes g.left.items
outputs_left (stages.Listing g path) = map string_bytes g.left.items
outputs_left (stages.Tree g t) = map string_bytes g.left.items
outputs_left (stages.TreeFile g t f) = map string_bytes g.left.items

abbrev pub to_look : PlaceValue → Stage → List FolderQuestion
to_look place s = map (look_asked place) (outputs_left s)

-- ---- what was gathered, and what was told of the program

abbrev pub file_items : PlaceValue → OutputFile → List ItemValue
file_items place f =
    file_item place (string_bytes f.path) [] f.is_executable
    ∷ numbered place (string_bytes f.path) [] 0 f.content

abbrev pub tree_items : PlaceValue → Tree → List ItemValue
tree_items place t =
    found_item place (string_bytes t.path) ∷ Gathered.directory_item place (string_bytes t.path) []
    ∷ nodes_items place (string_bytes t.path) [] t.nodes.nodes

abbrev pub tree_file_items : PlaceValue → Tree → TreeFile → List ItemValue
tree_file_items place t f =
    let names : List (List ℕ) = t.nodes.above ++ string_bytes f.name ∷ [] in
    file_item place (string_bytes t.path) names f.is_executable
    ∷ numbered place (string_bytes t.path) names 0 f.content

abbrev pub has_gathered : PlaceValue → Stage → List ItemValue
has_gathered place (stages.Making m) = []
has_gathered place (stages.Running outputs) = []
has_gathered place (stages.Stopping e) = []
has_gathered place (stages.Measuring e) = []
has_gathered place (stages.Output e out) = []
has_gathered place (stages.Error e out err) = []
has_gathered place (stages.Outputs g) = output_items place g.exited.outputs.items
has_gathered place (stages.File g f) =
    output_items place g.exited.outputs.items ++ file_items place f
has_gathered place (stages.Listing g path) =
    output_items place g.exited.outputs.items ++ found_item place (string_bytes path) ∷ []
has_gathered place (stages.Tree g t) =
    output_items place g.exited.outputs.items ++ tree_items place t
has_gathered place (stages.TreeFile g t f) =
    output_items place g.exited.outputs.items ++ (tree_items place t ++ tree_file_items place t f)

-- what is told of a program that has ended
abbrev pub exited_told : PlaceValue → Exited → List ToldItem
exited_told place e =
    code_item place.run e.code ∷ killed_item place.run
    ∷ (whole_stream place.run streams.Output e.streams.value.stdout
    ++ whole_stream place.run streams.Error e.streams.value.stderr)

abbrev pub has_told : PlaceValue → Stage → List ToldItem
has_told place (stages.Making m) = []
has_told place (stages.Running outputs) = []
has_told place (stages.Stopping e) = code_item place.run e.code ∷ []
has_told place (stages.Measuring e) = code_item place.run e.code ∷ killed_item place.run ∷ []
has_told place (stages.Output e out) =
    code_item place.run e.code ∷ killed_item place.run ∷ stream_bytes place.run streams.Output 0 out
has_told place (stages.Error e out err) =
    code_item place.run e.code ∷ killed_item place.run
    ∷ (whole_stream place.run streams.Output out ++ stream_bytes place.run streams.Error 0 err)
has_told place (stages.Outputs g) = exited_told place g.exited
has_told place (stages.File g f) = exited_told place g.exited
has_told place (stages.Listing g path) = exited_told place g.exited
has_told place (stages.Tree g t) = exited_told place g.exited
has_told place (stages.TreeFile g t f) = exited_told place g.exited

-- ---- of what a step comes to

abbrev pub then_to_make : (ℕ → List ℕ) → PlaceValue → Step → List MadeItem
then_to_make text place (steps.Goes s cost) = to_make text place s
then_to_make text place (steps.Exits e) = []

abbrev pub then_to_start : PlaceValue → Step → List ProgramQuestion
then_to_start place (steps.Goes s cost) = to_start place s
then_to_start place (steps.Exits e) = []

abbrev pub then_to_look : PlaceValue → Step → List FolderQuestion
then_to_look place (steps.Goes s cost) = to_look place s
then_to_look place (steps.Exits e) = []

abbrev pub then_gathered : PlaceValue → Step → List ItemValue
then_gathered place (steps.Goes s cost) = has_gathered place s
then_gathered place (steps.Exits e) = output_items place e.outputs.items

abbrev pub then_told : PlaceValue → Step → List ToldItem
then_told place (steps.Goes s cost) = has_told place s
then_told place (steps.Exits e) = exited_told place e

-- the outputs at which it was looked
abbrev pub look_of : FolderQuestion → List FolderQuestion
look_of (look_asked place path) = look_asked place path ∷ []
look_of (root_asked run) = []
look_of (node_asked run names kind) = []
look_of (text_asked run names bytes) = []
look_of (directory_asked place) = []
look_of (parents_asked place path) = []
look_of (file_asked place path names) = []
look_of (list_asked place path names most) = []
look_of (bytes_asked place path names from most) = []
look_of (removal_asked run) = []

abbrev pub looks : List FolderCall → List FolderQuestion
looks calls = collect (λ c. look_of c.question) calls

-- What was asked meanwhile, in some order of both kinds of calls, is a front of what was to be
-- made, to be started and to be looked at, and what was answered is what was gathered and told
-- since; none of it was too large. Of output directories each entry is met that was left or told
-- of, in order, until nothing is left or so many nodes are met. All was asked for this run. No
-- program is let go of, and nothing that was asked of programs failed, but to end one.
pub record GoesWith (before : Walk) (text : ℕ → List ℕ) (place : PlaceValue) (from : Stage)
    (to : Step) (f_before f_now : Option (List FolderCall))
    (p_before p_now : Option (List ProgramCall)) : Type 0 where
  pub calls : List RunCall
  pub own : AreOwn place.run calls
  pub folder_asked : Adds f_before f_now (folder_calls calls)
  pub programs_asked : Adds p_before p_now (program_calls calls)
  pub makes : to_make text place from ≡ made (folder_calls calls) ++ then_to_make text place to
  pub starts_it : to_start place from ≡ starts (program_calls calls) ++ then_to_start place to
  pub looks_at : to_look place from ≡ looks (folder_calls calls) ++ then_to_look place to
  pub gathers : then_gathered place to
      ≡ has_gathered place from ++ items_answered (folder_calls calls)
  pub is_told : then_told place to ≡ has_told place from ++ items_told (program_calls calls)
  pub fits : Fits (held from) calls
  pub meets : Meets before (folder_calls calls) (walk_then place to)
  pub keeps : forgets (program_calls calls) ≡ []
  pub succeeds : failures (program_calls calls) ≡ []

abbrev pub Goes : (ℕ → List ℕ) → PlaceValue → Stage → Step → Option (List FolderCall) →
    Option (List FolderCall) → Option (List ProgramCall) → Option (List ProgramCall) → Type 0
Goes text place from to f_before f_now p_before p_now =
    GoesWith (walk_at place from) text place from to f_before f_now p_before p_now

-- the same of a step that asks folders alone, and for any texts
abbrev pub FolderGoes : PlaceValue → Stage → Step → Option (List FolderCall) →
    Option (List FolderCall) → Type 0
FolderGoes place from to f_before f_now =
    (text : ℕ → List ℕ) → (p : Option (List ProgramCall)) →
    Goes text place from to f_before f_now p p

-- of one from a stage at which an output directory was gathered so far
abbrev pub FolderGoesWith : Walk → PlaceValue → Stage → Step → Option (List FolderCall) →
    Option (List FolderCall) → Type 0
FolderGoesWith before place from to f_before f_now =
    (text : ℕ → List ℕ) → (p : Option (List ProgramCall)) →
    GoesWith before text place from to f_before f_now p p

-- of one that asks programs alone
abbrev pub ProgramGoes : PlaceValue → Stage → Step → Option (List ProgramCall) →
    Option (List ProgramCall) → Type 0
ProgramGoes place from to p_before p_now =
    (text : ℕ → List ℕ) → (f : Option (List FolderCall)) →
    Goes text place from to f f p_before p_now
