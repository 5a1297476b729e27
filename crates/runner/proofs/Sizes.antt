-- How many bytes are held after what was asked.
use Rattle.std.proofs.Common.{◌≡◌, ◌≤◌, ℕ, ◌+◌, true, false, List, [], ◌∷◌, ◌++◌, length, refl, ap, ◌∙◌, subst, arith}
use Rattle.std.specs.Prelude.{Some, None, Result, Ok, Err, zero, suc, string_bytes}
use Rattle.run_calls.specs.declared.task.RunKey.{RunKey}
use Rattle.run_calls.specs.declared.folder.Found.TheVariants as founds
use Rattle.run_calls.specs.declared.outcome.Exited.{Exited}
use Rattle.run_calls.specs.declared.outcome.Output.{Output}
use Rattle.run_calls.specs.declared.outcome.OutputKind.{OutputKind}
use Rattle.run_calls.specs.declared.outcome.OutputKind.TheVariants as kinds
use Rattle.run_calls.specs.declared.outcome.OutputNode.{OutputNode}
use Rattle.run_calls.specs.declared.outcome.OutputNodeKind.{OutputNodeKind}
use Rattle.run_calls.specs.declared.outcome.OutputNodeKind.TheVariants as node_kinds
use Rattle.run_calls.specs.declared.programs.Stream.{Stream}
use Rattle.run_calls.specs.declared.programs.Stream.TheVariants as streams
use Rattle.runner.specs.declared.stage.Stage.{Stage}
use Rattle.runner.specs.declared.stage.Stage.TheVariants as stages
use Rattle.runner.specs.declared.stage.Step.{Step}
use Rattle.runner.specs.declared.stage.Step.TheVariants as steps
use Rattle.run_calls.specs.Values.{PlaceValue}
use Rattle.std.specs.declared.io.ErrorKind.{ErrorKind}
use Rattle.run_calls.specs.Calls.{FolderQuestion, FolderAnswer, root_asked, node_asked, text_asked, directory_asked, parents_asked, look_asked}
use Rattle.run_calls.specs.Calls.{file_asked, list_asked, bytes_asked, removal_asked, done, found, facts, entries, file_bytes, gone, ProgramQuestion}
use Rattle.run_calls.specs.Calls.{ProgramAnswer, start_asked, end_asked, kill_asked, length_asked, read_asked, forget_asked, program_done, running}
use Rattle.run_calls.specs.Calls.{ended, killed, written, bytes, RunCall, of_folder, of_programs, folder_calls, program_calls}
use Rattle.runner.specs.Made.{names_at}
use Rattle.runner.specs.Gathered.{ItemValue, file_item, byte_at, end_item, found_item, directory_item, numbered, whole_file, node_items, nodes_items, above_after, kind_items, output_items, call_items, items_answered}
use Rattle.runner.specs.Told.{ToldItem, code_item, killed_item, stream_byte, stream_end, stream_bytes, whole_stream, call_told, items_told}
use Rattle.runner.specs.Steps.{exited_told, file_items, tree_items, tree_file_items, has_gathered, has_told, then_gathered, then_told}
use Rattle.runner.specs.Sizes.{most_bytes, node_length, nodes_length, output_length, outputs_length, exited_length, held, then_held, folder_read, program_read, read, all_read, Fits}

-- ---- bytes among items

abbrev item_count : ItemValue → ℕ
item_count (file_item place path names is_executable) = 0
item_count (byte_at place path names at b) = 1
item_count (end_item place path names at) = 0
item_count (found_item place path) = 0
item_count (directory_item place path names) = 0

abbrev items_count : List ItemValue → ℕ
items_count [] = 0
items_count (i ∷ is) = item_count i + items_count is

abbrev told_count : ToldItem → ℕ
told_count (code_item run code) = 0
told_count (killed_item run) = 0
told_count (stream_byte run stream at b) = 1
told_count (stream_end run stream at) = 0

abbrev tolds_count : List ToldItem → ℕ
tolds_count [] = 0
tolds_count (i ∷ is) = told_count i + tolds_count is

items_append : (xs ys : List ItemValue) → items_count (xs ++ ys) ≡ items_count xs + items_count ys
items_append [] ys = omega arith
items_append (x ∷ xs) ys = let e = items_append xs ys in omega (arith, e)

tolds_append : (xs ys : List ToldItem) → tolds_count (xs ++ ys) ≡ tolds_count xs + tolds_count ys
tolds_append [] ys = omega arith
tolds_append (x ∷ xs) ys = let e = tolds_append xs ys in omega (arith, e)

numbered_count : (place : PlaceValue) (path : List ℕ) (names : List (List ℕ)) (from : ℕ) (bs : List ℕ) →
    items_count (numbered place path names from bs) ≡ length bs
numbered_count place path names from [] = refl
numbered_count place path names from (b ∷ bs) = let e = numbered_count place path names (from + 1) bs in omega (arith, e)

stream_count : (run : RunKey) (s : Stream) (from : ℕ) (bs : List ℕ) → tolds_count (stream_bytes run s from bs) ≡ length bs
stream_count run s from [] = refl
stream_count run s from (b ∷ bs) = let e = stream_count run s (from + 1) bs in omega (arith, e)

whole_count : (place : PlaceValue) (path : List ℕ) (names : List (List ℕ)) (bs : List ℕ) →
    items_count (whole_file place path names bs) ≡ length bs
whole_count place path names bs =
    let split = items_append (numbered place path names 0 bs) (end_item place path names (length bs) ∷ []) in
    let one = numbered_count place path names 0 bs in
    omega (arith, split, one)

whole_stream_count : (run : RunKey) (s : Stream) (bs : List ℕ) → tolds_count (whole_stream run s bs) ≡ length bs
whole_stream_count run s bs =
    let split = tolds_append (stream_bytes run s 0 bs) (stream_end run s (length bs) ∷ []) in
    let one = stream_count run s 0 bs in
    omega (arith, split, one)

node_count : (place : PlaceValue) (path : List ℕ) (names : List (List ℕ)) (k : OutputNodeKind) →
    items_count (node_items place path names k) ≡ node_length k
node_count place path names (node_kinds.File content is_executable) = let e = whole_count place path names content in omega (arith, e)
node_count place path names node_kinds.Directory = omega arith

nodes_count : (place : PlaceValue) (path : List ℕ) (above : List (List ℕ)) (ns : List OutputNode) →
    items_count (nodes_items place path above ns) ≡ nodes_length ns
nodes_count place path above [] = refl
nodes_count place path above (n ∷ ns) =
    let first = node_items place path (names_at above n.level (string_bytes n.name)) n.kind in
    let rest = nodes_items place path (above_after above n n.kind) ns in
    let split = items_append first rest in
    let one = node_count place path (names_at above n.level (string_bytes n.name)) n.kind in
    let more = nodes_count place path (above_after above n n.kind) ns in
    omega (arith, split, one, more)

kind_count : (place : PlaceValue) (path : List ℕ) (k : OutputKind) → items_count (kind_items place path k) ≡ output_length k
kind_count place path (kinds.File content is_executable) = let e = whole_count place path [] content in omega (arith, e)
kind_count place path (kinds.Tree nodes) = let e = nodes_count place path [] nodes.items in omega (arith, e)

outputs_count : (place : PlaceValue) (os : List Output) → items_count (output_items place os) ≡ outputs_length os
outputs_count place [] = refl
outputs_count place (o ∷ os) =
    let first = kind_items place (string_bytes o.path) o.kind in
    let split = items_append first (output_items place os) in
    let one = kind_count place (string_bytes o.path) o.kind in
    let more = outputs_count place os in
    omega (arith, split, one, more)

-- ---- what is held

streams_count : (place : PlaceValue) (e : Exited) →
    tolds_count (exited_told place e) ≡ length e.streams.value.stdout + length e.streams.value.stderr
streams_count place e =
    let out = whole_stream place.run streams.Output e.streams.value.stdout in
    let err = whole_stream place.run streams.Error e.streams.value.stderr in
    let split = tolds_append out err in
    let one = whole_stream_count place.run streams.Output e.streams.value.stdout in
    let other = whole_stream_count place.run streams.Error e.streams.value.stderr in
    omega (arith, split, one, other)

exited_count : (place : PlaceValue) (e : Exited) →
    tolds_count (exited_told place e) + items_count (output_items place e.outputs.items) ≡ exited_length e
exited_count place e =
    let streams = streams_count place e in
    let files = outputs_count place e.outputs.items in
    omega (arith, streams, files)

held_count : (place : PlaceValue) (s : Stage) → tolds_count (has_told place s) + items_count (has_gathered place s) ≡ held s
held_count place (stages.Making m) = omega arith
held_count place (stages.Running outputs) = omega arith
held_count place (stages.Stopping e) = omega arith
held_count place (stages.Measuring e) = omega arith
held_count place (stages.Output e out) =
    let one = stream_count place.run streams.Output 0 out in
    omega (arith, one)
held_count place (stages.Error e out err) =
    let split = tolds_append (whole_stream place.run streams.Output out) (stream_bytes place.run streams.Error 0 err) in
    let one = whole_stream_count place.run streams.Output out in
    let other = stream_count place.run streams.Error 0 err in
    omega (arith, split, one, other)
held_count place (stages.Outputs g) = exited_count place g.exited
held_count place (stages.File g f) =
    let split = items_append (output_items place g.exited.outputs.items) (file_items place f) in
    let exited = exited_count place g.exited in
    let file = numbered_count place (string_bytes f.path) [] 0 f.content in
    omega (arith, split, exited, file)
held_count place (stages.Listing g path) =
    let split = items_append (output_items place g.exited.outputs.items) (found_item place (string_bytes path) ∷ []) in
    let exited = exited_count place g.exited in
    omega (arith, split, exited)
held_count place (stages.Tree g t) =
    let split = items_append (output_items place g.exited.outputs.items) (tree_items place t) in
    let exited = exited_count place g.exited in
    let nodes = nodes_count place (string_bytes t.path) [] t.nodes.nodes in
    omega (arith, split, exited, nodes)
held_count place (stages.TreeFile g t f) =
    let split = items_append (output_items place g.exited.outputs.items) (tree_items place t ++ tree_file_items place t f) in
    let inside = items_append (tree_items place t) (tree_file_items place t f) in
    let exited = exited_count place g.exited in
    let nodes = nodes_count place (string_bytes t.path) [] t.nodes.nodes in
    let file = numbered_count place (string_bytes t.path) (t.nodes.above ++ string_bytes f.name ∷ []) 0 f.content in
    omega (arith, split, inside, exited, nodes, file)

then_count : (place : PlaceValue) (s : Step) → tolds_count (then_told place s) + items_count (then_gathered place s) ≡ then_held s
then_count place (steps.Goes s cost) = held_count place s
then_count place (steps.Exits e) = exited_count place e

-- ---- what was read

part_count : (place : PlaceValue) (path : List ℕ) (names : List (List ℕ)) (from most : ℕ) (a : Result FolderAnswer ErrorKind)
    → items_count (call_items (bytes_asked place path names from most) a) ≡ folder_read (bytes_asked place path names from most) a
part_count place path names from most (Err e) = refl
part_count place path names from most (Ok done) = refl
part_count place path names from most (Ok (found f)) = refl
part_count place path names from most (Ok (facts f)) = refl
part_count place path names from most (Ok (entries es)) = refl
part_count place path names from zero (Ok (file_bytes [])) = refl
part_count place path names from (suc most) (Ok (file_bytes [])) = omega arith
part_count place path names from most (Ok (file_bytes (b ∷ bs))) = numbered_count place path names from (b ∷ bs)
part_count place path names from most (Ok (gone b)) = refl

look_count : (place : PlaceValue) (path : List ℕ) (a : Result FolderAnswer ErrorKind) →
    items_count (call_items (look_asked place path) a) ≡ 0
look_count place path (Err e) = refl
look_count place path (Ok done) = refl
look_count place path (Ok (found (founds.File f))) = omega arith
look_count place path (Ok (found founds.Nothing)) = refl
look_count place path (Ok (found founds.Other)) = refl
look_count place path (Ok (found founds.Directory)) = omega arith
look_count place path (Ok (facts f)) = refl
look_count place path (Ok (entries es)) = refl
look_count place path (Ok (file_bytes bs)) = refl
look_count place path (Ok (gone b)) = refl

facts_count : (place : PlaceValue) (path : List ℕ) (names : List (List ℕ)) (a : Result FolderAnswer ErrorKind) →
    items_count (call_items (file_asked place path names) a) ≡ 0
facts_count place path names (Err e) = refl
facts_count place path names (Ok done) = refl
facts_count place path names (Ok (found f)) = refl
facts_count place path names (Ok (facts None)) = refl
facts_count place path names (Ok (facts (Some f))) = omega arith
facts_count place path names (Ok (entries es)) = refl
facts_count place path names (Ok (file_bytes bs)) = refl
facts_count place path names (Ok (gone b)) = refl

list_count : (place : PlaceValue) (path : List ℕ) (names : List (List ℕ)) (most : ℕ) (a : Result FolderAnswer ErrorKind) →
    items_count (call_items (list_asked place path names most) a) ≡ 0
list_count place path names most (Err e) = refl
list_count place path names most (Ok done) = refl
list_count place path names most (Ok (found f)) = refl
list_count place path names most (Ok (facts f)) = refl
list_count place path names most (Ok (entries es)) = omega arith
list_count place path names most (Ok (file_bytes bs)) = refl
list_count place path names most (Ok (gone b)) = refl

folder_count : (q : FolderQuestion) (a : Result FolderAnswer ErrorKind) → items_count (call_items q a) ≡ folder_read q a
folder_count (root_asked run) (Err e) = refl
folder_count (root_asked run) (Ok a) = refl
folder_count (node_asked run names kind) (Err e) = refl
folder_count (node_asked run names kind) (Ok a) = refl
folder_count (text_asked run names bs) (Err e) = refl
folder_count (text_asked run names bs) (Ok a) = refl
folder_count (directory_asked place) (Err e) = refl
folder_count (directory_asked place) (Ok a) = refl
folder_count (parents_asked place path) (Err e) = refl
folder_count (parents_asked place path) (Ok a) = refl
folder_count (look_asked place path) a = look_count place path a
folder_count (file_asked place path names) a = facts_count place path names a
folder_count (list_asked place path names most) a = list_count place path names most a
folder_count (bytes_asked place path names from most) a = part_count place path names from most a
folder_count (removal_asked run) (Err e) = refl
folder_count (removal_asked run) (Ok a) = refl

end_count : (run : RunKey) (a : Result ProgramAnswer ErrorKind) → tolds_count (call_told (end_asked run) a) ≡ 0
end_count run (Err e) = refl
end_count run (Ok program_done) = refl
end_count run (Ok running) = refl
end_count run (Ok (ended code)) = omega arith
end_count run (Ok (killed b)) = refl
end_count run (Ok (written n)) = refl
end_count run (Ok (bytes bs)) = refl

kill_count : (run : RunKey) (a : Result ProgramAnswer ErrorKind) → tolds_count (call_told (kill_asked run) a) ≡ 0
kill_count run (Err e) = refl
kill_count run (Ok program_done) = refl
kill_count run (Ok running) = refl
kill_count run (Ok (ended code)) = refl
kill_count run (Ok (killed true)) = omega arith
kill_count run (Ok (killed false)) = refl
kill_count run (Ok (written n)) = refl
kill_count run (Ok (bytes bs)) = refl

read_count : (run : RunKey) (s : Stream) (from most : ℕ) (a : Result ProgramAnswer ErrorKind)
    → tolds_count (call_told (read_asked run s from most) a) ≡ program_read (read_asked run s from most) a
read_count run s from most (Err e) = refl
read_count run s from most (Ok program_done) = refl
read_count run s from most (Ok running) = refl
read_count run s from most (Ok (ended code)) = refl
read_count run s from most (Ok (killed b)) = refl
read_count run s from most (Ok (written n)) = refl
read_count run s from zero (Ok (bytes [])) = refl
read_count run s from (suc most) (Ok (bytes [])) = omega arith
read_count run s from most (Ok (bytes (b ∷ bs))) = stream_count run s from (b ∷ bs)

program_count : (q : ProgramQuestion) (a : Result ProgramAnswer ErrorKind) → tolds_count (call_told q a) ≡ program_read q a
program_count (start_asked place command) (Err e) = refl
program_count (start_asked place command) (Ok a) = refl
program_count (end_asked run) a = end_count run a
program_count (kill_asked run) a = kill_count run a
program_count (length_asked run) (Err e) = refl
program_count (length_asked run) (Ok a) = refl
program_count (read_asked run s from most) a = read_count run s from most a
program_count (forget_asked run) (Err e) = refl
program_count (forget_asked run) (Ok a) = refl

calls_count : (calls : List RunCall) → tolds_count (items_told (program_calls calls)) + items_count (items_answered (folder_calls calls))
    ≡ all_read calls
calls_count [] = refl
calls_count (of_folder c ∷ cs) =
    let split = items_append (call_items c.question c.answer) (items_answered (folder_calls cs)) in
    let one = folder_count c.question c.answer in
    let more = calls_count cs in
    omega (arith, split, one, more)
calls_count (of_programs c ∷ cs) =
    let split = tolds_append (call_told c.question c.answer) (items_told (program_calls cs)) in
    let one = program_count c.question c.answer in
    let more = calls_count cs in
    omega (arith, split, one, more)

-- what is held afterwards
pub held_then : (place : PlaceValue) (from : Stage) (to : Step) (calls : List RunCall)
    → then_gathered place to ≡ has_gathered place from ++ items_answered (folder_calls calls)
    → then_told place to ≡ has_told place from ++ items_told (program_calls calls)
    → then_held to ≡ held from + all_read calls
held_then place from to calls gathers is_told =
    let now = then_count place to in
    let before = held_count place from in
    let since = calls_count calls in
    let files = ap items_count gathers ∙ items_append (has_gathered place from) (items_answered (folder_calls calls)) in
    let streams = ap tolds_count is_told ∙ tolds_append (has_told place from) (items_told (program_calls calls)) in
    omega (arith, now, before, since, files, streams)

-- ---- what fits

pub fits_append : (n : ℕ) (xs ys : List RunCall) → Fits n xs → Fits (n + all_read xs) ys → Fits n (xs ++ ys)
fits_append n [] ys first next =
    let e : n + all_read [] ≡ n = omega arith in
    subst (λ k. Fits k ys) e next
fits_append n (x ∷ xs) ys first next =
    let e : n + all_read (x ∷ xs) ≡ (n + read x) + all_read xs = omega arith in
    (first.0, fits_append (n + read x) xs ys first.1 (subst (λ k. Fits k ys) e next))

-- of a call that tells of nothing
pub fits_still : (n t : ℕ) → n ≤ most_bytes → t ≡ 0 → n + t ≤ most_bytes
fits_still n t le is = omega (arith, le, is)

pub fits_none : (t : ℕ) → t ≡ 0 → 0 + t ≤ most_bytes
fits_none t is = omega (arith, is)
