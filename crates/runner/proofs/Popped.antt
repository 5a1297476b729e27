-- A list and its first, and what steps of making and reading add.
use Rattle.std.proofs.Common.{◌≡◌, ℕ, ◌+◌, ◌-◌, Bool, List, [], ◌∷◌, ◌++◌, map, take, drop, length, refl, ap, sym, ◌∙◌, append-nil, append_assoc, arith}
use Rattle.std.specs.Prelude.{ℤ, Option, Some, None, Result, Ok, Err}
use Rattle.std.specs.Rc.{rc_str_bytes}
use Rattle.std.specs.Option.{option_to_list}
use Rattle.std.specs.Global.{Vec}
use Rattle.std.proofs.lemmas.List.{map-append, take-map}
use Rattle.std.specs.declared.io.Error.{Error}
use Rattle.run_calls.specs.declared.task.RunKey.{RunKey}
use Rattle.runner.specs.declared.fault.RunFault.{RunFault}
use Rattle.run_calls.specs.declared.programs.Stream.{Stream}
use Rattle.run_calls.specs.declared.programs.Stream.TheVariants as streams
use Rattle.run_calls.specs.declared.node.TaskNode.{TaskNode}
use Rattle.run_calls.specs.Values.{PlaceValue, task_kind_shown}
use Rattle.runner.specs.Faults.{FolderAnswered, ProgramsAnswered}
use Rattle.std.specs.declared.io.ErrorKind.{ErrorKind}
use Rattle.run_calls.specs.Calls.{ProgramQuestion, ProgramAnswer, kill_asked, read_asked, bytes_asked, killed, killed_of, bytes_of, folder_bytes_of}
use Rattle.runner.specs.Made.{MadeItem, node_item, kind_made, nodes_made, names_at, above_then}
use Rattle.runner.specs.Gathered.{ItemValue, numbered, part_items, call_items}
use Rattle.runner.specs.Told.{ToldItem, code_item, killed_item, stream_bytes, stream_end, whole_stream, part_told, call_told, kill_told, answer_told, failure_of}
use Rattle.runner.specs.Steps.{above_behind}
use Rattle.runner.proofs.Items.{behind_is_then, stream_append, numbered_append}

no_more : {A : Type 0} (xs : List A) → xs ≡ drop 1 xs → xs ≡ []
no_more [] e = refl
no_more (x ∷ xs) e = absurd (omega (arith, ap length e))

pub popped_none : {A : Type 0} (xs ys : List A) (o : Option A) → xs ≡ option_to_list o ++ ys → ys ≡ drop 1 xs → o ≡ None → xs ≡ []
popped_none xs ys o items rest is = no_more xs (items ∙ ap (λ z. option_to_list z ++ ys) is ∙ rest)

pub popped : {A : Type 0} (xs ys : List A) (o : Option A) (x : A) → xs ≡ option_to_list o ++ ys → o ≡ Some x → xs ≡ x ∷ ys
popped xs ys o x items is = items ∙ ap (λ z. option_to_list z ++ ys) is

pub no_items : {A : Type 0} (xs : List A) → length xs ≡ 0 → xs ≡ []
no_items [] e = refl
no_items (x ∷ xs) e = absurd (omega (arith, e))

pub was_ok : {A : Type 0} (answer : Result A Error) (result : Result A RunFault) (x : A) → FolderAnswered answer result → result ≡ Ok x →
    answer ≡ Ok x
was_ok (Ok y) result x same is = let e = sym same ∙ is in cc
was_ok (Err e) result x same is = let no = sym same ∙ is in cc

pub programs_ok : {A : Type 0} (answer : Result A Error) (result : Result A RunFault) (x : A) → ProgramsAnswered answer result →
    result ≡ Ok x → answer ≡ Ok x
programs_ok (Ok y) result x same is = ap Ok (let e = sym same ∙ is in cc)
programs_ok (Err e) result x same is = let no = sym same ∙ is in cc

-- the names of a node: those above, cut, and its own
pub named : {A : Type 0} (f : A → List ℕ) (above cut pushed : List A) (name : A) (k level : ℕ)
    → pushed ≡ cut ++ name ∷ [] → cut ≡ take k above → k ≡ level - 1 → map f pushed ≡ names_at (map f above) level (f name)
named f above cut pushed name k level push trunc is =
    ap (map f) push ∙ map-append f cut (name ∷ []) ∙ ap (λ c. map f c ++ f name ∷ []) trunc
    ∙ ap (λ c. c ++ f name ∷ []) (sym (take-map f k above)) ∙ ap (λ n. take n (map f above) ++ f name ∷ []) is

-- a node was made
pub node_step : (text : ℕ → List ℕ) (run : RunKey) (above names : List (List ℕ)) (n : TaskNode) (all rest : List TaskNode)
    (tail making : List MadeItem)
    → all ≡ n ∷ rest → names ≡ names_at above n.level (rc_str_bytes n.name)
    → making ≡ kind_made text run names n.kind ++ (nodes_made text run (above_behind names n.kind) rest ++ tail)
    → nodes_made text run above all ++ tail ≡ node_item run names (task_kind_shown n.kind) ∷ making
node_step text run above names n all rest tail making all_is names_is making_is =
    let at : List (List ℕ) = names_at above n.level (rc_str_bytes n.name) in
    let one : List (List ℕ) → List MadeItem = λ m. kind_made text run m n.kind in
    ap (λ ns. nodes_made text run above ns ++ tail) all_is
    ∙ ap (λ m. node_item run m (task_kind_shown n.kind) ∷ ((one m ++ nodes_made text run (above_then above n n.kind) rest) ++ tail))
    (sym names_is)
    ∙ ap (λ ab. node_item run names (task_kind_shown n.kind) ∷ ((one names ++ nodes_made text run ab rest) ++ tail))
    (sym (behind_is_then above names n n.kind names_is))
    ∙ ap (λ zs. node_item run names (task_kind_shown n.kind) ∷ zs)
    (append_assoc (one names) (nodes_made text run (above_behind names n.kind) rest) tail ∙ sym making_is)

-- a part was written
pub part_step : {A : Type 0} (f : ℕ → A) (text part : List ℕ) (from : ℕ) (rest : List A)
    → drop from text ≡ part ++ drop (from + length part) text
    → map f (drop from text) ++ rest ≡ map f part ++ (map f (drop (from + length part) text) ++ rest)
part_step f text part from rest follows =
    ap (λ zs. map f zs ++ rest) follows ∙ ap (λ zs. zs ++ rest) (map-append f part (drop (from + length part) text))
    ∙ append_assoc (map f part) (map f (drop (from + length part) text)) rest

-- the first of those that are left is put among those that are done
pub moved : {A B : Type 0} (f : A → B) (made left made' rest : List A) (x : A) → left ≡ x ∷ rest → made' ≡ made ++ x ∷ []
    → map f made ++ map f left ≡ map f made' ++ map f rest
moved f made left made' rest x left_is made_is =
    ap (λ l. map f made ++ map f l) left_is
    ∙ sym (ap (λ m. map f m ++ map f rest) made_is ∙ ap (λ m. m ++ map f rest) (map-append f made (x ∷ []))
    ∙ append_assoc (map f made) (f x ∷ []) (map f rest))

-- ---- what is told

pub quiet_told : (q : ProgramQuestion) (a : Result ProgramAnswer ErrorKind) → ((x : ProgramAnswer) → answer_told q x ≡ []) →
    call_told q a ≡ []
quiet_told q (Err e) h = refl
quiet_told q (Ok x) h = h x

-- what was answered did not fail
pub no_failure : {A : Type 0} (q : ProgramQuestion) (answer : Result A Error → Result ProgramAnswer ErrorKind) (r : Result A Error)
    (x : A) → r ≡ Ok x → ((y : A) → failure_of q (answer (Ok y)) ≡ []) → failure_of q (answer r) ≡ []
no_failure q answer r x is h = ap (λ z. failure_of q (answer z)) is ∙ h x

pub kill_says : (run : RunKey) (r : Result Bool Error) (b : Bool) → r ≡ Ok b →
    call_told (kill_asked run) (killed_of r) ≡ kill_told run (killed b)
kill_says run r b is = ap (λ x. call_told (kill_asked run) (killed_of x)) is

pub kill_fails : (run : RunKey) (r : Result Bool Error) (e : Error) → r ≡ Err e → call_told (kill_asked run) (killed_of r) ≡ []
kill_fails run r e is = ap (λ x. call_told (kill_asked run) (killed_of x)) is

pub read_says : (run : RunKey) (s : Stream) (from most : ℕ) (r : Result (Vec ℕ) Error) (v : Vec ℕ) (piece : List ℕ) → r ≡ Ok v →
    v.items ≡ piece
    → call_told (read_asked run s from most) (bytes_of r) ≡ part_told run s from most piece
read_says run s from most r v piece is items =
    ap (λ x. call_told (read_asked run s from most) (bytes_of x)) is ∙ ap (part_told run s from most) items

-- something came
pub some_told : (run : RunKey) (s : Stream) (from most : ℕ) (piece : List ℕ) → (piece ≡ [] → ⊥) →
    part_told run s from most piece ≡ stream_bytes run s from piece
some_told run s from most [] some = absurd (some refl)
some_told run s from most (b ∷ bs) some = refl

pub more_read : (run : RunKey) (s : Stream) (content new piece : List ℕ) (from : ℕ) (items : List ToldItem)
    → new ≡ content ++ piece → from ≡ length content → items ≡ stream_bytes run s from piece →
    stream_bytes run s 0 new ≡ stream_bytes run s 0 content ++ items
more_read run s content new piece from items new_is from_is items_is =
    let e : 0 + length content ≡ from = omega (arith, from_is) in
    ap (stream_bytes run s 0) new_is ∙ stream_append run s 0 content piece
    ∙ ap (λ n. stream_bytes run s 0 content ++ stream_bytes run s n piece) e ∙ ap (λ is. stream_bytes run s 0 content ++ is) (sym items_is)

-- standard output was read to its end
pub output_whole : (run : RunKey) (code : ℤ) (content whole err : List ℕ) (items : List ToldItem) → whole ≡ content → err ≡ [] →
    items ≡ stream_end run streams.Output (length content) ∷ []
    → code_item run code ∷ killed_item run ∷ (whole_stream run streams.Output whole ++ stream_bytes run streams.Error 0 err)
    ≡ (code_item run code ∷ killed_item run ∷ stream_bytes run streams.Output 0 content) ++ items
output_whole run code content whole err items whole_is err_is items_is =
    ap (λ w. code_item run code ∷ killed_item run ∷ (whole_stream run streams.Output w ++ stream_bytes run streams.Error 0 err)) whole_is
    ∙ ap (λ e. code_item run code ∷ killed_item run ∷ (whole_stream run streams.Output content ++ stream_bytes run streams.Error 0 e))
    err_is
    ∙ ap (λ is. code_item run code ∷ killed_item run ∷ is) (append-nil (whole_stream run streams.Output content))
    ∙ ap (λ is. (code_item run code ∷ killed_item run ∷ stream_bytes run streams.Output 0 content) ++ is) (sym items_is)

-- ---- what is gathered

pub bytes_say : (place : PlaceValue) (path : List ℕ) (names : List (List ℕ)) (from most : ℕ) (r : Result (Vec ℕ) Error) (v : Vec ℕ)
    (piece : List ℕ)
    → r ≡ Ok v → v.items ≡ piece → call_items (bytes_asked place path names from most) (folder_bytes_of r)
    ≡ part_items place path names from most piece
bytes_say place path names from most r v piece is items =
    ap (λ x. call_items (bytes_asked place path names from most) (folder_bytes_of x)) is ∙ ap (part_items place path names from most) items

-- something came
pub some_items : (place : PlaceValue) (path : List ℕ) (names : List (List ℕ)) (from most : ℕ) (piece : List ℕ) → (piece ≡ [] → ⊥) →
    part_items place path names from most piece ≡ numbered place path names from piece
some_items place path names from most [] some = absurd (some refl)
some_items place path names from most (b ∷ bs) some = refl

pub more_gathered : (place : PlaceValue) (path : List ℕ) (names : List (List ℕ)) (content new piece : List ℕ) (from : ℕ)
    (items : List ItemValue)
    → new ≡ content ++ piece → from ≡ length content → items ≡ numbered place path names from piece →
    numbered place path names 0 new ≡ numbered place path names 0 content ++ items
more_gathered place path names content new piece from items new_is from_is items_is =
    let e : 0 + length content ≡ from = omega (arith, from_is) in
    ap (numbered place path names 0) new_is ∙ numbered_append place path names 0 content piece
    ∙ ap (λ n. numbered place path names 0 content ++ numbered place path names n piece) e
    ∙ ap (λ is. numbered place path names 0 content ++ is) (sym items_is)
