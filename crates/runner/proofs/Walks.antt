-- How far an output directory was gathered, after what was asked.
use Rattle.std.proofs.Common.{◌≡◌, ◌≤◌, ◌<◌, ℕ, ◌+◌, ◌-◌, Bool, true, false, if◌then◌else◌, List, [], ◌∷◌, ◌++◌, inl, inr, map, reverse, take, length, refl, sym, ap, ◌∙◌, subst, append-nil, append_assoc, length-append, length-take, length-take-le, take-take, zero-le, String, arith}
use Rattle.std.specs.Prelude.{Result, Ok, string_bytes}
use Rattle.std.specs.Global.{Vec, Global}
use Rattle.std.specs.declared.io.Error.{Error}
use Rattle.run_calls.specs.declared.folder.Entry.{Entry}
use Rattle.std.proofs.Math.Seq.{take-length}
use Rattle.std.proofs.lemmas.List.{map-append, reverse-append, reverse-reverse, take-append-le}
use Rattle.runner.specs.declared.gathering.Next.{Next}
use Rattle.runner.specs.declared.gathering.Next.TheVariants as nexts
use Rattle.run_calls.specs.declared.outcome.OutputNode.{OutputNode}
use Rattle.run_calls.specs.declared.outcome.OutputNodeKind.{OutputNodeKind}
use Rattle.run_calls.specs.declared.outcome.OutputNodeKind.TheVariants as node_kinds
use Rattle.runner.specs.declared.tree.Inner.{Inner}
use Rattle.runner.specs.declared.tree.Tree.{Tree}
use Rattle.run_calls.specs.Values.{PlaceValue, EntryValue, entry_shown}
use Rattle.runner.specs.Made.{names_at}
use Rattle.runner.specs.Gathered.{above_after, above_all}
use Rattle.std.specs.declared.io.ErrorKind.{ErrorKind}
use Rattle.run_calls.specs.Calls.{FolderCall, FolderQuestion, FolderAnswer, look_asked, file_asked, list_asked, bytes_asked, entries_of}
use Rattle.runner.specs.Listed.{most_nodes, InnerValue, inner_shown, inners_of, stack_of, IsStack, IsTreeStack, IsNext, directory_names, file_names, files_asked, lists_asked, inner_asked, to_meet, tree_to_meet, Walk, no_walk, walk_before, entries_told, nodes_met, entry_of, MayAsk, IsDone, Closes, walk_after, Meets}

-- ---- one call after another

closes_closes : (w v u : Walk) → Closes w v → Closes v u → Closes w u
closes_closes w v u (inl e) next = subst (λ (x : Walk). Closes x u) e next
closes_closes w v u (inr h) (inl e) = inr (h.0, e ∙ h.1)
closes_closes w v u (inr h) (inr k) = inr (h.0, k.1)

meets_closed : (w v u : Walk) (ys : List FolderCall) → Closes w v → Meets v ys u → Meets w ys u
meets_closed w v u [] first next = closes_closes w v u first next
meets_closed w v u (c ∷ cs) first next =
    (next.0, closes_closes w v next.0 first next.1, next.2, next.3, next.4, next.5)

pub meets_append : (w v u : Walk) (xs ys : List FolderCall) → Meets w xs v → Meets v ys u → Meets w (xs ++ ys) u
meets_append w v u [] ys first next = meets_closed w v u ys first next
meets_append w v u (c ∷ cs) ys first next = (
  first.0,
  first.1,
  first.2,
  first.3,
  first.4,
  meets_append
      (walk_after c.question c.answer first.3 first.0.nodes) v u cs ys first.5 next,
)

-- what one call comes to
abbrev pub Moves : Walk → FolderQuestion → Result FolderAnswer ErrorKind → Walk → Type 0
Moves w q a now =
    MayAsk w q × (rest : List FolderQuestion) × (w.left ≡ entry_of q ++ rest) × (now ≡ walk_after q a rest w.nodes)

pub meets_one : (w now : Walk) (q : FolderQuestion) (a : Result FolderAnswer ErrorKind) → Moves w q a now →
    Meets w (record { question = q; answer = a } ∷ []) now
meets_one w now q a moves = (w, inl refl, moves.0, moves.1, moves.2, inl moves.3)

abbrev pub walk_of : List FolderQuestion → ℕ → Walk
walk_of left nodes = record { left = left; nodes = nodes }

pub walk_same : (a b : List FolderQuestion) (n m : ℕ) → a ≡ b → n ≡ m → walk_of a n ≡ walk_of b m
walk_same a b n m left nodes = ap (λ l. walk_of l n) left ∙ ap (walk_of b) nodes

-- ---- of names

pub all_taken : (above : List (List ℕ)) (level : ℕ) → level ≡ length above + 1 → take (level - 1) above ≡ above
all_taken above level is =
    let e : level - 1 ≡ length above = omega (arith, is) in
    ap (λ k. take k above) e ∙ take-length above

pub length_named : (above : List (List ℕ)) (level : ℕ) (name : List ℕ) → 1 ≤ level → level ≤ length above + 1 →
    length (names_at above level name) ≡ level
length_named above level name some most =
    let split = length-append (take (level - 1) above) (name ∷ []) in
    let front = length-take-le (level - 1) above (omega (arith, most)) in
    omega (arith, split, front, some)

-- names above a directory are those above what is in it
names_above : (above : List (List ℕ)) (level k : ℕ) (name own : List ℕ) → k ≤ level → level ≤ length above + 1 →
    names_at (names_at above level name) k own ≡ names_at above k own
names_above above level k name own less most =
    ap (λ zs. zs ++ own ∷ [])
    (take-append-le (k - 1) (take (level - 1) above) (name ∷ [])
    (let front = length-take-le (level - 1) above (omega (arith, most)) in omega (arith, front, less))
    ∙ take-take (k - 1) (level - 1) above (omega (arith, less)))

-- ---- of what is stacked

pub stack_more : (n m : ℕ) (is : List InnerValue) → n ≤ m → IsStack n is → IsStack m is
stack_more n m [] le s = tt
stack_more n m (i ∷ is) le s = (s.0, (let most = s.1 in omega (arith, most, le)), s.2)

stacked_one : (b : Bool) (n : ℕ) (name : List ℕ) (xs is : List InnerValue) → 1 ≤ n → IsStack n (xs ++ is)
    → IsStack n (((if b then record { name = name; level = n } ∷ [] else []) ++ xs) ++ is)
stacked_one true n name xs is some s = (some, omega arith, s)
stacked_one false n name xs is some s = s

pub stack_listed : (n : ℕ) (es : List EntryValue) (is : List InnerValue) → 1 ≤ n → IsStack n is → IsStack n (inners_of n es ++ is)
stack_listed n [] is some s = s
stack_listed n (e ∷ es) is some s = stacked_one e.is_directory n e.name (inners_of n es) is some (stack_listed n es is some s)

-- what stands in directories above keeps its names
stack_same : (place : PlaceValue) (path : List ℕ) (above : List (List ℕ)) (level : ℕ) (name : List ℕ) (is : List InnerValue)
    → level ≤ length above + 1 → IsStack level is
    → map (inner_asked place path (names_at above level name)) is ≡ map (inner_asked place path above) is
stack_same place path above level name [] most s = refl
stack_same place path above level name (i ∷ is) most s =
    ap (λ ns. list_asked place path ns most_nodes ∷ map (inner_asked place path (names_at above level name)) is)
    (names_above above level i.level name i.name s.1 most)
    ∙ ap (λ qs. inner_asked place path above i ∷ qs) (stack_same place path above level name is most (stack_more i.level level is s.1 s.2))

inner_one : (place : PlaceValue) (path : List ℕ) (above : List (List ℕ)) (level : ℕ) (b : Bool) (name : List ℕ) (xs : List InnerValue)
    (names : List (List ℕ))
    → level ≡ length above + 1 → map (inner_asked place path above) xs ≡ lists_asked place path above names
    → map (inner_asked place path above) ((if b then record { name = name; level = level } ∷ [] else []) ++ xs)
    ≡ lists_asked place path above ((if b then name ∷ [] else []) ++ names)
inner_one place path above level true name xs names is rest =
    ap (λ ab. list_asked place path (ab ++ name ∷ []) most_nodes ∷ map (inner_asked place path above) xs) (all_taken above level is)
    ∙ ap (λ qs. list_asked place path (above ++ name ∷ []) most_nodes ∷ qs) rest
inner_one place path above level false name xs names is rest = rest

-- what was listed is asked for by its names
inners_asked : (place : PlaceValue) (path : List ℕ) (above : List (List ℕ)) (level : ℕ) (es : List EntryValue)
    → level ≡ length above + 1 → map (inner_asked place path above) (inners_of level es) ≡ lists_asked place path above (directory_names es)
inners_asked place path above level [] is = refl
inners_asked place path above level (e ∷ es) is =
    inner_one place path above level e.is_directory e.name (inners_of level es) (directory_names es) is
    (inners_asked place path above level es is)

pub stack_put : (todo now : List Inner) (level : ℕ) (es : List EntryValue)
    → map inner_shown now ≡ map inner_shown todo ++ reverse (inners_of level es) → stack_of now ≡ inners_of level es ++ stack_of todo
stack_put todo now level es is =
    ap reverse is ∙ reverse-append (map inner_shown todo) (reverse (inners_of level es))
    ∙ ap (λ zs. zs ++ stack_of todo) (reverse-reverse (inners_of level es))

pub listed_next : (place : PlaceValue) (path : List ℕ) (above : List (List ℕ)) (level : ℕ) (es : List EntryValue) (files : List (List ℕ))
    (todo now : List Inner) (rest : List FolderQuestion)
    → level ≡ length above + 1 → map (inner_asked place path above) (stack_of todo) ≡ rest → files ≡ file_names es
    → map inner_shown now ≡ map inner_shown todo ++ reverse (inners_of level es)
    → to_meet place path above files (stack_of now)
    ≡ (files_asked place path above (file_names es) ++ lists_asked place path above (directory_names es)) ++ rest
listed_next place path above level es files todo now rest level_is rest_is files_is now_is =
    ap (λ fs. to_meet place path above fs (stack_of now)) files_is
    ∙ ap (to_meet place path above (file_names es)) (stack_put todo now level es now_is)
    ∙ ap (λ zs. files_asked place path above (file_names es) ++ zs)
    (map-append (inner_asked place path above) (inners_of level es) (stack_of todo)
    ∙ ap (λ zs. zs ++ map (inner_asked place path above) (stack_of todo)) (inners_asked place path above level es level_is)
    ∙ ap (λ zs. lists_asked place path above (directory_names es) ++ zs) rest_is)
    ∙ sym (append_assoc (files_asked place path above (file_names es)) (lists_asked place path above (directory_names es)) rest)

pub stack_popped : (todo left : List Inner) (inner : Inner) → todo ≡ left ++ inner ∷ [] → stack_of todo ≡ inner_shown inner ∷ stack_of left
stack_popped todo left inner is =
    ap stack_of is ∙ ap reverse (map-append inner_shown left (inner ∷ [])) ∙ reverse-append (map inner_shown left) (inner_shown inner ∷ [])

-- ---- what is next

pub file_next : (place : PlaceValue) (path : List ℕ) (above files rest : List (List ℕ)) (todo left : List Inner) (name : List ℕ) (n : ℕ)
    → files ≡ name ∷ rest → left ≡ todo
    → walk_of (file_asked place path (above ++ name ∷ []) ∷ to_meet place path above rest (stack_of left)) n
    ≡ walk_of (to_meet place path above files (stack_of todo)) n
file_next place path above files rest todo left name n files_is left_is = walk_same _ _ n n
    (ap (λ l. file_asked place path (above ++ name ∷ []) ∷ to_meet place path above rest (stack_of l)) left_is
    ∙ ap (λ fs. to_meet place path above fs (stack_of todo)) (sym files_is))
    refl

pub directory_next : (place : PlaceValue) (path : List ℕ) (above files rest : List (List ℕ)) (todo left : List Inner) (inner : Inner)
    (n : ℕ)
    → files ≡ [] → rest ≡ [] → todo ≡ left ++ inner ∷ []
    → walk_of (inner_asked place path above (inner_shown inner) ∷ to_meet place path above rest (stack_of left)) n
    ≡ walk_of (to_meet place path above files (stack_of todo)) n
directory_next place path above files rest todo left inner n files_is rest_is todo_is = walk_same _ _ n n
    (ap (λ rs. inner_asked place path above (inner_shown inner) ∷ to_meet place path above rs (stack_of left)) rest_is
    ∙ sym (ap (λ fs. to_meet place path above fs (stack_of todo)) files_is
    ∙ ap (to_meet place path above []) (stack_popped todo left inner todo_is)))
    refl

pub is_next : (r x : Next) (count : ℕ) (files rest : List (List ℕ)) (todo left : List Inner) → r ≡ x → IsNext r count files rest todo left →
    IsNext x count files rest todo left
is_next r x count files rest todo left is next = subst (λ (y : Next). IsNext y count files rest todo left) is next

-- nothing is left of a tree, or it has so many nodes
pub done_where : (place : PlaceValue) (path : List ℕ) (above files rest : List (List ℕ)) (todo left : List Inner) (r : Next) (count n : ℕ)
    → IsNext r count files rest todo left → r ≡ nexts.Nothing → count ≡ n →
    IsDone (walk_of (to_meet place path above files (stack_of todo)) (n + 1))
done_where place path above files rest todo left r count n next nothing is =
    go (subst (λ (x : Next). IsNext x count files rest todo left) nothing next)
  where
    go : IsNext nexts.Nothing count files rest todo left → IsDone (walk_of (to_meet place path above files (stack_of todo)) (n + 1))
    go (inl full) = inr (omega (arith, full, is))
    go (inr none) = inl (ap (λ fs. to_meet place path above fs (stack_of todo)) none.0
        ∙ ap (λ td. to_meet place path above [] (stack_of td)) none.1)

-- ---- what one question comes to

-- an output was looked at
pub looked : (place : PlaceValue) (path : List ℕ) (a : Result FolderAnswer ErrorKind) (left : List FolderQuestion)
    → entries_told (look_asked place path) a ≡ left → Moves no_walk (look_asked place path) a (walk_of left 0)
looked place path a left is =
    (refl, [], refl, walk_same _ _ _ _ (sym (append-nil (entries_told (look_asked place path) a) ∙ is)) refl)

-- a piece was read
pub piece_read : (w now : Walk) (place : PlaceValue) (path : List ℕ) (names : List (List ℕ)) (from most : ℕ)
    (a : Result FolderAnswer ErrorKind)
    → 0 < most → now ≡ w → Moves w (bytes_asked place path names from most) a now
piece_read w now place path names from most a some is =
    (some, w.left, refl, is ∙ walk_same w.left w.left w.nodes (0 + w.nodes) refl (omega arith))

pub tree_kept : (place : PlaceValue) (t now : Tree) (n m : ℕ) → now.path ≡ t.path → now.nodes.above ≡ t.nodes.above → now.files ≡ t.files →
    now.todo ≡ t.todo → n ≡ m
    → walk_of (tree_to_meet place now) n ≡ walk_of (tree_to_meet place t) m
tree_kept place t now n m path above files todo is = walk_same _ _ n m
    (ap (λ s. to_meet place (string_bytes s) now.nodes.above (map string_bytes now.files.items) (stack_of now.todo.items)) path
    ∙ ap (λ ab. to_meet place (string_bytes t.path) ab (map string_bytes now.files.items) (stack_of now.todo.items)) above
    ∙ ap (λ fs. to_meet place (string_bytes t.path) t.nodes.above (map string_bytes fs.items) (stack_of now.todo.items)) files
    ∙ ap (λ td. to_meet place (string_bytes t.path) t.nodes.above (map string_bytes t.files.items) (stack_of td.items)) todo)
    is

pub stack_kept : (t now : Tree) → now.nodes.above ≡ t.nodes.above → now.todo ≡ t.todo → IsTreeStack t → IsTreeStack now
stack_kept t now above todo stack =
    subst (λ ns. IsStack (length ns + 1) (stack_of now.todo.items)) (sym above)
    (subst (λ td. IsStack (length t.nodes.above + 1) (stack_of td.items)) (sym todo) stack)

-- a file of an output directory was looked at
pub file_looked : (place : PlaceValue) (t : Tree) (path asked_path : List ℕ) (names asked : List (List ℕ))
    (a : Result FolderAnswer ErrorKind) (k m : ℕ)
    → length t.nodes.nodes < most_nodes → asked_path ≡ path → asked ≡ names → nodes_met (file_asked place asked_path asked) a ≡ k →
    m ≡ k + (length t.nodes.nodes + 1)
    → Moves (walk_before place t (file_asked place path names)) (file_asked place asked_path asked) a (walk_of (tree_to_meet place t) m)
file_looked place t path asked_path names asked a k m few path_is names_are met is = (
  omega (arith, few),
  tree_to_meet place t,
  sym (ap (λ p. file_asked place p asked ∷ tree_to_meet place t) path_is
      ∙ ap (λ ns. file_asked place path ns ∷ tree_to_meet place t) names_are),
  walk_same _ _ _ _ refl (omega (arith, met, is)),
)

-- an output directory was listed
pub output_listed : (place : PlaceValue) (path asked_path : List ℕ) (r : Result (Vec Entry) Error) (es : Vec Entry)
    (above : List (List ℕ)) (nodes : List OutputNode) (files : List (String Global)) (todo : List Inner) (files_old : List (List ℕ))
    (todo_old : List InnerValue)
    → r ≡ Ok es → asked_path ≡ path → above ≡ [] → nodes ≡ [] → todo_old ≡ [] → files_old ≡ []
    → map string_bytes files ≡ file_names (map entry_shown es.items) ++ files_old
    → map inner_shown todo ≡ todo_old ++ reverse (inners_of 1 (map entry_shown es.items))
    → Moves (walk_of (list_asked place path [] most_nodes ∷ []) 0) (list_asked place asked_path [] most_nodes) (entries_of r)
    (walk_of (to_meet place path above (map string_bytes files) (stack_of todo)) (length nodes + 1))
output_listed place path asked_path r es above nodes files todo files_old todo_old is path_is above_is none todo_is files_is now_files
    now_todo =
    let all : List EntryValue = map entry_shown es.items in (
      zero-le,
      [],
      sym (ap (λ p. list_asked place p [] most_nodes ∷ []) path_is),
      walk_same _ _ _ _
          (ap (λ ab. to_meet place path ab (map string_bytes files) (stack_of todo)) above_is
          ∙ listed_next place path [] 1 all (map string_bytes files) [] todo [] refl refl
          (now_files ∙ ap (λ fs. file_names all ++ fs) files_is ∙ append-nil (file_names all))
          (now_todo ∙ ap (λ td. td ++ reverse (inners_of 1 all)) todo_is)
          ∙ sym (ap (λ x. entries_told (list_asked place asked_path [] most_nodes) (entries_of x) ++ []) is
          ∙ ap (λ p. (files_asked place p [] (file_names all) ++ lists_asked place p [] (directory_names all)) ++ []) path_is))
          (ap (λ ns. length ns + 1) none ∙ sym (ap (λ x. nodes_met (list_asked place asked_path [] most_nodes) (entries_of x) + 0) is)),
    )

-- a directory in an output directory was listed
pub inner_listed : (place : PlaceValue) (t : Tree) (path : String Global) (above : List (List ℕ)) (files : List (String Global))
    (todo : List Inner) (count : ℕ) (inner : Inner) (level : ℕ) (asked_path : List ℕ) (asked : List (List ℕ))
    (r : Result (Vec Entry) Error) (es : Vec Entry) → r ≡ Ok es
    → IsStack (length t.nodes.above + 1) (inner_shown inner ∷ stack_of t.todo.items) → map string_bytes t.files.items ≡ [] →
    length t.nodes.nodes < most_nodes
    → path ≡ t.path → above ≡ names_at t.nodes.above inner.level (string_bytes inner.name) → count ≡ length t.nodes.nodes + 1
    → asked_path ≡ string_bytes t.path → asked ≡ above → level ≡ inner.level + 1
    → map string_bytes files ≡ file_names (map entry_shown es.items) →
    map inner_shown todo ≡ map inner_shown t.todo.items ++ reverse (inners_of level (map entry_shown es.items))
    → Moves (walk_before place t (inner_asked place (string_bytes t.path) t.nodes.above (inner_shown inner)))
    (list_asked place asked_path asked most_nodes) (entries_of r)
    (walk_of (to_meet place (string_bytes path) above (map string_bytes files) (stack_of todo)) (count + 1))
inner_listed place t path above files todo count inner level asked_path asked r es is stack none few path_kept above_is more path_is
    names_are level_is files_are todo_is =
    let all : List EntryValue = map entry_shown es.items in
    let own : List (List ℕ) = names_at t.nodes.above inner.level (string_bytes inner.name) in
    let rest : List FolderQuestion = tree_to_meet place t in
    let size : length own ≡ inner.level = length_named t.nodes.above inner.level (string_bytes inner.name) stack.0 stack.1 in
    let kept : map (inner_asked place (string_bytes t.path) own) (stack_of t.todo.items) ≡ rest =
    stack_same place (string_bytes t.path) t.nodes.above inner.level (string_bytes inner.name) (stack_of t.todo.items) stack.1 stack.2
    ∙ sym (ap (λ fs. to_meet place (string_bytes t.path) t.nodes.above fs (stack_of t.todo.items)) none) in
    let names : asked ≡ own = names_are ∙ above_is in
    let met : nodes_met (list_asked place asked_path asked most_nodes) (entries_of r) ≡ 1 =
    ap (λ x. nodes_met (list_asked place asked_path asked most_nodes) (entries_of x)) is in (
      omega (arith, few),
      rest,
      sym (ap (λ p. list_asked place p asked most_nodes ∷ rest) path_is
          ∙ ap (λ ns. list_asked place (string_bytes t.path) ns most_nodes ∷ rest) names),
      walk_same _ _ _ _
          (ap (λ s. to_meet place (string_bytes s) above (map string_bytes files) (stack_of todo)) path_kept
          ∙ ap (λ ab. to_meet place (string_bytes t.path) ab (map string_bytes files) (stack_of todo)) above_is
          ∙ listed_next place (string_bytes t.path) own level all (map string_bytes files) t.todo.items todo rest
          (omega (arith, level_is, size)) kept files_are todo_is
          ∙ sym (ap (λ x. entries_told (list_asked place asked_path asked most_nodes) (entries_of x) ++ rest) is
          ∙ ap (λ p. (files_asked place p asked (file_names all) ++ lists_asked place p asked (directory_names all)) ++ rest) path_is
          ∙ ap (λ ns. (files_asked place (string_bytes t.path) ns (file_names all)
          ++ lists_asked place (string_bytes t.path) ns (directory_names all)) ++ rest) names))
          (omega (arith, more, met)),
    )

-- and what is stacked then
pub inner_stacked : (t : Tree) (above : List (List ℕ)) (todo : List Inner) (inner : Inner) (level : ℕ) (es : List EntryValue)
    → IsStack (length t.nodes.above + 1) (inner_shown inner ∷ stack_of t.todo.items) →
    above ≡ names_at t.nodes.above inner.level (string_bytes inner.name) → level ≡ inner.level + 1
    → map inner_shown todo ≡ map inner_shown t.todo.items ++ reverse (inners_of level es) → IsStack (length above + 1) (stack_of todo)
inner_stacked t above todo inner level es stack above_is level_is todo_is =
    let size = ap length above_is ∙ length_named t.nodes.above inner.level (string_bytes inner.name) stack.0 stack.1 in
    let e : level ≡ length above + 1 = omega (arith, level_is, size) in
    subst (λ n. IsStack n (stack_of todo)) e
    (subst (IsStack level) (sym (stack_put t.todo.items todo level es todo_is))
    (stack_listed level es (stack_of t.todo.items) (omega (arith, level_is))
    (stack_more inner.level level (stack_of t.todo.items) (omega (arith, level_is)) stack.2)))

pub output_stacked : (above : List (List ℕ)) (todo : List Inner) (es : List EntryValue) (todo_old : List InnerValue)
    → above ≡ [] → todo_old ≡ [] → map inner_shown todo ≡ todo_old ++ reverse (inners_of 1 es) → IsStack (length above + 1) (stack_of todo)
output_stacked above todo es todo_old above_is none todo_is =
    subst (λ ns. IsStack (length ns + 1) (stack_of todo)) (sym above_is)
    (subst (IsStack 1) (sym (stack_put [] todo 1 es (todo_is ∙ ap (λ td. td ++ reverse (inners_of 1 es)) none)))
    (stack_listed 1 es [] (omega arith) tt))

-- one is taken from the stack
pub stack_taken : (n : ℕ) (todo left : List Inner) (inner : Inner) → todo ≡ left ++ inner ∷ [] → IsStack n (stack_of todo) →
    IsStack n (inner_shown inner ∷ stack_of left)
stack_taken n todo left inner is stack = subst (IsStack n) (stack_popped todo left inner is) stack

pub stack_left : (n : ℕ) (left : List Inner) (inner : Inner) → IsStack n (inner_shown inner ∷ stack_of left) → IsStack n (stack_of left)
stack_left n left inner stack = stack_more inner.level n (stack_of left) stack.1 stack.2

-- ---- of nodes

after_short : (above : List (List ℕ)) (n : OutputNode) (k : OutputNodeKind) → length (above_after above n k) ≤ length above + 1
after_short above n (node_kinds.File content is_executable) = let front = length-take (n.level - 1) above in omega (arith, front)
after_short above n node_kinds.Directory =
    let front = length-take (n.level - 1) above in
    let split = length-append (take (n.level - 1) above) (string_bytes n.name ∷ []) in
    omega (arith, front, split)

-- no more names stand above than there are nodes
pub above_short : (above : List (List ℕ)) (ns : List OutputNode) → length (above_all above ns) ≤ length above + length ns
above_short above [] = omega arith
above_short above (n ∷ ns) =
    let more = above_short (above_after above n n.kind) ns in
    let one = after_short above n n.kind in
    omega (arith, more, one)

-- names are no more than nodes, which are few
pub few_above : (above : List (List ℕ)) (ns : List OutputNode) → above ≡ above_all [] ns → length ns < most_nodes →
    length above < most_nodes
few_above above ns is few =
    let names = ap length is in
    let short = above_short [] ns in
    omega (arith, names, short, few)
