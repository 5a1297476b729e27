-- What is gathered and told, one thing after another.
use Rattle.std.proofs.Common.{◌≡◌, ℕ, ◌+◌, ◌-◌, List, [], ◌∷◌, ◌++◌, take, length, refl, ap, sym, ◌∙◌, append-nil, append_assoc, length-append, arith}
use Rattle.std.specs.Prelude.{string_bytes}
use Rattle.std.specs.Rc.{rc_str_bytes}
use Rattle.run_calls.specs.declared.task.RunKey.{RunKey}
use Rattle.run_calls.specs.declared.node.TaskNode.{TaskNode}
use Rattle.run_calls.specs.declared.node.TaskNodeKind.{TaskNodeKind}
use Rattle.run_calls.specs.declared.node.TaskNodeKind.TheVariants as node_kinds
use Rattle.run_calls.specs.declared.programs.Stream.{Stream}
use Rattle.run_calls.specs.declared.outcome.OutputNode.{OutputNode}
use Rattle.run_calls.specs.declared.outcome.Output.{Output}
use Rattle.run_calls.specs.Values.{PlaceValue}
use Rattle.runner.specs.Made.{names_at, above_then}
use Rattle.runner.specs.Gathered.{ItemValue, byte_at, numbered, node_items, nodes_items, above_after, above_all, kind_items, output_items}
use Rattle.runner.specs.Told.{stream_byte, stream_bytes}
use Rattle.runner.specs.Steps.{above_behind}

pub numbered_append : (place : PlaceValue) (path : List ℕ) (names : List (List ℕ)) (from : ℕ) (xs ys : List ℕ)
    → numbered place path names from (xs ++ ys) ≡ numbered place path names from xs ++ numbered place path names (from + length xs) ys
numbered_append place path names from [] ys = ap (λ n. numbered place path names n ys) (omega arith)
numbered_append place path names from (x ∷ xs) ys =
    let e : (from + 1) + length xs ≡ from + length (x ∷ xs) = omega arith in
    ap (λ zs. byte_at place path names from x ∷ zs)
    (numbered_append place path names (from + 1) xs ys
    ∙ ap (λ n. numbered place path names (from + 1) xs ++ numbered place path names n ys) e)

pub stream_append : (run : RunKey) (s : Stream) (from : ℕ) (xs ys : List ℕ)
    → stream_bytes run s from (xs ++ ys) ≡ stream_bytes run s from xs ++ stream_bytes run s (from + length xs) ys
stream_append run s from [] ys = ap (λ n. stream_bytes run s n ys) (omega arith)
stream_append run s from (x ∷ xs) ys =
    let e : (from + 1) + length xs ≡ from + length (x ∷ xs) = omega arith in
    ap (λ zs. stream_byte run s from x ∷ zs)
    (stream_append run s (from + 1) xs ys ∙ ap (λ n. stream_bytes run s (from + 1) xs ++ stream_bytes run s n ys) e)

pub nodes_items_append : (place : PlaceValue) (path : List ℕ) (above : List (List ℕ)) (xs : List OutputNode) (n : OutputNode)
    → nodes_items place path above (xs ++ n ∷ []) ≡ nodes_items place path above xs
    ++ node_items place path (names_at (above_all above xs) n.level (string_bytes n.name)) n.kind
nodes_items_append place path above [] n = append-nil (node_items place path (names_at above n.level (string_bytes n.name)) n.kind)
nodes_items_append place path above (x ∷ xs) n =
    let at : List (List ℕ) = above_after above x x.kind in
    let one : List ItemValue = node_items place path (names_at above x.level (string_bytes x.name)) x.kind in
    ap (λ zs. one ++ zs) (nodes_items_append place path at xs n)
    ∙ sym (append_assoc one (nodes_items place path at xs)
    (node_items place path (names_at (above_all at xs) n.level (string_bytes n.name)) n.kind))

pub above_all_append : (above : List (List ℕ)) (xs : List OutputNode) (n : OutputNode) →
    above_all above (xs ++ n ∷ []) ≡ above_after (above_all above xs) n n.kind
above_all_append above [] n = refl
above_all_append above (x ∷ xs) n = above_all_append (above_after above x x.kind) xs n

pub output_items_append : (place : PlaceValue) (xs : List Output) (o : Output) →
    output_items place (xs ++ o ∷ []) ≡ output_items place xs ++ kind_items place (string_bytes o.path) o.kind
output_items_append place [] o = append-nil (kind_items place (string_bytes o.path) o.kind)
output_items_append place (x ∷ xs) o =
    ap (λ zs. kind_items place (string_bytes x.path) x.kind ++ zs) (output_items_append place xs o)
    ∙ sym (append_assoc (kind_items place (string_bytes x.path) x.kind) (output_items place xs)
    (kind_items place (string_bytes o.path) o.kind))

front : {A : Type 0} (xs ys : List A) → take (length xs) (xs ++ ys) ≡ xs
front [] ys = refl
front (z ∷ zs) ys = ap (λ ws. z ∷ ws) (front zs ys)

-- the last is taken off again
pub all_but_last : {A : Type 0} (xs : List A) (x : A) → take (length (xs ++ x ∷ []) - 1) (xs ++ x ∷ []) ≡ xs
all_but_last xs x =
    let e : length (xs ++ x ∷ []) - 1 ≡ length xs = omega (arith, length-append xs (x ∷ [])) in
    ap (λ k. take k (xs ++ x ∷ [])) e ∙ front xs (x ∷ [])

pub behind_is_then : (above names : List (List ℕ)) (n : TaskNode) (kind : TaskNodeKind) →
    names ≡ names_at above n.level (rc_str_bytes n.name) → above_behind names kind ≡ above_then above n kind
behind_is_then above names n (node_kinds.File number is_executable) is =
    ap (λ ns. take (length ns - 1) ns) is ∙ all_but_last (take (n.level - 1) above) (rc_str_bytes n.name)
behind_is_then above names n (node_kinds.Symlink target) is =
    ap (λ ns. take (length ns - 1) ns) is ∙ all_but_last (take (n.level - 1) above) (rc_str_bytes n.name)
behind_is_then above names n node_kinds.Directory is = is
behind_is_then above names n (node_kinds.Made directory) is =
    ap (λ ns. take (length ns - 1) ns) is ∙ all_but_last (take (n.level - 1) above) (rc_str_bytes n.name)

pub output_added : (place : PlaceValue) (old new : List Output) (o : Output) → new ≡ old ++ o ∷ [] →
    output_items place new ≡ output_items place old ++ kind_items place (string_bytes o.path) o.kind
output_added place old new o pushed = ap (output_items place) pushed ∙ output_items_append place old o
