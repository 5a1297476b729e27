-- Nodes that are added to those of an output directory.
use Rattle.std.proofs.Common.{◌≡◌, ℕ, ◌+◌, ◌-◌, Bool, List, [], ◌∷◌, ◌++◌, subst, take, length, refl, ap, sym, ◌∙◌}
use Rattle.std.specs.Prelude.{string_bytes, Option, Result, Ok, Err, IfOk}
use Rattle.run_calls.specs.declared.outcome.OutputNode.{OutputNode}
use Rattle.run_calls.specs.declared.outcome.OutputNodeKind.TheVariants.{File, Directory}
use Rattle.runner.specs.declared.tree.Tree.{Tree}
use Rattle.runner.specs.declared.stage.Gathering.{Gathering}
use Rattle.runner.specs.declared.stage.Stage.TheVariants as stages
use Rattle.runner.specs.declared.stage.Step.{Step}
use Rattle.run_calls.specs.Calls.{FolderCall}
use Rattle.runner.specs.Steps.{GoesWith, FolderGoes, FolderGoesWith}
use Rattle.runner.specs.Listed.{Walk, walk_at}
use Rattle.runner.specs.Sizes.{exited_length, nodes_length}
use Rattle.runner.proofs.Collect.{goes_from}
use Rattle.runner.proofs.Walks.{all_taken}
use Rattle.run_calls.specs.Values.{PlaceValue}
use Rattle.runner.specs.Made.{names_at}
use Rattle.runner.specs.Gathered.{file_item, found_item, directory_item, whole_file, node_items, nodes_items, output_items, above_after, above_all}
use Rattle.runner.proofs.Items.{nodes_items_append, above_all_append}

pub file_added : (place : PlaceValue) (path : List ℕ) (above : List (List ℕ)) (old new : List OutputNode) (n : OutputNode)
    (content : List ℕ) (is_executable : Bool)
    → above ≡ above_all [] old → new ≡ old ++ n ∷ [] → n.level ≡ length above + 1 → n.kind ≡ File content is_executable
    → nodes_items place path [] new ≡ nodes_items place path [] old
    ++ (file_item place path (above ++ string_bytes n.name ∷ []) is_executable ∷ whole_file place path
    (above ++ string_bytes n.name ∷ []) content)
file_added place path above old new n content is_executable so pushed level kind =
    ap (nodes_items place path []) pushed ∙ nodes_items_append place path [] old n
    ∙ ap (λ zs. nodes_items place path [] old ++ node_items place path (names_at zs n.level (string_bytes n.name)) n.kind) (sym so)
    ∙ ap (λ zs. nodes_items place path [] old ++ node_items place path (zs ++ string_bytes n.name ∷ []) n.kind)
    (all_taken above n.level level)
    ∙ ap (λ k. nodes_items place path [] old ++ node_items place path (above ++ string_bytes n.name ∷ []) k) kind

pub file_above : (above : List (List ℕ)) (old new : List OutputNode) (n : OutputNode) (content : List ℕ) (is_executable : Bool)
    → above ≡ above_all [] old → new ≡ old ++ n ∷ [] → n.level ≡ length above + 1 → n.kind ≡ File content is_executable →
    above ≡ above_all [] new
file_above above old new n content is_executable so pushed level kind =
    sym (ap (above_all []) pushed ∙ above_all_append [] old n ∙ ap (λ k. above_after (above_all [] old) n k) kind
    ∙ ap (take (n.level - 1)) (sym so) ∙ all_taken above n.level level)

pub directory_added : (place : PlaceValue) (path : List ℕ) (above : List (List ℕ)) (old new : List OutputNode) (n : OutputNode)
    → above ≡ names_at (above_all [] old) n.level (string_bytes n.name) → new ≡ old ++ n ∷ [] → n.kind ≡ Directory
    → nodes_items place path [] new ≡ nodes_items place path [] old ++ directory_item place path above ∷ []
directory_added place path above old new n so pushed kind =
    ap (nodes_items place path []) pushed ∙ nodes_items_append place path [] old n
    ∙ ap (λ k. nodes_items place path [] old ++ node_items place path (names_at (above_all [] old) n.level (string_bytes n.name)) k) kind
    ∙ ap (λ zs. nodes_items place path [] old ++ directory_item place path zs ∷ []) (sym so)

pub directory_above : (above : List (List ℕ)) (old new : List OutputNode) (n : OutputNode)
    → above ≡ names_at (above_all [] old) n.level (string_bytes n.name) → new ≡ old ++ n ∷ [] → n.kind ≡ Directory →
    above ≡ above_all [] new
directory_above above old new n so pushed kind =
    so ∙ sym (ap (above_all []) pushed ∙ above_all_append [] old n ∙ ap (λ k. above_after (above_all [] old) n k) kind)

-- a tree of which other entries are to be looked at
pub tree_goes : {E : Type 0} (before : Walk) (place : PlaceValue) (g : Gathering) (t t' : Tree) (r : Result Step E)
    (f h : Option (List FolderCall))
    → t'.path ≡ t.path → t'.nodes ≡ t.nodes → before ≡ walk_at place (stages.Tree g t)
    → IfOk r (λ step. FolderGoesWith before place (stages.Tree g t') step f h) →
    IfOk r (λ step. FolderGoes place (stages.Tree g t) step f h)
tree_goes before place g t t' (Ok s) f h path nodes one goes = λ text p.
    goes_from (walk_at place (stages.Tree g t)) text place (stages.Tree g t) (stages.Tree g t') s f h p p refl refl refl
    (ap (λ x. output_items place g.exited.outputs.items
    ++ (found_item place (string_bytes x) ∷ directory_item place (string_bytes x) [] ∷ nodes_items place (string_bytes x)
    [] t.nodes.nodes)) (sym path)
    ∙ ap (λ n. output_items place g.exited.outputs.items
    ++ (found_item place (string_bytes t'.path) ∷ directory_item place (string_bytes t'.path) [] ∷ nodes_items place
    (string_bytes t'.path) [] n.nodes)) (sym nodes))
    refl (ap (λ n. exited_length g.exited + nodes_length n.nodes) (sym nodes))
    (subst (λ (w : Walk). GoesWith w text place (stages.Tree g t') s f h p p) one (goes text p))
tree_goes before place g t t' (Err e) f h path nodes one goes = goes
