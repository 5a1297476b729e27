use Rattle.std.proofs.Common.{rules, ◌≡◌, true, false, List, [], map, ap, ◌∙◌}
use Rattle.std.specs.Global.{Global}
use Rattle.std.specs.declared.collections.VecDeque.{VecDeque}
use Rattle.std.specs.List.{list_all}
use Rattle.input_tree.specs.Directories.{is_directory}
use Rattle.tree_messages.specs.Directories.{DirectoryValue}
use Rattle.outcomes.specs.declared.folder.Folder.{Folder}
use Rattle.outcomes.specs.Gathering.{folder_shown, open_shown}
use Rattle.run_calls.specs.Shown.{nodes_shown}
use Rattle.outcomes.specs.Trees.{below_root, children_of, root_of, with_children}
use Rattle.outcomes.proofs.Completed.{no_below, no_root, root_is, tree_found}
use Rattle.outcomes.proofs.tree.gathered_tree.Goals as goal

pub returns-then-not-branch : goal.returns-then-not-branch
returns-then-not-branch c =
    let root : folder_shown c.close-root.result ≡ root_of c.args.like.now (nodes_shown c.args.nodes.now) =
    root_is c.args.like.now (nodes_shown c.args.nodes.now) c.in_ok-gathering.gathering (open_shown c.in_ok-take_open.field-0)
    (folder_shown c.close-root.result) (map open_shown c.take_open.new.going.items) c.requires c.in_ok-gathering.ensures
    c.close-root.ensures c.in_ok-take_open.ensures in
    let denied : is_directory (folder_shown c.close-root.result) ≡ false = search (rules, c.in_ok-is_taken.ensures, c.if-not-branch.true) in
    no_root c.args.like.now (nodes_shown c.args.nodes.now) (folder_shown c.close-root.result) c.requires root denied

pub returns-then-not-gathering : goal.returns-then-not-gathering
returns-then-not-gathering c =
    let denied : list_all is_directory (below_root c.args.like.now (nodes_shown c.args.nodes.now)) ≡ false =
    search (rules, c.in_ok-gathering.ensures.taken, c.if-not-gathering.true) in
    no_below c.args.like.now (nodes_shown c.args.nodes.now) c.requires denied

pub returns : goal.returns
returns c =
    let root : folder_shown c.close-root.result ≡ root_of c.args.like.now (nodes_shown c.args.nodes.now) =
    root_is c.args.like.now (nodes_shown c.args.nodes.now) c.in_ok-gathering.gathering (open_shown c.in_ok-take_open.field-0)
    (folder_shown c.close-root.result) (map open_shown c.take_open.new.going.items) c.requires c.in_ok-gathering.ensures
    c.close-root.ensures c.in_ok-take_open.ensures in
    let taken : is_directory (folder_shown c.close-root.result) ≡ true = search (rules, c.in_ok-is_taken.ensures, c.if-not-branch.false) in
    let below : list_all is_directory (below_root c.args.like.now (nodes_shown c.args.nodes.now)) ≡ true =
    search (rules, c.in_ok-gathering.ensures.taken, c.if-not-gathering.false) in
    let children : List DirectoryValue = with_children [] (map folder_shown c.into_closed.result.items) in
    let all : children ≡ children_of c.args.like.now (nodes_shown c.args.nodes.now) =
    ap (λ (fs : VecDeque Folder Global). with_children [] (map folder_shown fs.items)) c.into_closed.ensures
    ∙ ap (λ (vs : List DirectoryValue). with_children [] vs) c.in_ok-gathering.ensures.closed in
    tree_found c.args.like.now (nodes_shown c.args.nodes.now)
    (folder_shown c.close-root.result) children c.in_ok-text.text.items c.requires root taken below all c.in_ok-text.ensures
