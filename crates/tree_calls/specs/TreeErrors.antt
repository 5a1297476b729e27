-- For the code alone: no promise speaks of it.
use Rattle.rpc.specs.declared.refusal.Refusal.TheVariants as Refused
use Rattle.input_tree.specs.declared.error.GetTreeError.{GetTreeError}
use Rattle.input_tree.specs.declared.error.GetTreeError.TheVariants as Tree
use Rattle.cas_service.specs.declared.error.CallError.{CallError}
use Rattle.cas_service.specs.declared.error.CallError.TheVariants as Call
use Rattle.tree_calls.specs.GetTree.{tree_refusal}

-- the same of a call, whose want of memory stays what it is
abbrev pub tree_error : GetTreeError → CallError
tree_error (Tree.Refused refusal) = Call.Refused (tree_refusal refusal)
tree_error Tree.NoMemory = Call.NoMemory
