use Rattle.tree_calls.proofs.Pages.{list_given}
use Rattle.tree_calls.proofs.laws.pages_joined_are_the_list.Goals as goal

pub returns : goal.returns
returns c = λ own request visible messages h. list_given own visible request messages h
