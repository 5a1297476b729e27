use Rattle.tree_calls.proofs.Named.{pages_named}
use Rattle.tree_calls.proofs.laws.pages_given_are_named.Goals as goal

pub returns : goal.returns
returns c = λ limit quota own request visible messages within h. pages_named own visible request messages within.named h
