use Rattle.outcomes.proofs.Root.{root_directories, root_files}
use Rattle.outcomes.proofs.laws.a_root_has_the_nodes_of_level_one.Goals as goal

pub returns-clause-files : goal.returns-clause-files
returns-clause-files c = λ like nodes h. root_files like 1 nodes h

pub returns-clause-directories : goal.returns-clause-directories
returns-clause-directories c = λ like nodes h. root_directories like 1 nodes h
