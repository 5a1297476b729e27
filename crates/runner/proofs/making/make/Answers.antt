use Rattle.runner.proofs.Bounds.{folder_once, programs_once}
use Rattle.runner.proofs.making.make.Goals as goal

pub returns-in-Root-clause-few : goal.returns-in-Root-clause-few
returns-in-Root-clause-few g c = folder_once _ _ _ c.make_root.ensures.few

pub returns-in-Nodes-clause-few : goal.returns-in-Nodes-clause-few
returns-in-Nodes-clause-few g c = folder_once _ _ _ c.make_node.ensures.few

pub returns-in-Writing-clause-few : goal.returns-in-Writing-clause-few
returns-in-Writing-clause-few g c = folder_once _ _ _ c.write_part.ensures.few

pub returns-in-Directory-clause-few : goal.returns-in-Directory-clause-few
returns-in-Directory-clause-few g c = folder_once _ _ _ c.make_directory.ensures.few

pub returns-in-Parents-clause-few : goal.returns-in-Parents-clause-few
returns-in-Parents-clause-few g c = folder_once _ _ _ c.make_parents.ensures.few

pub returns-in-Starting-clause-few : goal.returns-in-Starting-clause-few
returns-in-Starting-clause-few g c = programs_once _ _ _ c.start.ensures.few
