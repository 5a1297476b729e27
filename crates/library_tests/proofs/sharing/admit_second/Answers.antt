use Rattle.library_tests.proofs.Beside.{beside_swapped}
use Rattle.library_tests.proofs.sharing.admit_second.Goals as goal

pub admit_beside-requires : goal.admit_beside-requires
admit_beside-requires c = beside_swapped 10 c.args.pool.now c.args.first.now c.args.second.now c.requires

pub returns : goal.returns
returns c = beside_swapped 10 c.admit_beside.new.pool c.admit_beside.new.view c.args.first.now c.admit_beside.ensures
