use Rattle.library_tests.proofs.Beside.{beside_after}
use Rattle.library_tests.proofs.sharing.admit_beside.Goals as goal

pub returns : goal.returns
returns c = beside_after 10 c.args.pool.now c.admit.new.pool c.args.view.now c.args.beside.now c.admit.new.view c.requires
    c.admit.ensures.limit c.admit.ensures.kept c.admit.ensures.moves
