use Rattle.std.proofs.Common.{rules}
use Rattle.work_folders.proofs.start_folder.StartFolder.guard_against_leases.Goals as goal
use Rattle.work_folders.proofs.start_folder.StartFolder.guard_against_leases.Goals.{in-Some-5, in-None-8}

pub returns-then-can_open : goal.returns-then-can_open
returns-then-can_open g c = elim c.match-self.branch [
  | in-Some-5 w ↦ record { same = rw w.self-is (search rules) }
  | in-None-8 w ↦ record { same = rw w.self-is (search rules) }
]
