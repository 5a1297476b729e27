use Rattle.std.proofs.Common.{rules, refl, None}
use Rattle.run_shells.proofs.Folders.{added}
use Rattle.run_shells.proofs.removing_shell.RemovingShells.place_of.Goals as goal

pub returns-clause-added : goal.returns-clause-added
returns-clause-added g c = added c.args.number c.args.name.now
    (record { number = c.args.number; name = c.in_ok-from_str.field-0; place = None })
    c.args.self.now.waiting.items c.push.new.self.items
    (search rules) refl (search rules) refl
