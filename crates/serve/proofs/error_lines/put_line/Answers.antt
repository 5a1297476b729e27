use Rattle.std.proofs.Common.{◌≡◌, [], refl, arith}
use Rattle.std.proofs.lemmas.Grind.{common_steps}
use Rattle.serve.proofs.FaultLines.{front_behind, front_then}
use Rattle.serve.proofs.error_lines.put_line.Goals as goal

pub returns-then-len-whole : goal.returns-then-len-whole
returns-then-len-whole g c =
    let none : c.write_some.new.bytes.items ≡ [] = grind (arith, common_steps) in
    record {
      told = (
        front_then _ _ _ c.args.backlog.now.rest.items c.write_some.new.bytes.items _ _ c.write_some.ensures
            (front_behind _ _ c.write_some.new.bytes.items _ _ _ none c.in-Ok.ensures c.write_some-in-Ok.ensures),
        refl,
      );
      counts = refl;
    }
