use Rattle.std.proofs.Common.{◌≡◌, ◌-◌, length, ap, refl, rules}
use Rattle.input_tree.proofs.Readings.{rest_is, step_given, step_less}
use Rattle.input_tree.proofs.directory_reading.DirectoryReading.step.Goals as goal

pub returns-in-Ok-clause-given : goal.returns-in-Ok-clause-given
returns-in-Ok-clause-given c =
    let rest = rest_is c.args.self.now.at c.args.self.now.text.items c.deref.result.now c.deref.ensures.value in
    let count : c.len.result ≡ length c.args.self.now.text.items = search rules in
    step_given c.args.self.now (record {
      text = c.args.self.now.text;
      at = c.len.result - c.in-Ok.left;
      taken = c.take_some.new.taken;
      is_bad = c.args.self.now.is_bad;
    }) c.in-Ok.left _ c.requires.left refl refl (ap (λ n. n - c.in-Ok.left) count) rest c.in-Ok.ensures.less c.in-Ok.ensures.nodes

pub returns-in-Ok-clause-less : goal.returns-in-Ok-clause-less
returns-in-Ok-clause-less c =
    let rest = rest_is c.args.self.now.at c.args.self.now.text.items c.deref.result.now c.deref.ensures.value in
    let count : c.len.result ≡ length c.args.self.now.text.items = search rules in
    step_less c.args.self.now (record {
      text = c.args.self.now.text;
      at = c.len.result - c.in-Ok.left;
      taken = c.take_some.new.taken;
      is_bad = c.args.self.now.is_bad;
    }) c.in-Ok.left _ c.requires.left refl refl (ap (λ n. n - c.in-Ok.left) count) rest c.in-Ok.ensures.less
