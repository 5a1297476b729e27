use Rattle.std.proofs.Common.{◌≡◌, Ok, ap, map}
use Rattle.script.specs.UnaryLinesRead.{lines_value}
use Rattle.script.specs.UnaryScript.{unary_script_of}
use Rattle.script.specs.UnaryShown.{entry_value}
use Rattle.script.proofs.WellFormedLemmas.{IsWellFormed-unary_script_of, KnowsInstances-read}
use Rattle.script.proofs.unary.parser.parse.Goals as goal

pub returns-clause-script : goal.returns-clause-script
returns-clause-script c =
    let read : unary_script_of c.args.text.now ≡ Ok (lines_value c.read_lines.new.script) =
    rw (ap (map entry_value) c.with_hasher.ensures.empty, c.new.ensures.items) at c.in_ok-read_lines.ensures.read in
    rw (c.in_ok-instances.ensures) read

pub returns-clause-instances : goal.returns-clause-instances
returns-clause-instances c =
    let read : unary_script_of c.args.text.now ≡ Ok (lines_value c.read_lines.new.script) =
    rw (ap (map entry_value) c.with_hasher.ensures.empty, c.new.ensures.items) at c.in_ok-read_lines.ensures.read in
    rw (c.in_ok-instances.ensures) (IsWellFormed-unary_script_of c.args.text.now (lines_value c.read_lines.new.script) read).instances

pub returns-clause-commands : goal.returns-clause-commands
returns-clause-commands c =
    let read : unary_script_of c.args.text.now ≡ Ok (lines_value c.read_lines.new.script) =
    rw (ap (map entry_value) c.with_hasher.ensures.empty, c.new.ensures.items) at c.in_ok-read_lines.ensures.read in
    KnowsInstances-read c.read_lines.new.script c.in_ok-instances.instances c.in_ok-instances.ensures
    (IsWellFormed-unary_script_of c.args.text.now (lines_value c.read_lines.new.script) read).commands
