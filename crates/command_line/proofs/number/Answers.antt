use Rattle.std.specs.Str.Parse.{ExplainsUnsignedError, HasUnsignedDigitsIfOk, ParsesUnsigned}
use Rattle.clap.specs.Words.{found_of}
use Rattle.command_line.proofs.Matched.{number_given}
use Rattle.command_line.proofs.number.Goals as goal

pub returns : goal.returns
returns c = number_given _ (λ bs r. ParsesUnsigned 64 10 bs r × ExplainsUnsignedError 10 bs r × HasUnsignedDigitsIfOk bs r)
    (found_of c.args.found.now) c.args.name.now c.get_one.result (λ u x g. g.0) c.get_one.ensures.none (λ t p. c.get_one.ensures.value t p)
