-- Invocations and faults as clauses see them.
use Rattle.std.specs.Prelude.{◌≡◌, ◌≢◌, ◌⊎◌, ⊤, false, List, [], map, option_map, Option, None}
use Rattle.clap.specs.Words.{App, Rule, Shape, Text, app_of, kind_of, rule_of, shape_of, subcommand_of}
use Rattle.clap.specs.Faults.{fault_of}
use Rattle.clap.specs.Kinds.{IsAmong}
use Rattle.clap.specs.declared.builder.arg.Arg.{Arg}
use Rattle.clap.specs.declared.builder.command.Command.{Command}
use Rattle.clap.specs.declared.builder.command.Command.TheViews.{out-Command as fields_of}
use Rattle.clap.specs.declared.error.Error.{Error}
use Rattle.clap.specs.declared.error.kind.ErrorKind.TheVariants.{ValueValidation, OutOfMemory}
use Rattle.instance_limits.specs.Shown.{limits_value}
use Rattle.command_line.specs.declared.Invocation.{Invocation}
use Rattle.command_line.specs.declared.Invocation.TheVariants as invocation
use Rattle.command_line.specs.declared.CommandLineError.{CommandLineError}
use Rattle.command_line.specs.declared.CommandLineError.TheVariants.{NoMemory, Answered}
use Rattle.command_line.specs.CommandLine.{InvocationValue, unary, replay, serve, probe, check, figures, command_line, invocation_of}

abbrev pub invocation_value : Invocation → InvocationValue
invocation_value (invocation.Unary file limits) =
    unary (option_map (λ f. f.now) file) (limits_value limits)
invocation_value (invocation.Replay file limits) = replay file.now (limits_value limits)
invocation_value (invocation.Serve s) =
    serve s.work.now (option_map (λ l. l.now) s.launcher) s.made_trees s.turns
    s.listen.now (option_map (λ f. f.now) s.metrics) (option_map (λ f. f.now) s.stop)
    (option_map (λ f. f.now) s.end) (option_map (λ l. l.now) s.links) (limits_value s.limits)
    (map (λ word. word.now) s.instances.items)
invocation_value (invocation.Probe port send want turns) = probe port send.now want turns
invocation_value (invocation.Check c) =
    check c.port c.host.now (option_map (λ n. n.now) c.instance) c.seconds
invocation_value (invocation.Figures metrics instance) =
    figures metrics.now (option_map (λ n. n.now) instance)

-- an argument with this rule, which is for its own command alone
abbrev pub HasRule : Rule → Arg → Type 0
HasRule rule argument = (rule_of argument ≡ rule) × (argument.global ≡ false)

-- the arguments of a command are for it alone
abbrev pub IsLocal : Command → Type 0
IsLocal command = (fields_of command).has_globals ≡ false

-- a command that is this one, whose arguments are for it alone
abbrev pub HasApp : App → Command → Type 0
HasApp app command = (app_of command ≡ app) × IsLocal command

-- a command of this shape, whose arguments are for it alone
abbrev pub HasShape : Shape → Command → Type 0
HasShape shape command = (shape_of command ≡ shape) × IsLocal command

-- what the words of a command line ask for
abbrev pub invocation_asked : List Text → Option InvocationValue
invocation_asked words = invocation_of (subcommand_of command_line words)

-- `clap` finds no fault in the words
abbrev pub HasNoFault : List Text → Type 0
HasNoFault words = fault_of command_line words ≡ []

-- the text is for one of the faults that `clap` finds in the words, or for a bad value where they
-- ask for nothing
abbrev pub IsFaultOf : List Text → CommandLineError → Type 0
IsFaultOf words NoMemory = ⊤
IsFaultOf words (Answered error) =
    IsAmong (kind_of error) (fault_of command_line words)
    ⊎ ((kind_of error ≡ ValueValidation) × (invocation_asked words ≡ None))

-- an error of `clap` as the crate's own: it is kept, but for want of memory
abbrev pub IsFrom : Error → CommandLineError → Type 0
IsFrom error NoMemory = kind_of error ≡ OutOfMemory
IsFrom error (Answered kept) = (kept ≡ error) × (kind_of error ≢ OutOfMemory)
