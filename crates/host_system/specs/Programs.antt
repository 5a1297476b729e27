-- What commands of this host start, and how its programs end.
use Rattle.std.specs.Prelude.{◌∷◌}
use Rattle.std.specs.Process.{clears_env, command_args, command_dir, command_program, command_var, exit_code, exit_signal}
use Rattle.std.specs.declared.process.command.Command.{Command}
use Rattle.std.specs.declared.process.status.ExitStatus.{ExitStatus}
use Rattle.system.specs.Starting.{Start}
use Rattle.system.specs.declared.programs.Ending.{Ending}

abbrev pub start_of : {A : Type 0} → Command A → Start
start_of c = record {
  words = command_program c ∷ command_args c;
  clears_env = clears_env c;
  variable = command_var c;
  directory = command_dir c;
}

abbrev pub ending_of : ExitStatus → Ending
ending_of s = record { code = exit_code s; signal = exit_signal s }
