-- What the types of a script stand for.
use Rattle.std.specs.Prelude.{ℕ, map}
use Rattle.std.specs.String.{string_bytes}
use Rattle.std.specs.declared.string.String.{String}
use Rattle.script.specs.declared.unary.command.Command.{Command}
use Rattle.script.specs.declared.unary.command.Command.TheVariants.{Put, Call}
use Rattle.script.specs.declared.unary.command.Instance.{Instance}
use Rattle.script.specs.declared.unary.command.UnaryScript.{UnaryScript}
use Rattle.script.specs.UnaryScript.{InstanceValue, CommandValue, UnaryScriptValue, put, call}

abbrev pub instance_value : Instance → InstanceValue
instance_value instance = record { name = string_bytes instance.name; quota = instance.quota }

-- an instance's name, and its quota
abbrev pub entry_value : {Z : Type 0} → String Z × ℕ → InstanceValue
entry_value entry = record { name = string_bytes entry.0; quota = entry.1 }

abbrev pub command_value : Command → CommandValue
command_value (Put instance content) = put instance content.items
command_value (Call instance method message) = call instance method message.items

abbrev pub unary_script_value : UnaryScript → UnaryScriptValue
unary_script_value script = record {
  instances = map instance_value script.instances.items;
  commands = map command_value script.commands.items;
}
