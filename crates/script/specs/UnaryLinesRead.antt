-- What the lines of a script that were read so far say. For the code alone: no public contract
-- speaks of it.
use Rattle.std.specs.Prelude.{map}
use Rattle.script.specs.declared.unary.parser.UnaryLines.{UnaryLines}
use Rattle.script.specs.UnaryScript.{UnaryScriptValue}
use Rattle.script.specs.UnaryShown.{command_value, entry_value}

abbrev pub lines_value : UnaryLines → UnaryScriptValue
lines_value lines = record {
  instances = map entry_value lines.quotas.entries;
  commands = map command_value lines.commands.items;
}
