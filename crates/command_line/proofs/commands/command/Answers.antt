use Rattle.std.proofs.Common.{◌≡◌, ◌∙◌, ap, codes}
use Rattle.clap.specs.Words.{app_of, new_app}
use Rattle.clap.specs.Simple.{app_of_fields}
use Rattle.command_line.specs.CommandLine.{check_command, probe_command, script_command, serve_command, with_version}
use Rattle.command_line.proofs.commands.command.Goals as goal

pub returns : goal.returns
returns c =
    let named : app_of c.version-command.result ≡ with_version (new_app (codes "remoted")) =
    ap app_of_fields c.version-command.ensures ∙ ap with_version c.described.ensures.0 in
    let calls = c.with_command-command.ensures _ (script_command (codes "unary")) named c.unary.ensures in
    let events = c.with_command-command-2.ensures _ (script_command (codes "replay")) calls c.replay.ensures in
    let probing = c.with_command-command-3.ensures _ probe_command events c.probe.ensures in
    let checking = c.with_command-command-4.ensures _ check_command probing c.check.ensures in
    c.with_command.ensures _ serve_command checking c.serve.ensures
