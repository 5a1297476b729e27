use Rattle.std.proofs.Common.{◌<◌}
use Rattle.std.specs.Prelude.{IfSome}
use Rattle.served_instance.specs.Lone.{LoneInstance}
use Rattle.server_core.specs.StandsFor.{StandsAt}
use Rattle.serve.proofs.Silence.{IsLongestBefore}
use Rattle.serve.proofs.open_socket.longest_silent.Given as goal

abbrev pub invariant-loop-place : goal.invariant-loop-place
invariant-loop-place l = record {
  found : IfSome l.longest (λ n. n < l.place);
  longest : (lone : LoneInstance) → StandsAt l.instance l.server.instances lone →
      IsLongestBefore l.place l.instance l.moment lone l.connections l.longest l.heard;
}
