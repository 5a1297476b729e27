use Rattle.std.proofs.Common.{◌-◌, ◌≤◌, length}
use Rattle.grpc_sending.specs.StoredSending.{SourceTexts, QueuesEndWithin, KeepsSources, AddsNothing, sending_in}
use Rattle.grpc_sending.specs.SendingSteps.{IsDoneBelow}
use Rattle.grpc_sending.proofs.Pumping.{Pumping}
use Rattle.grpc_sending.proofs.Endings.{Ending}
use Rattle.grpc_sending.proofs.sender.Sender.pump.Given as goal

abbrev pub invariant-turns : goal.invariant-turns
invariant-turns g l = (Pumping l.fn.streams (sending_in (g.P.Parts.text_of l.parts) l.fn.self) l.streams
    (sending_in (g.P.Parts.text_of l.parts) l.self))
    × ((texts : SourceTexts) → QueuesEndWithin texts l.fn.self.queues → QueuesEndWithin texts l.self.queues) × KeepsSources l.fn.self l.self
    × AddsNothing l.fn.self l.self × Ending (g.P.Parts.text_of l.parts) l.fn.streams l.fn.self l.streams l.self
    × (length l.fn.self.pending ≤ 131055 → length l.self.pending ≤ 131055) × IsDoneBelow l.from l.streams l.self

abbrev pub decreases-turns : goal.decreases-turns
decreases-turns g l = 65536 - length l.self.pending
