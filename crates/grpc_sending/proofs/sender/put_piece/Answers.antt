use Rattle.std.proofs.Common.{subst, ◌≤◌, ◌∷◌, length, []}
use Rattle.grpc_sending.specs.declared.piece.StoredPiece.{StoredPiece}
use Rattle.grpc_sending.specs.StoredSending.{EndsWithinText}
use Rattle.grpc_sending.specs.SendingSteps.{front_bytes}
use Rattle.grpc_sending.proofs.Stored.{block_there}
use Rattle.grpc_sending.proofs.sender.put_piece.Goals as goal

pub put_message-requires-clause-there : goal.put_message-requires-clause-there
put_message-requires-clause-there g c = subst (λ (p : StoredPiece). c.args.count ≤ length
    (front_bytes (g.P.Parts.text_of c.args.parts.now) (p ∷ []))) c.in-Framed.is c.requires.there

pub unreachable-requires : goal.unreachable-requires
unreachable-requires g c = (block_there (g.P.Parts.text_of c.args.parts.now) c.args.count c.in-Encoded.field-0 c.args.piece.now
    c.in-Encoded.is c.requires.some c.requires.there)

pub put_range-requires-clause-fit : goal.put_range-requires-clause-fit
put_range-requires-clause-fit g c = subst (λ (p : StoredPiece). EndsWithinText (g.P.Parts.text_of c.args.parts.now) p) c.in-Ranged.is
    c.requires.fit

pub put_range-requires-clause-there : goal.put_range-requires-clause-there
put_range-requires-clause-there g c = subst (λ (p : StoredPiece). c.args.count ≤ length
    (front_bytes (g.P.Parts.text_of c.args.parts.now) (p ∷ []))) c.in-Ranged.is c.requires.there
