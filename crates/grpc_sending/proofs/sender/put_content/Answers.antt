use Rattle.std.proofs.Common.{ap, sym, subst, ◌∙◌, ◌≤◌, ◌++◌, length, take, drop, List, ℕ}
use Rattle.std.specs.Prelude.{false}
use Rattle.http2_frames.specs.declared.frame.Frame.TheVariants.{Data}
use Rattle.http2_frames.specs.Writing.{text_of}
use Rattle.grpc_sending.specs.StoredSending.{EndWithinTexts, stored_on}
use Rattle.grpc_sending.proofs.Stored.{none_there, front_first}
use Rattle.grpc_sending.proofs.sender.put_content.Goals as goal

pub put_piece-requires-clause-there : goal.put_piece-requires-clause-there
put_piece-requires-clause-there g c = subst (λ (bs : List ℕ). c.args.count ≤ length bs)
    (front_first (g.P.Parts.text_of c.args.parts.now) (stored_on c.args.stream c.args.queues.now)
    (drop 1 (stored_on c.args.stream c.args.queues.now)) c.in-Some.piece.now c.in-Some.ensures) c.requires.there

pub unreachable-requires : goal.unreachable-requires
unreachable-requires g c = (none_there (g.P.Parts.text_of c.args.parts.now) c.args.count
    (stored_on c.args.stream c.args.queues.now) c.in-None.ensures c.requires.some c.requires.there)

pub returns-clause-bytes : goal.returns-clause-bytes
returns-clause-bytes g c = c.put_piece.ensures.bytes
    ∙ ap (λ (bs : List ℕ). c.args.buffer.now ++ text_of (Data c.args.stream false (take c.args.count bs)))
    (sym (front_first (g.P.Parts.text_of c.args.parts.now) (stored_on c.args.stream c.args.queues.now)
    (drop 1 (stored_on c.args.stream c.args.queues.now)) c.in-Some.piece.now c.in-Some.ensures))

pub put_piece-requires-clause-fit : goal.put_piece-requires-clause-fit
put_piece-requires-clause-fit g c = (subst (EndWithinTexts (g.P.Parts.text_of c.args.parts.now)) c.in-Some.ensures
    (c.requires.fit c.args.stream)).0
