use Rattle.std.proofs.Common.{map}
use Rattle.uploads.specs.Shown.{key_shown, piece_shown, entry_shown}
use Rattle.uploads.proofs.ListLemmas.{within_call}
use Rattle.uploads.proofs.uploads.Uploads.take_piece.Goals as goal

pub returns-clause-within : goal.returns-clause-within
returns-clause-within c =
    rw c.take_piece.ensures.uploads
    (within_call c.args.first c.args.quota c.args.moment (key_shown c.args.key.now) (piece_shown c.args.piece.now)
    (map entry_shown c.self.inside.table.entries) c.take_piece.result (rw c.self.view_is c.requires.within) c.take_piece.ensures.answer)
