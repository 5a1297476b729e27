use Rattle.std.proofs.Common.{map}
use Rattle.uploads.specs.Shown.{key_shown, piece_shown, entry_shown}
use Rattle.uploads.proofs.ListLemmas.{fits_call}
use Rattle.uploads.proofs.steps.take_piece.Goals as goal

pub carry_out-requires-clause-fits : goal.carry_out-requires-clause-fits
carry_out-requires-clause-fits c =
    fits_call c.args.first c.args.quota (key_shown c.args.key.now) (piece_shown c.args.piece.now)
    (map entry_shown c.args.table.now.entries) c.check-answer.result c.requires.quota c.check-answer.ensures
