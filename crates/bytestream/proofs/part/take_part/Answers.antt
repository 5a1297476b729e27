use Rattle.uploads.specs.Shown.{key_shown}
use Rattle.uploads.proofs.ListLemmas.{there_with}
use Rattle.bytestream.proofs.part.take_part.Goals as goal

pub finish_last-requires-clause-there : goal.finish_last-requires-clause-there
finish_last-requires-clause-there c = there_with (key_shown c.args.part.now.key.now) _ c.args.uploads.now _ c.in-Ok.ensures.uploads
