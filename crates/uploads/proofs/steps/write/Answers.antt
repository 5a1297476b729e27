use Rattle.std.proofs.Common.{map}
use Rattle.uploads.specs.Shown.{key_shown, upload_shown, entry_shown}
use Rattle.uploads.proofs.ListLemmas.{there_with, extended_ok, extended_err}
use Rattle.uploads.proofs.steps.write.Goals as goal

pub exchange-empty-requires-clause-there : goal.exchange-empty-requires-clause-there
exchange-empty-requires-clause-there c =
    there_with (key_shown c.args.key.now) _ (map entry_shown c.args.table.now.entries) _ c.exchange-upload.ensures.new

pub returns-clause-ok : goal.returns-clause-ok
returns-clause-ok c =
    extended_ok (key_shown c.args.key.now) _ (upload_shown c.exchange-upload.result) (upload_shown c.add-added.new.upload)
    (map entry_shown c.args.table.now.entries)
    _ _ c.args.bytes.now c.args.moment c.add-added.result c.exchange-upload.ensures.new c.exchange-upload.ensures.old c.add-added.ensures.ok
    c.exchange-empty.ensures.new

pub returns-clause-err : goal.returns-clause-err
returns-clause-err c =
    extended_err (key_shown c.args.key.now) _ (upload_shown c.exchange-upload.result) (upload_shown c.add-added.new.upload)
    (map entry_shown c.args.table.now.entries)
    _ _ c.add-added.result c.exchange-upload.ensures.new c.exchange-upload.ensures.old c.add-added.ensures.err c.exchange-empty.ensures.new
