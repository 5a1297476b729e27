use Rattle.std.proofs.Common.{map, ap}
use Rattle.uploads.specs.Uploads.{UploadValue}
use Rattle.uploads.specs.Shown.{key_shown, upload_shown, entry_shown}
use Rattle.uploads.proofs.ListLemmas.{there_with, forgotten, put_back, within_without, within_same}
use Rattle.uploads.proofs.FinishLemmas.{refused_for_memory, same_back}
use Rattle.uploads.proofs.steps.finish.Goals as goal

pub returns-then-not-is_named-clause-uploads : goal.returns-then-not-is_named-clause-uploads
returns-then-not-is_named-clause-uploads c =
    forgotten (key_shown c.args.key.now) _ (map entry_shown c.args.table.now.entries) _ _ c.requires.there c.exchange-upload.ensures.new
    c.forget.ensures.forgotten

pub returns-then-not-is_named-clause-within : goal.returns-then-not-is_named-clause-within
returns-then-not-is_named-clause-within c =
    within_same c.args.quota _ _
    (forgotten (key_shown c.args.key.now) _ (map entry_shown c.args.table.now.entries) _ _ c.requires.there c.exchange-upload.ensures.new
    c.forget.ensures.forgotten)
    (within_without c.args.quota (key_shown c.args.key.now) (map entry_shown c.args.table.now.entries) c.requires.within)

pub exchange-empty-requires-clause-there : goal.exchange-empty-requires-clause-there
exchange-empty-requires-clause-there c =
    there_with (key_shown c.args.key.now) _ (map entry_shown c.args.table.now.entries) _ c.exchange-upload.ensures.new

pub returns-in-Ok-clause-uploads : goal.returns-in-Ok-clause-uploads
returns-in-Ok-clause-uploads c =
    forgotten (key_shown c.args.key.now) _ (map entry_shown c.args.table.now.entries) _ _ c.requires.there c.exchange-upload.ensures.new
    c.forget-in-Ok.ensures.forgotten

pub returns-in-Ok-clause-within : goal.returns-in-Ok-clause-within
returns-in-Ok-clause-within c =
    within_same c.args.quota _ _
    (forgotten (key_shown c.args.key.now) _ (map entry_shown c.args.table.now.entries) _ _ c.requires.there c.exchange-upload.ensures.new
    c.forget-in-Ok.ensures.forgotten)
    (within_without c.args.quota (key_shown c.args.key.now) (map entry_shown c.args.table.now.entries) c.requires.within)

pub returns-in-Err-clause-answer : goal.returns-in-Err-clause-answer
returns-in-Err-clause-answer c =
    rw (refused_for_memory c.args.quota (key_shown c.args.key.now) (upload_shown c.exchange-upload.result)
    (map entry_shown c.args.table.now.entries) c.in-Err.error c.into.result c.is_named.new.upload.draft.text _
    c.into.ensures c.exchange-upload.ensures.old (ap (λ (u : UploadValue). u.text) c.is_named.ensures.shown) c.requires.within.bytes
    c.in-Err.ensures.too_large) tt

pub returns-in-Err-clause-uploads : goal.returns-in-Err-clause-uploads
returns-in-Err-clause-uploads c =
    rw (refused_for_memory c.args.quota (key_shown c.args.key.now) (upload_shown c.exchange-upload.result)
    (map entry_shown c.args.table.now.entries) c.in-Err.error c.into.result c.is_named.new.upload.draft.text _
    c.into.ensures c.exchange-upload.ensures.old (ap (λ (u : UploadValue). u.text) c.is_named.ensures.shown) c.requires.within.bytes
    c.in-Err.ensures.too_large)
    (put_back (key_shown c.args.key.now) _ (upload_shown c.exchange-upload.result) _ (map entry_shown c.args.table.now.entries) _
    (map entry_shown c.exchange-empty.new.table.entries)
    c.exchange-upload.ensures.new c.exchange-upload.ensures.old
    (same_back c.in-Err.draft.text (upload_shown c.is_named.new.upload)
    (upload_shown c.exchange-upload.result) c.in-Err.ensures.back c.is_named.ensures.shown)
    c.exchange-empty.ensures.new)

pub returns-in-Err-clause-within : goal.returns-in-Err-clause-within
returns-in-Err-clause-within c =
    let back =
    put_back (key_shown c.args.key.now) _ (upload_shown c.exchange-upload.result) _ (map entry_shown c.args.table.now.entries) _
    (map entry_shown c.exchange-empty.new.table.entries)
    c.exchange-upload.ensures.new c.exchange-upload.ensures.old
    (same_back c.in-Err.draft.text (upload_shown c.is_named.new.upload)
    (upload_shown c.exchange-upload.result) c.in-Err.ensures.back c.is_named.ensures.shown)
    c.exchange-empty.ensures.new in
    within_same c.args.quota _ _ back c.requires.within
