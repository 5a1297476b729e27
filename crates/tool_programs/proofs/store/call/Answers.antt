use Rattle.std.proofs.Common.{◌≡◌, ℕ, List, [], ◌++◌, ap, ◌∙◌, subst, append-nil}
use Rattle.std.specs.declared.alloc.Global.{Global}
use Rattle.std.specs.declared.vec.Vec.{Vec}
use Rattle.instance_view.specs.Visible.{Blob}
use Rattle.instance_view.specs.Shown.{ViewValue, blobs_in, visible_in}
use Rattle.blob_pool.specs.Slots.{Slots}
use Rattle.cas_service.specs.Answers.{Answers}
use Rattle.cas_service.specs.FindMissing.{digests_asked, missing_digests, missing_reply, find_missing_reply}
use Rattle.cas_service.specs.BatchRead.{digests_to_read, read_reply, batch_read_reply}
use Rattle.tool_programs.proofs.Calls.{uses_answered}
use Rattle.tool_programs.proofs.store.call.Goals as goal

-- nobody's texts behind its own: its own alone
own_alone : (p : Slots) (view nobody : ViewValue) → nobody.entries ≡ [] → visible_in p view ++ visible_in p nobody ≡ visible_in p view
own_alone p view nobody none = ap (λ (bs : List Blob). visible_in p view ++ bs) (ap (blobs_in p) none) ∙ append-nil (visible_in p view)

pub returns-in-FindMissingBlobs-clause-reply : goal.returns-in-FindMissingBlobs-clause-reply
returns-in-FindMissingBlobs-clause-reply c =
    rw c.in-FindMissingBlobs.is
    (subst (λ (bs : List Blob). Answers (λ (reply : Vec ℕ Global). reply.items) c.find_missing.result
    (find_missing_reply c.args.own.now bs c.args.message.now))
    (own_alone c.args.texts.now.pool c.args.texts.now.view c.args.texts.now.nobody c.requires.nobody)
    (c.find_missing.ensures.reply c.args.texts.now.pool))

pub returns-in-BatchReadBlobs-clause-reply : goal.returns-in-BatchReadBlobs-clause-reply
returns-in-BatchReadBlobs-clause-reply c =
    rw c.in-BatchReadBlobs.is
    (subst (λ (bs : List Blob). Answers (λ (reply : Vec ℕ Global). reply.items) c.batch_read.result
    (batch_read_reply c.args.own.now bs c.args.message.now))
    (own_alone c.args.texts.now.pool c.args.texts.now.view c.args.texts.now.nobody c.requires.nobody) c.batch_read.ensures.reply)

pub returns-in-FindMissingBlobs-clause-called : goal.returns-in-FindMissingBlobs-clause-called
returns-in-FindMissingBlobs-clause-called c =
    let p = c.args.texts.now.pool in
    let view = c.args.texts.now.view in
    rw c.in-FindMissingBlobs.is
    (uses_answered c.find_missing.result (digests_asked c.args.own.now c.args.message.now)
    (λ digests. missing_reply (missing_digests (visible_in p view ++ visible_in p c.args.texts.now.nobody) digests)) view.limit
    c.args.quota p view c.find_missing.new.view
    (c.find_missing.ensures.reply p) (c.find_missing.ensures.used p c.args.quota) c.find_missing.ensures.err)

pub returns-in-BatchReadBlobs-clause-called : goal.returns-in-BatchReadBlobs-clause-called
returns-in-BatchReadBlobs-clause-called c =
    let p = c.args.texts.now.pool in
    let view = c.args.texts.now.view in
    rw c.in-BatchReadBlobs.is
    (uses_answered c.batch_read.result (digests_to_read c.args.own.now c.args.message.now)
    (λ digests. read_reply (visible_in p view ++ visible_in p c.args.texts.now.nobody) digests) view.limit c.args.quota p view
    c.batch_read.new.view
    c.batch_read.ensures.reply (c.batch_read.ensures.used p c.args.quota) c.batch_read.ensures.err)

pub returns-in-FindMissingBlobs-clause-kept : goal.returns-in-FindMissingBlobs-clause-kept
returns-in-FindMissingBlobs-clause-kept c = c.find_missing.ensures.kept c.args.texts.now.pool c.args.quota c.requires.kept

pub returns-in-BatchReadBlobs-clause-kept : goal.returns-in-BatchReadBlobs-clause-kept
returns-in-BatchReadBlobs-clause-kept c = c.batch_read.ensures.kept c.args.texts.now.pool c.args.quota c.requires.kept
