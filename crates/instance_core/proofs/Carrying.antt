-- What a method that carries out a message leaves of an instance's contents, and of the pool.
use Rattle.std.proofs.Common.{◌≡◌, ℕ, ◌+◌, ◌<◌, ◌≤◌, List, [], ◌∷◌, ◌++◌, map, Result, Ok, Err, refl, sym, ap, subst, ◌∙◌, arith}
use Rattle.std.specs.Prelude.{IfOk, IsErr, OnOk, OnErr, string_bytes}
use Rattle.std.specs.declared.alloc.Global.{Global}
use Rattle.std.specs.declared.alloc.AllocError.{AllocError}
use Rattle.std.specs.declared.vec.Vec.{Vec}
use Rattle.digest.specs.declared.Digest.{Digest}
use Rattle.reapi_messages.specs.Results.{◌>>=◌}
use Rattle.rpc.specs.declared.method.Method.{Method}
use Rattle.rpc.specs.declared.method.Method.TheVariants.{BatchUpdateBlobs, Read}
use Rattle.cas_service.specs.BatchUpdate.{batch_update_reply, batch_update_changes}
use Rattle.rpc.specs.declared.refusal.Refusal.{Refusal}
use Rattle.blob_pool.specs.Slots.{Slots, count_at, text_at}
use Rattle.blob_pool.specs.Moves.{Holders, Moves, no_holders}
use Rattle.instance_view.specs.declared.view.Seen.TheVariants.{Empty, Text as Found}
use Rattle.instance_view.specs.Visible.{Blob}
use Rattle.instance_view.specs.Shown.{ViewValue, visible_in, holders, holders_seen, text_seen}
use Rattle.instance_view.proofs.Held.{shown_apart}
use Rattle.quota_evict.specs.Within.{AreBlobsWithin}
use Rattle.quota_evict.specs.InPool.{IsViewInPool}
use Rattle.cas_service.specs.declared.error.CallError.{CallError}
use Rattle.cas_service.specs.declared.error.CallError.TheVariants.{Refused, NoMemory}
use Rattle.cas_service.specs.Answers.{Answers, IfAnswered, IfNoMemory}
use Rattle.cas_service.specs.Changes as Texts
use Rattle.bytestream.specs.declared.reading.Source.{Source}
use Rattle.bytestream.specs.declared.reading.ReadAsked.{ReadAsked}
use Rattle.bytestream.specs.Reading.{SourceValue, read_asked, read_answer, after_asking, after_read}
use Rattle.tree_calls.specs.Complete.{AreResultsWithin}
use Rattle.job_queue.specs.Jobs.{Jobs}
use Rattle.execution.specs.Job.{JobValue}
use Rattle.execution.specs.InPool.{jobs_in, jobs_holders}
use Rattle.execution.specs.declared.job.Executions.{Executions}
use Rattle.execution.proofs.Calling.{jobs_same}
use Rattle.blob_pool.proofs.Moves.{moves_more}
use Rattle.bytestream.specs.Shown.{source_shown}
use Rattle.instance_core.specs.declared.answer.Answer.{Answer}
use Rattle.instance_core.specs.declared.answer.Answer.TheVariants.{Message, Operation, Messages, Range, Watching}
use Rattle.instance_core.specs.declared.contents.Settings.{Settings}
use Rattle.instance_core.specs.declared.contents.Contents.{Contents}
use Rattle.instance_core.specs.Calls.{Calls}
use Rattle.instance_core.specs.Changes.{Text, Keeps}
use Rattle.instance_core.specs.Contents.{AreContentsWithin, AreContentsInPool}
use Rattle.instance_core.specs.Methods.{answer_to, use_asked, request_changes}
use Rattle.instance_core.specs.Replies.{one_message, range, answering}
use Rattle.instance_core.specs.Shown.{Ongoing, ongoing_in, contents_seen}
use Rattle.instance_core.specs.State.{InstanceState}
use Rattle.instance_limits.specs.Shown.{limits_value}
use Rattle.instance_core.specs.declared.event.Reply.{Reply}
use Rattle.instance_core.specs.ReplyHolders.{result_holders}
use Rattle.instance_core.specs.Carries.{answer_shown, shaped, answer_holders, EndsWithin, contents_holders, contents_beside, Carries, CarriesTexts, Leaves}
use Rattle.instance_core.proofs.Parts.{bytes_said, leaves_texts, leaves_results, answers_shaped, uses_answered, on_answered, no_memory_leaves, if_no_memory}
use Rattle.instance_core.proofs.Ranges.{none_made, read_uses, read_keeps, read_shown}
use Rattle.instance_core.proofs.Events.{range_within_text}

-- ---- the pool

-- nothing of the pool changes, and what is answered holds nothing
pub still : (p : Slots) (v w : ViewValue) (given : Holders) → ((k : ℕ) → holders w k ≡ holders v k) → ((k : ℕ) → given k ≡ 0) →
    Moves p p (holders v) (λ k. holders w k + given k)
still p v w given same none = record { counts = λ k. let a = same k in let b = none k in omega arith; texts = λ k less. refl }

-- a message holds nothing
pub message_holds : {X : Type 0} (shape : X → Answer) → ((x : X) (k : ℕ) → answer_holders (Ok (shape x)) k ≡ 0) →
    (r : Result X CallError) (k : ℕ) → answer_holders (shaped shape r) k ≡ 0
message_holds shape none (Ok x) k = none x k
message_holds shape none (Err e) k = refl

pub with_nothing : (p q : Slots) (these those given : Holders) → ((k : ℕ) → given k ≡ 0) → Moves p q these those →
    Moves p q these (λ k. those k + given k)
with_nothing p q these those given none m = record { counts = λ k. let a = m.counts k in let b = none k in omega arith; texts = m.texts }

-- ---- contents

pub kept_within : (settings : Settings) (p : Slots) (old : Contents) (q : Slots) (view : ViewValue) → AreContentsInPool settings p old →
    view.limit ≡ old.view.limit → IsViewInPool settings.quota q view → AreContentsWithin settings q (record old { view = view })
kept_within settings p old q view kept limit there = record {
  limit = limit ∙ kept.limit;
  texts = subst (λ (n : ℕ). AreBlobsWithin n settings.quota (visible_in q view)) (limit ∙ kept.limit) there.within;
  uploads = kept.uploads;
  results = kept.results;
}

-- a method that changes texts alone, and not the pool
pub carries_texts : {X : Type 0} (method : Method) (settings : Settings) (parent : List Blob) (message : List ℕ) (p q : Slots)
    (old : Contents) (view : ViewValue) (r : Result X CallError) (shape : X → Answer) (cs : List Texts.TextChange)
    → ((o : Ongoing) → Answers (answer_shown q) (shaped shape r) (answer_to method (contents_seen settings parent p old o) message))
    → ((o : Ongoing) → request_changes method (contents_seen settings parent p old o) message ≡ map Text cs)
    → IfAnswered r (visible_in q view ≡ Texts.visible_after_changes (limits_value settings.limits).blobs settings.quota cs
    (visible_in p old.view))
    → IfNoMemory r (Texts.MadeInPart (limits_value settings.limits).blobs settings.quota cs (visible_in p old.view) (visible_in q view))
    → Moves p q (holders old.view) (λ k. holders view k + answer_holders (shaped shape r) k) →
    AreContentsWithin settings q (record old { view = view })
    → CarriesTexts method settings parent message p old (shaped shape r) q (record old { view = view })
carries_texts method settings parent message p q old view r shape cs answer changes whole part moves within = record {
  answer = answer;
  leaves = λ o. rw (changes o) (leaves_texts r shape cs (contents_seen settings parent p old o) (visible_in q view) whole part);
  moves = moves;
  within = within;
  executions = refl;
}

pub said_alike : (q : Slots) (x : Vec ℕ Global) → answer_shown q (Message x) ≡ one_message (bytes_said x)
said_alike q x = refl

pub said_holds : (x : Vec ℕ Global) (k : ℕ) → answer_holders (Ok (Message x)) k ≡ 0
said_holds x k = refl

-- a method that answers by a message, and uses what it is asked for
pub carries_uses : (method : Method) (settings : Settings) (parent : List Blob) (message : List ℕ) (p : Slots) (old : Contents)
    (view : ViewValue) (r : Result (Vec ℕ Global) CallError) (asked : Result (List Digest) Refusal) (reply : List Digest → List ℕ)
    → ((o : Ongoing) → answer_to method (contents_seen settings parent p old o) message
    ≡ answering one_message (asked >>= λ digests. Ok (reply digests)))
    → ((o : Ongoing) → request_changes method (contents_seen settings parent p old o) message ≡ map Text (Texts.uses asked))
    → AreContentsInPool settings p old → Answers bytes_said r (asked >>= λ digests. Ok (reply digests))
    → OnOk r (visible_in p view ≡ Texts.visible_after_changes old.view.limit settings.quota (Texts.uses asked) (visible_in p old.view)) →
    OnErr r (view ≡ old.view)
    → ((k : ℕ) → holders view k ≡ holders old.view k) → view.limit ≡ old.view.limit →
    (IsViewInPool settings.quota p old.view → IsViewInPool settings.quota p view)
    → CarriesTexts method settings parent message p old (shaped Message r) p (record old { view = view })
carries_uses method settings parent message p old view r asked reply answer changes kept said used err same limit keeps =
    carries_texts method settings parent message p p old view r Message (Texts.uses asked)
    (λ o. rw (answer o) (answers_shaped bytes_said Message one_message p r (asked >>= λ digests. Ok (reply digests)) (said_alike p) said))
    changes
    (uses_answered r asked reply old.view.limit (limits_value settings.limits).blobs settings.quota p old.view view kept.limit said used
    err)
    (if_no_memory r (view ≡ old.view) (Texts.MadeInPart (limits_value settings.limits).blobs settings.quota (Texts.uses asked)
    (visible_in p old.view) (visible_in p view))
    (λ is. none_made (limits_value settings.limits).blobs settings.quota (Texts.uses asked) (visible_in p old.view) (visible_in p view)
    (ap (visible_in p) is)) err)
    (still p old.view view (answer_holders (shaped Message r)) same (message_holds Message said_holds r))
    (kept_within settings p old p view kept limit (keeps kept.kept))

-- a batch that is stored, or the first of it
pub carries_stores : (settings : Settings) (parent : List Blob) (message : List ℕ) (p q : Slots) (old : Contents) (view : ViewValue)
    (r : Result (Vec ℕ Global) CallError)
    → AreContentsInPool settings p old → Answers bytes_said r (batch_update_reply (string_bytes settings.name) settings.quota message)
    → IfAnswered r (visible_in q view ≡ Texts.visible_after_changes (limits_value settings.limits).blobs settings.quota
    (batch_update_changes (string_bytes settings.name) settings.quota message) (visible_in p old.view))
    → OnErr r (Texts.MadeInPart old.view.limit settings.quota (batch_update_changes (string_bytes settings.name) settings.quota message)
    (visible_in p old.view) (visible_in q view))
    → Moves p q (holders old.view) (holders view) → view.limit ≡ old.view.limit → IsViewInPool settings.quota q view
    → CarriesTexts BatchUpdateBlobs settings parent message p old (shaped Message r) q (record old { view = view })
carries_stores settings parent message p q old view r kept said stored part moves limit there =
    let changes = batch_update_changes (string_bytes settings.name) settings.quota message in
    carries_texts BatchUpdateBlobs settings parent message p q old view r Message changes
    (λ o. answers_shaped bytes_said Message one_message q r (batch_update_reply (string_bytes settings.name) settings.quota message)
    (said_alike q) said)
    (λ o. refl)
    stored
    (if_no_memory r (Texts.MadeInPart old.view.limit settings.quota changes (visible_in p old.view) (visible_in q view))
    (Texts.MadeInPart (limits_value settings.limits).blobs settings.quota changes (visible_in p old.view) (visible_in q view))
    (λ made. subst (λ (n : ℕ). Texts.MadeInPart n settings.quota changes (visible_in p old.view) (visible_in q view)) kept.limit made) part)
    (with_nothing p q (holders old.view) (holders view) (answer_holders (shaped Message r)) (message_holds Message said_holds r) moves)
    (kept_within settings p old q view kept limit there)

-- a method that answers by a message, and changes results and then texts
pub carries_results : (method : Method) (settings : Settings) (parent : List Blob) (message : List ℕ) (p : Slots) (old : Contents)
    (view : ViewValue) (results : List Blob) (r : Result (Vec ℕ Global) CallError) (reply : Result (List ℕ) Refusal) (kept : List Blob)
    (cs : List Texts.TextChange)
    → ((o : Ongoing) → answer_to method (contents_seen settings parent p old o) message ≡ answering one_message reply)
    → ((o : Ongoing) → request_changes method (contents_seen settings parent p old o) message ≡ Keeps kept ∷ map Text cs)
    → AreContentsInPool settings p old → Answers bytes_said r reply
    → IfAnswered r (visible_in p view ≡ Texts.visible_after_changes (limits_value settings.limits).blobs settings.quota cs
    (visible_in p old.view)) → IfAnswered r (results ≡ kept) →
    OnErr r ((results ≡ old.results) × (visible_in p view ≡ visible_in p old.view))
    → ((k : ℕ) → holders view k ≡ holders old.view k) → view.limit ≡ old.view.limit → IsViewInPool settings.quota p view →
    AreResultsWithin (limits_value settings.limits) results
    → CarriesTexts method settings parent message p old (shaped Message r) p (record old { view = view; results = results })
carries_results method settings parent message p old view results r reply kept cs answer changes here said used left err same limit there
    few = record {
      answer = λ o. rw (answer o) (answers_shaped bytes_said Message one_message p r reply (said_alike p) said);
      leaves = λ o. rw (changes o) (leaves_results r Message kept cs (contents_seen settings parent p old o)
          (visible_in p view) results used left err);
      moves = still p old.view view (answer_holders (shaped Message r)) same (message_holds Message said_holds r);
      within = let within = kept_within settings p old p view here limit there in
          record { limit = within.limit; texts = within.texts; uploads = within.uploads; results = few };
      executions = refl;
    }

-- a method that answers by a message, and changes nothing
pub carries_nothing : (method : Method) (settings : Settings) (parent : List Blob) (message : List ℕ) (p : Slots) (old : Contents)
    (r : Result (Vec ℕ Global) CallError) (reply : Result (List ℕ) Refusal)
    → ((o : Ongoing) → answer_to method (contents_seen settings parent p old o) message ≡ answering one_message reply)
    → ((o : Ongoing) → request_changes method (contents_seen settings parent p old o) message ≡ []) → AreContentsInPool settings p old →
    Answers bytes_said r reply
    → CarriesTexts method settings parent message p old (shaped Message r) p old
carries_nothing method settings parent message p old r reply answer changes kept said =
    carries_texts method settings parent message p p old old.view r Message []
    (λ o. rw (answer o) (answers_shaped bytes_said Message one_message p r reply (said_alike p) said))
    changes
    (on_answered r (visible_in p old.view ≡ visible_in p old.view) refl)
    (no_memory_leaves r (Texts.MadeInPart (limits_value settings.limits).blobs settings.quota [] (visible_in p old.view)
    (visible_in p old.view)) (none_made (limits_value settings.limits).blobs settings.quota [] (visible_in p old.view)
    (visible_in p old.view) refl))
    (still p old.view old.view (answer_holders (shaped Message r)) (λ k. refl) (message_holds Message said_holds r))
    (kept_within settings p old p old.view kept refl kept.kept)

-- ---- a method that asks and changes no jobs

ongoing_same : (p q : Slots) (old new : Contents) (calls : Calls) → jobs_in q new.executions.queue ≡ jobs_in p old.executions.queue →
    ongoing_in q new calls ≡ ongoing_in p old calls
ongoing_same p q old new calls same = ap (λ (js : Jobs JobValue). let o : Ongoing = record { jobs = js; calls = calls } in o) same

pub lifted : (method : Method) (settings : Settings) (parent : List Blob) (message : List ℕ) (p : Slots) (old : Contents)
    (r : Result Answer CallError) (q : Slots) (new : Contents) → ((k : ℕ) → contents_holders old k ≤ count_at p k)
    → CarriesTexts method settings parent message p old r q new → Carries method settings parent message p old r q new
lifted method settings parent message p old r q new held carried =
    let jobs : jobs_in q new.executions.queue ≡ jobs_in p old.executions.queue =
    ap (λ (e : Executions). jobs_in q e.queue) carried.executions
    ∙ jobs_same p q old.executions.queue (holders old.view) (λ k. holders new.view k + answer_holders r k) held carried.moves in
    record {
      answer = λ calls. carried.answer (ongoing_in p old calls);
      leaves = λ calls. subst (λ (o : Ongoing). Leaves r (request_changes method (contents_beside settings parent p old calls) message)
          (contents_beside settings parent p old calls) (contents_seen settings parent q new o)) (sym (ongoing_same p q old new calls jobs))
          (carried.leaves (ongoing_in p old calls));
      moves = moves_more p q (holders old.view) (λ k. holders new.view k + answer_holders r k) (jobs_holders old.executions.queue)
          (contents_holders old) (λ k. contents_holders new k + answer_holders r k)
          (λ k. refl) (λ k. let same = ap (λ (e : Executions). jobs_holders e.queue k) carried.executions in omega (arith, same))
          carried.moves;
      within = carried.within;
      slots = ap (λ (e : Executions). e.slots) carried.executions;
    }

-- who holds less is counted too
pub own_held : (these those : Holders) (p : Slots) → ((k : ℕ) → these k + those k ≤ count_at p k) → (k : ℕ) → these k ≤ count_at p k
own_held these those p both k = let a = both k in omega (arith, a)

-- ---- what a request was answered, and its reply

pub answer_held : (p q : Slots) (old new : Holders) (given : Holders) → Moves p q old (λ k. new k + given k) →
    ((k : ℕ) → old k ≤ count_at p k) → (k : ℕ) → given k ≤ count_at q k
answer_held p q old new given m held k = let a = m.counts k in let b = held k in omega arith

pub answer_ends_within : (q : Slots) (method : Method) (s : InstanceState) (message : List ℕ) (r : Result Answer CallError) →
    Answers (answer_shown q) r (answer_to method s message) → EndsWithin q r
answer_ends_within q method s message (Ok (Range source)) h = range_within_text method s message (source_shown q source) h
answer_ends_within q method s message (Ok (Message bytes)) h = tt
answer_ends_within q method s message (Ok (Operation operation)) h = tt
answer_ends_within q method s message (Ok (Messages list)) h = tt
answer_ends_within q method s message (Ok (Watching number operation)) h = tt
answer_ends_within q method s message (Err e) h = tt

-- the reply holds what the answer held, or nothing: the texts show what they showed, and so do the
-- jobs
pub texts_still : (p q z : Slots) (old : Holders) (new : Contents) (given those : Holders) →
    Moves p q old (λ k. contents_holders new k + given k) → ((k : ℕ) → old k ≤ count_at p k) → Moves q z given those →
    visible_in z new.view ≡ visible_in q new.view
texts_still p q z old new given those m held more =
    shown_apart q z new.view.entries given those more (λ k. let a = m.counts k in let b = held k in omega arith)

pub shown_still : (settings : Settings) (parent : List Blob) (p q z : Slots) (old : Holders) (new : Contents) (given those : Holders)
    (calls : Calls) → Moves p q old (λ k. contents_holders new k + given k) → ((k : ℕ) → old k ≤ count_at p k) → Moves q z given those →
    contents_beside settings parent z new calls ≡ contents_beside settings parent q new calls
shown_still settings parent p q z old new given those calls m held more =
    let texts = texts_still p q z old new given those m held more in
    let jobs : jobs_in z new.executions.queue ≡ jobs_in q new.executions.queue =
    jobs_same q z new.executions.queue given those (λ k. let a = m.counts k in let b = held k in omega arith) more in
    ap (λ (bs : List Blob). record (contents_beside settings parent z new calls) { visible = bs }) texts
    ∙ ap (λ (js : Jobs JobValue). record (contents_beside settings parent q new calls) { jobs = js }) jobs

-- a refused reply holds nothing, whoever passes the refusal on
pub held_by_none : (q z : Slots) (given : Holders) (e : AllocError) (r : Result (Vec Reply Global) AllocError) → IsErr r →
    Moves q z given (result_holders (Err e)) → Moves q z given (result_holders r)
held_by_none q z given e (Ok replies) is m = absurd cc
held_by_none q z given e (Err other) is m = m

pub moved_on : (p q z : Slots) (old new given those : Holders) → Moves p q old (λ k. new k + given k) → ((k : ℕ) → old k ≤ count_at p k) →
    Moves q z given those → Moves p z old (λ k. new k + those k)
moved_on p q z old new given those m held more = record {
  counts = λ k. let a = m.counts k in let b = more.counts k in omega arith;
  texts = λ k less.
      let a = m.counts k in
      let here : given k < count_at q k = omega (arith, less) in
      more.texts k here ∙ m.texts k less;
}

pub within_still : (settings : Settings) (q z : Slots) (c : Contents) → visible_in z c.view ≡ visible_in q c.view →
    AreContentsWithin settings q c → AreContentsWithin settings z c
within_still settings q z c same within = record {
  limit = within.limit;
  texts = subst (AreBlobsWithin (limits_value settings.limits).blobs settings.quota) (sym same) within.texts;
  uploads = within.uploads;
  results = within.results;
}

-- ---- a range

-- a slot that is held counts a holder
held_at : (p : Slots) (slot : ℕ) → holders_seen (Found slot) slot ≤ count_at p slot → 0 < count_at p slot
held_at p slot h = let one : holders_seen (Found slot) slot ≡ 1 = grind (arith, Rattle.std.proofs.lemmas.Bool.Decides.nat_tests) in
    omega (arith, one, h)

-- the text is held by the answer
pub range_found : (p q : Slots) (source : Source) → ((k : ℕ) → holders_seen source.text k ≤ count_at p k) →
    Moves p q no_holders (holders_seen source.text) → source_shown q source ≡ source_shown p source
range_found p q source there m = go source.text there m.texts where
  of_text : List ℕ → SourceValue
  of_text text = record { digest = source.digest; text = text; from = source.from; until = source.until }

  go : (seen : Rattle.instance_view.specs.declared.view.Seen.Seen) → ((k : ℕ) → holders_seen seen k ≤ count_at p k) →
      ((k : ℕ) → 0 < count_at p k → text_at q k ≡ text_at p k) → of_text (text_seen q seen) ≡ of_text (text_seen p seen)
  go Empty there same = refl
  go (Found slot) there same = ap of_text (same slot (held_at p slot (there slot)))

given_moves : (p q : Slots) (v w : ViewValue) (r : Result Source CallError) →
    IfOk r (λ source. Moves p q no_holders (holders_seen source.text)) → OnErr r (q ≡ p) → ((k : ℕ) → holders w k ≡ holders v k)
    → Moves p q (holders v) (λ k. holders w k + answer_holders (shaped Range r) k)
given_moves p q v w (Ok source) m err same = record {
  counts = λ k. let a = m.counts k in let b = same k in omega arith;
  texts = λ k less. m.texts k (omega (arith, less));
}
given_moves p q v w (Err e) m err same = subst (λ (z : Slots). Moves p z (holders v) (λ k. holders w k + 0)) (sym err)
    (still p v w no_holders same (λ k. refl))

-- the pool shows of the instance what it showed
shown_by : (p q : Slots) (v w : ViewValue) (r : Result Source CallError) →
    IfOk r (λ source. Moves p q no_holders (holders_seen source.text)) → OnErr r (q ≡ p) → ((k : ℕ) → holders w k ≡ holders v k) →
    ((k : ℕ) → holders v k ≤ count_at p k) → visible_in q w ≡ visible_in p w
shown_by p q v w (Ok source) m err same held = read_shown p q v w (holders_seen source.text) m same held
shown_by p q v w (Err e) m err same held = ap (λ (z : Slots). visible_in z w) err

range_answers : (p q : Slots) (r : Result Source CallError) (meaning : Result SourceValue Refusal) →
    ((k : ℕ) → IfOk r (λ source. holders_seen source.text k ≤ count_at p k)) →
    IfOk r (λ source. Moves p q no_holders (holders_seen source.text))
    → Answers (source_shown p) r meaning → Answers (answer_shown q) (shaped Range r) (answering range meaning)
range_answers p q (Ok source) meaning there m h = rw (h, range_found p q source there m) refl
range_answers p q (Err (Refused refusal)) meaning there m h = rw h refl
range_answers p q (Err NoMemory) meaning there m h = tt

-- a range is answered, and its blob used
pub carries_range : (settings : Settings) (parent : ViewValue) (message : List ℕ) (p q : Slots) (old : Contents) (view : ViewValue)
    (r : Result Source CallError)
    → AreContentsInPool settings p old → Answers (source_shown p) r
    (read_answer (string_bytes settings.name) (visible_in p old.view ++ visible_in p parent) message)
    → ((z : Slots) → IfAnswered r (visible_in z view ≡ after_read (string_bytes settings.name) message (visible_in z old.view))) →
    IfNoMemory r (view ≡ old.view)
    → ((k : ℕ) → IfOk r (λ source. holders_seen source.text k ≤ count_at p k)) →
    IfOk r (λ source. Moves p q no_holders (holders_seen source.text)) → OnErr r (q ≡ p)
    → ((k : ℕ) → holders view k ≡ holders old.view k) → view.limit ≡ old.view.limit
    → CarriesTexts Read settings (visible_in p parent) message p old (shaped Range r) q (record old { view = view })
carries_range settings parent message p q old view r kept answer used memory there holds err same limit =
    let own = string_bytes settings.name in
    let asked = read_asked own message in
    let shown = shown_by p q old.view view r holds err same kept.kept.held.counted in
    let cs = use_asked asked in
    let within = read_within old.view.limit r asked settings.quota old.view view p kept.kept.within (used p) memory in
    carries_texts Read settings (visible_in p parent) message p q old view r Range cs
    (λ o. range_answers p q r (read_answer own (visible_in p old.view ++ visible_in p parent) message) there holds answer)
    (λ o. refl)
    (use_whole r asked (limits_value settings.limits).blobs settings.quota (visible_in p old.view) (visible_in p view)
    (visible_in q view) shown (used p))
    (use_front r (limits_value settings.limits).blobs settings.quota cs p q old.view view shown memory)
    (given_moves p q old.view view r holds err same)
    (record {
      limit = limit ∙ kept.limit;
      texts = subst (AreBlobsWithin (limits_value settings.limits).blobs settings.quota) (sym shown)
          (subst (λ (n : ℕ). AreBlobsWithin n settings.quota (visible_in p view)) kept.limit within);
      uploads = kept.uploads;
      results = kept.results;
    })
  where
    use_whole : (r : Result Source CallError) (asked : Result ReadAsked Refusal) (limit quota : ℕ) (before after moved : List Blob) →
        moved ≡ after → IfAnswered r (after ≡ after_asking asked before) →
        IfAnswered r (moved ≡ Texts.visible_after_changes limit quota (use_asked asked) before)
    use_whole (Ok x) asked limit quota before after moved same h = same ∙ h ∙ read_uses asked limit quota before
    use_whole (Err (Refused refusal)) asked limit quota before after moved same h = same ∙ h ∙ read_uses asked limit quota before
    use_whole (Err NoMemory) asked limit quota before after moved same h = tt

    use_front : (r : Result Source CallError) (limit quota : ℕ) (cs : List Texts.TextChange) (p q : Slots) (v w : ViewValue) →
        visible_in q w ≡ visible_in p w → IfNoMemory r (w ≡ v) →
        IfNoMemory r (Texts.MadeInPart limit quota cs (visible_in p v) (visible_in q w))
    use_front (Ok x) limit quota cs p q v w same h = tt
    use_front (Err (Refused refusal)) limit quota cs p q v w same h = tt
    use_front (Err NoMemory) limit quota cs p q v w same h =
        none_made limit quota cs (visible_in p v) (visible_in q w) (same ∙ ap (visible_in p) h)

    read_within : (limit : ℕ) (r : Result Source CallError) (asked : Result ReadAsked Refusal) (quota : ℕ) (v w : ViewValue) (p : Slots) →
        AreBlobsWithin limit quota (visible_in p v) → IfAnswered r (visible_in p w ≡ after_asking asked (visible_in p v)) →
        IfNoMemory r (w ≡ v) → AreBlobsWithin limit quota (visible_in p w)
    read_within limit (Ok x) asked quota v w p within h same = read_keeps asked limit quota (visible_in p v) (visible_in p w) h within
    read_within limit (Err (Refused refusal)) asked quota v w p within h same =
        read_keeps asked limit quota (visible_in p v) (visible_in p w) h within
    read_within limit (Err NoMemory) asked quota v w p within h same =
        subst (λ (x : ViewValue). AreBlobsWithin limit quota (visible_in p x)) (sym same) within
