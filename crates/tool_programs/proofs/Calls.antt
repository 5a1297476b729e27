-- What commands do to an instance.
use Rattle.std.proofs.Common.{◌≡◌, ℕ, List, Result, Ok, Err, ap, ◌∙◌}
use Rattle.std.specs.Prelude.{OnOk, OnErr}
use Rattle.std.specs.declared.alloc.Global.{Global}
use Rattle.std.specs.declared.alloc.AllocError.{AllocError}
use Rattle.std.specs.declared.vec.Vec.{Vec}
use Rattle.cas_service.specs.Results.{◌>>=◌}
use Rattle.rpc.specs.declared.refusal.Refusal.{Refusal}
use Rattle.digest.specs.declared.Digest.{Digest}
use Rattle.digest.specs.Naming.{digest_of}
use Rattle.blob_pool.specs.Slots.{Slots}
use Rattle.instance_view.specs.Visible.{Blob}
use Rattle.instance_view.specs.Shown.{ViewValue, visible_in}
use Rattle.quota_evict.specs.Admission.{visible_after_admission}
use Rattle.script.specs.declared.unary.method.Method.{Method}
use Rattle.cas_service.specs.declared.error.CallError.{CallError}
use Rattle.cas_service.specs.declared.error.CallError.TheVariants.{Refused, NoMemory}
use Rattle.cas_service.specs.Answers.{Answers, IfAnswered}
use Rattle.cas_service.specs.Changes.{visible_after_changes, uses}
use Rattle.tool_programs.specs.Session.{StoreValue, store_after_put, store_after_call, changes_by}

-- a call whose reply and changes come from what it asks for
pub uses_answered : (r : Result (Vec ℕ Global) CallError) (asked : Result (List Digest) Refusal) (reply : List Digest → List ℕ)
    (limit quota : ℕ) (p : Slots) (old new : ViewValue)
    → Answers (λ (reply : Vec ℕ Global). reply.items) r (asked >>= λ digests. Ok (reply digests)) →
    OnOk r (visible_in p new ≡ visible_after_changes limit quota (uses asked) (visible_in p old)) → OnErr r (new ≡ old) →
    IfAnswered r (visible_in p new ≡ visible_after_changes limit quota (uses asked) (visible_in p old))
uses_answered (Ok text) asked reply limit quota p old new is used err = used
uses_answered (Err (Refused refusal)) (Err other) reply limit quota p old new is used err = ap (visible_in p) err
uses_answered (Err (Refused refusal)) (Ok digests) reply limit quota p old new is used err = cc
uses_answered (Err NoMemory) asked reply limit quota p old new is used err = tt

-- an instance with the texts that a command leaves
pub stored_by : {A : Type 0} (r : Result A AllocError) (s old : StoreValue) (visible : List Blob) (limit : ℕ) (text : List ℕ) → s ≡ old →
    limit ≡ s.limit
    → OnOk r (visible ≡ visible_after_admission s.limit s.quota (digest_of text) text s.visible) →
    OnOk r (record s { limit = limit; visible = visible } ≡ store_after_put text old)
stored_by (Err e) s old visible limit text same is h = tt
stored_by (Ok x) s old visible limit text same is h =
    ap (λ (n : ℕ). record s { limit = n; visible = visible }) is ∙ ap (λ (bs : List Blob). record s { visible = bs }) h
    ∙ ap (store_after_put text) same

pub called_by : {A : Type 0} (r : Result A CallError) (method : Method) (s old : StoreValue) (visible : List Blob) (limit : ℕ)
    (message : List ℕ) → s ≡ old → limit ≡ s.limit
    → IfAnswered r (visible ≡ visible_after_changes s.limit s.quota (changes_by method s message) s.visible) →
    IfAnswered r (record s { limit = limit; visible = visible } ≡ store_after_call method message old)
called_by {A = A} r method s old visible limit message same is h = go r h where
  whole : visible ≡ visible_after_changes s.limit s.quota (changes_by method s message) s.visible →
      record s { limit = limit; visible = visible } ≡ store_after_call method message old
  whole h =
      ap (λ (n : ℕ). record s { limit = n; visible = visible }) is ∙ ap (λ (bs : List Blob). record s { visible = bs }) h
      ∙ ap (store_after_call method message) same

  go : (r : Result A CallError) → IfAnswered r (visible ≡ visible_after_changes s.limit s.quota (changes_by method s message) s.visible) →
      IfAnswered r (record s { limit = limit; visible = visible } ≡ store_after_call method message old)
  go (Ok reply) h = whole h
  go (Err (Refused refusal)) h = whole h
  go (Err NoMemory) h = tt
