-- The sizes of blobs that a quota has room for.
use Rattle.std.proofs.Common.{◌≡◌, ℕ, ◌^◌, ◌<◌, ◌≤◌, Bool, true, false, cond, not, ◌||◌, is_some, List, [], ◌∷◌, length, map, filter, Option, Some, None, refl, ap, subst, ◌∙◌, FitsSigned, arith, ◌+◌}
use Rattle.std.specs.Int.{w32}
use Rattle.std.specs.Map.{lookup}
use Rattle.digest.specs.declared.Digest.{Digest}
use Rattle.digest.specs.Naming.{is_empty_digest, same_digest}
use Rattle.digest.proofs.Same.{same_equal, same_refl}
use Rattle.instance_view.specs.Visible.{Blob, blobs_length, visible_text}
use Rattle.job_queue.specs.declared.queue.TheConstants.{LAST_NUMBER}
use Rattle.execution_messages.specs.Actions.{CommandValue}
use Rattle.actions.specs.Commands.{asked_outputs, command_in}
use Rattle.execution_messages.specs.Progress.{completed_text, gives}
use Rattle.execution_messages.specs.Statuses.{distinct}
use Rattle.execution_messages.proofs.EachOnce.{among, same-ones}
use Rattle.quota_evict.specs.Within.{AreBlobsWithin}
use Rattle.quota_evict.proofs.Seen.{seen_named}
use Rattle.outcomes.specs.Asked.{are_asked}
use Rattle.run_calls.specs.Outcomes.{ExitedValue}
use Rattle.outcomes.specs.Results.{blobs_given, fresh_bytes, result_text, sizes_of}
use Rattle.outcomes.specs.Short.{HasForm, HaveSizes, IsShort}
use Rattle.outcomes.proofs.Executing.{stored_short}
use Rattle.outcomes.proofs.Results.{result_short}
use Rattle.outcomes.proofs.Written.{given_short}

counted : (test : Digest → Bool) (ds : List Digest) (d : Digest) → test d ≡ true → among d ds ≡ true → d.size ≤ sizes_of (filter test ds)
counted test [] d passes is = absurd (cc)
counted test (c ∷ cs) d passes is = go (same_digest d c) refl is (λ later. counted test cs d passes later) where
  skipped : (b : Bool) → d.size ≤ sizes_of (filter test cs) → d.size ≤ sizes_of (cond b (c ∷ filter test cs) (filter test cs))
  skipped true rest = omega arith
  skipped false rest = rest

  go : (b : Bool) → same_digest d c ≡ b → (b || among d cs) ≡ true → (among d cs ≡ true → d.size ≤ sizes_of (filter test cs)) →
      d.size ≤ sizes_of (filter test (c ∷ cs))
  go true same is later =
      let e : d ≡ c = same_equal d c same in
      let kept : test c ≡ true = subst (λ (x : Digest). test x ≡ true) e passes in
      let size : d.size ≡ c.size = ap (λ (x : Digest). x.size) e in
      rw kept (omega arith)
  go false same is later = skipped (test c) (later is)

seen_size : (visible : List Blob) (d : Digest) (text : List ℕ) → visible_text d visible ≡ Some text → length text ≤ blobs_length visible
seen_size visible d text h = go (is_empty_digest d) h where
  go : (b : Bool) → cond b (Some []) (lookup (same_digest d) visible) ≡ Some text → length text ≤ blobs_length visible
  go true h = let e : [] ≡ text = cc in rw (← e) (omega arith)
  go false h = stored_short (same_digest d) visible text h

one_size : (limit quota : ℕ) (visible : List Blob) (ds : List Digest) (d : Digest) → AreBlobsWithin limit quota visible →
    sizes_of (filter (λ d. not (is_some (visible_text d visible))) ds) ≤ quota → among d ds ≡ true → d.size ≤ quota
one_size limit quota visible ds d within room is = go (visible_text d visible) refl where
  go : (o : Option (List ℕ)) → visible_text d visible ≡ o → d.size ≤ quota
  go None none =
      let fresh : not (is_some (visible_text d visible)) ≡ true = rw none refl in
      let size = counted (λ d. not (is_some (visible_text d visible))) ds d fresh is in
      omega arith
  go (Some text) seen =
      let size = (seen_named limit quota visible d text within seen).size in
      let short = seen_size visible d text seen in
      let bytes = within.bytes in
      omega arith

abbrev digests : List Blob → List Digest
digests blobs = map (λ (b : Blob). b.0) blobs

all_sizes : (quota : ℕ) (met : List Digest) (blobs : List Blob) → quota < 2 ^ 63 → ((d : Digest) → among d met ≡ true → d.size ≤ quota) →
    ((d : Digest) → among d (digests blobs) ≡ true → among d met ≡ true) → HaveSizes blobs
all_sizes quota met [] few h there = tt
all_sizes quota met (b ∷ blobs) few h there =
    let same : same_digest b.0 b.0 ≡ true = same_refl b.0 in
    let first : among b.0 (digests (b ∷ blobs)) ≡ true = rw same refl in
    let size = h b.0 (there b.0 first) in
    (omega arith, all_sizes quota met blobs few h (λ d is. there d (either (same_digest d b.0) (among d (digests blobs)) is)))
  where
    either : (a c : Bool) → c ≡ true → (a || c) ≡ true
    either true c is = refl
    either false c is = is

pub quota_sizes : (limit quota : ℕ) (visible blobs : List Blob) → quota < 2 ^ 63 → AreBlobsWithin limit quota visible →
    fresh_bytes visible blobs ≤ quota → HaveSizes blobs
quota_sizes limit quota visible blobs few within room =
    all_sizes quota (digests blobs) blobs few
    (λ d is. one_size limit quota visible (distinct (digests blobs)) d within room (same-ones d (digests blobs) ∙ is))
    (λ d is. is)

pub run_told : (limit quota n : ℕ) (visible : List Blob) (like d : Digest) (x : ExitedValue) (text : List ℕ) (v : CommandValue) →
    n ≤ LAST_NUMBER + 1 → HasForm d → quota < 2 ^ 63 → AreBlobsWithin limit quota visible → fresh_bytes visible (blobs_given like x) ≤ quota
    → command_in text ≡ Some v → are_asked (asked_outputs v) x.outputs ≡ true → FitsSigned w32 x.code →
    IsShort (completed_text n d (gives (result_text like x)))
run_told limit quota n visible like d x text v number h few within room is asked fits =
    let result = result_short like x text v is asked fits (quota_sizes limit quota visible (blobs_given like x) few within room) in
    let whole = given_short n d (result_text like x) number h (omega arith) in
    omega arith
