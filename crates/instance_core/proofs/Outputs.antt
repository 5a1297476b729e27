-- What a run leaves: each blob that is admitted is named, no blob is larger than the quota, and the
-- result is short.
use Rattle.std.proofs.Common.{◌≡◌, ℕ, ◌+◌, ◌<◌, ◌≤◌, ◌^◌, Bool, true, false, cond, not, ◌&&◌, ◌||◌, List, [], ◌∷◌, ◌++◌, length, map, filter, Option, Some, None, refl, sym, ap, ◌∙◌, arith}
use Rattle.std.specs.Prelude.{is_some, nat_lt, nat_eq}
use Rattle.std.specs.List.{AllByRecursion, flat_map, list_all}
use Rattle.std.specs.Map.{lookup}
use Rattle.std.proofs.lemmas.Bool.Decides.{nat_tests}
use Rattle.digest.specs.declared.Digest.{Digest}
use Rattle.digest.specs.declared.HashFunction.{HashFunction}
use Rattle.digest.specs.Naming.{Names, function_of, hash_by, same_digest, is_empty_digest}
use Rattle.digest.proofs.Same.{function_again, same_equal}
use Rattle.instance_view.specs.Visible.{Blob, visible_text, blobs_length}
use Rattle.quota_evict.specs.Within.{AreBlobsWithin, most_stored_bytes}
use Rattle.quota_evict.proofs.Seen.{seen_named}
use Rattle.job_queue.proofs.Orders.{all-weaker}
use Rattle.job_queue.specs.declared.queue.TheConstants.{LAST_NUMBER}
use Rattle.execution_messages.specs.Statuses.{distinct}
use Rattle.execution_messages.specs.Progress.{gives, completed_text}
use Rattle.execution_messages.specs.declared.fault.Fault.TheVariants.{QuotaExceeded, RunFailed}
use Rattle.execution_messages.proofs.EachOnce.{among, same-ones}
use Rattle.outcomes.specs.Asked.{are_asked}
use Rattle.outcomes.specs.Naming.{blob_like}
use Rattle.run_calls.specs.Outcomes.{ExitedValue, NodeKindValue, OutputNodeValue, OutputValue, OutcomeValue, as_directory, as_file, output_file, output_tree, failed, exited}
use Rattle.outcomes.specs.Results.{CompletionValue, blobs_given, file_blobs, node_blob, node_blobs, tree_blobs, stream_blobs, are_outputs, is_output, fresh_bytes, result_text, sizes_of}
use Rattle.outcomes.specs.Trees.{tree_text}
use Rattle.execution.specs.Job.{JobValue}
use Rattle.outcomes.specs.Ending.{EndingValue, admissions, completed_if, ending, failure, outputs_asked, stored_of, too_much}
use Rattle.instance_core.specs.Calls.{IsNarrowOutcome}
use Rattle.instance_core.specs.Named.{StoresNamedText}
use Rattle.instance_core.proofs.NamedTexts.{all_append}
use Rattle.instance_core.proofs.WholeJobs.{each_among}
use Rattle.instance_core.proofs.OperationSizes.{IsShort, HasForm, failed_short, given_short, result_short}

abbrev IsNamed : Blob → Type 0
IsNamed b = Names b.0 b.1

abbrev AreNamed : List Blob → Type 0
AreNamed blobs = AllByRecursion IsNamed blobs

like_named : (like : Digest) (text : List ℕ) → IsNamed (blob_like like text)
like_named like text = record {
  hash = ap (λ (f : HashFunction). hash_by f text) (sym (function_again (function_of like.hash) text));
  size =
      refl;
}

files_named : (like : Digest) (os : List OutputValue) → AreNamed (flat_map (file_blobs like) os)
files_named like [] = tt
files_named like (output_file path text e ∷ os) = (like_named like text, files_named like os)
files_named like (output_tree path nodes ∷ os) = files_named like os

nodes_named : (like : Digest) (nodes : List OutputNodeValue) → AreNamed (node_blobs like nodes)
nodes_named like [] = tt
nodes_named like (n ∷ nodes) = go n.kind (nodes_named like nodes) where
  go : (kind : NodeKindValue) → AreNamed (node_blobs like nodes) → AreNamed (node_blob like kind ++ node_blobs like nodes)
  go (as_file text e) later = (like_named like text, later)
  go as_directory later = later

trees_named : (like : Digest) (os : List OutputValue) → AreNamed (flat_map (tree_blobs like) os)
trees_named like [] = tt
trees_named like (output_file path text e ∷ os) = trees_named like os
trees_named like (output_tree path nodes ∷ os) =
    all_append IsNamed (tree_blobs like (output_tree path nodes)) (flat_map (tree_blobs like) os)
    (all_append IsNamed (node_blobs like nodes) (blob_like like (tree_text like nodes) ∷ []) (nodes_named like nodes)
    (like_named like (tree_text like nodes), tt))
    (trees_named like os)

stream_named : (like : Digest) (text : List ℕ) → AreNamed (stream_blobs like text)
stream_named like text = go (nat_eq (length text) 0) where
  go : (b : Bool) → AreNamed (cond b [] (blob_like like text ∷ []))
  go true = tt
  go false = (like_named like text, tt)

given_named : (like : Digest) (x : ExitedValue) → AreNamed (blobs_given like x)
given_named like x =
    all_append IsNamed ((flat_map (file_blobs like) x.outputs ++ flat_map (tree_blobs like) x.outputs) ++ stream_blobs like x.stdout)
    (stream_blobs like x.stderr)
    (all_append IsNamed (flat_map (file_blobs like) x.outputs ++ flat_map (tree_blobs like) x.outputs) (stream_blobs like x.stdout)
    (all_append IsNamed (flat_map (file_blobs like) x.outputs) (flat_map (tree_blobs like) x.outputs) (files_named like x.outputs)
    (trees_named like x.outputs))
    (stream_named like x.stdout))
    (stream_named like x.stderr)

-- ---- how a job ends

abbrev completion : JobValue → ExitedValue → CompletionValue
completion job x = record { blobs = blobs_given job.action x; result = result_text job.action x }

abbrev whole_end : JobValue → ExitedValue → EndingValue
whole_end job x = record {
  end_is = gives (result_text job.action x);
  blobs = blobs_given job.action x;
  stored =
      stored_of job x.code (result_text job.action x);
}

-- what is said of the ending of a job, whatever the run gave
exited_is : (P : EndingValue → Type 0) (quota : ℕ) (visible : List Blob) (job : JobValue) → P failure → P too_much → (x : ExitedValue)
    → (are_outputs job.action (outputs_asked job) x.outputs ≡ true → nat_lt quota (fresh_bytes visible (blobs_given job.action x)) ≡ false →
    P (whole_end job x)) → P (ending quota visible job (exited x))
exited_is P quota visible job failed_is too_large x completed = go (are_outputs job.action (outputs_asked job) x.outputs) refl where
  over : (b : Bool) → are_outputs job.action (outputs_asked job) x.outputs ≡ true →
      nat_lt quota (fresh_bytes visible (blobs_given job.action x)) ≡ b → P (cond b too_much (whole_end job x))
  over true taken is = too_large
  over false taken is = completed taken is

  go : (b : Bool) → are_outputs job.action (outputs_asked job) x.outputs ≡ b →
      P (completed_if quota visible job x.code (cond b (Some (completion job x)) None))
  go true taken = over (nat_lt quota (fresh_bytes visible (blobs_given job.action x))) taken refl
  go false taken = failed_is

blobs_named : (quota : ℕ) (visible : List Blob) (job : JobValue) (outcome : OutcomeValue) →
    AreNamed (ending quota visible job outcome).blobs
blobs_named quota visible job failed = tt
blobs_named quota visible job (exited x) = exited_is (λ (e : EndingValue). AreNamed e.blobs) quota visible job tt tt x
    (λ taken room. given_named job.action x)

admissions_named : (blobs : List Blob) → AreNamed blobs → AllByRecursion StoresNamedText (admissions blobs)
admissions_named [] h = tt
admissions_named (b ∷ blobs) h = (h.0, admissions_named blobs h.1)

-- what is admitted is named
pub ending_stores : (quota : ℕ) (visible : List Blob) (job : JobValue) (outcome : OutcomeValue) →
    AllByRecursion StoresNamedText (admissions (ending quota visible job outcome).blobs)
ending_stores quota visible job outcome = admissions_named (ending quota visible job outcome).blobs (blobs_named quota visible job outcome)

-- ---- how large blobs are

-- a text that is there is no longer than all together
text_few : (d : Digest) (text : List ℕ) (bs : List Blob) → lookup (same_digest d) bs ≡ Some text → length text ≤ blobs_length bs
text_few d text [] is = absurd (cc)
text_few d text (b ∷ bs) is = go (same_digest d b.0) is (λ later. text_few d text bs later) where
  go : (c : Bool) → cond c (Some b.1) (lookup (same_digest d) bs) ≡ Some text →
      (lookup (same_digest d) bs ≡ Some text → length text ≤ blobs_length bs) → length text ≤ length b.1 + blobs_length bs
  go true is later = let same : b.1 ≡ text = cc in rw (← same) (omega arith)
  go false is later = let rest = later is in omega arith

seen_few : (d : Digest) (text : List ℕ) (visible : List Blob) → visible_text d visible ≡ Some text → length text ≤ blobs_length visible
seen_few d text visible is = go (is_empty_digest d) is where
  go : (b : Bool) → cond b (Some []) (lookup (same_digest d) visible) ≡ Some text → length text ≤ blobs_length visible
  go true is = let none : [] ≡ text = cc in rw (← none) (omega arith)
  go false is = text_few d text visible is

-- one of digests that pass a test is no larger than all of them together
one_size : (t : Digest → Bool) (d : Digest) (ds : List Digest) → among d ds ≡ true → t d ≡ true → d.size ≤ sizes_of (filter t ds)
one_size t d [] there passes = absurd (cc)
one_size t d (c ∷ cs) there passes = go (same_digest d c) (t c) refl refl there (λ later. one_size t d cs later passes) where
  go : (a b : Bool) → same_digest d c ≡ a → t c ≡ b → (a || among d cs) ≡ true → (among d cs ≡ true → d.size ≤ sizes_of (filter t cs)) →
      d.size ≤ sizes_of (cond b (c ∷ filter t cs) (filter t cs))
  go true true same is there later = let equal : d.size ≡ c.size = ap (λ (x : Digest). x.size) (same_equal d c same) in omega arith
  go true false same is there later = absurd (let one : t d ≡ t c = ap t (same_equal d c same) in cc)
  go false true same is there later = let rest = later there in omega arith
  go false false same is there later = later there

abbrev keys : List Blob → List Digest
keys blobs = map (λ (b : Blob). b.0) blobs

key_size : (limit quota : ℕ) (visible blobs : List Blob) (d : Digest) → AreBlobsWithin limit quota visible →
    fresh_bytes visible blobs ≤ quota → among d (keys blobs) ≡ true → d.size ≤ quota
key_size limit quota visible blobs d within few there = go (visible_text d visible) refl where
  go : (o : Option (List ℕ)) → visible_text d visible ≡ o → d.size ≤ quota
  go (Some text) is =
      let size = (seen_named limit quota visible d text within is).size in
      let short = seen_few d text visible is in
      let bytes = within.bytes in
      omega arith
  go None is =
      let t : Digest → Bool = λ d. not (is_some (visible_text d visible)) in
      let fresh : t d ≡ true = rw is refl in
      let one = one_size t d (distinct (keys blobs)) (same-ones d (keys blobs) ∙ there) fresh in
      omega arith

sizes_below : (bs : List Blob) → AllByRecursion (λ (d : Digest). d.size < 2 ^ 63) (keys bs) →
    AllByRecursion (λ (b : Blob). b.0.size < 2 ^ 63) bs
sizes_below [] h = tt
sizes_below (b ∷ bs) h = (h.0, sizes_below bs h.1)

-- blobs for which there is room have sizes that messages can say
have_sizes : (limit quota : ℕ) (visible blobs : List Blob) → quota ≤ most_stored_bytes → AreBlobsWithin limit quota visible →
    nat_lt quota (fresh_bytes visible blobs) ≡ false → AllByRecursion (λ (b : Blob). b.0.size < 2 ^ 63) blobs
have_sizes limit quota visible blobs most within room =
    let few : fresh_bytes visible blobs ≤ quota = not_over quota (fresh_bytes visible blobs) room in
    sizes_below blobs (all-weaker (λ (d : Digest). among d (keys blobs) ≡ true) (λ (d : Digest). d.size < 2 ^ 63)
    (λ d there. below quota d.size most (key_size limit quota visible blobs d within few there)) (keys blobs) (each_among (keys blobs)))
  where
    not_over : (a b : ℕ) → nat_lt a b ≡ false → b ≤ a
    not_over a b is = grind (arith, nat_tests, is)

    below : (quota size : ℕ) → quota ≤ 2 ^ 40 → size ≤ quota → size < 2 ^ 63
    below quota size most few = omega arith

-- ---- what is told of the end

first : (a b : Bool) → (a && b) ≡ true → a ≡ true
first true b is = refl
first false b is = absurd (cc)

abbrev IsShortEnd : ℕ → JobValue → EndingValue → Type 0
IsShortEnd n job e = IsShort (completed_text n job.action e.end_is)

pub ending_short : (limit quota : ℕ) (visible : List Blob) (n : ℕ) (job : JobValue) (outcome : OutcomeValue) → quota ≤ most_stored_bytes →
    AreBlobsWithin limit quota visible → n ≤ LAST_NUMBER + 1 → HasForm job.action → IsNarrowOutcome outcome
    → IsShort (completed_text n job.action (ending quota visible job outcome).end_is)
ending_short limit quota visible n job failed most within number form narrow = failed_short n job.action RunFailed number form
ending_short limit quota visible n job (exited x) most within number form narrow =
    exited_is (IsShortEnd n job) quota visible job (failed_short n job.action RunFailed number form)
    (failed_short n job.action QuotaExceeded number form) x
    (λ taken room. given_short n job.action (result_text job.action x) number form
    (result_short job x (first (are_asked (outputs_asked job) x.outputs) (list_all (is_output job.action) x.outputs) taken) narrow
    (have_sizes limit quota visible (blobs_given job.action x) most within room)))
