-- How long the result of a run is, beside the command that asks for its outputs.
use Rattle.std.proofs.Common.{◌≡◌, ℕ, ◌+◌, ◌*◌, ◌^◌, ◌<◌, ◌≤◌, Bool, true, false, cond, ◌&&◌, not, eqb, nat_eq, nat_le, List, [], ◌∷◌, ◌++◌, length, map, Some, None, Result, Ok, Err, FitsSigned, bytes_eq, refl, ap, sym, subst, eqb-true, leb-true, arith, inl, inr}
use Rattle.std.specs.Int.{w32, w64, cast_unsigned}
use Rattle.std.specs.List.{AllByRecursion, flat_map, list_all}
use Rattle.std.specs.Str.{is_utf8}
use Rattle.std.proofs.lemmas.Slice.Eq.{bytes_eq-Decides}
use Rattle.std.proofs.lemmas.Bool.{cases_lt}
use Rattle.sha2.specs.Sha256.{sha256}
use Rattle.sha2.specs.Sha512.{sha512}
use Rattle.sha2.proofs.Facts256.{length-sha256}
use Rattle.sha2.proofs.Facts512.{length-sha512}
use Rattle.digest.specs.declared.Digest.{Digest}
use Rattle.digest.specs.declared.HashFunction.{HashFunction}
use Rattle.digest.specs.declared.HashFunction.TheVariants.{Sha256, Sha512}
use Rattle.digest.specs.Hex.{lower_digits}
use Rattle.digest.specs.Naming.{digest_by, function_of}
use Rattle.digest.specs.Text.{hash_text}
use Rattle.digest.proofs.HexLemmas.{length-encode_with}
use Rattle.protobuf_wire.specs.declared.error.MessageError.{MessageError}
use Rattle.protobuf_wire.specs.declared.error.MessageError.TheVariants.{NotUtf8}
use Rattle.protobuf_wire.specs.Record.{Value, Number, Eight, Payload, Four, Record}
use Rattle.protobuf_wire.specs.Writing.{records_text, message_field}
use Rattle.protobuf_wire.specs.Fields.{each_of, payloads, repeated_string, repeated_values, string, utf8, value_of_text}
use Rattle.protobuf_wire.specs.Parts.{each_field, text_for, embedded_field, flag_field, int32_field, repeated_field, string_field}
use Rattle.protobuf_wire.proofs.ReadAgain.{int32_below}
use Rattle.protobuf_wire.proofs.Tools.{bind_ok, ok_is}
use Rattle.reapi_messages.specs.Digests.{DigestValue, digest_records}
use Rattle.tree_messages.specs.Results.{OutputDirectoryValue, OutputFileValue, output_directory_records, output_file_records}
use Rattle.execution_messages.specs.Actions.{CommandValue, command_of, environment_variable_of}
use Rattle.instance_view.specs.Visible.{Blob}
use Rattle.actions.specs.Commands.{AskedOutput, are_paths, asked_as, asked_outputs, command_in, is_command, is_path, is_place, is_variable, is_word, valid_command}
use Rattle.job_queue.proofs.Orders.{all-append}
use Rattle.tree_calls.proofs.Named.{all_front}
use Rattle.tree_calls.proofs.Sizes.{both_written, payload_size, payloads_weight, read_from, sizes, weight}
use Rattle.outcomes.specs.Asked.{are_asked, is_asked}
use Rattle.outcomes.specs.Naming.{blob_like, digest_like, written_like}
use Rattle.run_calls.specs.Outcomes.{ExitedValue, OutputValue, output_file, output_tree}
use Rattle.outcomes.specs.Results.{blobs_given, file_blobs, file_results, node_blobs, result_text, stream_blobs, stream_digest, tree_blobs, tree_results}
use Rattle.outcomes.specs.Trees.{tree_text}
use Rattle.outcomes.specs.Short.{HaveSizes}
use Rattle.outcomes.proofs.Fields.{few_text_written, middle_more, middle_written, text_written, number_written, flag_written, more_written}
use Rattle.outcomes.proofs.Written.{digest_written}

first : (a b : Bool) → (a && b) ≡ true → a ≡ true
first true b h = refl
first false b h = absurd (cc)

second : (a b : Bool) → (a && b) ≡ true → b ≡ true
second true b h = h
second false b h = absurd (cc)

-- ---- outputs that are asked for

-- their paths, each with two bytes more
abbrev asked_size : List AskedOutput → ℕ
asked_size [] = 0
asked_size (a ∷ asked) = 2 + length a.path + asked_size asked

abbrev pub output_path : OutputValue → List ℕ
output_path (output_file path text is_executable) = path
output_path (output_tree path nodes) = path

abbrev pub paths_size : List OutputValue → ℕ
paths_size [] = 0
paths_size (o ∷ os) = 2 + length (output_path o) + paths_size os

same_path : (a : AskedOutput) (o : OutputValue) → is_asked a o ≡ true → length (output_path o) ≡ length a.path
same_path a (output_file path text e) h = sym (ap (length {A = ℕ})
    ((bytes_eq-Decides a.path path).0 (second a.as_file (bytes_eq a.path path) h)))
same_path a (output_tree path nodes) h = sym (ap (length {A = ℕ})
    ((bytes_eq-Decides a.path path).0 (second a.as_tree (bytes_eq a.path path) h)))

-- each path has a byte at least
abbrev HasPath : AskedOutput → Type 0
HasPath a = 0 < length a.path

abbrev pub HavePaths : List OutputValue → Type 0
HavePaths os = AllByRecursion (λ o. 0 < length (output_path o)) os

outputs_some : (asked : List AskedOutput) (os : List OutputValue) → AllByRecursion HasPath asked → are_asked asked os ≡ true → HavePaths os
outputs_some asked [] some h = tt
outputs_some [] (o ∷ os) some h = absurd (cc)
outputs_some (a ∷ asked) (o ∷ os) some h = go (is_asked a o) refl h (λ later. outputs_some asked os some.1 later)
    (λ later. outputs_some asked (o ∷ os) some.1 later) where
      go : (b : Bool) → is_asked a o ≡ b → cond b (are_asked asked os) (are_asked asked (o ∷ os)) ≡ true →
          (are_asked asked os ≡ true → HavePaths os) → (are_asked asked (o ∷ os) ≡ true → HavePaths (o ∷ os)) → HavePaths (o ∷ os)
      go true is h given other = let path = same_path a o is in let first = some.0 in (omega arith, given h)
      go false is h given other = other h

paths_asked : (asked : List AskedOutput) (os : List OutputValue) → are_asked asked os ≡ true → paths_size os ≤ asked_size asked
paths_asked asked [] h = omega arith
paths_asked [] (o ∷ os) h = absurd (cc)
paths_asked (a ∷ asked) (o ∷ os) h = go (is_asked a o) refl h (λ later. paths_asked asked os later)
    (λ later. paths_asked asked (o ∷ os) later) where
      go : (b : Bool) → is_asked a o ≡ b → cond b (are_asked asked os) (are_asked asked (o ∷ os)) ≡ true →
          (are_asked asked os ≡ true → paths_size os ≤ asked_size asked) →
          (are_asked asked (o ∷ os) ≡ true → paths_size (o ∷ os) ≤ asked_size asked) → paths_size (o ∷ os) ≤ asked_size (a ∷ asked)
      go true is h given other = let path = same_path a o is in let rest = given h in omega arith
      go false is h given other = let rest = other h in omega arith

-- ---- the command

utf8_same : (b t : List ℕ) → utf8 b ≡ Ok t → t ≡ b
utf8_same b t h = go (is_utf8 b) h where
  go : (c : Bool) → cond c (Ok b) (Err NotUtf8) ≡ Ok t → t ≡ b
  go true h = cc
  go false h = absurd (cc)

texts_same : (ps ts : List (List ℕ)) → each_of utf8 ps ≡ Ok ts → ts ≡ ps
unfolding each_of
texts_same [] ts h = sym (ok_is [] ts h)
texts_same (p ∷ ps) ts h =
    let first = bind_ok (utf8 p) _ ts h in
    let rest = bind_ok (each_of utf8 ps) _ ts first.2 in
    let e = ok_is (first.0 ∷ rest.0) ts rest.2 in
    joined p first.0 ps rest.0 ts (utf8_same p first.0 first.1) (texts_same ps rest.0 rest.1) e
  where
    joined : (a b : List ℕ) (as' bs ts : List (List ℕ)) → b ≡ a → bs ≡ as' → b ∷ bs ≡ ts → ts ≡ a ∷ as'
    joined a b as' bs ts one more is = cc

-- two fields take no more than all the records
both_weights : (rs : List Record) → sizes (payloads 3 rs) + sizes (payloads 4 rs) ≤ weight rs
unfolding payloads
both_weights [] = omega arith
both_weights (r ∷ rs) = go (eqb r.number 3) (eqb r.number 4) r.value refl refl (both_weights rs) where
  go : (a b : Bool) (v : Value) → eqb r.number 3 ≡ a → eqb r.number 4 ≡ b → sizes (payloads 3 rs) + sizes (payloads 4 rs) ≤ weight rs
      → sizes (payloads 3 (record { number = r.number; value = v } ∷ rs)) + sizes
      (payloads 4 (record { number = r.number; value = v } ∷ rs)) ≤ 2 + payload_size v + weight rs
  go true true v is other ih = absurd (let three = eqb-true r.number 3 is in let four = eqb-true r.number 4 other in omega arith)
  go false false v is other ih = rw (is, other) (omega arith)
  go true false (Number n) is other ih = rw (is, other) (omega arith)
  go true false (Eight b) is other ih = rw (is, other) (omega arith)
  go true false (Payload b) is other ih = rw (is, other) (omega arith)
  go true false (Four b) is other ih = rw (is, other) (omega arith)
  go false true (Number n) is other ih = rw (is, other) (omega arith)
  go false true (Eight b) is other ih = rw (is, other) (omega arith)
  go false true (Payload b) is other ih = rw (is, other) (omega arith)
  go false true (Four b) is other ih = rw (is, other) (omega arith)

-- what the paths of a command take of its text
record ArePathsWithin (room : ℕ) (v : CommandValue) : Type 0 where
  pub paths : sizes v.output_paths ≤ room
  pub older : sizes v.output_files + sizes v.output_directories ≤ room

paths_within : (text : List ℕ) (v : CommandValue) → value_of_text command_of text ≡ Ok v → ArePathsWithin (length text) v
unfolding command_of
paths_within text v h =
    let r = read_from command_of text v h in
    let arguments = bind_ok (repeated_string 1 r.records) _ v r.means in
    let variables = bind_ok (repeated_values environment_variable_of 2 r.records) _ v arguments.2 in
    let files = bind_ok (repeated_string 3 r.records) _ v variables.2 in
    let directories = bind_ok (repeated_string 4 r.records) _ v files.2 in
    let place = bind_ok (string 6 r.records) _ v directories.2 in
    let paths = bind_ok (repeated_string 7 r.records) _ v place.2 in
    let e = ok_is (record {
      arguments = arguments.0;
      environment_variables = variables.0;
      output_files = files.0;
      output_directories =
          directories.0;
      working_directory = place.0;
      output_paths = paths.0;
    }) v paths.2 in
    let files_same : sizes files.0 ≡ sizes (payloads 3 r.records) = ap sizes (texts_same (payloads 3 r.records) files.0 files.1) in
    let directories_same : sizes directories.0 ≡ sizes (payloads 4 r.records) =
    ap sizes (texts_same (payloads 4 r.records) directories.0 directories.1) in
    let paths_same : sizes paths.0 ≡ sizes (payloads 7 r.records) = ap sizes (texts_same (payloads 7 r.records) paths.0 paths.1) in
    let both = both_weights r.records in
    let one = payloads_weight 7 r.records in
    let light = r.light in
    subst (ArePathsWithin (length text)) e (record { paths = omega arith; older = omega arith })

-- a text of at most so many bytes is read
command_read : (most : ℕ) (text : List ℕ) (v : CommandValue) (r : Result CommandValue MessageError) →
    cond (nat_le (length text) most) (valid_command r) None ≡ Some v → (length text ≤ most) × (r ≡ Ok v)
command_read most text v r h = go (nat_le (length text) most) refl r h where
  valid : (w : CommandValue) (b : Bool) → cond b (Some w) None ≡ Some v → w ≡ v
  valid w true h = cc
  valid w false h = absurd (cc)

  go : (b : Bool) → nat_le (length text) most ≡ b → (r : Result CommandValue MessageError) → cond b (valid_command r) None ≡ Some v →
      (length text ≤ most) × (r ≡ Ok v)
  go true is (Ok w) h = (leb-true (length text) most is, ap (λ (x : CommandValue). Ok x) (valid w (is_command w) h))
  go true is (Err e) h = absurd (cc)
  go false is r h = absurd (cc)

-- a command that is taken
command_taken : (most : ℕ) (text : List ℕ) (v : CommandValue) →
    cond (nat_le (length text) most) (valid_command (value_of_text command_of text)) None ≡ Some v → is_command v ≡ true
command_taken most text v h = taken v (value_of_text command_of text) (go (nat_le (length text) most) h) where
  go : (b : Bool) → cond b (valid_command (value_of_text command_of text)) None ≡ Some v →
      valid_command (value_of_text command_of text) ≡ Some v
  go true h = h
  go false h = absurd (cc)

  valid : (w v : CommandValue) (b : Bool) → is_command w ≡ b → cond b (Some w) None ≡ Some v → is_command v ≡ true
  valid w v true is h = let same : w ≡ v = cc in subst (λ (x : CommandValue). is_command x ≡ true) same is
  valid w v false is h = absurd (cc)

  taken : (v : CommandValue) (r : Result CommandValue MessageError) → valid_command r ≡ Some v → is_command v ≡ true
  taken v (Ok w) h = valid w v (is_command w) refl h
  taken v (Err e) h = absurd (cc)

-- a path has a byte
path_some : (path : List ℕ) → is_path path ≡ true → 0 < length path
path_some [] h = absurd (cc)
path_some (b ∷ bs) h = omega arith

paths_some : (as_file as_tree : Bool) (ps : List (List ℕ)) → are_paths ps ≡ true →
    AllByRecursion HasPath (map (asked_as as_file as_tree) ps)
paths_some as_file as_tree [] h = tt
paths_some as_file as_tree (p ∷ ps) h = (
  path_some p (first (is_path p) (are_paths ps) h),
  paths_some as_file as_tree ps
      (second (is_path p) (are_paths ps) h),
)

asked_some : (v : CommandValue) → is_command v ≡ true → AllByRecursion HasPath (asked_outputs v)
asked_some v h =
    let some = second (not (nat_eq (length v.arguments) 0)) _ h in
    let words = second (list_all is_word v.arguments) _ some in
    let variables = second (list_all is_variable v.environment_variables) _ words in
    let place = second (is_place v.working_directory) _ variables in
    go (nat_eq (length v.output_paths) 0) place
  where
    go : (b : Bool) → cond b (are_paths v.output_files && are_paths v.output_directories) (are_paths v.output_paths) ≡ true
        → AllByRecursion HasPath (cond b (map (asked_as true false) v.output_files ++ map (asked_as false true) v.output_directories)
        (map (asked_as true true) v.output_paths))
    go true h = all-append HasPath (map (asked_as true false) v.output_files) (map (asked_as false true) v.output_directories)
        (paths_some true false v.output_files (first (are_paths v.output_files) (are_paths v.output_directories) h))
        (paths_some false true v.output_directories (second (are_paths v.output_files) (are_paths v.output_directories) h))
    go false h = paths_some true true v.output_paths h

asked_mapped : (as_file as_tree : Bool) (ps : List (List ℕ)) → asked_size (map (asked_as as_file as_tree) ps) ≡ sizes ps
asked_mapped as_file as_tree [] = refl
asked_mapped as_file as_tree (p ∷ ps) = let rest = asked_mapped as_file as_tree ps in omega arith

asked_both : (a b : List AskedOutput) → asked_size (a ++ b) ≡ asked_size a + asked_size b
asked_both [] b = omega arith
asked_both (x ∷ a) b = let rest = asked_both a b in omega arith

asked_within : (room : ℕ) (v : CommandValue) → ArePathsWithin room v → asked_size (asked_outputs v) ≤ room
asked_within room v h = go (nat_eq (length v.output_paths) 0) where
  go : (b : Bool) → asked_size (cond b (map (asked_as true false) v.output_files ++ map (asked_as false true) v.output_directories)
      (map (asked_as true true) v.output_paths)) ≤ room
  go true =
      let both = asked_both (map (asked_as true false) v.output_files) (map (asked_as false true) v.output_directories) in
      let files = asked_mapped true false v.output_files in
      let directories = asked_mapped false true v.output_directories in
      let older = h.older in
      omega arith
  go false = let paths = asked_mapped true true v.output_paths in let newer = h.paths in omega arith

asked_most : (most : ℕ) (text : List ℕ) (v : CommandValue) →
    cond (nat_le (length text) most) (valid_command (value_of_text command_of text)) None ≡ Some v → asked_size (asked_outputs v) ≤ most
asked_most most text v h =
    let read = command_read most text v (value_of_text command_of text) h in
    let short = read.0 in
    let within = asked_within (length text) v (paths_within text v read.1) in
    omega arith

-- ---- what is written of outputs

abbrev IsWritten : DigestValue → Type 0
IsWritten v = length (text_for digest_records v) ≤ 142

hash_short : (f : HashFunction) (text : List ℕ) → length (hash_text (digest_by f text)) ≤ 128
hash_short Sha256 text =
    let pairs = length-encode_with lower_digits (sha256 text) in
    let bytes = length-sha256 text in
    omega arith
hash_short Sha512 text =
    let pairs = length-encode_with lower_digits (sha512 text) in
    let bytes = length-sha512 text in
    omega arith

named_written : (like : Digest) (text : List ℕ) → length text < 2 ^ 63 → IsWritten (written_like like text)
named_written like text short = digest_written (hash_text (digest_like like text)) (length text) (hash_short (function_of like.hash) text)
    (omega arith)

-- how long a path is as it is written
abbrev path_size : List ℕ → ℕ
path_size path = length (records_text (string_field 1 path))

file_written : (path : List ℕ) (digest : DigestValue) (b : Bool) → IsWritten digest →
    length (text_for output_file_records (record { path = path; digest = Some digest; is_executable = b })) ≤ 147 + path_size path
file_written path digest b small =
    let front = string_field 1 path ++ message_field 2 (text_for digest_records digest) in
    let all = both_written front (flag_field 4 b) in
    let both = both_written (string_field 1 path) (message_field 2 (text_for digest_records digest)) in
    let second = middle_written 2 (text_for digest_records digest) (omega arith) (omega arith) in
    let third = flag_written 4 b (omega arith) in
    omega arith

tree_written : (path : List ℕ) (digest : DigestValue) → IsWritten digest →
    length (text_for output_directory_records (record { path = path; tree_digest = Some digest })) ≤ 147 + path_size path
tree_written path digest small =
    let both = both_written (string_field 1 path) (message_field 3 (text_for digest_records digest)) in
    let second = middle_written 3 (text_for digest_records digest) (omega arith) (omega arith) in
    omega arith

-- an output more takes at most 52 bytes for each byte of its path and of two more
entry_written : (field : ℕ) (path t : List ℕ) (ts : List (List ℕ)) → field < 15 → 0 < length path → length path < 2 ^ 40 →
    length t ≤ 147 + path_size path → length (records_text (each_field field (t ∷ ts))) ≤ 52 * (2 + length path) + length
    (records_text (each_field field ts))
entry_written field path t ts few some short written = elim (cases_lt (length path) 128) [
  | inl small ↦
      let first = few_text_written 1 path (omega arith) small in
      let more = middle_more field t ts few (omega arith) in
      omega arith
  | inr large ↦
      let first = text_written 1 path (omega arith) (omega arith) in
      let more = more_written field t ts few (omega arith) in
      omega arith
]

abbrev files_size : List OutputFileValue → ℕ
files_size files = length (records_text (repeated_field output_file_records 2 files))

abbrev trees_size : List OutputDirectoryValue → ℕ
trees_size trees = length (records_text (repeated_field output_directory_records 3 trees))

outputs_written : (like : Digest) (os : List OutputValue) → HaveSizes (flat_map (file_blobs like) os) →
    HaveSizes (flat_map (tree_blobs like) os) → HavePaths os → paths_size os < 2 ^ 40
    → files_size (flat_map (file_results like) os) + trees_size (flat_map (tree_results like) os) ≤ 52 * paths_size os
outputs_written like [] files trees some short = omega arith
outputs_written like (output_file path text e ∷ os) files trees some short =
    let digest = named_written like text files.0 in
    let one = file_written path (written_like like text) e digest in
    let more = entry_written 2 path (text_for output_file_records
    (record { path = path; digest = Some (written_like like text); is_executable = e }))
    (map (text_for output_file_records) (flat_map (file_results like) os)) (omega arith) some.0 (omega arith) one in
    let rest = outputs_written like os files.1 trees some.1 (omega arith) in
    omega arith
outputs_written like (output_tree path nodes ∷ os) files trees some short =
    let first = all_front (λ (b : Blob). b.0.size < 2 ^ 63) (tree_blobs like (output_tree path nodes))
    (flat_map (tree_blobs like) os) trees in
    let last = all_front (λ (b : Blob). b.0.size < 2 ^ 63) (node_blobs like nodes) _ first.0 in
    let digest = named_written like (tree_text like nodes) last.1.0 in
    let one = tree_written path (written_like like (tree_text like nodes)) digest in
    let more = entry_written 3 path (text_for output_directory_records
    (record { path = path; tree_digest = Some (written_like like (tree_text like nodes)) }))
    (map (text_for output_directory_records) (flat_map (tree_results like) os)) (omega arith) some.0 (omega arith) one in
    let rest = outputs_written like os files first.1 some.1 (omega arith) in
    omega arith

-- ---- the result

stream_written : (field : ℕ) (like : Digest) (text : List ℕ) → field < 15 → HaveSizes (stream_blobs like text) →
    length (records_text (embedded_field digest_records field (stream_digest like text))) ≤ 145
stream_written field like text few h = go (nat_eq (length text) 0) h where
  go : (b : Bool) → HaveSizes (cond b [] (blob_like like text ∷ [])) →
      length (records_text (embedded_field digest_records field (cond b None (Some (written_like like text))))) ≤ 145
  go true h = omega arith
  go false h =
      let digest = named_written like text h.0 in
      let around = middle_written field (text_for digest_records (written_like like text)) few (omega arith) in
      omega arith

pub result_written : (like : Digest) (x : ExitedValue) → FitsSigned w32 x.code → HaveSizes (blobs_given like x) → HavePaths x.outputs →
    paths_size x.outputs < 2 ^ 40 → length (result_text like x) ≤ 320 + 52 * paths_size x.outputs
result_written like x fits h some short =
    let four = all_front (λ (b : Blob). b.0.size < 2 ^ 63)
    ((flat_map (file_blobs like) x.outputs ++ flat_map (tree_blobs like) x.outputs) ++ stream_blobs like x.stdout)
    (stream_blobs like x.stderr) h in
    let three = all_front (λ (b : Blob). b.0.size < 2 ^ 63) (flat_map (file_blobs like) x.outputs ++ flat_map (tree_blobs like) x.outputs)
    (stream_blobs like x.stdout) four.0 in
    let two = all_front (λ (b : Blob). b.0.size < 2 ^ 63) (flat_map (file_blobs like) x.outputs)
    (flat_map (tree_blobs like) x.outputs) three.0 in
    let outputs = outputs_written like x.outputs two.0 two.1 some short in
    let stdout = stream_written 6 like x.stdout (omega arith) three.1 in
    let stderr = stream_written 8 like x.stderr (omega arith) four.1 in
    let code = number_written 4 (cast_unsigned w64 x.code) (omega arith) (int32_below x.code fits) in
    let files = repeated_field output_file_records 2 (flat_map (file_results like) x.outputs) in
    let trees = repeated_field output_directory_records 3 (flat_map (tree_results like) x.outputs) in
    let out = embedded_field digest_records 6 (stream_digest like x.stdout) in
    let err = embedded_field digest_records 8 (stream_digest like x.stderr) in
    let a = both_written (((((files ++ trees) ++ int32_field 4 x.code) ++ []) ++ out) ++ []) err in
    let b = both_written ((((files ++ trees) ++ int32_field 4 x.code) ++ []) ++ out) [] in
    let c = both_written (((files ++ trees) ++ int32_field 4 x.code) ++ []) out in
    let d = both_written ((files ++ trees) ++ int32_field 4 x.code) [] in
    let e = both_written (files ++ trees) (int32_field 4 x.code) in
    let f = both_written files trees in
    omega arith

result_most : (most : ℕ) (like : Digest) (x : ExitedValue) (text : List ℕ) (v : CommandValue) → most < 2 ^ 40 →
    cond (nat_le (length text) most) (valid_command (value_of_text command_of text)) None ≡ Some v →
    are_asked (asked_outputs v) x.outputs ≡ true → FitsSigned w32 x.code
    → HaveSizes (blobs_given like x) → length (result_text like x) ≤ 320 + 52 * most
result_most most like x text v few is asked fits h =
    let room = asked_most most text v is in
    let paths = paths_asked (asked_outputs v) x.outputs asked in
    let some = outputs_some (asked_outputs v) x.outputs (asked_some v (command_taken most text v is)) asked in
    let written = result_written like x fits h some (omega arith) in
    omega arith

pub result_short : (like : Digest) (x : ExitedValue) (text : List ℕ) (v : CommandValue) → command_in text ≡ Some v →
    are_asked (asked_outputs v) x.outputs ≡ true → FitsSigned w32 x.code → HaveSizes (blobs_given like x) →
    length (result_text like x) ≤ 3500000000
result_short like x text v is asked fits h = let short = result_most 67108864 like x text v (omega arith) is asked fits h in omega arith
