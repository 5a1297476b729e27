-- Digests that are read have their form.
use Rattle.std.proofs.Common.{◌≡◌, ℕ, ℤ, pos, negsuc, ◌^◌, ◌<◌, ◌≤◌, Bool, true, false, cond, ltb, nat_eq, not, List, [], ◌∷◌, length, Option, Some, None, option_map, Result, Ok, Err, refl, ap, sym, subst, eqb-true, ltb-true, arith}
use Rattle.std.specs.Int.{w64, cast_signed}
use Rattle.std.specs.List.{AllByRecursion, concat}
use Rattle.digest.specs.declared.Digest.{Digest}
use Rattle.digest.specs.declared.Hash.{Hash}
use Rattle.digest.specs.declared.Hash.TheVariants.{Sha256, Sha512}
use Rattle.digest.specs.declared.HashFunction.{HashFunction}
use Rattle.digest.specs.Text.{bytes_in, digest_in, hash_in, with_hash}
use Rattle.digest.proofs.Writings.{is_written}
use Rattle.protobuf_wire.specs.declared.error.MessageError.{MessageError}
use Rattle.protobuf_wire.specs.Record.{Record}
use Rattle.protobuf_wire.specs.Fields.{each_of, embedded_value, flag, int32, int64, joined_value, last_or, numbers, payloads, records_in, repeated_values, string, value_of_text}
use Rattle.protobuf_wire.proofs.Tools.{bind_ok, ok_is}
use Rattle.reapi_messages.specs.Digests.{DigestValue, digest_of}
use Rattle.tree_messages.specs.Directories.{DirectoryNodeValue, DirectoryValue, FileNodeValue, directory_node_of, directory_of, file_node_of, symlink_node_of}
use Rattle.rpc.specs.declared.refusal.Refusal.TheVariants.{BadDigest}
use Rattle.cas_service.specs.Requests.{digest_or_refusal, form_check, is_hash_asked}
use Rattle.execution_messages.specs.Requests.{ExecuteRequestValue, execute_request_of}
use Rattle.execution_messages.specs.Actions.{ActionValue, action_of, duration_of}
use Rattle.input_tree.specs.Directories.{written_digest}
use Rattle.actions.specs.Actions.{ActionTaken, action_in, action_taken, and_then, taken_or_none, timeout_of}
use Rattle.tree_calls.proofs.Sizes.{read_from}
use Rattle.outcomes.specs.Short.{HasForm}

-- ---- a hash and a size

-- a size that is not negative is below 2^63
abbrev IsBelow : ℤ → Type 0
IsBelow size = (n : ℕ) → size ≡ pos n → n < 2 ^ 63

signed_below : (m : ℕ) → IsBelow (cast_signed w64 m)
signed_below m n is = go (ltb m (2 ^ 63)) refl where
  go : (b : Bool) → ltb m (2 ^ 63) ≡ b → n < 2 ^ 63
  go true low = let e = rw low at is in let same : m ≡ n = cc in let below = ltb-true m (2 ^ 63) low in omega arith
  go false high = let e = rw high at is in absurd (cc)

few_digits : (digits : List ℕ) (hash : Hash) → hash_in digits ≡ Some hash → length digits ≤ 128
few_digits digits hash h = go (nat_eq (length digits) 64) (nat_eq (length digits) 128) refl refl h where
  go : (short long : Bool) → nat_eq (length digits) 64 ≡ short → nat_eq (length digits) 128 ≡ long
      → cond short (option_map (λ bytes. Sha256 bytes) (bytes_in 32 digits))
      (cond long (option_map (λ bytes. Sha512 bytes) (bytes_in 64 digits)) None) ≡ Some hash → length digits ≤ 128
  go true long is other h = let same = eqb-true (length digits) 64 is in omega arith
  go false true other is h = let same = eqb-true (length digits) 128 is in omega arith
  go false false is other h = absurd (cc)

hash_form : (digits : List ℕ) (n : ℕ) (d : Digest) → n < 2 ^ 63 → digest_in digits (pos n) ≡ Some d → HasForm d
hash_form digits n d below h = go (hash_in digits) refl h where
  go : (o : Option Hash) → hash_in digits ≡ o → with_hash n o ≡ Some d → HasForm d
  go None is e = absurd (cc)
  go (Some hash) is e =
      let same : record { hash = hash; size = n } ≡ d = cc in
      let size : n ≡ d.size = ap (λ (x : Digest). x.size) same in
      let few = few_digits digits hash is in
      record { hash = rw (← (is_written digits (pos n) (Some d) (sym h)).hash_is) few; size = omega arith }

read_form : (digits : List ℕ) (size : ℤ) (d : Digest) → IsBelow size → digest_in digits size ≡ Some d → HasForm d
read_form digits (pos n) d below h = hash_form digits n d (below n refl) h
read_form digits (negsuc n) d below h = absurd (cc)

-- ---- digests of messages

-- a digest that was read, where there is one
abbrev pub IsRead : Option DigestValue → Type 0
IsRead None = Unit {0}
IsRead (Some v) = IsBelow v.size_bytes

pub written_form : (o : Option DigestValue) (d : Digest) → IsRead o → written_digest o ≡ Some d → HasForm d
written_form None d read h = absurd (cc)
written_form (Some v) d read h = read_form v.hash v.size_bytes d read h

digest_read : (t : List ℕ) (v : DigestValue) → value_of_text digest_of t ≡ Ok v → IsBelow v.size_bytes
unfolding digest_of
digest_read t v h =
    let r = read_from digest_of t v h in
    let b = bind_ok (string 1 r.records) _ v r.means in
    let e = ok_is (record { hash = b.0; size_bytes = int64 2 r.records }) v b.2 in
    rw (← e) (signed_below (last_or 0 (numbers 2 r.records)))

joined_read : (ps : List (List ℕ)) (o : Option DigestValue) → joined_value digest_of ps ≡ Ok o → IsRead o
joined_read [] o h = let e : None ≡ o = ok_is None o h in subst IsRead e tt
joined_read (p ∷ ps) o h =
    let b = bind_ok (value_of_text digest_of (concat (p ∷ ps))) _ o h in
    let e = ok_is (Some b.0) o b.2 in
    subst IsRead e (digest_read (concat (p ∷ ps)) b.0 b.1)

pub embedded_read : (field : ℕ) (rs : List Record) (o : Option DigestValue) → embedded_value digest_of field rs ≡ Ok o → IsRead o
embedded_read field rs o h =
    let b = bind_ok (each_of records_in (payloads field rs)) _ o h in
    joined_read (payloads field rs) o b.2

-- ---- directories

each_read : {V : Type 0} (read : List ℕ → Result V MessageError) (P : V → Type 0) → ((t : List ℕ) (v : V) → read t ≡ Ok v → P v) →
    (ps : List (List ℕ)) (vs : List V) → each_of read ps ≡ Ok vs → AllByRecursion P vs
unfolding each_of
each_read read P one [] vs h = subst (AllByRecursion P) (ok_is [] vs h) tt
each_read read P one (p ∷ ps) vs h =
    let first = bind_ok (read p) _ vs h in
    let rest = bind_ok (each_of read ps) _ vs first.2 in
    let e = ok_is (first.0 ∷ rest.0) vs rest.2 in
    subst (AllByRecursion P) e (one p first.0 first.1, each_read read P one ps rest.0 rest.1)

file_read : (t : List ℕ) (n : FileNodeValue) → value_of_text file_node_of t ≡ Ok n → IsRead n.digest
unfolding file_node_of
file_read t n h =
    let r = read_from file_node_of t n h in
    let name = bind_ok (string 1 r.records) _ n r.means in
    let digest = bind_ok (embedded_value digest_of 2 r.records) _ n name.2 in
    let e = ok_is (record { name = name.0; digest = digest.0; is_executable = flag 4 r.records }) n digest.2 in
    subst (λ (x : FileNodeValue). IsRead x.digest) e (embedded_read 2 r.records digest.0 digest.1)

child_read : (t : List ℕ) (n : DirectoryNodeValue) → value_of_text directory_node_of t ≡ Ok n → IsRead n.digest
unfolding directory_node_of
child_read t n h =
    let r = read_from directory_node_of t n h in
    let name = bind_ok (string 1 r.records) _ n r.means in
    let digest = bind_ok (embedded_value digest_of 2 r.records) _ n name.2 in
    let e = ok_is (record { name = name.0; digest = digest.0 }) n digest.2 in
    subst (λ (x : DirectoryNodeValue). IsRead x.digest) e (embedded_read 2 r.records digest.0 digest.1)

pub record IsDirectoryRead (v : DirectoryValue) : Type 0 where
  pub read_files : AllByRecursion (λ (n : FileNodeValue). IsRead n.digest) v.files
  pub read_children : AllByRecursion (λ (n : DirectoryNodeValue). IsRead n.digest) v.directories

pub directory_read : (t : List ℕ) (v : DirectoryValue) → value_of_text directory_of t ≡ Ok v → IsDirectoryRead v
unfolding directory_of
directory_read t v h =
    let r = read_from directory_of t v h in
    let files = bind_ok (repeated_values file_node_of 1 r.records) _ v r.means in
    let children = bind_ok (repeated_values directory_node_of 2 r.records) _ v files.2 in
    let links = bind_ok (repeated_values symlink_node_of 3 r.records) _ v children.2 in
    let e = ok_is (record { files = files.0; directories = children.0; symlinks = links.0 }) v links.2 in
    subst IsDirectoryRead e (record {
      read_files = each_read (value_of_text file_node_of) (λ (n : FileNodeValue). IsRead n.digest) file_read
          (payloads 1 r.records) files.0 files.1;
      read_children = each_read (value_of_text directory_node_of) (λ (n : DirectoryNodeValue). IsRead n.digest) child_read
          (payloads 2 r.records) children.0 children.1;
    })

-- ---- actions

record IsActionRead (v : ActionValue) : Type 0 where
  pub read_command : IsRead v.command_digest
  pub read_root : IsRead v.input_root_digest

action_read : (t : List ℕ) (v : ActionValue) → value_of_text action_of t ≡ Ok v → IsActionRead v
unfolding action_of
action_read t v h =
    let r = read_from action_of t v h in
    let command = bind_ok (embedded_value digest_of 1 r.records) _ v r.means in
    let root = bind_ok (embedded_value digest_of 2 r.records) _ v command.2 in
    let timeout = bind_ok (embedded_value duration_of 6 r.records) _ v root.2 in
    let e = ok_is (record { command_digest = command.0; input_root_digest = root.0; timeout = timeout.0; do_not_cache = flag 7 r.records })
    v timeout.2 in
    subst IsActionRead e (record {
      read_command = embedded_read 1 r.records command.0 command.1;
      read_root =
          embedded_read 2 r.records root.0 root.1;
    })

-- the digests of an action that is taken have their form
pub record HasForms (a : ActionTaken) : Type 0 where
  pub command_form : HasForm a.command
  pub root_form : HasForm a.root

then_some : {A B : Type 0} (o : Option A) (step : A → Option B) (y : B) → and_then o step ≡ Some y →
    (x : A) × (o ≡ Some x) × (step x ≡ Some y)
then_some (Some x) step y h = (x, refl, h)
then_some None step y h = absurd (cc)

taken_forms : (v : ActionValue) (a : ActionTaken) → IsActionRead v → action_taken v ≡ Some a → HasForms a
taken_forms v a read h =
    let command = then_some (written_digest v.command_digest) _ a h in
    let root = then_some (written_digest v.input_root_digest) _ a command.2 in
    let timeout = then_some (timeout_of v.timeout) _ a root.2 in
    let taken : ActionTaken = record { command = command.0; root = root.0; timeout = timeout.0; is_stored = not v.do_not_cache } in
    let e : taken ≡ a = cc in
    subst HasForms e (record {
      command_form = written_form v.command_digest command.0 read.read_command command.1;
      root_form = written_form v.input_root_digest root.0 read.read_root root.1;
    })

pub action_forms : (text : List ℕ) (a : ActionTaken) → action_in text ≡ Some a → HasForms a
action_forms text a h = go (value_of_text action_of text) refl h where
  go : (r : Result ActionValue MessageError) → value_of_text action_of text ≡ r → taken_or_none r ≡ Some a → HasForms a
  go (Ok v) is h = taken_forms v a (action_read text v is) h
  go (Err e) is h = absurd (cc)

-- ---- requests

pub refused_form : (function : Option HashFunction) (o : Option DigestValue) (d : Digest) → IsRead o → digest_or_refusal function o ≡ Ok d →
    HasForm d
refused_form function None d read h = absurd (cc)
refused_form function (Some v) d read h = go (digest_in v.hash v.size_bytes) refl h where
  asked : (x : Digest) (b : Bool) → cond b (Ok x) (Err BadDigest) ≡ Ok d → x ≡ d
  asked x true e = cc
  asked x false e = absurd (cc)

  go : (r : Option Digest) → digest_in v.hash v.size_bytes ≡ r → form_check function r ≡ Ok d → HasForm d
  go None is e = absurd (cc)
  go (Some x) is e = subst HasForm (asked x (is_hash_asked function x.hash) e) (read_form v.hash v.size_bytes x read is)

pub request_form : (function : Option HashFunction) (message : List ℕ) (request : ExecuteRequestValue) (d : Digest) →
    value_of_text execute_request_of message ≡ Ok request → digest_or_refusal function request.action_digest ≡ Ok d → HasForm d
unfolding execute_request_of
request_form function message request d h is =
    let r = read_from execute_request_of message request h in
    let name = bind_ok (string 1 r.records) _ request r.means in
    let action = bind_ok (embedded_value digest_of 6 r.records) _ request name.2 in
    let e = ok_is (record {
      instance_name = name.0;
      skip_cache_lookup = flag 3 r.records;
      action_digest = action.0;
      digest_function =
          int32 9 r.records;
    }) request action.2 in
    refused_form function request.action_digest d
    (subst (λ (x : ExecuteRequestValue). IsRead x.action_digest) e (embedded_read 6 r.records action.0 action.1)) is
