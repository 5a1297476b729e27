-- Sizes in names of uploads are below 2^63.
use Rattle.std.proofs.Common.{◌≡◌, ℕ, ◌^◌, ◌<◌, Bool, true, false, cond, ◌&&◌, List, [], ◌∷◌, Some, None, Result, Ok, Err, refl, ltb-true}
use Rattle.std.specs.Prelude.{nat_lt}
use Rattle.std.specs.Str.Parse.{digits_value}
use Rattle.reapi_messages.proofs.Tools.{bind_ok, ok_is}
use Rattle.digest.specs.declared.Digest.{Digest}
use Rattle.digest.specs.Text.{hash_in}
use Rattle.bytestream.specs.NameError.{NameError}
use Rattle.bytestream.specs.NameError.TheVariants.{Form, Hash, Size}
use Rattle.bytestream.specs.Names.{WriteNameValue, or_fault, divides_write, upload_compression_check, instance_of, uuid_of, blobs_place, digest_of_segments, upload_named, write_name}
use Rattle.bytestream.specs.Segments.{division_of, segments_of}
use Rattle.bytestream.specs.Size.{is_numeral, size_in}
use Rattle.bytestream.specs.Refusals.{name_or_refusal}

-- a size that can be told (bytestream.proto, committed_size)
abbrev pub CanBeTold : ℕ → Type 0
CanBeTold n = n < 2 ^ 63

second : (a b : Bool) → (a && b) ≡ true → b ≡ true
second true b h = h
second false b h = absurd (cc)

size_told : (segment : List ℕ) (n : ℕ) → or_fault Size (size_in segment) ≡ Ok n → CanBeTold n
size_told segment n h = go (is_numeral segment && nat_lt (digits_value 10 segment) (2 ^ 63)) refl h where
  go : (b : Bool) → (is_numeral segment && nat_lt (digits_value 10 segment) (2 ^ 63)) ≡ b →
      or_fault Size (cond b (Some (digits_value 10 segment)) None) ≡ Ok n → CanBeTold n
  go true is h =
      let same = ok_is (digits_value 10 segment) n h in
      let few : digits_value 10 segment < 2 ^ 63 =
      ltb-true (digits_value 10 segment) (2 ^ 63) (second (is_numeral segment) (nat_lt (digits_value 10 segment) (2 ^ 63)) is) in
      rw (← same) few
  go false is h = absurd (cc)

digest_told : (hash size : List ℕ) (d : Digest) → digest_of_segments hash size ≡ Ok d → CanBeTold d.size
digest_told hash size d h =
    let a = bind_ok (or_fault Hash (hash_in hash)) _ d h in
    let b = bind_ok (or_fault Size (size_in size)) _ d a.2 in
    let e = ok_is (record { hash = a.0; size = b.0 }) d b.2 in
    rw (← e) (size_told size b.0 b.1)

upload_told : (instance : List ℕ) (segments : List (List ℕ)) (name : WriteNameValue) → upload_named instance segments ≡ Ok name →
    CanBeTold name.digest.size
upload_told instance (uuid ∷ place ∷ hash ∷ size ∷ more) name h =
    let a = bind_ok (uuid_of uuid) _ name h in
    let b = bind_ok (blobs_place place) _ name a.2 in
    let c = bind_ok (digest_of_segments hash size) _ name b.2 in
    let e = ok_is (record { instance = instance; uuid = a.0; digest = c.0 }) name c.2 in
    rw (← e) (digest_told hash size c.0 c.1)
upload_told instance (uuid ∷ place ∷ hash ∷ []) name h = absurd (cc)
upload_told instance (uuid ∷ place ∷ []) name h = absurd (cc)
upload_told instance (uuid ∷ []) name h = absurd (cc)
upload_told instance [] name h = absurd (cc)

pub write_told : (name_text : List ℕ) (name : WriteNameValue) → write_name name_text ≡ Ok name → CanBeTold name.digest.size
write_told name_text name h =
    let d = bind_ok (or_fault Form (division_of divides_write (segments_of name_text))) _ name h in
    let u = bind_ok (upload_compression_check d.0.after) _ name d.2 in
    let i = bind_ok (instance_of d.0.before) _ name u.2 in
    upload_told i.0 d.0.after name i.2

pub named_ok : {A : Type 0} (r : Result A NameError) (x : A) → name_or_refusal r ≡ Ok x → r ≡ Ok x
named_ok (Ok y) x h = cc
named_ok (Err e) x h = absurd (cc)
