-- The size that the name of a Write states is below 2^63.
use Rattle.std.proofs.Common.{◌≡◌, ◌<◌, ◌^◌, ℕ, Bool, true, false, cond, List, [], ◌∷◌, Option, Some, None, Result, Ok, Err, refl, subst, arith}
use Rattle.std.specs.Prelude.{◌&&◌, nat_lt}
use Rattle.std.specs.Str.Parse.{digits_value}
use Rattle.std.proofs.lemmas.Bool.Decides.{nat_tests}
use Rattle.digest.specs.declared.Digest.{Digest}
use Rattle.digest.specs.declared.Hash.{Hash as BlobHash}
use Rattle.digest.specs.Text.{hash_in}
use Rattle.bytestream.specs.NameError.{NameError}
use Rattle.bytestream.specs.NameError.TheVariants.{Form, Hash, Size}
use Rattle.bytestream.specs.Segments.{DivisionValue, division_of, segments_of}
use Rattle.bytestream.specs.Size.{is_numeral, size_in}
use Rattle.bytestream.specs.Names.{WriteNameValue, ◌>>=◌, or_fault, uuid_of, blobs_place, digest_of_segments, divides_write, upload_compression_check, instance_of, upload_named, write_name}

size_below : (text : List ℕ) (n : ℕ) → size_in text ≡ Some n → n < 2 ^ 63
size_below text n is = go (is_numeral text) (nat_lt (digits_value 10 text) (2 ^ 63)) refl is where
  go : (a b : Bool) → nat_lt (digits_value 10 text) (2 ^ 63) ≡ b → cond (a && b) (Some (digits_value 10 text)) None ≡ Some n → n < 2 ^ 63
  go true true low is =
      let small : digits_value 10 text < 2 ^ 63 = grind (arith, nat_tests) in
      let same : digits_value 10 text ≡ n = cc in
      subst (λ (m : ℕ). m < 2 ^ 63) same small
  go true false low is = absurd (cc)
  go false b low is = absurd (cc)

digest_below : (hash size : List ℕ) (d : Digest) → digest_of_segments hash size ≡ Ok d → d.size < 2 ^ 63
digest_below hash size d is = go (hash_in hash) (size_in size) refl is where
  go : (h : Option BlobHash) (n : Option ℕ) → size_in size ≡ n →
      (or_fault Hash h >>= λ x. or_fault Size n >>= λ m. Ok (record { hash = x; size = m })) ≡ Ok d → d.size < 2 ^ 63
  go (Some x) (Some m) at is =
      let whole : Digest = record { hash = x; size = m } in
      let same : whole ≡ d = cc in
      subst (λ (y : Digest). y.size < 2 ^ 63) same (size_below size m at)
  go (Some x) None at is = absurd (cc)
  go None n at is = absurd (cc)

abbrev IsBelow : WriteNameValue → Type 0
IsBelow name = name.digest.size < 2 ^ 63

upload_below : (instance : List ℕ) (segments : List (List ℕ)) (name : WriteNameValue) → upload_named instance segments ≡ Ok name →
    IsBelow name
upload_below instance (uuid ∷ place ∷ hash ∷ size ∷ more) name is =
    go (uuid_of uuid) (blobs_place place) (digest_of_segments hash size) refl is where
      go : (a : Result (List ℕ) NameError) (b : Result Unit NameError) (c : Result Digest NameError) → digest_of_segments hash size ≡ c
          → (a >>= λ u. b >>= λ _. c >>= λ d. Ok (record { instance = instance; uuid = u; digest = d })) ≡ Ok name → IsBelow name
      go (Ok u) (Ok _) (Ok d) at is =
          let whole : WriteNameValue = record { instance = instance; uuid = u; digest = d } in
          let same : whole ≡ name = cc in
          subst IsBelow same (digest_below hash size d at)
      go (Ok u) (Ok _) (Err e) at is = absurd (cc)
      go (Ok u) (Err e) c at is = absurd (cc)
      go (Err e) b c at is = absurd (cc)
upload_below instance (uuid ∷ place ∷ hash ∷ []) name is = absurd (cc)
upload_below instance (uuid ∷ place ∷ []) name is = absurd (cc)
upload_below instance (uuid ∷ []) name is = absurd (cc)
upload_below instance [] name is = absurd (cc)

pub name_below : (text : List ℕ) (name : WriteNameValue) → write_name text ≡ Ok name → name.digest.size < 2 ^ 63
name_below text name is = go (division_of divides_write (segments_of text)) is where
  after : (d : DivisionValue) (a : Result Unit NameError) (b : Result (List ℕ) NameError) →
      (a >>= λ _. b >>= λ i. upload_named i d.after) ≡ Ok name → IsBelow name
  after d (Ok _) (Ok i) is = upload_below i d.after name is
  after d (Ok _) (Err e) is = absurd (cc)
  after d (Err e) b is = absurd (cc)

  go : (o : Option DivisionValue) → (or_fault Form o >>= λ d. upload_compression_check d.after >>= λ _. instance_of d.before >>= λ i.
      upload_named i d.after) ≡ Ok name → IsBelow name
  go (Some d) is = after d (upload_compression_check d.after) (instance_of d.before) is
  go None is = absurd (cc)
