-- Resource names (remote_execution.proto, "ContentAddressableStorage"; bytestream.proto,
-- `resource_name`).
use Rattle.std.specs.Prelude.{ℕ, Bool, ◌||◌, ◌&&◌, ◌==◌, nat_le, List, [], ◌∷◌, length, Option, Some, None, Result, Ok, Err, if◌then◌else◌, codes}
use Rattle.std.specs.Str.{bytes_eq}
pub use Rattle.numerals.specs.Results.{◌>>=◌, Gives}
use Rattle.digest.specs.declared.Digest.{Digest}
use Rattle.digest.specs.Text.{hash_in}
use Rattle.resource_names.specs.declared.name.NameError.{NameError}
use Rattle.resource_names.specs.declared.name.NameError.TheVariants.{Form, Hash, Size, Compressed}
use Rattle.resource_names.specs.declared.parse.TheConstants.{MOST_UUID}
use Rattle.resource_names.specs.Segments.{division_of, segments_of}
use Rattle.resource_names.specs.Size.{size_in}

-- what a Read names; the instance is empty where the name has none
pub record ReadNameValue : Type 0 where
  pub instance : List ℕ
  pub digest : Digest

-- what a Write names
pub record WriteNameValue : Type 0 where
  pub instance : List ℕ
  pub uuid : List ℕ
  pub digest : Digest

abbrev pub or_fault : {A : Type 0} → NameError → Option A → Result A NameError
or_fault e (Some x) = Ok x
or_fault e None = Err e

abbrev pub is_blobs : List ℕ → Bool
is_blobs segment = bytes_eq segment (codes "blobs")

abbrev pub is_compressed : List ℕ → Bool
is_compressed segment = bytes_eq segment (codes "compressed-blobs")

-- the segment after the instance in the name of a Read
abbrev pub divides_read : List ℕ → Bool
divides_read segment = is_blobs segment || is_compressed segment

-- the segment after the instance in the name of a Write
abbrev pub divides_write : List ℕ → Bool
divides_write segment = bytes_eq segment (codes "uploads")

-- a segment in the place of `blobs`
abbrev pub compression_check : List ℕ → Result Unit NameError
compression_check segment = if is_compressed segment then Err Compressed else Ok tt

-- the instance's name: with its slash it has a byte at least
abbrev pub instance_of : Option (List ℕ) → Result (List ℕ) NameError
instance_of None = Ok []
instance_of (Some text) = if length text == 0 then Err Form else Ok text

-- the digest that two segments write
abbrev pub digest_of_segments : List ℕ → List ℕ → Result Digest NameError
digest_of_segments hash size = do
  h ← or_fault Hash (hash_in hash)
  n ← or_fault Size (size_in size)
  Ok (record { hash = h; size = n })

-- a hash, a size and no more
abbrev pub digest_alone : List (List ℕ) → Result Digest NameError
digest_alone (hash ∷ size ∷ []) = digest_of_segments hash size
digest_alone segments = Err Form

abbrev pub uuid_of : List ℕ → Result (List ℕ) NameError
uuid_of uuid =
    if nat_le 1 (length uuid) && nat_le (length uuid) MOST_UUID then Ok uuid else Err Form

abbrev pub blobs_place : List ℕ → Result Unit NameError
blobs_place segment = if is_blobs segment then Ok tt else Err Form

-- `compressed-blobs` in the place of `blobs`, after the uuid
abbrev pub upload_compression_check : List (List ℕ) → Result Unit NameError
upload_compression_check (uuid ∷ place ∷ segments) = compression_check place
upload_compression_check segments = Ok tt

-- what stands after `uploads`; what follows the size says nothing
abbrev pub upload_named : List ℕ → List (List ℕ) → Result WriteNameValue NameError
upload_named instance (uuid ∷ place ∷ hash ∷ size ∷ more) = do
  u ← uuid_of uuid
  _ ← blobs_place place
  d ← digest_of_segments hash size
  Ok (record { instance = instance; uuid = u; digest = d })
upload_named instance segments = Err Form

-- `{instance}/blobs/{hash}/{size}`
abbrev pub read_name : List ℕ → Result ReadNameValue NameError
read_name text = do
  d ← or_fault Form (division_of divides_read (segments_of text))
  _ ← compression_check d.segment
  i ← instance_of d.before
  digest ← digest_alone d.after
  Ok (record { instance = i; digest = digest })

-- `{instance}/uploads/{uuid}/blobs/{hash}/{size}`, and perhaps further segments
abbrev pub write_name : List ℕ → Result WriteNameValue NameError
write_name text = do
  d ← or_fault Form (division_of divides_write (segments_of text))
  _ ← upload_compression_check d.after
  i ← instance_of d.before
  upload_named i d.after
