-- Resource names as they are written (remote_execution.proto, "ContentAddressableStorage").
use Rattle.std.specs.Prelude.{◌≡◌, ℕ, ◌==◌, ◌≤◌, ◌<◌, Bool, false, List, [], ◌∷◌, ◌++◌, length, codes}
use Rattle.std.specs.List.{AllByRecursion}
use Rattle.std.specs.Fmt.{decimal}
use Rattle.digest.specs.declared.Digest.{Digest}
use Rattle.digest.specs.Text.{IsHash, hash_text}
use Rattle.resource_names.specs.declared.parse.TheConstants.{MOST_UUID}
use Rattle.resource_names.specs.Size.{size_limit}
use Rattle.resource_names.specs.Segments.{segments_of}
use Rattle.resource_names.specs.Names.{ReadNameValue, WriteNameValue, divides_read, divides_write}

-- `{hash}/{size}`
abbrev pub digest_text : Digest → List ℕ
digest_text d = hash_text d ++ (codes "/" ++ decimal d.size)

-- an instance's name with its slash, and nothing where there is none
abbrev pub instance_text : List ℕ → List ℕ
instance_text [] = []
instance_text (byte ∷ name) = (byte ∷ name) ++ codes "/"

-- `{instance}/blobs/{hash}/{size}`
abbrev pub read_text : ReadNameValue → List ℕ
read_text name = instance_text name.instance ++ (codes "blobs/" ++ digest_text name.digest)

-- `{instance}/uploads/{uuid}/blobs/{hash}/{size}`, and what follows
abbrev pub write_text : WriteNameValue → List ℕ → List ℕ
write_text name more =
    instance_text name.instance ++ (codes "uploads/" ++
    (name.uuid ++ (codes "/blobs/" ++ (digest_text name.digest ++ more))))

-- no segment passes a test
abbrev pub NoneDivides : (List ℕ → Bool) → List (List ℕ) → Type 0
NoneDivides divides segments = AllByRecursion (λ segment. divides segment ≡ false) segments

-- a text of one segment
abbrev pub HasNoSlash : List ℕ → Type 0
HasNoSlash text = AllByRecursion (λ byte. (byte == 47) ≡ false) text

-- nothing, or further segments, each after a slash
abbrev pub AreFurther : List ℕ → Type 0
AreFurther [] = Unit {0}
AreFurther (byte ∷ more) = byte ≡ 47

-- a digest that names can write: a hash of as many bytes as its function gives, and a size below
-- the limit
pub record IsNameable (d : Digest) : Type 0 where
  pub hash : IsHash d.hash
  pub size : d.size < size_limit

-- a text writes the name of a blob for a Read, in whose instance no segment is `blobs` or
-- `compressed-blobs`
pub record WritesRead (text : List ℕ) (name : ReadNameValue) : Type 0 where
  pub text_is : text ≡ read_text name
  pub apart : NoneDivides divides_read (segments_of name.instance)
  pub nameable : IsNameable name.digest

-- a text writes the name of a blob for a Write, in whose instance no segment is `uploads`
pub record WritesWrite (text : List ℕ) (name : WriteNameValue) : Type 0 where
  pub more : List ℕ
  pub text_is : text ≡ write_text name more
  pub further : AreFurther more
  pub apart : NoneDivides divides_write (segments_of name.instance)
  pub uuid_some : 1 ≤ length name.uuid
  pub uuid_most : length name.uuid ≤ MOST_UUID
  pub uuid_one : HasNoSlash name.uuid
  pub nameable : IsNameable name.digest
