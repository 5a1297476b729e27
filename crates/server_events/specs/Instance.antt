-- What a configured instance may be.
use Rattle.std.specs.Prelude.{ℕ, ◌^◌, ◌<◌, ◌≤◌, Bool, ◌&&◌, ◌||◌, not, nat_le, ◌==◌, List, [], ◌∷◌, length, codes, Contains}
use Rattle.std.specs.List.{list_all, list_any, AllPass}
use Rattle.std.specs.Str.{bytes_eq}

-- `a` to `z`, `0` to `9` or `-`
abbrev pub is_instance_name_byte : ℕ → Bool
is_instance_name_byte byte =
    (nat_le 97 byte && nat_le byte 122) || (nat_le 48 byte && nat_le byte 57) || byte == 45

-- the words that part a resource name, which no part of an instance name may be
-- (remote_execution.proto, `instance_name`)
abbrev pub resource_words : List (List ℕ)
resource_words =
    codes "blobs" ∷ codes "uploads" ∷ codes "actions" ∷ codes "actionResults"
    ∷ codes "operations" ∷ codes "capabilities"
    ∷ codes "compressed-blobs" ∷ []

-- the most bytes of an instance's name
abbrev pub longest_name : ℕ
longest_name = 64

-- some of those bytes, not too many, and none of those words
pub record IsInstanceName (name : List ℕ) : Type 0 where
  pub not_empty : 0 < length name
  pub short : length name ≤ longest_name
  pub plain : AllPass is_instance_name_byte name
  pub no_resource_word : ¬ (Contains resource_words name)

-- the same as a test
abbrev pub is_instance_name : List ℕ → Bool
is_instance_name name =
    not (length name == 0) && nat_le (length name) longest_name
    && list_all is_instance_name_byte name
    && not (list_any (bytes_eq name) resource_words)

-- the most bytes that an instance may be given: 2^40
abbrev pub quota_limit : ℕ
quota_limit = 2 ^ 40

-- the most actions that an instance may run at once
abbrev pub slots_limit : ℕ
slots_limit = 64
