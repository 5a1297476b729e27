-- Nodes of a directory read record by record. For the code alone: no contract of a call speaks of
-- it.
use Rattle.std.specs.Prelude.{◌≡◌, ℕ, pos, false, List, [], ◌∷◌, Option, Some, None, Result, Ok, Err, option_map, nat_lt, unwrap_or, if◌then◌else◌}
use Rattle.std.specs.Str.{is_utf8}
use Rattle.std.specs.Int.{w64, cast_signed}
use Rattle.protobuf_wire.specs.Reading.{records_of}
use Rattle.protobuf_wire.specs.declared.field.WireError.{WireError}
use Rattle.protobuf_wire.specs.declared.error.MessageError.{MessageError}
use Rattle.protobuf_wire.specs.Record.{Record}
use Rattle.protobuf_wire.specs.Fields.{number_in, payload_in}
use Rattle.reapi_messages.specs.Digests.{DigestValue}
use Rattle.tree_messages.specs.Directories.{FileNodeValue, DirectoryNodeValue, SymlinkNodeValue}
use Rattle.input_tree.specs.declared.node_texts.Unread.{Unread}

abbrev pub and_then : {A B : Type 0} → Option A → (A → Option B) → Option B
and_then None step = None
and_then (Some x) step = step x

-- a function's answer, seen by view, is the meaning
abbrev pub Reads : {X Y : Type 0} → (X → Y) → Result X Unread → Option Y → Type 0
Reads view (Ok x) meaning = meaning ≡ Some (view x)
Reads view (Err e) meaning = meaning ≡ None

-- what can be read
abbrev pub readable : {V : Type 0} → Result V MessageError → Option V
readable (Err e) = None
readable (Ok v) = Some v

-- ---- record by record

abbrev pub with_all : {A : Type 0} → (A → Record → Option A) → A → List Record → Option A
with_all step a [] = Some a
with_all step a (r ∷ rs) = and_then (step a r) (λ b. with_all step b rs)

-- and those that a reader has still to give
abbrev pub with_left : {A : Type 0} → (A → Record → Option A) → A →
    Result (List Record) WireError → Option A
with_left step a (Err e) = None
with_left step a (Ok rs) = with_all step a rs

-- ---- a field so far, and with one more record

abbrev pub string_in : List ℕ → Option (List ℕ)
string_in b = if is_utf8 b then Some b else None

abbrev pub string_or : List ℕ → Option (List ℕ) → Option (List ℕ)
string_or last None = Some last
string_or last (Some b) = string_in b

abbrev pub string_after : ℕ → List ℕ → Record → Option (List ℕ)
string_after field last r = string_or last (payload_in field r)

abbrev pub number_or : {C : Type 0} → (ℕ → C) → C → Option ℕ → C
number_or meaning last None = last
number_or meaning last (Some n) = meaning n

abbrev pub number_after : {C : Type 0} → (ℕ → C) → ℕ → C → Record → C
number_after meaning field last r = number_or meaning last (number_in field r)

-- ---- a digest

abbrev pub digest_after : DigestValue → Record → Option DigestValue
digest_after d r =
    and_then (string_after 1 d.hash r) (λ hash. Some (record {
      hash = hash;
      size_bytes = number_after (cast_signed w64) 2 d.size_bytes r;
    }))

abbrev pub no_digest : DigestValue
no_digest = record { hash = []; size_bytes = pos 0 }

-- the digest so far, and with the records of one more payload
abbrev pub digest_text_after : Option DigestValue → List ℕ → Option (Option DigestValue)
digest_text_after d b =
    option_map (λ e. Some e) (with_left digest_after (unwrap_or d no_digest) (records_of b))

abbrev pub digest_or : Option DigestValue → Option (List ℕ) → Option (Option DigestValue)
digest_or d None = Some d
digest_or d (Some b) = digest_text_after d b

abbrev pub embedded_after : ℕ → Option DigestValue → Record → Option (Option DigestValue)
embedded_after field d r = digest_or d (payload_in field r)

-- ---- nodes

abbrev pub file_after : FileNodeValue → Record → Option FileNodeValue
file_after v r =
    and_then (string_after 1 v.name r) (λ name. and_then (embedded_after 2 v.digest r)
    (λ digest. Some (record {
      name = name;
      digest = digest;
      is_executable = number_after (nat_lt 0) 4 v.is_executable r;
    })))

abbrev pub no_file : FileNodeValue
no_file = record { name = []; digest = None; is_executable = false }

abbrev pub child_after : DirectoryNodeValue → Record → Option DirectoryNodeValue
child_after v r =
    and_then (string_after 1 v.name r) (λ name. and_then (embedded_after 2 v.digest r)
    (λ digest. Some (record { name = name; digest = digest })))

abbrev pub no_child : DirectoryNodeValue
no_child = record { name = []; digest = None }

abbrev pub symlink_after : SymlinkNodeValue → Record → Option SymlinkNodeValue
symlink_after v r =
    and_then (string_after 1 v.name r) (λ name. and_then (string_after 2 v.target r)
    (λ target. Some (record { name = name; target = target })))

abbrev pub no_symlink : SymlinkNodeValue
no_symlink = record { name = []; target = [] }
