-- Requests of many entries, which are read from their text one by one. For the code alone: no
-- public contract speaks of it.
use Rattle.std.specs.Prelude.{◌≡◌, ℕ, ℤ, pos, List, [], ◌∷◌, Option, Some, None, Result, Ok, Err}
use Rattle.protobuf_wire.specs.Reading.{record_at, items_left, records_of}
use Rattle.protobuf_wire.specs.declared.field.WireError.{WireError}
use Rattle.reapi_messages.specs.MessageError.{MessageError}
use Rattle.reapi_messages.specs.Results.{◌>>=◌}
use Rattle.reapi_messages.specs.Record.{Record}
use Rattle.reapi_messages.specs.Answers.{of_wire}
use Rattle.reapi_messages.specs.Fields.{string, int32, int32_of, utf8, payload_in, number_in, repeated_values, value_of_text}
use Rattle.rpc.specs.declared.refusal.Refusal.{Refusal}
use Rattle.rpc.specs.declared.refusal.Refusal.TheVariants.{MalformedMessage}
use Rattle.digest.specs.declared.Digest.{Digest}
use Rattle.digest.specs.declared.HashFunction.{HashFunction}
use Rattle.reapi_messages.specs.Digests.{digest_of}
use Rattle.cas_service.specs.declared.error.CallError.{CallError}
use Rattle.cas_service.specs.declared.error.CallError.TheVariants.{Refused, NoMemory}
use Rattle.cas_service.specs.declared.entries.Head.{Head}
use Rattle.cas_service.specs.Answers.{Fails}
use Rattle.cas_service.specs.Requests.{message_or_refusal, instance_check, function_asked, digests_sent}

-- ---- what a request says beside its entries

pub record HeadValue : Type 0 where
  pub instance_name : List ℕ
  pub digest_function : ℤ

abbrev pub head_shown : Head → HeadValue
head_shown h =
    record { instance_name = h.instance_name.now; digest_function = h.digest_function }

-- instance_name 1, and digest_function in this field
abbrev pub head_of : ℕ → List Record → Result HeadValue MessageError
head_of field rs = do
  instance_name ← string 1 rs
  Ok (record { instance_name = instance_name; digest_function = int32 field rs })

-- the hash function that a request names, where it is of the instance
abbrev pub admitted : List ℕ → HeadValue → Result (Option HashFunction) Refusal
admitted own head =
    instance_check own head.instance_name >>= λ _. function_asked head.digest_function

-- the name so far, or that of one more record
abbrev pub name_in : List ℕ → Option (List ℕ) → Result (List ℕ) Refusal
name_in name None = Ok name
name_in name (Some b) = message_or_refusal (utf8 b)

abbrev pub function_in : ℤ → Option ℕ → ℤ
function_in function None = function
function_in function (Some n) = int32_of n

-- what the records so far say, and one more
abbrev pub with_head : ℕ → HeadValue → Record → Result HeadValue Refusal
with_head field h r = name_in h.instance_name (payload_in 1 r) >>= λ name. Ok (record {
  instance_name = name;
  digest_function = function_in h.digest_function (number_in field r);
})

abbrev pub with_heads : ℕ → HeadValue → List Record → Result HeadValue Refusal
with_heads field h [] = Ok h
with_heads field h (r ∷ rs) = with_head field h r >>= λ g. with_heads field g rs

-- and those that a reader has still to give
abbrev pub with_heads_left : ℕ → HeadValue → Result (List Record) WireError →
    Result HeadValue Refusal
with_heads_left field h (Err e) = Err MalformedMessage
with_heads_left field h (Ok rs) = with_heads field h rs

abbrev pub no_head : HeadValue
no_head = record { instance_name = []; digest_function = pos 0 }

-- ---- the entries

-- what the payloads of field 2 mean, in order
abbrev pub entries_of : {V : Type 0} → (List Record → Result V MessageError) →
    Result (List Record) WireError → Result (List V) Refusal
entries_of value_of rs = message_or_refusal (of_wire rs >>= repeated_values value_of 2)

-- the meaning of a payload, where there is one
abbrev pub entry_in : {V : Type 0} → (List Record → Result V MessageError) → Option (List ℕ) →
    Result (Option V) Refusal
entry_in value_of None = Ok None
entry_in value_of (Some b) = message_or_refusal (value_of_text value_of b) >>= λ v. Ok (Some v)

-- an entry, where there is one, and the others
abbrev pub with_entry : {V : Type 0} → Option V → Result (List V) Refusal → Result (List V) Refusal
with_entry None rest = rest
with_entry (Some v) rest = rest >>= λ vs. Ok (v ∷ vs)

abbrev pub entries_in : {V : Type 0} → (List Record → Result V MessageError) → List ℕ →
    Result (List V) Refusal
entries_in value_of text = entries_of value_of (records_of text)

-- those that a reader has still to give
abbrev pub entries_left : {V : Type 0} → (List Record → Result V MessageError) →
    Result (List ℕ) WireError → Result (List V) Refusal
entries_left value_of state = entries_of value_of (items_left record_at state)

-- the entries that were left, beside an answer and those that are left then
abbrev pub ReadsEntry : {X V : Type 0} → (X → V) → Result (Option X) CallError →
    Result (List V) Refusal → Result (List V) Refusal → Type 0
ReadsEntry shown (Ok None) before after = before ≡ Ok []
ReadsEntry shown (Ok (Some x)) before after = before ≡ (after >>= λ vs. Ok (shown x ∷ vs))
ReadsEntry shown (Err e) before after = Fails e before

-- whether all are well formed
abbrev pub form_of : {V : Type 0} → Result (List V) Refusal → Result Unit Refusal
form_of (Ok vs) = Ok tt
form_of (Err e) = Err e

-- a refusal, where all are well formed
abbrev pub refusal_of : {V : Type 0} → Result (List V) Refusal → Refusal → Refusal
refusal_of (Ok vs) refusal = refusal
refusal_of (Err e) refusal = e

-- the refusal was answered, unless memory ran out
abbrev pub Refuses : CallError → Refusal → Type 0
Refuses (Refused found) refusal = found ≡ refusal
Refuses NoMemory refusal = Unit {0}

-- ---- requests as a whole

-- the entries that a request sends, and the hash function that it names
pub record SentValue (V : Type 0) : Type 0 where
  pub function : Option HashFunction
  pub entries : List V

-- what a request sends, whose digest_function is in this field, or its refusal
abbrev pub request_in : {V : Type 0} → (List Record → Result V MessageError) → ℕ → List ℕ →
    List ℕ → Result (SentValue V) Refusal
request_in value_of field own message = do
  head ← message_or_refusal (value_of_text (head_of field) message)
  entries ← entries_in value_of message
  function ← admitted own head
  Ok (record { function = function; entries = entries })

-- the digests that a message asks for
abbrev pub digests_in : Option HashFunction → List ℕ → Result (List Digest) Refusal
digests_in function message = entries_in digest_of message >>= digests_sent function

abbrev pub asked_in : List ℕ → ℕ → List ℕ → Result (List Digest) Refusal
asked_in own field message =
    request_in digest_of field own message >>= λ sent. digests_sent sent.function sent.entries
