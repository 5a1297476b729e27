-- Reading one entry after another.
use Rattle.std.proofs.Common.{◌≡◌, ℕ, List, [], ◌∷◌, Option, Some, None, Result, Ok, Err, refl, subst}
use Rattle.protobuf_wire.specs.declared.field.WireError.{WireError}
use Rattle.reapi_messages.specs.MessageError.{MessageError}
use Rattle.reapi_messages.specs.Results.{◌>>=◌}
use Rattle.reapi_messages.specs.Record.{Record}
use Rattle.reapi_messages.specs.Fields.{each_of, payload_in, payloads, repeated_values, value_of_text}
use Rattle.rpc.specs.declared.refusal.Refusal.{Refusal}
use Rattle.rpc.specs.declared.refusal.Refusal.TheVariants.{MalformedMessage}
use Rattle.cas_service.specs.declared.error.CallError.{CallError}
use Rattle.cas_service.specs.declared.error.CallError.TheVariants.{Refused, NoMemory}
use Rattle.cas_service.specs.Answers.{Fails}
use Rattle.cas_service.specs.Requests.{message_or_refusal}
use Rattle.cas_service.specs.Entries.{ReadsEntry, Refuses, entries_of, entry_in, with_entry}

-- what a record adds
pub entry_next : {V : Type 0} (value_of : List Record → Result V MessageError) (r : Record) (rest : Result (List Record) WireError) →
    entries_of value_of (rest >>= λ rs. Ok (r ∷ rs)) ≡ (entry_in value_of (payload_in 2 r) >>= λ o. with_entry o (entries_of value_of rest))
unfolding payloads each_of
entry_next {V} value_of r (Err e) = go (payload_in 2 r) where
  value : (x : Result V MessageError) → Err MalformedMessage
      ≡ ((message_or_refusal x >>= λ v. Ok (Some v)) >>= λ o. with_entry o (Err MalformedMessage))
  value (Ok v) = refl
  value (Err f) = refl

  go : (o : Option (List ℕ)) → Err MalformedMessage ≡ (entry_in value_of o >>= λ o. with_entry o (Err MalformedMessage))
  go None = refl
  go (Some b) = value (value_of_text value_of b)
entry_next {V} value_of r (Ok rs) = go (payload_in 2 r) refl where
  value : (x : Result V MessageError) (y : Result (List V) MessageError) →
      message_or_refusal (x >>= λ v. y >>= λ vs. Ok (v ∷ vs))
      ≡ ((message_or_refusal x >>= λ v. Ok (Some v)) >>= λ o. with_entry o (message_or_refusal y))
  value (Ok v) (Ok vs) = refl
  value (Ok v) (Err f) = refl
  value (Err f) y = refl

  go : (o : Option (List ℕ)) → payload_in 2 r ≡ o →
      entries_of value_of (Ok (r ∷ rs)) ≡ (entry_in value_of (payload_in 2 r) >>= λ o. with_entry o (entries_of value_of (Ok rs)))
  go None is = rw is refl
  go (Some b) is = rw is (value (value_of_text value_of b) (repeated_values value_of 2 rs))

pub entries_end : {V : Type 0} (value_of : List Record → Result V MessageError) → entries_of value_of (Ok []) ≡ Ok []
unfolding payloads each_of
entries_end value_of = refl

pub reads_some : {X V : Type 0} (shown : X → V) (o : Option X) (x : X) (before after : Result (List V) Refusal) → o ≡ Some x →
    ReadsEntry shown (Ok o) before after → before ≡ (after >>= λ vs. Ok (shown x ∷ vs))
reads_some shown None x before after is reads = absurd (cc)
reads_some shown (Some y) x before after is reads =
    let same : y ≡ x = cc in
    subst (λ z. before ≡ (after >>= λ vs. Ok (shown z ∷ vs))) same reads

-- a refusal that was answered is the meaning
pub fails_as : {Y : Type 0} (e : CallError) (refusal : Refusal) (meaning : Result Y Refusal) → Refuses e refusal → meaning ≡ Err refusal →
    Fails e meaning
fails_as NoMemory refusal meaning answered is = tt
fails_as (Refused found) refusal meaning answered is = rw answered is
