-- One call of a reader, as the code makes it. For the code alone: no public contract speaks of it.
use Rattle.std.specs.Prelude.{◌≡◌, ◌≢◌, ℕ, ◌+◌, List, [], ◌∷◌, drop, Option, Some, None, Result, Ok, Err}
use Rattle.grpc_messages.specs.declared.error.MessagesError.{MessagesError}
use Rattle.grpc_messages.specs.declared.error.MessagesError.TheVariants.{Compressed, TooLarge, CutOff, NoMemory}
use Rattle.grpc_messages.specs.Reading.{whole_at, message_at}
use Rattle.grpc_messages.specs.Reader.{messages_in}

abbrev pub step_by_front : Result (Option ℕ) MessagesError → List ℕ →
    Result (Option (List ℕ)) MessagesError × Result (List ℕ) MessagesError
step_by_front (Ok None) bytes = (Ok None, Ok bytes)
step_by_front (Ok (Some n)) bytes = (Ok (Some (message_at bytes)), Ok (drop (5 + n) bytes))
step_by_front (Err e) bytes = (Err e, Err e)

abbrev pub step : ℕ → Result (List ℕ) MessagesError →
    Result (Option (List ℕ)) MessagesError × Result (List ℕ) MessagesError
step limit (Ok bytes) = step_by_front (whole_at limit bytes) bytes
step limit (Err e) = (Err e, Err e)

-- the answer and what is held then are those of the definition, or memory was refused for a message
abbrev pub TakesMessage : ℕ → Result (List ℕ) MessagesError →
    Result (Option (List ℕ)) MessagesError →
    Result (List ℕ) MessagesError → Type 0
TakesMessage limit old (Ok o) new = step limit old ≡ (Ok o, new)
TakesMessage limit old (Err Compressed) new = step limit old ≡ (Err Compressed, new)
TakesMessage limit old (Err TooLarge) new = step limit old ≡ (Err TooLarge, new)
TakesMessage limit old (Err CutOff) new = step limit old ≡ (Err CutOff, new)
TakesMessage limit old (Err NoMemory) new = (new ≡ old) × (messages_in (step limit old).0 ≢ [])

-- whether a request may end where the front is so
abbrev pub end_by_front : Result (Option ℕ) MessagesError → List ℕ → Result Unit MessagesError
end_by_front (Ok None) [] = Ok tt
end_by_front (Ok None) (b ∷ bs) = Err CutOff
end_by_front (Ok (Some n)) bytes = Err CutOff
end_by_front (Err e) bytes = Err e

abbrev pub ends_at : ℕ → Result (List ℕ) MessagesError → Result Unit MessagesError
ends_at limit (Ok bytes) = end_by_front (whole_at limit bytes) bytes
ends_at limit (Err e) = Err e

abbrev pub after_end : Result Unit MessagesError → Result (List ℕ) MessagesError →
    Result (List ℕ) MessagesError
after_end (Ok u) old = old
after_end (Err e) old = Err e
