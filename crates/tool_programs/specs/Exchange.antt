-- What is sent to a peer, what comes back, and what is shown of it.
use Rattle.std.specs.Prelude.{◌≡◌, ◌<◌, ⊤, ℕ, List, [], ◌∷◌, ◌++◌, length, Option}
use Rattle.std.specs.Io.KnownBytes.{Appends, Consumes, Keeps}
use Rattle.hex.specs.Hex.{encode_lower}
use Rattle.tool_programs.specs.declared.status.Status.{Status}
use Rattle.tool_programs.specs.declared.status.Status.TheVariants.{Done, Failed, BadLine, TooFew, OutOfMemory}
use Rattle.tool_programs.specs.declared.probing.Request.{Request}

-- bytes in lower-case hexadecimal, and a newline
abbrev pub hex_line : List ℕ → List ℕ
hex_line bytes = encode_lower bytes ++ 10 ∷ []

-- of all bytes those before the rest were put
abbrev pub IsSent : List ℕ → List ℕ → Option (List ℕ) → Option (List ℕ) → Type 0
IsSent all rest before after = (sent : List ℕ) × (all ≡ sent ++ rest) × Appends before after sent

-- the bytes that were taken were added
abbrev pub IsReceived : List ℕ → List ℕ → Option (List ℕ) → Option (List ℕ) → Type 0
IsReceived old new before after =
    (bytes : List ℕ) × (new ≡ old ++ bytes) × Consumes before after bytes

-- What a status says of what was put to the peer, of what the peer had to give, and of the output,
-- each before and after. All bytes were sent, as many as were wanted came, and they are shown; or
-- fewer came, and nothing is shown.
abbrev pub IsOutcome : Request → Status →
    (put put_after had had_after out out_after : Option (List ℕ)) → Type 0
IsOutcome request Done put put_after had had_after out out_after =
    Appends put put_after request.bytes.now
    × ((bytes : List ℕ) × (length bytes ≡ request.want) × Consumes had had_after bytes
    × Appends out out_after (hex_line bytes))
IsOutcome request (TooFew count) put put_after had had_after out out_after =
    ((bytes : List ℕ) × (length bytes ≡ count) × (count < request.want)
    × Consumes had had_after bytes) × Keeps out out_after
IsOutcome request OutOfMemory put put_after had had_after out out_after = Keeps out out_after
IsOutcome request Failed put put_after had had_after out out_after = ⊤
IsOutcome request (BadLine number) put put_after had had_after out out_after = ⊥
