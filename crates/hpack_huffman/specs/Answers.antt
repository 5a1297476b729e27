-- What a decoder answers, by what reading gives.
use Rattle.std.specs.Prelude.{◌≡◌, ℕ, List, ◌++◌, Result, Ok, Err}
use Rattle.hpack_huffman.specs.declared.HuffmanError.{HuffmanError}
use Rattle.hpack_huffman.specs.declared.HuffmanError.TheVariants.{Eos, Padding, NoMemory}

-- the text that was read is added at the end
abbrev pub Appends : Result (List ℕ) HuffmanError → List ℕ → List ℕ → Type 0
Appends (Ok text) old new = new ≡ old ++ text
Appends (Err e) old new = ⊥

-- the fault is the one that reading meets; running out of memory says nothing of the octets
abbrev pub Refuses : HuffmanError → Result (List ℕ) HuffmanError → Type 0
Refuses NoMemory read = Unit {0}
Refuses Eos read = read ≡ Err Eos
Refuses Padding read = read ≡ Err Padding
