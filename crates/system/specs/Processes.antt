-- What the system shows of processes.
use Rattle.std.specs.Prelude.{◌≡◌, ◌==◌, ℕ, zero, suc, Bool, List, Some}
use Rattle.std.specs.List.{before_first, after_first, after_last}
use Rattle.numerals.specs.Number.{decimal_of}

-- `)`, which ends the name of a program
abbrev pub is_bracket : ℕ → Bool
is_bracket byte = byte == 41

abbrev pub is_space : ℕ → Bool
is_space byte = byte == 32

-- the word of this number, from 0 on; behind each is a space
abbrev pub word : ℕ → List ℕ → List ℕ
word zero text = before_first is_space text
word (suc n) text = word n (after_first is_space text)

-- a line says that a process is in a session: behind the process's number and its program's name,
-- which may be any text in brackets, stand a space, its state, the numbers of its parent and of its
-- group, and that of its session
abbrev pub ShowsSession : List ℕ → ℕ → Type 0
ShowsSession line session = decimal_of (word 4 (after_last is_bracket line)) ≡ Some session

-- it was seen that a process was in a session
pub record WasIn (showed : ℕ → List ℕ → Type 0) (session process : ℕ) : Type 0 where
  pub line : List ℕ
  pub was_shown : showed process line
  pub tells : ShowsSession line session
