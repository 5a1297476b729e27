-- What is told of a program: its code, that it and all that it started are ended, and what it
-- wrote, to the end of each stream.
use Rattle.std.specs.Prelude.{ℕ, zero, suc, ◌+◌, ℤ, true, List, [], ◌∷◌, ◌++◌, length, Result, Ok, Err}
use Rattle.run_calls.specs.declared.task.RunKey.{RunKey}
use Rattle.run_calls.specs.declared.programs.Stream.{Stream}
use Rattle.std.specs.declared.io.ErrorKind.{ErrorKind}
use Rattle.run_calls.specs.Calls.{ProgramCall, ProgramQuestion, ProgramAnswer, start_asked, end_asked, kill_asked, length_asked, read_asked, forget_asked, ended, killed, bytes, collect}

pub data ToldItem : Type 0 where
  code_item : RunKey → ℤ → ToldItem
  killed_item : RunKey → ToldItem
  -- the byte of a stream at a place in it
  stream_byte : RunKey → Stream → ℕ → ℕ → ToldItem
  -- nothing more is in a stream from a place on
  stream_end : RunKey → Stream → ℕ → ToldItem

abbrev pub stream_bytes : RunKey → Stream → ℕ → List ℕ → List ToldItem
stream_bytes run stream from [] = []
stream_bytes run stream from (b ∷ bs) =
    stream_byte run stream from b ∷ stream_bytes run stream (from + 1) bs

-- the bytes of a stream, to its end
abbrev pub whole_stream : RunKey → Stream → List ℕ → List ToldItem
whole_stream run stream bs = stream_bytes run stream 0 bs ++ stream_end run stream (length bs) ∷ []

-- bytes of a stream from a place on, or its end, where bytes were wanted and none are there
abbrev pub part_told : RunKey → Stream → ℕ → ℕ → List ℕ → List ToldItem
part_told run stream from zero [] = []
part_told run stream from (suc most) [] = stream_end run stream from ∷ []
part_told run stream from most (b ∷ bs) = stream_bytes run stream from (b ∷ bs)

abbrev pub end_told : RunKey → ProgramAnswer → List ToldItem
end_told run (ended code) = code_item run code ∷ []
end_told run a = []

abbrev pub kill_told : RunKey → ProgramAnswer → List ToldItem
kill_told run (killed true) = killed_item run ∷ []
kill_told run a = []

abbrev pub read_told : RunKey → Stream → ℕ → ℕ → ProgramAnswer → List ToldItem
read_told run stream from most (bytes bs) = part_told run stream from most bs
read_told run stream from most a = []

abbrev pub answer_told : ProgramQuestion → ProgramAnswer → List ToldItem
answer_told (start_asked place command) a = []
answer_told (end_asked run) a = end_told run a
answer_told (kill_asked run) a = kill_told run a
answer_told (length_asked run) a = []
answer_told (read_asked run stream from most) a = read_told run stream from most a
answer_told (forget_asked run) a = []

abbrev pub call_told : ProgramQuestion → Result ProgramAnswer ErrorKind → List ToldItem
call_told q (Err e) = []
call_told q (Ok a) = answer_told q a

abbrev pub items_told : List ProgramCall → List ToldItem
items_told calls = collect (λ c. call_told c.question c.answer) calls

-- the starts among what was asked
abbrev pub start_of : ProgramQuestion → List ProgramQuestion
start_of (start_asked place command) = start_asked place command ∷ []
start_of (end_asked run) = []
start_of (kill_asked run) = []
start_of (length_asked run) = []
start_of (read_asked run stream from most) = []
start_of (forget_asked run) = []

abbrev pub starts : List ProgramCall → List ProgramQuestion
starts calls = collect (λ c. start_of c.question) calls

-- the programs that are let go of among what was asked
abbrev pub forget_of : ProgramQuestion → List ProgramQuestion
forget_of (forget_asked run) = forget_asked run ∷ []
forget_of q = []

abbrev pub forgets : List ProgramCall → List ProgramQuestion
forgets calls = collect (λ c. forget_of c.question) calls

-- what failed among what was asked, but for what was to end a program: that is asked again
abbrev pub failure_of : ProgramQuestion → Result ProgramAnswer ErrorKind → List ProgramQuestion
failure_of (kill_asked run) a = []
failure_of q (Ok a) = []
failure_of q (Err e) = q ∷ []

abbrev pub failures : List ProgramCall → List ProgramQuestion
failures calls = collect (λ c. failure_of c.question c.answer) calls
