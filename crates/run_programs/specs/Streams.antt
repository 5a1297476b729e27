-- How much of what a program wrote counts.
use Rattle.std.specs.Prelude.{ℕ, ◌+◌, ◌-◌, ◌^◌, min}
use Rattle.run_calls.specs.declared.programs.Stream.{Stream}
use Rattle.run_calls.specs.declared.programs.Stream.TheVariants.{Output, Error}
use Rattle.run_programs.specs.declared.started.Lengths.{Lengths}

-- how many bytes of a stream
abbrev pub end_of : Stream → Lengths → ℕ
end_of Output lengths = lengths.output
end_of Error lengths = lengths.error

-- how many of both, as far as 64 bits go
abbrev pub length_of : Lengths → ℕ
length_of lengths = min (lengths.output + lengths.error) (2 ^ 64 - 1)
