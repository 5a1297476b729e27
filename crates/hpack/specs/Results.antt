-- Steps of reading that may fail, where running out of memory says nothing of the octets.
use Rattle.std.specs.Prelude.{◌≡◌, Result, Ok, Err}
pub use Rattle.numerals.specs.Results.{◌>>=◌, Gives}
use Rattle.hpack.specs.declared.error.HpackError.{HpackError}
use Rattle.hpack.specs.declared.error.HpackError.TheVariants.{NoMemory}

-- the fault is the one that reading meets
abbrev pub Fails : {Y : Type 0} → HpackError → Result Y HpackError → Type 0
Fails NoMemory read = Unit {0}
Fails e read = read ≡ Err e

-- what a function returned, seen by view, is what reading gives, unless memory ran out
abbrev pub GivesInMemory : {X Y : Type 0} → (X → Y) → Result X HpackError → Result Y HpackError →
    Type 0
GivesInMemory view (Ok x) read = read ≡ Ok (view x)
GivesInMemory view (Err e) read = Fails e read
