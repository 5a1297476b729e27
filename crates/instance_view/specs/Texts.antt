-- Texts that are found by their digests, and what is counted where they are.
use Rattle.std.specs.Prelude.{ℕ, ◌+◌, ◌-◌, ◌^◌, List, Option, nat_lt, if◌then◌else◌}
use Rattle.digest.specs.declared.Digest.{Digest}
use Rattle.blob_pool.specs.Slots.{Slots}
use Rattle.instance_view.specs.Visible.{visible_text}
use Rattle.instance_view.specs.Sight.{SightValue, seen_in}

-- the text of each digest that is there
abbrev pub Lookup : Type 0
Lookup = Digest → Option (List ℕ)

-- the texts that an instance sees in a pool
abbrev pub texts_of : Slots → SightValue → Lookup
texts_of p s d = visible_text d (seen_in p s)

-- a pool, and what finds texts in it
pub record TextsValue (F : Type 0) : Type 0 where
  pub pool : Slots
  pub found : F

-- the texts that an instance sees
abbrev pub look_of : TextsValue SightValue → Lookup
look_of t = texts_of t.pool t.found

-- how often a digest was looked for, and how many bytes of texts were read
pub record WorkValue : Type 0 where
  pub looks : ℕ
  pub bytes : ℕ

-- a count of 64 bits, which stays at its end
abbrev pub counted : ℕ → ℕ → ℕ
counted n more = if nat_lt (n + more) (2 ^ 64) then n + more else 2 ^ 64 - 1
