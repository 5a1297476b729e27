-- What a flow-control window holds (RFC 9113, sections 5.2 and 6.9).
use Rattle.std.specs.Prelude.{ℕ, ◌^◌, ℤ, pos, ◌+ℤ◌}

-- windows are below this limit: a window is at most 2^31 - 1 bytes (section 6.9.1)
abbrev pub window_limit : ℕ
window_limit = 2 ^ 31

-- the initial size in force (SETTINGS_INITIAL_WINDOW_SIZE), and what was granted less what was
-- spent
pub record Credit : Type 0 where
  pub initial : ℕ
  pub change : ℤ

-- how many bytes may be sent; below 0 where the initial size was lowered after they were sent
-- (section 6.9.2)
abbrev pub window_left : Credit → ℤ
window_left w = pos w.initial +ℤ w.change
