-- The numbers that an operator chooses for an instance.
use Rattle.std.specs.Prelude.{ℕ, ◌≤◌, ◌<◌, ◌^◌}

pub record LimitsValue : Type 0 where
  -- the most blobs
  pub blobs : ℕ
  -- the most results of actions
  pub results : ℕ
  -- the most bytes that these have together
  pub result_bytes : ℕ
  -- the bytes that a client may send on a connection, and on each stream of it, before more are
  -- asked for (RFC 9113, section 6.9)
  pub window : ℕ

-- what may be chosen: each result that comes fits, since no message has more than 4,194,304 bytes
pub record IsLimits (limits : LimitsValue) : Type 0 where
  pub some_blobs : 0 < limits.blobs
  pub few_blobs : limits.blobs ≤ 2 ^ 31
  pub few_results : limits.results ≤ 2 ^ 31
  pub room : 4194304 ≤ limits.result_bytes
  pub short_results : limits.result_bytes ≤ 2 ^ 31
  -- sections 6.9.2 and 6.9.1
  pub least : 65535 ≤ limits.window
  pub most : limits.window < 2 ^ 31

-- where nothing else is chosen
abbrev pub usual_limits : LimitsValue
usual_limits =
    record { blobs = 65536; results = 10000; result_bytes = 67108864; window = 65535 }
