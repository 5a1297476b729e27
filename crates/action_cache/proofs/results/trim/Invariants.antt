use Rattle.std.proofs.Common.{◌≡◌, map, length}
use Rattle.instance_view.specs.Visible.{blobs_length}
use Rattle.instance_limits.specs.Shown.{limits_value}
use Rattle.action_cache.specs.Results.{result_shown, front_within}
use Rattle.action_cache.proofs.results.trim.Given as goal

abbrev pub invariant-results : goal.invariant-results
invariant-results l = record {
  entries_are : front_within (limits_value l.limits).results (limits_value l.limits).result_bytes (map result_shown l.cache.entries)
      ≡ front_within (limits_value l.limits).results (limits_value l.limits).result_bytes (map result_shown l.fn.cache.entries);
  bytes_are : l.bytes ≡ blobs_length (map result_shown l.cache.entries);
  cap_is : l.cache.cap ≡ l.fn.cache.cap;
}

abbrev pub decreases-results : goal.decreases-results
decreases-results l = length l.cache.entries
