use Rattle.std.proofs.Common.{◌≡◌, ◌<◌, ◌⊎◌, inl, inr, true, false, map, length, ap, sym, ◌∙◌, arith, rules}
use Rattle.instance_view.specs.Visible.{blobs_length}
use Rattle.instance_limits.specs.Shown.{limits_value}
use Rattle.action_cache.specs.Results.{result_shown, front_within}
use Rattle.action_cache.proofs.Pairs.{front_popped, front_kept}
use Rattle.action_cache.proofs.results.trim.Goals as goal

pub results-preserved : goal.results-preserved
results-preserved c =
    let over : c.is_over.result ≡ true = search rules in
    let bytes = c.results.invariant.bytes_are in
    let past : ((limits_value c.args.limits).results < length c.results.cache.entries)
    ⊎ ((limits_value c.args.limits).result_bytes < blobs_length (map result_shown c.results.cache.entries)) =
    elim (c.is_over.ensures.over over) [ inl few ↦ inl few | inr short ↦ inr (omega (arith, short, bytes)) ] in
    let dropped = c.pop.ensures.dropped in
    record {
      entries_are = ap (front_within (limits_value c.args.limits).results (limits_value c.args.limits).result_bytes) c.pop.ensures.shorter
          ∙ front_popped (limits_value c.args.limits).results (limits_value c.args.limits).result_bytes c.results.cache.entries past
          ∙ c.results.invariant.entries_are;
      bytes_are = omega (arith, dropped, bytes);
      cap_is = c.pop.ensures.cap ∙ c.results.invariant.cap_is;
    }

pub returns-clause-entries : goal.returns-clause-entries
returns-clause-entries c =
    let over : c.is_over.result ≡ false = search rules in
    let bytes = c.results.invariant.bytes_are in
    let short = c.is_over.ensures.short over in
    sym (front_kept (limits_value c.args.limits).results (limits_value c.args.limits).result_bytes c.results.cache.entries
    (c.is_over.ensures.few over) (omega (arith, bytes, short))) ∙ c.results.invariant.entries_are
