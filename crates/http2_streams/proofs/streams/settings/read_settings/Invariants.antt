use Rattle.std.proofs.Common.{◌≡◌, ◌<◌, ◌^◌, false, length, None}
use Rattle.std.specs.Prelude.{fold, IfSome}
use Rattle.std.specs.List.{list_any}
use Rattle.http2_streams.specs.Rules.{is_above, settings_fault}
use Rattle.http2_streams.specs.Step.{size_after_setting}
use Rattle.http2_streams.proofs.streams.settings.read_settings.Given as goal

abbrev pub decreases-loop-setting : goal.decreases-loop-setting
decreases-loop-setting l = length l.settings

abbrev pub invariant-loop-setting : goal.invariant-loop-setting
invariant-loop-setting l =
    (settings_fault l.live l.fn.settings ≡ settings_fault l.live l.settings)
    × (fold size_after_setting None l.fn.settings ≡ fold size_after_setting l.size l.settings)
    × IfSome l.size (λ n. (n < 2 ^ 31) × (list_any (is_above n) l.live ≡ false))
