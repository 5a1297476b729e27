-- The frames that answer received ones (RFC 9113).
use Rattle.std.specs.Prelude.{◌≡◌, true, [], length}
use Rattle.http2_frames.specs.declared.frame.Frame.{Frame}
use Rattle.http2_frames.specs.declared.frame.Frame.TheVariants.{RstStream, Settings, Ping, WindowUpdate}

-- SETTINGS with ACK and PING with ACK (sections 6.5 and 6.7), WINDOW_UPDATE or RST_STREAM
abbrev pub IsControlAnswer : Frame → Type 0
IsControlAnswer (Settings ack settings) = (ack ≡ true) × (settings ≡ [])
IsControlAnswer (Ping ack opaque_data) = (ack ≡ true) × (length opaque_data ≡ 8)
IsControlAnswer (WindowUpdate s increment) = Unit {0}
IsControlAnswer (RstStream s code) = Unit {0}
IsControlAnswer _ = ⊥
