-- Floods of resets: how often a client has reset live streams of a connection while it took none
-- of the bytes that wait for it (RFC 9113 section 10.5). The count is of the connection's history
-- alone.
use Rattle.std.specs.Prelude.{ℕ, ◌+◌, ◌==◌, nat_le, if◌then◌else◌, Bool, ◌&&◌, List, [], ◌∷◌, ◌++◌}
use Rattle.std.specs.List.{list_any}
use Rattle.http2_frames.specs.declared.codes.frame_type.TheConstants.{RST_STREAM}
use Rattle.http2_frames.specs.declared.frame.RawFrame.{RawFrame}
use Rattle.http2_streams.specs.History.{Entry, In, Unreadable, Out, Took, live_streams}
use Rattle.conn_core.specs.declared.floods.TheConstants.{MOST_RESETS}

-- behind this history, the frame is RST_STREAM for a stream that is live
abbrev pub resets_live : List Entry → RawFrame → Bool
resets_live d f = f.kind == RST_STREAM && list_any (λ t. t == f.stream) (live_streams d)

-- n resets, and behind the history d one more entry: a taking of bytes begins the count anew
abbrev pub count_with : List Entry → ℕ → Entry → ℕ
count_with d n (In f) = if resets_live d f then n + 1 else n
count_with d n (Unreadable e) = n
count_with d n (Out f) = n
count_with d n (Took count) = if count == 0 then n else 0

-- .. and these entries, one after another
abbrev pub count_along : List Entry → ℕ → List Entry → ℕ
count_along d n [] = n
count_along d n (e ∷ es) = count_along (d ++ e ∷ []) (count_with d n e) es

-- how often the client has reset a live stream since it took bytes last, or ever where it took none
abbrev pub resets_since_taking : List Entry → ℕ
resets_since_taking d = count_along [] 0 d

-- behind this history, the frame is one reset more than may be
abbrev pub is_flood : List Entry → RawFrame → Bool
is_flood d f = resets_live d f && nat_le MOST_RESETS (resets_since_taking d)
