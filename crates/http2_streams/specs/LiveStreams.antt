-- What the streams are that an event names, and which are live after the frame that brought it (RFC
-- 9113 section 5.1).
use Rattle.std.specs.Prelude.{◌≡◌, ◌<◌, ℕ, ◌==◌, if◌then◌else◌, Bool, true, not, List, [], ◌∷◌, ◌++◌, filter, Option, Some, None}
use Rattle.std.specs.List.{list_any}
use Rattle.http2_streams.specs.declared.event.Event.{Event}
use Rattle.http2_streams.specs.declared.event.Event.TheVariants.{Nothing, Request, Content, Trailers, Cancel}
use Rattle.http2_streams.specs.History.{Entry, highest_stream, live_streams, is_ended_by_server}

-- the stream that an event names
abbrev pub stream_of_event : Event → Option ℕ
stream_of_event Nothing = None
stream_of_event (Request s fields end_stream) = Some s
stream_of_event (Content s content end_stream) = Some s
stream_of_event (Trailers s) = Some s
stream_of_event (Cancel s) = Some s

abbrev pub has_stream : List ℕ → ℕ → Bool
has_stream ss s = list_any (λ t. t == s) ss

-- a request is on a new stream, above all that were opened; all else is on one that was live
abbrev pub IsOnItsStream : List Entry → Event → Type 0
IsOnItsStream d Nothing = Unit {0}
IsOnItsStream d (Request s fields end_stream) = highest_stream d < s
IsOnItsStream d (Content s content end_stream) = has_stream (live_streams d) s ≡ true
IsOnItsStream d (Trailers s) = has_stream (live_streams d) s ≡ true
IsOnItsStream d (Cancel s) = has_stream (live_streams d) s ≡ true

abbrev pub other_streams : ℕ → List ℕ → List ℕ
other_streams s ss = filter (λ t. not (t == s)) ss

-- END_STREAM of the client closes a stream that the server ended before, and no other
abbrev pub live_after_end : List Entry → ℕ → List ℕ
live_after_end d s =
    if is_ended_by_server d s then other_streams s (live_streams d) else live_streams d

-- the live streams after a frame that brought the event, and what was put for the frame
abbrev pub live_after : List Entry → Event → List ℕ
live_after d Nothing = live_streams d
live_after d (Request s fields end_stream) = live_streams d ++ s ∷ []
live_after d (Content s content end_stream) =
    if end_stream then live_after_end d s else live_streams d
live_after d (Trailers s) = live_after_end d s
live_after d (Cancel s) = other_streams s (live_streams d)
