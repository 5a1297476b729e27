-- What a client reads of the bytes that were put on a connection (RFC 9113).
use Rattle.std.specs.Prelude.{◌≡◌, ◌<◌, if◌then◌else◌, ℕ, Bool, true, false, not, List, [], ◌∷◌, ◌++◌, length, map, filter, Ok, pos, ◌≤ℤ◌}
use Rattle.std.specs.List.{AllByRecursion}
use Rattle.std.specs.Option.{option_map_or}
use Rattle.http2_streams.specs.Credit.{window_left}
use Rattle.http2_frames.specs.declared.frame.Frame.{Frame}
use Rattle.http2_frames.specs.declared.frame.Frame.TheVariants.{Data, Headers}
use Rattle.http2_frames.specs.Frames.{frame_of}
use Rattle.http2_frames.specs.Writing.{raw_of}
use Rattle.http2_frames.specs.Reading.{split}
use Rattle.http2_streams.specs.History.{Entry, In, Unreadable, Out, sent_frames, live_streams, window, connection_window, highest_stream, has_failed, is_ended_by_client}
use Rattle.http2_streams.specs.LiveStreams.{has_stream}
use Rattle.http2_streams.specs.Rules.{reading_fault}
use Rattle.grpc_messages.specs.Wire.{message_length_limit}
use Rattle.grpc_sending.specs.Bytes.{bytes_put}
use Rattle.grpc_sending.specs.Owed.{items_owed_on}
use Rattle.grpc_sending.specs.Pump.{reset_after}
use Rattle.conn_core.specs.Received.{outcome, fault_frames}
use Rattle.conn_core.specs.Past.{Past, greeting}
use Rattle.client_reading.specs.Responses.{stream_parts, response_of, IsBeginning, IsTakable}

-- ---- frames

-- the bytes divide into the frames that were put and nothing is left over, and each is understood
-- as it was meant
pub record ReadsFrames (d : List Entry) : Type 0 where
  pub divided : split [] (bytes_put d) ≡ record { items = map raw_of (sent_frames d); end = Ok [] }
  pub understood : AllByRecursion (λ f. frame_of (raw_of f) ≡ Ok f) (sent_frames d)

-- ---- HEADERS and DATA

-- DATA is not empty, its stream is live, and both windows are for it (sections 5.1 and 5.2)
pub record IsDataInTurn (before : List Entry) (s : ℕ) (bytes : List ℕ) : Type 0 where
  pub stream : has_stream (live_streams before) s ≡ true
  pub some : 0 < length bytes
  pub stream_window : pos (length bytes) ≤ℤ window_left (window before s)
  pub connection_window : pos (length bytes) ≤ℤ window_left (connection_window before)

-- what HEADERS and DATA have to keep to when they are put behind these entries
abbrev pub MayBePut : List Entry → Frame → Type 0
MayBePut before (Headers s end_stream end_headers fragment) =
    has_stream (live_streams before) s ≡ true
MayBePut before (Data s end_stream bytes) = IsDataInTurn before s bytes
MayBePut before _ = Unit {0}

abbrev pub ReadsInTurn : List Entry → Type 0
ReadsInTurn d =
    (before after : List Entry) (f : Frame) → d ≡ before ++ Out f ∷ after → MayBePut before f

-- ---- control frames

abbrev pub is_control : Frame → Bool
is_control (Headers s end_stream end_headers fragment) = false
is_control (Data s end_stream bytes) = false
is_control _ = true

-- what an entry causes to be put besides HEADERS and DATA: a received frame its answers, bytes that
-- are no frame GOAWAY, and a block with END_STREAM, where the client has not ended its side,
-- RST_STREAM with NO_ERROR (section 8.1)
abbrev pub frames_caused_by : List Entry → Entry → List Frame
frames_caused_by before (In f) = (outcome before f).put
frames_caused_by before (Unreadable e) =
    option_map_or (fault_frames (has_failed before) (highest_stream before)) (reading_fault e) []
frames_caused_by before (Out (Headers s end_stream end_headers fragment)) =
    if end_stream then reset_after s (not (is_ended_by_client before s)) else []
frames_caused_by before _ = []

abbrev pub frames_caused_from : List Entry → List Entry → List Frame
frames_caused_from before [] = []
frames_caused_from before (e ∷ es) =
    frames_caused_by before e ++ frames_caused_from (before ++ e ∷ []) es

-- the greeting, by the window, stands first, and behind it is what was caused, in order
abbrev pub ReadsControl : ℕ → List Entry → Type 0
ReadsControl window d =
    (later : List Entry) × (d ≡ greeting window ++ later)
    × (filter is_control (sent_frames later) ≡ frames_caused_from (greeting window) later)

-- ---- all of it

-- where a client takes every message that was owed, each stream has a beginning of what was owed to
-- it
abbrev pub ReadsResponses : Past → Type 0
ReadsResponses p =
    (limit : ℕ) → limit < message_length_limit → IsTakable limit p.owed → (s : ℕ) →
    IsBeginning limit (stream_parts p.history s) (response_of (items_owed_on s p.owed))

-- of a connection whose windows are of so many bytes
pub record IsReadByClient (window : ℕ) (p : Past) : Type 0 where
  pub frames : ReadsFrames p.history
  pub turns : ReadsInTurn p.history
  pub control : ReadsControl window p.history
  pub responses : ReadsResponses p
