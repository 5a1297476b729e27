-- One call of a reader, as the code makes it. For the code alone, but for `IsJoined` and
-- `preface_length`, of which the invariant of `FrameReader` speaks.
use Rattle.std.specs.Prelude.{◌≡◌, ◌≢◌, ◌≤◌, ℕ, ◌+◌, Bool, true, false, nat_eq, if◌then◌else◌, List, [], ◌∷◌, length, drop, Option, Some, None, Result, Ok, Err}
use Rattle.std.specs.List.{starts_with}
use Rattle.byteorder.specs.Endian.{big_number}
use Rattle.http2_frames.specs.declared.error.FrameError.{FrameError}
use Rattle.http2_frames.specs.declared.error.FrameError.TheVariants.{Preface}
use Rattle.http2_frames.specs.Reading.{whole_at}
use Rattle.http2_frames.specs.Reader.{FrameReaderValue}
use Rattle.http2_frames.specs.declared.reader.TheConstants.{MAX_FRAME_SIZE}

abbrev pub frames_from : List ℕ → Result FrameReaderValue FrameError
frames_from bytes = Ok (record { preface = []; text = bytes })

-- the preface is dropped where it is whole
abbrev pub after_preface : Result FrameReaderValue FrameError → Result FrameReaderValue FrameError
after_preface (Ok u) =
    if starts_with nat_eq u.text u.preface then frames_from (drop (length u.preface) u.text)
    else if starts_with nat_eq u.preface u.text then Ok u
    else Err Preface
after_preface (Err e) = Err e

abbrev pub is_whole : Result (Option ℕ) FrameError → Result Bool FrameError
is_whole (Ok None) = Ok false
is_whole (Ok (Some n)) = Ok true
is_whole (Err e) = Err e

-- a fault is there for good
abbrev pub after_look : Result Bool FrameError → Result FrameReaderValue FrameError →
    Result FrameReaderValue FrameError
after_look (Ok whole) old = old
after_look (Err e) old = Err e

-- whether a whole frame is at the front, unless the preface has to come still
abbrev pub look_behind_preface : List ℕ → List ℕ → Result Bool FrameError
look_behind_preface [] bytes = is_whole (whole_at bytes)
look_behind_preface (p ∷ ps) bytes = Ok false

abbrev pub look : Result FrameReaderValue FrameError → Result Bool FrameError
look (Ok u) = look_behind_preface u.preface u.text
look (Err e) = Err e

-- the bytes behind the frame at the front
abbrev pub behind_front : Result FrameReaderValue FrameError → Result FrameReaderValue FrameError
behind_front (Ok u) =
    Ok (record { preface = u.preface; text = drop (9 + big_number 3 u.text) u.text })
behind_front (Err e) = Err e

-- the bytes of what a client sends before its first frame (RFC 9113, section 3.4)
abbrev pub preface_length : ℕ
preface_length = 24

-- what waits for its preface is no longer than that
abbrev pub WaitsShortly : Result FrameReaderValue FrameError → Type 0
WaitsShortly (Ok u) = u.preface ≢ [] → length u.text ≤ preface_length
WaitsShortly (Err e) = Unit {0}

-- one whole frame and nothing else, behind the preface; or nothing
abbrev pub IsJoined : List ℕ → List ℕ → Type 0
IsJoined preface joined = joined ≢ [] →
    (preface ≡ []) × (big_number 3 joined ≤ MAX_FRAME_SIZE)
    × (length joined ≡ 9 + big_number 3 joined)

-- the frame that came in two pieces, or else what is behind it
abbrev pub first_of : List ℕ → List ℕ → List ℕ
first_of [] received = received
first_of (b ∷ bs) received = b ∷ bs
