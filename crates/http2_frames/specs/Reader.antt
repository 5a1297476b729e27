-- What a reader of frames holds, and what that stands for.
use Rattle.std.specs.Prelude.{◌≡◌, ℕ, ◌+◌, ◌<◌, ◌≤◌, ◌^◌, List, [], ◌++◌, length, Option, Some, None, Result, Ok, Err}
use Rattle.byteorder.specs.Endian.{big_number}
use Rattle.http2_frames.specs.Items.{fault_only, AreItemsSoFar}
use Rattle.http2_frames.specs.declared.error.FrameError.{FrameError}
use Rattle.http2_frames.specs.declared.frame.RawFrame.{RawFrame}
use Rattle.http2_frames.specs.Wire.{Split, stream_limit}
use Rattle.http2_frames.specs.Reading.{frame_at, split}
use Rattle.http2_frames.specs.declared.reader.TheConstants.{MAX_FRAME_SIZE}

-- what a reader has not given yet: the preface, where it has to come still, and bytes
pub record FrameReaderValue : Type 0 where
  pub preface : List ℕ
  pub text : List ℕ

abbrev pub unread_of : List ℕ → List ℕ → Option FrameError → Result FrameReaderValue FrameError
unread_of preface text None = Ok (record { preface = preface; text = text })
unread_of preface text (Some e) = Err e

-- the bytes that it keeps
abbrev pub text_left : Result FrameReaderValue FrameError → List ℕ
text_left (Ok u) = u.text
text_left (Err e) = []

abbrev pub split_left : Result FrameReaderValue FrameError → Split
split_left (Ok u) = split u.preface u.text
split_left (Err e) = fault_only e

abbrev pub with_more_bytes : Result FrameReaderValue FrameError → List ℕ →
    Result FrameReaderValue FrameError
with_more_bytes (Ok u) more = Ok (record { preface = u.preface; text = u.text ++ more })
with_more_bytes (Err e) more = Err e

-- the reader has given these frames of the text, and will give the others, whatever follows
abbrev pub IsReader : List ℕ → Result FrameReaderValue FrameError → List ℕ → List RawFrame → Type 0
IsReader preface reader text given =
    AreItemsSoFar (split preface) (λ more. split_left (with_more_bytes reader more)) text given

-- the preface has come, and the bytes at the front are a whole frame
abbrev pub HasFrame : Result FrameReaderValue FrameError → Type 0
HasFrame (Ok u) =
    (u.preface ≡ []) × (big_number 3 u.text ≤ MAX_FRAME_SIZE)
    × (9 + big_number 3 u.text ≤ length u.text)
HasFrame (Err e) = ⊥

-- that frame
abbrev pub front_of : Result FrameReaderValue FrameError → RawFrame
front_of (Ok u) = frame_at u.text
front_of (Err e) = frame_at []

-- a frame as it can stand on the wire
pub record IsFrame (f : RawFrame) : Type 0 where
  pub kind : f.kind < 2 ^ 8
  pub flags : f.flags < 2 ^ 8
  pub stream : f.stream < stream_limit
  pub short : length f.payload ≤ MAX_FRAME_SIZE
