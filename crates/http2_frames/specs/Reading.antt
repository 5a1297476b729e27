-- Dividing a text into frames from left to right, and what a reader holds of it.
use Rattle.std.specs.Prelude.{ℕ, ◌+◌, ◌%◌, nat_lt, nat_eq, if◌then◌else◌, List, length, take, drop, slice_index, Option, Some, None, Result, Ok, Err}
use Rattle.std.specs.List.{starts_with}
use Rattle.byteorder.specs.Endian.{big_number}
use Rattle.http2_frames.specs.Items.{Format, rest_only, fault_only, divide}
use Rattle.http2_frames.specs.declared.error.FrameError.{FrameError}
use Rattle.http2_frames.specs.declared.error.FrameError.TheVariants.{Preface, Size}
use Rattle.http2_frames.specs.declared.frame.RawFrame.{RawFrame}
use Rattle.http2_frames.specs.Wire.{Split, stream_limit}
use Rattle.http2_frames.specs.declared.reader.TheConstants.{MAX_FRAME_SIZE}

-- the payload length of the whole frame at the front, if one is there
abbrev pub whole_at : List ℕ → Result (Option ℕ) FrameError
whole_at bytes =
    if nat_lt (length bytes) 9 then Ok None
    else if nat_lt MAX_FRAME_SIZE (big_number 3 bytes) then Err Size
    else if nat_lt (length bytes) (9 + big_number 3 bytes) then Ok None
    else Ok (Some (big_number 3 bytes))

-- that frame
abbrev pub frame_at : List ℕ → RawFrame
frame_at bytes = record {
  kind = slice_index bytes 3;
  flags = slice_index bytes 4;
  stream = big_number 4 (drop 5 bytes) % stream_limit;
  payload = take (big_number 3 bytes) (drop 9 bytes);
}

abbrev pub frame_format : Format RawFrame FrameError
frame_format = record { head = 9; whole_at = whole_at; item_at = frame_at }

-- a text without preface
abbrev pub split_frames : List ℕ → Split
split_frames bytes = divide frame_format bytes

-- a text that begins with the preface
abbrev pub split : List ℕ → List ℕ → Split
split preface text =
    if starts_with nat_eq text preface then split_frames (drop (length preface) text)
    else if starts_with nat_eq preface text then rest_only text
    else fault_only Preface
