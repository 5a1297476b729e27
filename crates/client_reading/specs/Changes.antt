-- The pasts that a connection can have: what is made of its opening by these changes.
use Rattle.std.specs.Prelude.{◌≡◌, ◌<◌, ◌≤◌, ℕ, List, ◌++◌, length, fold, Some}
use Rattle.std.specs.List.{AllByRecursion}
use Rattle.http2_frames.specs.declared.codes.ErrorCode.{ErrorCode}
use Rattle.http2_frames.specs.declared.error.FrameError.{FrameError}
use Rattle.http2_frames.specs.declared.frame.RawFrame.{RawFrame}
use Rattle.http2_frames.specs.Wire.{stream_limit}
use Rattle.http2_streams.specs.Rules.{reading_fault}
use Rattle.grpc_sending.specs.Owed.{Item}
use Rattle.conn_core.specs.declared.event.CallEvent.{CallEvent}
use Rattle.conn_core.specs.Past.{Past, new_past, with_frame, with_fault, with_item, with_taken, with_pumped}
use Rattle.http2_frames.specs.declared.reader.TheConstants.{MAX_FRAME_SIZE}

pub data PastChange : Type 0 where
  -- bytes were received
  BytesReceived : List ℕ → PastChange
  -- the next frame of them was read
  FrameRead : RawFrame → PastChange
  -- they are no frame
  FaultMet : FrameError → ErrorCode → PastChange
  -- an item was given to a stream
  ItemGiven : ℕ → Item → PastChange
  -- the client took so many bytes
  BytesTaken : ℕ → PastChange
  -- all was put that could be put
  FramesPut : PastChange
  -- of the events of calls that are due these are left
  EventsGiven : List CallEvent → PastChange

abbrev pub past_after_change : Past → PastChange → Past
past_after_change p (BytesReceived bytes) = record p { text = p.text ++ bytes }
past_after_change p (FrameRead f) = with_frame p f
past_after_change p (FaultMet e code) = with_fault p e code
past_after_change p (ItemGiven s item) = with_item p s item
past_after_change p (BytesTaken n) = with_taken p n
past_after_change p FramesPut = with_pumped p
past_after_change p (EventsGiven left) = record p { due = left }

-- a frame as it can be read: section 4.2 for its length, section 4.1 for its stream
abbrev pub IsReceivable : RawFrame → Type 0
IsReceivable f = (length f.payload ≤ MAX_FRAME_SIZE) × (f.stream < stream_limit)

-- what a change supposes: frames are frames, and an error is that of its fault
abbrev pub IsChange : PastChange → Type 0
IsChange (FrameRead f) = IsReceivable f
IsChange (FaultMet e code) = reading_fault e ≡ Some code
IsChange _ = Unit {0}

abbrev pub past_of : ℕ → List PastChange → Past
past_of window cs = fold past_after_change (new_past window) cs

-- what such changes made of the opening of a connection with this window
abbrev pub IsPast : ℕ → Past → Type 0
IsPast window p = (cs : List PastChange) × AllByRecursion IsChange cs × (p ≡ past_of window cs)
