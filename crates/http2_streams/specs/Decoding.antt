-- What a frame with a part of a header block gives, and what is kept of the blocks received.
use Rattle.std.specs.Prelude.{◌≡◌, ℕ, Bool, List, Option, Some, None, Result, Ok, Err, if◌then◌else◌}
use Rattle.hpack.specs.declared.error.HpackError.{HpackError}
use Rattle.hpack.specs.declared.error.HpackError.TheVariants.{ListTooLarge}
use Rattle.hpack.specs.Header.{Header}
use Rattle.hpack.specs.Table.{Table, new_table}
use Rattle.hpack.specs.Block.{step}
use Rattle.http2_frames.specs.declared.codes.ErrorCode.{ErrorCode}
use Rattle.http2_frames.specs.declared.codes.ErrorCode.TheVariants.{ProtocolError, CompressionError, EnhanceYourCalm}
use Rattle.http2_streams.specs.declared.fault.ConnectionFault.{ConnectionFault}
use Rattle.http2_streams.specs.declared.fault.ConnectionFault.TheVariants.{Connection, NoMemory}
use Rattle.http2_streams.specs.declared.header_blocks.HeaderList.{HeaderList}
use Rattle.http2_streams.specs.HeaderBlock.{HeaderBlock, with_continuation, is_excessive}

-- the block that is not at its end yet, and the dynamic table, or none after a refusal
pub record HeaderState : Type 0 where
  pub unfinished : Option HeaderBlock
  pub table : Option Table

abbrev pub new_state : HeaderState
new_state = record { unfinished = None; table = Some new_table }

abbrev pub failed_state : HeaderState
failed_state = record { unfinished = None; table = None }

-- section 4.3: a block that cannot be decoded; a list that is too large to be taken is no fault of
-- its coding
abbrev pub fault_of : HpackError → ErrorCode
fault_of ListTooLarge = EnhanceYourCalm
fault_of _ = CompressionError

abbrev pub list_of : ℕ → Bool → Result (List Header) HpackError →
    Result (Option HeaderList) ErrorCode
list_of stream end_stream (Ok fields) =
    Ok (Some (record { stream = stream; end_stream = end_stream; fields = fields }))
list_of stream end_stream (Err e) = Err (fault_of e)

-- what a block gives so far: its fields where END_HEADERS stands at its last frame
abbrev pub list_of_block : Option Table → Bool → HeaderBlock → Result (Option HeaderList) ErrorCode
list_of_block table end_headers b =
    if is_excessive b then Err EnhanceYourCalm
    else if end_headers then list_of b.stream b.end_stream (step table b.fragment).0
    else Ok None

-- what is kept then
abbrev pub state_after_block : Option Table → Bool → HeaderBlock → HeaderState
state_after_block table end_headers b =
    if end_headers then record { unfinished = None; table = (step table b.fragment).1 }
    else record { unfinished = Some b; table = table }

-- the same of a CONTINUATION frame, which needs an unfinished block (section 6.10)
abbrev pub list_of_continuation : Option Table → Option HeaderBlock → Bool → List ℕ →
    Result (Option HeaderList) ErrorCode
list_of_continuation table None end_headers fragment = Err ProtocolError
list_of_continuation table (Some b) end_headers fragment =
    list_of_block table end_headers (with_continuation fragment b)

abbrev pub state_after_continuation : Option Table → Option HeaderBlock → Bool → List ℕ →
    HeaderState
state_after_continuation table None end_headers fragment = failed_state
state_after_continuation table (Some b) end_headers fragment =
    state_after_block table end_headers (with_continuation fragment b)

-- the fault is the one that the frame meets; want of memory says nothing of the frame
abbrev pub Fails : {A : Type 0} → ConnectionFault → Result A ErrorCode → Type 0
Fails NoMemory given = Unit {0}
Fails (Connection code) given = given ≡ Err code

abbrev pub Gives : {A : Type 0} → Result A ConnectionFault → Result A ErrorCode → Type 0
Gives (Ok x) given = given ≡ Ok x
Gives (Err fault) given = Fails fault given
