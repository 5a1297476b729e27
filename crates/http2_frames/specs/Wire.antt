-- Frames on the wire (RFC 9113, section 4.1): which bytes are a frame, and how a text divides into
-- frames.
use Rattle.std.specs.Prelude.{◌≡◌, ◌≢◌, ℕ, ◌+◌, ◌%◌, ◌^◌, ◌<◌, ◌≤◌, ◌⊎◌, List, ◌∷◌, ◌++◌, length, Result, Ok, Err}
use Rattle.byteorder.specs.Endian.{big_number}
use Rattle.http2_frames.specs.Items.{Division, rest_only, fault_only}
use Rattle.http2_frames.specs.Grammar.{IsDivision}
use Rattle.http2_frames.specs.declared.error.FrameError.{FrameError}
use Rattle.http2_frames.specs.declared.error.FrameError.TheVariants.{Preface, Size}
use Rattle.http2_frames.specs.declared.frame.RawFrame.{RawFrame}
use Rattle.http2_frames.specs.declared.reader.TheConstants.{MAX_FRAME_SIZE}

-- stream numbers are below this limit: they have 31 bits, behind a reserved one
abbrev pub stream_limit : ℕ
stream_limit = 2 ^ 31

-- so are the increments of windows (section 6.9)
abbrev pub increment_limit : ℕ
increment_limit = 2 ^ 31

-- 24 bits of length, 8 of type, 8 of flags, a reserved bit, 31 of stream number, and the payload
pub record IsFrameText (text : List ℕ) (f : RawFrame) : Type 0 where
  pub size : List ℕ
  pub number : List ℕ
  pub parts : text ≡ size ++ f.kind ∷ f.flags ∷ number ++ f.payload
  pub three : length size ≡ 3
  pub sized : big_number 3 size ≡ length f.payload
  pub four : length number ≡ 4
  -- the reserved bit is ignored
  pub stream : big_number 4 number % stream_limit ≡ f.stream
  -- no more than the initial value of SETTINGS_MAX_FRAME_SIZE (section 4.2)
  pub short : length f.payload ≤ MAX_FRAME_SIZE

-- what a text divides into: whole frames, and then a rest or a fault
abbrev pub Split : Type 0
Split = Division RawFrame FrameError

-- less than a whole frame, or the head of a frame that is too long
abbrev pub IsEnd : List ℕ → Result (List ℕ) FrameError → Type 0
IsEnd bytes (Ok rest) =
    (bytes ≡ rest) × ((length bytes < 9) ⊎ (big_number 3 bytes ≤ MAX_FRAME_SIZE)
    × (length bytes < 9 + big_number 3 bytes))
IsEnd bytes (Err e) = (e ≡ Size) × (9 ≤ length bytes) × (MAX_FRAME_SIZE < big_number 3 bytes)

-- the text is these frames, and then its end
abbrev pub IsInFrames : List ℕ → Split → Type 0
IsInFrames text s = IsDivision IsFrameText IsEnd text s

-- the text goes as the preface does, and then another way
pub record Leaves (preface text : List ℕ) : Type 0 where
  pub same : List ℕ
  pub wanted : ℕ
  pub found : ℕ
  pub rest : List ℕ
  pub more : List ℕ
  pub preface_is : preface ≡ same ++ wanted ∷ rest
  pub text_is : text ≡ same ++ found ∷ more
  pub other : found ≢ wanted

-- the text is less than the preface
pub record IsCutShort (preface text : List ℕ) : Type 0 where
  pub next : ℕ
  pub rest : List ℕ
  pub preface_is : preface ≡ text ++ next ∷ rest

-- how a whole received text divides behind a preface
abbrev pub IsSplit : List ℕ → List ℕ → Split → Type 0
IsSplit preface text s =
    ((after : List ℕ) × (text ≡ preface ++ after) × IsInFrames after s)
    ⊎ ((IsCutShort preface text × (s ≡ rest_only text))
    ⊎ (Leaves preface text × (s ≡ fault_only Preface)))
