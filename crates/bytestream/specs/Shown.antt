-- What the code's own types stand for.
use Rattle.std.specs.Prelude.{Result, Ok, Err, string_bytes}
use Rattle.blob_pool.specs.Slots.{Slots}
use Rattle.cas_service.specs.declared.error.CallError.{CallError}
use Rattle.instance_view.specs.Shown.{text_seen}
use Rattle.uploads.specs.Shown.{key_shown, piece_shown}
use Rattle.bytestream.specs.declared.reading.Source.{Source}
use Rattle.bytestream.specs.declared.part.Part.{Part}
use Rattle.bytestream.specs.declared.writing.OpenWrite.{OpenWrite}
use Rattle.bytestream.specs.declared.writing.Written.{Written}
use Rattle.bytestream.specs.declared.writing.Written.TheVariants as Code
use Rattle.bytestream.specs.declared.writing.FirstPart.{FirstPart}
use Rattle.bytestream.specs.Reading.{SourceValue}
use Rattle.bytestream.specs.Writing.{PartValue, OpenWriteValue, WrittenValue, FirstAsked, Goes, Answered}

-- the range that a source finds in a pool
abbrev pub source_shown : Slots → Source → SourceValue
source_shown p s =
    record { digest = s.digest; text = text_seen p s.text; from = s.from; until = s.until }

abbrev pub part_shown : Part → PartValue
part_shown part =
    record { key = key_shown part.key.now; piece = piece_shown part.piece; is_last = part.is_last }

abbrev pub first_part_shown : FirstPart → FirstAsked
first_part_shown first = record {
  name = first.name.now;
  part = record {
    key = record { uuid = first.uuid.now; digest = first.digest };
    piece = piece_shown first.piece;
    is_last = first.is_last;
  };
}

abbrev pub open_write_shown : OpenWrite → OpenWriteValue
open_write_shown call = record { name = string_bytes call.name; key = key_shown call.key }

abbrev pub written_shown : Written → WrittenValue
written_shown (Code.Goes call) = Goes (open_write_shown call)
written_shown (Code.Answered reply) = Answered reply.items

-- P of the call that goes on, where it does
abbrev pub IfGoes : Result Written CallError → (OpenWrite → Type 0) → Type 0
IfGoes (Ok (Code.Goes call)) P = P call
IfGoes (Ok (Code.Answered reply)) P = Unit {0}
IfGoes (Err e) P = Unit {0}
