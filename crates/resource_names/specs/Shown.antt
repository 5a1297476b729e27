-- What the code's own types stand for.
use Rattle.std.specs.Prelude.{ℕ, Bool, List}
use Rattle.std.specs.Option.{option_copied}
use Rattle.resource_names.specs.declared.name.ReadName.{ReadName}
use Rattle.resource_names.specs.declared.name.WriteName.{WriteName}
use Rattle.resource_names.specs.declared.segments.Divider.{Divider}
use Rattle.resource_names.specs.declared.segments.Divider.TheVariants.{Blobs, Uploads}
use Rattle.resource_names.specs.declared.segments.Division.{Division}
use Rattle.resource_names.specs.Segments.{DivisionValue, segments_left}
use Rattle.resource_names.specs.Names.{ReadNameValue, WriteNameValue, divides_read, divides_write}

abbrev pub divides : Divider → List ℕ → Bool
divides Blobs = divides_read
divides Uploads = divides_write

abbrev pub division_shown : Division → DivisionValue
division_shown d = record {
  before = option_copied d.before;
  segment = d.segment.now;
  after = segments_left d.after;
}

abbrev pub read_name_shown : ReadName → ReadNameValue
read_name_shown name = record { instance = name.instance.now; digest = name.digest }

abbrev pub write_name_shown : WriteName → WriteNameValue
write_name_shown name =
    record { instance = name.instance.now; uuid = name.uuid.now; digest = name.digest }
