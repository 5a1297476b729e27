use Rattle.protobuf_wire.proofs.ReadAgain.{int64_again, int32_again, flag_again, octets_again, string_again, repeated_string_again, repeated_octets_again, repeated_enum_again}
use Rattle.protobuf_wire.proofs.field_laws.a_field_is_read_again.Goals as goal

pub returns-clause-int64 : goal.returns-clause-int64
returns-clause-int64 c = int64_again

pub returns-clause-int32 : goal.returns-clause-int32
returns-clause-int32 c = int32_again

pub returns-clause-flag : goal.returns-clause-flag
returns-clause-flag c = flag_again

pub returns-clause-octets : goal.returns-clause-octets
returns-clause-octets c = octets_again

pub returns-clause-string : goal.returns-clause-string
returns-clause-string c = string_again

pub returns-clause-repeated_string : goal.returns-clause-repeated_string
returns-clause-repeated_string c = repeated_string_again

pub returns-clause-repeated_enum : goal.returns-clause-repeated_enum
returns-clause-repeated_enum c = repeated_enum_again

pub returns-clause-repeated_octets : goal.returns-clause-repeated_octets
returns-clause-repeated_octets c = repeated_octets_again
