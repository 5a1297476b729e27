-- The errors, for the crates above.
pub use Rattle.protobuf_wire.specs.declared.field.WireError.{WireError}
pub use Rattle.protobuf_wire.specs.declared.field.WireError.TheVariants.{Truncated, Overlong, BadWireType, BadField}
pub use Rattle.protobuf_wire.specs.declared.error.MessageError.{MessageError}
pub use Rattle.protobuf_wire.specs.declared.error.MessageError.TheVariants.{Wire, NotUtf8, NoMemory}
