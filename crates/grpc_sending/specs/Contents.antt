-- The bytes of a message, whether they are shared or not.
use Rattle.std.specs.Prelude.{ℕ, List}
use Rattle.grpc_sending.specs.declared.content.Content.{Content}
use Rattle.grpc_sending.specs.declared.content.Content.TheVariants.{Own, Shared}

abbrev pub content_bytes : Content → List ℕ
content_bytes (Own bytes) = bytes.items
content_bytes (Shared bytes) = bytes.value.items
