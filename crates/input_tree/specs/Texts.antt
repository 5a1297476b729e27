-- The texts that an instance sees in a pool.
pub use Rattle.instance_view.specs.Texts.{texts_of}
