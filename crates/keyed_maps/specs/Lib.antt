pub use Rattle.indexmap.specs.IndexMap
pub use Rattle.indexmap.specs.IndexSet
pub use Rattle.lru.specs.LruCache
