pub use Rattle.indexmap.proofs.CallerLemmas as MapLemmas
pub use Rattle.lru.proofs.CallerLemmas as CacheLemmas
