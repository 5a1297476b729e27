-- A text's hash, by the function that it was hashed with.
use Rattle.std.proofs.Common.{◌≡◌, ℕ, List, sym, ap, ◌∙◌}
use Rattle.digest.specs.declared.Digest.{Digest}
use Rattle.digest.specs.declared.Hash.{Hash}
use Rattle.digest.specs.declared.Hash.TheVariants.{Sha256, Sha512}
use Rattle.digest.specs.declared.HashFunction.{HashFunction}
use Rattle.digest.specs.declared.HashFunction.TheVariants as By
use Rattle.digest.specs.Naming.{digest_by, function_of, hash_by}
use Rattle.digest.proofs.Same.{function_again}

pub own_hash : (function : HashFunction) (text : List ℕ) (d : Digest) → d ≡ digest_by function text →
    d.hash ≡ hash_by (function_of d.hash) text
own_hash function text d is =
    let hash : d.hash ≡ hash_by function text = ap (λ (x : Digest). x.hash) is in
    let own : function_of d.hash ≡ function = ap function_of hash ∙ function_again function text in
    hash ∙ ap (λ (f : HashFunction). hash_by f text) (sym own)

pub short_hash : (h : Hash) (bytes text : List ℕ) → h ≡ Sha256 bytes → h ≡ hash_by (function_of h) text → h ≡ hash_by By.Sha256 text
short_hash h bytes text is own = own ∙ ap (λ (x : Hash). hash_by (function_of x) text) is

pub long_hash : (h : Hash) (bytes text : List ℕ) → h ≡ Sha512 bytes → h ≡ hash_by (function_of h) text → h ≡ hash_by By.Sha512 text
long_hash h bytes text is own = own ∙ ap (λ (x : Hash). hash_by (function_of x) text) is
