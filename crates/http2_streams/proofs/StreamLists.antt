-- What one number's changes leave of a list of streams.
use Rattle.std.proofs.Common.{◌≡◌, ℕ, List, [], ◌∷◌, ◌++◌, refl, arith}
use Rattle.std.specs.Prelude.{map, Bool, false}
use Rattle.std.specs.List.{list_any}
use Rattle.std.proofs.lemmas.Bool.Decides.{nat_tests}
use Rattle.http2_streams.specs.declared.stream.Stream.{Stream}
use Rattle.http2_streams.specs.Rules.{number_is}
use Rattle.http2_streams.specs.Step.{without_stream, stream_after_grant, new_stream}

-- no stream has the number
pub none_granted : (s n : ℕ) (xs : List Stream) → list_any (number_is s) xs ≡ false → map (stream_after_grant s n) xs ≡ xs
none_granted s n [] h = refl
none_granted s n (x ∷ xs) h = grind (arith, none_granted s n xs)

pub without_granted : (s n : ℕ) (xs : List Stream) → without_stream s (map (stream_after_grant s n) xs) ≡ without_stream s xs
without_granted s n [] = refl
without_granted s n (x ∷ xs) = grind (arith, without_granted s n xs)

pub without_fresh : (s size : ℕ) (end_stream : Bool) (xs : List Stream) →
    without_stream s (xs ++ new_stream size s end_stream ∷ []) ≡ without_stream s xs
without_fresh s size end_stream [] = grind (arith, nat_tests)
without_fresh s size end_stream (x ∷ xs) = grind (arith, without_fresh s size end_stream xs)
