-- What was found in a session.
use Rattle.std.proofs.Common.{◌≡◌, ℕ, List, [], ◌∷◌, ◌++◌, All, subst, sym}
use Rattle.std.proofs.lemmas.List.Elements.{All-push}

pub one_more : (P : ℕ → Type 0) (old new : List ℕ) (process : ℕ) → new ≡ old ++ process ∷ []
    → All P old → P process → All P new
one_more P old new process is all so = subst (All P) (sym is) (All-push P old process all so)
