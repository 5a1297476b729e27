-- Walking along, step by step.
use Rattle.std.proofs.Common.{◌≡◌, ℕ, zero, suc, ◌+◌, ◌-◌, ◌<◌, List, [], ◌∷◌, ◌++◌, map, reverse, Result, Ok, Err, arith, refl, ap, ◌∙◌}
use Rattle.std.proofs.lemmas.List.{map-append, reverse-append}
use Rattle.protobuf_wire.specs.Results.{◌>>=◌}
use Rattle.input_tree.specs.Listing.{Lookup}
use Rattle.actions.specs.declared.fault.TreeFault.{TreeFault}
use Rattle.actions.specs.declared.fault.TreeFault.TheVariants.{Missing, BadDirectory, TooMany, TooDeep, NoMemory}
use Rattle.actions.specs.Nodes.{PlanNodeValue}
use Rattle.actions.specs.Walk.{TreeFaultValue, Nodes, too_many, nodes_inside, walk_along}
use Rattle.actions.specs.Answers.{Fails}

-- the last of a stack is the first of what comes next
pub reverse_last : {X Y : Type 0} (f : X → Y) (xs : List X) (x : X) → reverse (map f (xs ++ x ∷ [])) ≡ f x ∷ reverse (map f xs)
reverse_last f xs x = ap reverse (map-append f xs (x ∷ [])) ∙ reverse-append (map f xs) (f x ∷ [])

-- ---- faults go through the steps that follow

pub fails_then : {X Y : Type 0} (e : TreeFault) (m : Result X TreeFaultValue) (f : X → Result Y TreeFaultValue) → Fails e m →
    Fails e (m >>= f)
fails_then (Missing digests) m f h = rw h refl
fails_then BadDirectory m f h = rw h refl
fails_then TooMany m f h = rw h refl
fails_then TooDeep m f h = rw h refl
fails_then NoMemory m f h = tt

pub fails_as : {X : Type 0} (e : TreeFault) (m n : Result X TreeFaultValue) → m ≡ n → Fails e m → Fails e n
fails_as e m n same h = rw (← same) h

-- ---- walking along

pub along_end : (most : ℕ) (look : Lookup) (met : List PlanNodeValue) → walk_along most look [] met ≡ Ok met
unfolding walk_along
along_end zero look met = refl
along_end (suc most) look met = refl

pub along_full : (most count : ℕ) (look : Lookup) (n : PlanNodeValue) (next met : List PlanNodeValue) → count ≡ most →
    walk_along (most - count) look (n ∷ next) met ≡ Err too_many
unfolding walk_along
along_full most count look n next met full =
    let nothing : most - count ≡ 0 = omega arith in
    rw nothing refl

pub along_next : (most count : ℕ) (look : Lookup) (n : PlanNodeValue) (next met : List PlanNodeValue) → count < most →
    walk_along (most - count) look (n ∷ next) met
    ≡ (nodes_inside look n >>= (λ inside. walk_along (most - (count + 1)) look (inside ++ next) (met ++ n ∷ [])))
unfolding walk_along
along_next most count look n next met room =
    let more : most - count ≡ suc (most - (count + 1)) = omega arith in
    rw more refl
