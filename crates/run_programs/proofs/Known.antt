-- What a program answered, among those that are known.
use Rattle.std.proofs.Common.{◌≡◌, ◌∙◌, ◌++◌, inr, ◌<◌, ap, sym, refl, subst, ℕ, zero, suc, arith, Bool, true, cond, not, ◌&&◌, ◌==◌, List, [], ◌∷◌, length, remove, slice_get, slice_set, slice_index_or, Option, Some, None, IfSome, IsSomeAnd, Result, Ok, Err}
use Rattle.std.proofs.lemmas.Bool.{eq-eqb}
use Rattle.std.specs.Prelude.{ℤ, IfOk}
use Rattle.run_calls.specs.declared.task.RunKey.{RunKey}
use Rattle.system.specs.declared.programs.Ending.{Ending}
use Rattle.run_programs.specs.declared.started.Started.{Started}
use Rattle.run_programs.specs.declared.started.StartedAs.{StartedAs}
use Rattle.run_programs.specs.Known.{HasEndedWith, IsCodeOf, IsOfAt, KnowsOneMore, OthersStay, of_others}
use Rattle.run_programs.specs.Ways.{is_run}

-- one more, of this run, and known as this
pub one_more : {C F : Type 0} (run : RunKey) (so : StartedAs) (old seen new : List (Started C F))
    (program : Started C F) → seen ≡ old → new ≡ seen ++ program ∷ [] → program.run ≡ run
    → program.started_as ≡ so → KnowsOneMore run so old new
one_more {C} {F} run so old seen new program same more own known =
    inr (program, more ∙ ap (λ (ps : List (Started C F)). ps ++ program ∷ []) same, own, known)

pub known_as : {C F : Type 0} (run : RunKey) (so other : StartedAs) (old new : List (Started C F))
    → so ≡ other → KnowsOneMore run so old new → KnowsOneMore run other old new
known_as {C} {F} run so other old new same known =
    subst (λ (s : StartedAs). KnowsOneMore run s old new) same known

at_place : {C F : Type 0} (P : Started C F → Type 0) (programs : List (Started C F)) (at : ℕ)
    (new : Started C F)
    → at < length programs → P new → IsSomeAnd (slice_get (slice_set programs at new) at) P
at_place {C} {F} P [] at new lt so = absurd (omega (arith, lt))
at_place {C} {F} P (x ∷ programs) zero new lt so = so
at_place {C} {F} P (x ∷ programs) (suc at) new lt so =
    at_place P programs at new (omega (arith, lt)) so

of_run : {C F : Type 0} (run : RunKey) (programs : List (Started C F)) (at : ℕ) (old : Started C F)
    → old ≡ slice_index_or programs at old → IsOfAt run programs at → old.run ≡ run
of_run {C} {F} run [] at old is own = absurd own
of_run {C} {F} run (x ∷ programs) zero old is own = ap (λ (s : Started C F). s.run) is ∙ own
of_run {C} {F} run (x ∷ programs) (suc at) old is own = of_run run programs at old is own

-- the one at a place was asked
pub answered : {C F E : Type 0} (ended : C → Option Ending) (run : RunKey)
    (seen programs : List (Started C F)) (at : ℕ)
    (old new : Started C F) (state : Result (Option ℤ) E) → seen ≡ programs → at < length seen
    → IsOfAt run seen at → old ≡ slice_index_or programs at old → new.run ≡ old.run
    → IfOk state (λ s. IfSome s (IsCodeOf (ended new.child)))
    → IfOk state (λ s. IfSome s (HasEndedWith ended run (slice_set programs at new)))
answered {C} {F} ended run seen programs at old new (Err e) there lt own was same so = tt
answered {C} {F} ended run seen programs at old new (Ok None) there lt own was same so = tt
answered {C} {F} ended run seen programs at old new (Ok (Some code)) there lt own was same so = (
  at,
  at_place (λ p. (p.run ≡ run) × IsCodeOf (ended p.child) code) programs at new
      (subst (λ (ps : List (Started C F)). at < length ps) there lt) (
        same ∙ of_run run programs at old was
            (subst (λ (ps : List (Started C F)). IsOfAt run ps at) there own),
        so,
      ),
)

-- ---- those of other runs

own_run : (run other : RunKey) → other ≡ run → is_run run other ≡ true
own_run run other same = subst (λ (o : RunKey). is_run run o ≡ true) (sym same)
    (ap (λ b. b && (run.job == run.job)) (eq-eqb run.instance run.instance refl) ∙ eq-eqb run.job run.job refl)

passed_over : {C F : Type 0} (run : RunKey) (program : Started C F)
    (programs : List (Started C F)) → program.run ≡ run
    → of_others run (program ∷ programs) ≡ of_others run programs
passed_over {C} {F} run program programs same = ap
    (λ b. cond (not b) (program ∷ of_others run programs) (of_others run programs))
    (own_run run program.run same)

behind : {C F : Type 0} (run : RunKey) (program : Started C F) (old new : List (Started C F))
    → OthersStay run old new
    → OthersStay run (program ∷ old) (program ∷ new)
behind {C} {F} run program old new stay = ap
    (λ others. cond (not (is_run run program.run)) (program ∷ others) others) stay

set_stay : {C F : Type 0} (run : RunKey) (programs : List (Started C F)) (at : ℕ)
    (new : Started C F)
    → IsOfAt run programs at → new.run ≡ run → OthersStay run programs (slice_set programs at new)
set_stay {C} {F} run [] at new own same = absurd own
set_stay {C} {F} run (x ∷ programs) zero new own same =
    passed_over run new programs same ∙ sym (passed_over run x programs own)
set_stay {C} {F} run (x ∷ programs) (suc at) new own same =
    behind run x programs (slice_set programs at new) (set_stay run programs at new own same)

-- one of a run was changed, and is of that run
pub changed_stay : {C F : Type 0} (run : RunKey) (seen programs : List (Started C F)) (at : ℕ)
    (old new : Started C F)
    → seen ≡ programs → IsOfAt run seen at → old ≡ slice_index_or programs at old
    → new.run ≡ old.run → OthersStay run programs (slice_set programs at new)
changed_stay {C} {F} run seen programs at old new there own was same =
    let here = subst (λ (ps : List (Started C F)). IsOfAt run ps at) there own in
    set_stay run programs at new here (same ∙ of_run run programs at old was here)

taken_stay : {C F : Type 0} (run : RunKey) (programs : List (Started C F)) (at : ℕ)
    → IsOfAt run programs at
    → OthersStay run programs (remove programs at)
taken_stay {C} {F} run [] at own = absurd own
taken_stay {C} {F} run (x ∷ programs) zero own = sym (passed_over run x programs own)
taken_stay {C} {F} run (x ∷ programs) (suc at) own =
    behind run x programs (remove programs at) (taken_stay run programs at own)

-- one of a run was taken out
pub taken_out_stay : {C F : Type 0} (run : RunKey) (seen programs new : List (Started C F)) (at : ℕ)
    → seen ≡ programs → IsOfAt run seen at → new ≡ remove programs at
    → OthersStay run programs new
taken_out_stay {C} {F} run seen programs new at there own out =
    subst (λ (ps : List (Started C F)). OthersStay run programs ps) (sym out)
    (taken_stay run programs at (subst (λ (ps : List (Started C F)). IsOfAt run ps at) there own))
