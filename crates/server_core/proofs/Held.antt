-- What instances hold is what each has by itself.
use Rattle.std.proofs.Common.{◌≡◌, ℕ, List, [], ◌∷◌, ◌++◌, refl, ap, ◌∙◌}
use Rattle.std.specs.List.{flat_map}
use Rattle.instance_core.specs.State.{InstanceState}
use Rattle.served_instance.specs.Lone.{LoneInstance}
use Rattle.served_instance.specs.StandsFor.{ServedState, IsServedInstance}
use Rattle.server_core.specs.StandsFor.{AllStand}
use Rattle.server_core.specs.Stored.{texts_of, texts_of_jobs, own_texts, texts_of_all, lone_texts}

abbrev Texts : Type 0
Texts = List (List ℕ)

own_alone : (v : ServedState) (l : LoneInstance) → IsServedInstance v l → own_texts v ≡ lone_texts l
own_alone v l st =
    ap (λ (s : InstanceState). texts_of s.visible ++ texts_of_jobs s.jobs ++ v.ranges) st.state
    ∙ ap (λ (rs : Texts). texts_of l.state.visible ++ texts_of_jobs l.state.jobs ++ rs) st.ranges

pub all_alone : (vs : List ServedState) (ls : List LoneInstance) → AllStand vs ls → texts_of_all vs ≡ flat_map lone_texts ls
all_alone [] [] st = refl
all_alone [] (l ∷ ls) st = absurd st
all_alone (v ∷ vs) [] st = absurd st
all_alone (v ∷ vs) (l ∷ ls) st =
    ap (λ (ts : Texts). ts ++ texts_of_all vs) (own_alone v l st.0)
    ∙ ap (λ (ts : Texts). lone_texts l ++ ts) (all_alone vs ls st.1)
