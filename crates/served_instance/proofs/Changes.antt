-- A change of the connection of one number.
use Rattle.std.proofs.Common.{◌≡◌, refl, sym, ap, ◌∙◌, subst, zero, suc, arith, get_or, ◌<◌, inl, inr}
use Rattle.std.proofs.Math.ListN.{set}
use Rattle.std.specs.Prelude.{ℕ, ◌==◌, if◌then◌else◌, Bool, true, false, List, [], ◌∷◌, map, option_map, Option, Some, None, ◌⊎◌, position, Result, Ok, Err, IfOk, OnOk, IsTrue, length}
use Rattle.std.specs.Option.{option_map_or}
use Rattle.std.proofs.lemmas.Bool.{cond-false, cond-true}
use Rattle.grpc_sending.specs.StoredSending.{SourceTexts}
use Rattle.conn_core.specs.Past.{Past}
use Rattle.conn_core.specs.StandsFor.{ConnectionValue, IsConnection, ReadsOneFrame, unread_length}
use Rattle.served_instance.specs.declared.open_connection.OpenConnection.{OpenConnection}
use Rattle.served_instance.specs.Connections.{LoneConnection, open_ones, open_at, at_open}
use Rattle.served_instance.specs.Present.{is_numbered}
use Rattle.served_instance.specs.StandsFor.{AreServed}
use Rattle.served_instance.specs.Shown.{connection_shown}
use Rattle.served_instance.specs.Acts.{present_at, with_present, BecomesFrom, BecomesAt, ReadsFrame, Keeps, without_sending, due_count, unread_at}
use Rattle.served_instance.proofs.Opens.{first_past, changed_at, open_at_is, at_open_is}
use Rattle.served_instance.proofs.Places.{IsPlace, is_place, place_some, place_none}
use Rattle.served_instance.proofs.Serves.{SameAt, same_at}

-- ---- in the code

set_place : (c : ℕ) (os : List OpenConnection) (k : ℕ) (d : OpenConnection) (w : ConnectionValue) → IsPlace c os k →
    set os k (record { number = (get_or os k d).number; connection = w }) ≡ with_present c w os
set_place c [] k d w h = absurd h
set_place c (o ∷ os) zero d w h = sym (cond-true (o.number == c) (record o { connection = w } ∷ os) (o ∷ with_present c w os) h)
set_place c (o ∷ os) (suc k) d w h = ap (λ (xs : List OpenConnection). o ∷ xs) (set_place c os k d w h.1)
    ∙ sym (cond-false (o.number == c) (record o { connection = w } ∷ os) (o ∷ with_present c w os) h.0)

pub changed_none : (c : ℕ) (os : List OpenConnection) (R : ConnectionValue → ConnectionValue → Type 0) →
    position (is_numbered c) os ≡ None → BecomesAt c os os R
changed_none c os R h = let P : Option ConnectionValue → Type 0 = λ v. BecomesFrom v c os os R in subst P (place_none c os h) refl

pub changed_some : (c : ℕ) (os : List OpenConnection) (k : ℕ) (d : OpenConnection) (w : ConnectionValue)
    (R : ConnectionValue → ConnectionValue → Type 0) → position (is_numbered c) os ≡ Some k → R (get_or os k d).connection w →
    BecomesAt c os (set os k (record { number = (get_or os k d).number; connection = w })) R
changed_some c os k d w R h r =
    let P : Option ConnectionValue → Type 0 = λ v. BecomesFrom v c os
    (set os k (record { number = (get_or os k d).number; connection = w })) R in
    subst P (place_some c os k d h) (w, set_place c os k d w (is_place c os k h), r)

pub changed_ok : {T E : Type 0} (r : Result T E) (c : ℕ) (os : List OpenConnection) (k : ℕ) (d : OpenConnection) (w : ConnectionValue)
    (R : ConnectionValue → ConnectionValue → Type 0) → position (is_numbered c) os ≡ Some k → OnOk r (R (get_or os k d).connection w) →
    OnOk r (BecomesAt c os (set os k (record { number = (get_or os k d).number; connection = w })) R)
changed_ok (Ok x) c os k d w R h r = changed_some c os k d w R h r
changed_ok (Err e) c os k d w R h r = tt

-- .. whatever its number is
pub changed_here : {T E : Type 0} (r : Result T E) (os : List OpenConnection) (k : ℕ) (d : OpenConnection) (w : ConnectionValue)
    (R : ConnectionValue → ConnectionValue → Type 0) → OnOk r (R (get_or os k d).connection w) →
    OnOk r ((c : ℕ) → position (is_numbered c) os ≡ Some k →
    BecomesAt c os (set os k (record { number = (get_or os k d).number; connection = w })) R)
changed_here (Ok x) os k d w R r = λ c h. changed_some c os k d w R h r
changed_here (Err e) os k d w R r = tt

pub changed_read : {E : Type 0} (r : Result Bool E) (os : List OpenConnection) (k : ℕ) (d : OpenConnection) (w : ConnectionValue) →
    IfOk r (λ more. ReadsOneFrame (get_or os k d).connection more w) →
    IfOk r (λ more. IsTrue more → unread_length w < unread_length (get_or os k d).connection) →
    IfOk r (λ more. (c : ℕ) → position (is_numbered c) os ≡ Some k →
    BecomesAt c os (set os k (record { number = (get_or os k d).number; connection = w })) (ReadsFrame more))
changed_read (Ok more) os k d w r f = λ c h. changed_some c os k d w (ReadsFrame more) h (record { frame = r; fewer = f })
changed_read (Err e) os k d w r f = tt

-- ---- what is kept

first_same : {A : Type 0} (g : ConnectionValue → A) (n : Bool) (u w : ConnectionValue) (a : Option ConnectionValue) → g w ≡ g u →
    option_map g (if n then Some w else a) ≡ option_map g (if n then Some u else a)
first_same g true u w a e = ap Some e
first_same g false u w a e = refl

later_same : {A : Type 0} (g : ConnectionValue → A) (n : Bool) (u : ConnectionValue) (a b : Option ConnectionValue) →
    option_map g b ≡ option_map g a → option_map g (if n then Some u else b) ≡ option_map g (if n then Some u else a)
later_same g true u a b e = refl
later_same g false u a b e = e

same_more : {A : Type 0} (g : ConnectionValue → A) (c d : ℕ) (o : OpenConnection) (os : List OpenConnection) (v w : ConnectionValue)
    (m : Bool) → (if m then Some o.connection else present_at c os) ≡ Some v → g w ≡ g v →
    (present_at c os ≡ Some v → option_map g (present_at d (with_present c w os)) ≡ option_map g (present_at d os)) →
    option_map g (present_at d (if m then record o { connection = w } ∷ os else o ∷ with_present c w os))
    ≡ option_map g (present_at d (o ∷ os))
same_more g c d o os v w true h e r = let same : o.connection ≡ v = cc in
    first_same g (o.number == d) o.connection w (present_at d os) (e ∙ ap g (sym same))
same_more g c d o os v w false h e r = later_same g (o.number == d) o.connection (present_at d os) (present_at d (with_present c w os))
    (r h)

pub same_kept : {A : Type 0} (g : ConnectionValue → A) (c d : ℕ) (os : List OpenConnection) (v w : ConnectionValue) →
    present_at c os ≡ Some v → g w ≡ g v → option_map g (present_at d (with_present c w os)) ≡ option_map g (present_at d os)
same_kept g c d [] v w h e = refl
same_kept g c d (o ∷ os) v w h e = same_more g c d o os v w (o.number == c) h e (λ k. same_kept g c d os v w k e)

new_more : (c : ℕ) (o : OpenConnection) (os : List OpenConnection) (v w : ConnectionValue) (m : Bool) → o.number == c ≡ m →
    (if m then Some o.connection else present_at c os) ≡ Some v → (present_at c os ≡ Some v → present_at c (with_present c w os) ≡ Some w) →
    present_at c (if m then record o { connection = w } ∷ os else o ∷ with_present c w os) ≡ Some w
new_more c o os v w true e h r = cond-true (o.number == c) (Some w) (present_at c os) e
new_more c o os v w false e h r = cond-false (o.number == c) (Some o.connection) (present_at c (with_present c w os)) e ∙ r h

pub new_kept : (c : ℕ) (os : List OpenConnection) (v w : ConnectionValue) → present_at c os ≡ Some v →
    present_at c (with_present c w os) ≡ Some w
new_kept c [] v w h = cc
new_kept c (o ∷ os) v w h = new_more c o os v w (o.number == c) refl h (new_kept c os v w)

-- ---- what it stands for

serves_more : (texts : SourceTexts) (c : ℕ) (o : OpenConnection) (os : List OpenConnection) (l : LoneConnection) (ls : List LoneConnection)
    (v w : ConnectionValue) (f : Past → Past) (m n : Bool) → m ≡ n → (if m then Some o.connection else present_at c os) ≡ Some v →
    ((p : Past) → (if n then Some l.past else first_past c ls) ≡ Some p → IsConnection texts v p → IsConnection texts w (f p)) →
    o.number ≡ l.number → IsConnection texts o.connection l.past → AreServed texts (map connection_shown os) ls →
    (present_at c os ≡ Some v → ((p : Past) → first_past c ls ≡ Some p → IsConnection texts v p → IsConnection texts w (f p)) →
    AreServed texts (map connection_shown (with_present c w os)) (changed_at c f ls)) →
    AreServed texts (map connection_shown (if m then record o { connection = w } ∷ os else o ∷ with_present c w os))
    (if n then record l { past = f l.past } ∷ ls else l ∷ changed_at c f ls)
serves_more texts c o os l ls v w f true true e h r number stands rest later =
    let same : o.connection ≡ v = cc in
    let P : ConnectionValue → Type 0 = λ x. IsConnection texts x l.past in
    (number, r l.past refl (subst P same stands), rest)
serves_more texts c o os l ls v w f false false e h r number stands rest later = (number, stands, later h r)
serves_more texts c o os l ls v w f true false e h r number stands rest later = cc
serves_more texts c o os l ls v w f false true e h r number stands rest later = cc

replaced_serves : (texts : SourceTexts) (c : ℕ) (os : List OpenConnection) (ls : List LoneConnection) (v w : ConnectionValue)
    (f : Past → Past) → present_at c os ≡ Some v →
    ((p : Past) → first_past c ls ≡ Some p → IsConnection texts v p → IsConnection texts w (f p)) →
    AreServed texts (map connection_shown os) ls → AreServed texts (map connection_shown (with_present c w os)) (changed_at c f ls)
replaced_serves texts c [] ls v w f h r s = cc
replaced_serves texts c (o ∷ os) [] v w f h r s = absurd s
replaced_serves texts c (o ∷ os) (l ∷ ls) v w f h r s =
    serves_more texts c o os l ls v w f (o.number == c) (l.number == c) (ap (λ (n : ℕ). n == c) s.0) h r s.0 s.1 s.2
    (λ k q. replaced_serves texts c os ls v w f k q s.2)

unchanged_by : (c : ℕ) (f : Past → Past) (l : LoneConnection) (ls : List LoneConnection) (n : Bool) →
    (if n then Some l.past else first_past c ls) ≡ None → (first_past c ls ≡ None → changed_at c f ls ≡ ls) →
    (if n then record l { past = f l.past } ∷ ls else l ∷ changed_at c f ls) ≡ l ∷ ls
unchanged_by c f l ls true h r = cc
unchanged_by c f l ls false h r = ap (λ (xs : List LoneConnection). l ∷ xs) (r h)

unchanged : (c : ℕ) (f : Past → Past) (ls : List LoneConnection) → first_past c ls ≡ None → changed_at c f ls ≡ ls
unchanged c f [] h = refl
unchanged c f (l ∷ ls) h = unchanged_by c f l ls (l.number == c) h (unchanged c f ls)

pub none_open : (texts : SourceTexts) (a : Option ConnectionValue) (b : Option Past) → SameAt texts a b → a ≡ None → b ≡ None
none_open texts None None s e = refl
none_open texts None (Some p) s e = absurd s
none_open texts (Some v) b s e = cc

-- where one is kept one is open
pub some_open : (texts : SourceTexts) (v : ConnectionValue) (b : Option Past) → SameAt texts (Some v) b →
    (p : Past) × (b ≡ Some p) × IsConnection texts v p
some_open texts v None s = absurd s
some_open texts v (Some p) s = (p, refl, s)

pub open_past : (texts : SourceTexts) (c : ℕ) (os : List OpenConnection) (ks : List LoneConnection) (v : ConnectionValue) →
    present_at c os ≡ Some v → AreServed texts (map connection_shown os) (open_ones ks) →
    (p : Past) × (open_at c ks ≡ Some p) × IsConnection texts v p
open_past texts c os ks v h s =
    let P : Option ConnectionValue → Type 0 = λ o. SameAt texts o (open_at c ks) in
    some_open texts v (open_at c ks) (subst P h (same_at texts c (map connection_shown os) ks s))

pub no_past : (texts : SourceTexts) (c : ℕ) (os : List OpenConnection) (ks : List LoneConnection) → present_at c os ≡ None →
    AreServed texts (map connection_shown os) (open_ones ks) → open_at c ks ≡ None
no_past texts c os ks h s = none_open texts (present_at c os) (open_at c ks) (same_at texts c (map connection_shown os) ks s) h

serves_from : (texts : SourceTexts) (o : Option ConnectionValue) (c : ℕ) (os ns : List OpenConnection)
    (R : ConnectionValue → ConnectionValue → Type 0) (f : Past → Past) (ks : List LoneConnection) → present_at c os ≡ o →
    BecomesFrom o c os ns R → AreServed texts (map connection_shown os) (open_ones ks) →
    ((v w : ConnectionValue) (p : Past) → R v w → open_at c ks ≡ Some p → IsConnection texts v p → IsConnection texts w (f p)) →
    AreServed texts (map connection_shown ns) (changed_at c f (open_ones ks))
serves_from texts None c os ns R f ks h d s r =
    let P : List OpenConnection → List LoneConnection → Type 0 = λ xs ys. AreServed texts (map connection_shown xs) ys in
    let same = unchanged c f (open_ones ks) (sym (open_at_is c ks) ∙ no_past texts c os ks h s) in
    subst (λ (ys : List LoneConnection). AreServed texts (map connection_shown ns) ys) (sym same)
    (subst (λ (xs : List OpenConnection). AreServed texts (map connection_shown xs) (open_ones ks)) (sym d) s)
serves_from texts (Some v) c os ns R f ks h d s r =
    subst (λ (xs : List OpenConnection). AreServed texts (map connection_shown xs) (changed_at c f (open_ones ks))) (sym d.1)
    (replaced_serves texts c os (open_ones ks) v d.0 f h (λ p e. r v d.0 p d.2 (open_at_is c ks ∙ e)) s)

pub changed_serves : (texts : SourceTexts) (c : ℕ) (os ns : List OpenConnection) (R : ConnectionValue → ConnectionValue → Type 0)
    (f : Past → Past) (ks : List LoneConnection) → BecomesAt c os ns R → AreServed texts (map connection_shown os) (open_ones ks) →
    ((v w : ConnectionValue) (p : Past) → R v w → open_at c ks ≡ Some p → IsConnection texts v p → IsConnection texts w (f p)) →
    AreServed texts (map connection_shown ns) (open_ones (at_open c f ks))
changed_serves texts c os ns R f ks d s r =
    subst (λ (ys : List LoneConnection). AreServed texts (map connection_shown ns) ys) (sym (at_open_is c f ks))
    (serves_from texts (present_at c os) c os ns R f ks refl d s r)

-- ---- measures

keeps_from : {A : Type 0} (g : ConnectionValue → A) (o : Option ConnectionValue) (c d : ℕ) (os ns : List OpenConnection)
    (R : ConnectionValue → ConnectionValue → Type 0) → present_at c os ≡ o → BecomesFrom o c os ns R →
    ((v w : ConnectionValue) → R v w → g w ≡ g v) → option_map g (present_at d ns) ≡ option_map g (present_at d os)
keeps_from g None c d os ns R h e r = ap (λ (xs : List OpenConnection). option_map g (present_at d xs)) e
keeps_from g (Some v) c d os ns R h e r = ap (λ (xs : List OpenConnection). option_map g (present_at d xs)) e.1
    ∙ same_kept g c d os v e.0 h (r v e.0 e.2)

-- what does not change at one changes at none
pub changed_keeps : {A : Type 0} (g : ConnectionValue → A) (c d : ℕ) (os ns : List OpenConnection)
    (R : ConnectionValue → ConnectionValue → Type 0) → BecomesAt c os ns R → ((v w : ConnectionValue) → R v w → g w ≡ g v) →
    option_map g (present_at d ns) ≡ option_map g (present_at d os)
changed_keeps g c d os ns R e r = keeps_from g (present_at c os) c d os ns R refl e r

pub or_of : {A B : Type 0} (f : A → B) (d : B) (o : Option A) → option_map_or f o d ≡ option_map_or (λ x. x) (option_map f o) d
or_of f d None = refl
or_of f d (Some x) = refl

number_of : (f g : ConnectionValue → ℕ) (a b : Option ConnectionValue) → ((v : ConnectionValue) → f v ≡ g (without_sending v)) →
    option_map without_sending a ≡ option_map without_sending b → option_map_or f a 0 ≡ option_map_or f b 0
number_of f g None None h e = refl
number_of f g None (Some w) h e = cc
number_of f g (Some v) None h e = cc
number_of f g (Some v) (Some w) h e =
    let same : without_sending v ≡ without_sending w = cc in
    h v ∙ ap g same ∙ sym (h w)

pub keeps_due : (c : ℕ) (os ns : List OpenConnection) → Keeps os ns → due_count c ns ≡ due_count c os
keeps_due c os ns k = number_of (λ v. length v.due) (λ v. length v.due) (present_at c ns) (present_at c os) (λ v. refl) (k c)

pub keeps_unread : (c : ℕ) (os ns : List OpenConnection) → Keeps os ns → unread_at c ns ≡ unread_at c os
keeps_unread c os ns k = number_of unread_length unread_length (present_at c ns) (present_at c os) (λ v. refl) (k c)

fewer_from : (o : Option ConnectionValue) (f : ConnectionValue → ℕ) (c : ℕ) (os ns : List OpenConnection)
    (R : ConnectionValue → ConnectionValue → Type 0) → present_at c os ≡ o → (present_at c os ≡ None → ⊥) → BecomesFrom o c os ns R →
    ((v w : ConnectionValue) → R v w → f w < f v) → option_map_or f (present_at c ns) 0 < option_map_or f (present_at c os) 0
fewer_from None f c os ns R h some e r = absurd (some h)
fewer_from (Some v) f c os ns R h some e r =
    let new : present_at c ns ≡ Some e.0 = ap (present_at c) e.1 ∙ new_kept c os v e.0 h in
    let lt = r v e.0 e.2 in
    let a : option_map_or f (present_at c ns) 0 ≡ f e.0 = ap (λ (x : Option ConnectionValue). option_map_or f x 0) new in
    let b : option_map_or f (present_at c os) 0 ≡ f v = ap (λ (x : Option ConnectionValue). option_map_or f x 0) h in
    omega arith

pub changed_fewer : (f : ConnectionValue → ℕ) (c : ℕ) (os ns : List OpenConnection) (R : ConnectionValue → ConnectionValue → Type 0) →
    (present_at c os ≡ None → ⊥) → BecomesAt c os ns R → ((v w : ConnectionValue) → R v w → f w < f v) →
    option_map_or f (present_at c ns) 0 < option_map_or f (present_at c os) 0
changed_fewer f c os ns R some e r = fewer_from (present_at c os) f c os ns R refl some e r

-- ---- by cases

pub kept_or_not : (o : Option ConnectionValue) → (o ≡ None) ⊎ ((v : ConnectionValue) × (o ≡ Some v))
kept_or_not None = inl refl
kept_or_not (Some v) = inr (v, refl)

pub changed_there : (c : ℕ) (os ns : List OpenConnection) (R : ConnectionValue → ConnectionValue → Type 0) (v : ConnectionValue) →
    present_at c os ≡ Some v → BecomesAt c os ns R → (w : ConnectionValue) × (ns ≡ with_present c w os) × R v w
changed_there c os ns R v h d = subst (λ (o : Option ConnectionValue). BecomesFrom o c os ns R) h d

pub changed_nowhere : (c : ℕ) (os ns : List OpenConnection) (R : ConnectionValue → ConnectionValue → Type 0) → present_at c os ≡ None →
    BecomesAt c os ns R → ns ≡ os
changed_nowhere c os ns R h d = subst (λ (o : Option ConnectionValue). BecomesFrom o c os ns R) h d

pub served_at : (texts : SourceTexts) (c : ℕ) (os ns : List OpenConnection) (v w : ConnectionValue) (f : Past → Past)
    (ks : List LoneConnection) → present_at c os ≡ Some v → ns ≡ with_present c w os →
    AreServed texts (map connection_shown os) (open_ones ks) →
    ((p : Past) → open_at c ks ≡ Some p → IsConnection texts v p → IsConnection texts w (f p)) →
    AreServed texts (map connection_shown ns) (open_ones (at_open c f ks))
served_at texts c os ns v w f ks h e s r =
    subst (λ (ys : List LoneConnection). AreServed texts (map connection_shown ns) ys) (sym (at_open_is c f ks))
    (subst (λ (xs : List OpenConnection). AreServed texts (map connection_shown xs) (changed_at c f (open_ones ks))) (sym e)
    (replaced_serves texts c os (open_ones ks) v w f h (λ p q. r p (open_at_is c ks ∙ q)) s))
