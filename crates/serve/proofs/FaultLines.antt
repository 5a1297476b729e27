-- What is written of faults, one after another.
use Rattle.std.proofs.Common.{◌≡◌, List, ℕ, [], ◌∷◌, ◌++◌, length, map, refl, ap, sym, ◌∙◌, append_assoc, append-nil, subst, inl, inr}
use Rattle.std.specs.Prelude.{◌==◌, Bool, true, false, Option, Some, None, Result, Ok, Err, codes}
use Rattle.std.specs.Fmt.{decimal}
use Rattle.std.specs.Io.KnownBytes.{Appends}
use Rattle.std.specs.List.{AllByRecursion, concat}
use Rattle.std.proofs.lemmas.List.{map-append}
use Rattle.std.proofs.lemmas.List.Elements.{Contains-append_left, Contains-append_right, Contains-push}
use Rattle.runner.specs.declared.fault.RunFault.{RunFault}
use Rattle.run_calls.specs.Calls.{Adds}
use Rattle.runner.proofs.Calls.{adds_more, adds_none, adds_same}
use Rattle.run_calls.specs.declared.task.RunKey.{RunKey}
use Rattle.server_events.specs.Configs.{ConfigValue}
use Rattle.serve.specs.declared.error_lines.Backlog.{Backlog}
use Rattle.serve.specs.RunEvents.{FaultValue, faults_of}
use Rattle.serve.specs.FaultLines.{ToldFault, fault_told, IsFaultLine, PutsLine, TellsAnswer, TellsFaults, WritesFront, WritesLines, WritesLinesAt, WritesWholeLines, dropped_line, escaped, reason_line}

appends_none : (a : Option (List ℕ)) → Appends a a []
appends_none None = tt
appends_none (Some xs) = sym (append-nil xs)

appends_more : (a b c : Option (List ℕ)) (v w : List ℕ) → Appends a b v → Appends b c w → Appends a c (v ++ w)
appends_more None b c v w first then = tt
appends_more (Some xs) None c v w first then = elim first [ ]
appends_more (Some xs) (Some ys) None v w first then = elim then [ ]
appends_more (Some xs) (Some ys) (Some zs) v w first then = then ∙ ap (λ (us : List ℕ). us ++ w) first ∙ append_assoc xs v w

-- .. and then of what is left and more
pub front_then : (a b c : Option (List ℕ)) (bytes left more rest : List ℕ) → WritesFront a bytes b left →
    WritesFront b (left ++ more) c rest → WritesFront a (bytes ++ more) c rest
front_then a b c bytes left more rest first then = (
  first.0 ++ then.0,
  appends_more a b c first.0 then.0 first.1 then.1,
  ap (λ (us : List ℕ). us ++ more) first.2 ∙ append_assoc first.0 left more ∙ ap (λ (us : List ℕ). first.0 ++ us) then.2
      ∙ sym (append_assoc first.0 then.0 rest),
)

-- where nothing is left, just more
pub front_behind : (b c : Option (List ℕ)) (left more text rest : List ℕ) → left ≡ [] → text ≡ more → WritesFront b text c rest →
    WritesFront b (left ++ more) c rest
front_behind b c left more text rest none is wrote = (wrote.0, wrote.1, ap (λ (us : List ℕ). us ++ more) none ∙ sym is ∙ wrote.2)

-- five texts, one behind another, and seven
pub five : (s t u v w : List ℕ) → s ++ t ++ u ++ v ++ w ≡ s ++ (t ++ (u ++ (v ++ w)))
five s t u v w =
    append_assoc (s ++ t ++ u) v w
    ∙ append_assoc (s ++ t) u (v ++ w)
    ∙ append_assoc s t (u ++ (v ++ w))

pub seven : (s t u v w x y : List ℕ) → s ++ t ++ u ++ v ++ w ++ x ++ y ≡ s ++ (t ++ (u ++ (v ++ (w ++ (x ++ y)))))
seven s t u v w x y =
    append_assoc (s ++ t ++ u ++ v ++ w) x y
    ∙ append_assoc (s ++ t ++ u ++ v) w (x ++ y)
    ∙ five s t u v (w ++ (x ++ y))

-- a reason that is there is a line
pub reason_written : (name reason : List ℕ) (job : ℕ) → (length reason == 0) ≡ false →
    reason_line name job reason ≡ codes "remoted: run " ++ name ++ codes " " ++ decimal job ++ codes ": " ++ escaped reason ++ codes "\n"
reason_written name reason job is = rw is refl

-- ---- all faults

tells_on : (configs : List ConfigValue) (xs ys : List ToldFault) (a b c : Option (List ℕ)) (x y z : Backlog) →
    TellsFaults configs xs a x b y → TellsFaults configs ys b y c z → TellsFaults configs (xs ++ ys) a x c z
tells_on configs [] ys a b c x y z first then =
    subst (λ (k : Option (List ℕ)). TellsFaults configs ys k x c z) first.0
    (subst (λ (k : Backlog). TellsFaults configs ys b k c z) first.1 then)
tells_on configs (t ∷ xs) ys a b c x y z first then =
    (first.0, first.1, first.2, tells_on configs xs ys first.0 b c first.1 y z first.3 then)

all_at : (moment : ℕ) (xs ys : List ToldFault) → AllByRecursion (λ t. t.moment ≡ moment) xs → AllByRecursion (λ t. t.moment ≡ moment) ys →
    AllByRecursion (λ t. t.moment ≡ moment) (xs ++ ys)
all_at moment [] ys first then = then
all_at moment (x ∷ xs) ys first then = (first.0, all_at moment xs ys first.1 then)

adds_on : (f g h : Option (List FaultValue)) (xs ys : List ToldFault) → Adds f g (map fault_told xs) → Adds g h (map fault_told ys) →
    Adds f h (map fault_told (xs ++ ys))
adds_on f g h xs ys first then =
    adds_same f h (map fault_told xs ++ map fault_told ys) (map fault_told (xs ++ ys)) (sym (map-append fault_told xs ys))
    (adds_more f g h (map fault_told xs) (map fault_told ys) first then)

-- nothing is told
pub lines_none : (configs : List ConfigValue) (were : Option (List FaultValue)) (before : Option (List ℕ)) (b : Backlog) →
    WritesLines configs were were before b before b
lines_none configs were before b = ([], adds_none were, (refl, refl))

-- some are told at a moment, no other comes, and then others are
pub lines_at_on : (moment : ℕ) (configs : List ConfigValue) (f g h k : Option (List FaultValue)) (a b c : Option (List ℕ))
    (x y z : Backlog) → WritesLinesAt moment configs f g a x b y → h ≡ g → WritesLinesAt moment configs h k b y c z →
    WritesLinesAt moment configs f k a x c z
lines_at_on moment configs f g h k a b c x y z first same then = (
  first.0 ++ then.0,
  all_at moment first.0 then.0 first.1 then.1,
  adds_on f g k first.0 then.0 first.2 (subst (λ (l : Option (List FaultValue)). Adds l k (map fault_told then.0)) same then.2),
  tells_on configs first.0 then.0 a b c x y z first.3 then.3,
)

pub lines_at_same : (moment : ℕ) (configs : List ConfigValue) (f g h : Option (List FaultValue)) (a b : Option (List ℕ)) (x y : Backlog) →
    h ≡ g → WritesLinesAt moment configs f g a x b y → WritesLinesAt moment configs f h a x b y
lines_at_same moment configs f g h a b x y same w =
    subst (λ (l : Option (List FaultValue)). WritesLinesAt moment configs f l a x b y) (sym same) w

-- .. and others at another moment
pub lines_on : (moment : ℕ) (configs : List ConfigValue) (f g k : Option (List FaultValue)) (a b c : Option (List ℕ)) (x y z : Backlog) →
    WritesLines configs f g a x b y → WritesLinesAt moment configs g k b y c z → WritesLines configs f k a x c z
lines_on moment configs f g k a b c x y z first then = (
  first.0 ++ then.0,
  adds_on f g k first.0 then.0 first.1 then.2,
  tells_on configs first.0 then.0 a b c x y z first.2 then.3,
)

-- what a run answers is told
pub answer_lines : {A : Type 0} (configs : List ConfigValue) (moment : ℕ) (run : RunKey) (r : Result A RunFault)
    (were asked are : Option (List FaultValue)) (before after : Option (List ℕ)) (old new : Backlog) → Adds were asked (faults_of run r) →
    are ≡ asked → TellsAnswer configs moment run r before old after new → WritesLinesAt moment configs were are before old after new
answer_lines configs moment run (Ok x) were asked are before after old new adds same t =
    ([], tt, subst (λ (l : Option (List FaultValue)). Adds were l []) (sym same) adds, t)
answer_lines configs moment run (Err fault) were asked are before after old new adds same t = (
  record { moment = moment; run = run; fault = fault } ∷ [],
  (refl, tt),
  subst (λ (l : Option (List FaultValue)). Adds were l ((run, fault) ∷ [])) (sym same) adds,
  (after, new, t, (refl, refl)),
)

-- ---- whole lines

line_later : (configs : List ConfigValue) (t : ToldFault) (ts : List ToldFault) (lines : List (List ℕ)) →
    AllByRecursion (IsFaultLine configs ts) lines → AllByRecursion (IsFaultLine configs (t ∷ ts)) lines
line_later configs t ts [] all = tt
line_later configs t ts (l ∷ ls) all = (go all.0, line_later configs t ts ls all.1) where
  go : IsFaultLine configs ts l → IsFaultLine configs (t ∷ ts) l
  go (inl it) = inl (it.0, it.1, Contains-append_right (t ∷ []) ts it.0 it.2, it.3, it.4)
  go (inr n) = inr n

-- a line is put or dropped, and then others are
line_put : (configs : List ConfigValue) (t : ToldFault) (ts : List ToldFault) (line : List ℕ) (told : Bool) (a b c : Option (List ℕ))
    (x y z : Backlog) → IsFaultLine configs (t ∷ ts) line → PutsLine told line a x b y → WritesWholeLines configs ts b y c z →
    WritesWholeLines configs (t ∷ ts) a x c z
line_put configs t ts line true a b c x y z is put rest = (
  dropped_line x.dropped ∷ line ∷ rest.0,
  (inr (x.dropped, refl), (is, line_later configs t ts rest.0 rest.1)),
  subst (λ (us : List ℕ). WritesFront a us c z.rest.items)
      (append_assoc x.rest.items (dropped_line x.dropped ++ line) (concat rest.0)
      ∙ ap (λ (us : List ℕ). x.rest.items ++ us) (append_assoc (dropped_line x.dropped) line (concat rest.0)))
      (front_then a b c (x.rest.items ++ (dropped_line x.dropped ++ line)) y.rest.items (concat rest.0) z.rest.items put.0 rest.2),
)
line_put configs t ts line false a b c x y z is put rest =
    (rest.0, line_later configs t ts rest.0 rest.1, front_then a b c x.rest.items y.rest.items (concat rest.0) z.rest.items put.0 rest.2)

pub whole_lines : (configs : List ConfigValue) (told : List ToldFault) (before after : Option (List ℕ)) (old new : Backlog) →
    TellsFaults configs told before old after new → WritesWholeLines configs told before old after new
whole_lines configs [] before after old new same =
    subst (λ (k : Option (List ℕ)). WritesWholeLines configs [] before old k new) (sym same.0)
    (subst (λ (b : Backlog). WritesWholeLines configs [] before old before b) (sym same.1)
    ([], tt, ([], appends_none before, append-nil old.rest.items)))
whole_lines configs (t ∷ ts) before after old new tells =
    line_put configs t ts _ tells.2.2.told before tells.0 after old tells.1 new
    (inl (t, tells.2.0, Contains-append_left (t ∷ []) ts t (Contains-push [] t), tells.2.1, refl)) tells.2.2.put
    (whole_lines configs ts tells.0 after tells.1 new tells.3)
