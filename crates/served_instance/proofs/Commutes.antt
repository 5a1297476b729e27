-- Steps of connections that can be made in either order, and what replies leave.
use Rattle.std.proofs.Common.{◌≡◌, refl, sym, ap, ◌∙◌, inl, inr}
use Rattle.std.specs.Prelude.{ℕ, if◌then◌else◌, Bool, true, false, List, [], ◌∷◌, option_map, Option, Some}
use Rattle.std.proofs.lemmas.Bool.{cases_Bool, cond-false, cond-true}
use Rattle.grpc_sending.specs.Owed.{Item}
use Rattle.conn_core.specs.History.{Entry}
use Rattle.conn_core.specs.declared.event.CallEvent.{CallEvent}
use Rattle.conn_core.specs.Past.{Past, with_item}
use Rattle.instance_core.specs.Replies.{ReplyValue}
use Rattle.served_instance.specs.Connections.{LoneConnection, is_open_at, open_at, at_open}
use Rattle.served_instance.specs.Calls.{owed_items, with_items}
use Rattle.served_instance.specs.Lone.{LoneInstance, after_replies}

abbrev stepped : (Past → Past) → LoneConnection → LoneConnection
stepped f k = record k { past = f k.past }

hit : (c : ℕ) (f : Past → Past) (k : LoneConnection) (ks : List LoneConnection) → is_open_at c k ≡ true →
    at_open c f (k ∷ ks) ≡ stepped f k ∷ ks
hit c f k ks e = cond-true (is_open_at c k) (stepped f k ∷ ks) (k ∷ at_open c f ks) e

miss : (c : ℕ) (f : Past → Past) (k : LoneConnection) (ks : List LoneConnection) → is_open_at c k ≡ false →
    at_open c f (k ∷ ks) ≡ k ∷ at_open c f ks
miss c f k ks e = cond-false (is_open_at c k) (stepped f k ∷ ks) (k ∷ at_open c f ks) e

-- ---- two steps

commute_at : (a b : ℕ) (f g : Past → Past) (k : LoneConnection) (ks : List LoneConnection) → ((p : Past) → f (g p) ≡ g (f p)) →
    at_open a f (at_open b g ks) ≡ at_open b g (at_open a f ks) →
    at_open a f (at_open b g (k ∷ ks)) ≡ at_open b g (at_open a f (k ∷ ks))
commute_at a b f g k ks h r = elim (cases_Bool (is_open_at a k)) [
  | inl x ↦ elim (cases_Bool (is_open_at b k)) [
    | inl y ↦
        ap (at_open a f) (hit b g k ks y) ∙ hit a f (stepped g k) ks x
        ∙ ap (λ (p : Past). record k { past = p } ∷ ks) (h k.past)
        ∙ sym (ap (at_open b g) (hit a f k ks x) ∙ hit b g (stepped f k) ks y)
    | inr y ↦
        ap (at_open a f) (miss b g k ks y) ∙ hit a f k (at_open b g ks) x
        ∙ sym (ap (at_open b g) (hit a f k ks x) ∙ miss b g (stepped f k) ks y)
  ]
  | inr x ↦ elim (cases_Bool (is_open_at b k)) [
    | inl y ↦
        ap (at_open a f) (hit b g k ks y) ∙ miss a f (stepped g k) ks x
        ∙ sym (ap (at_open b g) (miss a f k ks x) ∙ hit b g k (at_open a f ks) y)
    | inr y ↦
        ap (at_open a f) (miss b g k ks y) ∙ miss a f k (at_open b g ks) x
        ∙ ap (λ (xs : List LoneConnection). k ∷ xs) r
        ∙ sym (ap (at_open b g) (miss a f k ks x) ∙ miss b g k (at_open a f ks) y)
  ]
]

pub commute : (a b : ℕ) (f g : Past → Past) (ks : List LoneConnection) → ((p : Past) → f (g p) ≡ g (f p)) →
    at_open a f (at_open b g ks) ≡ at_open b g (at_open a f ks)
commute a b f g [] h = refl
commute a b f g (k ∷ ks) h = commute_at a b f g k ks h (commute a b f g ks h)

fuse_at : (c : ℕ) (f g : Past → Past) (k : LoneConnection) (ks : List LoneConnection) →
    at_open c f (at_open c g ks) ≡ at_open c (λ p. f (g p)) ks → at_open c f (at_open c g (k ∷ ks)) ≡ at_open c (λ p. f (g p)) (k ∷ ks)
fuse_at c f g k ks r = elim (cases_Bool (is_open_at c k)) [
  | inl x ↦ ap (at_open c f) (hit c g k ks x) ∙ hit c f (stepped g k) ks x ∙ sym (hit c (λ p. f (g p)) k ks x)
  | inr x ↦ ap (at_open c f) (miss c g k ks x) ∙ miss c f k (at_open c g ks) x ∙ ap (λ (xs : List LoneConnection). k ∷ xs) r
      ∙ sym (miss c (λ p. f (g p)) k ks x)
]

pub fuse : (c : ℕ) (f g : Past → Past) (ks : List LoneConnection) → at_open c f (at_open c g ks) ≡ at_open c (λ p. f (g p)) ks
fuse c f g [] = refl
fuse c f g (k ∷ ks) = fuse_at c f g k ks (fuse c f g ks)

idle_by : (b : Bool) (k : LoneConnection) (ks xs : List LoneConnection) → xs ≡ ks → (if b then k ∷ ks else k ∷ xs) ≡ k ∷ ks
idle_by true k ks xs e = refl
idle_by false k ks xs e = ap (λ (ys : List LoneConnection). k ∷ ys) e

-- a step that changes nothing
pub idle : (c : ℕ) (ks : List LoneConnection) → at_open c (λ p. p) ks ≡ ks
idle c [] = refl
idle c (k ∷ ks) = idle_by (is_open_at c k) k ks (at_open c (λ p. p) ks) (idle c ks)

-- a step that leaves the one of c as it was
pub no_step : (c : ℕ) (f : Past → Past) (ks : List LoneConnection) → ((p : Past) → open_at c ks ≡ Some p → f p ≡ p) → at_open c f ks ≡ ks
no_step c f [] h = refl
no_step c f (k ∷ ks) h = elim (cases_Bool (is_open_at c k)) [
  | inl x ↦ hit c f k ks x ∙ ap (λ (p : Past). record k { past = p } ∷ ks)
      (h k.past (cond-true (is_open_at c k) (Some k.past) (open_at c ks) x))
  | inr x ↦ miss c f k ks x ∙ ap (λ (xs : List LoneConnection). k ∷ xs)
      (no_step c f ks (λ p e. h p (cond-false (is_open_at c k) (Some k.past) (open_at c ks) x ∙ e)))
]

-- ---- the past after a step

either : {A : Type 0} (g : Past → A) (m : Bool) (p q : Past) (a b : Option Past) → g p ≡ g q → option_map g a ≡ option_map g b →
    option_map g (if m then Some p else a) ≡ option_map g (if m then Some q else b)
either g true p q a b e r = ap Some e
either g false p q a b e r = r

view_by : {A : Type 0} (g : Past → A) (a b : ℕ) (f : Past → Past) (k : LoneConnection) (ks : List LoneConnection) →
    ((p : Past) → g (f p) ≡ g p) → option_map g (open_at a (at_open b f ks)) ≡ option_map g (open_at a ks) →
    option_map g (open_at a (at_open b f (k ∷ ks))) ≡ option_map g (open_at a (k ∷ ks))
view_by g a b f k ks h r = elim (cases_Bool (is_open_at b k)) [
  | inl y ↦ ap (λ (xs : List LoneConnection). option_map g (open_at a xs)) (hit b f k ks y)
      ∙ either g (is_open_at a k) (f k.past) k.past (open_at a ks) (open_at a ks) (h k.past) refl
  | inr y ↦ ap (λ (xs : List LoneConnection). option_map g (open_at a xs)) (miss b f k ks y)
      ∙ either g (is_open_at a k) k.past k.past (open_at a (at_open b f ks)) (open_at a ks) refl r
]

-- what no step changes
pub view_kept : {A : Type 0} (g : Past → A) (a b : ℕ) (f : Past → Past) (ks : List LoneConnection) → ((p : Past) → g (f p) ≡ g p) →
    option_map g (open_at a (at_open b f ks)) ≡ option_map g (open_at a ks)
view_kept g a b f [] h = refl
view_kept g a b f (k ∷ ks) h = view_by g a b f k ks h (view_kept g a b f ks h)

pub open_stepped : (c : ℕ) (f : Past → Past) (ks : List LoneConnection) → open_at c (at_open c f ks) ≡ option_map f (open_at c ks)
open_stepped c f [] = refl
open_stepped c f (k ∷ ks) = elim (cases_Bool (is_open_at c k)) [
  | inl x ↦ ap (open_at c) (hit c f k ks x) ∙ cond-true (is_open_at c k) (Some (f k.past)) (open_at c ks) x
      ∙ sym (ap (option_map f) (cond-true (is_open_at c k) (Some k.past) (open_at c ks) x))
  | inr x ↦ ap (open_at c) (miss c f k ks x) ∙ cond-false (is_open_at c k) (Some k.past) (open_at c (at_open c f ks)) x
      ∙ open_stepped c f ks ∙ sym (ap (option_map f) (cond-false (is_open_at c k) (Some k.past) (open_at c ks) x))
]

-- ---- items

pub items_due : (s : ℕ) (items : List Item) (p : Past) (due : List CallEvent) →
    record (with_items s items p) { due = due } ≡ with_items s items (record p { due = due })
items_due s [] p due = refl
items_due s (item ∷ items) p due = items_due s items (with_item p s item) due

pub items_keep_due : (s : ℕ) (items : List Item) (p : Past) → (with_items s items p).due ≡ p.due
items_keep_due s [] p = refl
items_keep_due s (item ∷ items) p = items_keep_due s items (with_item p s item)

-- what items leave as it was
abbrev pub Wire : Type 0
Wire = List ℕ × List Entry

abbrev pub wire : Past → Wire
wire p = (p.text, p.history)

pub items_keep_wire : (s : ℕ) (items : List Item) (p : Past) → wire (with_items s items p) ≡ wire p
items_keep_wire s [] p = refl
items_keep_wire s (item ∷ items) p = items_keep_wire s items (with_item p s item)

-- ---- replies

abbrev pub given : List ReplyValue → List LoneConnection → List LoneConnection
given [] ks = ks
given (r ∷ rs) ks = given rs (at_open r.call.connection (with_items r.call.stream (owed_items r.items)) ks)

pub replied_is : (rs : List ReplyValue) (l : LoneInstance) → after_replies rs l ≡ record l { connections = given rs l.connections }
replied_is [] l = refl
replied_is (r ∷ rs) l = replied_is rs (record l
    { connections = at_open r.call.connection (with_items r.call.stream (owed_items r.items)) l.connections })

pub given_commutes : (c : ℕ) (f : Past → Past) (rs : List ReplyValue) (ks : List LoneConnection) →
    ((s : ℕ) (items : List Item) (p : Past) → f (with_items s items p) ≡ with_items s items (f p)) →
    at_open c f (given rs ks) ≡ given rs (at_open c f ks)
given_commutes c f [] ks h = refl
given_commutes c f (r ∷ rs) ks h =
    given_commutes c f rs (at_open r.call.connection (with_items r.call.stream (owed_items r.items)) ks) h
    ∙ ap (given rs) (commute c r.call.connection f (with_items r.call.stream (owed_items r.items)) ks
    (h r.call.stream (owed_items r.items)))

pub given_keeps : {A : Type 0} (g : Past → A) (c : ℕ) (rs : List ReplyValue) (ks : List LoneConnection) →
    ((s : ℕ) (items : List Item) (p : Past) → g (with_items s items p) ≡ g p) →
    option_map g (open_at c (given rs ks)) ≡ option_map g (open_at c ks)
given_keeps g c [] ks h = refl
given_keeps g c (r ∷ rs) ks h =
    given_keeps g c rs (at_open r.call.connection (with_items r.call.stream (owed_items r.items)) ks) h
    ∙ view_kept g c r.call.connection (with_items r.call.stream (owed_items r.items)) ks (h r.call.stream (owed_items r.items))
