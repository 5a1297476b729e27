-- Something happens to a call: the instance answers, and the connections take what is answered.
use Rattle.std.proofs.Common.{◌≡◌, refl, sym, ap, ◌∙◌, subst, ◌+◌, ◌≤◌, arith}
use Rattle.std.specs.Prelude.{ℕ, List, [], ◌∷◌, length, map, Result, Ok, Err, OnOk}
use Rattle.std.specs.List.{AllByRecursion}
use Rattle.std.proofs.lemmas.List.{length-map}
use Rattle.blob_pool.specs.Slots.{Slots, text_at, count_at}
use Rattle.blob_pool.specs.Moves.{no_holders, Holders, Moves}
use Rattle.grpc_sending.specs.StoredSending.{SourceTexts, AgreeOn}
use Rattle.instance_core.specs.declared.event.Reply.{Reply}
use Rattle.instance_core.specs.declared.event.ReplyItem.{ReplyItem}
use Rattle.instance_core.specs.declared.event.ReplyItem.TheVariants.{Begins, Says, Tells, Gives, Ends, Refuses}
use Rattle.instance_core.specs.Answer.{answer, state_after}
use Rattle.instance_core.specs.Calls.{CallEventValue}
use Rattle.instance_core.specs.ReplyHolders.{replies_holders}
use Rattle.instance_core.specs.Replies.{ReplyItemValue, ReplyValue, IsShortReplyItem, IsShortReply}
use Rattle.instance_core.specs.Shown.{item_shown, reply_shown}
use Rattle.instance_core.specs.InstanceViewShown.{ViewValue}
use Rattle.instance_core.proofs.Sees.{parent_same}
use Rattle.served_instance.proofs.Besides.{both_same}
use Rattle.instance_core.specs.Slots.{state_beside, InstanceSlots, state_in, holders_of_instance}
use Rattle.instance_core.specs.State.{InstanceState, IsInstanceWithin}
use Rattle.served_instance.specs.declared.open_connection.OpenConnection.{OpenConnection}
use Rattle.served_instance.specs.Connections.{LoneConnection, open_ones}
use Rattle.served_instance.specs.OwedReplies.{item_by, reply_by, CanBeOwed, ReplyCanBeOwed, ItemsEndWithin, RepliesEndWithin, AllTakeRanges}
use Rattle.served_instance.specs.Lent.{LentValue, GoesOn, IsKept, lent_slots}
use Rattle.served_instance.specs.Lone.{LoneInstance, after_replies, after_call_event}
use Rattle.served_instance.specs.Ranges.{seen_with, sources_at, range_holders}
use Rattle.served_instance.specs.Shown.{connection_shown}
use Rattle.served_instance.specs.Slots.{IsServedBeside, holders_of, IsServedInPool}
use Rattle.served_instance.specs.StandsFor.{ServedConnection, AreServed}
use Rattle.served_instance.specs.Acts.{ActsBy, StandsBy, slots_of}
use Rattle.served_instance.proofs.Commutes.{given, replied_is}
use Rattle.served_instance.proofs.Frames.{happened_is}
use Rattle.served_instance.proofs.Gives.{AreGiven}
use Rattle.served_instance.proofs.Kept.{few_connections, own_same, slots_at}
use Rattle.served_instance.proofs.Ranges.{served_agreed, fit_agreed_each}
use Rattle.served_instance.proofs.Taking.{take_none}

-- ---- what a reply says

items_same : (q : Slots) (items : List ReplyItem) → map (item_by (text_at q)) items ≡ map (item_shown q) items
items_same q [] = refl
items_same q (Begins ∷ items) = ap (λ (xs : List ReplyItemValue). item_shown q Begins ∷ xs) (items_same q items)
items_same q (Says bytes ∷ items) = ap (λ (xs : List ReplyItemValue). item_shown q (Says bytes) ∷ xs) (items_same q items)
items_same q (Tells bytes ∷ items) = ap (λ (xs : List ReplyItemValue). item_shown q (Tells bytes) ∷ xs) (items_same q items)
items_same q (Gives range ∷ items) = ap (λ (xs : List ReplyItemValue). item_shown q (Gives range) ∷ xs) (items_same q items)
items_same q (Ends ∷ items) = ap (λ (xs : List ReplyItemValue). item_shown q Ends ∷ xs) (items_same q items)
items_same q (Refuses refusal ∷ items) = ap (λ (xs : List ReplyItemValue). item_shown q (Refuses refusal) ∷ xs) (items_same q items)

abbrev reply_of : Reply → List ReplyItemValue → ReplyValue
reply_of r items = record { call = r.call; items = items }

pub replies_same : (q : Slots) (rs : List Reply) → map (reply_by (text_at q)) rs ≡ map (reply_shown q) rs
replies_same q [] = refl
replies_same q (r ∷ rs) =
    ap (λ (items : List ReplyItemValue). reply_of r items ∷ map (reply_by (text_at q)) rs) (items_same q r.items.items)
    ∙ ap (λ (xs : List ReplyValue). reply_shown q r ∷ xs) (replies_same q rs)

items_owed : (q : Slots) (items : List ReplyItem) → AllByRecursion IsShortReplyItem (map (item_shown q) items) →
    AllByRecursion CanBeOwed items
items_owed q [] h = tt
items_owed q (Begins ∷ items) h = (tt, items_owed q items h.1)
items_owed q (Says bytes ∷ items) h = (h.0, items_owed q items h.1)
items_owed q (Tells bytes ∷ items) h = (h.0, items_owed q items h.1)
items_owed q (Gives range ∷ items) h = let some = h.0.some in (omega (arith, some), items_owed q items h.1)
items_owed q (Ends ∷ items) h = (tt, items_owed q items h.1)
items_owed q (Refuses refusal ∷ items) h = (tt, items_owed q items h.1)

pub replies_owed : (q : Slots) (rs : List Reply) → AllByRecursion IsShortReply (map (reply_shown q) rs) → AllByRecursion ReplyCanBeOwed rs
replies_owed q [] h = tt
replies_owed q (r ∷ rs) h = (items_owed q r.items.items h.0, replies_owed q rs h.1)

items_end : (q : Slots) (items : List ReplyItem) → AllByRecursion IsShortReplyItem (map (item_shown q) items) →
    ItemsEndWithin items (text_at q)
items_end q [] h = tt
items_end q (Begins ∷ items) h = (tt, items_end q items h.1)
items_end q (Says bytes ∷ items) h = (tt, items_end q items h.1)
items_end q (Tells bytes ∷ items) h = (tt, items_end q items h.1)
items_end q (Gives range ∷ items) h = (h.0.within, items_end q items h.1)
items_end q (Ends ∷ items) h = (tt, items_end q items h.1)
items_end q (Refuses refusal ∷ items) h = (tt, items_end q items h.1)

pub replies_end : (q : Slots) (rs : List Reply) → AllByRecursion IsShortReply (map (reply_shown q) rs) → RepliesEndWithin rs (text_at q)
replies_end q [] h = tt
replies_end q (r ∷ rs) h = (items_end q r.items.items h.0, replies_end q rs h.1)

-- ---- what is held

-- the instance did something in a pool, and gives what is held so often; connections took that, or
-- it was released
pub record IsAnswered (given : Holders) (IsGood : SourceTexts → Type 0) (p q r : Slots) (i j : InstanceSlots)
    (vs ws : List ServedConnection) : Type 0 where
  pub kept : IsServedInPool p (slots_at i vs)
  pub moves : Moves p q (holders_of_instance i) (λ k. holders_of_instance j k + given k)
  pub takes : AllTakeRanges given IsGood q vs r ws
  pub within : IsInstanceWithin (state_in q j)
  pub good : IsGood (text_at q)

pub given_counted : (given : Holders) (p q : Slots) (i j : InstanceSlots) (vs : List ServedConnection) → IsServedInPool p (slots_at i vs) →
    Moves p q (holders_of_instance i) (λ k. holders_of_instance j k + given k) →
    (k : ℕ) → holders_of_instance j k + range_holders vs k + given k ≤ count_at q k
given_counted given p q i j vs kept m k = omega (arith, m.counts k, kept.counted k)

pub asked_finds : (given : Holders) (p q : Slots) (i j : InstanceSlots) (vs : List ServedConnection) → IsServedInPool p (slots_at i vs) →
    Moves p q (holders_of_instance i) (λ k. holders_of_instance j k + given k) → AgreeOn (sources_at vs) (text_at p) (text_at q)
asked_finds given p q i j vs kept m k some = sym (m.texts k (omega (arith, some, kept.counted k)))

pub taken_finds : (given : Holders) (IsGood : SourceTexts → Type 0) (p q r : Slots) (i j : InstanceSlots) (vs ws : List ServedConnection) →
    IsAnswered given IsGood p q r i j vs ws → AgreeOn (sources_at ws) (text_at q) (text_at r)
taken_finds given IsGood p q r i j vs ws a k some =
    let held = given_counted given p q i j vs a.kept a.moves k in
    sym (a.takes.moves.texts k (omega (arith, some, held, a.takes.sources k)))

pub answered_moves : (given : Holders) (IsGood : SourceTexts → Type 0) (p q r : Slots) (i j : InstanceSlots)
    (vs ws : List ServedConnection) → IsAnswered given IsGood p q r i j vs ws →
    Moves p r (holders_of (slots_at i vs)) (holders_of (slots_at j ws))
answered_moves given IsGood p q r i j vs ws a = record {
  counts = λ k. omega (arith, a.moves.counts k, a.takes.moves.counts k, a.takes.sources k);
  texts = λ k few.
      a.takes.moves.texts k (omega (arith, few, a.moves.counts k, a.takes.sources k))
      ∙ a.moves.texts k (omega (arith, few));
}

pub answered_state : (given : Holders) (IsGood : SourceTexts → Type 0) (p q r : Slots) (i j : InstanceSlots)
    (vs ws : List ServedConnection) → IsAnswered given IsGood p q r i j vs ws → state_in r j ≡ state_in q j
answered_state given IsGood p q r i j vs ws a =
    own_same q r j a.takes.gone no_holders
    (λ k. let held = given_counted given p q i j vs a.kept a.moves k in omega (arith, held, a.takes.fewer k)) a.takes.moves

pub answered_beside : (given : Holders) (IsGood : SourceTexts → Type 0) (parent : ViewValue) (p q r : Slots) (i j : InstanceSlots)
    (vs ws : List ServedConnection) → IsAnswered given IsGood p q r i j vs ws → IsServedBeside p parent (slots_at i vs) →
    state_beside r parent j ≡ state_beside q parent j
answered_beside given IsGood parent p q r i j vs ws a beside =
    both_same q r parent j (parent_same q r parent a.takes.gone no_holders a.takes.moves
    (λ k. omega (arith, a.moves.counts k, beside.counted k, a.takes.fewer k))) (answered_state given IsGood p q r i j vs ws a)

pub answered_kept : (given : Holders) (IsGood : SourceTexts → Type 0) (p q r : Slots) (i j : InstanceSlots)
    (vs ws : List ServedConnection) → IsAnswered given IsGood p q r i j vs ws → length ws ≤ 64 → IsServedInPool r (slots_at j ws)
answered_kept given IsGood p q r i j vs ws a short =
    let find = taken_finds given IsGood p q r i j vs ws a in
    record {
      counted = λ k. let held = given_counted given p q i j vs a.kept a.moves k in
          omega (arith, held, a.takes.moves.counts k, a.takes.sources k);
      others = λ k. omega (arith, a.moves.counts k, a.takes.moves.counts k, a.takes.sources k, a.kept.others k);
      within = record {
        instance = subst IsInstanceWithin (sym (answered_state given IsGood p q r i j vs ws a)) a.within;
        connections = omega (arith, short, length-map ws (seen_with (text_at r)));
      };
      fit = fit_agreed_each (text_at q) (text_at r) ws find
          (a.takes.fit (text_at q) a.good (fit_agreed_each (text_at p) (text_at q) vs
          (asked_finds given p q i j vs a.kept a.moves) a.kept.fit));
      few = a.takes.few a.kept.few;
    }

-- what a call event answered was given to its connections
pub answers_given : (p q r : Slots) (i j : InstanceSlots) (os ns : List OpenConnection) (rs ys : List Reply) → rs ≡ ys →
    IsServedInPool p (slots_of i os) →
    Moves p q (holders_of_instance i) (λ k. holders_of_instance j k + replies_holders ys k) →
    AllTakeRanges (replies_holders rs) (RepliesEndWithin rs) q (map connection_shown os) r (map connection_shown ns) →
    IsInstanceWithin (state_in q j) →
    AllByRecursion IsShortReply (map (reply_shown q) ys) →
    IsAnswered (replies_holders rs) (RepliesEndWithin rs) p q r i j (map connection_shown os) (map connection_shown ns)
answers_given p q r i j os ns rs ys is kept moves takes within short = record {
  kept = kept;
  moves = subst (λ (xs : List Reply). Moves p q (holders_of_instance i) (λ k. holders_of_instance j k + replies_holders xs k))
      (sym is) moves;
  takes = takes;
  within = within;
  good = replies_end q rs (subst (λ (xs : List Reply). AllByRecursion IsShortReply (map (reply_shown q) xs)) (sym is) short);
}

-- ---- what it stands for

pub replied_at : (rs : List ReplyValue) (l : LoneInstance) → (after_replies rs l).connections ≡ given rs l.connections
replied_at rs l = ap (λ (k : LoneInstance). k.connections) (replied_is rs l)

pub happens : {T E : Type 0} (result : Result T E) (parent : ViewValue) (p q r : Slots) (i j : InstanceSlots) (os ns : List OpenConnection)
    (what : CallEventValue) (rs : List Reply) → IsAnswered (replies_holders rs) (RepliesEndWithin rs) p q r i j (map connection_shown os)
    (map connection_shown ns) → IsServedBeside p parent (slots_of i os) →
    map (reply_shown q) rs ≡ (answer (state_beside p parent i) what).replies →
    state_beside q parent j ≡ state_after (state_beside p parent i) what → OnOk result (AreGiven rs os ns) →
    OnOk result (ActsBy (text_at p) (state_beside p parent i) os (text_at r) (state_beside r parent j) ns (after_call_event what))
happens (Ok x) parent p q r i j os ns what rs a beside e f h = λ l st.
    let vs = map connection_shown os in
    let ws = map connection_shown ns in
    let held = replies_holders rs in
    let asked : AreServed (text_at q) vs (open_ones l.connections) =
    served_agreed (text_at p) (text_at q) vs (open_ones l.connections) (asked_finds held p q i j vs a.kept a.moves) st.connections in
    let same : given (map (reply_by (text_at q)) rs) l.connections ≡ given (answer l.state what).replies l.connections =
    ap (λ (ys : List ReplyValue). given ys l.connections)
    (replies_same q rs ∙ (e ∙ ap (λ (y : InstanceState). (answer y what).replies) st.state)) in
    let taken : AreServed (text_at q) ws (open_ones (given (answer l.state what).replies l.connections)) =
    subst (λ (ks : List LoneConnection). AreServed (text_at q) ws (open_ones ks)) (replied_at (map (reply_by (text_at q)) rs) l ∙ same)
    (h (text_at q) l asked) in
    let k : LoneInstance = record l { state = state_after l.state what; connections = given (answer l.state what).replies l.connections } in
    let now : StandsBy (text_at r) (state_beside r parent j) ns k = record {
      state = answered_beside held (RepliesEndWithin rs) parent p q r i j vs ws a beside
          ∙ (f ∙ ap (λ (y : InstanceState). state_after y what) st.state);
      connections = served_agreed (text_at q) (text_at r) ws (open_ones k.connections)
          (taken_finds held (RepliesEndWithin rs) p q r i j vs ws a) taken;
    } in
    subst (λ (x : LoneInstance). StandsBy (text_at r) (state_beside r parent j) ns x) (sym (happened_is what l)) now
happens (Err x) parent p q r i j os ns what rs a beside e f h = tt

-- ---- what goes on

pub answered_goes : (given : Holders) (IsGood : SourceTexts → Type 0) (a b : LentValue) (q : Slots) →
    IsAnswered given IsGood a.pool q b.pool a.instance b.instance (map connection_shown a.connections) (map connection_shown b.connections) →
    b.parent ≡ a.parent → length b.connections ≡ length a.connections → GoesOn a b
answered_goes given IsGood a b q x same count =
    let vs = map connection_shown a.connections in
    let ws = map connection_shown b.connections in
    record {
      parent = same;
      moves = answered_moves given IsGood a.pool q b.pool a.instance b.instance vs ws x;
      kept = answered_kept given IsGood a.pool q b.pool a.instance b.instance vs ws x
          (omega (
            arith,
            count,
            few_connections a.pool (lent_slots a) x.kept,
            length-map a.connections connection_shown,
            length-map b.connections connection_shown,
          ));
    }

-- nothing is given for want of memory
pub refused_goes : (a : LentValue) (q : Slots) (j : InstanceSlots) → IsKept a →
    Moves a.pool q (holders_of_instance a.instance) (λ k. holders_of_instance j k + no_holders k) → IsInstanceWithin (state_in q j) →
    GoesOn a (record a { pool = q; instance = j })
refused_goes a q j kept moves within =
    answered_goes no_holders (λ texts. Unit {0}) a (record a { pool = q; instance = j }) q (record {
      kept = kept;
      moves = moves;
      takes = take_none no_holders (λ texts. Unit {0}) q (map connection_shown a.connections) (λ k. refl);
      within = within;
      good = tt;
    }) refl refl
