-- What holds of a run holds of what it gives.
use Rattle.std.proofs.Common.{◌≡◌, ℕ, ◌+◌, ◌<◌, ◌^◌, List, [], ◌∷◌, sym, ap, ◌∙◌, subst}
use Rattle.std.specs.Prelude.{suc, fold, map, Option, Some, None}
use Rattle.std.specs.List.{AllByRecursion}
use Rattle.instance_core.specs.Visible.{Blob}
use Rattle.server_events.specs.Events.{LoneEvent, WhatValue, opened, received, took, closed, tick, ended}
use Rattle.execution.specs.Orders.{OrderValue}
use Rattle.instance_core.specs.Calls.{tick as time_passes, start_jobs, end_late_jobs, end_job}
use Rattle.instance_core.specs.Jobs.{IsWholeOrder}
use Rattle.instance_core.specs.State.{InstanceState, LimitsValue, at_moment}
use Rattle.instance_core.proofs.OrderTexts.{orders_whole}
use Rattle.served_instance.specs.declared.refusal.EventRefusal.{EventRefusal}
use Rattle.served_instance.specs.Connections.{LoneConnection}
use Rattle.served_instance.specs.Lone.{LoneInstance, after_call_event, after_bytes_on, orders_of_what, lone_at_moment}
use Rattle.served_instance.specs.Narrow.{IsNarrow}
use Rattle.served_instance.specs.Refusals.{refusal_of, orders_unless, lone_orders}
use Rattle.served_instance.proofs.LimitsKept.{AreNamed, KeepsLimits, happened_keeps, bytes_keep, moment_within, seeing_within}
use Rattle.server_core.specs.Families.{Family, FamilyEvent, AreLimited, own_event, parent_event, event_in}
use Rattle.server_core.specs.Runs.{Run, FamilyRun, new_family_run, texts_of_parent, orders_at, family_step, run_of_family}
use Rattle.server_core.proofs.Limits.{FamilyKeeps, named_beside, new_family_keeps, step_keeps}
use Rattle.client_reading.proofs.Choices.{all_append}
use Rattle.grpc_sending.specs.Owed.{Item}
use Rattle.client_reading.specs.Responses.{IsItemWithin, IsTakable, IsBeginning, stream_parts, response_of}
use Rattle.client_reading.specs.Reads.{IsReadByClient}
use Rattle.client_reading.proofs.Pasts.{past_read}
use Rattle.run_reading.proofs.Connections.{HasPast}
use Rattle.run_reading.proofs.Chosen.{limits_fold}
use Rattle.run_reading.specs.Replies.{GivenItems, state_after_happening, items_on, longest_message, ReadsText, AreConnectionsRead, new_instance_of, run_happenings, run_given_items}
use Rattle.instance_core.specs.NamedReplies.{ServesNamed}
use Rattle.run_reading.specs.Named.{run_answered_events, GivesNamed}
use Rattle.run_reading.proofs.Owes.{OwedFrom}
use Rattle.run_reading.proofs.Named.{IsShortHappening, all_named, all_gifts}
use Rattle.run_reading.proofs.Lengths.{AreWithin, given_within, items_within, all_takable, longest_fits}
use Rattle.run_reading.proofs.Texts.{run_reads}
use Rattle.run_reading.proofs.Happens.{Holds, run_moves, first_holds}

all_read : (window place : ℕ) (gs : List GivenItems) (ks : List LoneConnection) → window < 2 ^ 31 → AreWithin gs → OwedFrom place gs ks →
    AllByRecursion (HasPast window) ks → AllByRecursion (λ (k : LoneConnection). ReadsText k.past) ks →
    AreConnectionsRead window place gs ks
all_read window place gs [] most short owed made text = tt
all_read window place gs (k ∷ ks) most short owed made text =
    let reads : IsReadByClient window k.past = past_read window k.past most made.0 in
    let takable : IsTakable longest_message k.past.owed =
    all_takable k.past.owed (λ s. subst (AllByRecursion (IsItemWithin longest_message)) (sym (owed.0 s))
    (items_within place s gs short)) in
    let responses : (s : ℕ) → IsBeginning longest_message (stream_parts k.past.history s) (response_of (items_on place s gs)) = λ s.
    subst (λ (is : List Item). IsBeginning longest_message (stream_parts k.past.history s) (response_of is)) (owed.0 s)
    (reads.responses longest_message longest_fits takable s)
    in (
      record { made = made.0; text = text.0; reads = reads; owed = owed.0; responses = responses },
      all_read window (suc place) gs ks most short owed.1 made.1 text.1,
    )

run_holds : (family : Family) (events : List FamilyEvent) → Holds (run_given_items family events) (run_of_family family events).own.lone
run_holds family events = (run_moves (new_family_run family) events).holds []
    (first_holds family.own.name family.own.quota family.own.slots family.own.limits)

run_short : (family : Family) (events : List FamilyEvent) → AreLimited family → AllByRecursion IsNarrow (map event_in events) →
    AllByRecursion IsShortHappening (run_happenings family events)
run_short family events limited narrow =
    (run_moves (new_family_run family) events).short (new_family_keeps family limited, narrow) []
    (first_holds family.own.name family.own.quota family.own.slots family.own.limits)

pub state_is : (family : Family) (events : List FamilyEvent) →
    (run_of_family family events).own.lone.state ≡ fold state_after_happening (new_instance_of family.own) (run_happenings family events)
state_is family events = (run_moves (new_family_run family) events).state

pub replies_read : (family : Family) (events : List FamilyEvent) → AreLimited family → AllByRecursion IsNarrow (map event_in events)
    → AreConnectionsRead family.own.limits.window 0 (run_given_items family events) (run_of_family family events).own.lone.connections
replies_read family events limited narrow =
    let h = run_holds family events in
    let short : AreWithin (run_given_items family events) =
    given_within (new_instance_of family.own) (run_happenings family events) (run_short family events limited narrow)
    (new_family_keeps family limited).own.within in
    let window : ℕ = family.own.limits.window in
    let same : (run_of_family family events).own.lone.state.limits.window ≡ window =
    ap (λ (s : InstanceState). s.limits.window) (state_is family events)
    ∙ ap (λ (limits : LimitsValue). limits.window) (limits_fold (run_happenings family events) (new_instance_of family.own)) in
    let pasts : AllByRecursion (HasPast window) (run_of_family family events).own.lone.connections =
    subst (λ (n : ℕ). AllByRecursion (HasPast n) (run_of_family family events).own.lone.connections) same h.pasts in
    all_read window 0 (run_given_items family events)
    (run_of_family family events).own.lone.connections limited.own.limits.most short h.owes.owed pasts
    (run_reads (new_family_run family) events tt)

pub run_named : (family : Family) (events : List FamilyEvent) → AreLimited family → AllByRecursion IsNarrow (map event_in events)
    → AllByRecursion ServesNamed (run_answered_events family events)
run_named family events limited narrow = all_named (new_instance_of family.own) (run_happenings family events)
    (run_short family events limited narrow) (new_family_keeps family limited).own.within

pub run_gives_named : (family : Family) (events : List FamilyEvent) → AreLimited family → AllByRecursion IsNarrow (map event_in events)
    → AllByRecursion GivesNamed (run_given_items family events)
run_gives_named family events limited narrow =
    all_gifts (new_instance_of family.own) (run_happenings family events) (run_short family events limited narrow)
    (new_family_keeps family limited).own.within

-- ---- what is ordered

abbrev AreWholeOrders : List (ℕ × OrderValue) → Type 0
AreWholeOrders os = AllByRecursion (λ (o : ℕ × OrderValue). IsWholeOrder o.1) os

what_whole : (w : WhatValue) (l : LoneInstance) → KeepsLimits l → AllByRecursion IsWholeOrder (orders_of_what w l)
what_whole (opened c) l h = tt
what_whole (received c bytes) l h = orders_whole (after_bytes_on c bytes l).state start_jobs (bytes_keep c bytes l h).within
what_whole (took c n) l h = tt
what_whole (closed c) l h = tt
what_whole tick l h = orders_whole (after_call_event time_passes l).state end_late_jobs (happened_keeps time_passes l tt h).within
what_whole (ended job outcome) l h = orders_whole l.state (end_job job outcome) h.within

unless_whole : (parent : List Blob) (e : LoneEvent) (l : LoneInstance) (o : Option EventRefusal) → AreNamed parent → KeepsLimits l →
    AllByRecursion IsWholeOrder (orders_unless parent e l o)
unless_whole parent e l None named h =
    what_whole e.what (lone_at_moment e.moment parent l)
    (record {
      within = seeing_within parent (at_moment e.moment l.state) named (moment_within e.moment l.state h.within);
      short =
          h.short;
    })
unless_whole parent e l (Some refusal) named h = tt

placed_whole : (place : ℕ) (os : List OrderValue) → AllByRecursion IsWholeOrder os → AreWholeOrders (orders_at place os)
placed_whole place [] h = tt
placed_whole place (o ∷ os) h = (h.0, placed_whole place os h.1)

more_whole : (f : FamilyRun) (es : List FamilyEvent) → AllByRecursion IsNarrow (map event_in es) → FamilyKeeps f →
    AreWholeOrders f.own.orders → AreWholeOrders (fold family_step f es).own.orders
more_whole f [] narrow h so_far = so_far
more_whole f (own_event e ∷ es) narrow h so_far =
    let parent : List Blob = texts_of_parent f.parent in
    let r : Run = f.own in
    let here : List OrderValue = lone_orders parent e r.lone in
    let whole : AllByRecursion IsWholeOrder here =
    unless_whole parent e r.lone (refusal_of e r.lone) (named_beside f.parent h.beside) h.own in
    more_whole (family_step f (own_event e)) es narrow.1 (step_keeps f (own_event e) narrow.0 h)
    (all_append (λ (o : ℕ × OrderValue). IsWholeOrder o.1) r.orders (orders_at (r.count + 1) here) so_far
    (placed_whole (r.count + 1) here whole))
more_whole f (parent_event e ∷ es) narrow h so_far =
    more_whole (family_step f (parent_event e)) es narrow.1 (step_keeps f (parent_event e) narrow.0 h) so_far

pub run_orders_whole : (family : Family) (events : List FamilyEvent) → AreLimited family → AllByRecursion IsNarrow (map event_in events)
    → AllByRecursion (λ (o : ℕ × OrderValue). IsWholeOrder o.1) (run_of_family family events).own.orders
run_orders_whole family events limited narrow = more_whole (new_family_run family) events narrow (new_family_keeps family limited) tt
