use Rattle.std.proofs.Common.{◌≡◌, ◌<◌, ◌≤◌, length, get_or, refl, ap, sym, ◌∙◌, arith}
use Rattle.std.specs.List.{remove}
use Rattle.job_queue.specs.Codes.{place_of}
use Rattle.job_queue.proofs.Places.{lookup-past, remove_entry-past, lookup-there, remove-there}
use Rattle.job_queue.proofs.queue.take_out.Goals as goal

pub returns-then-place-len-clause-job : goal.returns-then-place-len-clause-job
returns-then-place-len-clause-job g c =
    let n = c.args.number in
    let seen = c.deref.result.now in
    let past : length seen ≤ place_of n seen = omega (arith, c.deref.ensures.len) in
    let none = lookup-past n seen past in
    rw (rw c.deref.ensures.value at none) refl

pub returns-then-place-len-clause-left : goal.returns-then-place-len-clause-left
returns-then-place-len-clause-left g c =
    let n = c.args.number in
    let seen = c.deref.result.now in
    let past : length seen ≤ place_of n seen = omega (arith, c.deref.ensures.len) in
    sym (rw c.deref.ensures.value at (remove_entry-past n seen past))

pub returns-clause-job : goal.returns-clause-job
returns-clause-job g c =
    let n = c.args.number in
    let es = c.args.running.now.items in
    let seen = c.deref.result.now in
    let there : place_of n seen < length seen = omega (arith, c.deref.ensures.len) in
    let found = c.remove-found.result in
    let place : c.place_of-place.result ≡ place_of n es = rw c.deref.ensures.value at c.place_of-place.ensures in
    let is : found ≡ get_or es (place_of n es) found = rw place at c.remove-found.ensures.value in
    let looked = rw c.deref.ensures.value at (lookup-there n seen found there) in
    rw looked (rw (← is) refl)

pub returns-clause-left : goal.returns-clause-left
returns-clause-left g c =
    let n = c.args.number in
    let es = c.args.running.now.items in
    let seen = c.deref.result.now in
    let there : place_of n seen < length seen = omega (arith, c.deref.ensures.len) in
    let place : c.place_of-place.result ≡ place_of n es = rw c.deref.ensures.value at c.place_of-place.ensures in
    let removed = rw c.deref.ensures.value at (remove-there n seen there) in
    c.remove-found.ensures.items ∙ ap (remove es) place ∙ removed
