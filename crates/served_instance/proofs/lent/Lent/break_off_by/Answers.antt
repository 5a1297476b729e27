use Rattle.std.proofs.Common.{refl, sym, ap, length, subst, arith}
use Rattle.served_instance.specs.declared.broken.Broken.{Broken}
use Rattle.served_instance.specs.declared.broken.Broken.TheVariants.{One, All}
use Rattle.served_instance.specs.Cuts.{LosesBroken}
use Rattle.served_instance.specs.Lent.{lent_slots, lent_value}
use Rattle.served_instance.proofs.Cut.{finds_here}
use Rattle.served_instance.proofs.Kept.{instance_kept}
use Rattle.served_instance.proofs.Lends.{goes_here, gone_lost, job_lost, ranges_counted}
use Rattle.served_instance.proofs.Turning.{admitted_goes, with_instance}
use Rattle.served_instance.proofs.lent.Lent.break_off_by.Goals as goal

pub break_off-requires : goal.break_off-requires
break_off-requires c = ranges_counted (lent_value c.args.self.now) c.requires

pub break_off_all-requires : goal.break_off_all-requires
break_off_all-requires c = ranges_counted (lent_value c.args.self.now) c.requires

pub returns-in-Nothing-clause-lost : goal.returns-in-Nothing-clause-lost
returns-in-Nothing-clause-lost c =
    let a = lent_value c.args.self.now in
    subst (λ (x : Broken). LosesBroken x a a) (sym c.in-Nothing.is)
    (record { left = refl; forgotten = refl; finds = finds_here a.pool a.connections; goes = goes_here a c.requires })

pub returns-in-One-clause-lost : goal.returns-in-One-clause-lost
returns-in-One-clause-lost c =
    let a = lent_value c.args.self.now in
    let b = lent_value c.break_off.new.self in
    subst (λ (x : Broken). LosesBroken x a b) (sym c.in-One.is)
    (gone_lost (One c.in-One.number) a b c.break_off.ensures.gone c.break_off.ensures.fewer c.break_off.ensures.left
    c.break_off.ensures.forgotten c.requires)

pub returns-in-All-clause-lost : goal.returns-in-All-clause-lost
returns-in-All-clause-lost c =
    let a = lent_value c.args.self.now in
    let b = lent_value c.break_off_all.new.self in
    let none = ap length c.break_off_all.ensures.left in
    subst (λ (x : Broken). LosesBroken x a b) (sym c.in-All.is)
    (gone_lost All a b c.break_off_all.ensures.gone (omega (arith, none)) c.break_off_all.ensures.left c.break_off_all.ensures.forgotten
    c.requires)

pub forget_job-requires : goal.forget_job-requires
forget_job-requires c =
    let a = lent_value c.args.self.now in
    let b = lent_value c.break_off_all-in-AllAndJob.new.self in
    let all = c.break_off_all-in-AllAndJob.ensures in
    let none = ap length all.left in
    let lost = gone_lost All a b all.gone (omega (arith, none)) all.left all.forgotten c.requires in
    let here = lent_slots b in
    record { kept = instance_kept b.pool here here refl lost.goes.kept }

pub returns-in-AllAndJob-clause-lost : goal.returns-in-AllAndJob-clause-lost
returns-in-AllAndJob-clause-lost c =
    let a = lent_value c.args.self.now in
    let b = lent_value c.break_off_all-in-AllAndJob.new.self in
    let all = c.break_off_all-in-AllAndJob.ensures in
    let none = ap length all.left in
    let lost = gone_lost All a b all.gone (omega (arith, none)) all.left all.forgotten c.requires in
    let q = c.forget_job.new.pool in
    let j = c.forget_job.new.self in
    let d = with_instance b q j in
    subst (λ (x : Broken). LosesBroken x a d) (sym c.in-AllAndJob.is)
    (job_lost c.in-AllAndJob.job a b d lost refl c.forget_job.ensures.changed
    (admitted_goes b q j lost.goes.kept c.forget_job.ensures.moves c.forget_job.ensures.kept.within))
