use Rattle.run_programs.specs.Spawning.{StartsItself}
use Rattle.run_programs.specs.Ways.{is_of, sought_of, sought_shown}
use Rattle.run_programs.proofs.Known.{answered}
use Rattle.run_programs.proofs.Looking.{none_added}
use Rattle.run_programs.proofs.Starts.{since_found}
use Rattle.run_programs.proofs.programs.Table.ask.Goals as goal

pub returns-in_err-go_on-in-Some-clause-sought : goal.returns-in_err-go_on-in-Some-clause-sought
returns-in_err-go_on-in-Some-clause-sought g c = none_added (is_of c.args.run)
    (sought_shown c.in-Some.sought) (sought_of c.args.self.now.way) (sought_of c.take.new.self)
    (sought_of c.go_on.new.self.way) c.in-Some.ensures.taken c.in-Some.ensures.left
    c.in_err-go_on-in-Some.ensures.sought

pub returns-in_ok-go_on-in-Some-clause-starts : goal.returns-in_ok-go_on-in-Some-clause-starts
returns-in_ok-go_on-in-Some-clause-starts g c = since_found
    (λ directory command. StartsItself c.args.self.now.has_sessions directory command)
    (sought_shown c.in-Some.sought) _ _ _ c.in-Some.ensures.taken
    c.in_ok-go_on-in-Some.ensures.starts

pub returns-in_ok-go_on-in-Some-clause-sought : goal.returns-in_ok-go_on-in-Some-clause-sought
returns-in_ok-go_on-in-Some-clause-sought g c = none_added (is_of c.args.run)
    (sought_shown c.in-Some.sought) (sought_of c.args.self.now.way) (sought_of c.take.new.self)
    (sought_of c.go_on.new.self.way) c.in-Some.ensures.taken c.in-Some.ensures.left
    c.in_ok-go_on-in-Some.ensures.sought

pub returns-in_ok-at-in-None-clause-ended : goal.returns-in_ok-at-in-None-clause-ended
returns-in_ok-at-in-None-clause-ended g c = answered g.S.Child.Child.ended c.args.run
    c.deref.result.now c.args.self.now.started.items c.in_ok-at-in-None.at c.index_mut.result.now c.ask.new.self
    c.ask.result c.deref.ensures.value c.in_ok-at-in-None.ensures.within
    c.in_ok-at-in-None.ensures.own c.index_mut.ensures.value c.ask.ensures.run c.ask.ensures.ended
