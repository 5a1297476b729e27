use Rattle.std.proofs.Common.{lit<}
use Rattle.std.proofs.lemmas.Str.Pattern.{split_once_first}
use Rattle.run_folders.proofs.SegmentLemmas.{segments_of-cut, segments_of-last}
use Rattle.run_folders.proofs.segments.first_segment.Goals as goal

pub returns-in-Some : goal.returns-in-Some
returns-in-Some c =
    let (within, front, back) = rw c.in-Some.is at
    (split_once_first 47 c.args.text.now c.split_once.result c.split_once.ensures.cases (lit< tt)) in
    segments_of-cut c.args.text.now c.in-Some.segment.now c.in-Some.rest.now within front back

pub returns-in-None : goal.returns-in-None
returns-in-None c =
    let none = rw c.in-None.is at (split_once_first 47 c.args.text.now c.split_once.result c.split_once.ensures.cases (lit< tt)) in
    segments_of-last c.args.text.now none
