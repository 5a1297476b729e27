use Rattle.run_folders.proofs.BelowFolder.{goes_on, is_elsewhere, is_itself, of_both}
use Rattle.run_folders.proofs.behind.is_below.Goals as goal

pub returns-in-Some-empty : goal.returns-in-Some-empty
returns-in-Some-empty c = of_both _ _ _ _ _ c.as_bytes-2.ensures.value c.as_bytes.ensures.value
    (is_itself c.as_bytes-2.result.now c.as_bytes.result.now c.in-Some-empty.field-0.now
    c.in-Some-empty.ensures.cases.0 c.in-Some-empty.ensures.cases.1 c.in-Some-empty.len_below)

pub returns-in-Some-len1-up : goal.returns-in-Some-len1-up
returns-in-Some-len1-up c = of_both _ _ _ _ _ c.as_bytes-2.ensures.value c.as_bytes.ensures.value
    (goes_on c.as_bytes-2.result.now c.as_bytes.result.now c.in-Some-len1-up.field-0.now
    c.in-Some-len1-up.ensures.cases.0 c.in-Some-len1-up.ensures.cases.1
    c.in-Some-len1-up.len_at_least)

pub returns-in-None : goal.returns-in-None
returns-in-None c = of_both _ _ _ _ _ c.as_bytes-2.ensures.value c.as_bytes.ensures.value
    (is_elsewhere c.as_bytes-2.result.now c.as_bytes.result.now c.in-None.ensures.cases)
