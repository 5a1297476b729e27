-- Answers of the code as plain values.
use Rattle.std.specs.Prelude.{Result, Ok, Err}
use Rattle.std.specs.declared.alloc.AllocError.{AllocError}
use Rattle.blob_pool.specs.Moves.{Holders, no_holders}
use Rattle.execution.specs.declared.job.Job.{Job}
use Rattle.execution.specs.declared.answer.ExecuteAnswer as Code
use Rattle.execution.specs.declared.answer.ExecuteAnswer.TheVariants.{Done, Queued}
use Rattle.execution.specs.declared.answer.WaitAnswer as Wait
use Rattle.execution.specs.declared.answer.WaitAnswer.TheVariants.{HasTold, Watches}
use Rattle.execution.specs.Execute.{ExecuteAnswer, done, queued}
use Rattle.execution.specs.Waiting.{WaitAnswer, has_told, watches}
use Rattle.execution.specs.InPool.{job_holders}

abbrev pub answer_shown : Code.ExecuteAnswer → ExecuteAnswer
answer_shown (Done operation) = done operation.value.items
answer_shown (Queued number operation) = queued number operation.items

abbrev pub wait_shown : Wait.WaitAnswer → WaitAnswer
wait_shown (HasTold operation) = has_told operation.value.items
wait_shown (Watches number operation) = watches number operation.items

-- a job that could not be made holds nothing
abbrev pub made_holders : Result Job AllocError → Holders
made_holders (Ok job) = job_holders job
made_holders (Err e) = no_holders
