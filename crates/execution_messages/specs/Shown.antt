-- Stages and ends of the code as plain values.
use Rattle.std.specs.Prelude.{ℕ, List}
use Rattle.digest.specs.declared.Digest.{Digest}
use Rattle.execution_messages.specs.declared.progress.End.{End}
use Rattle.execution_messages.specs.declared.progress.End.TheVariants.{Finds, Gives, Fails}
use Rattle.execution_messages.specs.declared.progress.ExecutionStage.{ExecutionStage}
use Rattle.execution_messages.specs.declared.progress.ExecutionStage.TheVariants.{Queued, Executing}
use Rattle.execution_messages.specs.Progress.{EndValue, finds, gives, fails, queued_text, executing_text}

abbrev pub end_shown : End → EndValue
end_shown (Finds text) = finds text.items
end_shown (Gives text) = gives text.items
end_shown (Fails fault missing) = fails fault missing.items

abbrev pub unfinished_text : ExecutionStage → ℕ → Digest → List ℕ
unfinished_text Queued number action = queued_text number action
unfinished_text Executing number action = executing_text number action
