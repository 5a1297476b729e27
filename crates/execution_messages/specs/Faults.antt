-- The code (gRPC, "Status codes and their use in gRPC") and the text of each fault.
use Rattle.std.specs.Prelude.{ℕ, List, codes}
use Rattle.execution_messages.specs.declared.fault.Fault.{Fault}
use Rattle.execution_messages.specs.declared.fault.Fault.TheVariants.{BadAction, BadCommand, MissingBlobs, BadDirectory, TreeTooLarge, QuotaExceeded, TimedOut, RunFailed}

abbrev pub code_of : Fault → ℕ
code_of BadAction = 3
code_of BadCommand = 3
code_of MissingBlobs = 9
code_of BadDirectory = 3
code_of TreeTooLarge = 8
code_of QuotaExceeded = 8
code_of TimedOut = 4
code_of RunFailed = 13

abbrev pub text_of : Fault → List ℕ
text_of BadAction = codes "bad action"
text_of BadCommand = codes "bad command"
text_of MissingBlobs = codes "missing blobs"
text_of BadDirectory = codes "bad directory"
text_of TreeTooLarge = codes "tree too large"
text_of QuotaExceeded = codes "quota exceeded"
text_of TimedOut = codes "timed out"
text_of RunFailed = codes "run failed"
