use Rattle.grpc_calls.proofs.Heads.{calls, method_fault, type_fault, path_fault}
use Rattle.grpc_calls.proofs.laws.the_head_says_which_call.Goals as goal

pub returns-clause-call : goal.returns-clause-call
returns-clause-call c = calls

pub returns-clause-method : goal.returns-clause-method
returns-clause-method c = method_fault

pub returns-clause-content_type : goal.returns-clause-content_type
returns-clause-content_type c = type_fault

pub returns-clause-path : goal.returns-clause-path
returns-clause-path c = path_fault
