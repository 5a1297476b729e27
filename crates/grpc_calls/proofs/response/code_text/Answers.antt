use Rattle.std.proofs.Common.{◌∷◌, [], refl, arith}
use Rattle.std.specs.Fmt.{digits}
use Rattle.grpc_calls.proofs.Blocks.{decimal_of}
use Rattle.grpc_calls.proofs.response.code_text.Goals as goal

pub returns-in-0 : goal.returns-in-0
unfolding digits
returns-in-0 c = decimal_of c.args.code 0 (48 ∷ []) (omega arith) refl

pub returns-in-1 : goal.returns-in-1
unfolding digits
returns-in-1 c = decimal_of c.args.code 1 (49 ∷ []) (omega arith) refl

pub returns-in-2 : goal.returns-in-2
unfolding digits
returns-in-2 c = decimal_of c.args.code 2 (50 ∷ []) (omega arith) refl

pub returns-in-3 : goal.returns-in-3
unfolding digits
returns-in-3 c = decimal_of c.args.code 3 (51 ∷ []) (omega arith) refl

pub returns-in-4 : goal.returns-in-4
unfolding digits
returns-in-4 c = decimal_of c.args.code 4 (52 ∷ []) (omega arith) refl

pub returns-in-5 : goal.returns-in-5
unfolding digits
returns-in-5 c = decimal_of c.args.code 5 (53 ∷ []) (omega arith) refl

pub returns-in-6 : goal.returns-in-6
unfolding digits
returns-in-6 c = decimal_of c.args.code 6 (54 ∷ []) (omega arith) refl

pub returns-in-7 : goal.returns-in-7
unfolding digits
returns-in-7 c = decimal_of c.args.code 7 (55 ∷ []) (omega arith) refl

pub returns-in-8 : goal.returns-in-8
unfolding digits
returns-in-8 c = decimal_of c.args.code 8 (56 ∷ []) (omega arith) refl

pub returns-in-9 : goal.returns-in-9
unfolding digits
returns-in-9 c = decimal_of c.args.code 9 (57 ∷ []) (omega arith) refl

pub returns-in-10 : goal.returns-in-10
unfolding digits
returns-in-10 c = decimal_of c.args.code 10 (49 ∷ 48 ∷ []) (omega arith) refl

pub returns-in-11 : goal.returns-in-11
unfolding digits
returns-in-11 c = decimal_of c.args.code 11 (49 ∷ 49 ∷ []) (omega arith) refl

pub returns-in-12 : goal.returns-in-12
unfolding digits
returns-in-12 c = decimal_of c.args.code 12 (49 ∷ 50 ∷ []) (omega arith) refl

pub returns-in-13 : goal.returns-in-13
unfolding digits
returns-in-13 c = decimal_of c.args.code 13 (49 ∷ 51 ∷ []) (omega arith) refl

pub returns-in-14 : goal.returns-in-14
unfolding digits
returns-in-14 c = decimal_of c.args.code 14 (49 ∷ 52 ∷ []) (omega arith) refl

pub returns-in-15 : goal.returns-in-15
unfolding digits
returns-in-15 c = decimal_of c.args.code 15 (49 ∷ 53 ∷ []) (omega arith) refl

pub returns-in_default : goal.returns-in_default
unfolding digits
returns-in_default c = decimal_of c.args.code 16 (49 ∷ 54 ∷ []) (omega arith) refl
