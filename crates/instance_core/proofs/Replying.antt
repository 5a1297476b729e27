-- What a request was answered, and the reply that is sent.
use Rattle.std.proofs.Common.{◌≡◌, ℕ, Result, Ok, Err, refl, sym, ap, subst, ◌∙◌, arith}
use Rattle.rpc.specs.declared.refusal.Refusal.{Refusal}
use Rattle.blob_pool.specs.Slots.{Slots}
use Rattle.blob_pool.specs.Moves.{Holders, Moves}
use Rattle.cas_service.specs.declared.error.CallError.{CallError}
use Rattle.cas_service.specs.declared.error.CallError.TheVariants.{Refused, NoMemory}
use Rattle.cas_service.specs.Answers.{Answers}
use Rattle.instance_core.specs.declared.answer.Answer.{Answer}
use Rattle.instance_core.specs.Replies.{AnswerValue}
use Rattle.instance_core.specs.Carries.{answer_shown}

-- what holds of an outcome holds of the answer that it is, and the other way round
pub of_answer : (P : Result Answer CallError → Type 0) (o : Result Answer CallError) (x a : Answer) → o ≡ Ok x → x ≡ a → P o → P (Ok a)
of_answer P o x a is same h = subst P (is ∙ ap (λ (y : Answer). Ok y) same) h

pub to_answer : (P : Result Answer CallError → Type 0) (o : Result Answer CallError) (x a : Answer) → o ≡ Ok x → x ≡ a → P (Ok a) → P o
to_answer P o x a is same h = subst P (sym (is ∙ ap (λ (y : Answer). Ok y) same)) h

pub refused_so : (p : Slots) (o : Result Answer CallError) (e : CallError) (refusal : Refusal) (meaning : Result AnswerValue Refusal) →
    o ≡ Err e → e ≡ Refused refusal → Answers (answer_shown p) o meaning → meaning ≡ Err refusal
refused_so p (Ok x) e refusal meaning is same h = absurd cc
refused_so p (Err (Refused other)) e refusal meaning is same h = let w : other ≡ refusal = cc in rw (← w) h
refused_so p (Err NoMemory) e refusal meaning is same h = absurd cc

pub none_moves : (p : Slots) (these those : Holders) → ((k : ℕ) → these k ≡ 0) → ((k : ℕ) → those k ≡ 0) → Moves p p these those
none_moves p these those none gone = record { counts = λ k. let a = none k in let b = gone k in omega arith; texts = λ k less. refl }
