-- What ends a command early, where `?` hands on that memory was not found.
use Rattle.std.proofs.Common.{◌≡◌, ◌⊎◌, Result, Ok, Err, inl, sym, subst, ap, ◌∙◌}
use Rattle.std.specs.Result.{IsErrAnd}
use Rattle.std.proofs.lemmas.Result.{err_from_is_err_and}
use Rattle.command_answers.specs.declared.answer.Answer.{Answer}
use Rattle.command_answers.specs.declared.answer.EarlyEnd.{EarlyEnd}
use Rattle.command_answers.specs.declared.answer.EarlyEnd.TheVariants.{Refused, ReadFault, NoMemory}
use Rattle.command_answers.specs.MadeAnswers.{IfRefused, IfAnswer}

-- an error that is known is the whole result
pub is_this_error : {T E : Type 0} (r : Result T E) (e : E) → IsErrAnd r (λ d. d ≡ e) → r ≡ Err e
is_this_error r e is = let found = err_from_is_err_and r is in found.1 ∙ ap Err found.2

-- want of memory is no refusal
pub no_refusal : {T : Type 0} (r : Result T EarlyEnd) (P : Answer → Type 0) → r ≡ Err NoMemory → IfRefused r P
no_refusal {T} r P is = subst (λ z. IfRefused z P) (sym is) tt

-- a refusal that is one of two answers
pub refused_answers : {A : Type 0} (r : Result Answer EarlyEnd) (value : Result A EarlyEnd) (end : EarlyEnd) (P Q : Answer → Type 0)
    → r ≡ Err end → value ≡ Err end → IfRefused value P → IfAnswer r (λ a. P a ⊎ Q a)
refused_answers {A} r value (Refused a) P Q is was k =
    let met : P a = subst (λ z. IfRefused z P) was k in
    subst (λ z. IfAnswer z (λ b. P b ⊎ Q b)) (sym is) (inl met)
refused_answers {A} r value ReadFault P Q is was k = subst (λ z. IfAnswer z (λ b. P b ⊎ Q b)) (sym is) tt
refused_answers {A} r value NoMemory P Q is was k = subst (λ z. IfAnswer z (λ b. P b ⊎ Q b)) (sym is) tt

-- want of memory is no answer
pub no_answer : (r : Result Answer EarlyEnd) (P : Answer → Type 0) → r ≡ Err NoMemory → IfAnswer r P
no_answer r P is = subst (λ z. IfAnswer z P) (sym is) tt

-- a fact of the answer, where it follows from another
pub more_of : (r : Result Answer EarlyEnd) (P Q : Answer → Type 0) → ((a : Answer) → P a → Q a) → IfAnswer r P → IfAnswer r Q
more_of (Ok a) P Q follows p = follows a p
more_of (Err (Refused a)) P Q follows p = follows a p
more_of (Err ReadFault) P Q follows p = tt
more_of (Err NoMemory) P Q follows p = tt
