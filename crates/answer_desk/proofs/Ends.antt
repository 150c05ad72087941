-- What a run that ends without an answer ends with: a read fault with its cause, or want of memory.
use Rattle.std.proofs.Common.{◌≡◌, ◌≢◌, ◌⊎◌, true, false, inl, inr, sym, ap, ◌∙◌}
use Rattle.command_answers.specs.declared.status.Status.{Status}
use Rattle.command_answers.specs.declared.status.Status.TheVariants.{Optimal, Open, ReadFault, WriteFault, NoMemory}
use Rattle.command_answers.specs.Status.{is_own, NeedsWholeInput, IsYielded}

-- what the end of a run without an answer is
abbrev pub IsEnd : Status → Type 0 → Type 0
IsEnd status Cause = (status ≡ NoMemory) ⊎ ((status ≡ ReadFault) × Cause)

pub end_is_yielded : (result status : Status) (Cause : Type 0) → IsEnd result Cause → IsYielded result status
end_is_yielded result status Cause (inl none) = inr (inr (inr none))
end_is_yielded result status Cause (inr fault) = inr (inl fault.0)

-- and no answer
pub end_is_no_answer : {X : Type 0} (result status : Status) (Cause : Type 0) → result ≡ status → (status ≢ ReadFault) × ((status ≢ WriteFault) × (status ≢ NoMemory)) → IsEnd result Cause → X
end_is_no_answer result status Cause is not (inl none) = absurd (not.1.1 (sym is ∙ none))
end_is_no_answer result status Cause is not (inr fault) = absurd (not.0 (sym is ∙ fault.0))

pub end_needs_no_input : {X : Type 0} (result : Status) (Cause : Type 0) → IsEnd result Cause → NeedsWholeInput result → X
end_needs_no_input result Cause (inl none) (inl e) = absurd (cc)
end_needs_no_input result Cause (inl none) (inr e) = absurd (let both : true ≡ false = sym e ∙ ap is_own none in cc)
end_needs_no_input result Cause (inr fault) (inl e) = let is = fault.0 in absurd (cc)
end_needs_no_input result Cause (inr fault) (inr e) = absurd (let both : true ≡ false = sym e ∙ ap is_own fault.0 in cc)

pub write_fault_needs_no_input : {X : Type 0} → NeedsWholeInput WriteFault → X
write_fault_needs_no_input (inl e) = absurd (cc)
write_fault_needs_no_input (inr e) = absurd (cc)

pub end_is_fault_or_none : (result : Status) (Cause : Type 0) → IsEnd result Cause → (result ≡ ReadFault) ⊎ (result ≡ NoMemory)
end_is_fault_or_none result Cause (inl none) = inr none
end_is_fault_or_none result Cause (inr fault) = inl fault.0

-- the cause of a read fault
pub cause_of_end : (result : Status) (Cause : Type 0) → IsEnd result Cause → result ≡ ReadFault → Cause
cause_of_end result Cause (inl none) is = let both : NoMemory ≡ ReadFault = sym none ∙ is in absurd (cc)
cause_of_end result Cause (inr fault) is = fault.1

pub end_is_no_verdict : {X : Type 0} (result : Status) (Cause : Type 0) → IsEnd result Cause → (result ≡ Optimal) ⊎ (result ≡ Open) → X
end_is_no_verdict result Cause (inl none) (inl e) = absurd (cc)
end_is_no_verdict result Cause (inl none) (inr e) = absurd (cc)
end_is_no_verdict result Cause (inr fault) (inl e) = let is = fault.0 in absurd (cc)
end_is_no_verdict result Cause (inr fault) (inr e) = let is = fault.0 in absurd (cc)

-- without a cause, the end is want of memory
pub end_without_cause : (result : Status) (Cause : Type 0) → (Cause → ⊥) → IsEnd result Cause → result ≡ NoMemory
end_without_cause result Cause not (inl none) = none
end_without_cause result Cause not (inr fault) = absurd (not fault.1)

-- an answer is neither of the two ends without one
pub answer_is_no_end : {X : Type 0} {status : Status} → (status ≢ ReadFault) × ((status ≢ WriteFault) × (status ≢ NoMemory)) → (status ≡ ReadFault) ⊎ (status ≡ NoMemory) → X
answer_is_no_end none (inl e) = absurd (none.0 e)
answer_is_no_end none (inr e) = absurd (none.1.1 e)

pub no_memory_is_no_fault : {status : Status} → status ≡ NoMemory → (status ≢ ReadFault) × (status ≢ WriteFault)
no_memory_is_no_fault is = (λ e. cc, λ e. cc)
