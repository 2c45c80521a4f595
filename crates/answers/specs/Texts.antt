-- What is written in answer to a line.
use Rattle.std.specs.Prelude.{◌≡◌, ℕ, ◌<◌, ◌≤◌, List, [], ◌∷◌, ◌++◌, length, drop, Ok, Err, codes, decimal, Result}
use Rattle.std.specs.Fmt.{signed_decimal}
use Rattle.history.specs.Texts.{value_told_text}
use Rattle.answers.specs.Faults.{refusal_number}
use Rattle.answers.specs.declared.done.Done.{Done}
use Rattle.answers.specs.declared.done.Done.TheVariants.{Kern, Ligature}
use Rattle.answers.specs.declared.fault.BufferFault.{BufferFault}
use Rattle.answers.specs.declared.fault.BufferFault.TheVariants.{ShortBuffer}
use Rattle.answers.specs.declared.fault.Refusal.{Refusal}

-- what a line is answered: what it did, or the number of its refusal
abbrev pub text_for : Result Done Refusal → List ℕ
text_for (Ok (Kern told)) = value_told_text signed_decimal told
text_for (Ok (Ligature told)) = value_told_text decimal told
text_for (Err f) = codes "fault " ++ decimal (refusal_number f)

-- the line's number, a space, what it is answered and byte 10
abbrev pub answer_line : ℕ → Result Done Refusal → List ℕ
answer_line number reply = ((decimal number ++ codes " ") ++ text_for reply) ++ (10 ∷ [])

-- the buffer before and after an answer is written, and what is told of it
abbrev pub AnswerWritten : ℕ → Result Done Refusal → List ℕ → List ℕ → Result ℕ BufferFault → Type 0
AnswerWritten number reply before after (Ok n) =
    (32 ≤ length before) × (n ≡ length (answer_line number reply)) × (n ≤ 32) × (after ≡ answer_line number reply ++ drop n before)
AnswerWritten number reply before after (Err ShortBuffer) = (length before < 32) × (after ≡ before)
