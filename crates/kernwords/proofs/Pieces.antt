-- Names and numbers that are written one after the other.
use Rattle.std.proofs.Common.{◌≡◌, ℕ, List, [], ◌∷◌, ◌++◌, Option, Err, Result, codes, decimal, ap, subst, ◌∙◌, append_assoc}
use Rattle.std.specs.Io.KnownBytes.{Appends}
use Rattle.answers.specs.Faults.{refusal_number}
use Rattle.batch.specs.Reports.{refused_line_text}
use Rattle.batch.specs.declared.lines.RefusedLine.{RefusedLine}
use Rattle.console.specs.declared.fault.Fault.{Fault}
use Rattle.console.specs.Sending.{Sent}
use Rattle.console.proofs.Sendings.{sent_after, sent_short}

named : (name ds rest : List ℕ) (end : ℕ) → (name ++ (ds ++ (end ∷ []))) ++ rest ≡ name ++ (ds ++ (end ∷ rest))
named name ds rest end = append_assoc name (ds ++ (end ∷ [])) rest ∙ ap (λ xs. name ++ xs) (append_assoc ds (end ∷ []) rest)

-- a text is sent after a name, a number and a byte
pub named_more : (o p q : Option (List ℕ)) (name ds rest : List ℕ) (end : ℕ) (result : Result (Unit {0}) Fault)
    → Appends o p (name ++ (ds ++ (end ∷ []))) → Sent p q rest result → Sent o q (name ++ (ds ++ (end ∷ rest))) result
named_more o p q name ds rest end result s t =
    subst (λ xs. Sent o q xs result) (named name ds rest end) (sent_after o p q (name ++ (ds ++ (end ∷ []))) rest result s t)

-- these are not sent whole
pub named_short : (o p : Option (List ℕ)) (name ds rest : List ℕ) (end : ℕ) (fault : Fault)
    → Sent o p (name ++ (ds ++ (end ∷ []))) (Err fault) → Sent o p (name ++ (ds ++ (end ∷ rest))) (Err fault)
named_short o p name ds rest end fault s =
    subst (λ xs. Sent o p xs (Err fault)) (named name ds rest end) (sent_short o p (name ++ (ds ++ (end ∷ []))) rest fault s)

-- a refused line with its end
pub refused_line_ended : (l : RefusedLine) → refused_line_text l ++ (10 ∷ []) ≡ codes "line " ++ (decimal l.line ++ (32 ∷ (codes "fault " ++ (decimal (refusal_number l.fault) ++ (10 ∷ [])))))
refused_line_ended l = ap (λ xs. codes "line " ++ xs) (append_assoc (decimal l.line) (codes " fault " ++ decimal (refusal_number l.fault)) (10 ∷ []))
