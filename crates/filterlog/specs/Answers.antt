-- How answers are printed.
use Rattle.std.specs.Prelude.{ℕ, ◌+◌, Bool, true, false, List, [], ◌∷◌, ◌++◌, Some, None, Ok, Err, Option, Result, codes}
use Rattle.std.specs.Fmt.{decimal}
use Rattle.std.specs.List.{join_by}
use Rattle.blocks.specs.declared.Quotient.{Quotient}
use Rattle.filter.specs.declared.fault.FilterFault.{FilterFault}
use Rattle.console.specs.Texts.{blocks_text, refusal_text}
use Rattle.filterlog.specs.declared.answers.Answer.{Answer}
use Rattle.filterlog.specs.declared.answers.Answer.TheVariants.{Refused, Found, Held, Entry, Words, List as Listed}

-- a line with its end
abbrev pub line_text : List ℕ → List ℕ
line_text text = text ++ (10 ∷ [])

-- whether an entry has the fingerprint
abbrev pub whether_text : Bool → List ℕ
whether_text true = line_text (codes "yes")
whether_text false = line_text (codes "no")

-- the quotient and the remainder of a slot's entry
abbrev pub entry_text : Option (Quotient × ℕ) → List ℕ
entry_text (Some p) = decimal p.0.0 ++ (32 ∷ line_text (decimal p.1))
entry_text None = line_text (codes "free")

-- fingerprints with a space between two
abbrev pub list_text : List ℕ → List ℕ
list_text ps = line_text (join_by decimal (32 ∷ []) ps)

-- an edit, done or refused
abbrev pub edit_text : Result (Unit {0}) FilterFault → List ℕ
edit_text (Ok done) = line_text (codes "ok")
edit_text (Err e) = line_text (refusal_text e)

-- whether an entry has a fingerprint, or that it is none under the plan
abbrev pub has_text : Result Bool FilterFault → List ℕ
has_text (Ok there) = whether_text there
has_text (Err e) = line_text (refusal_text e)

-- an answer, each line of it with its end
abbrev pub answer_text : Answer → List ℕ
answer_text (Refused e) = line_text (refusal_text e)
answer_text (Found there) = whether_text there
answer_text (Held n) = line_text (decimal n)
answer_text (Entry e) = entry_text e
answer_text (Words b) = blocks_text (b.plan.r + 3) b.words.now
answer_text (Listed v) = list_text v.items
