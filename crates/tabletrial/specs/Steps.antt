-- What a step on a table of kerning pairs says and does.
use Rattle.std.specs.Prelude.{◌≡◌, ℕ, List, ◌++◌, ℤ, Some, None, Ok, Err, Result, codes, decimal}
use Rattle.std.specs.Fmt.{signed_decimal}
use Rattle.kinds.specs.declared.kern.Pair.{Pair}
use Rattle.kinds.specs.Bytes.{pair_bytes}
use Rattle.tables.specs.declared.fault.TableFault.{TableFault}
use Rattle.tables.specs.Meaning.{Meaning, value_in, SetDone, RemoveDone}
use Rattle.tabletrial.specs.declared.steps.Step.{Step}
use Rattle.tabletrial.specs.declared.steps.Step.TheVariants.{Set, Remove, Look}
use Rattle.tabletrial.specs.declared.steps.Reply.{Reply}
use Rattle.tabletrial.specs.declared.steps.Reply.TheVariants.{Done, Value}

-- a step that changes the table says that it is done, or why it is refused, and does what a table owes
abbrev pub ChangeTold : (Result (Unit {0}) TableFault → Type 0) → Result Reply TableFault → Type 0
ChangeTold owed (Ok Done) = owed (Ok tt)
ChangeTold owed (Ok (Value o)) = ⊥
ChangeTold owed (Err f) = owed (Err f)

-- A step makes table n of table m, and this is said. A look changes nothing and says the value; the others do what a table owes.
abbrev pub Acted : Meaning Pair ℤ → Meaning Pair ℤ → Step → Result Reply TableFault → Type 0
Acted m n (Look p) r = (r ≡ Ok (Value (value_in pair_bytes m p))) × (n ≡ m)
Acted m n (Set p v) r = ChangeTold (SetDone pair_bytes m n p v) r
Acted m n (Remove p) r = ChangeTold (RemoveDone pair_bytes m n p) r

-- what is printed of a pair
abbrev pub pair_text : Pair → List ℕ
pair_text p = decimal p.left ++ codes " " ++ decimal p.right

-- what is printed of a step
abbrev pub step_text : Step → List ℕ
step_text (Set p v) = codes "set " ++ pair_text p ++ codes " " ++ signed_decimal v
step_text (Remove p) = codes "remove " ++ pair_text p
step_text (Look p) = codes "look " ++ pair_text p

-- what is printed of a reply
abbrev pub reply_text : Reply → List ℕ
reply_text Done = codes "ok"
reply_text (Value (Some v)) = signed_decimal v
reply_text (Value None) = codes "none"
