-- What is known of bytes that are read and written.
use Rattle.std.proofs.lemmas.List.{take_all, length-take-le}
use Rattle.std.proofs.lemmas.Bool.{cases_lt}
use Rattle.std.proofs.Common.{◌≡◌, ℕ, ◌<◌, ◌≤◌, arith, length, inr, ap, ⊎_elim, subst, subst₂, List, take, Some, None, Ok, Err, Option, Result, Vec, Global, IfOk, IfSome, option_map, refl}
use Rattle.std.specs.Io.Take.{take_limit, take_inner, take_remaining}
use Rattle.std.specs.declared.io.Take.{Take}
use Rattle.answers.specs.declared.fault.Refusal.TheVariants.{LongSheet}
use Rattle.answers.specs.declared.fault.SheetFault.{SheetFault}
use Rattle.answers.specs.Texts.{answer_line}
use Rattle.console.specs.declared.fault.Fault.{Fault}
use Rattle.console.specs.declared.fault.Fault.TheVariants.{Memory, Stream, Arguments, Filter}
use Rattle.console.specs.Sending.{Sent}
use Rattle.kernsheet.specs.Sheets.{SheetAnswered, OneAnswer, InputAnswered, Replied}
use Rattle.kernsheet.proofs.Ones.{one_answer}

first : (n : ℕ) (bs : List ℕ) (o : Option (List ℕ)) → IfSome (option_map (take n) o) (λ xs. bs ≡ xs) → IfSome o (λ bytes. bs ≡ take n bytes)
first n bs None h = tt
first n bs (Some bytes) h = h

-- the front of the bytes that an input had left
pub front_known : {R E : Type 0} (remaining : R → Option (List ℕ)) (t : Take R) (input : R) (limit : ℕ) (r : Result (Vec ℕ Global) E) → take_limit t ≡ limit → take_inner t ≡ input
    → IfOk r (λ v. IfSome (take_remaining remaining t) (λ xs. v.items ≡ xs)) → IfOk r (λ v. IfSome (remaining input) (λ bytes. v.items ≡ take limit bytes))
front_known remaining t input limit (Err e) l i h = tt
front_known remaining t input limit (Ok v) l i h =
    first limit v.items (remaining input) (subst₂ (λ n x. IfSome (option_map (take n) (remaining x)) (λ xs. v.items ≡ xs)) l i h)

-- What answers the front of a sheet answers the sheet: the front is too long where something is cut off.
front_answered : (bytes text : List ℕ) → SheetAnswered (take 65536 bytes) text → SheetAnswered bytes text
front_answered bytes text h =
    ⊎_elim
    (λ (few : length bytes < 65537). subst (λ l. SheetAnswered l text) (take_all 65536 bytes (omega arith)) h)
    (λ (more : 65537 ≤ length bytes).
    let full : length (take 65536 bytes) ≡ 65536 = length-take-le 65536 bytes (omega arith) in
    ⊎_elim (λ (few, by_lines). absurd (omega (arith, full, few))) (λ (long, is). inr (omega arith, is)) h)
    (cases_lt (length bytes) 65537)

input_answered : (left : Option (List ℕ)) (front text : List ℕ) → IfSome left (λ bytes. front ≡ take 65536 bytes) → OneAnswer front text → InputAnswered left text
input_answered None front text is a = record { sheet = front; whole = tt; answer = a }
input_answered (Some bytes) front text is a =
    record { sheet = bytes; whole = refl; answer = one_answer bytes text (front_answered bytes text (subst (λ l. SheetAnswered l text) is a.0)) }

-- the text that answers the front of an input is sent
pub replied : {W : Type 0} (contents : W → Option (List ℕ)) (left : Option (List ℕ)) (old new : W) (front text : List ℕ) (r : Result (Unit {0}) Fault)
    → IfSome left (λ bytes. front ≡ take 65536 bytes) → OneAnswer front text → Sent (contents old) (contents new) text r → Replied contents left old new r
replied contents left old new front text (Ok done) is a s = (text, input_answered left front text is a, s)
replied contents left old new front text (Err Memory) is a (stream, s) = cc
replied contents left old new front text (Err Stream) is a (stream, s) = inr (text, input_answered left front text is a, s)
replied contents left old new front text (Err Arguments) is a (stream, s) = cc
replied contents left old new front text (Err (Filter f)) is a (stream, s) = cc

-- the answer to a sheet that is too long is sent
pub long_sent : (sheet : List ℕ) (o p : Option (List ℕ)) (e : SheetFault) (r : Result (Unit {0}) Fault) → 65535 < length sheet → e ≡ record { line = 0; fault = LongSheet }
    → Sent o p (answer_line e.line (Err e.fault)) r → (text : List ℕ) × OneAnswer sheet text × Sent o p text r
long_sent sheet o p e r long is s = (_, one_answer sheet _ (inr (long, ap (λ (f : SheetFault). answer_line f.line (Err f.fault)) is)), s)
