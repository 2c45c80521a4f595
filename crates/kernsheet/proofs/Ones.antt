-- One text answers a sheet.
use Rattle.std.proofs.Common.{◌≡◌, ℕ, ◌+◌, ◌≤◌, List, [], ◌∷◌, ◌++◌, ℤ, Ok, Err, Result, inl, inr, sym, ap, ap₂, ◌∙◌, subst, subst₂, arith}
use Rattle.std.proofs.Math.Bridge.{le_prop}
use Rattle.std.proofs.Math.Path.{to_path_p}
use Rattle.kinds.specs.Bytes.{pair_bytes, sequence_bytes}
use Rattle.kinds.specs.Hashes.{fibonacci, fnv}
use Rattle.kinds.specs.declared.kern.Pair.{Pair}
use Rattle.kinds.specs.declared.sequence.Sequence.{Sequence}
use Rattle.filter.specs.declared.plan.Plan.{Plan}
use Rattle.figures.specs.Lines.{lines_of}
use Rattle.forms.specs.declared.command.Command.{Command}
use Rattle.forms.specs.declared.command.Command.TheVariants as command
use Rattle.forms.specs.declared.fault.LineFault.{LineFault}
use Rattle.forms.proofs.Singles.{alone}
use Rattle.history.specs.Rules.{Terms}
use Rattle.history.specs.Beginnings.{nothing, list_terms}
use Rattle.history.specs.History.{History}
use Rattle.history.proofs.Ones.{answered_one}
use Rattle.answers.specs.declared.done.Done.{Done}
use Rattle.answers.specs.declared.done.Done.TheVariants.{Kern, Ligature}
use Rattle.answers.specs.declared.fault.Refusal.{Refusal}
use Rattle.answers.specs.Texts.{answer_line}
use Rattle.sheet.specs.Doing.{reply_of}
use Rattle.kernsheet.specs.Sheets.{CommandAnswered, LineAnswered, LinesAnswered, SheetAnswered, OneAnswer}

-- plans of the same bits are one
plan_one : (p s : Plan) → p.q ≡ s.q → p.r ≡ s.r → p ≡ s
plan_one p s e f = λ i. record {
  q = e i;
  r = f i;
  low = to_path_p (λ i. 6 ≤ e i) {a = p.low} {b = s.low} (le_prop _ s.low) i;
  high = to_path_p (λ i. e i ≤ 20) {a = p.high} {b = s.high} (le_prop _ s.high) i;
  some = to_path_p (λ i. 1 ≤ f i) {a = p.some} {b = s.some} (le_prop _ s.some) i;
  most = to_path_p (λ i. f i ≤ 32) {a = p.most} {b = s.most} (le_prop _ s.most) i;
}

module _ (t : Terms Pair) (u : Terms Sequence) where
  -- two outcomes of one line are the same
  record Same (k m : History Pair ℤ) (l n : History Sequence ℕ) (a b : Result Done Refusal) : Type 0 where
    kerns : k ≡ m
    ligatures : l ≡ n
    reply : a ≡ b

  module _ (k k' m : History Pair ℤ) (l l' n : History Sequence ℕ) (a b : Result Done Refusal) where
    outcome_one : (r : Result Command LineFault) → CommandAnswered t u k k' l l' r a → CommandAnswered t u k m l n r b → Same k' m l' n a b
    outcome_one (Ok (command.Kern o)) (x, p, longer, same, is) (y, q, more, alike, so) =
        let one = answered_one t nothing k o x y p q in
        record { kerns = longer ∙ ap (λ z. k ++ (o, z) ∷ []) one ∙ sym more; ligatures = same ∙ sym alike; reply = is ∙ ap (reply_of Kern) one ∙ sym so }
    outcome_one (Ok (command.Ligature o)) (x, p, longer, same, is) (y, q, more, alike, so) =
        let one = answered_one u nothing l o x y p q in
        record { kerns = same ∙ sym alike; ligatures = longer ∙ ap (λ z. l ++ (o, z) ∷ []) one ∙ sym more; reply = is ∙ ap (reply_of Ligature) one ∙ sym so }
    outcome_one (Err e) (same, own, is) (alike, other, so) = record { kerns = same ∙ sym alike; ligatures = own ∙ sym other; reply = is ∙ sym so }

    line_one : (line : List ℕ) → LineAnswered t u k k' l l' line a → LineAnswered t u k m l n line b → Same k' m l' n a b
    line_one line (r, means, p) (s, too, q) =
        outcome_one r p (subst (λ (z : Result Command LineFault). CommandAnswered t u k m l n z b) ((alone line r means).1 s too) q)

  lines_one : (k : History Pair ℤ) (l : History Sequence ℕ) (number : ℕ) (lines : List (List ℕ)) (a b : List ℕ)
      → LinesAnswered t u k l number lines a → LinesAnswered t u k l number lines b → a ≡ b
  unfolding LinesAnswered
  lines_one k l number [] a b p q = p ∙ sym q
  lines_one k l number (line ∷ lines) a b (k', l', reply, rest, p, more, is) (m, n, told, others, q, then, so) =
      let one = line_one k k' m l l' n reply told line p q in
      let after = subst₂ (λ (h : History Pair ℤ) (j : History Sequence ℕ). LinesAnswered t u h j (number + 1) lines rest) one.kerns one.ligatures more in
      is ∙ ap₂ (λ r text. answer_line number r ++ text) one.reply (lines_one m n (number + 1) lines rest others after then) ∙ sym so

sheet_one : (sheet a b : List ℕ) → SheetAnswered sheet a → SheetAnswered sheet b → a ≡ b
sheet_one sheet a b (inl (few, p)) (inl (short, q)) =
    let kern = plan_one p.kern q.kern (p.kern_bits.0 ∙ sym q.kern_bits.0) (p.kern_bits.1 ∙ sym q.kern_bits.1) in
    let ligature = plan_one p.ligature q.ligature (p.ligature_bits.0 ∙ sym q.ligature_bits.0) (p.ligature_bits.1 ∙ sym q.ligature_bits.1) in
    lines_one (list_terms pair_bytes (λ k. fibonacci k.left k.right) q.kern 5 256) (list_terms sequence_bytes (λ k. fnv (sequence_bytes k)) q.ligature 2 64) [] [] 1 (lines_of sheet) a b
    (subst₂
    (λ (x : Plan) (y : Plan). LinesAnswered (list_terms pair_bytes (λ k. fibonacci k.left k.right) x 5 256) (list_terms sequence_bytes (λ k. fnv (sequence_bytes k)) y 2 64) [] [] 1 (lines_of sheet) a)
    kern ligature p.lines)
    q.lines
sheet_one sheet a b (inl (few, p)) (inr (long, q)) = absurd (omega arith)
sheet_one sheet a b (inr (long, p)) (inl (few, q)) = absurd (omega arith)
sheet_one sheet a b (inr (long, p)) (inr (more, q)) = p ∙ sym q

pub one_answer : (sheet text : List ℕ) → SheetAnswered sheet text → OneAnswer sheet text
one_answer sheet text h = (h, λ other k. sheet_one sheet other text k h)
