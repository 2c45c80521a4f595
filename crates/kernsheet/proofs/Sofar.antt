-- Lines that are done one by one.
use Rattle.std.proofs.Common.{◌≡◌, ◌==◌, cond, true, false, Bool, ℕ, suc, ◌+◌, ◌≤◌, List, [], ◌∷◌, ◌++◌, length, ℤ, Ok, Err, Result, refl, sym, subst, append_assoc, append-nil, arith}
use Rattle.kinds.specs.Bytes.{pair_bytes, sequence_bytes}
use Rattle.kinds.specs.declared.kern.Pair.{Pair}
use Rattle.kinds.specs.declared.sequence.Sequence.{Sequence}
use Rattle.figures.specs.Lines.{grown, lines_of}
use Rattle.forms.specs.declared.command.Command.{Command}
use Rattle.forms.specs.declared.command.Command.TheVariants as command
use Rattle.forms.specs.declared.fault.LineFault.{LineFault}
use Rattle.forms.specs.Meaning.{Meant}
use Rattle.history.specs.Beginnings.{nothing}
use Rattle.history.specs.Rules.{Answer}
use Rattle.history.specs.History.{History, AnsweredByRules}
use Rattle.history.specs.declared.operation.Operation.{Operation}
use Rattle.book.specs.Reached.{State, Reached}
use Rattle.answers.specs.declared.done.Done.{Done}
use Rattle.answers.specs.declared.fault.Refusal.{Refusal}
use Rattle.answers.specs.Texts.{answer_line}
use Rattle.sheet.specs.Doing.{WholeBook, state_at, CommandDone, LineDone}
use Rattle.kernsheet.specs.Fresh.{IsFresh, terms}
use Rattle.kernsheet.specs.Sheets.{LineAnswered, LinesAnswered}

-- the last answer in the history of a book that held nothing is the one that the rules give
last_answer : {K V : Type 0} (bytes : K → List ℕ) (s now : State K V) (h : History K V) (o : Operation K V) (a : Answer V) → IsFresh bytes s
    → Reached bytes s now (h ++ (o, a) ∷ []) → AnsweredByRules (terms bytes s) nothing h o a
last_answer bytes s now h o a fresh r = subst (λ opening. AnsweredByRules (terms bytes s) opening h o a) fresh.holds (r.law.answers h [] o a refl)

module _ (s : State Pair ℤ) (t : State Sequence ℕ) where
  -- The two books began as s and t, and are k and l now. The lines done so far were answered by the text; what answers the others, of which the next has that
  -- number, completes it to the answer to all.
  pub record Sofar (k : State Pair ℤ) (l : State Sequence ℕ) (all left : List (List ℕ)) (number : ℕ) (text : List ℕ) : Type 0 where
    pub kerns : History Pair ℤ
    pub ligatures : History Sequence ℕ
    pub kern : Reached pair_bytes s k kerns
    pub ligature : Reached sequence_bytes t l ligatures
    pub completes : (rest : List ℕ) → LinesAnswered (terms pair_bytes s) (terms sequence_bytes t) kerns ligatures number left rest
        → LinesAnswered (terms pair_bytes s) (terms sequence_bytes t) [] [] 1 all (text ++ rest)

  -- a line is answered, and these are the histories after it
  record Goes (k : State Pair ℤ) (l : State Sequence ℕ) (h : History Pair ℤ) (j : History Sequence ℕ) (line : List ℕ) (reply : Result Done Refusal) : Type 0 where
    kerns : History Pair ℤ
    ligatures : History Sequence ℕ
    answered : LineAnswered (terms pair_bytes s) (terms sequence_bytes t) h kerns j ligatures line reply
    kern : Reached pair_bytes s k kerns
    ligature : Reached sequence_bytes t l ligatures

  module _ {B C X Y : Type 0} (k m : WholeBook Pair ℤ B X) (l n : WholeBook Sequence ℕ C Y) (h : History Pair ℤ) (j : History Sequence ℕ) (line : List ℕ) (reply : Result Done Refusal)
      (fresh : IsFresh pair_bytes s) (new : IsFresh sequence_bytes t) (a : Reached pair_bytes s (state_at k) h) (b : Reached sequence_bytes t (state_at l) j) where
    goes : (r : Result Command LineFault) → Meant line r → CommandDone k m l n r reply → Goes (state_at m) (state_at n) h j line reply
    goes (Ok (command.Kern o)) means (x, did, same, is) =
        let r = did.law s h a in
        record {
          kerns = h ++ (o, x) ∷ [];
          ligatures = j;
          answered = (Ok (command.Kern o), means, (x, last_answer pair_bytes s (state_at m) h o x fresh r, refl, refl, is));
          kern = r;
          ligature = subst (λ (w : WholeBook Sequence ℕ C Y). Reached sequence_bytes t (state_at w) j) (sym same) b;
        }
    goes (Ok (command.Ligature o)) means (x, did, same, is) =
        let r = did.law t j b in
        record {
          kerns = h;
          ligatures = j ++ (o, x) ∷ [];
          answered = (Ok (command.Ligature o), means, (x, last_answer sequence_bytes t (state_at n) j o x new r, refl, refl, is));
          kern = subst (λ (w : WholeBook Pair ℤ B X). Reached pair_bytes s (state_at w) h) (sym same) a;
          ligature = r;
        }
    goes (Err f) means (same, alike, is) = record {
      kerns = h;
      ligatures = j;
      answered = (Err f, means, (refl, refl, is));
      kern = subst (λ (w : WholeBook Pair ℤ B X). Reached pair_bytes s (state_at w) h) (sym same) a;
      ligature = subst (λ (w : WholeBook Sequence ℕ C Y). Reached sequence_bytes t (state_at w) j) (sym alike) b;
    }

  pub sofar_none : (all left : List (List ℕ)) (number : ℕ) (text : List ℕ) → Reached pair_bytes s s [] → Reached sequence_bytes t t [] → all ≡ left → number ≡ 1 → text ≡ []
      → Sofar s t all left number text
  sofar_none all left number text a b c d e = record {
    kerns = [];
    ligatures = [];
    kern = a;
    ligature = b;
    completes = λ rest h. rw (c, e) (rw d at h);
  }

  pub sofar_more : {B C X Y : Type 0} (k m : WholeBook Pair ℤ B X) (l n : WholeBook Sequence ℕ C Y) (all left : List (List ℕ)) (number : ℕ) (text : List ℕ)
      (line : List ℕ) (rest : List (List ℕ)) (reply : Result Done Refusal) (bytes after : List ℕ) (own next : ℕ)
      → IsFresh pair_bytes s → IsFresh sequence_bytes t → Sofar (state_at k) (state_at l) all left number text
      → left ≡ line ∷ rest → LineDone k m l n line reply → own ≡ number → bytes ≡ answer_line own reply → after ≡ text ++ bytes → next ≡ own + 1
      → Sofar (state_at m) (state_at n) all rest next after
  unfolding LinesAnswered
  sofar_more k m l n all left number text line rest reply bytes after own next fresh new c e d i b w x =
      let g = goes k m l n c.kerns c.ligatures line reply fresh new c.kern c.ligature d.0 d.1 d.2 in
      record {
        kerns = g.kerns;
        ligatures = g.ligatures;
        kern = g.kern;
        ligature = g.ligature;
        completes = λ more h. rw (w, append_assoc) (c.completes (bytes ++ more) (rw (e, b, ← i) (g.kerns, g.ligatures, reply, more, g.answered, rw x at h, refl)));
      }

  pub sofar_all : (k : State Pair ℤ) (l : State Sequence ℕ) (all left : List (List ℕ)) (number : ℕ) (text : List ℕ) → Sofar k l all left number text → left ≡ []
      → LinesAnswered (terms pair_bytes s) (terms sequence_bytes t) [] [] 1 all text
  unfolding LinesAnswered
  sofar_all k l all left number text c e = rw append-nil at (c.completes [] (rw e refl))

grown_few : (c : ℕ) (ls : List (List ℕ)) → length (grown c ls) ≤ suc (length ls)
grown_few c [] = omega arith
grown_few c (l ∷ ls) = omega arith

one_more : (b : Bool) (c n : ℕ) (ls : List (List ℕ)) → length ls ≤ n → length (cond b ([] ∷ ls) (grown c ls)) ≤ suc n
one_more true c n ls h = omega arith
one_more false c n ls h = omega (arith, grown_few c ls)

-- a text has no more lines than bytes
pub lines_few : (xs : List ℕ) → length (lines_of xs) ≤ length xs
unfolding lines_of
lines_few [] = omega arith
lines_few (c ∷ cs) = one_more (c == 10) c (length cs) (lines_of cs) (lines_few cs)
