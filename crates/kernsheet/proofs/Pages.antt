-- Answers that are gathered on a page, and sent where it is full.
use Rattle.std.proofs.lemmas.List.{length-take-le, length-append, take_at}
use Rattle.std.proofs.Common.{◌≡◌, ℕ, ◌+◌, ◌≤◌, List, [], ◌∷◌, ◌++◌, length, take, ℤ, Option, Ok, Result, refl, sym, ap, ◌∙◌, subst, append_assoc, append-nil, arith}
use Rattle.kinds.specs.Bytes.{pair_bytes, sequence_bytes}
use Rattle.kinds.specs.declared.kern.Pair.{Pair}
use Rattle.kinds.specs.declared.sequence.Sequence.{Sequence}
use Rattle.book.specs.Reached.{State, Reached}
use Rattle.answers.specs.declared.done.Done.{Done}
use Rattle.answers.specs.declared.fault.Refusal.{Refusal}
use Rattle.answers.specs.Texts.{answer_line}
use Rattle.sheet.specs.Doing.{WholeBook, state_at, LineDone}
use Rattle.console.specs.declared.fault.Fault.{Fault}
use Rattle.console.specs.Sending.{Sent}
use Rattle.console.proofs.Sendings.{appends_none}
use Rattle.kernsheet.specs.Fresh.{IsFresh, terms}
use Rattle.kernsheet.specs.Sheets.{LinesAnswered}
use Rattle.kernsheet.proofs.Sofar.{Sofar, sofar_none, sofar_more, sofar_all}

-- the front of a page after a text was put to its rest
front_after : (page text spare past : List ℕ) (filled n : ℕ) → filled ≤ length page → n ≡ length text
    → take (filled + n) (take filled page ++ ((text ++ spare) ++ past)) ≡ take filled page ++ text
front_after page text spare past filled n few long =
    ap (take (filled + n)) (ap (λ l. take filled page ++ l) (append_assoc text spare past) ∙ sym (append_assoc (take filled page) text (spare ++ past)))
    ∙ take_at (take filled page ++ text) (spare ++ past) (filled + n) (omega (arith, length-append (take filled page) text, length-take-le filled page few))

module _ (s : State Pair ℤ) (t : State Sequence ℕ) where
  -- The first part of the text that answers the lines done so far was sent, or was to be and the stream failed; the rest is the front of the page.
  pub record Gathered (k : State Pair ℤ) (l : State Sequence ℕ) (all left : List (List ℕ)) (number : ℕ) (page : List ℕ) (filled : ℕ)
      (o p : Option (List ℕ)) (sent : Result (Unit {0}) Fault) : Type 0 where
    pub part : List ℕ
    pub written : Sent o p part sent
    pub sofar : Sofar s t k l all left number (part ++ take filled page)

  pub gathered_none : (all left : List (List ℕ)) (number : ℕ) (page : List ℕ) (o : Option (List ℕ)) → Reached pair_bytes s s [] → Reached sequence_bytes t t []
      → all ≡ left → number ≡ 1 → Gathered s t all left number page 0 o o (Ok tt)
  gathered_none all left number page o a b c d = record {
    part = [];
    written = appends_none o;
    sofar = sofar_none s t all left number [] a b c d refl;
  }

  module _ (k : State Pair ℤ) (l : State Sequence ℕ) (all left : List (List ℕ)) (number : ℕ) (page : List ℕ) (filled : ℕ) (o p q : Option (List ℕ))
      (sent now : Result (Unit {0}) Fault) (sends : (o : Option (List ℕ)) (part : List ℕ) → Sent o p part sent → Sent o q (part ++ take filled page) now)
      (c : Gathered k l all left number page filled o p sent) where
    -- the page is sent, and is free again
    pub gathered_sent : Gathered k l all left number page 0 o q now
    gathered_sent = record {
      part = c.part ++ take filled page;
      written = sends o c.part c.written;
      sofar = subst (Sofar s t k l all left number) (sym (append-nil (c.part ++ take filled page))) c.sofar;
    }

    -- the last page is sent
    pub gathered_all : left ≡ [] → (text : List ℕ) × LinesAnswered (terms pair_bytes s) (terms sequence_bytes t) [] [] 1 all text × Sent o q text now
    gathered_all none = (c.part ++ take filled page, sofar_all s t k l all left number _ c.sofar none, sends o c.part c.written)

  -- a line is answered on the page
  pub gathered_more : {B C X Y : Type 0} (k m : WholeBook Pair ℤ B X) (l n : WholeBook Sequence ℕ C Y) (all left : List (List ℕ)) (number : ℕ) (page : List ℕ) (filled : ℕ)
      (o p : Option (List ℕ)) (sent : Result (Unit {0}) Fault) (line : List ℕ) (rest : List (List ℕ)) (reply : Result Done Refusal) (own next count : ℕ) (buf spare past : List ℕ)
      → IsFresh pair_bytes s → IsFresh sequence_bytes t → Gathered (state_at k) (state_at l) all left number page filled o p sent
      → left ≡ line ∷ rest → LineDone k m l n line reply → own ≡ number → next ≡ own + 1
      → filled ≤ length page → count ≡ length (answer_line own reply) → buf ≡ answer_line own reply ++ spare
      → Gathered (state_at m) (state_at n) all rest next (take filled page ++ (buf ++ past)) (filled + count) o p sent
  gathered_more k m l n all left number page filled o p sent line rest reply own next count buf spare past fresh new c e d i x few long is = record {
    part = c.part;
    written = c.written;
    sofar = sofar_more s t k m l n all left number (c.part ++ take filled page) line rest reply (answer_line own reply) _ own next fresh new c.sofar e d i refl
        (ap (λ b. c.part ++ take (filled + count) (take filled page ++ (b ++ past))) is
        ∙ ap (λ b. c.part ++ b) (front_after page (answer_line own reply) spare past filled count few long)
        ∙ sym (append_assoc c.part (take filled page) (answer_line own reply)))
        x;
  }
