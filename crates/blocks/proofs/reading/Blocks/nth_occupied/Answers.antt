use Rattle.std.proofs.Common.{◌≡◌, ℕ, ◌+◌, ◌*◌, ◌<◌, List, get_or, Some, None, Option, sym, ap, ◌∙◌, inl, inr, ⊎_elim, arith, MatchOption}
use Rattle.std.specs.Int.{bit_at}
use Rattle.words.specs.Bits.{ones_under, Selected}
use Rattle.blocks.specs.Searches.{NoOccupied, FoundOccupied}
use Rattle.blocks.specs.Views.{word_index, occupied_bit_in}
use Rattle.blocks.proofs.Tallies.{tally_more, occupied_bit, occupied_ones}
use Rattle.blocks.proofs.reading.Blocks.nth_occupied.Goals as goal

-- a one of a block's first word is an occupied quotient
found : (r : ℕ) (ws : List ℕ) (b k w : ℕ) (o : Option ℕ) → w ≡ get_or ws (word_index r b 0) 0 → Selected w k o
    → MatchOption o (NoOccupied r ws b k) (λ i. FoundOccupied r ws b k (64 * b + i))
found r ws b k w (Some i) e s =
    let one : occupied_bit_in r ws (64 * b + i) ≡ 1 = occupied_bit r ws b i s.0 ∙ ap (λ x. bit_at x i) (sym e) ∙ s.1 in
    record {
      from = omega arith;
      below = omega (arith, s.0);
      one = one;
      nth = omega (arith, s.2, tally_more (occupied_bit_in r ws) (64 * b + i), occupied_ones r ws b i (omega (arith, s.0)), ap (λ x. ones_under x i) e);
    }
found r ws b k w None e s =
    ⊎_elim (λ (z : k ≡ 0). inl z) (λ (l : ones_under w 64 < k). inr (omega (arith, occupied_ones r ws b 64 (omega arith), ap (λ x. ones_under x 64) e))) s

pub returns-in_err-i : goal.returns-in_err-i
returns-in_err-i c =
    rw c.from_residual.ensures (inl (found c.args.self.now.width.bits c.args.self.now.words.now c.args.b c.args.k c.word.result None c.word.ensures c.in_err-i.ensures))

pub returns : goal.returns
returns c =
    found c.args.self.now.width.bits c.args.self.now.words.now c.args.b c.args.k c.word.result (Some c.in_ok-i.i) c.word.ensures c.in_ok-i.ensures
