-- What a move needs: which blocks and slots lie within the words, and an entry that was copied.
use Rattle.std.proofs.Common.{◌≡◌, ℕ, ◌+◌, ◌*◌, ◌/◌, ◌%◌, ◌^◌, ◌<◌, ◌≤◌, Bool, cond, eqb, List, length, get_or, ap, ◌∙◌, ap₂, mul-le-mul_right, mod-eq_of_lt, arith}
use Rattle.std.proofs.lemmas.Bool.Decides.{nat_tests}
use Rattle.words.specs.Row.{long_number}
use Rattle.words.proofs.Fields.{bit_lt, field_lt}
use Rattle.blocks.specs.Views.{word_index, remainder_place, runend_in, remainder_in}
use Rattle.blocks.specs.Writes.{WroteRunend, WroteRemainder}
use Rattle.blocks.specs.Moves.{BlocksWithin, BlockWithin, CopiedEntry}

-- where the words are that many blocks, the blocks up to there and the block of each slot lie within them
pub holds_all : (r : ℕ) (ws : List ℕ) (blocks n : ℕ) → length ws ≡ blocks * (r + 3) → n ≤ blocks → BlocksWithin r ws n
holds_all r ws blocks n e l = omega (arith, mul-le-mul_right (r + 3) l)

pub within_all : (r : ℕ) (ws : List ℕ) (blocks s : ℕ) → length ws ≡ blocks * (r + 3) → s < 64 * blocks → BlockWithin r ws s
within_all r ws blocks s e l = holds_all r ws blocks (s / 64 + 1) e (omega arith)

remainder_fits : (r : ℕ) (ws : List ℕ) (s : ℕ) → remainder_in r ws s < 2 ^ r
unfolding remainder_in
remainder_fits r ws s = field_lt (long_number ws) (remainder_place r s) r

runend_two : (r : ℕ) (ws : List ℕ) (s : ℕ) → runend_in r ws s < 2
unfolding runend_in
runend_two r ws s = bit_lt (get_or ws (word_index r (s / 64) 1) 0) (s % 64)

-- a bit that was read as a test and written again
bit_again : (n : ℕ) → n < 2 → cond (eqb n 1) 1 0 ≡ n
bit_again n l = grind (arith, nat_tests)

-- both writes of an entry that was read from slot j
pub entry_copied : (r : ℕ) (ws us vs : List ℕ) (j i rest : ℕ) (last : Bool) → rest ≡ remainder_in r ws j → last ≡ eqb (runend_in r ws j) 1
    → WroteRemainder r ws us i (rest % 2 ^ r) → WroteRunend r us vs i (cond last 1 0) → CopiedEntry r ws vs j i
entry_copied r ws us vs j i rest last er el a b =
    let same : rest % 2 ^ r ≡ remainder_in r ws j = ap (λ n. n % 2 ^ r) er ∙ mod-eq_of_lt (remainder_fits r ws j) in
    let bit : cond last 1 0 ≡ runend_in r ws j = ap (λ t. cond t 1 0) el ∙ bit_again (runend_in r ws j) (runend_two r ws j) in
    record {
      occupied = λ k. b.occupied k ∙ a.occupied k;
      runends = λ k. b.runends k ∙ ap₂ (cond (eqb k i)) bit (a.runends k);
      offsets = λ k. b.offsets k ∙ a.offsets k;
      remainders = λ k. b.remainders k ∙ a.remainders k ∙ ap (λ x. cond (eqb k i) x (remainder_in r ws k)) same;
    }
