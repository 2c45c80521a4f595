-- Glyphs and their bytes.
use Rattle.std.specs.Prelude.{◌≡◌, ℕ, zero, suc, ◌*◌, ◌/◌, ◌%◌, ◌≤◌, Bool, true, false, List, [], ◌∷◌, length, take, Decides, ◌≢◌, nat_le, slice_index, refl}
use Rattle.std.proofs.Common.{sym, ap, arith, rules}
use Rattle.std.proofs.Math.Seq.{take-nil}
use Rattle.std.specs.Str.{bytes_eq}
use Rattle.std.proofs.lemmas.Slice.Eq.{bytes_eq-Decides, text_from_reads}
use Rattle.std.proofs.lemmas.Bool.{and_from, le-leb, false≢true}
use Rattle.kinds.specs.declared.sequence.Sequence.{Sequence}
use Rattle.kinds.specs.declared.sequence.Sequence.TheVariants.{Two, Three, Four}
use Rattle.kinds.specs.declared.kern.Pair.{Pair}
use Rattle.kinds.specs.Bytes.{glyph_bytes, pair_bytes, sequence_bytes}
use Rattle.kinds.specs.Keys.{same_key}
use Rattle.kinds.specs.Sequences.{glyphs_of, two_to_four}

-- a test that decides whether bytes are equal
tested : (xs ys : List ℕ) (r : Bool) → Decides r (xs ≡ ys) → r ≡ bytes_eq xs ys
tested xs ys r h = search (rules, bytes_eq-Decides)

parts_one : (x y : ℕ) → x / 256 ≡ y / 256 → x % 256 ≡ y % 256 → x ≡ y
parts_one x y p q = omega arith

-- glyphs with the same bytes are the same glyphs
pub glyph_bytes_one : (xs ys : List ℕ) → glyph_bytes xs ≡ glyph_bytes ys → xs ≡ ys
glyph_bytes_one [] [] e = refl
glyph_bytes_one [] (y ∷ ys) e = let z : ◌≡◌ {A = ℕ} 0 1 = cc in absurd (omega arith)
glyph_bytes_one (x ∷ xs) [] e = let z : ◌≡◌ {A = ℕ} 0 1 = cc in absurd (omega arith)
glyph_bytes_one (x ∷ xs) (y ∷ ys) e =
    let high : x / 256 ≡ y / 256 = cc in
    let low : x % 256 ≡ y % 256 = cc in
    let rest : glyph_bytes xs ≡ glyph_bytes ys = cc in
    let first : x ≡ y = parts_one x y high low in
    let others = glyph_bytes_one xs ys rest in
    cc

-- two pairs with the same bytes are one
pub pair_bytes_one : (p q : Pair) → pair_bytes p ≡ pair_bytes q → p ≡ q
pair_bytes_one p q e =
    let same = glyph_bytes_one (p.left ∷ p.right ∷ []) (q.left ∷ q.right ∷ []) e in
    let left : p.left ≡ q.left = cc in
    let right : p.right ≡ q.right = cc in
    λ i. record { left = left i; right = right i }

-- a sequence has two to four glyphs
pub glyphs_length : (s : Sequence) → two_to_four (length (glyphs_of s)) ≡ true
glyphs_length (Two a b) = refl
glyphs_length (Three a b c) = refl
glyphs_length (Four a b c d) = refl

-- two sequences with the same glyphs are one
pub sequence_one : (r s : Sequence) → glyphs_of r ≡ glyphs_of s → r ≡ s
sequence_one (Two a b) (Two x y) e = cc
sequence_one (Two a b) (Three x y z) e = absurd (omega (arith, ap length e))
sequence_one (Two a b) (Four x y z w) e = absurd (omega (arith, ap length e))
sequence_one (Three a b c) (Two x y) e = absurd (omega (arith, ap length e))
sequence_one (Three a b c) (Three x y z) e = cc
sequence_one (Three a b c) (Four x y z w) e = absurd (omega (arith, ap length e))
sequence_one (Four a b c d) (Two x y) e = absurd (omega (arith, ap length e))
sequence_one (Four a b c d) (Three x y z) e = absurd (omega (arith, ap length e))
sequence_one (Four a b c d) (Four x y z w) e = cc

-- two sequences with the same bytes are one
pub sequence_bytes_one : (r s : Sequence) → sequence_bytes r ≡ sequence_bytes s → r ≡ s
sequence_bytes_one r s e = sequence_one r s (glyph_bytes_one (glyphs_of r) (glyphs_of s) e)

-- a test that decides whether two sequences are one tells whether they are the same
pub same_sequence : (a b : Sequence) (r : Bool) → Decides r (a ≡ b) → r ≡ same_key sequence_bytes a b
same_sequence a b r d = tested (sequence_bytes a) (sequence_bytes b) r (λ t. ap sequence_bytes (d.0 t), λ e. d.1 (sequence_bytes_one a b e))

-- two sequences of other lengths are not the same
pub other_length : (a b : Sequence) → (length (glyphs_of a) ≢ length (glyphs_of b)) → false ≡ same_key sequence_bytes a b
other_length a b ne = same_sequence a b false (λ t. absurd (false≢true t), λ e. absurd (ne (ap (λ s. length (glyphs_of s)) e)))

-- two to four glyphs are taken
pub taken : (n : ℕ) → 2 ≤ n → n ≤ 4 → true ≡ two_to_four n
taken n low high = sym (and_from (nat_le 2 n) (nat_le n 4) (le-leb 2 n low) (le-leb n 4 high))

-- four glyphs, written out
pub four : (xs : List ℕ) → length xs ≡ 4 → xs ≡ slice_index xs 0 ∷ slice_index xs 1 ∷ slice_index xs 2 ∷ slice_index xs 3 ∷ []
four xs e = text_from_reads xs _ e (refl, (refl, (refl, (refl, tt))))

-- the bytes of the first glyphs are the first bytes
pub first_bytes : (n : ℕ) (xs : List ℕ) → take (2 * n) (glyph_bytes xs) ≡ glyph_bytes (take n xs)
first_bytes zero xs = refl
first_bytes (suc n) [] = take-nil (2 * suc n)
first_bytes (suc n) (x ∷ xs) =
    let e : 2 * suc n ≡ suc (suc (2 * n)) = omega arith in
    rw e (ap (λ bs. x / 256 ∷ x % 256 ∷ bs) (first_bytes n xs))
