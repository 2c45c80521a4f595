-- A line is of one shape, and has one meaning.
use Rattle.std.proofs.Common.{◌≡◌, ℕ, List, [], ◌∷◌, ◌++◌, length, ℤ, false, Ok, Err, Result, codes, sym, refl, ap, ◌∙◌, subst, arith}
use Rattle.std.proofs.lemmas.List.{append_cancel_right}
use Rattle.std.proofs.lemmas.Bool.{false≢true}
use Rattle.kinds.specs.declared.sequence.Sequence.{Sequence}
use Rattle.kinds.specs.declared.ligature.KeyFault.TheVariants.{BadSequence}
use Rattle.kinds.specs.Sequences.{glyphs_of, two_to_four}
use Rattle.kinds.specs.Glyphs.{glyphs_length, sequence_one}
use Rattle.history.specs.declared.operation.Operation.TheVariants.{Put, Drop, Find}
use Rattle.figures.specs.Figures.{Figure}
use Rattle.figures.specs.Amounts.{PairLine}
use Rattle.figures.proofs.Singles.{figure_one, pair_line_one, same_cut, no_space}
use Rattle.forms.specs.declared.command.Command.{Command}
use Rattle.forms.specs.declared.command.Command.TheVariants.{Ligature}
use Rattle.forms.specs.declared.fault.LineFault.{LineFault}
use Rattle.forms.specs.declared.fault.LineFault.TheVariants.{LongLine, Unreadable, TooLarge, Key}
use Rattle.forms.specs.Rows.{Series, Numbers}
use Rattle.forms.specs.Shapes.{Shape, pair, drop, find, lig, unlig, seek, Couple, Joined, Written}
use Rattle.forms.specs.Meaning.{InRange, NoSequence, Asks, Meant, OneMeaning}
use Rattle.forms.proofs.Rows.{same_row, ends_as}
use Rattle.forms.proofs.Lines.{only_pair, only_drop, only_find, only_lig, only_unlig, only_seek}

-- bytes are the figures of one row of numbers
series_one : (xs : List ℕ) (n m : ℕ) (ns ms : List ℕ) → Series xs n ns → Series xs m ms → n ∷ ns ≡ m ∷ ms
unfolding Series
series_one xs n m [] [] f g = ap (λ k. k ∷ []) (figure_one xs n m f g)
series_one xs n m [] (b ∷ bs) f (ds, rest, g, e, k) = absurd (no_space xs ds rest n m f g e)
series_one xs n m (a ∷ cs) [] (ds, rest, f, e, h) g = absurd (no_space xs ds rest m n g f e)
series_one xs n m (a ∷ cs) (b ∷ bs) (ds, rest, f, e, h) (es, tail, g, p, k) =
    let same = same_cut xs ds es rest tail n m f g e p in
    let first = same.0 in
    let others = series_one tail a b cs bs (subst (λ l. Series l a cs) same.1 h) k in
    cc

pub numbers_one : (xs ns ms : List ℕ) → Numbers xs ns → Numbers xs ms → ns ≡ ms
numbers_one xs [] ms h k = absurd h
numbers_one xs (n ∷ ns) [] h k = absurd k
numbers_one xs (n ∷ ns) (m ∷ ms) h k = series_one xs n m ns ms h k

pub couple_one : (xs : List ℕ) (a b c d : ℕ) → Couple a b xs → Couple c d xs → (a ≡ c) × (b ≡ d)
couple_one xs a b c d (l, r, e, f, g) (m, s, h, p, q) =
    let same = same_cut xs l m r s a c f p e h in
    (same.0, figure_one s b d (subst (λ k. Figure k b) same.1 g) q)

pub joined_one : (xs gs hs : List ℕ) (g h : ℕ) → Joined gs g xs → Joined hs h xs → (gs ≡ hs) × (g ≡ h)
joined_one xs gs hs g h (row, last, e, k, f) (shown, end, p, l, q) =
    let tails = same_row row (codes " as " ++ last) shown (codes " as " ++ end) gs hs k (ends_as last) l (ends_as end) (sym e ∙ p) in
    let ends : last ≡ end = cc in
    let rows = append_cancel_right row shown (codes " as " ++ end) (ap (λ l. row ++ l) (sym tails) ∙ sym e ∙ p) in
    (numbers_one shown gs hs (subst (λ s. Numbers s gs) rows k) l, figure_one end g h (subst (λ s. Figure s g) ends f) q)

-- a line is of one shape
pub written_one : (line : List ℕ) (s t : Shape) → Written line s → Written line t → s ≡ t
written_one line (pair a b z) t (rest, e, p) w =
    only_pair line rest e (λ u. pair a b z ≡ u) same t w
  where
    same : (c d : ℕ) (y : ℤ) → PairLine rest c d y → pair a b z ≡ pair c d y
    same c d y q = let e = pair_line_one rest a b c d z y p q in let l = e.0 in let r = e.1 in let v = e.2 in cc
written_one line (drop a b) t (rest, e, p) w =
    only_drop line rest e (λ u. drop a b ≡ u) (λ c d q. let same = couple_one rest a b c d p q in let l = same.0 in let r = same.1 in cc) t w
written_one line (find a b) t (rest, e, p) w =
    only_find line rest e (λ u. find a b ≡ u) (λ c d q. let same = couple_one rest a b c d p q in let l = same.0 in let r = same.1 in cc) t w
written_one line (lig gs g) t (rest, e, p) w =
    only_lig line rest e (λ u. lig gs g ≡ u) (λ hs h q. let same = joined_one rest gs hs g h p q in let row = same.0 in let last = same.1 in cc) t w
written_one line (unlig gs) t (rest, e, p) w = only_unlig line rest e (λ u. unlig gs ≡ u) (λ hs q. ap unlig (numbers_one rest gs hs p q)) t w
written_one line (seek gs) t (rest, e, p) w = only_seek line rest e (λ u. seek gs ≡ u) (λ hs q. ap seek (numbers_one rest gs hs p q)) t w

-- a shape asks one thing
asks_one : (s : Shape) (c d : Command) → Asks s c → Asks s d → c ≡ d
asks_one (pair a b z) c d p q = p ∙ sym q
asks_one (drop a b) c d p q = p ∙ sym q
asks_one (find a b) c d p q = p ∙ sym q
asks_one (lig gs g) c d (r, e, p) (s, f, q) = p ∙ ap (λ k. Ligature (Put k g)) (sequence_one r s (e ∙ sym f)) ∙ sym q
asks_one (unlig gs) c d (r, e, p) (s, f, q) = p ∙ ap (λ k. Ligature (Drop k)) (sequence_one r s (e ∙ sym f)) ∙ sym q
asks_one (seek gs) c d (r, e, p) (s, f, q) = p ∙ ap (λ k. Ligature (Find k)) (sequence_one r s (e ∙ sym f)) ∙ sym q

counted : (gs : List ℕ) (s : Sequence) → glyphs_of s ≡ gs → two_to_four (length gs) ≡ false → ⊥
counted gs s e none = false≢true (sym none ∙ ap (λ l. two_to_four (length l)) (sym e) ∙ glyphs_length s)

-- with too few or too many glyphs it asks nothing
asks_none : (s : Shape) (c : Command) → NoSequence s → Asks s c → ⊥
asks_none (pair a b z) c none p = absurd none
asks_none (drop a b) c none p = absurd none
asks_none (find a b) c none p = absurd none
asks_none (lig gs g) c none (s, e, p) = counted gs s e none
asks_none (unlig gs) c none (s, e, p) = counted gs s e none
asks_none (seek gs) c none (s, e, p) = counted gs s e none

-- a line means one thing
meant_one : (line : List ℕ) (r t : Result Command LineFault) → Meant line r → Meant line t → r ≡ t
meant_one line (Err LongLine) (Err LongLine) p q = refl
meant_one line (Err LongLine) (Err Unreadable) p (short, none) = absurd (omega arith)
meant_one line (Err LongLine) (Err TooLarge) p (short, q) = absurd (omega arith)
meant_one line (Err LongLine) (Err (Key BadSequence)) p (short, q) = absurd (omega arith)
meant_one line (Err LongLine) (Ok d) p (short, q) = absurd (omega arith)
meant_one line (Err Unreadable) (Err LongLine) (short, none) q = absurd (omega arith)
meant_one line (Err Unreadable) (Err Unreadable) p q = refl
meant_one line (Err Unreadable) (Err TooLarge) (short, none) (tight, (s, w, q)) = absurd (none s w)
meant_one line (Err Unreadable) (Err (Key BadSequence)) (short, none) (tight, (s, w, ranged, q)) = absurd (none s w)
meant_one line (Err Unreadable) (Ok d) (short, none) (tight, (s, w, ranged, q)) = absurd (none s w)
meant_one line (Err TooLarge) (Err LongLine) (short, p) q = absurd (omega arith)
meant_one line (Err TooLarge) (Err Unreadable) (short, (s, w, p)) (tight, none) = absurd (none s w)
meant_one line (Err TooLarge) (Err TooLarge) p q = refl
meant_one line (Err TooLarge) (Err (Key BadSequence)) (short, (s, w, out)) (tight, (t, v, ranged, q)) =
    absurd (out (subst InRange (written_one line t s v w) ranged))
meant_one line (Err TooLarge) (Ok d) (short, (s, w, out)) (tight, (t, v, ranged, q)) =
    absurd (out (subst InRange (written_one line t s v w) ranged))
meant_one line (Err (Key BadSequence)) (Err LongLine) (short, p) q = absurd (omega arith)
meant_one line (Err (Key BadSequence)) (Err Unreadable) (short, (s, w, ranged, p)) (tight, none) = absurd (none s w)
meant_one line (Err (Key BadSequence)) (Err TooLarge) (short, (s, w, ranged, p)) (tight, (t, v, out)) =
    absurd (out (subst InRange (written_one line s t w v) ranged))
meant_one line (Err (Key BadSequence)) (Err (Key BadSequence)) p q = refl
meant_one line (Err (Key BadSequence)) (Ok d) (short, (s, w, ranged, many)) (tight, (t, v, within, q)) =
    absurd (asks_none t d (subst NoSequence (written_one line s t w v) many) q)
meant_one line (Ok c) (Err LongLine) (short, p) q = absurd (omega arith)
meant_one line (Ok c) (Err Unreadable) (short, (s, w, ranged, p)) (tight, none) = absurd (none s w)
meant_one line (Ok c) (Err TooLarge) (short, (s, w, ranged, p)) (tight, (t, v, out)) =
    absurd (out (subst InRange (written_one line s t w v) ranged))
meant_one line (Ok c) (Err (Key BadSequence)) (short, (s, w, ranged, p)) (tight, (t, v, within, many)) =
    absurd (asks_none s c (subst NoSequence (written_one line t s v w) many) p)
meant_one line (Ok c) (Ok d) (short, (s, w, ranged, p)) (tight, (t, v, within, q)) =
    ap Ok (asks_one t c d (subst (λ u. Asks u c) (written_one line s t w v) p) q)

-- so what it means is all that it means
pub alone : (line : List ℕ) (r : Result Command LineFault) → Meant line r → OneMeaning line r
alone line r h = (h, λ other k. meant_one line other r k h)
