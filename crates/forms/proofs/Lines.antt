-- A line of each form, from its fields.
use Rattle.std.proofs.Common.{◌≡◌, ℕ, ◌≤◌, List, ◌++◌, length, ℤ, Err, codes, subst, ⊎_elim, arith}
use Rattle.kinds.specs.declared.ligature.KeyFault.TheVariants.{BadSequence}
use Rattle.figures.specs.declared.FigureFault.{FigureFault}
use Rattle.figures.specs.declared.FigureFault.TheVariants.{Unreadable as NoFigure, TooLarge as Large}
use Rattle.figures.specs.Amounts.{PairLine, Paired}
use Rattle.figures.proofs.Words.{apart}
use Rattle.forms.specs.declared.fault.LineFault.{LineFault}
use Rattle.forms.specs.declared.fault.LineFault.TheVariants.{LongLine, Unreadable, TooLarge, Key}
use Rattle.forms.specs.Faults.{of_figure}
use Rattle.forms.specs.Rows.{Numbers}
use Rattle.forms.specs.Shapes.{Shape, pair, drop, find, lig, unlig, seek, Couple, Joined, Written}
use Rattle.forms.specs.Fields.{Coupled, Sequenced, Ligated}
use Rattle.forms.specs.Meaning.{Meant}

-- a line that begins as one form does is of no other, since the first letters differ: what holds of the shapes of that form holds of its shape
pub only_pair : (line rest : List ℕ) → line ≡ codes "pair " ++ rest → (P : Shape → Type 0) →
    ((a b : ℕ) (z : ℤ) → PairLine rest a b z → P (pair a b z)) → (s : Shape) → Written line s → P s
only_pair line rest e P all (pair a b z) (r, f, p) = let same : r ≡ rest = cc in all a b z (subst (λ l. PairLine l a b z) same p)
only_pair line rest e P all (drop a b) (r, f, p) = absurd (apart 0 line _ _ e f (λ q. omega arith))
only_pair line rest e P all (find a b) (r, f, p) = absurd (apart 0 line _ _ e f (λ q. omega arith))
only_pair line rest e P all (lig gs g) (r, f, p) = absurd (apart 0 line _ _ e f (λ q. omega arith))
only_pair line rest e P all (unlig gs) (r, f, p) = absurd (apart 0 line _ _ e f (λ q. omega arith))
only_pair line rest e P all (seek gs) (r, f, p) = absurd (apart 0 line _ _ e f (λ q. omega arith))

pub only_drop : (line rest : List ℕ) → line ≡ codes "drop " ++ rest → (P : Shape → Type 0) →
    ((a b : ℕ) → Couple a b rest → P (drop a b)) → (s : Shape) → Written line s → P s
only_drop line rest e P all (pair a b z) (r, f, p) = absurd (apart 0 line _ _ e f (λ q. omega arith))
only_drop line rest e P all (drop a b) (r, f, p) = let same : r ≡ rest = cc in all a b (subst (Couple a b) same p)
only_drop line rest e P all (find a b) (r, f, p) = absurd (apart 0 line _ _ e f (λ q. omega arith))
only_drop line rest e P all (lig gs g) (r, f, p) = absurd (apart 0 line _ _ e f (λ q. omega arith))
only_drop line rest e P all (unlig gs) (r, f, p) = absurd (apart 0 line _ _ e f (λ q. omega arith))
only_drop line rest e P all (seek gs) (r, f, p) = absurd (apart 0 line _ _ e f (λ q. omega arith))

pub only_find : (line rest : List ℕ) → line ≡ codes "find " ++ rest → (P : Shape → Type 0) →
    ((a b : ℕ) → Couple a b rest → P (find a b)) → (s : Shape) → Written line s → P s
only_find line rest e P all (pair a b z) (r, f, p) = absurd (apart 0 line _ _ e f (λ q. omega arith))
only_find line rest e P all (drop a b) (r, f, p) = absurd (apart 0 line _ _ e f (λ q. omega arith))
only_find line rest e P all (find a b) (r, f, p) = let same : r ≡ rest = cc in all a b (subst (Couple a b) same p)
only_find line rest e P all (lig gs g) (r, f, p) = absurd (apart 0 line _ _ e f (λ q. omega arith))
only_find line rest e P all (unlig gs) (r, f, p) = absurd (apart 0 line _ _ e f (λ q. omega arith))
only_find line rest e P all (seek gs) (r, f, p) = absurd (apart 0 line _ _ e f (λ q. omega arith))

pub only_lig : (line rest : List ℕ) → line ≡ codes "lig " ++ rest → (P : Shape → Type 0) →
    ((gs : List ℕ) (g : ℕ) → Joined gs g rest → P (lig gs g)) → (s : Shape) → Written line s → P s
only_lig line rest e P all (pair a b z) (r, f, p) = absurd (apart 0 line _ _ e f (λ q. omega arith))
only_lig line rest e P all (drop a b) (r, f, p) = absurd (apart 0 line _ _ e f (λ q. omega arith))
only_lig line rest e P all (find a b) (r, f, p) = absurd (apart 0 line _ _ e f (λ q. omega arith))
only_lig line rest e P all (lig gs g) (r, f, p) = let same : r ≡ rest = cc in all gs g (subst (Joined gs g) same p)
only_lig line rest e P all (unlig gs) (r, f, p) = absurd (apart 0 line _ _ e f (λ q. omega arith))
only_lig line rest e P all (seek gs) (r, f, p) = absurd (apart 0 line _ _ e f (λ q. omega arith))

pub only_unlig : (line rest : List ℕ) → line ≡ codes "unlig " ++ rest → (P : Shape → Type 0) →
    ((gs : List ℕ) → Numbers rest gs → P (unlig gs)) → (s : Shape) → Written line s → P s
only_unlig line rest e P all (pair a b z) (r, f, p) = absurd (apart 0 line _ _ e f (λ q. omega arith))
only_unlig line rest e P all (drop a b) (r, f, p) = absurd (apart 0 line _ _ e f (λ q. omega arith))
only_unlig line rest e P all (find a b) (r, f, p) = absurd (apart 0 line _ _ e f (λ q. omega arith))
only_unlig line rest e P all (lig gs g) (r, f, p) = absurd (apart 0 line _ _ e f (λ q. omega arith))
only_unlig line rest e P all (unlig gs) (r, f, p) = let same : r ≡ rest = cc in all gs (subst (λ l. Numbers l gs) same p)
only_unlig line rest e P all (seek gs) (r, f, p) = absurd (apart 0 line _ _ e f (λ q. omega arith))

pub only_seek : (line rest : List ℕ) → line ≡ codes "seek " ++ rest → (P : Shape → Type 0) →
    ((gs : List ℕ) → Numbers rest gs → P (seek gs)) → (s : Shape) → Written line s → P s
only_seek line rest e P all (pair a b z) (r, f, p) = absurd (apart 0 line _ _ e f (λ q. omega arith))
only_seek line rest e P all (drop a b) (r, f, p) = absurd (apart 0 line _ _ e f (λ q. omega arith))
only_seek line rest e P all (find a b) (r, f, p) = absurd (apart 0 line _ _ e f (λ q. omega arith))
only_seek line rest e P all (lig gs g) (r, f, p) = absurd (apart 0 line _ _ e f (λ q. omega arith))
only_seek line rest e P all (unlig gs) (r, f, p) = absurd (apart 0 line _ _ e f (λ q. omega arith))
only_seek line rest e P all (seek gs) (r, f, p) = let same : r ≡ rest = cc in all gs (subst (λ l. Numbers l gs) same p)

-- what is told of the fields is told of the line
pub pair_fault : (line rest : List ℕ) (f : FigureFault) → length line ≤ 80 → line ≡ codes "pair " ++ rest → Paired rest (Err f) → Meant line (Err (of_figure f))
pair_fault line rest NoFigure short e h = (short, only_pair line rest e (λ s. ⊥) h)
pair_fault line rest Large short e (a, b, z, reading, why) =
    (short, (pair a b z, (rest, e, reading), λ (lo, hi, within). ⊎_elim (λ k. omega arith) (⊎_elim (λ k. omega arith) (λ k. k within)) why))

pub drop_fault : (line rest : List ℕ) (f : LineFault) → length line ≤ 80 → line ≡ codes "drop " ++ rest → Coupled rest (Err f) → Meant line (Err f)
drop_fault line rest LongLine short e h = absurd h
drop_fault line rest Unreadable short e h = (short, only_drop line rest e (λ s. ⊥) h)
drop_fault line rest TooLarge short e (a, b, reading, out) = (short, (drop a b, (rest, e, reading), out))
drop_fault line rest (Key k) short e h = absurd h

pub find_fault : (line rest : List ℕ) (f : LineFault) → length line ≤ 80 → line ≡ codes "find " ++ rest → Coupled rest (Err f) → Meant line (Err f)
find_fault line rest LongLine short e h = absurd h
find_fault line rest Unreadable short e h = (short, only_find line rest e (λ s. ⊥) h)
find_fault line rest TooLarge short e (a, b, reading, out) = (short, (find a b, (rest, e, reading), out))
find_fault line rest (Key k) short e h = absurd h

pub lig_fault : (line rest : List ℕ) (f : LineFault) → length line ≤ 80 → line ≡ codes "lig " ++ rest → Ligated rest (Err f) → Meant line (Err f)
lig_fault line rest LongLine short e h = absurd h
lig_fault line rest Unreadable short e h = (short, only_lig line rest e (λ s. ⊥) h)
lig_fault line rest TooLarge short e (gs, g, reading, out) = (short, (lig gs g, (rest, e, reading), out))
lig_fault line rest (Key BadSequence) short e (gs, g, reading, all, glyph, many) = (short, (lig gs g, (rest, e, reading), (all, glyph), many))

pub unlig_fault : (line rest : List ℕ) (f : LineFault) → length line ≤ 80 → line ≡ codes "unlig " ++ rest → Sequenced rest (Err f) → Meant line (Err f)
unlig_fault line rest LongLine short e h = absurd h
unlig_fault line rest Unreadable short e h = (short, only_unlig line rest e (λ s. ⊥) h)
unlig_fault line rest TooLarge short e (gs, reading, out) = (short, (unlig gs, (rest, e, reading), out))
unlig_fault line rest (Key BadSequence) short e (gs, reading, all, many) = (short, (unlig gs, (rest, e, reading), all, many))

pub seek_fault : (line rest : List ℕ) (f : LineFault) → length line ≤ 80 → line ≡ codes "seek " ++ rest → Sequenced rest (Err f) → Meant line (Err f)
seek_fault line rest LongLine short e h = absurd h
seek_fault line rest Unreadable short e h = (short, only_seek line rest e (λ s. ⊥) h)
seek_fault line rest TooLarge short e (gs, reading, out) = (short, (seek gs, (rest, e, reading), out))
seek_fault line rest (Key BadSequence) short e (gs, reading, all, many) = (short, (seek gs, (rest, e, reading), all, many))
