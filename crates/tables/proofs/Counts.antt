-- How many places hold a record, and how that changes with one place.
use Rattle.std.proofs.Common.{◌≡◌, ℕ, zero, suc, ◌+◌, ◌<◌, ◌≤◌, cond, List, [], ◌∷◌, ◌++◌, map, length, get_or, set, replicate, is_some, Some, None, Option, sym, ap, ◌∙◌, refl, arith}
use Rattle.std.proofs.lemmas.List.Sums.{sum_by-cons, sum_by-set, count_by-le-length}
use Rattle.tables.specs.Rows.{record_count}
use Rattle.tables.proofs.Options.{none_some}

-- 1 for a record, 0 for a free place
abbrev held : {R : Type 0} → Option R → ℕ
held o = cond (is_some o) 1 0

pub count_fits : {R : Type 0} (rows : List (Option R)) → record_count rows ≤ length rows
count_fits rows = count_by-le-length is_some rows

pub count_cons : {R : Type 0} (o : Option R) (rows : List (Option R)) → record_count (o ∷ rows) ≡ held o + record_count rows
count_cons o rows = sum_by-cons held o rows

pub count_free : (R : Type 0) (n : ℕ) → record_count {R = R} (replicate n None) ≡ 0
count_free R zero = refl
count_free R (suc n) = count_cons None (replicate n None) ∙ omega (arith, count_free R n)

pub count_held : {R : Type 0} (rs : List R) (rows : List (Option R)) → record_count (map Some rs ++ rows) ≡ length rs + record_count rows
count_held [] rows = omega arith
count_held (r ∷ rs) rows = count_cons (Some r) (map Some rs ++ rows) ∙ omega (arith, count_held rs rows)

-- a free place is filled
pub count_fill : {R : Type 0} (rows : List (Option R)) (p : ℕ) (r : R) → p < length rows → get_or rows p None ≡ None → record_count (set rows p (Some r)) ≡ record_count rows + 1
count_fill rows p r h e = omega (arith, sum_by-set held rows p (Some r) None h, ap held e)

-- a held place gets another record
pub count_refill : {R : Type 0} (rows : List (Option R)) (p : ℕ) (r s : R) → p < length rows → get_or rows p None ≡ Some s → record_count (set rows p (Some r)) ≡ record_count rows
count_refill rows p r s h e = omega (arith, sum_by-set held rows p (Some r) None h, ap held e)

-- a held place is freed
pub count_clear : {R : Type 0} (rows : List (Option R)) (p : ℕ) (s : R) → p < length rows → get_or rows p None ≡ Some s → record_count (set rows p None) + 1 ≡ record_count rows
count_clear rows p s h e = omega (arith, sum_by-set held rows p None None h, ap held e)

-- where all places hold a record, none is free
pub count_full : {R : Type 0} (rows : List (Option R)) (p : ℕ) → p < length rows → record_count rows ≡ length rows → get_or rows p None ≡ None → ⊥
count_full [] p h c e = absurd (omega arith)
count_full (None ∷ rows) p h c e = omega (arith, count_cons None rows, count_fits rows)
count_full (Some r ∷ rows) zero h c e = none_some r (sym e)
count_full (Some r ∷ rows) (suc p) h c e = count_full rows p (omega arith) (omega (arith, count_cons (Some r) rows)) e
