-- One entry more: each slot after it, by the run that it belongs to.
use Rattle.std.proofs.Common.{◌≡◌, ℕ, zero, suc, ◌+◌, ◌-◌, ◌<◌, ◌≤◌, eqb, ltb, ◌≢◌, ◌⊎◌, List, [], ◌∷◌, ◌++◌, length, get_or, take, drop, sym, refl, ap, ◌∙◌, ap₂, inl, inr, ⊎_elim, arith}
use Rattle.std.proofs.lemmas.Bool.{cases_lt, cases_eq, cases_order, cond-true, cond-false, lt-ltb, le-ltb}
use Rattle.layout.specs.Load.{load, start, OneMore, FirstFree, Raised}
use Rattle.layout.specs.Rule.{one_if}
use Rattle.layout.specs.Runs.{InRuns}
use Rattle.layout.specs.Moves.{PutInRun, Inserted, SlotsLaw}
use Rattle.layout.proofs.Loads.{load_step, start_mono, cell_of, raised, jump_law}
use Rattle.layout.proofs.Ranks.{bit_eq, bit_ne}
use Rattle.layout.proofs.Bridge.{empty}

-- ---- a list with v put at place j

put_below : (l : List ℕ) (j i v : ℕ) → i < j → j ≤ length l → get_or (take j l ++ v ∷ drop j l) i 0 ≡ get_or l i 0
put_below l zero i v g h = absurd (omega arith)
put_below [] (suc j) i v g h = absurd (omega arith)
put_below (x ∷ l) (suc j) zero v g h = refl
put_below (x ∷ l) (suc j) (suc i) v g h = put_below l j i v (omega arith) (omega arith)

put_here : (l : List ℕ) (j v : ℕ) → j ≤ length l → get_or (take j l ++ v ∷ drop j l) j 0 ≡ v
put_here l zero v h = refl
put_here [] (suc j) v h = absurd (omega arith)
put_here (x ∷ l) (suc j) v h = put_here l j v (omega arith)

put_above : (l : List ℕ) (j i v : ℕ) → j ≤ i → j ≤ length l → get_or (take j l ++ v ∷ drop j l) (suc i) 0 ≡ get_or l i 0
put_above l zero i v g h = refl
put_above [] (suc j) i v g h = absurd (omega arith)
put_above (x ∷ l) (suc j) zero v g h = absurd (omega arith)
put_above (x ∷ l) (suc j) (suc i) v g h = put_above l j i v (omega arith) (omega arith)

-- ---- a slot is used just where something waits there or comes there

pub used_is : (m : ℕ → ℕ) (R : ℕ → List ℕ) (used rem end : ℕ → ℕ) → InRuns m R used rem end → (s : ℕ) → used s ≡ one_if (ltb 0 (load m s + m s))
used_is m R used rem end h s =
    let c = cell_of m s in
    let x : ℕ = c.0 in
    h.uses x s c.2 c.3 ∙ ⊎_elim
    (λ (l : 0 < m x). cond-true (ltb 0 (m x)) 1 0 (lt-ltb 0 (m x) l)
    ∙ sym (cond-true (ltb 0 (load m s + m s)) 1 0 (lt-ltb 0 (load m s + m s) ((jump_law m x s (omega (arith, c.2))).0 (omega (arith, c.3, load_step m x))))))
    (λ (l : m x ≤ 0).
    let z : s ≡ x = omega (arith, c.2, c.3, load_step m x) in
    cond-false (ltb 0 (m x)) 1 0 (le-ltb 0 (m x) l)
    ∙ sym (cond-false (ltb 0 (load m s + m s)) 1 0 (le-ltb 0 (load m s + m s) (omega (arith, c.2, c.3, load_step m x, ap m z, ap (load m) z)))))
    (cases_lt 0 (m x))

bit_same : (a b c d : ℕ) → (a ≡ b → c ≡ d) → (c ≡ d → a ≡ b) → one_if (eqb a b) ≡ one_if (eqb c d)
bit_same a b c d h k =
    ⊎_elim (λ e. bit_eq a b e ∙ sym (bit_eq c d (h e))) (λ e. bit_ne a b e ∙ sym (bit_ne c d (λ z. e (k z)))) (cases_eq a b)

pub bit_pos : (k : ℕ) → 0 < k → one_if (ltb 0 k) ≡ 1
bit_pos k l = cond-true (ltb 0 k) 1 0 (lt-ltb 0 k l)

pub bit_zero : (k : ℕ) → k ≡ 0 → one_if (ltb 0 k) ≡ 0
bit_zero k l = cond-false (ltb 0 k) 1 0 (le-ltb 0 k (omega arith))

module _ (m n : ℕ → ℕ) (R R' : ℕ → List ℕ) (c j u v : ℕ) (used rem end used' rem' end' : ℕ → ℕ)
    (old : InRuns m R used rem end) (new : InRuns n R' used' rem' end') (one : OneMore m n c) (f : FirstFree m c u) (put : PutInRun R R' c j v) where
  up : Raised m n c u
  up = raised m n c one u f

  le : j ≤ m c
  le = omega (arith, put.within, old.sizes c)

  -- the run of c, and the newcomer, lie at or below u
  room : start m c + m c ≤ u
  room = ⊎_elim (λ (l : u < start m c + m c). absurd (omega (arith, (jump_law m c u f.from).0 l, f.free))) (λ (l : start m c + m c ≤ u). l) (cases_lt u (start m c + m c))

  start_c : start n c ≡ start m c
  start_c = omega (arith, up.before c (omega arith))

  next_c : start n (suc c) ≡ start m c + suc (m c)
  next_c = omega (arith, load_step n c, one.here, start_c)

  next_u : start m (suc u) ≡ suc u
  next_u = omega (arith, load_step m u, f.free)

  -- below the newcomer: the same run at the same place
  lower_cell : (s : ℕ) → s < start m c + j
      → (rem' s ≡ rem s) × ((end' s ≡ end s) ⊎ ((end' s ≡ 0) × (start m c ≤ s) × (end s ≡ one_if (eqb (suc s) (start m c + m c)))))
  lower_cell s l =
      let w = cell_of n s in
      let x : ℕ = w.0 in
      ⊎_elim
      (λ (e : x ≡ c).
      let lo : start m c ≤ s = omega (arith, w.2, ap (load n) e, start_c) in
      let hi : s < start m (suc c) = omega (arith, load_step m c, le) in
      let z : s - start n c ≡ s - start m c = omega (arith, start_c) in
      let hi' : s < start n (suc c) = omega (arith, next_c, le) in
      let lo' : start n c ≤ s = omega (arith, start_c) in (
        new.holds c s lo' hi' ∙ ap₂ (λ a i. get_or a i 0) put.here z ∙ put_below (R c) j (s - start m c) v (omega arith) put.within ∙ sym (old.holds c s lo hi),
        inr (new.ends c s lo' hi' ∙ bit_ne (suc s) (start n c + n c) (λ g. omega (arith, start_c, one.here, le)), lo, old.ends c s lo hi),
      ))
      (λ o. ⊎_elim
      (λ (g : x < c).
      let a : start n x ≡ start m x = omega (arith, up.before x (omega arith)) in
      let b : start n (suc x) ≡ start m (suc x) = omega (arith, up.before (suc x) (omega arith)) in
      let k : n x ≡ m x = one.other x (λ e. omega arith) in (
        new.holds x s w.2 w.3 ∙ ap₂ (λ l i. get_or l (s - i) 0) (put.other x (λ e. omega arith)) a ∙ sym (old.holds x s (omega (arith, w.2)) (omega (arith, w.3))),
        inl (new.ends x s w.2 w.3 ∙ ap₂ (λ y z. one_if (eqb (suc s) (y + z))) a k ∙ sym (old.ends x s (omega (arith, w.2)) (omega (arith, w.3)))),
      ))
      (λ (g : c < x). absurd (omega (arith, w.2, start_mono n (suc c) x g, next_c, le))) o)
      (cases_order x c)

  here_cell : (rem' (start m c + j) ≡ v) × (end' (start m c + j) ≡ one_if (eqb j (m c)))
  here_cell =
      let s : ℕ = start m c + j in
      let lo : start n c ≤ s = omega (arith, start_c) in
      let hi : s < start n (suc c) = omega (arith, next_c, le) in
      let z : s - start n c ≡ j = omega (arith, start_c) in (
        new.holds c s lo hi ∙ ap₂ (λ a i. get_or a i 0) put.here z ∙ put_here (R c) j v put.within,
        new.ends c s lo hi ∙ bit_same (suc s) (start n c + n c) j (m c) (λ g. omega (arith, start_c, one.here)) (λ g. omega (arith, start_c, one.here)),
      )

  -- from the newcomer up to u: one slot higher
  moved_cell : (s : ℕ) → start m c + j ≤ s → s < u → (rem' (suc s) ≡ rem s) × (end' (suc s) ≡ end s)
  moved_cell s l g =
      let w = cell_of m s in
      let x : ℕ = w.0 in
      let under : x < u = ⊎_elim (λ (h : x < u). h) (λ (h : u ≤ x). absurd (omega (arith, w.2, start_mono m u x h))) (cases_lt x u) in
      let next : start n (suc x) ≡ suc (start m (suc x)) = ⊎_elim
      (λ (h : x < c). absurd (omega (arith, w.3, start_mono m (suc x) c h))) (λ (h : c ≤ x). omega (arith, up.within (suc x) (omega arith) under)) (cases_lt x c) in
      ⊎_elim
      (λ (e : x ≡ c).
      let lo : start m c ≤ s = omega arith in
      let hi : s < start m (suc c) = omega (arith, w.3, ap (λ y. load m (suc y)) e) in
      let lo' : start n c ≤ suc s = omega (arith, start_c) in
      let hi' : suc s < start n (suc c) = omega (arith, next, ap (λ y. load m (suc y)) e, ap (λ y. load n (suc y)) e) in
      let z : suc s - start n c ≡ suc (s - start m c) = omega (arith, start_c) in (
        new.holds c (suc s) lo' hi' ∙ ap₂ (λ a i. get_or a i 0) put.here z ∙ put_above (R c) j (s - start m c) v (omega arith) put.within ∙ sym (old.holds c s lo hi),
        new.ends c (suc s) lo' hi' ∙ bit_same (suc (suc s)) (start n c + n c) (suc s) (start m c + m c) (λ h. omega (arith, start_c, one.here)) (λ h. omega (arith, start_c, one.here)) ∙ sym (old.ends c s lo hi),
      ))
      (λ o. ⊎_elim
      (λ (h : x < c). absurd (omega (arith, w.3, start_mono m (suc x) c h)))
      (λ (h : c < x).
      let a : start n x ≡ suc (start m x) = omega (arith, up.within x h (omega arith)) in
      let k : n x ≡ m x = one.other x (λ e. omega arith) in
      let lo' : start n x ≤ suc s = omega (arith, w.2) in
      let hi' : suc s < start n (suc x) = omega (arith, w.3, next) in
      let z : suc s - start n x ≡ s - start m x = omega arith in (
        new.holds x (suc s) lo' hi' ∙ ap₂ (λ l i. get_or l i 0) (put.other x (λ e. omega arith)) z ∙ sym (old.holds x s w.2 w.3),
        new.ends x (suc s) lo' hi' ∙ bit_same (suc (suc s)) (start n x + n x) (suc s) (start m x + m x) (λ h. omega arith) (λ h. omega arith) ∙ sym (old.ends x s w.2 w.3),
      ))
      o)
      (cases_order x c)

  -- above u: as it was
  upper_cell : (s : ℕ) → u < s → (rem' s ≡ rem s) × (end' s ≡ end s)
  upper_cell s l =
      let w = cell_of m s in
      let x : ℕ = w.0 in
      let over : u < x = ⊎_elim (λ (h : u < x). h) (λ (h : x ≤ u). absurd (omega (arith, w.3, start_mono m (suc x) (suc u) (omega arith), next_u))) (cases_lt u x) in
      let a : start n x ≡ start m x = omega (arith, up.after x over) in
      let b : start n (suc x) ≡ start m (suc x) = omega (arith, up.after (suc x) (omega arith)) in
      let ne : x ≢ c = λ e. omega (arith, f.from) in
      let k : n x ≡ m x = one.other x ne in (
        new.holds x s (omega (arith, w.2)) (omega (arith, w.3)) ∙ ap₂ (λ l i. get_or l (s - i) 0) (put.other x ne) a ∙ sym (old.holds x s w.2 w.3),
        new.ends x s (omega (arith, w.2)) (omega (arith, w.3)) ∙ ap₂ (λ y z. one_if (eqb (suc s) (y + z))) a k ∙ sym (old.ends x s w.2 w.3),
      )

  gap_cell : (rem u ≡ 0) × (end u ≡ 0)
  gap_cell =
      let lo : start m u ≤ u = omega (arith, f.free) in
      let hi : u < start m (suc u) = omega (arith, next_u) in (
        old.holds u u lo hi ∙ ap (λ l. get_or l (u - start m u) 0) (empty (R u) (omega (arith, old.sizes u, f.free))),
        old.ends u u lo hi ∙ bit_ne (suc u) (start m u + m u) (λ e. omega (arith, f.free)),
      )

  used_now : (s : ℕ) → used' s ≡ one_if (ltb 0 (load n s + n s))
  used_now = used_is n R' used' rem' end' new

  used_then : (s : ℕ) → used s ≡ one_if (ltb 0 (load m s + m s))
  used_then = used_is m R used rem end old

  used_cell : (s : ℕ) → s ≢ u → used' s ≡ used s
  used_cell s ne =
      ⊎_elim
      (λ (l : s < c). used_now s ∙ ap₂ (λ a b. one_if (ltb 0 (a + b))) (up.before s (omega arith)) (one.other s (λ e. omega arith)) ∙ sym (used_then s))
      (λ (l : c ≤ s). ⊎_elim
      (λ (g : s < u). used_now s ∙ bit_pos (load n s + n s) (fuller s l (omega arith)) ∙ sym (used_then s ∙ bit_pos (load m s + m s) (f.used s l g)))
      (λ (g : u ≤ s). used_now s ∙ ap₂ (λ a b. one_if (ltb 0 (a + b))) (up.after s (omega arith)) (one.other s (λ e. omega (arith, f.from))) ∙ sym (used_then s))
      (cases_lt s u))
      (cases_lt s c)
    where
      fuller : (s : ℕ) → c ≤ s → s ≤ u → 0 < load n s + n s
      fuller s l g = ⊎_elim (λ (e : s ≡ c). omega (arith, ap n e, one.here)) (λ (e : s ≢ c). omega (arith, up.within s (omega arith) g)) (cases_eq s c)

  pub inserted : Inserted m c j u v used rem end used' rem' end'
  inserted = record {
    room = omega (arith, room, le);
    fills = used_now u ∙ bit_pos (load n u + n u)
        (⊎_elim (λ (e : u ≡ c). omega (arith, ap n e, one.here)) (λ (e : u ≢ c). omega (arith, up.within u (omega (arith, f.from)) (omega arith))) (cases_eq u c));
    empty = used_then u ∙ bit_zero (load m u + m u) f.free;
    uses = used_cell;
    remainders = record {
      below = λ s l. (lower_cell s l).0;
      here = here_cell.0;
      moved = λ s l g. (moved_cell s l g).0;
      above = λ s l. (upper_cell s l).0;
      gap = gap_cell.0;
    };
    ends = record {
      below = λ s l. ⊎_elim (λ e. e) (λ w. w.0 ∙ sym (w.2 ∙ bit_ne (suc s) (start m c + m c) (λ e. omega (arith, le)))) (lower_cell s (omega arith)).1;
      kept = λ s e h. ⊎_elim (λ e. e)
          (λ w. ⊎_elim (λ z. absurd (omega (arith, w.1))) (λ z. w.0 ∙ sym (w.2 ∙ bit_ne (suc s) (start m c + m c) (λ g. omega arith))) h) (lower_cell s (omega arith)).1;
      cleared = λ s e h g. (
        new.ends c s (omega (arith, start_c)) (omega (arith, next_c)) ∙ bit_ne (suc s) (start n c + n c) (λ z. omega (arith, start_c, one.here)),
        old.ends c s (omega arith) (omega (arith, load_step m c)) ∙ bit_eq (suc s) (start m c + m c) (omega arith),
      );
      here = here_cell.1;
      moved = λ s l g. (moved_cell s l g).1;
      above = λ s l. (upper_cell s l).1;
      gap = gap_cell.1;
    };
  }

pub slots_law : SlotsLaw
slots_law m n R R' c j u v used rem end used' rem' end' old new one f put = inserted m n R R' c j u v used rem end used' rem' end' old new one f put
