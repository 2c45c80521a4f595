-- RANK and SELECT over the ends of the runs.
use Rattle.std.proofs.Common.{◌≡◌, ℕ, zero, suc, ◌+◌, ◌-◌, ◌<◌, ◌≤◌, eqb, ltb, ◌≢◌, sym, refl, ap, ◌∙◌, ⊎_elim, arith}
use Rattle.std.proofs.lemmas.Bool.{cases_lt, cases_eq, cond-true, cond-false, eq-eqb, ne_eqb, lt-ltb, le-ltb}
use Rattle.layout.specs.Load.{load, start, busy, tally, rank, Select, EndsRuns, RankLaw, SelectLaw, BlockLaw}
use Rattle.layout.specs.Rule.{one_if}
use Rattle.layout.proofs.Loads.{load_step, load_none, start_mono}

pub bit_eq : (a b : ℕ) → a ≡ b → one_if (eqb a b) ≡ 1
bit_eq a b e = cond-true (eqb a b) 1 0 (eq-eqb a b e)

pub bit_ne : (a b : ℕ) → a ≢ b → one_if (eqb a b) ≡ 0
bit_ne a b e = cond-false (eqb a b) 1 0 (ne_eqb a b e)

pub tally_step : (f : ℕ → ℕ) (n : ℕ) → tally f (suc n) ≡ tally f n + f n
unfolding tally
tally_step f n = refl

pub tally_none : (f : ℕ → ℕ) → tally f 0 ≡ 0
unfolding tally
tally_none f = refl

pub tally_mono : (f : ℕ → ℕ) (x y : ℕ) → x ≤ y → tally f x ≤ tally f y
tally_mono f x zero l = let z : x ≡ 0 = omega arith in omega (arith, ap (tally f) z)
tally_mono f x (suc y) l =
    ⊎_elim (λ (z : x ≡ suc y). omega (arith, ap (tally f) z)) (λ (z : x ≢ suc y). omega (arith, tally_step f y, tally_mono f x y (omega arith))) (cases_eq x (suc y))

tally_zeros : (f : ℕ → ℕ) (a n : ℕ) → ((s : ℕ) → a ≤ s → s < a + n → f s ≡ 0) → tally f (a + n) ≡ tally f a
tally_zeros f a zero h = let z : a + 0 ≡ a = omega arith in ap (tally f) z
tally_zeros f a (suc n) h =
    let z : a + suc n ≡ suc (a + n) = omega arith in
    omega (arith, ap (tally f) z, tally_step f (a + n), tally_zeros f a n (λ s l g. h s l (omega arith)), h (a + n) (omega arith) (omega arith))

module _ (m end : ℕ → ℕ) (ends : EndsRuns m end) where
  run_end : (x : ℕ) → 0 < m x → start m (suc x) ≡ start m x + m x
  run_end x l = omega (arith, load_step m x)

  pub last_one : (x : ℕ) → 0 < m x → end ((start m x + m x) - 1) ≡ 1
  last_one x l = ends x ((start m x + m x) - 1) (omega arith) (omega (arith, run_end x l)) ∙ bit_eq (suc ((start m x + m x) - 1)) (start m x + m x) (omega arith)

  tally_run : (x : ℕ) → 0 < m x → tally end (start m x + m x) ≡ suc (tally end (start m x))
  tally_run x l =
      let k : ℕ = m x - 1 in
      let z : start m x + m x ≡ suc (start m x + k) = omega arith in
      let y : (start m x + m x) - 1 ≡ start m x + k = omega arith in
      omega (
        arith,
        ap (tally end) z,
        tally_step end (start m x + k),
        ap end y,
        last_one x l,
        tally_zeros end (start m x) k (λ s g h. ends x s g (omega (arith, run_end x l)) ∙ bit_ne (suc s) (start m x + m x) (λ e. omega arith)),
      )

  pub rank_is : (x : ℕ) → tally end (start m x) ≡ tally (busy m) x
  rank_is zero = let z : start m 0 ≡ 0 = omega (arith, load_none m) in ap (tally end) z ∙ tally_none end ∙ sym (tally_none (busy m))
  rank_is (suc x) =
      ⊎_elim
      (λ (l : 0 < m x).
      let yes : busy m x ≡ 1 = cond-true (ltb 0 (m x)) 1 0 (lt-ltb 0 (m x) l) in
      omega (arith, ap (tally end) (run_end x l), tally_run x l, rank_is x, tally_step (busy m) x))
      (λ (l : m x ≤ 0).
      let no : busy m x ≡ 0 = cond-false (ltb 0 (m x)) 1 0 (le-ltb 0 (m x) l) in
      ⊎_elim
      (λ (g : 0 < load m x). let z : start m (suc x) ≡ start m x = omega (arith, load_step m x) in omega (arith, ap (tally end) z, rank_is x, tally_step (busy m) x))
      (λ (g : load m x ≤ 0).
      let z : start m (suc x) ≡ suc (start m x) = omega (arith, load_step m x) in
      omega (
        arith,
        ap (tally end) z,
        tally_step end (start m x),
        rank_is x,
        tally_step (busy m) x,
        ends x (start m x) (omega arith) (omega arith) ∙ bit_ne (suc (start m x)) (start m x + m x) (λ e. omega arith),
      ))
      (cases_lt 0 (load m x)))
      (cases_lt 0 (m x))

  pub selected : (c : ℕ) → 0 < m c → Select end (rank (busy m) c) ((start m c + m c) - 1)
  selected c l =
      let z : suc ((start m c + m c) - 1) ≡ start m (suc c) = omega (arith, run_end c l) in
      record { one = last_one c l; nth = ap (tally end) z ∙ rank_is (suc c) }

  pub in_block : (x c : ℕ) → x ≤ c → 0 < m c
      → (start m x ≤ (start m c + m c) - 1) × (tally end (start m c + m c) ≡ tally end (start m x) + (rank (busy m) c - tally (busy m) x))
  in_block x c l g = (
    omega (arith, start_mono m x c l),
    omega (arith, ap (tally end) (run_end c g), rank_is (suc c), rank_is x, tally_mono (busy m) x (suc c) (omega arith)),
  )

pub rank_law : RankLaw
rank_law m end h x = rank_is m end h x

pub select_law : SelectLaw
select_law m end h c l = selected m end h c l

pub block_law : BlockLaw
block_law m end h x c l g = in_block m end h x c l g
