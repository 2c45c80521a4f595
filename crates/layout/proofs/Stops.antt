-- Ends of runs as places to stop at.
use Rattle.std.proofs.Common.{◌≡◌, ℕ, zero, suc, ◌+◌, ◌-◌, ◌<◌, ◌≤◌, max, ltb, ◌≢◌, ◌⊎◌, sym, ap, ◌∙◌, subst, inl, inr, ⊎_elim, arith}
use Rattle.std.proofs.lemmas.Bool.{cases_lt, cases_eq}
use Rattle.layout.specs.Load.{load, start, busy, tally, rank, Select, EndsRuns, BalanceLaw, BeforeLaw, StopLaw, BlockStopLaw}
use Rattle.layout.specs.Rule.{one_if}
use Rattle.layout.proofs.Loads.{load_step, start_mono, cell_of}
use Rattle.layout.proofs.Ranks.{bit_eq, tally_step, tally_mono, rank_is, selected}
use Rattle.layout.proofs.Moves.{bit_pos, bit_zero}
use Rattle.layout.proofs.Rooms.{select_one_law}

module _ (m end : ℕ → ℕ) (ends : EndsRuns m end) where
  before : (c : ℕ) → 0 < load m c → end (start m c - 1) ≡ 1
  before c l =
      let s : ℕ = start m c - 1 in
      let w = cell_of m s in
      let y : ℕ = w.0 in
      let under : y < c = ⊎_elim (λ (h : y < c). h) (λ (h : c ≤ y). absurd (omega (arith, w.2, start_mono m c y h))) (cases_lt y c) in
      ends y s w.2 w.3 ∙ bit_eq (suc s) (start m y + m y) (omega (arith, w.2, w.3, load_step m y, start_mono m (suc y) c under))

  busy_step : (x : ℕ) → rank (busy m) x ≡ tally (busy m) x + one_if (ltb 0 (m x))
  busy_step x = tally_step (busy m) x

  balance : (x : ℕ) → (load m x ≡ 0 → tally end x ≡ tally (busy m) x) × (0 < load m x → tally end x < tally (busy m) x)
  balance x = (
    λ e. let z : x ≡ start m x = omega arith in ap (tally end) z ∙ rank_is m end ends x,
    λ l.
        let k : ℕ = start m x - 1 in
        let z : start m x ≡ suc k = omega arith in
        omega (arith, before x l, rank_is m end ends x, ap (tally end) z, tally_step end k, tally_mono end x k (omega arith)),
  )

  -- the end with the rank of x, where slot x is used
  stop_at : (x : ℕ) → 0 < load m x + m x → Select end (rank (busy m) x) ((start m x + m x) - 1)
  stop_at x l =
      ⊎_elim (λ (g : 0 < m x). selected m end ends x g)
      (λ (g : m x ≤ 0).
      let a : (start m x + m x) - 1 ≡ start m x - 1 = omega arith in
      let z : suc (start m x - 1) ≡ start m x = omega arith in
      subst (Select end (rank (busy m) x)) (sym a) (record {
        one = before x (omega arith);
        nth = ap (tally end) z ∙ rank_is m end ends x ∙ omega (arith, busy_step x, bit_zero (m x) (omega arith));
      }))
      (cases_lt 0 (m x))

  pub stop : (x : ℕ)
      → (rank (busy m) x ≡ 0 → load m x + m x ≡ 0)
      × ((e : ℕ) → Select end (rank (busy m) x) e → ((e < x) × (load m x + m x ≡ 0)) ⊎ ((x ≤ e) × (suc e ≡ start m x + m x)))
  stop x =
      ⊎_elim
      (λ (l : 0 < load m x + m x).
      let at = stop_at x l in (
        λ z. absurd (omega (arith, z, at.nth, at.one, tally_step end ((start m x + m x) - 1))),
        λ e s. let w : e ≡ (start m x + m x) - 1 = select_one_law end (rank (busy m) x) e ((start m x + m x) - 1) s at in inr (omega arith, omega arith),
      ))
      (λ (l : load m x + m x ≤ 0). (
        λ z. omega arith,
        λ e s. ⊎_elim (λ (g : e < x). inl (g, omega arith))
            (λ (g : x ≤ e). absurd (omega (arith, s.nth, s.one, tally_step end e, tally_mono end x e g, (balance x).0 (omega arith), busy_step x, bit_zero (m x) (omega arith))))
            (cases_lt e x),
      ))
      (cases_lt 0 (load m x + m x))

  -- no busy place from x to c
  quiet : (x c : ℕ) → x ≤ c → rank (busy m) c ≡ tally (busy m) x → (m c ≡ 0) × (start m c ≡ max c (start m x))
  quiet x zero l e =
      let z : x ≡ 0 = omega arith in
      let none : m 0 ≡ 0 = ⊎_elim (λ (g : 0 < m 0). absurd (omega (arith, e, ap (tally (busy m)) z, busy_step 0, bit_pos (m 0) g))) (λ (g : m 0 ≤ 0). omega arith) (cases_lt 0 (m 0)) in
      (none, omega (arith, ap (load m) z))
  quiet x (suc c) l e =
      let none : m (suc c) ≡ 0 = ⊎_elim (λ (g : 0 < m (suc c)). absurd (omega (arith, e, busy_step (suc c), bit_pos (m (suc c)) g, tally_mono (busy m) x (suc c) l)))
      (λ (g : m (suc c) ≤ 0). omega arith) (cases_lt 0 (m (suc c))) in (
        none,
        ⊎_elim (λ (z : x ≡ suc c). omega (arith, ap (load m) z))
            (λ (z : x ≢ suc c).
            let same : rank (busy m) c ≡ tally (busy m) x = omega (arith, e, busy_step (suc c), bit_zero (m (suc c)) none) in
            let ih = quiet x c (omega arith) same in
            omega (arith, ih.0, ih.1, load_step m c))
            (cases_eq x (suc c)),
      )

pub balance_law : BalanceLaw
balance_law m end h x = balance m end h x

pub before_law : BeforeLaw
before_law m end h c l = before m end h c l

pub stop_law : StopLaw
stop_law m end h x = stop m end h x

pub block_stop_law : BlockStopLaw
block_stop_law m end h x c l = (
  λ e. let q = quiet m end h x c l e in omega (arith, q.0, q.1),
  λ e o k. (stop m end h c).1 e (record { one = o; nth = omega (arith, k, rank_is m end h x, tally_mono (busy m) x (suc c) (omega arith)) }),
)
