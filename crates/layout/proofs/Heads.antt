-- Where a run starts and stops, by the ends of runs that are counted from some slot on: its own, or a later one up to its start.
use Rattle.std.proofs.Common.{◌≡◌, ℕ, suc, ◌+◌, ◌-◌, ◌<◌, ◌≤◌, ap, ⊎_elim, arith}
use Rattle.std.proofs.lemmas.Bool.{cases_lt}
use Rattle.layout.specs.Load.{start, busy, tally, rank, Select, EndsRuns}
use Rattle.layout.proofs.Moves.{bit_pos}
use Rattle.layout.proofs.Ranks.{tally_step, tally_mono, rank_is, selected}
use Rattle.layout.proofs.Rooms.{select_one_law}
use Rattle.layout.proofs.Stops.{before_law}

module _ (m end : ℕ → ℕ) (ends : EndsRuns m end) where
  -- x lies from c up to the start of c
  module _ (c x : ℕ) (lo : c ≤ x) (hi : x ≤ start m c) where
    -- where no run ends from x up to that start, it is x itself
    pub start_here : tally end x ≡ tally end (start m c) → x ≡ start m c
    start_here same =
        ⊎_elim
        (λ (l : x < start m c).
        let last : ℕ = start m c - 1 in
        let z : suc last ≡ start m c = omega arith in
        absurd (omega (arith, same, before_law m end ends c (omega arith), ap (tally end) z, tally_step end last, tally_mono end x last (omega arith))))
        (λ (l : start m c ≤ x). omega arith) (cases_lt x (start m c))

    -- else it is the slot after the last of those that do
    pub start_after : (e : ℕ) → tally end x < tally end (start m c) → end e ≡ 1 → tally end (suc e) ≡ tally end (start m c) → suc e ≡ start m c
    start_after e some one nth =
        ⊎_elim
        (λ (l : x < start m c).
        let last : ℕ = start m c - 1 in
        let z : suc last ≡ start m c = omega arith in
        let here : Select end (tally end (start m c)) last = record { one = before_law m end ends c (omega arith); nth = ap (tally end) z } in
        let its : Select end (tally end (start m c)) e = record { one = one; nth = nth } in
        omega (arith, select_one_law end (tally end (start m c)) e last its here))
        (λ (l : start m c ≤ x). let z : x ≡ start m c = omega arith in absurd (omega (arith, some, ap (tally end) z)))
        (cases_lt x (start m c))

  -- the run of a busy c stops after the end that comes next from its start on
  pub stop_after : (c e : ℕ) → 0 < m c → end e ≡ 1 → tally end (suc e) ≡ tally end (start m c) + 1 → suc e ≡ start m c + m c
  stop_after c e pos one nth =
      let last : ℕ = (start m c + m c) - 1 in
      let n : ℕ = rank (busy m) c in
      let its : Select end n e = record { one = one; nth = omega (arith, nth, rank_is m end ends c, tally_step (busy m) c, bit_pos (m c) pos) } in
      omega (arith, pos, select_one_law end n e last its (selected m end ends c pos))
