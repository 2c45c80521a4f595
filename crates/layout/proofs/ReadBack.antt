-- The fingerprints, read back from the slots.
use Rattle.std.proofs.Common.{◌≡◌, ℕ, zero, suc, ◌+◌, ◌-◌, ◌*◌, ◌^◌, ◌<◌, ◌≤◌, max, cond, eqb, List, [], ◌∷◌, ◌++◌, map, length, get_or, drop, sym, refl, ap, ◌∙◌, ap₂, ⊎_elim, arith, drop-cons}
use Rattle.std.specs.List.{AllByRecursion as Every}
use Rattle.std.proofs.lemmas.List.{drop_all}
use Rattle.std.proofs.lemmas.Bool.{cases_lt, cond-true, cond-false, eq-eqb, ne_eqb}
use Rattle.layout.specs.Load.{start}
use Rattle.layout.specs.Rule.{quotient, remainder, Sorted, laid, remainder_at, runend_at, quotient_run, many, occupied_at, Roomy}
use Rattle.layout.specs.Runs.{remainders, InRuns}
use Rattle.layout.specs.Laws.{run_from, read_from, ReadLaw}
use Rattle.layout.proofs.Loads.{load_step, load_none}
use Rattle.layout.proofs.Ranks.{bit_eq, bit_ne}
use Rattle.layout.proofs.Splits.{upper, upper_step, halves, run_all}
use Rattle.layout.proofs.Bridge.{empty, layout_law, lower_none}
use Rattle.layout.proofs.Moves.{bit_pos, bit_zero}
use Rattle.layout.proofs.Inserts.{whole}
use Rattle.layout.proofs.Rooms.{tails, to_numbers, none_from}

-- one run, from its place j on
run_read : (m : ℕ → ℕ) (R : ℕ → List ℕ) (used rem end : ℕ → ℕ) → InRuns m R used rem end → (c n j : ℕ) → j < m c → m c ≤ j + n
    → run_from rem end n (start m c + j) ≡ drop j (R c)
unfolding run_from
run_read m R used rem end h c zero j l g = absurd (omega arith)
run_read m R used rem end h c (suc n) j l g =
    let s : ℕ = start m c + j in
    let lo : start m c ≤ s = omega arith in
    let hi : s < start m (suc c) = omega (arith, load_step m c) in
    let z : s - start m c ≡ j = omega arith in
    let here : rem s ≡ get_or (R c) j 0 = h.holds c s lo hi ∙ ap (λ i. get_or (R c) i 0) z in
    let rest : cond (eqb (end s) 1) [] (run_from rem end n (suc s)) ≡ drop (suc j) (R c) = ⊎_elim
    (λ (k : suc j < m c).
    let e : end s ≡ 0 = h.ends c s lo hi ∙ bit_ne (suc s) (start m c + m c) (λ e. omega arith) in
    let next : suc s ≡ start m c + suc j = omega arith in
    cond-false (eqb (end s) 1) [] (run_from rem end n (suc s)) (ne_eqb (end s) 1 (λ w. omega arith))
    ∙ ap (run_from rem end n) next ∙ run_read m R used rem end h c n (suc j) k (omega arith))
    (λ (k : m c ≤ suc j).
    let e : end s ≡ 1 = h.ends c s lo hi ∙ bit_eq (suc s) (start m c + m c) (omega arith) in
    cond-true (eqb (end s) 1) [] (run_from rem end n (suc s)) (eq-eqb (end s) 1 e)
    ∙ sym (drop_all (suc j) (R c) (omega (arith, h.sizes c))))
    (cases_lt (suc j) (m c)) in
    ap₂ {C = List ℕ} (λ a b. a ∷ b) here rest ∙ sym (drop-cons (R c) j 0 (omega (arith, h.sizes c)))

-- the fingerprints of a quotient from their remainders
with_quotient : (r c : ℕ) (ps : List ℕ) → Every (λ p. quotient r p ≡ c) ps → map (λ x. c * 2 ^ r + x) (map (remainder r) ps) ≡ ps
with_quotient r c [] a = refl
with_quotient r c (p ∷ ps) (e, a) = ap₂ {C = List ℕ} (λ x y. x ∷ y) (ap (λ k. k * 2 ^ r + remainder r p) (sym e) ∙ whole r p) (with_quotient r c ps a)

module _ (slots r bound : ℕ) (ps : List ℕ) (s : Sorted ps) (room : Roomy slots r ps) (under : Every (λ p. quotient r p < bound) ps) where
  read_is : (n c t : ℕ) → c + n ≡ bound → max c t ≡ start (many r ps) c
      → read_from slots r (occupied_at r ps) (remainder_at r (laid r 0 ps)) (runend_at r (laid r 0 ps)) n c t ≡ upper r ps c
  unfolding read_from
  read_is zero c t e z = sym (none_from r bound ps under c (omega arith))
  read_is (suc n) c t e z =
      let occ = occupied_at r ps in
      let rem = remainder_at r (laid r 0 ps) in
      let end = runend_at r (laid r 0 ps) in
      ⊎_elim
      (λ (l : 0 < many r ps c).
      let size : many r ps c ≤ slots = omega (arith, tails r ps s c, to_numbers slots r ps room c) in
      let z0 : max c t ≡ start (many r ps) c + 0 = omega arith in
      let got : run_from rem end slots (max c t) ≡ remainders r ps c =
      ap (run_from rem end slots) z0 ∙ run_read (many r ps) (remainders r ps) _ rem end (layout_law r ps s) c slots 0 l (omega arith) in
      cond-true (eqb (occ c) 1) _ _ (eq-eqb (occ c) 1 (bit_pos (many r ps c) l))
      ∙ ap₂ (λ (a b : List ℕ). a ++ b) (ap (map (λ x. c * 2 ^ r + x)) got ∙ with_quotient r c (quotient_run r ps c) (run_all r ps c))
      (read_is n (suc c) (max c t + length (run_from rem end slots (max c t))) (omega arith)
      (omega (arith, ap length got, (layout_law r ps s).sizes c, load_step (many r ps) c, z)))
      ∙ sym (upper_step r ps c s))
      (λ (l : many r ps c ≤ 0).
      cond-false (eqb (occ c) 1) _ _ (ne_eqb (occ c) 1 (λ w. omega (arith, w, bit_zero (many r ps c) (omega arith))))
      ∙ read_is n (suc c) t (omega arith) (omega (arith, z, load_step (many r ps) c))
      ∙ sym (upper_step r ps c s ∙ ap (λ l. l ++ upper r ps (suc c)) (empty (quotient_run r ps c) l)))
      (cases_lt 0 (many r ps c))

pub read_law : ReadLaw
read_law slots r bound ps s room under =
    read_is slots r bound ps s room under bound 0 0 (omega arith) (omega (arith, load_none (many r ps)))
    ∙ sym (halves r ps 0 s ∙ ap (λ l. l ++ upper r ps 0) (lower_none r ps))
