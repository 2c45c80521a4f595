-- One fingerprint more or less, in the slots of the rule.
use Rattle.std.proofs.Common.{◌≡◌, ℕ, zero, suc, ◌-◌, ◌<◌, ◌≤◌, Bool, true, false, ◌&&◌, eqb, ltb, leb, ◌≢◌, sym, ap, ◌∙◌, subst, ⊎_elim, arith}
use Rattle.std.proofs.lemmas.Bool.{cases_lt, cases_eq, cond-true, cond-false, eq-eqb, ne_eqb, le-leb, lt-leb, lt-ltb, le-ltb, and_from, and_left, and_right}
use Rattle.layout.specs.Load.{load, OneMore, FirstFree, FirstIdle, Lowered}
use Rattle.layout.specs.Rule.{one_if, quotient, remainder, with_one, without_one, laid, used_at, remainder_at, runend_at, many, occupied_at}
use Rattle.layout.specs.Runs.{remainders}
use Rattle.layout.specs.Moves.{InsertSlotsLaw, RemoveSlotsLaw, InsertOffsetsLaw, RemoveOffsetsLaw, InsertOccupiedLaw}
use Rattle.layout.proofs.Loads.{load_step, raised, lowered}
use Rattle.layout.proofs.Bridge.{layout_law, offset_law}
use Rattle.layout.proofs.Moves.{slots_law, bit_pos}
use Rattle.layout.proofs.Inserts.{sorted_insert, sorted_remove, one_insert, put_insert, one_remove, put_remove}

-- the slot before the first idle one is free without the entry
free_before : (m n : ℕ → ℕ) (c t : ℕ) → OneMore m n c → FirstIdle n c t → FirstFree m c (t - 1)
free_before m n c zero one f = absurd (omega (arith, f.from))
free_before m n c (suc t) one f =
    let z : suc t - 1 ≡ t = omega arith in
    let low : Lowered n m c (suc t) = lowered m n c one (suc t) f in
    let at_c : (x : ℕ) → x ≡ c → (n x ≡ suc (m x)) × (load m x ≡ load n x) = λ x e. (ap n e ∙ one.here ∙ ap (λ y. suc (m y)) (sym e), low.before x (omega arith)) in
    subst (FirstFree m c) (sym z) (record {
      from = omega (arith, f.from);
      free = ⊎_elim (λ (e : t ≡ c). omega (arith, f.idle, load_step n t, (at_c t e).0, (at_c t e).1))
          (λ (e : t ≢ c). omega (arith, f.idle, f.from, load_step n t, one.other t e, low.within t (omega (arith, f.from)) (omega arith))) (cases_eq t c);
      used = λ x l g. ⊎_elim (λ (e : x ≡ c). omega (arith, f.waits (suc x) (omega arith) (omega arith), load_step n x, (at_c x e).0, (at_c x e).1))
          (λ (e : x ≢ c). omega (arith, f.waits (suc x) (omega arith) (omega arith), load_step n x, one.other x e, low.within x (omega arith) (omega arith))) (cases_eq x c);
    })

pub insert_slots_law : InsertSlotsLaw
insert_slots_law r p ps j u s f fit =
    slots_law (many r ps) (many r (with_one p ps)) (remainders r ps) (remainders r (with_one p ps)) (quotient r p) j u (remainder r p)
    (used_at (laid r 0 ps)) (remainder_at r (laid r 0 ps)) (runend_at r (laid r 0 ps))
    (used_at (laid r 0 (with_one p ps))) (remainder_at r (laid r 0 (with_one p ps))) (runend_at r (laid r 0 (with_one p ps)))
    (layout_law r ps s) (layout_law r (with_one p ps) (sorted_insert p ps s)) (one_insert r p ps s) f (put_insert r p ps s j fit)

pub remove_slots_law : RemoveSlotsLaw
remove_slots_law r p ps j t s l e f =
    slots_law (many r (without_one p ps)) (many r ps) (remainders r (without_one p ps)) (remainders r ps) (quotient r p) j (t - 1) (remainder r p)
    (used_at (laid r 0 (without_one p ps))) (remainder_at r (laid r 0 (without_one p ps))) (runend_at r (laid r 0 (without_one p ps)))
    (used_at (laid r 0 ps)) (remainder_at r (laid r 0 ps)) (runend_at r (laid r 0 ps))
    (layout_law r (without_one p ps) (sorted_remove p ps s)) (layout_law r ps s) (one_remove r p ps s j l e)
    (free_before (many r (without_one p ps)) (many r ps) (quotient r p) t (one_remove r p ps s j l e) f) (put_remove r p ps s j l e)

bit_and : (a b : Bool) → (a ≡ true) → (b ≡ true) → one_if (a && b) ≡ 1
bit_and a b e h = cond-true (a && b) 1 0 (and_from a b e h)

bit_left : (a b : Bool) → a ≡ false → one_if (a && b) ≡ 0
bit_left a b e = cond-false (a && b) 1 0 (and_left a b e)

bit_right : (a b : Bool) → b ≡ false → one_if (a && b) ≡ 0
bit_right a b e = cond-false (a && b) 1 0 (and_right a b e)

pub insert_offsets_law : InsertOffsetsLaw
insert_offsets_law r p ps u s f x =
    let c : ℕ = quotient r p in
    let up = raised (many r ps) (many r (with_one p ps)) (quotient r p) (one_insert r p ps s) u f in
    let a = offset_law r ps s x in
    let b = offset_law r (with_one p ps) (sorted_insert p ps s) x in
    ⊎_elim
    (λ (l : quotient r p < x). ⊎_elim
    (λ (g : u < x). omega (arith, a, b, up.after x g, bit_right (ltb (quotient r p) x) (leb x u) (lt-leb x u g)))
    (λ (g : x ≤ u). omega (arith, a, b, up.within x l g, bit_and (ltb (quotient r p) x) (leb x u) (lt-ltb (quotient r p) x l) (le-leb x u g)))
    (cases_lt u x))
    (λ (l : x ≤ quotient r p). omega (arith, a, b, up.before x l, bit_left (ltb (quotient r p) x) (leb x u) (le-ltb (quotient r p) x l)))
    (cases_lt (quotient r p) x)

pub remove_offsets_law : RemoveOffsetsLaw
remove_offsets_law r p ps j t s h e f x =
    let low = lowered (many r (without_one p ps)) (many r ps) (quotient r p) (one_remove r p ps s j h e) t f in
    let a = offset_law r ps s x in
    let b = offset_law r (without_one p ps) (sorted_remove p ps s) x in
    ⊎_elim
    (λ (l : quotient r p < x). ⊎_elim
    (λ (g : x < t). omega (arith, a, b, low.within x l g, bit_and (ltb (quotient r p) x) (ltb x t) (lt-ltb (quotient r p) x l) (lt-ltb x t g)))
    (λ (g : t ≤ x). omega (arith, a, b, low.after x g, bit_right (ltb (quotient r p) x) (ltb x t) (le-ltb x t g)))
    (cases_lt x t))
    (λ (l : x ≤ quotient r p). omega (arith, a, b, low.before x l, bit_left (ltb (quotient r p) x) (ltb x t) (le-ltb (quotient r p) x l)))
    (cases_lt (quotient r p) x)

pub insert_occupied_law : InsertOccupiedLaw
insert_occupied_law r p ps s x =
    let one = one_insert r p ps s in
    ⊎_elim
    (λ (e : x ≡ quotient r p). bit_pos (many r (with_one p ps) x) (omega (arith, ap (many r (with_one p ps)) e, one.here)) ∙ sym (cond-true (eqb x (quotient r p)) 1 (occupied_at r ps x) (eq-eqb x (quotient r p) e)))
    (λ (e : x ≢ quotient r p). ap (λ k. one_if (ltb 0 k)) (one.other x e) ∙ sym (cond-false (eqb x (quotient r p)) 1 (occupied_at r ps x) (ne_eqb x (quotient r p) e)))
    (cases_eq x (quotient r p))
