-- The layout rule: in which slot each fingerprint of a list lies, and what a slot then shows.
use Rattle.std.specs.Prelude.{ℕ, suc, ◌+◌, ◌-◌, ◌/◌, ◌%◌, ◌^◌, ◌<◌, ◌≤◌, max, Bool, true, cond, not, ◌&&◌, leb, List, [], ◌∷◌, length, filter, ◌==◌, nat_eq, nat_le, nat_lt}
use Rattle.std.specs.List.{AllByRecursion as Every}

-- ---- a fingerprint, with remainders of r bits

unfoldable pub quotient : ℕ → ℕ → ℕ
quotient r p = p / 2 ^ r

unfoldable pub remainder : ℕ → ℕ → ℕ
remainder r p = p % 2 ^ r

-- ---- fingerprints in rising order, equal ones side by side

abbrev pub Sorted : List ℕ → Type 0
Sorted [] = Unit {0}
Sorted (p ∷ ps) = Every (λ q. p ≤ q) ps × Sorted ps

-- p among sorted fingerprints, before the first that is not smaller
unfoldable pub with_one : ℕ → List ℕ → List ℕ
with_one p [] = p ∷ []
with_one p (q ∷ qs) = cond (nat_le p q) (p ∷ q ∷ qs) (q ∷ with_one p qs)

unfoldable pub sorted : List ℕ → List ℕ
sorted [] = []
sorted (p ∷ ps) = with_one p (sorted ps)

-- without the first p
unfoldable pub without_one : ℕ → List ℕ → List ℕ
without_one p [] = []
without_one p (q ∷ qs) = cond (p == q) qs (q ∷ without_one p qs)

-- ---- the rule

-- a fingerprint in its slot
pub record Entry : Type 0 where
  pub slot : ℕ
  pub fingerprint : ℕ

-- The fingerprints in rising order: each lies in the slot of its quotient, or in the slot after the one before it if that is later.
-- next is the slot after the one before, and 0 at the first.
unfoldable pub laid : ℕ → ℕ → List ℕ → List Entry
laid r next [] = []
laid r next (p ∷ ps) =
    record { slot = max (quotient r p) next; fingerprint = p } ∷ laid r (suc (max (quotient r p) next)) ps

-- the layout of a list in any order
abbrev pub layout : ℕ → List ℕ → List Entry
layout r ps = laid r 0 (sorted ps)

-- ---- what each slot shows

abbrev pub one_if : Bool → ℕ
one_if b = cond b 1 0

-- what f says of the fingerprint in slot s and of the entries after it, or d where slot s is free
unfoldable pub reading_at : {X : Type 0} → (ℕ → List Entry → X) → X → List Entry → ℕ → X
reading_at f d [] s = d
reading_at f d (e ∷ es) s = cond (s == e.slot) (f e.fingerprint es) (reading_at f d es s)

-- 1 if an entry lies in slot s
abbrev pub used_at : List Entry → ℕ → ℕ
used_at es s = reading_at (λ p later. 1) 0 es s

-- the remainder in slot s, and 0 in a free one
abbrev pub remainder_at : ℕ → List Entry → ℕ → ℕ
remainder_at r es s = reading_at (λ p later. remainder r p) 0 es s

-- whether the entry that comes next has another quotient than c, or there is none
unfoldable pub others : ℕ → ℕ → List Entry → Bool
others r c [] = true
others r c (e ∷ es) = not (quotient r e.fingerprint == c)

-- the runend bit: 1 if slot s holds the last entry of its quotient
abbrev pub runend_at : ℕ → List Entry → ℕ → ℕ
runend_at r es s = reading_at (λ p later. one_if (others r (quotient r p) later)) 0 es s

-- the offset at slot x: how many entries lie at or after slot x and have a quotient below x
unfoldable pub offset_at : ℕ → List Entry → ℕ → ℕ
offset_at r [] x = 0
offset_at r (e ∷ es) x = one_if (nat_le x e.slot && nat_lt (quotient r e.fingerprint) x) + offset_at r es x

-- the run of quotient c: its fingerprints, in their order
abbrev pub quotient_run : ℕ → List ℕ → ℕ → List ℕ
quotient_run r ps c = filter (λ p. nat_eq (quotient r p) c) ps

-- how many fingerprints have quotient c
abbrev pub many : ℕ → List ℕ → ℕ → ℕ
many r ps c = length (quotient_run r ps c)

-- the occupied bit: 1 if some fingerprint has quotient c
abbrev pub occupied_at : ℕ → List ℕ → ℕ → ℕ
occupied_at r ps c = one_if (nat_lt 0 (many r ps c))

-- ---- crowding

-- how many fingerprints have quotient c or a greater one
abbrev pub many_from : ℕ → List ℕ → ℕ → ℕ
many_from r ps c = length (filter (λ p. leb c (quotient r p)) ps)

-- Quotient c is crowded: the fingerprints with quotient c or a greater one outnumber the slots from c on.
-- (Subtraction stops at 0: from the last slot on there is none.)
abbrev pub Crowded : ℕ → ℕ → List ℕ → ℕ → Type 0
Crowded slots r ps c = slots - c < many_from r ps c

-- no quotient is crowded: only such a list has a layout in that many slots
abbrev pub Roomy : ℕ → ℕ → List ℕ → Type 0
Roomy slots r ps = (c : ℕ) → Crowded slots r ps c → ⊥
