-- Where all of a list have room, `add` refuses none of them.
use Rattle.std.proofs.Common.{◌≡◌, ℕ, zero, suc, ◌+◌, ◌*◌, ◌≤◌, Bool, true, false, cond, leb, List, [], ◌∷◌, ◌++◌, length, replicate, Ok, Err, filter, refl, ap, ◌∙◌, subst, subst₂, arith}
use Rattle.std.proofs.lemmas.Bool.{le-leb, lt-leb}
use Rattle.layout.specs.Rule.{quotient, sorted, laid, many_from, Crowded, Roomy}
use Rattle.layout.proofs.Rooms.{room_law, count_sorted}
use Rattle.filter.specs.Filters.{fingerprints}
use Rattle.filter.specs.declared.fault.FilterFault.TheVariants.{BadPlan, WideFingerprint, NoSlot, NoSuchFingerprint}
use Rattle.examples.specs.Examples.{NoneRefused}
use Rattle.examples.proofs.Words.{sized_adds, adds_sorted}
use Rattle.examples.proofs.Refusals.{not_wide, small}

one_more : (b : Bool) (x : ℕ) (xs : List ℕ) → length (cond b (x ∷ xs) xs) ≡ cond b 1 0 + length xs
one_more true x xs = omega arith
one_more false x xs = omega arith

kept_middle : (t : ℕ → Bool) (p : ℕ) (xs rest : List ℕ) → length (filter t (p ∷ xs)) ≤ length (filter t (xs ++ p ∷ rest))
kept_middle t p [] rest = omega (arith, one_more (t p) p [], one_more (t p) p (filter t rest))
kept_middle t p (x ∷ xs) rest =
    omega (arith, kept_middle t p xs rest, one_more (t p) p (filter t (x ∷ xs)), one_more (t x) x (filter t xs), one_more (t p) p (filter t xs), one_more (t x) x (filter t (xs ++ p ∷ rest)))

-- of the ones before and the newcomer no more pass a test than of all
kept_few : (t : ℕ → Bool) (p : ℕ) (ps rest all : List ℕ) → sorted (ps ++ p ∷ rest) ≡ all → length (filter t (p ∷ sorted ps)) ≤ length (filter t all)
kept_few t p ps rest all order =
    omega (
      arith,
      kept_middle t p ps rest,
      ap (λ x. length (filter t x)) order,
      count_sorted t (ps ++ p ∷ rest),
      count_sorted t ps,
      one_more (t p) p (filter t ps),
      one_more (t p) p (filter t (sorted ps)),
    )

many_few : (c p : ℕ) (ps rest all : List ℕ) → sorted (ps ++ p ∷ rest) ≡ all → many_from 8 (p ∷ sorted ps) c ≤ many_from 8 all c
many_few c p ps rest all order = kept_few (λ x. leb c (quotient 8 x)) p ps rest all order

cond_one : (b : Bool) → b ≡ true → cond {A = ℕ} b 1 0 ≡ 1
cond_one b e = ap (λ x. cond {A = ℕ} x 1 0) e

under : (p : ℕ) (ps rest all : List ℕ) → many_from 8 all 64 ≡ 0 → sorted (ps ++ p ∷ rest) ≡ all → ¬ (64 ≤ quotient 8 p)
under p ps rest all none order l =
    omega (
      arith,
      many_few 64 p ps rest all order,
      one_more (leb 64 (quotient 8 p)) p (filter (λ x. leb 64 (quotient 8 x)) (sorted ps)),
      cond_one (leb 64 (quotient 8 p)) (le-leb 64 (quotient 8 p) l),
    )

pub none_refused : (b : ℕ) (all : List ℕ) → Roomy (64 * b) 8 all → many_from 8 all 64 ≡ 0 → NoneRefused b all
none_refused b all room none f g h ps p rest (Ok done) s e order adds a = refl
none_refused b all room none f g h ps p rest (Err WideFingerprint) s e order adds (wide, same) =
    absurd (not_wide g b p (sized_adds f g b ps s adds) (small p (quotient 8 p) refl (omega (arith, under p ps rest all none order))) wide)
none_refused b all room none f g h ps p rest (Err NoSlot) s e order adds (narrow, (c, l, crowd), full, same) =
    let size = sized_adds f g b ps s adds in
    let here : Crowded (64 * b) 8 (p ∷ fingerprints g) c = subst₂ (λ n r. Crowded (64 * n) r (p ∷ fingerprints g) c) size.blocks size.remainders crowd in
    let there : Crowded (64 * b) 8 (p ∷ sorted ps) c = subst (λ x. Crowded (64 * b) 8 (p ∷ x) c) (adds_sorted f g ps e adds) here in
    let over : Crowded (64 * b) 8 all c = omega (arith, there, many_few c p ps rest all order) in
    absurd (room c over)
none_refused b all room none f g h ps p rest (Err BadPlan) s e order adds a = absurd a
none_refused b all room none f g h ps p rest (Err NoSuchFingerprint) s e order adds a = absurd a

-- ---- the lists

pub three_room : Roomy 64 8 (1287 ∷ 1289 ∷ 1539 ∷ [])
unfolding quotient laid
three_room = (room_law 64 8 (1287 ∷ 1289 ∷ 1539 ∷ []) (omega arith)).1 (omega arith)

pub three_narrow : many_from 8 (1287 ∷ 1289 ∷ 1539 ∷ []) 64 ≡ 0
unfolding quotient
three_narrow = refl

pub zeros_narrow : (n c : ℕ) → many_from 8 (replicate n 0) (suc c) ≡ 0
unfolding quotient
zeros_narrow zero c = refl
zeros_narrow (suc n) c =
    let rest = filter (λ x. leb (suc c) (quotient 8 x)) (replicate n 0) in
    ap (λ b. length (cond b (0 ∷ rest) rest)) (lt-leb (suc c) 0 (omega arith)) ∙ zeros_narrow n c

zeros_few : (n c : ℕ) → many_from 8 (replicate n 0) c ≤ n
zeros_few zero c = omega arith
zeros_few (suc n) c = omega (arith, zeros_few n c, one_more (leb c (quotient 8 0)) 0 (filter (λ x. leb c (quotient 8 x)) (replicate n 0)), bit_small (leb c (quotient 8 0)))
  where
    bit_small : (b : Bool) → cond {A = ℕ} b 1 0 ≤ 1
    bit_small true = omega arith
    bit_small false = omega arith

zeros_fit : (n slots : ℕ) → n ≤ slots → Roomy slots 8 (replicate n 0)
zeros_fit n slots l zero crowd = omega (arith, zeros_few n 0, crowd)
zeros_fit n slots l (suc c) crowd = omega (arith, zeros_narrow n c, crowd)

pub zeros_room : Roomy 192 8 (replicate 150 0)
zeros_room = zeros_fit 150 192 (omega arith)
