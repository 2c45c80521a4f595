-- Two lists in which each thing stands equally often weigh the same, whatever each thing weighs.
use Rattle.std.proofs.Common.{◌≡◌, ℕ, ◌+◌, ◌<◌, Bool, true, false, cond, List, [], ◌∷◌, length, refl, ap, ◌∙◌, arith}
use Rattle.layout.specs.Rule.{one_if}

unfoldable pub weigh : {X : Type 0} → (X → ℕ) → List X → ℕ
weigh f [] = 0
weigh f (x ∷ xs) = f x + weigh f xs

pub weigh_ones : {X : Type 0} (xs : List X) → weigh (λ _. 1) xs ≡ length xs
unfolding weigh
weigh_ones [] = refl
weigh_ones (x ∷ xs) = let h = weigh_ones xs in omega arith

-- occ counts how often a thing stands in a list, by a test that tells equals
module _ {X : Type 0} (same : X → X → Bool) (is : (a b : X) → same a b ≡ true → a ≡ b) (self : (a : X) → same a a ≡ true)
    (occ : X → List X → ℕ) (occ_nil : (x : X) → occ x [] ≡ 0) (occ_cons : (x y : X) (ys : List X) → occ x (y ∷ ys) ≡ one_if (same y x) + occ x ys) where
  unfoldable erase : X → List X → List X
  erase x [] = []
  erase x (y ∷ ys) = cond (same y x) ys (y ∷ erase x ys)

  occ_erase_case : (b : Bool) (x y : X) (ys : List X) (z : X) → same y x ≡ b → (0 < occ x ys → occ z ys ≡ one_if (same x z) + occ z (erase x ys)) → 0 < one_if b + occ x ys
      → one_if (same y z) + occ z ys ≡ one_if (same x z) + occ z (cond b ys (y ∷ erase x ys))
  occ_erase_case true x y ys z e rest h = ap (λ a. one_if (same a z) + occ z ys) (is y x e)
  occ_erase_case false x y ys z e rest h = let r = rest (omega arith) in let c = occ_cons z y (erase x ys) in omega arith

  occ_erase : (x : X) (ys : List X) (z : X) → 0 < occ x ys → occ z ys ≡ one_if (same x z) + occ z (erase x ys)
  unfolding erase
  occ_erase x [] z h = let n = occ_nil x in absurd (omega arith)
  occ_erase x (y ∷ ys) z h =
      let c = occ_cons x y ys in occ_cons z y ys ∙ occ_erase_case (same y x) x y ys z refl (occ_erase x ys z) (omega arith)

  module _ (f : X → ℕ) where
    weigh_erase_case : (b : Bool) (x y : X) (ys : List X) → same y x ≡ b → (0 < occ x ys → weigh f ys ≡ f x + weigh f (erase x ys)) → 0 < one_if b + occ x ys
        → f y + weigh f ys ≡ f x + weigh f (cond b ys (y ∷ erase x ys))
    unfolding weigh
    weigh_erase_case true x y ys e rest h = ap (λ a. f a + weigh f ys) (is y x e)
    weigh_erase_case false x y ys e rest h = let r = rest (omega arith) in omega arith

    weigh_erase : (x : X) (ys : List X) → 0 < occ x ys → weigh f ys ≡ f x + weigh f (erase x ys)
    unfolding weigh erase
    weigh_erase x [] h = let n = occ_nil x in absurd (omega arith)
    weigh_erase x (y ∷ ys) h = let c = occ_cons x y ys in weigh_erase_case (same y x) x y ys refl (weigh_erase x ys) (omega arith)

    stands_first : (x : X) (xs : List X) → 0 < occ x (x ∷ xs)
    stands_first x xs = let c : occ x (x ∷ xs) ≡ 1 + occ x xs = occ_cons x x xs ∙ ap (λ b. one_if b + occ x xs) (self x) in omega arith

    pub weigh_same : (xs ys : List X) → ((x : X) → occ x xs ≡ occ x ys) → weigh f xs ≡ weigh f ys
    unfolding weigh
    weigh_same [] [] h = refl
    weigh_same [] (y ∷ ys) h = let a = stands_first y ys in let b = h y in let n = occ_nil y in absurd (omega arith)
    weigh_same (x ∷ xs) ys h =
        let a = stands_first x xs in
        let b : occ x (x ∷ xs) ≡ occ x ys = h x in
        let there : 0 < occ x ys = omega arith in
        let r = weigh_same xs (erase x ys) (λ z. let p = h z in let q = occ_cons z x xs in let s = occ_erase x ys z there in omega arith) in
        let w = weigh_erase x ys there in
        omega arith
