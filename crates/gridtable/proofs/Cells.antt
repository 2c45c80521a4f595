-- Single cells, and the cells that are freed one by one.
use Rattle.std.proofs.Common.{◌≡◌, Bool, true, false, cond, ◌&&◌, ℤ, pos, negsuc, Some, None, sym, refl, ap, arith, w16, SFits}
use Rattle.std.proofs.lemmas.Bool.{le-leb}
use Rattle.tables.proofs.Options.{none_some, some_one}
use Rattle.gridtable.specs.Grids.{value_of}

-- a value of 16 bits is the value of its cell
pub value_is : (v : ℤ) → SFits w16 v → value_of v ≡ Some v
value_is (pos n) f = let h = f.sfits in ap (λ b. cond b (Some (pos n)) None) (le-leb n 32767 (omega arith))
value_is (negsuc n) f = let h = f.sfits in ap (λ b. cond (b && true) (Some (negsuc n)) None) (le-leb n 32767 (omega arith))

-- what a test has chosen
pub chosen : {A : Type 0} (b : Bool) (x y : A) → Some y ≡ cond b (Some x) None → (b ≡ true) × (y ≡ x)
chosen true x y e = (refl, some_one y x e)
chosen false x y e = none_some y (sym e)

pub not_chosen : {A : Type 0} (b : Bool) (x : A) → None ≡ cond b (Some x) None → b ≡ false
not_chosen true x e = none_some x e
not_chosen false x e = refl
