-- How lines and commands match.
use Rattle.std.proofs.Common.{◌≡◌, ℕ, ◌^◌, ◌<◌, ◌≤◌, List, [], ◌∷◌, ◌++◌, Some, None, sym, ◌∙◌, subst, arith}
use Rattle.figures.specs.Figures.{Figure, Natural}
use Rattle.figures.proofs.Words.{apart}
use Rattle.filterlog.specs.declared.commands.Command.{Command}
use Rattle.filterlog.specs.declared.commands.Command.TheVariants.{Add, Take, Ask}
use Rattle.filterlog.specs.declared.commands.Question.TheVariants.{Has, Held, Slot, Words, List as Listed}
use Rattle.filterlog.specs.Commands.{WordAndNumber, Says}

-- no number is written after the word
none_numbered : (xs word ds : List ℕ) (n : ℕ) → ((es : List ℕ) → word ++ (32 ∷ ds) ≡ word ++ (32 ∷ es) → ds ≡ es) → xs ≡ word ++ (32 ∷ ds) → Natural ds None → WordAndNumber word xs n → ⊥
none_numbered xs word ds n same e none (es, f, (g, small)) = none n small (subst (λ l. Figure l n) (sym (same es (sym e ∙ f))) g)

pub no_add : (xs ds : List ℕ) → xs ≡ 97 ∷ 100 ∷ 100 ∷ 32 ∷ ds → Natural ds None → (c : Command) → Says xs c → ⊥
no_add xs ds e none (Add n) h = none_numbered xs (97 ∷ 100 ∷ 100 ∷ []) ds n (λ es p. cc) e none h
no_add xs ds e none (Take n) (es, f, g) = apart 0 xs _ _ e f (λ p. omega arith)
no_add xs ds e none (Ask (Has n)) (es, f, g) = apart 0 xs _ _ e f (λ p. omega arith)
no_add xs ds e none (Ask Held) f = apart 0 xs _ _ e f (λ p. omega arith)
no_add xs ds e none (Ask (Slot s)) ((es, f, g), k) = apart 0 xs _ _ e f (λ p. omega arith)
no_add xs ds e none (Ask Words) f = apart 0 xs _ _ e f (λ p. omega arith)
no_add xs ds e none (Ask Listed) f = apart 0 xs _ _ e f (λ p. omega arith)

pub no_take : (xs ds : List ℕ) → xs ≡ 116 ∷ 97 ∷ 107 ∷ 101 ∷ 32 ∷ ds → Natural ds None → (c : Command) → Says xs c → ⊥
no_take xs ds e none (Add n) (es, f, g) = apart 0 xs _ _ e f (λ p. omega arith)
no_take xs ds e none (Take n) h = none_numbered xs (116 ∷ 97 ∷ 107 ∷ 101 ∷ []) ds n (λ es p. cc) e none h
no_take xs ds e none (Ask (Has n)) (es, f, g) = apart 0 xs _ _ e f (λ p. omega arith)
no_take xs ds e none (Ask Held) f = apart 0 xs _ _ e f (λ p. omega arith)
no_take xs ds e none (Ask (Slot s)) ((es, f, g), k) = apart 0 xs _ _ e f (λ p. omega arith)
no_take xs ds e none (Ask Words) f = apart 0 xs _ _ e f (λ p. omega arith)
no_take xs ds e none (Ask Listed) f = apart 0 xs _ _ e f (λ p. omega arith)

pub no_has : (xs ds : List ℕ) → xs ≡ 104 ∷ 97 ∷ 115 ∷ 32 ∷ ds → Natural ds None → (c : Command) → Says xs c → ⊥
no_has xs ds e none (Add n) (es, f, g) = apart 0 xs _ _ e f (λ p. omega arith)
no_has xs ds e none (Take n) (es, f, g) = apart 0 xs _ _ e f (λ p. omega arith)
no_has xs ds e none (Ask (Has n)) h = none_numbered xs (104 ∷ 97 ∷ 115 ∷ []) ds n (λ es p. cc) e none h
no_has xs ds e none (Ask Held) f = apart 1 xs _ _ e f (λ p. omega arith)
no_has xs ds e none (Ask (Slot s)) ((es, f, g), k) = apart 0 xs _ _ e f (λ p. omega arith)
no_has xs ds e none (Ask Words) f = apart 0 xs _ _ e f (λ p. omega arith)
no_has xs ds e none (Ask Listed) f = apart 0 xs _ _ e f (λ p. omega arith)

-- no number below 2 ^ 32 is written after `slot`
pub no_slot : (xs ds : List ℕ) → xs ≡ 115 ∷ 108 ∷ 111 ∷ 116 ∷ 32 ∷ ds → ((n : ℕ) → n < 2 ^ 32 → Figure ds n → ⊥) → (c : Command) → Says xs c → ⊥
no_slot xs ds e none (Add n) (es, f, g) = apart 0 xs _ _ e f (λ p. omega arith)
no_slot xs ds e none (Take n) (es, f, g) = apart 0 xs _ _ e f (λ p. omega arith)
no_slot xs ds e none (Ask (Has n)) (es, f, g) = apart 0 xs _ _ e f (λ p. omega arith)
no_slot xs ds e none (Ask Held) f = apart 0 xs _ _ e f (λ p. omega arith)
no_slot xs ds e none (Ask (Slot s)) ((es, f, (g, wide)), small) = let same : ds ≡ es = cc in none s.0 small (subst (λ l. Figure l s.0) (sym same) g)
no_slot xs ds e none (Ask Words) f = apart 0 xs _ _ e f (λ p. omega arith)
no_slot xs ds e none (Ask Listed) f = apart 0 xs _ _ e f (λ p. omega arith)

-- a number of 2 ^ 32 or more, and no other, is written
pub wide_slot : (ds : List ℕ) (m : ℕ) → Natural ds (Some m) → 2 ^ 32 ≤ m → (n : ℕ) → n < 2 ^ 32 → Figure ds n → ⊥
wide_slot ds m (f, small) wide n low g = omega (arith, f.number, g.number)

pub bare_slot : (ds : List ℕ) → Natural ds None → (n : ℕ) → n < 2 ^ 32 → Figure ds n → ⊥
bare_slot ds none n low g = none n (omega arith) g

pub renumbered : (ds : List ℕ) (m n : ℕ) → m ≡ n → Natural ds (Some m) → Natural ds (Some n)
renumbered ds m n e h = subst (λ k. Natural ds (Some k)) e h
