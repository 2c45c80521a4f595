-- Bytes that are read one after the other.
use Rattle.std.proofs.Common.{◌≡◌, ℕ, List, [], ◌++◌, Some, None, Option, IfSome, refl, sym, ap, ◌∙◌, append-nil, append_assoc}
use Rattle.std.specs.Io.KnownBytes.{Keeps, Consumes, IsAtEnd}

pub consumes_none : (o : Option (List ℕ)) → Consumes o o []
consumes_none None = tt
consumes_none (Some xs) = refl

pub consumes_more : (o p q : Option (List ℕ)) (a b : List ℕ) → Consumes o p a → Consumes p q b → Consumes o q (a ++ b)
consumes_more None p q a b s t = tt
consumes_more (Some xs) None q a b s t = absurd s
consumes_more (Some xs) (Some ys) None a b s t = absurd t
consumes_more (Some xs) (Some ys) (Some zs) a b s t = s ∙ ap (λ bs. a ++ bs) t ∙ sym (append_assoc a b zs)

-- nothing is read after a
pub consumes_kept : (o p q : Option (List ℕ)) (a : List ℕ) → Consumes o p a → Keeps p q → Consumes o q a
consumes_kept None p q a s k = tt
consumes_kept (Some xs) None q a s k = absurd s
consumes_kept (Some xs) (Some ys) None a s k = absurd k
consumes_kept (Some xs) (Some ys) (Some zs) a s k = s ∙ ap (λ bs. a ++ bs) (sym k)

-- what is read up to the end is all
pub consumes_all : (o p : Option (List ℕ)) (a : List ℕ) → Consumes o p a → IsAtEnd p → IfSome o (λ bytes. a ≡ bytes)
consumes_all None p a s end = tt
consumes_all (Some xs) None a s end = absurd s
consumes_all (Some xs) (Some ys) a s end = sym (s ∙ ap (λ bs. a ++ bs) end ∙ append-nil a)
