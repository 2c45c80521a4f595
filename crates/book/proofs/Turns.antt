-- One operation more: what it makes of a book whose filter holds the fingerprints of the table's keys.
use Rattle.std.proofs.Common.{◌≡◌, ℕ, ◌*◌, Bool, true, false, List, ◌∷◌, ◌++◌, map, drop, Some, None, Ok, Err, Option, sym, refl, ap, ◌∙◌, subst, ⊎_elim}
use Rattle.std.proofs.lemmas.Bool.{cond-true, cond-false, cases_Bool}
use Rattle.kinds.specs.Keys.{same_key}
use Rattle.layout.specs.Laws.{copies_of}
use Rattle.filter.specs.Cuts.{cut_to}
use Rattle.filter.specs.declared.plan.Plan.{Plan}
use Rattle.filter.specs.Meaning.{size_of}
use Rattle.filter.specs.Filters.{SameFilter, words_of, laid_over}
use Rattle.filter.specs.declared.filter.Filter.{Filter}
use Rattle.tables.specs.Rows.{keys_of, Apart}
use Rattle.tables.specs.Meaning.{Meaning, SameFrame, value_in, Revalued}
use Rattle.history.specs.Rules.{Terms, Answer, Rule}
use Rattle.history.specs.History.{Current, holding}
use Rattle.history.specs.declared.operation.Operation.{Operation}
use Rattle.history.specs.declared.operation.Operation.TheVariants.{Put, Drop, Find}
use Rattle.history.specs.declared.answer.Stored.TheVariants.{Kept, Changed}
use Rattle.history.specs.declared.answer.Told.TheVariants.{Stored, Dropped, Found}
use Rattle.history.proofs.Entries.{Alike, words_alike}
use Rattle.tables.proofs.Options.{same_is, same_refl}
use Rattle.history.proofs.Keys.{numbers_same}
use Rattle.history.proofs.Rolls.{length_keys, current_keys, numbers_changed, numbers_new, numbers_dropped}
use Rattle.history.proofs.Answers.{rule_same}
use Rattle.history.proofs.Histories.{Step}
use Rattle.book.specs.Books.{terms_of, held_by, fingerprints_of, OperationDone}
use Rattle.book.proofs.Holding.{Holds, holds_alike, holds_more, holds_less, entries_alike}

module _ {K V : Type 0} (bytes : K → List ℕ) (apart : (a b : K) → bytes a ≡ bytes b → a ≡ b) (number : K → ℕ) where
  -- the terms stay
  pub terms_same : (f h : Filter) (m x : Meaning K V) → SameFilter f h → SameFrame m x → terms_of bytes number h x ≡ terms_of bytes number f m
  terms_same f h m x s w =
      let make : Plan → ℕ → (K → Bool) → ℕ → Terms K =
      λ plan blocks admits capacity. record { bytes = bytes; fingerprint = λ k. cut_to plan (number k); admits = admits; capacity = capacity; plan = plan; slots = 64 * blocks } in
      ap (λ p. make p h.blocks x.admits x.capacity) s.plan ∙ ap (λ b. make f.plan b x.admits x.capacity) s.blocks
      ∙ ap (λ a. make f.plan f.blocks a x.capacity) w.admits ∙ ap (λ c. make f.plan f.blocks m.admits c) w.capacity

  -- what a table says of a key that gets another value, and of every other key
  revalued_own : (x y : Meaning K V) (q k : K) (v : Option V) → Revalued bytes x y q v → q ≡ k → value_in bytes y k ≡ v
  revalued_own x y q k v to e =
      to k ∙ cond-true (same_key bytes q k) v (value_in bytes x k) (sym (ap (same_key bytes q) e) ∙ same_refl bytes q)

  revalued_other : (x y : Meaning K V) (q k : K) (v : Option V) → Revalued bytes x y q v → (q ≡ k → ⊥) → value_in bytes y k ≡ value_in bytes x k
  revalued_other x y q k v to n =
      to k ∙ ⊎_elim (λ (s : same_key bytes q k ≡ true). absurd (n (same_is bytes apart q k s)))
      (λ (s : same_key bytes q k ≡ false). cond-false (same_key bytes q k) v (value_in bytes x k) s) (cases_Bool (same_key bytes q k))

  unchanged : (x y : Meaning K V) (k : K) → y ≡ x → value_in bytes y k ≡ value_in bytes x k
  unchanged x y k e = ap (λ (z : Meaning K V). value_in bytes z k) e

  -- what the keys hold goes on by the operation
  pub step : (h g : Filter) (x y : Meaning K V) (o : Operation K V) (a : Answer V) → OperationDone bytes number h g x y o a → Step (o, a) (value_in bytes x) (value_in bytes y)
  step h g x y (Put q w) (Ok (Stored Kept)) d =
      record { sets = λ k v e. revalued_own x y q k (Some w) d.2 e.0 ∙ sym e.1; keeps = λ k n. revalued_other x y q k (Some w) d.2 (λ e. n (Some w) (e, refl)) }
  step h g x y (Put q w) (Ok (Stored Changed)) d =
      record { sets = λ k v e. revalued_own x y q k (Some w) d.1 e.0 ∙ sym e.1; keeps = λ k n. revalued_other x y q k (Some w) d.1 (λ e. n (Some w) (e, refl)) }
  step h g x y (Put q w) (Err f) d = record { sets = λ k v e. absurd e; keeps = λ k n. unchanged x y k d.1 }
  step h g x y (Drop q) (Ok Dropped) d =
      record { sets = λ k v e. revalued_own x y q k None d.2 e.0 ∙ sym e.1; keeps = λ k n. revalued_other x y q k None d.2 (λ e. n None (e, refl)) }
  step h g x y (Drop q) (Err f) d = record { sets = λ k v e. absurd e; keeps = λ k n. unchanged x y k d.1 }
  step h g x y (Find q) (Ok (Found f)) d = record { sets = λ k v e. absurd e; keeps = λ k n. unchanged x y k d.1 }
  step h g x y o a d = absurd d

  -- a book that was opened over filter f and table m, and now has filter h and table x
  module _ (f : Filter) (m : Meaning K V) (h g : Filter) (x y : Meaning K V) (own : Apart x.rows) (own' : Apart y.rows) (holds : Holds f h (fingerprints_of number f x)) where
    mark : (k : K) (ps qs : List ℕ) → Alike (cut_to f.plan (number k) ∷ ps) qs → Alike (cut_to h.plan (number k) ∷ ps) qs
    mark k ps qs a p = ap (λ (plan : Plan). copies_of p (cut_to plan (number k) ∷ ps)) holds.same.plan ∙ a p

    still : g ≡ h → y ≡ x → Holds f g (fingerprints_of number f y)
    still e d =
        subst (λ (z : Filter). Holds f z (fingerprints_of number f y)) (sym e) (subst (λ (z : Meaning K V). Holds f h (fingerprints_of number f z)) (sym d) holds)

    -- the filter holds the fingerprints of the keys that the table then has
    pub holds_on : (o : Operation K V) (a : Answer V) → SameFilter h g → Rule (terms_of bytes number h x) (held_by bytes h x) o a → OperationDone bytes number h g x y o a → Holds f g (fingerprints_of number f y)
    holds_on (Put q w) (Ok (Stored Kept)) s r d =
        holds_more f h g (cut_to h.plan (number q)) (fingerprints_of number f x) (fingerprints_of number f y) holds s d.0 d.1
        (mark q (fingerprints_of number f x) (fingerprints_of number f y) (numbers_new bytes apart (λ k. cut_to f.plan (number k)) x y own own' q w r.1 d.2))
    holds_on (Put q w) (Ok (Stored Changed)) s r d =
        subst (λ (z : Filter). Holds f z (fingerprints_of number f y)) (sym d.0)
        (holds_alike f h (fingerprints_of number f x) (fingerprints_of number f y) (numbers_changed bytes apart (λ k. cut_to f.plan (number k)) x y own own' q w r.1 d.1) holds)
    holds_on (Put q w) (Err e) s r d = still d.0 d.1
    holds_on (Drop q) (Ok Dropped) s r d =
        holds_less f h g (cut_to h.plan (number q)) (fingerprints_of number f x) (fingerprints_of number f y) holds s d.0 d.1
        (mark q (fingerprints_of number f y) (fingerprints_of number f x) (numbers_dropped bytes apart (λ k. cut_to f.plan (number k)) x y own own' q r.0 d.2))
    holds_on (Drop q) (Err e) s r d = still d.0 d.1
    holds_on (Find q) (Ok (Found e)) s r d = still d.0 d.1
    holds_on o a s r d = absurd d

    -- the answer is the one that the rules give for the current keys
    pub rule_on : (o : Operation K V) (a : Answer V) → SameFrame m x → Rule (terms_of bytes number h x) (held_by bytes h x) o a
        → Rule (terms_of bytes number f m) (holding (terms_of bytes number f m) (value_in bytes x) (keys_of x.rows)) o a
    rule_on o a w r =
        rule_same (terms_of bytes number f m) (held_by bytes h x) (holding (terms_of bytes number f m) (value_in bytes x) (keys_of x.rows))
        (λ k. refl) (sym (length_keys x.rows)) (entries_alike f h (fingerprints_of number f x) holds) o a
        (subst (λ (t : Terms K). Rule t (held_by bytes h x) o a) (terms_same f h m x holds.same w) r)

  -- any list of the current keys has the words
  pub words_current : (f g : Filter) (n : Meaning K V) → Apart n.rows → Holds f g (fingerprints_of number f n) → (ks : List K) → Current bytes (value_in bytes n) ks
      → words_of g ≡ laid_over f.plan.r f.blocks (map (λ k. cut_to f.plan (number k)) ks) (words_of f)
  words_current f g n own d ks c =
      d.words
      ∙ ap (λ l. l ++ drop (size_of f.plan.r f.blocks) (words_of f))
      (words_alike f.plan.r f.blocks (fingerprints_of number f n) (map (λ k. cut_to f.plan (number k)) ks)
      (numbers_same bytes apart (λ k. cut_to f.plan (number k)) (keys_of n.rows) ks (λ k. current_keys bytes apart n.rows own k ∙ sym (c k))))
