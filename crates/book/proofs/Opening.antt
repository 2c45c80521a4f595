-- Opening a book: the fingerprints of the records at the first places.
use Rattle.std.proofs.Common.{◌≡◌, ℕ, ◌+◌, ◌*◌, ◌<◌, ◌≤◌, List, [], ◌∷◌, ◌++◌, map, length, get_or, take, drop, Some, None, Ok, Option, sym, refl, ap, ◌∙◌, subst, arith, take_all}
use Rattle.std.proofs.lemmas.List.{append-nil}
use Rattle.layout.specs.Rule.{Roomy}
use Rattle.layout.specs.Laws.{copies_of}
use Rattle.layout.proofs.Sorts.{count_here}
use Rattle.layout.proofs.Bounds.{empty_law}
use Rattle.filter.specs.Cuts.{cut_to}
use Rattle.filter.specs.Filters.{SameFilter, Crowds, fingerprints, slots_of, Added}
use Rattle.filter.specs.declared.plan.Plan.{Plan}
use Rattle.filter.specs.declared.filter.Filter.{Filter}
use Rattle.tables.specs.Rows.{keys_of}
use Rattle.tables.specs.Meaning.{Meaning}
use Rattle.tables.specs.declared.record.Record.{Record}
use Rattle.history.proofs.Entries.{Alike, alike_cons, roomy_alike, crowds_alike, crowds_more}
use Rattle.history.proofs.Rolls.{numbers_free, numbers_record, numbers_split}
use Rattle.book.specs.Books.{fingerprints_of}
use Rattle.book.proofs.Holding.{Holds, holds_self, holds_more, holds_then, entries_alike}

-- a list with one more at its end
count_last : (p : ℕ) (ps : List ℕ) → Alike (p ∷ ps) (ps ++ p ∷ [])
count_last p [] x = refl
count_last p (q ∷ ps) x =
    let a = count_here p x (q ∷ ps) in
    let b = count_here q x ps in
    let c = count_here q x (ps ++ p ∷ []) in
    let d = count_last p ps x in
    let e = count_here p x ps in
    omega arith

module _ {K V : Type 0} (number : K → ℕ) (f : Filter) (rows : List (Option (Record K V))) where
  abbrev mark : K → ℕ
  mark k = cut_to f.plan (number k)

  abbrev pub front : ℕ → List ℕ
  front i = map mark (keys_of (take i rows))

  -- g holds the fingerprints of the records at the first i places, and there was room for them
  pub record Filled (g : Filter) (i : ℕ) : Type 0 where
    pub holds : Holds f g (front i)
    pub room : Roomy (slots_of f) f.plan.r (front i)

  pub filled_none : fingerprints f ≡ [] → Filled f 0
  unfolding keys_of
  filled_none e = record { holds = holds_self f e; room = (empty_law (slots_of f) f.plan.r 0).0 }

  pub filled_free : (g : Filter) (i : ℕ) → i < length rows → None ≡ get_or rows i None → Filled g i → Filled g (i + 1)
  filled_free g i l e d =
      let same : front (i + 1) ≡ front i = numbers_free mark rows i l e ∙ append-nil (front i) in
      record { holds = subst (λ ps. Holds f g ps) (sym same) d.holds; room = subst (λ ps. Roomy (slots_of f) f.plan.r ps) (sym same) d.room }

  module _ (g : Filter) (i : ℕ) (r : Record K V) (l : i < length rows) (e : Some r ≡ get_or rows i None) (d : Filled g i) (p : ℕ) (is : p ≡ cut_to g.plan (number r.key)) where
    more : Alike (p ∷ front i) (front (i + 1))
    more x =
        ap (λ q. copies_of x (q ∷ front i)) (is ∙ ap (λ (plan : Plan). cut_to plan (number r.key)) d.holds.same.plan)
        ∙ count_last (mark r.key) (front i) x ∙ ap (copies_of x) (sym (numbers_record mark rows i r l e))

    counted : Alike (p ∷ fingerprints g) (front (i + 1))
    counted x = alike_cons p (fingerprints g) (front i) (entries_alike f g (front i) d.holds) x ∙ more x

    slots_same : slots_of g ≡ slots_of f
    slots_same = ap (λ b. 64 * b) d.holds.same.blocks

    pub filled_record : (h : Filter) → SameFilter g h → Added g h p (Ok tt) → Filled h (i + 1)
    filled_record h s a = record {
      holds = holds_more f g h p (front i) (front (i + 1)) d.holds s a.3 a.4 more;
      room = roomy_alike (slots_of f) f.plan.r (p ∷ fingerprints g) (front (i + 1)) counted
          (subst (λ (plan : Plan). Roomy (slots_of f) plan.r (p ∷ fingerprints g)) d.holds.same.plan (subst (λ n. Roomy n g.plan.r (p ∷ fingerprints g)) slots_same a.1));
    }

    pub crowded_record : Crowds g.plan (slots_of g) (p ∷ fingerprints g) → Crowds f.plan (slots_of f) (map mark (keys_of rows))
    crowded_record c =
        subst (λ ps. Crowds f.plan (slots_of f) ps) (sym (numbers_split mark rows (i + 1)))
        (crowds_more f.plan (slots_of f) (front (i + 1)) (map mark (keys_of (drop (i + 1) rows)))
        (crowds_alike f.plan (slots_of f) (p ∷ fingerprints g) (front (i + 1)) counted
        (subst (λ (plan : Plan). Crowds plan (slots_of f) (p ∷ fingerprints g)) d.holds.same.plan (subst (λ n. Crowds g.plan n (p ∷ fingerprints g)) slots_same c))))

-- from the filter as it was before it was emptied
module _ {K V : Type 0} (number : K → ℕ) (f e : Filter) (m : Meaning K V) (s : SameFilter f e) where
  same_marks : map (λ k. cut_to e.plan (number k)) (keys_of m.rows) ≡ fingerprints_of number f m
  same_marks = ap (λ (plan : Plan). map (λ k. cut_to plan (number k)) (keys_of m.rows)) s.plan

  -- all places are done
  pub filled_all : (g : Filter) (i : ℕ) → length m.rows ≤ i → Holds f e [] → Filled number e m.rows g i
      → Holds f g (fingerprints_of number f m) × Roomy (slots_of f) f.plan.r (fingerprints_of number f m)
  filled_all g i l n d =
      let all : front number e m.rows i ≡ fingerprints_of number f m = ap (λ rows. map (λ k. cut_to e.plan (number k)) (keys_of rows)) (take_all i m.rows l) ∙ same_marks in (
        holds_then f e g [] (fingerprints_of number f m) n (subst (λ ps. Holds e g ps) all d.holds),
        subst (λ ps. Roomy (slots_of f) f.plan.r ps) all
            (subst (λ (plan : Plan). Roomy (slots_of f) plan.r (front number e m.rows i)) s.plan
            (subst (λ b. Roomy (64 * b) e.plan.r (front number e m.rows i)) s.blocks d.room)),
      )

  pub crowded_all : Crowds e.plan (slots_of e) (map (λ k. cut_to e.plan (number k)) (keys_of m.rows)) → Crowds f.plan (slots_of f) (fingerprints_of number f m)
  crowded_all c =
      subst (λ ps. Crowds f.plan (slots_of f) ps) same_marks
      (subst (λ (plan : Plan). Crowds plan (slots_of f) (map (λ k. cut_to e.plan (number k)) (keys_of m.rows))) s.plan
      (subst (λ b. Crowds e.plan (64 * b) (map (λ k. cut_to e.plan (number k)) (keys_of m.rows))) s.blocks c))
