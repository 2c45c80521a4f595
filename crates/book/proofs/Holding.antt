-- A filter that holds given fingerprints, over the words that another one had.
use Rattle.std.proofs.Common.{◌≡◌, ℕ, List, [], ◌∷◌, ◌++◌, drop, replicate, sym, refl, ap, ◌∙◌, subst, arith}
use lib.ListN.{length-replicate}
use Rattle.std.proofs.lemmas.List.{take-append-drop}
use Rattle.std.proofs.lemmas.Slice.{drop-append-drop}
use Rattle.layout.specs.Rule.{sorted, with_one, without_one}
use Rattle.layout.specs.Format.{filter_words}
use Rattle.layout.proofs.Sorts.{sorted_same_counts}
use Rattle.layout.proofs.Formats.{words_any_order}
use Rattle.filter.specs.declared.plan.Plan.{Plan}
use Rattle.filter.specs.Meaning.{size_of}
use Rattle.filter.specs.Filters.{SameFilter, words_of, fingerprints, laid_over, cleared_over}
use Rattle.filter.specs.declared.filter.Filter.{Filter}
use Rattle.filter.proofs.Held.{words_length}
use Rattle.tables.specs.Meaning.{Meaning, SameFrame}
use Rattle.history.proofs.Entries.{Alike, alike_cons, alike_sorted, words_alike, insert_entries, remove_entries}
use Rattle.book.specs.Standings.{Standing, Steady}

pub same_self : (f : Filter) → SameFilter f f
same_self f = record { plan = refl; blocks = refl; lender = refl }

pub same_then : (f g h : Filter) → SameFilter f g → SameFilter g h → SameFilter f h
same_then f g h a b = record { plan = b.plan ∙ a.plan; blocks = b.blocks ∙ a.blocks; lender = b.lender ∙ a.lender }

-- g has the plan, the blocks and the later words of f, and holds ps
pub record Holds (f g : Filter) (ps : List ℕ) : Type 0 where
  pub same : SameFilter f g
  pub entries : fingerprints g ≡ sorted ps
  pub words : words_of g ≡ laid_over f.plan.r f.blocks ps (words_of f)

-- later words stay
later : (r blocks : ℕ) (ps ws : List ℕ) → drop (size_of r blocks) (laid_over r blocks ps ws) ≡ drop (size_of r blocks) ws
later r blocks ps ws = drop-append-drop (size_of r blocks) ws (filter_words r blocks ps) (size_of r blocks) (omega arith) (words_length r blocks ps)

-- the words are the layout of the entries
own_words : (g : Filter) → words_of g ≡ laid_over g.plan.r g.blocks (fingerprints g) (words_of g)
own_words g =
    sym (take-append-drop (size_of g.plan.r g.blocks) (words_of g))
    ∙ ap (λ l. l ++ drop (size_of g.plan.r g.blocks) (words_of g)) g.laid

-- a plan and blocks that are the same
moved : (f g : Filter) (xs ws : List ℕ) → SameFilter f g → laid_over g.plan.r g.blocks xs ws ≡ laid_over f.plan.r f.blocks xs ws
moved f g xs ws s =
    ap (λ (p : Plan). laid_over p.r g.blocks xs ws) s.plan ∙ ap (λ b. laid_over f.plan.r b xs ws) s.blocks

-- laid out over the words of g is laid out over those of f
over : (f g h : Filter) (ps xs : List ℕ) → Holds f g ps → words_of h ≡ laid_over g.plan.r g.blocks xs (words_of g) → words_of h ≡ laid_over f.plan.r f.blocks xs (words_of f)
over f g h ps xs d e =
    let r = f.plan.r in
    let b = f.blocks in
    e ∙ moved f g xs (words_of g) d.same ∙ ap (λ l. filter_words r b xs ++ l) (ap (drop (size_of r b)) d.words ∙ later r b ps (words_of f))

pub holds_alike : (f g : Filter) (ps qs : List ℕ) → Alike ps qs → Holds f g ps → Holds f g qs
holds_alike f g ps qs a d =
    record {
      same = d.same;
      entries = d.entries ∙ sorted_same_counts ps qs a;
      words = d.words ∙ ap (λ l. l ++ drop (size_of f.plan.r f.blocks) (words_of f)) (words_alike f.plan.r f.blocks ps qs a);
    }

-- the entries, whatever their order, are those held
pub entries_alike : (f g : Filter) (ps : List ℕ) → Holds f g ps → Alike (fingerprints g) ps
entries_alike f g ps d = subst (λ l. Alike l ps) (sym d.entries) (alike_sorted ps)

-- one entry more
pub holds_more : (f g h : Filter) (p : ℕ) (ps qs : List ℕ) → Holds f g ps → SameFilter g h → fingerprints h ≡ with_one p (fingerprints g)
    → words_of h ≡ laid_over g.plan.r g.blocks (p ∷ fingerprints g) (words_of g) → Alike (p ∷ ps) qs → Holds f h qs
holds_more f g h p ps qs d s e w a =
    record {
      same = same_then f g h d.same s;
      entries = e ∙ insert_entries p (fingerprints g) ps qs d.entries a;
      words = over f g h ps (p ∷ fingerprints g) d w
          ∙ ap (λ l. l ++ drop (size_of f.plan.r f.blocks) (words_of f))
          (words_alike f.plan.r f.blocks (p ∷ fingerprints g) qs (λ x. alike_cons p (fingerprints g) ps (entries_alike f g ps d) x ∙ a x));
    }

-- one entry less
pub holds_less : (f g h : Filter) (p : ℕ) (ps qs : List ℕ) → Holds f g ps → SameFilter g h → fingerprints h ≡ without_one p (fingerprints g)
    → words_of h ≡ laid_over g.plan.r g.blocks (without_one p (fingerprints g)) (words_of g) → Alike (p ∷ qs) ps → Holds f h qs
holds_less f g h p ps qs d s e w a =
    let es : without_one p (fingerprints g) ≡ sorted qs = remove_entries p (fingerprints g) ps qs d.entries a in
    record {
      same = same_then f g h d.same s;
      entries = e ∙ es;
      words = over f g h ps (without_one p (fingerprints g)) d w
          ∙ ap (λ l. l ++ drop (size_of f.plan.r f.blocks) (words_of f)) (ap (filter_words f.plan.r f.blocks) es ∙ words_any_order f.plan.r f.blocks qs);
    }

-- none
pub holds_none : (f g : Filter) → SameFilter f g → fingerprints g ≡ [] → words_of g ≡ cleared_over f.plan.r f.blocks (words_of f) → Holds f g []
unfolding sorted
holds_none f g s e w =
    let n = size_of f.plan.r f.blocks in
    record {
      same = s;
      entries = e;
      words = own_words g ∙ moved f g (fingerprints g) (words_of g) s
          ∙ ap (λ l. filter_words f.plan.r f.blocks l ++ drop n (words_of g)) e
          ∙ ap (λ l. filter_words f.plan.r f.blocks [] ++ l)
          (ap (drop n) w ∙ drop-append-drop n (words_of f) (replicate n 0) n (omega arith) (length-replicate n 0));
    }

pub holds_self : (f : Filter) → fingerprints f ≡ [] → Holds f f []
unfolding sorted
holds_self f e =
    record { same = same_self f; entries = e; words = own_words f ∙ ap (λ l. laid_over f.plan.r f.blocks l (words_of f)) e }

pub holds_then : (f g h : Filter) (ps qs : List ℕ) → Holds f g ps → Holds g h qs → Holds f h qs
holds_then f g h ps qs d e = record { same = same_then f g h d.same e.same; entries = e.entries; words = over f g h ps qs d e.words }

-- emptied once more
pub cleared_again : (f g h : Filter) (ps : List ℕ) → Holds f g ps → words_of h ≡ cleared_over g.plan.r g.blocks (words_of g) → words_of h ≡ cleared_over f.plan.r f.blocks (words_of f)
cleared_again f g h ps d e =
    let n = size_of f.plan.r f.blocks in
    e ∙ ap (λ (p : Plan). cleared_over p.r g.blocks (words_of g)) d.same.plan ∙ ap (λ b. cleared_over f.plan.r b (words_of g)) d.same.blocks
    ∙ ap (λ l. replicate n 0 ++ l) (ap (drop n) d.words ∙ later f.plan.r f.blocks ps (words_of f))

-- a filter that holds ps, over its own words
pub holds_own : (f : Filter) (ps : List ℕ) → fingerprints f ≡ sorted ps → Holds f f ps
holds_own f ps e =
    record {
      same = same_self f;
      entries = e;
      words = own_words f ∙ ap (λ l. l ++ drop (size_of f.plan.r f.blocks) (words_of f)) (ap (filter_words f.plan.r f.blocks) e ∙ words_any_order f.plan.r f.blocks ps);
    }

-- ---- tables

-- frames follow one another
pub frame_then : {K V : Type 0} (m x y : Meaning K V) → SameFrame m x → SameFrame x y → SameFrame m y
frame_then m x y a b = record { admits = b.admits ∙ a.admits; capacity = b.capacity ∙ a.capacity; places = b.places ∙ a.places }

-- ---- books as they stand

pub steady_then : {K V B : Type 0} (r s t : Standing K V B) → Steady r s → Steady s t → Steady r t
steady_then r s t a b =
    record {
      frame = frame_then r.table s.table t.table a.frame b.frame;
      lender = b.lender ∙ a.lender;
      beyond = b.beyond ∙ a.beyond;
      number = b.number ∙ a.number;
      owners = b.owners ∙ a.owners;
      filter = same_then r.filter s.filter t.filter a.filter b.filter;
    }
