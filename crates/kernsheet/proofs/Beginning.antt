-- The two books of kernsheet at the beginning.
use Rattle.std.proofs.Common.{◌≡◌, ℕ, ◌≤◌, List, [], length, ℤ, inl, ap, ◌∙◌, subst₂}
use Rattle.kinds.specs.Bytes.{pair_bytes, sequence_bytes}
use Rattle.kinds.specs.Hashes.{fibonacci, fnv}
use Rattle.kinds.specs.declared.kern.Pair.{Pair}
use Rattle.kinds.specs.declared.sequence.Sequence.{Sequence}
use Rattle.filter.specs.Filters.{fingerprints}
use Rattle.filter.specs.declared.filter.Filter.{Filter}
use Rattle.tables.specs.Rows.{keys_of, Apart}
use Rattle.tables.specs.Meaning.{Meaning, value_in}
use Rattle.tables.proofs.Lookups.{keys_none, lookup_none}
use Rattle.listtable.specs.Lists.{empty_list}
use Rattle.figures.specs.Lines.{lines_of}
use Rattle.history.specs.Rules.{Terms}
use Rattle.history.specs.Beginnings.{list_terms}
use Rattle.book.specs.Books.{terms_of}
use Rattle.book.specs.Reached.{state_of}
use Rattle.book.proofs.Reaching.{empty_is_open}
use Rattle.kernsheet.specs.Fresh.{IsFresh, terms}
use Rattle.kernsheet.specs.Sheets.{LinesAnswered, SheetAnswered}

module _ {K V : Type 0} (bytes : K → List ℕ) (number : K → ℕ) (f : Filter) (m : Meaning K V) (records : ℕ) (table : m ≡ empty_list records) where
  pub fresh : ((a b : K) → bytes a ≡ bytes b → a ≡ b) → Apart m.rows → fingerprints f ≡ [] → IsFresh bytes (state_of f m number)
  fresh apart own entries = record {
    reached = empty_is_open bytes apart (state_of f m number) own entries (ap (λ (m : Meaning K V). keys_of m.rows) table ∙ keys_none K V records);
    holds = ap (λ (m : Meaning K V). value_in bytes m) table ∙ (λ i k. lookup_none V bytes records k i);
  }

  -- the terms are those of its size
  terms_are : (blocks : ℕ) → f.blocks ≡ blocks → terms bytes (state_of f m number) ≡ list_terms bytes number f.plan blocks records
  terms_are blocks sized = ap (λ (m : Meaning K V). terms_of bytes number f m) table ∙ ap (λ b. list_terms bytes number f.plan b records) sized

module _ (f g : Filter) (m : Meaning Pair ℤ) (n : Meaning Sequence ℕ) (table : m ≡ empty_list 256) (list : n ≡ empty_list 64) (blocks : f.blocks ≡ 5) (sized : g.blocks ≡ 2) where
  -- lines that the two books answered are those of the sheet
  pub lines_answer : (sheet text : List ℕ) (lines : List (List ℕ)) → length sheet ≤ 65535 → lines ≡ lines_of sheet
      → (f.plan.q ≡ 8) × (f.plan.r ≡ 24) → (g.plan.q ≡ 6) × (g.plan.r ≡ 16)
      → LinesAnswered (terms pair_bytes (state_of f m (λ k. fibonacci k.left k.right))) (terms sequence_bytes (state_of g n (λ k. fnv (sequence_bytes k)))) [] [] 1 lines text
      → SheetAnswered sheet text
  lines_answer sheet text lines few are kern ligature h = inl (
    few,
    record {
      kern = f.plan;
      ligature = g.plan;
      kern_bits = kern;
      ligature_bits = ligature;
      lines = subst₂ (λ (t : Terms Pair) (u : Terms Sequence). LinesAnswered t u [] [] 1 (lines_of sheet) text)
          (terms_are pair_bytes (λ k. fibonacci k.left k.right) f m 256 table 5 blocks) (terms_are sequence_bytes (λ k. fnv (sequence_bytes k)) g n 64 list 2 sized) (rw are at h);
    },
  )
