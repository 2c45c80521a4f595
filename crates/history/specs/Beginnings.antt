-- A book that begins empty, over a list of records.
use Rattle.std.specs.Prelude.{ℕ, ◌*◌, true, List, None, Option}
use Rattle.filter.specs.Cuts.{cut_to}
use Rattle.filter.specs.declared.plan.Plan.{Plan}
use Rattle.history.specs.Rules.{Terms}

-- no key has a value
abbrev pub nothing : {K V : Type 0} → K → Option V
nothing k = None

-- What the rules go by in a book over a list of so many records, with a filter of that plan and so many blocks: any key is admitted.
abbrev pub list_terms : {K : Type 0} → (K → List ℕ) → (K → ℕ) → Plan → ℕ → ℕ → Terms K
list_terms bytes number plan blocks records =
    record {
      bytes = bytes;
      fingerprint = λ k. cut_to plan (number k);
      admits = λ k. true;
      capacity = records;
      plan = plan;
      slots = 64 * blocks;
    }
