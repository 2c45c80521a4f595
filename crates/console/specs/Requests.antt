-- What the arguments ask for.
use Rattle.std.specs.Prelude.{◌≡◌, ◌≢◌, ℕ, ◌⊎◌, List, [], ◌∷◌, length, None, Option, Ok, Err, Result, MatchOption, MatchResult, String, string_bytes}
use Rattle.std.specs.declared.alloc.Global.{Global}
use Rattle.figures.specs.Figures.{Whole, NoWhole}
use Rattle.figures.specs.declared.FigureFault.{FigureFault}
use Rattle.console.specs.declared.request.Request.{Request}
use Rattle.console.specs.declared.fault.Fault.{Fault}
use Rattle.console.specs.declared.fault.Fault.TheVariants.{Arguments}

-- the words are the figures of the request's numbers; refused where one is no figure
abbrev pub WordsAsk : List ℕ → List ℕ → List ℕ → Result Request FigureFault → Type 0
WordsAsk q r blocks (Ok p) = Whole q p.q × Whole r p.r × Whole blocks p.blocks
WordsAsk q r blocks (Err e) = NoWhole q ⊎ (NoWhole r ⊎ NoWhole blocks)

-- what words ask for: where there are none, nothing; what three of them ask for; else they are refused
pub record Requested (words : List (String Global)) (result : Result (Option Request) Fault) : Type 0 where
  pub none : words ≡ [] → result ≡ Ok None
  pub three : (q r blocks : String Global) → words ≡ q ∷ (r ∷ (blocks ∷ [])) → MatchResult result (λ o. MatchOption o ⊥ (λ p. WordsAsk (string_bytes q) (string_bytes r) (string_bytes blocks) (Ok p))) (λ f. (f ≡ Arguments) × (NoWhole (string_bytes q) ⊎ (NoWhole (string_bytes r) ⊎ NoWhole (string_bytes blocks))))
  pub other : length words ≢ 0 → length words ≢ 3 → result ≡ Err Arguments
