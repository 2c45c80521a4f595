-- What is printed in answer to a whole log.
use Rattle.std.specs.Prelude.{◌≡◌, ℕ, ◌≤◌, ◌⊎◌, min, List, [], ◌++◌, IfSome, Some, None, Ok, Err, Option, Result}
use Rattle.std.specs.Io.KnownBytes.{Appends}
use Rattle.figures.specs.Lines.{lines_of}
use Rattle.filter.specs.Filters.{fingerprints}
use Rattle.filter.specs.declared.fault.FilterFault.TheVariants.{BadPlan}
use Rattle.filter.specs.declared.filter.Filter.{Filter}
use Rattle.console.specs.declared.fault.Fault.{Fault}
use Rattle.console.specs.declared.fault.Fault.TheVariants.{Memory, Stream, Arguments, Filter as Refuses}
use Rattle.console.specs.Sending.{AppendsBeginning}
use Rattle.console.specs.declared.request.Request.{Request}
use Rattle.filterlog.specs.Runs.{LinesRan}

-- the filter that a request asks for, with at most 16,640 blocks, when it holds nothing
pub record FilterBegun (request : Request) (f : Filter) : Type 0 where
  pub q : f.plan.q ≡ request.q
  pub r : f.plan.r ≡ request.r
  pub blocks : f.blocks ≡ min request.blocks 16640
  pub empty : fingerprints f ≡ []

-- What is printed by a request and a log, where o and p are what was printed before and after: the answers to its lines, in order. The log is all that the
-- reader had left, where that is known.
pub record LogPrinted (request : Request) (left o p : Option (List ℕ)) : Type 0 where
  pub log : List ℕ
  pub read : IfSome left (λ bytes. log ≡ bytes)
  pub before : Filter
  pub after : Filter
  pub begun : FilterBegun request before
  pub text : List ℕ
  pub ran : LinesRan (lines_of log) before after text
  pub said : Appends o p text

-- The first lines of a log answer a text, in order, by the filter that a request asks for. The log is all that the reader had left, where that is known.
pub record Started (request : Request) (left : Option (List ℕ)) (text : List ℕ) : Type 0 where
  pub log : List ℕ
  pub read : IfSome left (λ bytes. log ≡ bytes)
  pub answered : List (List ℕ)
  pub unanswered : List (List ℕ)
  pub lines : lines_of log ≡ answered ++ unanswered
  pub before : Filter
  pub after : Filter
  pub begun : FilterBegun request before
  pub ran : LinesRan answered before after text

-- q and r of a request are in the range of a plan's
abbrev pub PlanInRange : Request → Type 0
PlanInRange request = (6 ≤ request.q) × (request.q ≤ 20) × (1 ≤ request.r) × (request.r ≤ 32)

-- What is printed by a request and a log, where left and rest are what there was to read before and after; or why that is not printed to its end. Where memory
-- lacks, the answers to the first lines are printed whole, or nothing is; where a stream fails, a beginning of the answers to the first lines, or nothing. With a plan
-- that is out of range, or without a request, nothing is printed and the log is not read.
abbrev pub LogDone : Option Request → Option (List ℕ) → Option (List ℕ) → Option (List ℕ) → Option (List ℕ) → Result (Unit {0}) Fault → Type 0
LogDone (Some request) left rest o p (Ok done) = LogPrinted request left o p
LogDone (Some request) left rest o p (Err (Refuses e)) = (e ≡ BadPlan) × (PlanInRange request → ⊥) × (p ≡ o) × (rest ≡ left)
LogDone (Some request) left rest o p (Err Arguments) = ⊥
LogDone (Some request) left rest o p (Err Memory) = PlanInRange request × ((p ≡ o) ⊎ ((text : List ℕ) × Started request left text × Appends o p text))
LogDone (Some request) left rest o p (Err Stream) = PlanInRange request × ((p ≡ o) ⊎ ((text : List ℕ) × Started request left text × AppendsBeginning o p text))
LogDone None left rest o p (Ok done) = ⊥
LogDone None left rest o p (Err e) = (e ≡ Arguments) × (p ≡ o) × (rest ≡ left)
