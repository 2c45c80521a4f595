-- How large the books are.
use Rattle.std.specs.Prelude.{◌≡◌, ℕ, ◌≤◌, min, Some, None, Ok, Err, Option, Result}
use Rattle.filter.specs.declared.fault.FilterFault.{FilterFault}
use Rattle.filter.specs.declared.fault.FilterFault.TheVariants.{BadPlan}
use Rattle.console.specs.declared.request.Request.{Request}
use Rattle.kernwords.specs.declared.sizes.Size.{Size}

-- a filter with that plan and so many blocks, over a list of so many records
abbrev pub SizedAs : ℕ → ℕ → ℕ → ℕ → Size → Type 0
SizedAs q r blocks records s = (s.plan.q ≡ q) × (s.plan.r ≡ r) × (s.blocks ≡ blocks) × (s.records ≡ records)

-- The kerning book that ships has a list of 256 records. One that is asked for has the plan and the blocks that are asked for, of these at most 16,640, and a
-- list of 65,536; it is refused where q or r is out of range.
abbrev pub KernSized : Option Request → Result Size FilterFault → Type 0
KernSized None (Ok s) = SizedAs 8 24 5 256 s
KernSized None (Err e) = ⊥
KernSized (Some p) (Ok s) = SizedAs p.q p.r (min p.blocks 16640) 65536 s
KernSized (Some p) (Err e) = (e ≡ BadPlan) × (((6 ≤ p.q) × (p.q ≤ 20) × (1 ≤ p.r) × (p.r ≤ 32)) → ⊥)

-- the ligature book that ships
abbrev pub LigatureSized : Size → Type 0
LigatureSized s = SizedAs 6 16 2 64 s
