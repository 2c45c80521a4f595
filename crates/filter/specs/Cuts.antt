-- Numbers cut to fingerprints.
use Rattle.std.specs.Prelude.{ℕ, ◌+◌, ◌%◌, ◌^◌}
use Rattle.filter.specs.declared.plan.Plan.{Plan}

-- a number cut to a fingerprint under the plan
abbrev pub cut_to : Plan → ℕ → ℕ
cut_to plan n = n % 2 ^ (plan.q + plan.r)
