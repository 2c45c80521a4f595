-- What `add` answers.
use Rattle.std.proofs.Common.{◌≡◌, ℕ, ◌+◌, ◌*◌, ◌^◌, ◌<◌, ◌≤◌, List, [], ◌∷◌, Ok, Err, Result, sym, refl, ap, ◌∙◌, subst, ap₂, subst₂, arith}
use Rattle.layout.specs.Rule.{quotient, with_one, sorted, laid, layout, reading_at, used_at, Crowded, Roomy}
use Rattle.layout.specs.Laws.{copies_of}
use Rattle.filter.specs.Filters.{fingerprints, Added, Taken}
use Rattle.filter.specs.declared.fault.FilterFault.{FilterFault}
use Rattle.filter.specs.declared.fault.FilterFault.TheVariants.{BadPlan, WideFingerprint, NoSlot, NoSuchFingerprint}
use Rattle.filter.specs.declared.filter.Filter.{Filter}
use Rattle.examples.specs.Examples.{SmallFilter}

pub not_wide : (f : Filter) (b p : ℕ) → SmallFilter f b → p < 2 ^ 14 → 2 ^ (f.plan.q + f.plan.r) ≤ p → ⊥
not_wide f b p s small wide =
    let l : 2 ^ 14 ≤ p = subst₂ (λ q r. 2 ^ (q + r) ≤ p) s.quotients s.remainders wide in
    omega arith

-- a crowded quotient: no slot
pub refused : (f g : Filter) (b p c : ℕ) (es : List ℕ) (res : Result (Unit {0}) FilterFault) → SmallFilter f b → fingerprints f ≡ es → p < 2 ^ 14
    → Crowded (64 * b) 8 (p ∷ es) c → Added f g p res → res ≡ Err NoSlot
refused f g b p c es (Ok done) s e small crowd (narrow, room, free, entries, words) =
    let here : Roomy (64 * b) 8 (p ∷ fingerprints f) = subst₂ (λ n r. Roomy (64 * n) r (p ∷ fingerprints f)) s.blocks s.remainders room in
    absurd (subst (λ x. Roomy (64 * b) 8 (p ∷ x)) e here c crowd)
refused f g b p c es (Err WideFingerprint) s e small crowd (wide, same) = absurd (not_wide f b p s small wide)
refused f g b p c es (Err NoSlot) s e small crowd a = refl
refused f g b p c es (Err BadPlan) s e small crowd a = absurd a
refused f g b p c es (Err NoSuchFingerprint) s e small crowd a = absurd a

-- a free slot u from the quotient on: no refusal
pub accepted : (f g : Filter) (b p u : ℕ) (es : List ℕ) (res : Result (Unit {0}) FilterFault) → SmallFilter f b → fingerprints f ≡ es → p < 2 ^ 14
    → quotient 8 p ≤ u → u < 64 * b → used_at (layout 8 es) u ≡ 0 → Added f g p res → res ≡ Ok tt
accepted f g b p u es (Ok done) s e small lo hi free a = refl
accepted f g b p u es (Err WideFingerprint) s e small lo hi free (wide, same) = absurd (not_wide f b p s small wide)
accepted f g b p u es (Err NoSlot) s e small lo hi free (narrow, crowds, full, same) =
    let used = full u (subst (λ r. quotient r p ≤ u) (sym s.remainders) lo) (subst (λ n. u < 64 * n) (sym s.blocks) hi) in
    let there : used_at (layout 8 es) u ≡ 1 = sym (ap₂ (λ r x. used_at (layout r x) u) s.remainders e) ∙ used in
    absurd (omega arith)
accepted f g b p u es (Err BadPlan) s e small lo hi free a = absurd a
accepted f g b p u es (Err NoSuchFingerprint) s e small lo hi free a = absurd a

-- an entry of p: no refusal to take one out
pub given : (f g : Filter) (b p : ℕ) (es : List ℕ) (res : Result (Unit {0}) FilterFault) → SmallFilter f b → fingerprints f ≡ es → p < 2 ^ 14
    → 0 < copies_of p es → Taken f g p res → res ≡ Ok tt
given f g b p es (Ok done) s e small some a = refl
given f g b p es (Err WideFingerprint) s e small some (wide, same) = absurd (not_wide f b p s small wide)
given f g b p es (Err NoSuchFingerprint) s e small some (narrow, none, same) =
    let nothing : copies_of p es ≡ 0 = sym (ap (copies_of p) e) ∙ none in
    absurd (omega arith)
given f g b p es (Err NoSlot) s e small some a = absurd a
given f g b p es (Err BadPlan) s e small some a = absurd a

pub small : (p c : ℕ) → quotient 8 p ≡ c → c < 64 → p < 2 ^ 14
unfolding quotient
small p c e l = omega arith

-- ---- the three cases of one block

pub crowd_two : (a p : ℕ) → quotient 8 a ≡ 63 → quotient 8 p ≡ 63 → Crowded 64 8 (p ∷ a ∷ []) 63
crowd_two a p ea ep = rw (ea, ep) (omega arith)

pub crowd_three : (a b p : ℕ) → quotient 8 a ≡ 62 → quotient 8 b ≡ 62 → quotient 8 p ≡ 63 → Crowded 64 8 (p ∷ a ∷ b ∷ []) 62
crowd_three a b p ea eb ep = rw (ea, eb, ep) (omega arith)

pub free_zero : (a : ℕ) → quotient 8 a ≡ 63 → used_at (layout 8 (a ∷ [])) 0 ≡ 0
unfolding sorted with_one laid reading_at
free_zero a e = rw e
