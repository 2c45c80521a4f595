-- What one entry more, or one less, does to the load.
use Rattle.std.proofs.Common.{◌≡◌, ℕ, zero, suc, ◌+◌, ◌-◌, ◌<◌, ◌≤◌, ◌≢◌, ◌⊎◌, sym, refl, ap, ◌∙◌, inl, inr, ⊎_elim, arith}
use Rattle.std.proofs.lemmas.Bool.{cases_lt, cases_eq}
use Rattle.layout.specs.Load.{load, start, OneMore, FirstFree, FirstIdle, Raised, Lowered, InsertLaw, RemoveLaw, JumpLaw}

pub load_step : (m : ℕ → ℕ) (x : ℕ) → load m (suc x) ≡ (load m x + m x) - 1
unfolding load
load_step m x = refl

pub load_none : (m : ℕ → ℕ) → load m 0 ≡ 0
unfolding load
load_none m = refl

-- loads that agree at x, of numbers that agree from there on
pub same_from : (m n : ℕ → ℕ) (x : ℕ) → load m x ≡ load n x → ((y : ℕ) → x ≤ y → m y ≡ n y) → (y : ℕ) → x ≤ y → load m y ≡ load n y
same_from m n x e h zero l = let z : x ≡ 0 = omega arith in ap (load m) (sym z) ∙ e ∙ ap (load n) z
same_from m n x e h (suc y) l =
    ⊎_elim (λ (z : x ≡ suc y). ap (load m) (sym z) ∙ e ∙ ap (load n) z)
    (λ (z : x ≢ suc y). omega (arith, load_step m y, load_step n y, same_from m n x e h y (omega arith), h y (omega arith)))
    (cases_eq x (suc y))

pub same_upto : (m n : ℕ → ℕ) (x : ℕ) → ((y : ℕ) → y < x → m y ≡ n y) → load m x ≡ load n x
same_upto m n zero h = load_none m ∙ sym (load_none n)
same_upto m n (suc x) h =
    omega (arith, load_step m x, load_step n x, same_upto m n x (λ y l. h y (omega arith)), h x (omega arith))

module _ (m n : ℕ → ℕ) (c : ℕ) (one : OneMore m n c) where
  below_c : (x : ℕ) → x ≤ c → load n x ≡ load m x
  below_c x l = same_upto n m x (λ y g. one.other y (λ e. omega arith))

  at_c : (x : ℕ) → x ≡ c → n x ≡ suc (m x)
  at_c x e = ap n e ∙ one.here ∙ ap (λ y. suc (m y)) (sym e)

  -- up to a slot, where none from c on is free
  pub above_c : (u : ℕ) → ((x : ℕ) → c ≤ x → x < u → 0 < load m x + m x) → (x : ℕ) → c < x → x ≤ u → load n x ≡ suc (load m x)
  above_c u full zero l g = absurd (omega arith)
  above_c u full (suc x) l g =
      ⊎_elim
      (λ (e : x ≡ c). omega (arith, at_c x e, load_step m x, load_step n x, below_c x (omega arith), full x (omega arith) (omega arith)))
      (λ (e : x ≢ c). omega (arith, load_step m x, load_step n x, above_c u full x (omega arith) (omega arith), one.other x e, full x (omega arith) (omega arith)))
      (cases_eq x c)

  pub raised : (u : ℕ) → FirstFree m c u → Raised m n c u
  raised u f = record {
    before = below_c;
    within = above_c u f.used;
    after = λ x l. same_from n m (suc u)
        (⊎_elim
        (λ (e : u ≡ c). omega (arith, load_step m u, load_step n u, at_c u e, below_c u (omega arith), f.free))
        (λ (e : u ≢ c). omega (arith, load_step m u, load_step n u, f.from, one.other u e, above_c u f.used u (omega (arith, f.from)) (omega arith), f.free))
        (cases_eq u c))
        (λ y g. one.other y (λ e. omega (arith, f.from))) x l;
  }

  -- and the other way: from n, with the entry at c, to m
  down_c : (t : ℕ) → FirstIdle n c t → (x : ℕ) → c < x → x < t → suc (load m x) ≡ load n x
  down_c t f zero l g = absurd (omega arith)
  down_c t f (suc x) l g =
      ⊎_elim
      (λ (e : x ≡ c). omega (arith, at_c x e, load_step m x, load_step n x, below_c x (omega arith), f.waits (suc x) l g))
      (λ (e : x ≢ c). omega (arith, load_step m x, load_step n x, down_c t f x (omega arith) (omega arith), one.other x e, f.waits (suc x) l g))
      (cases_eq x c)

  idle_at : (t : ℕ) → FirstIdle n c t → load m t ≡ load n t
  idle_at zero f = absurd (omega (arith, f.from))
  idle_at (suc t) f =
      ⊎_elim
      (λ (e : t ≡ c). omega (arith, at_c t e, load_step m t, load_step n t, below_c t (omega arith), f.idle))
      (λ (e : t ≢ c). omega (arith, load_step m t, load_step n t, down_c (suc t) f t (omega (arith, f.from)) (omega arith), one.other t e, f.idle, f.waits t (omega (arith, f.from)) (omega arith)))
      (cases_eq t c)

  pub lowered : (t : ℕ) → FirstIdle n c t → Lowered n m c t
  lowered t f = record {
    before = λ x l. sym (below_c x l);
    within = down_c t f;
    after = same_from m n t (idle_at t f) (λ y g. sym (one.other y (λ e. omega (arith, f.from))));
  }

pub insert_law : InsertLaw
insert_law m n c u one f = raised m n c one u f

pub remove_law : RemoveLaw
remove_law m n c t one f = lowered n m c one t f

-- ---- starts and jumps

pub start_step : (m : ℕ → ℕ) (x : ℕ) → (start m (suc x) ≡ (start m x + m x)) ⊎ ((start m (suc x) ≡ suc x) × (load m x + m x ≡ 0))
start_step m x = ⊎_elim (λ (l : 0 < load m x + m x). inl (omega (arith, load_step m x))) (λ (l : load m x + m x ≤ 0). inr (omega (arith, load_step m x), omega arith)) (cases_lt 0 (load m x + m x))

pub start_mono : (m : ℕ → ℕ) (x y : ℕ) → x ≤ y → start m x ≤ start m y
start_mono m x zero l = let z : x ≡ 0 = omega arith in omega (arith, ap (load m) z)
start_mono m x (suc y) l =
    ⊎_elim (λ (z : x ≡ suc y). omega (arith, ap (load m) z))
    (λ (z : x ≢ suc y). omega (arith, load_step m y, start_mono m x y (omega arith))) (cases_eq x (suc y))

pub stop_mono : (m : ℕ → ℕ) (x y : ℕ) → x ≤ y → start m x + m x ≤ start m y + m y
stop_mono m x zero l = let z : x ≡ 0 = omega arith in omega (arith, ap (load m) z, ap m z)
stop_mono m x (suc y) l =
    ⊎_elim (λ (z : x ≡ suc y). omega (arith, ap (load m) z, ap m z))
    (λ (z : x ≢ suc y). omega (arith, load_step m y, stop_mono m x y (omega arith))) (cases_eq x (suc y))

pub jump_law : JumpLaw
jump_law m x y l = (λ g. omega (arith, stop_mono m x y l), λ g. omega (arith, start_mono m x y l))

-- each slot is one of those from the start of some x to the start of the next
pub cell : (m : ℕ → ℕ) (s n : ℕ) → s < start m n → (x : ℕ) × (x < n) × (start m x ≤ s) × (s < start m (suc x))
cell m s zero l = absurd (omega (arith, load_none m))
cell m s (suc n) l =
    ⊎_elim (λ (g : s < start m n). let c = cell m s n g in (c.0, omega (arith, c.1), c.2, c.3)) (λ (g : start m n ≤ s). (n, omega arith, g, l)) (cases_lt s (start m n))

pub cell_of : (m : ℕ → ℕ) (s : ℕ) → (x : ℕ) × (x < suc s) × (start m x ≤ s) × (s < start m (suc x))
cell_of m s = cell m s (suc s) (omega arith)

-- the first free slot of the n from c on, or none
pub find_free : (m : ℕ → ℕ) (c n : ℕ) → ((u : ℕ) × FirstFree m c u × (u < c + n)) ⊎ ((x : ℕ) → c ≤ x → x < c + n → 0 < load m x + m x)
find_free m c zero = inr (λ x l g. absurd (omega arith))
find_free m c (suc n) =
    ⊎_elim (λ f. inl (f.0, f.1, omega (arith, f.2)))
    (λ full. ⊎_elim
    (λ (z : 0 < load m (c + n) + m (c + n)). inr (λ x l g. ⊎_elim (λ (e : x ≡ c + n). rw e z) (λ (e : x ≢ c + n). full x l (omega arith)) (cases_eq x (c + n))))
    (λ (z : load m (c + n) + m (c + n) ≤ 0). inl (c + n, record { from = omega arith; free = omega arith; used = full }, omega arith))
    (cases_lt 0 (load m (c + n) + m (c + n))))
    (find_free m c n)
