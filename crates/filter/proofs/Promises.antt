-- From what a call leaves in the words to what it promises of the filter.
use Rattle.std.proofs.Common.{◌≡◌, ℕ, zero, suc, ◌+◌, ◌-◌, ◌*◌, ◌/◌, ◌^◌, ◌<◌, ◌≤◌, ltb, Bool, List, [], ◌∷◌, ◌++◌, length, get_or, take, drop, replicate, sym, refl, ap, ◌∙◌, subst, ap₂, lt_of_lt_of_le, arith, pow_mono, shr_lt}
use Rattle.std.proofs.ByRecursion.{All-get_or, All-from_get_or}
use Rattle.std.proofs.lemmas.Bool.{cond-true, cond-false, lt-ltb, le-ltb}
use Rattle.std.proofs.lemmas.List.{length-take}
use Rattle.words.proofs.Rows.{Words}
use Rattle.layout.specs.Rule.{one_if, quotient, sorted, with_one, without_one, laid, layout, used_at, many, Roomy}
use Rattle.layout.specs.Format.{filter_words, block_count}
use Rattle.layout.specs.Laws.{copies_of}
use Rattle.layout.specs.Load.{load, FirstFree}
use Rattle.layout.proofs.Bounds.{empty_law, within_law, bag_law}
use Rattle.layout.proofs.Bridge.{offset_law}
use Rattle.layout.proofs.Formats.{words_any_order}
use Rattle.layout.proofs.Inserts.{sorted_sorted, sorted_insert, sorted_remove, all_insert, all_remove, length_insert}
use Rattle.layout.proofs.Rooms.{insert_room_law, remove_room_law, used_law}
use Rattle.layout.proofs.Sorts.{length_sorted, length_remove}
use Rattle.blocks.specs.Views.{offset_in}
use Rattle.blocks.specs.Moves.{BlockWithin}
use Rattle.blocks.proofs.Moving.{within_all}
use Rattle.filter.specs.Meaning.{size_of, fingerprints_in, entries_of, Sound}
use Rattle.filter.specs.Filters.{words_of, fingerprints, slots_of, laid_over, cleared_over, Narrow, Crowds, FreeFrom, FullFrom}
use Rattle.filter.specs.Editing.{EntryPut, EntryGone}
use Rattle.filter.specs.Arrivals.{Arrives, Departs}
use Rattle.filter.specs.Layouts.{bits_of, words_in, entries, LayoutOf}
use Rattle.filter.specs.declared.plan.Plan.{Plan}
use Rattle.filter.specs.declared.filter.Filter.{Filter}
use Rattle.filter.specs.declared.laid.Layout.{Layout}
use Rattle.layout.proofs.Bags.{sorted_of_Sorted}
use Rattle.filter.proofs.Held.{sorted_is, size_room, sound_words, room_any_order, any_order_room, quotients_under, find_crowded, entries_are, zeros_are, Facts, facts, narrow_sorted}
use Rattle.filter.proofs.Edited.{remainder_low, offsets_few, put_words, gone_there, gone_waits, gone_words}

sorted_none : sorted [] ≡ []
unfolding sorted
sorted_none = refl

-- ---- a filter's own facts

pub room_of : (f : Filter) → size_of f.plan.r f.blocks ≤ length (words_of f)
room_of f = subst (λ b. size_of f.plan.r b ≤ length (words_of f)) (sym f.sized) (size_room f.plan.r (length (words_of f)))

pub few_of : (f : Filter) → f.blocks ≤ 16640
few_of f = omega (arith, f.sized)

-- the words of the blocks are sound
own_of : (f : Filter) → Sound f.plan.r f.blocks (take (size_of f.plan.r f.blocks) (words_of f))
own_of f = sound_words f.plan.r f.blocks (take (size_of f.plan.r f.blocks) (words_of f)) f.plan.some (few_of f) f.laid f.rising f.roomy

-- words that are the layout of the same list are the words of the blocks
pub own_words : (f : Filter) (ws : List ℕ) → ws ≡ filter_words f.plan.r f.blocks (fingerprints f) → ws ≡ take (size_of f.plan.r f.blocks) (words_of f)
own_words f ws is = is ∙ sym f.laid

-- what is said of the layout that is read is said of the filter
pub by_layout : (f : Filter) (l : Layout) → LayoutOf f l → (P : ℕ → ℕ → List ℕ → Type 0) → P (bits_of l) l.count (entries l) → P f.plan.r f.blocks (fingerprints f)
by_layout f l v P h =
    subst (λ ws. P f.plan.r f.blocks (fingerprints_in f.plan.r f.blocks ws)) v.words
    (subst (λ n. P f.plan.r n (fingerprints_in f.plan.r n (words_in l))) v.count
    (subst (λ r. P r l.count (fingerprints_in r l.count (words_in l))) v.bits h))

pub held_few : (f : Filter) → f.held ≤ slots_of f
held_few f = omega (arith, f.counted, (within_law (slots_of f) f.plan.r (fingerprints f) (sorted_is (fingerprints f) f.rising) f.roomy).size)

pub quotient_small : (f : Filter) (l : Layout) (p : ℕ) → LayoutOf f l → p < 2 ^ (f.plan.q + f.plan.r) → quotient (bits_of l) p < 2 ^ 32
unfolding quotient
quotient_small f l p v less =
    let wide : f.plan.q ≤ 32 = omega (arith, f.plan.high) in
    subst (λ r. p / 2 ^ r < 2 ^ 32) (sym v.bits) (lt_of_lt_of_le (shr_lt f.plan.q f.plan.r less) (pow_mono wide))

-- what a slot shows, by the load
used_shown : (f : Filter) (s : ℕ) → used_at (layout f.plan.r (fingerprints f)) s ≡ one_if (ltb 0 (load (many f.plan.r (fingerprints f)) s + many f.plan.r (fingerprints f) s))
used_shown f s =
    let es = fingerprints f in
    let r = f.plan.r in
    ap (λ x. used_at (laid r 0 x) s) f.rising ∙ used_law r es (sorted_is es f.rising) s
    ∙ ap (λ x. one_if (ltb 0 (x + many r es s))) (offset_law r es (sorted_is es f.rising) s)

-- ---- one entry more

sorted_more : (f : Filter) (p : ℕ) → sorted (p ∷ fingerprints f) ≡ with_one p (fingerprints f)
sorted_more f p = (bag_law p (fingerprints f)).0 ∙ ap (with_one p) f.rising

more_rising : (f : Filter) (p : ℕ) → sorted (with_one p (fingerprints f)) ≡ with_one p (fingerprints f)
more_rising f p = sorted_of_Sorted (with_one p (fingerprints f)) (sorted_insert p (fingerprints f) (sorted_is (fingerprints f) f.rising))

pub more_facts : (f : Filter) (p u held : ℕ) (vs : List ℕ) → p < 2 ^ (f.plan.q + f.plan.r) → FirstFree (many f.plan.r (fingerprints f)) (quotient f.plan.r p) u → u < slots_of f
    → length (words_of f) ≡ length vs → held ≡ f.held + 1 → vs ≡ laid_over f.plan.r f.blocks (with_one p (fingerprints f)) (words_of f)
    → Facts f.plan.q f.plan.r f.blocks held vs
more_facts f p u held vs small free l len counts is =
    let es = fingerprints f in
    let bound : ℕ = 2 ^ (f.plan.q + f.plan.r) in
    facts f.plan.q f.plan.r f.blocks held (with_one p es) (drop (size_of f.plan.r f.blocks) (words_of f)) vs f.plan.some
    (f.sized ∙ ap (block_count f.plan.r) len) (more_rising f p)
    ((insert_room_law (slots_of f) f.plan.r p es (sorted_is es f.rising) f.roomy).1 u free l)
    (λ k g. All-get_or (λ x. x < bound) (with_one p es) k 0 g (all_insert (λ x. x < bound) p es small (All-from_get_or (λ x. x < bound) es 0 f.narrow)))
    (omega (arith, counts, f.counted, length_insert p es)) is

-- what `Added` says, of the words that were left
pub added : (f : Filter) (p u : ℕ) (vs : List ℕ) → FirstFree (many f.plan.r (fingerprints f)) (quotient f.plan.r p) u → u < slots_of f
    → vs ≡ laid_over f.plan.r f.blocks (with_one p (fingerprints f)) (words_of f)
    → Roomy (slots_of f) f.plan.r (p ∷ fingerprints f) × FreeFrom f (quotient f.plan.r p)
    × (entries_of f.plan.r f.blocks vs ≡ with_one p (fingerprints f)) × (vs ≡ laid_over f.plan.r f.blocks (p ∷ fingerprints f) (words_of f))
added f p u vs free l is =
    let es = fingerprints f in
    let r = f.plan.r in
    let room = (insert_room_law (slots_of f) r p es (sorted_is es f.rising) f.roomy).1 u free l in (
      room_any_order (slots_of f) r (p ∷ es) (subst (Roomy (slots_of f) r) (sym (sorted_more f p)) room),
      (u, free.from, l, used_shown f u ∙ cond-false (ltb 0 (load (many r es) u + many r es u)) 1 0 (le-ltb 0 (load (many r es) u + many r es u) (omega (arith, free.free)))),
      entries_are r f.blocks f.plan.some (few_of f) (with_one p es) (drop (size_of r f.blocks) (words_of f)) vs (more_rising f p) room is,
      is ∙ ap (λ x. x ++ drop (size_of r f.blocks) (words_of f)) (ap (filter_words r f.blocks) (sym (sorted_more f p)) ∙ words_any_order r f.blocks (p ∷ es)),
    )

pub not_added : (f : Filter) (p : ℕ) → p < 2 ^ (f.plan.q + f.plan.r)
    → ((x : ℕ) → quotient f.plan.r p ≤ x → x < slots_of f → 0 < load (many f.plan.r (fingerprints f)) x + many f.plan.r (fingerprints f) x)
    → Crowds f.plan (slots_of f) (p ∷ fingerprints f) × FullFrom f (quotient f.plan.r p)
not_added f p small full =
    let es = fingerprints f in
    let r = f.plan.r in (
      find_crowded (slots_of f) r (p ∷ es) (2 ^ f.plan.q)
          (quotients_under f.plan.q r (p ∷ es) (λ k l. narrow_more k l))
          (λ room.
          let w = (insert_room_law (slots_of f) r p es (sorted_is es f.rising) f.roomy).0 (subst (Roomy (slots_of f) r) (sorted_more f p) (any_order_room (slots_of f) r (p ∷ es) room)) in
          omega (arith, w.1.free, full w.0 w.1.from w.2)),
      (λ u lo hi. used_shown f u ∙ cond-true (ltb 0 (load (many r es) u + many r es u)) 1 0 (lt-ltb 0 (load (many r es) u + many r es u) (full u lo hi))),
    )
  where
    narrow_more : (k : ℕ) → k < length (p ∷ fingerprints f) → get_or (p ∷ fingerprints f) k 0 < 2 ^ (f.plan.q + f.plan.r)
    narrow_more zero l = small
    narrow_more (suc k) l = f.narrow k (omega arith)

-- the layout of a list over the words of the blocks, and what stood after them
pub over : (f : Filter) (ps after : List ℕ) (n : ℕ) → after ≡ filter_words f.plan.r f.blocks ps → n ≡ size_of f.plan.r f.blocks → after ++ drop n (words_of f) ≡ laid_over f.plan.r f.blocks ps (words_of f)
over f ps after n is e = ap₂ (λ x k. x ++ drop k (words_of f)) is e

-- the first k words
abbrev own : Filter → ℕ → List ℕ
own f k = take k (words_of f)

-- an entry that comes into the words of the blocks
module _ (f : Filter) (l : Layout) (v : LayoutOf f l) (p c s free rem : ℕ) (ends follows : Bool) (place : Arrives (bits_of l) l.count (entries l) p c s free rem ends follows) where
  pub arrives_in : Arrives f.plan.r f.blocks (fingerprints f) p c s free rem ends follows
  arrives_in = by_layout f l v (λ r blocks es. Arrives r blocks es p c s free rem ends follows) place

  module _ (r n : ℕ) (er : r ≡ f.plan.r) (en : n ≡ size_of f.plan.r f.blocks) where
    pub put_needs : BlockWithin r (own f n) free × (rem < 2 ^ r) × ((b : ℕ) → offset_in r (own f n) b < 2 ^ 32)
    put_needs =
        let size : ℕ = size_of f.plan.r f.blocks in
        subst (λ k. BlockWithin r (own f k) free × (rem < 2 ^ r) × ((b : ℕ) → offset_in r (own f k) b < 2 ^ 32)) (sym en)
        (subst (λ x. BlockWithin x (own f size) free × (rem < 2 ^ x) × ((b : ℕ) → offset_in x (own f size) b < 2 ^ 32)) (sym er)
        (within_all f.plan.r (own f size) f.blocks free (own_of f).sized arrives_in.below, subst (λ x. x < 2 ^ f.plan.r) (sym arrives_in.its_remainder) (remainder_low f.plan.r p), offsets_few f.plan.r f.blocks (own f size) (own_of f)))

    pub put_over : (after : List ℕ) → EntryPut r (own f n) after c s free rem ends follows → Words after → length after ≡ length (own f n)
        → after ++ drop n (words_of f) ≡ laid_over f.plan.r f.blocks (with_one p (fingerprints f)) (words_of f)
    put_over after put all len =
        let size : ℕ = size_of f.plan.r f.blocks in
        let there = subst (λ k. EntryPut f.plan.r (own f k) after c s free rem ends follows) en (subst (λ x. EntryPut x (own f n) after c s free rem ends follows) er put) in
        over f (with_one p (fingerprints f)) after n
        (put_words f.plan.r f.blocks (own f size) (own_of f) p c s free rem ends follows arrives_in after f.plan.some all (len ∙ ap (λ k. length (own f k)) en ∙ (own_of f).sized) there) en

-- ---- one entry less

-- an entry that goes out of the words of the blocks
module _ (f : Filter) (l : Layout) (v : LayoutOf f l) (p c s gap : ℕ) (follows only : Bool) (place : Departs (bits_of l) l.count (entries l) p c s gap follows only) where
  departs_in : Departs f.plan.r f.blocks (fingerprints f) p c s gap follows only
  departs_in = by_layout f l v (λ r blocks es. Departs r blocks es p c s gap follows only) place

  -- some entry has what goes
  pub gone_held : 0 < copies_of p (fingerprints f)
  gone_held = gone_there f.plan.r f.blocks (take (size_of f.plan.r f.blocks) (words_of f)) (own_of f) p c s gap follows only departs_in

  module _ (r n : ℕ) (er : r ≡ f.plan.r) (en : n ≡ size_of f.plan.r f.blocks) where
    pub gone_needs : BlockWithin r (own f n) gap × ((b : ℕ) → c < 64 * b → 64 * b ≤ gap → 0 < offset_in r (own f n) b)
    gone_needs =
        let size : ℕ = size_of f.plan.r f.blocks in
        subst (λ k. BlockWithin r (own f k) gap × ((b : ℕ) → c < 64 * b → 64 * b ≤ gap → 0 < offset_in r (own f k) b)) (sym en)
        (subst (λ x. BlockWithin x (own f size) gap × ((b : ℕ) → c < 64 * b → 64 * b ≤ gap → 0 < offset_in x (own f size) b)) (sym er)
        (within_all f.plan.r (own f size) f.blocks gap (own_of f).sized departs_in.below, gone_waits f.plan.r f.blocks (own f size) (own_of f) p c s gap follows only departs_in))

    pub gone_over : (after : List ℕ) → EntryGone r (own f n) after c s gap follows only → Words after → length after ≡ length (own f n)
        → after ++ drop n (words_of f) ≡ laid_over f.plan.r f.blocks (without_one p (fingerprints f)) (words_of f)
    gone_over after gone all len =
        let size : ℕ = size_of f.plan.r f.blocks in
        let there = subst (λ k. EntryGone f.plan.r (own f k) after c s gap follows only) en (subst (λ x. EntryGone x (own f n) after c s gap follows only) er gone) in
        over f (without_one p (fingerprints f)) after n
        (gone_words f.plan.r f.blocks (own f size) (own_of f) p c s gap follows only departs_in after f.plan.some all (len ∙ ap (λ k. length (own f k)) en ∙ (own_of f).sized) there) en

less_rising : (f : Filter) (p : ℕ) → sorted (without_one p (fingerprints f)) ≡ without_one p (fingerprints f)
less_rising f p = sorted_of_Sorted (without_one p (fingerprints f)) (sorted_remove p (fingerprints f) (sorted_is (fingerprints f) f.rising))

pub less_facts : (f : Filter) (p held : ℕ) (vs : List ℕ) → 0 < copies_of p (fingerprints f)
    → length (words_of f) ≡ length vs → held ≡ f.held - 1 → vs ≡ laid_over f.plan.r f.blocks (without_one p (fingerprints f)) (words_of f)
    → Facts f.plan.q f.plan.r f.blocks held vs
less_facts f p held vs there len sum is =
    let es = fingerprints f in
    let bound : ℕ = 2 ^ (f.plan.q + f.plan.r) in
    facts f.plan.q f.plan.r f.blocks held (without_one p es) (drop (size_of f.plan.r f.blocks) (words_of f)) vs f.plan.some
    (f.sized ∙ ap (block_count f.plan.r) len) (less_rising f p) (remove_room_law (slots_of f) f.plan.r p es f.roomy)
    (λ k g. All-get_or (λ x. x < bound) (without_one p es) k 0 g (all_remove (λ x. x < bound) p es (All-from_get_or (λ x. x < bound) es 0 f.narrow)))
    (omega (arith, sum, f.counted, length_remove p es there)) is

pub taken : (f : Filter) (p : ℕ) (vs : List ℕ) → vs ≡ laid_over f.plan.r f.blocks (without_one p (fingerprints f)) (words_of f)
    → entries_of f.plan.r f.blocks vs ≡ without_one p (fingerprints f)
taken f p vs is =
    entries_are f.plan.r f.blocks f.plan.some (few_of f) (without_one p (fingerprints f)) (drop (size_of f.plan.r f.blocks) (words_of f)) vs (less_rising f p)
    (remove_room_law (slots_of f) f.plan.r p (fingerprints f) f.roomy) is

-- ---- none

-- the first words were made 0
pub filled : (n m : ℕ) (ws own : List ℕ) → n ≡ m → m ≤ length ws → own ≡ replicate (length (take n ws)) 0 → own ++ drop n ws ≡ replicate m 0 ++ drop m ws
filled n m ws own e l is =
    let z : length (take n ws) ≡ m = length-take n ws ∙ omega (arith, e) in
    ap₂ (λ x y. x ++ y) (is ∙ ap (λ k. replicate k 0) z) (ap (λ k. drop k ws) e)

module _ (plan : Plan) (blocks : ℕ) (ws vs : List ℕ) (sized : blocks ≡ block_count plan.r (length vs)) (is : vs ≡ cleared_over plan.r blocks ws) where
  few : blocks ≤ 16640
  few = omega (arith, sized)

  laid_none : vs ≡ laid_over plan.r blocks [] ws
  laid_none = is ∙ ap (λ x. x ++ drop (size_of plan.r blocks) ws) (zeros_are plan.r blocks plan.some few)

  pub none_facts : Facts plan.q plan.r blocks 0 vs
  none_facts =
      facts plan.q plan.r blocks 0 [] (drop (size_of plan.r blocks) ws) vs plan.some sized sorted_none (empty_law (64 * blocks) plan.r 0).0 (λ k l. absurd (omega arith)) refl laid_none

  pub none_held : entries_of plan.r blocks vs ≡ []
  none_held = entries_are plan.r blocks plan.some few [] (drop (size_of plan.r blocks) ws) vs sorted_none (empty_law (64 * blocks) plan.r 0).0 laid_none

-- ---- a whole list

module _ (f : Filter) (list : List ℕ) (narrow : Narrow f.plan list) where
  -- the list in rising order has room
  pub list_facts : (held : ℕ) (vs : List ℕ) → Roomy (slots_of f) f.plan.r (sorted list) → length (words_of f) ≡ length vs → held ≡ length list
      → vs ≡ laid_over f.plan.r f.blocks (sorted list) (words_of f) → Facts f.plan.q f.plan.r f.blocks held vs
  list_facts held vs room len counts is =
      facts f.plan.q f.plan.r f.blocks held (sorted list) (drop (size_of f.plan.r f.blocks) (words_of f)) vs f.plan.some (f.sized ∙ ap (block_count f.plan.r) len)
      (sorted_of_Sorted (sorted list) (sorted_sorted list)) room (narrow_sorted (2 ^ (f.plan.q + f.plan.r)) list narrow) (counts ∙ sym (length_sorted list)) is

  pub list_laid : (vs : List ℕ) → Roomy (slots_of f) f.plan.r (sorted list) → vs ≡ laid_over f.plan.r f.blocks (sorted list) (words_of f)
      → Roomy (slots_of f) f.plan.r list × (entries_of f.plan.r f.blocks vs ≡ sorted list) × (vs ≡ laid_over f.plan.r f.blocks list (words_of f))
  list_laid vs room is = (
    room_any_order (slots_of f) f.plan.r list room,
    entries_are f.plan.r f.blocks f.plan.some (few_of f) (sorted list) (drop (size_of f.plan.r f.blocks) (words_of f)) vs (sorted_of_Sorted (sorted list) (sorted_sorted list)) room is,
    is ∙ ap (λ x. x ++ drop (size_of f.plan.r f.blocks) (words_of f)) (words_any_order f.plan.r f.blocks list),
  )

  -- or it has none, and some quotient is crowded
  pub list_crowds : (Roomy (slots_of f) f.plan.r (sorted list) → ⊥) → Crowds f.plan (slots_of f) list
  list_crowds full =
      find_crowded (slots_of f) f.plan.r list (2 ^ f.plan.q) (quotients_under f.plan.q f.plan.r list narrow) (λ room. full (any_order_room (slots_of f) f.plan.r list room))
