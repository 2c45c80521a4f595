-- One entry more or less, from where it was found to the list that is then held.
use Rattle.std.proofs.Common.{◌≡◌, ℕ, zero, suc, ◌+◌, ◌-◌, ◌*◌, ◌^◌, ◌<◌, ◌≤◌, Bool, false, ◌&&◌, eqb, ltb, ◌≢◌, ◌⊎◌, List, [], ◌∷◌, length, get_or, sym, refl, ap, ◌∙◌, subst, ap₂, ⊎_elim, true≢false, mod-lt, arith, pow_pos}
use Rattle.std.proofs.lemmas.Bool.{cases_eq, cases_lt, cond-true, cond-false, eq-eqb, ne_eqb, lt-ltb, le-ltb}
use Rattle.std.proofs.lemmas.List.{length-map}
use Rattle.words.proofs.Rows.{Words}
use Rattle.layout.specs.Format.{filter_words}
use Rattle.layout.specs.Rule.{one_if, quotient, remainder, with_one, without_one, quotient_run, many}
use Rattle.layout.specs.Runs.{remainders}
use Rattle.layout.specs.Load.{start, FirstFree, FirstIdle}
use Rattle.layout.specs.Moves.{Fit}
use Rattle.layout.specs.Laws.{copies_of}
use Rattle.layout.proofs.Bags.{find_law}
use Rattle.layout.proofs.Bounds.{fit_law}
use Rattle.layout.proofs.Bridge.{layout_law}
use Rattle.layout.proofs.Edits.{insert_slots_law, remove_slots_law}
use Rattle.layout.proofs.Inserts.{one_remove, sorted_insert, sorted_remove}
use Rattle.layout.proofs.Loads.{load_step, remove_law}
use Rattle.layout.proofs.Sorts.{count_here}
use Rattle.blocks.specs.Views.{occupied_bit_in, remainder_in, offset_in, Shows}
use Rattle.blocks.proofs.Forms.{words_from_views}
use Rattle.filter.specs.Meaning.{size_of, fingerprints_in, Sound}
use Rattle.filter.specs.Locating.{Placed}
use Rattle.filter.specs.Editing.{EntryPut, EntryGone}
use Rattle.filter.specs.Arrivals.{before, Arrives, Departs}
use Rattle.layout.proofs.Bags.{sorted_of_Sorted}
use Rattle.filter.proofs.Editings.{put_shows, gone_shows}
use Rattle.filter.proofs.Locatings.{within, load_is}

count_none : (v : ℕ) (l : List ℕ) → ((i : ℕ) → i < length l → get_or l i 0 ≡ v → ⊥) → copies_of v l ≡ 0
count_none v [] h = refl
count_none v (x ∷ l) h =
    let other : one_if (eqb x v) ≡ 0 = cond-false (eqb x v) 1 0 (ne_eqb x v (λ e. h 0 (omega arith) e)) in
    omega (arith, count_here x v l, count_none v l (λ i g e. h (suc i) (omega arith) e))

count_some : (v : ℕ) (l : List ℕ) (j : ℕ) → j < length l → get_or l j 0 ≡ v → 0 < copies_of v l
count_some v [] j g e = absurd (omega arith)
count_some v (x ∷ l) zero g e =
    let same : one_if (eqb x v) ≡ 1 = cond-true (eqb x v) 1 0 (eq-eqb x v e) in omega (arith, count_here x v l)
count_some v (x ∷ l) (suc j) g e = omega (arith, count_here x v l, count_some v l j (omega arith) e)

pub remainder_low : (r p : ℕ) → remainder r p < 2 ^ r
unfolding remainder
remainder_low r p = mod-lt p (pow_pos r)

same_eqb : (a b c d : ℕ) → (a ≡ b → c ≡ d) → (c ≡ d → a ≡ b) → eqb a b ≡ eqb c d
same_eqb a b c d to back =
    ⊎_elim (λ (e : a ≡ b). eq-eqb a b e ∙ sym (eq-eqb c d (to e))) (λ (e : a ≢ b). ne_eqb a b e ∙ sym (ne_eqb c d (λ z. e (back z)))) (cases_eq a b)

same_ltb : (a b c d : ℕ) → (a < b → c < d) → (b ≤ a → d ≤ c) → ltb a b ≡ ltb c d
same_ltb a b c d to back =
    ⊎_elim (λ (l : a < b). lt-ltb a b l ∙ sym (lt-ltb c d (to l))) (λ (l : b ≤ a). le-ltb a b l ∙ sym (le-ltb c d (back l))) (cases_lt a b)

module _ (r blocks : ℕ) (ws : List ℕ) (sound : Sound r blocks ws) where
  -- offsets are small
  pub offsets_few : (b : ℕ) → offset_in r ws b < 2 ^ 32
  offsets_few b =
      let w = within r blocks ws sound in
      ⊎_elim (λ (l : 64 * b < 64 * blocks). omega (arith, sound.few, sound.shows.offsets b, w.offset (64 * b) (omega arith)))
      (λ (l : 64 * blocks ≤ 64 * b). omega (arith, sound.shows.offsets b, w.past (64 * b) l)) (cases_lt (64 * b) (64 * blocks))

  -- the i-th remainder of a run
  pub rem_at : (c i : ℕ) → i < many r (fingerprints_in r blocks ws) c → remainder_in r ws (start (many r (fingerprints_in r blocks ws)) c + i) ≡ get_or (remainders r (fingerprints_in r blocks ws) c) i 0
  rem_at c i l =
      let m = many r (fingerprints_in r blocks ws) in
      let z : (start m c + i) - start m c ≡ i = omega arith in
      sound.shows.remainders (start m c + i) ∙ (layout_law r (fingerprints_in r blocks ws) sound.rising).holds c (start m c + i) (omega arith) (omega (arith, load_step m c))
      ∙ ap (λ x. get_or (remainders r (fingerprints_in r blocks ws) c) x 0) z

  -- ---- whether a fingerprint is there

  -- in a run whose remainders rise, one that is not where it would be is nowhere
  pub absent : (c S T P v : ℕ) → S ≡ start (many r (fingerprints_in r blocks ws)) c → T ≡ S + many r (fingerprints_in r blocks ws) c → S ≤ P
      → ((k : ℕ) → S ≤ k → k < P → remainder_in r ws k < v) → (P < T → v ≤ remainder_in r ws P) → (T ≤ P) ⊎ (remainder_in r ws P ≢ v)
      → (k : ℕ) → k < many r (fingerprints_in r blocks ws) c → remainder_in r ws (start (many r (fingerprints_in r blocks ws)) c + k) ≡ v → ⊥
  absent c S T P v starts stops lo below here why k l e =
      let m = many r (fingerprints_in r blocks ws) in
      let s : start m c + k ≡ S + k = omega arith in
      let same = ap (remainder_in r ws) s in
      ⊎_elim
      (λ (g : S + k < P). omega (arith, below (S + k) (omega arith) g))
      (λ (g : P ≤ S + k). ⊎_elim
      (λ (h : T ≤ P). omega arith)
      (λ (h : remainder_in r ws P ≢ v).
      let j : ℕ = P - S in
      let at : start m c + j ≡ P = omega arith in
      let rise = (fit_law r (fingerprints_in r blocks ws) sound.rising c).1 j k (omega arith) l in
      omega (arith, rise, rem_at c j (omega arith), ap (remainder_in r ws) at, rem_at c k l, here (omega arith))) why)
      (cases_lt (S + k) P)

  pub none_there : (p : ℕ) → ((k : ℕ) → k < many r (fingerprints_in r blocks ws) (quotient r p) → remainder_in r ws (start (many r (fingerprints_in r blocks ws)) (quotient r p) + k) ≡ remainder r p → ⊥)
      → copies_of p (fingerprints_in r blocks ws) ≡ 0
  none_there p h =
      find_law r p (fingerprints_in r blocks ws)
      ∙ count_none (remainder r p) (remainders r (fingerprints_in r blocks ws) (quotient r p)) (λ i l e.
      let short : i < many r (fingerprints_in r blocks ws) (quotient r p) = omega (arith, length-map (quotient_run r (fingerprints_in r blocks ws) (quotient r p)) (remainder r)) in
      h i short (rem_at (quotient r p) i short ∙ e))

  -- nothing has a quotient that is not occupied
  pub not_occupied : (p : ℕ) → eqb (occupied_bit_in r ws (quotient r p)) 1 ≡ false → copies_of p (fingerprints_in r blocks ws) ≡ 0
  not_occupied p e =
      none_there p (λ k l z.
      let one : occupied_bit_in r ws (quotient r p) ≡ 1 = sound.shows.occupied (quotient r p) ∙ cond-true (ltb 0 (many r (fingerprints_in r blocks ws) (quotient r p))) 1 0 (lt-ltb 0 (many r (fingerprints_in r blocks ws) (quotient r p)) (omega arith)) in
      true≢false (sym (eq-eqb (occupied_bit_in r ws (quotient r p)) 1 one) ∙ e))

  pub one_there : (p j : ℕ) → j < many r (fingerprints_in r blocks ws) (quotient r p) → get_or (remainders r (fingerprints_in r blocks ws) (quotient r p)) j 0 ≡ remainder r p → 0 < copies_of p (fingerprints_in r blocks ws)
  one_there p j l e =
      omega (
        arith,
        find_law r p (fingerprints_in r blocks ws),
        count_some (remainder r p) (remainders r (fingerprints_in r blocks ws) (quotient r p)) j (omega (arith, length-map (quotient_run r (fingerprints_in r blocks ws) (quotient r p)) (remainder r))) e,
      )

  -- ---- an entry more

  -- where the search in the run stopped, the entry would come
  module _ (p S T P : ℕ) (starts : S ≡ start (many r (fingerprints_in r blocks ws)) (quotient r p)) (stops : T ≡ S + many r (fingerprints_in r blocks ws) (quotient r p))
      (lo : S ≤ P) (hi : P ≤ T) (below : (k : ℕ) → S ≤ k → k < P → remainder_in r ws k < remainder r p) (here : P < T → remainder r p ≤ remainder_in r ws P) where
    put_fit : Fit (before r (fingerprints_in r blocks ws) p P) (remainder r p) (remainders r (fingerprints_in r blocks ws) (quotient r p))
    put_fit =
        let c = quotient r p in
        let j : ℕ = before r (fingerprints_in r blocks ws) p P in
        (fit_law r (fingerprints_in r blocks ws) sound.rising c).2 j (remainder r p) (omega arith)
        (λ l. let at : start (many r (fingerprints_in r blocks ws)) c + (j - 1) ≡ P - 1 = omega arith in
        omega (arith, rem_at c (j - 1) (omega arith), ap (remainder_in r ws) at, below (P - 1) (omega arith) (omega arith)))
        (λ l. let at : start (many r (fingerprints_in r blocks ws)) c + j ≡ P = omega arith in
        omega (arith, rem_at c j l, ap (remainder_in r ws) at, here (omega arith)))

    pub arrives : (c rem u : ℕ) (ends follows : Bool) → c ≡ quotient r p → rem ≡ remainder r p → FirstFree (many r (fingerprints_in r blocks ws)) (quotient r p) u → u < 64 * blocks
        → ends ≡ eqb P T → follows ≡ (ltb S P && eqb P T) → Arrives r blocks (fingerprints_in r blocks ws) p c P u rem ends follows
    arrives c rem u ends follows ec er free room ee ef =
        let j : ℕ = before r (fingerprints_in r blocks ws) p P in
        let M : ℕ = many r (fingerprints_in r blocks ws) (quotient r p) in
        let last = same_eqb P T j M (λ e. omega arith) (λ e. omega arith) in
        let first = same_ltb S P 0 j (λ l. omega arith) (λ l. omega arith) in
        record {
          its_quotient = ec;
          its_remainder = er;
          from = omega arith;
          fits = put_fit;
          last = ee ∙ last;
          more = ef ∙ ap₂ (λ a b. a && b) first last;
          first_free = free;
          below = room;
        }

  module _ (p c s free rem : ℕ) (ends follows : Bool) (a : Arrives r blocks (fingerprints_in r blocks ws) p c s free rem ends follows) where
    pub put_room : (c ≤ s) × (s ≤ free)
    put_room =
        let law = (insert_slots_law r p (fingerprints_in r blocks ws) (before r (fingerprints_in r blocks ws) p s) free sound.rising a.first_free a.fits).room in
        (omega (arith, a.its_quotient, a.from), omega (arith, a.from, law))

    put_result : (vs : List ℕ) → EntryPut r ws vs c s free rem ends follows → Shows r vs (with_one p (fingerprints_in r blocks ws))
    put_result vs put =
        let ps = fingerprints_in r blocks ws in
        let j : ℕ = before r ps p s in
        let at : s ≡ start (many r ps) (quotient r p) + j = omega (arith, a.from) in
        let put1 = subst (λ x. EntryPut r ws vs x s free rem ends follows) a.its_quotient put in
        let put2 = subst (λ x. EntryPut r ws vs (quotient r p) s free x ends follows) a.its_remainder put1 in
        let put3 = subst (λ b. EntryPut r ws vs (quotient r p) s free (remainder r p) b follows) a.last put2 in
        let put4 = subst (λ b. EntryPut r ws vs (quotient r p) s free (remainder r p) (eqb j (many r ps (quotient r p))) b) a.more put3 in
        let put5 = subst (λ x. EntryPut r ws vs (quotient r p) x free (remainder r p) (eqb j (many r ps (quotient r p))) (ltb 0 j && eqb j (many r ps (quotient r p)))) at put4 in
        put_shows r p ps ws vs j free sound.rising sound.shows a.first_free a.fits put5

    -- so the words are the layout of the longer list
    pub put_words : (vs : List ℕ) → 0 < r → Words vs → length vs ≡ size_of r blocks → EntryPut r ws vs c s free rem ends follows
        → vs ≡ filter_words r blocks (with_one p (fingerprints_in r blocks ws))
    put_words vs pos all sized put =
        let ps = fingerprints_in r blocks ws in
        let shows = put_result vs put in
        words_from_views r (with_one p ps) pos vs all (subst (Shows r vs) (sym (sorted_of_Sorted (with_one p ps) (sorted_insert p ps sound.rising))) shows) blocks sized

  -- ---- an entry less

  -- an entry that was found, and the first idle slot after its quotient
  pub departs : (p c S T P t : ℕ) (follows only : Bool) → Placed r (fingerprints_in r blocks ws) p c S T P → FirstIdle (many r (fingerprints_in r blocks ws)) (quotient r p) t → t ≤ 64 * blocks
      → follows ≡ (ltb S P && eqb (P + 1) T) → only ≡ eqb (S + 1) T → Departs r blocks (fingerprints_in r blocks ws) p c P (t - 1) follows only
  departs p c S T P t follows only w idle room ef eo =
      let j : ℕ = before r (fingerprints_in r blocks ws) p P in
      let M : ℕ = many r (fingerprints_in r blocks ws) (quotient r p) in
      let starts = w.starts in
      let stops = w.stops in
      let lo = w.in_run.from in
      let hi = w.in_run.below in
      let same : P - S ≡ j = omega arith in
      let last = same_eqb (P + 1) T (suc j) M (λ e. omega arith) (λ e. omega arith) in
      let single = same_eqb (S + 1) T M 1 (λ e. omega arith) (λ e. omega arith) in
      let first = same_ltb S P 0 j (λ l. omega arith) (λ l. omega arith) in
      let next : t ≡ suc (t - 1) = omega (arith, idle.from) in
      record {
        its_quotient = w.its_quotient;
        from = lo;
        in_run = omega arith;
        found = ap (λ x. get_or (remainders r (fingerprints_in r blocks ws) (quotient r p)) x 0) (sym same) ∙ w.found;
        more = ef ∙ ap₂ (λ a b. a && b) first last;
        alone = eo ∙ single;
        idle = subst (FirstIdle (many r (fingerprints_in r blocks ws)) (quotient r p)) next idle;
        below = omega (arith, idle.from);
      }

  module _ (p c s gap : ℕ) (follows only : Bool) (d : Departs r blocks (fingerprints_in r blocks ws) p c s gap follows only) where
    pub gone_room : (c ≤ s) × (s ≤ gap)
    gone_room =
        let ps = fingerprints_in r blocks ws in
        let j : ℕ = before r ps p s in
        let one = one_remove r p ps sound.rising j d.in_run d.found in
        let law = (remove_slots_law r p ps j (suc gap) sound.rising d.in_run d.found d.idle).room in
        let same = (remove_law (many r ps) (many r (without_one p ps)) (quotient r p) (suc gap) one d.idle).before (quotient r p) (omega arith) in
        (omega (arith, d.its_quotient, d.from), omega (arith, d.from, law, same))

    pub gone_waits : (b : ℕ) → c < 64 * b → 64 * b ≤ gap → 0 < offset_in r ws b
    gone_waits b l g = omega (arith, d.its_quotient, d.idle.waits (64 * b) (omega (arith, d.its_quotient)) (omega arith), load_is r blocks ws sound (64 * b), sound.shows.offsets b)

    pub gone_there : 0 < copies_of p (fingerprints_in r blocks ws)
    gone_there = one_there p (before r (fingerprints_in r blocks ws) p s) d.in_run d.found

    gone_result : (vs : List ℕ) → EntryGone r ws vs c s gap follows only → Shows r vs (without_one p (fingerprints_in r blocks ws))
    gone_result vs gone =
        let ps = fingerprints_in r blocks ws in
        let j : ℕ = before r ps p s in
        let M : ℕ = many r ps (quotient r p) in
        let at : s ≡ start (many r ps) (quotient r p) + j = omega (arith, d.from) in
        let g1 = subst (λ x. EntryGone r ws vs x s gap follows only) d.its_quotient gone in
        let g2 = subst (λ b. EntryGone r ws vs (quotient r p) s gap b only) d.more g1 in
        let g3 = subst (λ b. EntryGone r ws vs (quotient r p) s gap (ltb 0 j && eqb (suc j) M) b) d.alone g2 in
        let g4 = subst (λ x. EntryGone r ws vs (quotient r p) x gap (ltb 0 j && eqb (suc j) M) (eqb M 1)) at g3 in
        gone_shows r p ps ws vs j (suc gap) sound.rising sound.shows d.in_run d.found d.idle (subst (λ x. EntryGone r ws vs (quotient r p) (start (many r ps) (quotient r p) + j) x (ltb 0 j && eqb (suc j) M) (eqb M 1)) (omega arith) g4)

    pub gone_words : (vs : List ℕ) → 0 < r → Words vs → length vs ≡ size_of r blocks → EntryGone r ws vs c s gap follows only → vs ≡ filter_words r blocks (without_one p (fingerprints_in r blocks ws))
    gone_words vs pos all sized gone =
        let ps = fingerprints_in r blocks ws in
        words_from_views r (without_one p ps) pos vs all (subst (Shows r vs) (sym (sorted_of_Sorted (without_one p ps) (sorted_remove p ps sound.rising))) (gone_result vs gone)) blocks sized
