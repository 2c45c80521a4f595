-- Rows of numbers, figure by figure.
use Rattle.std.proofs.Common.{◌≡◌, ℕ, ◌-◌, ◌<◌, ◌≤◌, List, [], ◌∷◌, ◌++◌, length, get_or, take, drop, codes, Option, sym, refl, ap, ◌∙◌, subst, append_assoc, arith, length-append, length-drop, length-take}
use Rattle.std.proofs.lemmas.List.{take_rest}
use Rattle.std.proofs.lemmas.Str.Parse.{digit_from_value}
use Rattle.figures.specs.Figures.{Figure, Stops, Read, NoFigure}
use Rattle.figures.proofs.Runs.{same_run, space_stops}
use Rattle.forms.specs.declared.row.Row.{Row}
use Rattle.forms.specs.Rows.{Series, Numbers, EndsRow, Held, Rowed, NoRow}

-- what follows the space after a figure is shorter
pub shorter : (xs rest : List ℕ) (v : ℕ) → Read xs v rest → length (take (length rest - 1) (drop 1 rest)) < length xs
shorter xs rest v r = simp (length-take, length-drop) (omega (arith, r.figure.some, length-append r.shown rest, ap length r.whole))

-- a digit comes after the first byte
digit_next : (rest : List ℕ) → 1 < length rest → 48 ≤ get_or rest 1 0 → get_or rest 1 0 ≤ 57 → Stops (drop 1 rest) → ⊥
digit_next [] some p q h = omega arith
digit_next (c ∷ []) some p q h = omega arith
digit_next (c ∷ (d ∷ ds)) some p q h = h p q

pub goes_on : (rest : List ℕ) → 1 < length rest → 48 ≤ get_or rest 1 0 → get_or rest 1 0 ≤ 57 → Stops (take (length rest - 1) (drop 1 rest)) → ⊥
goes_on rest some p q h = digit_next rest some p q (subst Stops (take_rest rest 1) h)

pub ends_at : (rest : List ℕ) → Stops rest → (1 < length rest → get_or rest 0 0 ≡ 32 → 48 ≤ get_or rest 1 0 → get_or rest 1 0 ≤ 57 → ⊥) → EndsRow rest
ends_at rest stops h = record { stops = stops; apart = apart }
  where
    apart : (more : List ℕ) → rest ≡ 32 ∷ more → Stops more
    apart [] e = tt
    apart (c ∷ cs) e = λ p q.
        let second : get_or rest 1 0 ≡ c = ap (λ l. get_or l 1 0) e in
        h (omega (arith, ap length e)) (ap (λ l. get_or l 0 0) e) (omega arith) (omega arith)

pub row_alone : (xs rest : List ℕ) (v : ℕ) (row : Option Row) → (r : Read xs v rest) → EndsRow rest → Held row (r.named ∷ []) → Rowed xs row rest
unfolding Series
row_alone xs rest v row r ends held = record { numbers = r.named ∷ []; shown = r.shown; written = r.figure; whole = r.whole; ends = ends; held = held }

joined : (ds row : List ℕ) (n : ℕ) (ns : List ℕ) → Figure ds n → Numbers row ns → Numbers (ds ++ (32 ∷ row)) (n ∷ ns)
unfolding Series
joined ds row n [] f h = absurd h
joined ds row n (m ∷ ms) f h = (ds, row, f, refl, h)

pub row_more : (xs rest more tail : List ℕ) (v : ℕ) (row longer : Option Row) → (r : Read xs v rest) → rest ≡ 32 ∷ more → Rowed more row tail → ((ns : List ℕ) → Held row ns → Held longer (r.named ∷ ns)) → Rowed xs longer tail
row_more xs rest more tail v row longer r e h held =
    record {
      numbers = r.named ∷ h.numbers;
      shown = r.shown ++ (32 ∷ h.shown);
      written = joined r.shown h.shown r.named h.numbers r.figure h.written;
      whole = r.whole ∙ ap (λ l. r.shown ++ l) (e ∙ ap (λ l. 32 ∷ l) h.whole) ∙ sym (append_assoc r.shown (32 ∷ h.shown) tail);
      ends = h.ends;
      held = held h.numbers h.held;
    }

-- the figure that a row begins with, and what follows it: what follows the row, or a space and a row
parted : (xs shown rest : List ℕ) (ns : List ℕ) → Numbers shown ns → EndsRow rest → xs ≡ shown ++ rest → (P : Type 0) →
    ((n : ℕ) → Figure shown n → P) → ((ds more : List ℕ) (n m : ℕ) (ms : List ℕ) → Figure ds n → Numbers more (m ∷ ms) → xs ≡ ds ++ (32 ∷ (more ++ rest)) → P) → P
unfolding Series
parted xs shown rest [] h ends e P single several = absurd h
parted xs shown rest (n ∷ []) h ends e P single several = single n h
parted xs shown rest (n ∷ (m ∷ ms)) (ds, more, f, whole, h) ends e P single several =
    several ds more n m ms f h (e ∙ ap (λ l. l ++ rest) whole ∙ append_assoc ds (32 ∷ more) rest)

pub no_row : (xs : List ℕ) → NoFigure xs → NoRow xs
no_row xs none ns shown rest h ends e =
    parted xs shown rest ns h ends e ⊥
    (λ n f. none shown n rest f ends.stops e)
    (λ ds more n m ms f g p. none ds n (32 ∷ (more ++ rest)) f (space_stops (more ++ rest)) p)

pub no_row_more : (xs rest more : List ℕ) (v : ℕ) → Read xs v rest → rest ≡ 32 ∷ more → (Stops more → ⊥) → NoRow more → NoRow xs
no_row_more xs rest more v r e digit none ns shown tail h ends p =
    parted xs shown tail ns h ends p ⊥
    (λ n f.
    let same = (same_run r.shown shown rest tail r.figure.digits f.digits r.stops ends.stops (sym r.whole ∙ p)).1 in
    digit (ends.apart more (sym same ∙ e)))
    (λ ds others n m ms f g q.
    let same = (same_run r.shown ds rest (32 ∷ (others ++ tail)) r.figure.digits f.digits r.stops (space_stops (others ++ tail)) (sym r.whole ∙ q)).1 in
    let tails : more ≡ others ++ tail = cc in
    none (m ∷ ms) others tail g ends tails)

-- a row begins with a digit
digit_first : (xs rest : List ℕ) (n : ℕ) (ns : List ℕ) → Series xs n ns → Stops (xs ++ rest) → ⊥
unfolding Series
digit_first [] rest n [] f stops = omega (arith, f.some)
digit_first (c ∷ cs) rest n [] f stops = let d = digit_from_value c f.digits.0 in stops d.0 d.1
digit_first xs rest n (m ∷ ms) ([], more, f, e, h) stops = omega (arith, f.some)
digit_first xs rest n (m ∷ ms) (c ∷ cs, more, f, e, h) stops =
    let d = digit_from_value c f.digits.0 in subst (λ l. Stops (l ++ rest)) e stops d.0 d.1

-- there is one way to part a row from what follows it
pub same_row : (s r t u : List ℕ) (ns ms : List ℕ) → Numbers s ns → EndsRow r → Numbers t ms → EndsRow u → s ++ r ≡ t ++ u → r ≡ u
unfolding Series
same_row s r t u [] ms h p k q e = absurd h
same_row s r t u (n ∷ ns) [] h p k q e = absurd k
same_row s r t u (n ∷ []) (m ∷ []) h p k q e = (same_run s t r u h.digits k.digits p.stops q.stops e).1
same_row s r t u (n ∷ []) (m ∷ (b ∷ bs)) h p (ds, more, f, w, k) q e =
    let far : s ++ r ≡ ds ++ (32 ∷ (more ++ u)) = e ∙ ap (λ l. l ++ u) w ∙ append_assoc ds (32 ∷ more) u in
    let tail = (same_run s ds r (32 ∷ (more ++ u)) h.digits f.digits p.stops (space_stops (more ++ u)) far).1 in
    absurd (digit_first more u b bs k (p.apart (more ++ u) tail))
same_row s r t u (n ∷ (a ∷ cs)) (m ∷ []) (ds, more, f, w, h) p k q e =
    let far : t ++ u ≡ ds ++ (32 ∷ (more ++ r)) = sym e ∙ ap (λ l. l ++ r) w ∙ append_assoc ds (32 ∷ more) r in
    let tail = (same_run t ds u (32 ∷ (more ++ r)) k.digits f.digits q.stops (space_stops (more ++ r)) far).1 in
    absurd (digit_first more r a cs h (q.apart (more ++ r) tail))
same_row s r t u (n ∷ (a ∷ cs)) (m ∷ (b ∷ bs)) (ds, more, f, w, h) p (es, less, g, v, k) q e =
    let left = ap (λ l. l ++ r) w ∙ append_assoc ds (32 ∷ more) r in
    let right = ap (λ l. l ++ u) v ∙ append_assoc es (32 ∷ less) u in
    let tail = (same_run ds es (32 ∷ (more ++ r)) (32 ∷ (less ++ u)) f.digits g.digits (space_stops (more ++ r)) (space_stops (less ++ u)) (sym left ∙ e ∙ right)).1 in
    let next : more ++ r ≡ less ++ u = cc in
    same_row more r less u (a ∷ cs) (b ∷ bs) h p k q next

pub ends_nil : EndsRow []
ends_nil = record { stops = tt; apart = λ more e. absurd (let z : ◌≡◌ {A = ℕ} 0 1 = cc in omega arith) }

-- the word `as` ends a row
pub ends_as : (last : List ℕ) → EndsRow (codes " as " ++ last)
ends_as last = record { stops = space_stops (codes "as " ++ last); apart = λ more e. let same : codes "as " ++ last ≡ more = cc in subst Stops same (λ p q. omega arith) }
