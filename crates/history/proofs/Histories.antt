-- The law over a history, and one event more.
use Rattle.std.proofs.Common.{◌≡◌, ℕ, ◌⊎◌, List, [], ◌∷◌, ◌++◌, length, is_some, Some, None, Ok, Option, sym, refl, ap, ◌∙◌, subst, inl, inr, ⊎_elim, arith, length-append}
use Rattle.std.proofs.lemmas.List.{append_assoc}
use Rattle.layout.specs.Rule.{one_if}
use Rattle.history.specs.declared.operation.Operation.{Operation}
use Rattle.history.specs.declared.operation.Operation.TheVariants.{Put, Drop, Find}
use Rattle.history.specs.declared.answer.Found.TheVariants as found
use Rattle.history.specs.declared.answer.Told.TheVariants.{Stored, Dropped, Found}
use Rattle.history.specs.Rules.{Terms, Answer, Rule}
use Rattle.history.specs.History.{Event, History, SetsKey, Untouched, Follows, times, Current, holding, Due, AnsweredByRules, Lawful}
use Rattle.history.proofs.Keys.{one_key, length_same, numbers_same, number_there}
use Rattle.history.proofs.Answers.{rule_same}

-- ---- lists and their last element

split_nil : {A P : Type 0} (before : List A) (x : A) (after : List A) → [] ≡ before ++ x ∷ after → P
split_nil before x after e = let l = ap length e ∙ length-append before (x ∷ after) in absurd (omega arith)

tails : {A : Type 0} (x y : A) (xs ys : List A) → x ∷ xs ≡ y ∷ ys → xs ≡ ys
tails x y xs ys e = cc

heads : {A : Type 0} (x y : A) (xs ys : List A) → x ∷ xs ≡ y ∷ ys → x ≡ y
heads x y xs ys e = cc

-- a place in a list with one element more is the last, or one of before
record Earlier {A : Type 0} (h : List A) (e : A) (before : List A) (x : A) (after : List A) : Type 0 where
  rest : List A
  there : h ≡ before ++ x ∷ rest
  then : after ≡ rest ++ e ∷ []

split_push : {A : Type 0} (h : List A) (e : A) (before : List A) (x : A) (after : List A) → h ++ e ∷ [] ≡ before ++ x ∷ after
    → ((before ≡ h) × (x ≡ e)) ⊎ Earlier h e before x after
split_push [] e [] x after q = inl (refl, sym (heads e x [] after q))
split_push [] e (b ∷ bs) x after q = split_nil bs x after (tails e b [] (bs ++ x ∷ after) q)
split_push (y ∷ h) e [] x after q = inr (record { rest = h; there = ap (λ z. z ∷ h) (heads y x (h ++ e ∷ []) after q); then = sym (tails y x (h ++ e ∷ []) after q) })
split_push {A} (y ∷ h) e (b ∷ bs) x after q = by_cases (split_push h e bs x after (tails y b (h ++ e ∷ []) (bs ++ x ∷ after) q))
  where
    same : y ≡ b
    same = heads y b (h ++ e ∷ []) (bs ++ x ∷ after) q

    by_cases : ((bs ≡ h) × (x ≡ e)) ⊎ Earlier h e bs x after → ((b ∷ bs ≡ y ∷ h) × (x ≡ e)) ⊎ Earlier (y ∷ h) e (b ∷ bs) x after
    by_cases (inl (p, r)) = inl (ap (λ l. b ∷ l) p ∙ ap (λ z. z ∷ h) (sym same), r)
    by_cases (inr p) = inr (record { rest = p.rest; there = ap (λ l. y ∷ l) p.there ∙ ap (λ z. z ∷ (bs ++ x ∷ p.rest)) same; then = p.then })

-- ---- what one event says

-- e takes what the keys hold from f to g
pub record Step {K V : Type 0} (e : Event K V) (f g : K → Option V) : Type 0 where
  pub sets : (k : K) (v : Option V) → SetsKey e k v → g k ≡ v
  pub keeps : (k : K) → ((v : Option V) → SetsKey e k v → ⊥) → g k ≡ f k

module _ {K V : Type 0} (opening : K → Option V) where
  untouched_front : (h : History K V) (e : Event K V) (k : K) → Untouched (h ++ e ∷ []) k → Untouched h k
  untouched_front h e k u before after x v q d =
      u before (after ++ e ∷ []) x v (ap (λ l. l ++ e ∷ []) q ∙ append_assoc before (x ∷ after) (e ∷ [])) d

  untouched_last : (h : History K V) (e : Event K V) (k : K) → Untouched (h ++ e ∷ []) k → (v : Option V) → SetsKey e k v → ⊥
  untouched_last h e k u v d = u h [] e v refl d

  pub follows_none : Follows opening [] opening
  follows_none = record { last = λ before after e k v q d u. split_nil before e after q; first = λ k u. refl }

  pub follows_push : (h : History K V) (e : Event K V) (f g : K → Option V) → Follows opening h f → Step e f g → Follows opening (h ++ e ∷ []) g
  follows_push h e f g old step = record { last = last'; first = λ k u. step.keeps k (untouched_last h e k u) ∙ old.first k (untouched_front h e k u) }
    where
      by_cases : (before after : History K V) (x : Event K V) (k : K) (v : Option V) → SetsKey x k v → Untouched after k → ((before ≡ h) × (x ≡ e)) ⊎ Earlier h e before x after → g k ≡ v
      by_cases before after x k v d u (inl (p, q)) = step.sets k v (subst (λ y. SetsKey y k v) q d)
      by_cases before after x k v d u (inr p) =
          let w : Untouched (p.rest ++ e ∷ []) k = subst (λ l. Untouched l k) p.then u in
          step.keeps k (untouched_last p.rest e k w) ∙ old.last before p.rest x k v p.there d (untouched_front p.rest e k w)

      last' : (before after : History K V) (x : Event K V) (k : K) (v : Option V) → h ++ e ∷ [] ≡ before ++ x ∷ after → SetsKey x k v → Untouched after k → g k ≡ v
      last' before after x k v q d u = by_cases before after x k v d u (split_push h e before x after q)

-- ---- what the keys hold is determined

module _ {K V : Type 0} (bytes : K → List ℕ) (apart : (a b : K) → bytes a ≡ bytes b → a ≡ b) where
  -- whether an event decides a key
  abbrev Verdict : Event K V → K → Type 0
  Verdict e k = ((v : Option V) × SetsKey e k v) ⊎ ((v : Option V) → SetsKey e k v → ⊥)

  verdict : (e : Event K V) (k : K) → Verdict e k
  verdict (Put q w, Ok (Stored s)) k =
      ⊎_elim (λ (e : q ≡ k). inl (Some w, (e, refl))) (λ (n : q ≡ k → ⊥). inr (λ v d. n d.0)) (one_key bytes apart q k)
  verdict (Drop q, Ok Dropped) k =
      ⊎_elim (λ (e : q ≡ k). inl (None, (e, refl))) (λ (n : q ≡ k → ⊥). inr (λ v d. n d.0)) (one_key bytes apart q k)
  verdict e k = inr (λ v d. d)

  -- the last event that decides a key
  record Latest (h : History K V) (k : K) : Type 0 where
    before : History K V
    after : History K V
    event : Event K V
    value : Option V
    here : h ≡ before ++ event ∷ after
    decides : SetsKey event k value
    quiet : Untouched after k

  latest : (h : History K V) (k : K) → Latest h k ⊎ Untouched h k
  latest [] k = inr (λ before after e v q d. split_nil before e after q)
  latest (x ∷ h) k = by_cases (latest h k)
    where
      untouched : ((v : Option V) → SetsKey x k v → ⊥) → Untouched h k → Untouched (x ∷ h) k
      untouched n u [] after e v q d = n v (subst (λ y. SetsKey y k v) (sym (heads x e h after q)) d)
      untouched n u (b ∷ bs) after e v q d = u bs after e v (tails x b h (bs ++ e ∷ after) q) d

      by_verdict : Untouched h k → Verdict x k → Latest (x ∷ h) k ⊎ Untouched (x ∷ h) k
      by_verdict u (inl (v, d)) = inl (record { before = []; after = h; event = x; value = v; here = refl; decides = d; quiet = u })
      by_verdict u (inr n) = inr (untouched n u)

      by_cases : Latest h k ⊎ Untouched h k → Latest (x ∷ h) k ⊎ Untouched (x ∷ h) k
      by_cases (inl l) = inl (record { before = x ∷ l.before; after = l.after; event = l.event; value = l.value; here = ap (λ r. x ∷ r) l.here; decides = l.decides; quiet = l.quiet })
      by_cases (inr u) = by_verdict u (verdict x k)

  pub follows_one : (opening : K → Option V) (h : History K V) (f g : K → Option V) → Follows opening h f → Follows opening h g → (k : K) → f k ≡ g k
  follows_one opening h f g a b k =
      ⊎_elim
      (λ (l : Latest h k). a.last l.before l.after l.event k l.value l.here l.decides l.quiet ∙ sym (b.last l.before l.after l.event k l.value l.here l.decides l.quiet))
      (λ (u : Untouched h k). a.first k u ∙ sym (b.first k u)) (latest h k)

-- ---- the law

module _ {K V : Type 0} (t : Terms K) (apart : (a b : K) → t.bytes a ≡ t.bytes b → a ≡ b) where
  -- a book's answer hangs on what the keys hold, and not on the list of the current ones
  pub rule_current : (f g : K → Option V) (ks ls : List K) → ((k : K) → f k ≡ g k) → Current t.bytes f ks → Current t.bytes g ls
      → (o : Operation K V) (a : Answer V) → Rule t (holding t f ks) o a → Rule t (holding t g ls) o a
  rule_current f g ks ls same cf cg o a =
      let alike : (k : K) → times t.bytes k ks ≡ times t.bytes k ls = λ k. cf k ∙ ap (λ v. one_if (is_some v)) (same k) ∙ sym (cg k) in
      rule_same t (holding t f ks) (holding t g ls) same (length_same t.bytes apart ks ls alike) (numbers_same t.bytes apart t.fingerprint ks ls alike) o a

  pub answered : (opening : K → Option V) (h : History K V) (f : K → Option V) (ks : List K) (o : Operation K V) (a : Answer V) → Follows opening h f → Current t.bytes f ks
      → Rule t (holding t f ks) o a → AnsweredByRules t opening h o a
  answered opening h f ks o a fol cur rule =
      record {
        held = f;
        follows = fol;
        due = λ value v.
            let same : (k : K) → f k ≡ value k = follows_one t.bytes apart opening h f value fol v in
            record { keys = ks; current = λ k. cur k ∙ ap (λ x. one_if (is_some x)) (same k); rule = λ ls c. rule_current f value ks ls same cur c o a rule };
      }

  -- a key for which a find ends at the filter has no value
  pub unmissed : (value : K → Option V) (k : K) → Due t value (Find k) (Ok (Found found.Filter)) → value k ≡ None
  unmissed value k d = by_value (value k) refl
    where
      by_value : (v : Option V) → value k ≡ v → value k ≡ None
      by_value None e = e
      by_value (Some w) e =
          let one : times t.bytes k d.keys ≡ 1 = d.current k ∙ ap (λ v. one_if (is_some v)) e in
          let there = number_there t.bytes apart t.fingerprint k d.keys (omega arith) in
          absurd (omega (arith, d.rule d.keys d.current))

module _ {K V : Type 0} (t : Terms K) (opening : K → Option V) where
  pub lawful_none : Lawful t opening []
  lawful_none before after o a e = split_nil before (o, a) after e

  pub lawful_push : (h : History K V) (o : Operation K V) (a : Answer V) → Lawful t opening h → AnsweredByRules t opening h o a → Lawful t opening (h ++ (o, a) ∷ [])
  lawful_push h o a old new before after o' a' e = by_cases (split_push h (o, a) before (o', a') after e)
    where
      by_cases : ((before ≡ h) × (◌≡◌ {A = Event K V} (o', a') (o, a))) ⊎ Earlier h (o, a) before (o', a') after → AnsweredByRules t opening before o' a'
      by_cases (inl (p, q)) =
          subst (λ b. AnsweredByRules t opening b o' a') (sym p) (subst (λ (x : Event K V). AnsweredByRules t opening h x.0 x.1) (sym q) new)
      by_cases (inr p) = old before p.rest o' a' p.there
