-- The rules give one answer to an operation.
use Rattle.std.proofs.Common.{◌≡◌, ◌<◌, ◌≤◌, ◌∷◌, Bool, true, false, true≢false, is_some, Option, Ok, Err, Result, sym, refl, ap, ◌∙◌, arith}
use Rattle.filter.specs.Filters.{Crowds}
use Rattle.filter.specs.declared.fault.FilterFault.TheVariants.{NoSlot}
use Rattle.layout.specs.Rule.{Roomy}
use Rattle.layout.specs.Laws.{copies_of}
use Rattle.tables.specs.declared.fault.TableFault.TheVariants.{ForeignGlyph, TableFull, NotHeld}
use Rattle.history.specs.declared.operation.Operation.{Operation}
use Rattle.history.specs.declared.operation.Operation.TheVariants.{Put, Drop, Find}
use Rattle.history.specs.declared.answer.Stored.{Stored}
use Rattle.history.specs.declared.answer.Stored.TheVariants as stored
use Rattle.history.specs.declared.answer.Found.{Found}
use Rattle.history.specs.declared.answer.Found.TheVariants as found
use Rattle.history.specs.declared.answer.Told.TheVariants as told
use Rattle.history.specs.declared.fault.BookFault.{BookFault}
use Rattle.history.specs.declared.fault.BookFault.TheVariants.{Filter, Table, StrangeFilter}
use Rattle.history.specs.Rules.{Terms, Holdings, PutRule, DropRule, FindRule, Answer, Rule}
use Rattle.history.specs.History.{History, answer_of, holding, Due, AnsweredByRules}

clash : {P : Type 0} (b : Bool) → b ≡ true → b ≡ false → P
clash b t f = absurd (true≢false (sym t ∙ f))

module _ {K V : Type 0} (t : Terms K) (h : Holdings K V) (k : K) where
  abbrev Put_is : Result Stored BookFault → Type 0
  Put_is r = (s : Result Stored BookFault) → PutRule t h k s → r ≡ s

  foreign : t.admits k ≡ false → Put_is (Err (Table ForeignGlyph))
  foreign p (Err (Table ForeignGlyph)) q = refl
  foreign p (Ok stored.Changed) q = clash (t.admits k) q.0 p
  foreign p (Err (Table TableFull)) q = clash (t.admits k) q.0 p
  foreign p (Err (Filter NoSlot)) q = clash (t.admits k) q.0 p
  foreign p (Ok stored.Kept) q = clash (t.admits k) q.0 p
  foreign p s q = absurd q

  changed : t.admits k ≡ true → is_some (h.value k) ≡ true → Put_is (Ok stored.Changed)
  changed a p (Err (Table ForeignGlyph)) q = clash (t.admits k) a q
  changed a p (Ok stored.Changed) q = refl
  changed a p (Err (Table TableFull)) q = clash (is_some (h.value k)) p q.1
  changed a p (Err (Filter NoSlot)) q = clash (is_some (h.value k)) p q.1
  changed a p (Ok stored.Kept) q = clash (is_some (h.value k)) p q.1
  changed a p s q = absurd q

  full : t.admits k ≡ true → is_some (h.value k) ≡ false → t.capacity ≤ h.held → Put_is (Err (Table TableFull))
  full a n p (Err (Table ForeignGlyph)) q = clash (t.admits k) a q
  full a n p (Ok stored.Changed) q = clash (is_some (h.value k)) q.1 n
  full a n p (Err (Table TableFull)) q = refl
  full a n p (Err (Filter NoSlot)) q = absurd (omega (arith, q.2))
  full a n p (Ok stored.Kept) q = absurd (omega (arith, q.2))
  full a n p s q = absurd q

  crowded : t.admits k ≡ true → is_some (h.value k) ≡ false → h.held < t.capacity → Crowds t.plan t.slots (t.fingerprint k ∷ h.entries) → Put_is (Err (Filter NoSlot))
  crowded a n l p (Err (Table ForeignGlyph)) q = clash (t.admits k) a q
  crowded a n l p (Ok stored.Changed) q = clash (is_some (h.value k)) q.1 n
  crowded a n l p (Err (Table TableFull)) q = absurd (omega (arith, q.2))
  crowded a n l p (Err (Filter NoSlot)) q = refl
  crowded a n l p (Ok stored.Kept) q = absurd (q.3 p.0 p.2)
  crowded a n l p s q = absurd q

  kept : t.admits k ≡ true → is_some (h.value k) ≡ false → h.held < t.capacity → Roomy t.slots t.plan.r (t.fingerprint k ∷ h.entries) → Put_is (Ok stored.Kept)
  kept a n l p (Err (Table ForeignGlyph)) q = clash (t.admits k) a q
  kept a n l p (Ok stored.Changed) q = clash (is_some (h.value k)) q.1 n
  kept a n l p (Err (Table TableFull)) q = absurd (omega (arith, q.2))
  kept a n l p (Err (Filter NoSlot)) q = absurd (p q.3.0 q.3.2)
  kept a n l p (Ok stored.Kept) q = refl
  kept a n l p s q = absurd q

  put_one : (r s : Result Stored BookFault) → PutRule t h k r → PutRule t h k s → r ≡ s
  put_one (Err (Table ForeignGlyph)) s p q = foreign p s q
  put_one (Ok stored.Changed) s p q = changed p.0 p.1 s q
  put_one (Err (Table TableFull)) s p q = full p.0 p.1 p.2 s q
  put_one (Err (Filter NoSlot)) s p q = crowded p.0 p.1 p.2 p.3 s q
  put_one (Ok stored.Kept) s p q = kept p.0 p.1 p.2 p.3 s q
  put_one r s p q = absurd p

  abbrev Drop_is : Result (Unit {0}) BookFault → Type 0
  Drop_is r = (s : Result (Unit {0}) BookFault) → DropRule t h k s → r ≡ s

  unheld : is_some (h.value k) ≡ false → Drop_is (Err (Table NotHeld))
  unheld p (Err (Table NotHeld)) q = refl
  unheld p (Err StrangeFilter) q = clash (is_some (h.value k)) q.0 p
  unheld p (Ok done) q = clash (is_some (h.value k)) q.0 p
  unheld p s q = absurd q

  strange : is_some (h.value k) ≡ true → copies_of (t.fingerprint k) h.entries ≡ 0 → Drop_is (Err StrangeFilter)
  strange p c (Err (Table NotHeld)) q = clash (is_some (h.value k)) p q
  strange p c (Err StrangeFilter) q = refl
  strange p c (Ok done) q = absurd (omega (arith, q.1))
  strange p c s q = absurd q

  dropped : (done : Unit {0}) → is_some (h.value k) ≡ true → 0 < copies_of (t.fingerprint k) h.entries → Drop_is (Ok done)
  dropped done p c (Err (Table NotHeld)) q = clash (is_some (h.value k)) p q
  dropped done p c (Err StrangeFilter) q = absurd (omega (arith, q.1))
  dropped done p c (Ok did) q = refl
  dropped done p c s q = absurd q

  drop_one : (r s : Result (Unit {0}) BookFault) → DropRule t h k r → DropRule t h k s → r ≡ s
  drop_one (Err (Table NotHeld)) s p q = unheld p s q
  drop_one (Err StrangeFilter) s p q = strange p.0 p.1 s q
  drop_one (Ok done) s p q = dropped done p.0 p.1 s q
  drop_one r s p q = absurd p

  find_one : (f g : Found V) → FindRule t h k f → FindRule t h k g → f ≡ g
  find_one found.Filter found.Filter p q = refl
  find_one found.Filter (found.Table w) p q = absurd (omega (arith, p, q.0))
  find_one (found.Table v) found.Filter p q = absurd (omega (arith, q, p.0))
  find_one (found.Table v) (found.Table w) p q = ap found.Table (p.1 ∙ sym q.1)

module _ {K V : Type 0} (t : Terms K) where
  put_answer : (h : Holdings K V) (k : K) (v : V) (r : Result Stored BookFault) (b : Answer V) → PutRule t h k r → Rule t h (Put k v) b → answer_of told.Stored r ≡ b
  put_answer h k v r (Ok (told.Stored s)) p q = ap (answer_of told.Stored) (put_one t h k r (Ok s) p q)
  put_answer h k v r (Err e) p q = ap (answer_of told.Stored) (put_one t h k r (Err e) p q)
  put_answer h k v r b p q = absurd q

  drop_answer : (h : Holdings K V) (k : K) (r : Result (Unit {0}) BookFault) (b : Answer V) → DropRule t h k r → Rule t h (Drop k) b → answer_of (λ _. told.Dropped) r ≡ b
  drop_answer h k r (Ok told.Dropped) p q = ap (answer_of (λ _. told.Dropped)) (drop_one t h k r (Ok tt) p q)
  drop_answer h k r (Err e) p q = ap (answer_of (λ _. told.Dropped)) (drop_one t h k r (Err e) p q)
  drop_answer h k r b p q = absurd q

  find_answer : (h : Holdings K V) (k : K) (f : Found V) (b : Answer V) → FindRule t h k f → Rule t h (Find k) b → ◌≡◌ {A = Answer V} (Ok (told.Found f)) b
  find_answer h k f (Ok (told.Found g)) p q = ap (λ x. Ok (told.Found x)) (find_one t h k f g p q)
  find_answer h k f b p q = absurd q

  pub rule_one : (h : Holdings K V) (o : Operation K V) (a b : Answer V) → Rule t h o a → Rule t h o b → a ≡ b
  rule_one h (Put k v) (Ok (told.Stored r)) b p q = put_answer h k v (Ok r) b p q
  rule_one h (Put k v) (Err e) b p q = put_answer h k v (Err e) b p q
  rule_one h (Drop k) (Ok told.Dropped) b p q = drop_answer h k (Ok tt) b p q
  rule_one h (Drop k) (Err e) b p q = drop_answer h k (Err e) b p q
  rule_one h (Find k) (Ok (told.Found f)) b p q = find_answer h k f b p q
  rule_one h o a b p q = absurd p

  -- so one answer is due, and one is given in a history
  pub due_one : (value : K → Option V) (o : Operation K V) (a b : Answer V) → Due t value o a → Due t value o b → a ≡ b
  due_one value o a b p q = rule_one (holding t value p.keys) o a b (p.rule p.keys p.current) (q.rule p.keys p.current)

  pub answered_one : (opening : K → Option V) (before : History K V) (o : Operation K V) (a b : Answer V) → AnsweredByRules t opening before o a → AnsweredByRules t opening before o b → a ≡ b
  answered_one opening before o a b p q = due_one p.held o a b (p.due p.held p.follows) (q.due p.held p.follows)
