-- What the rules give, read in plain words.
use Rattle.std.proofs.Common.{◌≡◌, ◌<◌, ◌↔◌, true, true≢false, List, ◌∷◌, map, length, is_some, None, Ok, Err, Option, sym, refl, ap, ◌∙◌, subst, arith}
use Rattle.layout.specs.Rule.{one_if}
use Rattle.filter.specs.Filters.{Crowds}
use Rattle.filter.specs.declared.fault.FilterFault.TheVariants.{NoSlot}
use Rattle.tables.specs.declared.fault.TableFault.TheVariants.{ForeignGlyph, TableFull}
use Rattle.history.specs.declared.operation.Operation.TheVariants.{Put, Drop, Find}
use Rattle.history.specs.declared.answer.Stored.TheVariants.{Kept, Changed}
use Rattle.history.specs.declared.answer.Found.TheVariants as found
use Rattle.history.specs.declared.answer.Told.TheVariants.{Stored, Found}
use Rattle.history.specs.declared.fault.BookFault.TheVariants as fault
use Rattle.history.specs.Rules.{Terms, Answer, Rule}
use Rattle.history.specs.History.{History, times, holding, Due, Lawful}
use Rattle.history.specs.Law.{Gives, Law}
use Rattle.history.proofs.Keys.{number_there}
use Rattle.history.proofs.Histories.{unmissed}

module _ {K V : Type 0} (t : Terms K) (apart : (a b : K) → t.bytes a ≡ t.bytes b → a ≡ b) (value : K → Option V) where
  slot_of : (k : K) (v : V) (a : Answer V) (ks : List K) → Rule t (holding t value ks) (Put k v) a → value k ≡ None → t.admits k ≡ true → length ks < t.capacity
      → (a ≡ Err (fault.Filter NoSlot)) ↔ Crowds t.plan t.slots (map t.fingerprint (k ∷ ks))
  slot_of k v (Err (fault.Filter NoSlot)) ks r n ad l = (λ _. r.3, λ _. refl)
  slot_of k v (Ok (Stored Kept)) ks r n ad l = (λ e. cc, λ c. absurd (r.3 c.0 c.2))
  slot_of k v (Ok (Stored Changed)) ks r n ad l = absurd (true≢false (sym r.1 ∙ ap is_some n))
  slot_of k v (Err (fault.Table ForeignGlyph)) ks r n ad l = absurd (true≢false (sym ad ∙ r))
  slot_of k v (Err (fault.Table TableFull)) ks r n ad l = absurd (omega (arith, r.2))
  slot_of k v a ks r n ad l = absurd r

  find_of : (k : K) (a : Answer V) → Due t value (Find k) a → Gives a (value k)
  find_of k (Ok (Found (found.Table w))) d = (d.rule d.keys d.current).1
  find_of k (Ok (Found found.Filter)) d = unmissed t apart value k d
  find_of k a d = absurd (d.rule d.keys d.current)

  strange : (k : K) → Due t value (Drop k) (Err fault.StrangeFilter) → ⊥
  strange k d =
      let r = d.rule d.keys d.current in
      let one : times t.bytes k d.keys ≡ 1 = d.current k ∙ ap one_if r.0 in
      let there = number_there t.bytes apart t.fingerprint k d.keys (omega arith) in
      omega (arith, r.1)

module _ {K V : Type 0} (t : Terms K) (apart : (a b : K) → t.bytes a ≡ t.bytes b → a ≡ b) (opening : K → Option V) where
  pub law_of : (h : History K V) → Lawful t opening h → Law t opening h
  law_of h l =
      record {
        answers = l;
        slots = λ before after k v a value ks q w c n ad few. slot_of t apart value k v a ks (((l before after (Put k v) a q).due value w).rule ks c) n ad few;
        finds = λ before after k a value q w. find_of t apart value k a ((l before after (Find k) a q).due value w);
        drops = λ before after k a q e.
            let due = (l before after (Drop k) a q) in
            strange t apart due.held k (subst (λ (a : Answer V). Due t due.held (Drop k) a) e (due.due due.held due.follows));
      }
