-- The rules do not see in which order the entries stand.
use Rattle.std.proofs.Common.{◌≡◌, Bool, true, false, ◌∷◌, is_some, Ok, Err, Result, sym, ap, ◌∙◌, arith}
use Rattle.filter.specs.declared.fault.FilterFault.TheVariants.{NoSlot}
use Rattle.tables.specs.declared.fault.TableFault.TheVariants.{ForeignGlyph, TableFull, NotHeld}
use Rattle.history.specs.declared.operation.Operation.{Operation}
use Rattle.history.specs.declared.operation.Operation.TheVariants.{Put, Drop, Find}
use Rattle.history.specs.declared.answer.Stored.{Stored}
use Rattle.history.specs.declared.answer.Stored.TheVariants as stored
use Rattle.history.specs.declared.answer.Found.{Found}
use Rattle.history.specs.declared.answer.Found.TheVariants as found
use Rattle.history.specs.declared.answer.Told.TheVariants as told
use Rattle.history.specs.declared.fault.BookFault.{BookFault}
use Rattle.history.specs.declared.fault.BookFault.TheVariants.{Filter, Table, StrangeFilter}
use Rattle.history.specs.Rules.{Terms, Holdings, PutRule, DropRule, FindRule, Answer, Rule}
use Rattle.history.proofs.Entries.{Alike, alike_cons, roomy_alike, crowds_alike}

module _ {K V : Type 0} (t : Terms K) (h j : Holdings K V) (value : (k : K) → h.value k ≡ j.value k) (held : h.held ≡ j.held) (entries : Alike h.entries j.entries) where
  some : (k : K) (b : Bool) → is_some (h.value k) ≡ b → is_some (j.value k) ≡ b
  some k b e = ap is_some (sym (value k)) ∙ e

  pub put_same : (k : K) (r : Result Stored BookFault) → PutRule t h k r → PutRule t j k r
  put_same k (Err (Table ForeignGlyph)) x = x
  put_same k (Ok stored.Changed) (a, s) = (a, some k true s)
  put_same k (Err (Table TableFull)) (a, s, l) = (a, some k false s, omega arith)
  put_same k (Err (Filter NoSlot)) (a, s, l, c) =
      (a, some k false s, omega arith, crowds_alike t.plan t.slots (t.fingerprint k ∷ h.entries) (t.fingerprint k ∷ j.entries) (alike_cons (t.fingerprint k) h.entries j.entries entries) c)
  put_same k (Ok stored.Kept) (a, s, l, c) =
      (a, some k false s, omega arith, roomy_alike t.slots t.plan.r (t.fingerprint k ∷ h.entries) (t.fingerprint k ∷ j.entries) (alike_cons (t.fingerprint k) h.entries j.entries entries) c)
  put_same k (Err e) x = x

  pub drop_same : (k : K) (r : Result (Unit {0}) BookFault) → DropRule t h k r → DropRule t j k r
  drop_same k (Err (Table NotHeld)) s = some k false s
  drop_same k (Err StrangeFilter) (s, c) = (some k true s, sym (entries (t.fingerprint k)) ∙ c)
  drop_same k (Ok done) (s, c) = (some k true s, omega (arith, entries (t.fingerprint k)))
  drop_same k (Err e) x = x

  pub find_same : (k : K) (f : Found V) → FindRule t h k f → FindRule t j k f
  find_same k found.Filter c = sym (entries (t.fingerprint k)) ∙ c
  find_same k (found.Table v) (c, e) = (omega (arith, entries (t.fingerprint k)), e ∙ value k)

  pub rule_same : (o : Operation K V) (a : Answer V) → Rule t h o a → Rule t j o a
  rule_same (Put k v) (Ok (told.Stored s)) x = put_same k (Ok s) x
  rule_same (Put k v) (Err f) x = put_same k (Err f) x
  rule_same (Drop k) (Ok told.Dropped) x = drop_same k (Ok tt) x
  rule_same (Drop k) (Err f) x = drop_same k (Err f) x
  rule_same (Find k) (Ok (told.Found f)) x = find_same k f x
  rule_same o a x = x
