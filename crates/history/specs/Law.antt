-- The law of a book's answers over a whole history, in plain words.
use Rattle.std.specs.Prelude.{◌≡◌, ◌<◌, ◌↔◌, true, List, ◌∷◌, ◌++◌, map, length, None, Ok, Err, Option}
use Rattle.filter.specs.Filters.{Crowds}
use Rattle.filter.specs.declared.fault.FilterFault.TheVariants.{NoSlot}
use Rattle.history.specs.declared.operation.Operation.TheVariants.{Put, Drop, Find}
use Rattle.history.specs.declared.answer.Found.TheVariants as found
use Rattle.history.specs.declared.answer.Told.TheVariants.{Found}
use Rattle.history.specs.declared.fault.BookFault.TheVariants as fault
use Rattle.history.specs.Rules.{Terms, Answer}
use Rattle.history.specs.History.{History, Follows, Current, Lawful}

-- The answer gives a key's value: the table's look is that value, and the filter alone answers only
-- for a key that has none. No other answer gives one.
abbrev pub Gives : {V : Type 0} → Answer V → Option V → Type 0
Gives (Ok (Found (found.Table w))) v = w ≡ v
Gives (Ok (Found found.Filter)) v = v ≡ None
Gives a v = ⊥

-- The law of every history h of a book that was opened when each key had the value that `opening`
-- says. Of each event below, `value` says what each key had by the events before it (`Follows`
-- determines that), and `keys` lists the keys that were then current.
pub record Law {K V : Type 0} (t : Terms K) (opening : K → Option V) (h : History K V) : Type 0 where
  -- each operation is answered as the rules say, refusals and marks included
  pub answers : Lawful t opening h
  -- a put of a new key that the table would take is refused a slot exactly where some quotient is
  -- crowded, its fingerprint counted with those of the current keys
  pub slots : (before after : History K V) (k : K) (v : V) (a : Answer V) (value : K → Option V) (keys : List K)
      → h ≡ before ++ (Put k v, a) ∷ after → Follows opening before value → Current t.bytes value keys
      → value k ≡ None → t.admits k ≡ true → length keys < t.capacity
      → (a ≡ Err (fault.Filter NoSlot)) ↔ Crowds t.plan t.slots (map t.fingerprint (k ∷ keys))
  -- a find goes by the last accepted put or drop of its key, or else by the table at the opening
  pub finds : (before after : History K V) (k : K) (a : Answer V) (value : K → Option V)
      → h ≡ before ++ (Find k, a) ∷ after → Follows opening before value → Gives a (value k)
  -- no drop is refused because the filter is strange
  pub drops : (before after : History K V) (k : K) (a : Answer V)
      → h ≡ before ++ (Drop k, a) ∷ after → a ≡ Err fault.StrangeFilter → ⊥
