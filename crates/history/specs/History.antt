-- The law of a book over whole histories: what it answers and what it holds, by the operations and their answers alone.
use Rattle.std.specs.Prelude.{◌≡◌, ℕ, List, ◌∷◌, ◌++◌, map, length, is_some, Some, None, Ok, Err, Option, Result}
use Rattle.kinds.specs.Keys.{same_key}
use Rattle.layout.specs.Rule.{one_if}
use Rattle.std.specs.List.{count_by}
use Rattle.history.specs.declared.operation.Operation.{Operation}
use Rattle.history.specs.declared.operation.Operation.TheVariants.{Put, Drop, Find}
use Rattle.history.specs.declared.answer.Found.{Found as FindAnswer}
use Rattle.history.specs.declared.answer.Stored.{Stored as PutAnswer}
use Rattle.history.specs.declared.answer.Told.{Told}
use Rattle.history.specs.declared.answer.Told.TheVariants.{Stored, Dropped, Found}
use Rattle.history.specs.declared.fault.BookFault.{BookFault}
use Rattle.history.specs.Rules.{Terms, Holdings, Answer, Rule}

-- an operation with its answer
abbrev pub Event : Type 0 → Type 0 → Type 0
Event K V = Operation K V × Answer V

-- what was asked of a book since it was opened, and what it answered, the oldest first
abbrev pub History : Type 0 → Type 0 → Type 0
History K V = List (Event K V)

-- what a call gave, as an answer: what it did, told as `tell` says, or its refusal
abbrev pub answer_of : {T V : Type 0} → (T → Told V) → Result T BookFault → Answer V
answer_of tell (Ok x) = Ok (tell x)
answer_of tell (Err e) = Err e

-- a put as an event, with what it gave
abbrev pub put_event : {K V : Type 0} → K → V → Result PutAnswer BookFault → Event K V
put_event k v given = (Put k v, answer_of Stored given)

-- a drop as an event, with what it gave
abbrev pub drop_event : {K V : Type 0} → K → Result (Unit {0}) BookFault → Event K V
drop_event k given = (Drop k, answer_of (λ _. Dropped) given)

-- a find as an event, with what it gave
abbrev pub find_event : {K V : Type 0} → K → FindAnswer V → Event K V
find_event k given = (Find k, Ok (Found given))

-- An accepted put of key k gives it that value, an accepted drop none. No other event says anything of k.
abbrev pub SetsKey : {K V : Type 0} → Event K V → K → Option V → Type 0
SetsKey (Put q w, Ok (Stored s)) k v = (q ≡ k) × (v ≡ Some w)
SetsKey (Drop q, Ok Dropped) k v = (q ≡ k) × (v ≡ None)
SetsKey e k v = ⊥

-- no event of the history decides key k
abbrev pub Untouched : {K V : Type 0} → History K V → K → Type 0
Untouched {K} {V} h k = (before after : History K V) (e : Event K V) (v : Option V) → h ≡ before ++ e ∷ after → SetsKey e k v → ⊥

-- Each key has the value that the last accepted put or drop of it gave, and without either the one that it had at the opening.
pub record Follows {K V : Type 0} (opening : K → Option V) (h : History K V) (value : K → Option V) : Type 0 where
  pub last : (before after : History K V) (e : Event K V) (k : K) (v : Option V) → h ≡ before ++ e ∷ after → SetsKey e k v → Untouched after k → value k ≡ v
  pub first : (k : K) → Untouched h k → value k ≡ opening k

-- how often a key stands in a list
abbrev pub times : {K : Type 0} → (K → List ℕ) → K → List K → ℕ
times bytes k ks = count_by (λ q. same_key bytes q k) ks

-- ks are the current keys: each key that has a value stands there once, and no other
abbrev pub Current : {K V : Type 0} → (K → List ℕ) → (K → Option V) → List K → Type 0
Current {K} {V} bytes value ks = (k : K) → times bytes k ks ≡ one_if (is_some (value k))

-- a book that holds just the current keys with their values, and in its filter their fingerprints, one for each key
abbrev pub holding : {K V : Type 0} → Terms K → (K → Option V) → List K → Holdings K V
holding t value ks = record { value = value; held = length ks; entries = map t.fingerprint ks }

-- The answer to an operation is the one that the rules give, whatever list of the current keys is taken; and there is such a list.
pub record Due {K V : Type 0} (t : Terms K) (value : K → Option V) (o : Operation K V) (a : Answer V) : Type 0 where
  pub keys : List K
  pub current : Current t.bytes value keys
  pub rule : (ks : List K) → Current t.bytes value ks → Rule t (holding t value ks) o a

-- Each answer of a history is due by what the keys hold after the events before it; and that is determined by these events.
pub record AnsweredByRules {K V : Type 0} (t : Terms K) (opening : K → Option V) (before : History K V) (o : Operation K V) (a : Answer V) : Type 0 where
  pub held : K → Option V
  pub follows : Follows opening before held
  pub due : (value : K → Option V) → Follows opening before value → Due t value o a

-- every answer of a history
abbrev pub Lawful : {K V : Type 0} → Terms K → (K → Option V) → History K V → Type 0
Lawful {K} {V} t opening h = (before after : History K V) (o : Operation K V) (a : Answer V) → h ≡ before ++ (o, a) ∷ after → AnsweredByRules t opening before o a
