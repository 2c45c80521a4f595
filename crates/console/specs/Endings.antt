-- How a program ends.
use Rattle.std.specs.Prelude.{◌≡◌, ℕ, ◌⊎◌, List, [], ◌∷◌, ◌++◌, drop, Option, Ok, Err, Result, String}
use Rattle.std.specs.Borrow.{MutBor}
use Rattle.std.specs.Io.KnownBytes.{Appends}
use Rattle.std.specs.Io.Buffered.{writer_contents, writer_buffer, writer_inner}
use Rattle.std.specs.declared.io.buffered.BufWriter.{BufWriter}
use Rattle.std.specs.declared.alloc.Global.{Global}
use Rattle.console.specs.declared.fault.Fault.{Fault}
use Rattle.console.specs.declared.fault.Fault.TheVariants.{Memory, Stream, Arguments, Filter}
use Rattle.console.specs.declared.request.Request.{Request}
use Rattle.console.specs.Requests.{Requested}
use Rattle.console.specs.Texts.{refusal_text}
use Rattle.console.specs.Sending.{AppendsBeginning}

-- what a program prints last: the line of the refusal that ends its work, if one does
abbrev pub last_text : Result (Unit {0}) Fault → List ℕ
last_text (Ok done) = []
last_text (Err (Filter f)) = refusal_text f ++ (10 ∷ [])
last_text (Err Memory) = []
last_text (Err Stream) = []
last_text (Err Arguments) = []

-- the work ends as it may: it is done, or refused
abbrev pub Ended : Result (Unit {0}) Fault → Type 0
Ended (Ok done) = Unit {0}
Ended (Err (Filter f)) = Unit {0}
Ended (Err Memory) = ⊥
Ended (Err Stream) = ⊥
Ended (Err Arguments) = ⊥

-- a buffer over a writer, as the work is lent it
abbrev pub Output : Type 0 → Type 0
Output W = MutBor (BufWriter W Global)

-- how work prints for a request: the output before it, the request, how it ends, and the output after it
abbrev pub Work : Type 0 → Type 1
Work W = Output W → Option Request → Result (Unit {0}) Fault → Output W → Type 0

-- How a program ends what work printed, where done is how the work ended, and old and new are the buffer before and after: the last line is printed, and the
-- writer has all. Or the work ended as it may not, and nothing more is printed; or a stream fails, and the writer and its buffer have a beginning of that.
abbrev pub Concluded : {W : Type 0} → (W → Option (List ℕ)) → Result (Unit {0}) Fault → BufWriter W Global → BufWriter W Global → Result (Unit {0}) Fault → Type 0
Concluded contents done old new (Ok ended) =
    Ended done × (writer_buffer new ≡ []) × Appends (writer_contents contents old) (contents (writer_inner new)) (last_text done)
Concluded contents done old new (Err fault) =
    ((Ended done → ⊥) × (done ≡ Err fault) × (new ≡ old))
    ⊎ (Ended done × (fault ≡ Stream) × AppendsBeginning (writer_contents contents old) (writer_contents contents new) (last_text done))

-- Work was done for a request, or for none, that arguments ask for: it began with the buffer old, and left it as between.
pub record Worked {W : Type 0} (prints : Work W) (arguments : List (String Global)) (done : Result (Unit {0}) Fault) (old between : BufWriter W Global) : Type 0 where
  -- the words after the program's own name ask for a request, or for none
  pub request : Option Request
  pub asked : Requested (drop 1 arguments) (Ok request)
  -- the work took the output from the one to the other
  pub out : Output W
  pub before : out.now ≡ old
  pub after : Output W
  pub left : after.now ≡ between
  pub printed : prints out request done after

-- Work was done for what arguments ask for, and a buffer became new by it; contents are what a writer holds, where that is known.
pub record Served {W : Type 0} (contents : W → Option (List ℕ)) (prints : Work W) (arguments : List (String Global)) (old new : BufWriter W Global) : Type 0 where
  -- the work ended as it may
  pub done : Result (Unit {0}) Fault
  pub ended : Ended done
  pub between : BufWriter W Global
  pub worked : Worked prints arguments done old between
  -- the writer has all that the writer or its buffer had after the work, then the last line, and no more
  pub last : Appends (writer_contents contents between) (contents (writer_inner new)) (last_text done)
  pub empty : writer_buffer new ≡ []

-- Why that is not so: the arguments are refused, and nothing is printed; or the work ends as it may not, and then nothing more is printed; or it ends as it
-- may, a stream fails, and the writer and its buffer have what they had after the work, then a beginning of the last line.
abbrev pub Unserved : {W : Type 0} → (W → Option (List ℕ)) → Work W → List (String Global) → BufWriter W Global → BufWriter W Global → Fault → Type 0
Unserved {W} contents prints arguments old new fault =
    (Requested (drop 1 arguments) (Err fault) × (new ≡ old))
    ⊎ ((Worked prints arguments (Err fault) old new × (Ended (Err fault) → ⊥))
    ⊎ ((fault ≡ Stream) × ((done : Result (Unit {0}) Fault) × (between : BufWriter W Global) × Ended done × Worked prints arguments done old between
    × AppendsBeginning (writer_contents contents between) (writer_contents contents new)
    (last_text done))))

-- work was done for some arguments with a buffer that was empty at first
abbrev pub Performed : {W : Type 0} → (W → Option (List ℕ)) → Work W → Type 0
Performed {W} contents prints =
    (arguments : List (String Global)) × (old : BufWriter W Global) × (new : BufWriter W Global) × (writer_buffer old ≡ []) × Served contents prints arguments old new

-- Why it was not: memory lacks for the arguments or the buffer, the arguments cannot be read, or some arguments are not served.
abbrev pub Unperformed : {W : Type 0} → (W → Option (List ℕ)) → Work W → Fault → Type 0
Unperformed {W} contents prints fault =
    (fault ≡ Memory) ⊎ ((fault ≡ Arguments)
    ⊎ ((arguments : List (String Global)) × (old : BufWriter W Global) × (new : BufWriter W Global) × (writer_buffer old ≡ []) × Unserved contents prints arguments old new fault))
