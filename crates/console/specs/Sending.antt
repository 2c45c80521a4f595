-- What a writer got of a text, where its bytes are known.
use Rattle.std.specs.Prelude.{◌≡◌, ℕ, List, take, Option, Ok, Err, Result}
use Rattle.std.specs.Io.KnownBytes.{Appends}
use Rattle.console.specs.declared.fault.Fault.{Fault}
use Rattle.console.specs.declared.fault.Fault.TheVariants.{Stream}

-- the bytes from o to p grew by a beginning of the text
abbrev pub AppendsBeginning : Option (List ℕ) → Option (List ℕ) → List ℕ → Type 0
AppendsBeginning o p text = (n : ℕ) × Appends o p (take n text)

-- the text was written from o to p: all of it, or a beginning of it where the stream fails
abbrev pub Sent : Option (List ℕ) → Option (List ℕ) → List ℕ → Result (Unit {0}) Fault → Type 0
Sent o p text (Ok done) = Appends o p text
Sent o p text (Err fault) = (fault ≡ Stream) × AppendsBeginning o p text
