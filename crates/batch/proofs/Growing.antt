-- A batch that grows by one line.
use Rattle.std.proofs.Common.{◌≡◌, ℕ, List, [], ◌∷◌, ◌++◌, ℤ, Ok, Err, refl, append-nil, append_assoc}
use Rattle.kinds.specs.declared.kern.Pair.{Pair}
use Rattle.kinds.specs.declared.sequence.Sequence.{Sequence}
use Rattle.history.specs.declared.operation.Operation.{Operation}
use Rattle.forms.specs.declared.command.Command.TheVariants as command
use Rattle.batch.specs.Batches.{Destination, SortedByBook, Noted}
use Rattle.batch.specs.declared.lines.BookKind.TheVariants.{Kern, Ligature}

abbrev Kerns : Type 0
Kerns = List (Operation Pair ℤ)

abbrev Ligatures : Type 0
Ligatures = List (Operation Sequence ℕ)

-- what the lines that are left add completes the batch
abbrev pub Sofar : List (List ℕ) → List (List ℕ) → Kerns → Ligatures → List Destination → Type 0
Sofar all left ks gs ds = (ks' : Kerns) (gs' : Ligatures) (ds' : List Destination) → SortedByBook left ks' gs' ds' → SortedByBook all (ks ++ ks') (gs ++ gs') (ds ++ ds')

pub sofar_more : (all left rest : List (List ℕ)) (line : List ℕ) (ks : Kerns) (gs : Ligatures) (ds : List Destination) (ks' : Kerns) (gs' : Ligatures) (ds' : List Destination)
    → Sofar all left ks gs ds → left ≡ line ∷ rest → Noted line ks gs ds ks' gs' ds' → Sofar all rest ks' gs' ds'
unfolding SortedByBook
sofar_more all left rest line ks gs ds ks' gs' ds' t e (Ok (command.Kern o), m, (a, b, c)) more gs2 ds2 s =
    rw (a, b, c, append_assoc ks (o ∷ []) more, append_assoc ds (Ok Kern ∷ []) ds2) (t (o ∷ more) gs2 (Ok Kern ∷ ds2) (rw e (o, more, m, refl, s)))
sofar_more all left rest line ks gs ds ks' gs' ds' t e (Ok (command.Ligature o), m, (a, b, c)) ks2 more ds2 s =
    rw (a, b, c, append_assoc gs (o ∷ []) more, append_assoc ds (Ok Ligature ∷ []) ds2) (t ks2 (o ∷ more) (Ok Ligature ∷ ds2) (rw e (o, more, m, refl, s)))
sofar_more all left rest line ks gs ds ks' gs' ds' t e (Err f, m, (a, b, c)) ks2 gs2 ds2 s =
    rw (a, b, c, append_assoc ds (Err f ∷ []) ds2) (t ks2 gs2 (Err f ∷ ds2) (rw e (m, s)))

pub sofar_all : (all left : List (List ℕ)) (ks : Kerns) (gs : Ligatures) (ds : List Destination) → Sofar all left ks gs ds → left ≡ [] → SortedByBook all ks gs ds
unfolding SortedByBook
sofar_all all left ks gs ds t e = rw (append-nil ks, append-nil gs, append-nil ds) at (t [] [] [] (rw e (refl, refl, refl)))
