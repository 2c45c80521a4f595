-- What is printed in answer to a text of edits.
use Rattle.std.specs.Prelude.{◌≡◌, ℕ, ◌+◌, ◌*◌, ◌⊎◌, min, List, [], ◌∷◌, ◌++◌, ℤ, map, flat_map, Ok, Err, codes, decimal, vec_items, IfSome, Option, Result}
use Rattle.std.specs.Io.KnownBytes.{Appends, Consumes, IsAtEnd}
use Rattle.figures.specs.Lines.{lines_of}
use Rattle.kinds.specs.Bytes.{pair_bytes, sequence_bytes}
use Rattle.kinds.specs.Hashes.{fibonacci, fnv}
use Rattle.kinds.specs.declared.kern.Pair.{Pair}
use Rattle.kinds.specs.declared.sequence.Sequence.{Sequence}
use Rattle.history.specs.History.{History}
use Rattle.batch.specs.Batches.{Destination, SortedByBook}
use Rattle.batch.specs.Reports.{refused_from, refused_line_text}
use Rattle.console.specs.Sending.{AppendsBeginning}
use Rattle.console.specs.Texts.{blocks_text}
use Rattle.console.specs.declared.fault.Fault.{Fault}
use Rattle.console.specs.declared.fault.Fault.TheVariants.{Memory, Stream, Arguments, Filter}
use Rattle.console.specs.declared.request.Request.{Request}
use Rattle.history.specs.Beginnings.{list_terms}
use Rattle.replay.specs.Replays.{call_of}
use Rattle.kernwords.specs.Books.{BeganEmpty}
use Rattle.kernwords.specs.Sizes.{KernSized, LigatureSized}
use Rattle.kernwords.specs.declared.sizes.Size.{Size}
use Rattle.kernwords.specs.declared.books.BookWords.{BookWords}
use Rattle.kernwords.specs.declared.report.Report.{Report}

-- the line of a book: its plan, blocks, slots and how many keys it holds
abbrev pub heading_text : BookWords → List ℕ
heading_text b =
    codes "q " ++ (decimal b.size.plan.q ++ (codes " r " ++ (decimal b.size.plan.r ++ (codes " blocks " ++ (decimal b.size.blocks
    ++ (codes " slots " ++ (decimal (64 * b.size.blocks) ++ (codes " held " ++ (decimal b.held ++ (10 ∷ []))))))))))

-- a book: that line, and then a line for each block
abbrev pub book_text : BookWords → List ℕ
book_text b = heading_text b ++ blocks_text (b.size.plan.r + 3) (vec_items b.words)

-- the refused lines, each with its end, and both books
abbrev pub report_text : Report → List ℕ
report_text r = flat_map (λ l. refused_line_text l ++ (10 ∷ [])) (vec_items r.refused) ++ (codes "kern " ++ (book_text r.kerns ++ (codes "ligature " ++ book_text r.ligatures)))

-- a book of that size, over a list, began empty and performed this history, and is printed so
pub record BookReported {K V : Type 0} (bytes : K → List ℕ) (number : K → ℕ) (size : Size) (h : History K V) (b : BookWords) : Type 0 where
  pub sized : b.size ≡ size
  pub begun : BeganEmpty (list_terms bytes number size.plan (min size.blocks 16640) (min size.records 65536)) (min size.blocks 16640) h b.held (vec_items b.words)

-- What a report says of a text of edits, with a kerning book of that size.
pub record Reported (size : Size) (text : List ℕ) (r : Report) : Type 0 where
  -- what was asked of each book, and what it answered
  pub kerns : History Pair ℤ
  pub ligatures : History Sequence ℕ
  -- each line goes to one book as its next operation, or nowhere
  pub lines : List Destination
  pub sorted : SortedByBook (lines_of text) (map (λ e. e.0) kerns) (map (λ e. e.0) ligatures) lines
  -- both books
  pub kern : BookReported pair_bytes (λ k. fibonacci k.left k.right) size kerns r.kerns
  pub ligature : BookReported sequence_bytes (λ k. fnv (sequence_bytes k)) r.ligatures.size ligatures r.ligatures
  pub ligature_size : LigatureSized r.ligatures.size
  -- the refused lines, in order
  pub refused : vec_items r.refused ≡ refused_from 1 lines (map call_of kerns) (map call_of ligatures)

-- The text that a request and an input make, where given and left are what there was to read before and after: all that a report says of what is read, with
-- a kerning book of the size that the request gives.
pub record Shown (request : Option Request) (given left : Option (List ℕ)) (shown : List ℕ) : Type 0 where
  pub size : Size
  pub sized : KernSized request (Ok size)
  -- the text is all that there was to read
  pub text : List ℕ
  pub read : IfSome given (λ bytes. text ≡ bytes)
  pub all : IsAtEnd left
  pub report : Report
  pub reported : Reported size text report
  pub said : shown ≡ report_text report

-- the request has a plan, and so a size
abbrev pub Sizable : Option Request → Type 0
Sizable request = (size : Size) × KernSized request (Ok size)

-- what is left is what was given, but for some of its first bytes
abbrev pub Reads : Option (List ℕ) → Option (List ℕ) → Type 0
Reads given left = (bytes : List ℕ) × Consumes given left bytes

-- What is printed, where o and p are the bytes printed before and after: that text. Or a plan is out of range, and then nothing is read and nothing printed;
-- or memory lacks, and then nothing is printed; or a stream fails, and then nothing is printed, or a beginning of that text.
abbrev pub PrintDone : Option Request → Option (List ℕ) → Option (List ℕ)
    → Option (List ℕ) → Option (List ℕ) → Result (Unit {0}) Fault → Type 0
PrintDone request given left o p (Ok done) =
    (shown : List ℕ) × Shown request given left shown × Appends o p shown
PrintDone request given left o p (Err (Filter f)) =
    KernSized request (Err f) × (left ≡ given) × (p ≡ o)
PrintDone request given left o p (Err Arguments) = ⊥
PrintDone request given left o p (Err Memory) = Sizable request × Reads given left × (p ≡ o)
PrintDone request given left o p (Err Stream) = Sizable request × Reads given left
    × ((p ≡ o) ⊎ ((shown : List ℕ) × Shown request given left shown × AppendsBeginning o p shown))
