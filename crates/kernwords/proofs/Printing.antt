-- What was printed, by how the sending of a report ended, or where nothing was sent.
use Rattle.std.proofs.Common.{◌≡◌, ℕ, ◌⊎◌, inl, inr, List, Option, Ok, Err, Result, refl}
use Rattle.console.specs.Sending.{Sent}
use Rattle.console.specs.declared.fault.Fault.{Fault}
use Rattle.console.specs.declared.fault.Fault.TheVariants.{Memory, Stream, Arguments, Filter}
use Rattle.console.specs.declared.request.Request.{Request}
use Rattle.kernwords.specs.Sizes.{KernSized}
use Rattle.kernwords.specs.Reports.{Shown, Reads, PrintDone}
use Rattle.kernwords.specs.declared.sizes.Size.{Size}

module _ (request : Option Request) (given left : Option (List ℕ)) (reads : Reads given left) where
  -- memory lacks or the input fails: nothing is printed
  pub unprinted : (size : Size) (o : Option (List ℕ)) → KernSized request (Ok size) → (e : Fault) → (e ≡ Memory) ⊎ (e ≡ Stream) → PrintDone request given left o o (Err e)
  unprinted size o k Memory why = ((size, k), reads, refl)
  unprinted size o k Stream why = ((size, k), reads, inl refl)
  unprinted size o k Arguments (inl e) = absurd (cc)
  unprinted size o k Arguments (inr e) = absurd (cc)
  unprinted size o k (Filter f) (inl e) = absurd (cc)
  unprinted size o k (Filter f) (inr e) = absurd (cc)

  -- the report is sent, or a beginning of it
  pub printed : (shown : List ℕ) (o p : Option (List ℕ)) (result : Result (Unit {0}) Fault) → Shown request given left shown → Sent o p shown result → PrintDone request given left o p result
  printed shown o p (Ok done) s t = (shown, s, t)
  printed shown o p (Err Stream) s t = ((s.size, s.sized), reads, inr (shown, s, t.1))
  printed shown o p (Err Memory) s (e, t) = absurd (cc)
  printed shown o p (Err Arguments) s (e, t) = absurd (cc)
  printed shown o p (Err (Filter f)) s (e, t) = absurd (cc)
