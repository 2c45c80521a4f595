-- Work for arguments, from what it did and how its output was ended.
use Rattle.std.proofs.Common.{◌≡◌, ℕ, inl, inr, List, drop, Option, Ok, Err, Result, String, Global, MatchResult, IfErr, OnOk, Some, None, [], ◌++◌, refl, sym, subst, ◌∙◌, append-nil}
use Rattle.std.specs.Io.KnownBytes.{Appends, Keeps, append_known}
use Rattle.std.specs.Io.Buffered.{writer_contents, writer_buffer}
use Rattle.console.specs.Requests.{Requested}
use Rattle.console.specs.Endings.{last_text, Ended, Output, Work, Concluded, Worked, Served, Unserved, Performed, Unperformed}
use Rattle.std.specs.declared.io.buffered.BufWriter.{BufWriter}
use Rattle.console.specs.declared.fault.Fault.{Fault}
use Rattle.console.specs.declared.fault.Fault.TheVariants.{Stream}
use Rattle.console.specs.declared.request.Request.{Request}
use Rattle.console.proofs.Sendings.{appends_kept, begins_whole}

module _ {W : Type 0} (prints : Work W) (arguments : List (String Global)) {request : Option Request} {out after : Output W} {done : Result (Unit {0}) Fault}
    (asked : Requested (drop 1 arguments) (Ok request)) (printed : prints out request done after) where
  pub worked : Worked prints arguments done out.now after.now
  worked =
      record {
        request = request;
        asked = asked;
        out = out;
        before = refl;
        after = after;
        left = refl;
        printed = printed;
      }

  pub served : (contents : W → Option (List ℕ)) (new : BufWriter W Global) (result : Result (Unit {0}) Fault) → Concluded contents done after.now new result
      → MatchResult result (λ _. Served contents prints arguments out.now new) (Unserved contents prints arguments out.now new)
  served contents new (Ok ok) (ended, empty, last) =
      record {
        done = done;
        ended = ended;
        between = after.now;
        worked = worked;
        last = last;
        empty = empty;
      }
  served contents new (Err fault) (inl (unended, so, same)) =
      let ended_so = subst (λ (d : Result (Unit {0}) Fault). Worked prints arguments d out.now after.now) so worked in
      inr (inl (rw same ended_so, subst (λ (d : Result (Unit {0}) Fault). Ended d → ⊥) so unended))
  served contents new (Err fault) (inr (ended, stream, begins)) = inr (inr (stream, (done, after.now, ended, worked, begins)))

pub performed : {W : Type 0} (contents : W → Option (List ℕ)) (prints : Work W) (arguments : List (String Global)) (old new : BufWriter W Global) (result : Result (Unit {0}) Fault)
    → writer_buffer old ≡ [] → MatchResult result (λ _. Served contents prints arguments old new) (Unserved contents prints arguments old new)
    → MatchResult result (λ _. Performed contents prints) (Unperformed contents prints)
performed contents prints arguments old new (Ok ok) empty served_so = (arguments, old, new, empty, served_so)
performed contents prints arguments old new (Err fault) empty unserved = inr (inr (arguments, old, new, empty, unserved))

-- what a buffer with nothing in it has is what its writer has
appends_flushed : (o c : Option (List ℕ)) (buffer text : List ℕ) → buffer ≡ [] → Appends o (append_known c buffer) text → Appends o c text
appends_flushed None c buffer text none s = tt
appends_flushed (Some xs) None buffer text none s = s
appends_flushed (Some xs) (Some ys) buffer text none s = sym (append-nil ys) ∙ subst (λ bs. ys ++ bs ≡ xs ++ text) none s

-- a last line was printed, if there is one, and the buffer flushed
pub concluded : {W : Type 0} (contents : W → Option (List ℕ)) (done : Result (Unit {0}) Fault) (old mid new : BufWriter W Global) (result : Result (Unit {0}) Fault)
    → Ended done → Appends (writer_contents contents old) (writer_contents contents mid) (last_text done) → Keeps (writer_contents contents mid) (writer_contents contents new)
    → OnOk result (writer_buffer new ≡ []) → IfErr result (λ fault. fault ≡ Stream) → Concluded contents done old new result
concluded contents done old mid new (Ok ok) ended last kept empty stream =
    (ended, empty, appends_flushed _ _ _ _ empty (appends_kept _ _ _ _ last kept))
concluded contents done old mid new (Err fault) ended last kept empty stream =
    inr (ended, stream, begins_whole _ _ _ (appends_kept _ _ _ _ last kept))
