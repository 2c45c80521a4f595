-- A log whose answers are not printed to their end.
use Rattle.std.proofs.Common.{◌≡◌, ℕ, inr, List, ◌∷◌, ◌++◌, IfSome, Some, Option, Err, sym, subst, ◌∙◌}
use Rattle.std.specs.Io.KnownBytes.{Appends}
use Rattle.figures.specs.Lines.{lines_of}
use Rattle.filter.specs.declared.filter.Filter.{Filter}
use Rattle.console.specs.declared.fault.Fault.{Fault}
use Rattle.console.specs.declared.fault.Fault.TheVariants.{Memory, Stream, Arguments, Filter as Refuses}
use Rattle.console.specs.declared.request.Request.{Request}
use Rattle.console.proofs.Sendings.{begins_after}
use Rattle.filterlog.specs.Runs.{LinePrinted}
use Rattle.filterlog.specs.Logs.{FilterBegun, Started, PlanInRange, LogDone}
use Rattle.filterlog.proofs.Growing.{Sofar, sofar_more}

-- the lines so far are the first of the log
started : (request : Request) (left : Option (List ℕ)) (log : List ℕ) (all coming : List (List ℕ)) (before after : Filter) (said : List ℕ)
    → IfSome left (λ bytes. log ≡ bytes) → FilterBegun request before → all ≡ lines_of log → Sofar all coming before after said → Started request left said
started request left log all coming before after said read begun same (answered, whole, ran) =
    record {
      log = log;
      read = read;
      answered = answered;
      unanswered = coming;
      lines = sym same ∙ whole;
      before = before;
      after = after;
      begun = begun;
      ran = ran;
    }

pub stopped : (request : Request) (left rest o p q : Option (List ℕ)) (log : List ℕ) (all coming more : List (List ℕ)) (line : List ℕ) (before f g : Filter) (said : List ℕ) (fault : Fault)
    → PlanInRange request → IfSome left (λ bytes. log ≡ bytes) → FilterBegun request before → all ≡ lines_of log → Sofar all coming before f said → Appends o p said
    → coming ≡ line ∷ more → LinePrinted line f g p q (Err fault) → LogDone (Some request) left rest o q (Err fault)
stopped request left rest o p q log all coming more line before f g said Memory range read begun same sofar shown e (question, asked, kept, none) =
    (range, inr (said, started request left log all coming before f said read begun same sofar, subst (λ x. Appends o x said) (sym none) shown))
stopped request left rest o p q log all coming more line before f g said Stream range read begun same sofar shown e (text, ran, begins) =
    (range, inr (said ++ text, started request left log all more before g (said ++ text) read begun same (sofar_more all coming more line before f g said text sofar e ran), begins_after o p q said text shown begins))
stopped request left rest o p q log all coming more line before f g said Arguments range read begun same sofar shown e done = absurd done
stopped request left rest o p q log all coming more line before f g said (Refuses r) range read begun same sofar shown e done = absurd done
