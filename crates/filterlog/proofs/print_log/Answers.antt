use Rattle.std.proofs.Common.{rules, ◌≡◌, [], ◌++◌, Some, Err, IfSome}
use Rattle.figures.specs.Lines.{lines_of}
use Rattle.figures.specs.Coming.{lines_left}
use Rattle.filterlog.specs.Logs.{FilterBegun, PlanInRange, LogPrinted}
use Rattle.filterlog.proofs.Beginning.{blocks_exact}
use Rattle.console.proofs.Sendings.{appends_none, appends_more}
use Rattle.filterlog.proofs.Growing.{sofar_none, sofar_more, sofar_all}
use Rattle.filterlog.proofs.Stopping.{stopped}
use Rattle.filterlog.proofs.print_log.Goals as goal

pub loop-line-init : goal.loop-line-init
loop-line-init g c = ([], sofar_none _ c.begin-filter.result, appends_none (g.W.Write.contents c.args.out.now))

pub loop-line-preserved : goal.loop-line-preserved
loop-line-preserved g c =
    let (said, ran, shown) = c.loop-line.invariant in
    let (first, does, more) = c.in_ok-print_answer.ensures in (
      said ++ first,
      sofar_more _ _ _ _ _ _ _ _ _ ran c.in-Some.ensures.steps does,
      appends_more _ _ _ _ _ shown more,
    )

pub returns-clause-done : goal.returns-clause-done
returns-clause-done g c =
    let asked : c.args.request ≡ Some c.in_ok-request.request = search rules in
    let printed : LogPrinted c.in_ok-request.request (g.R.Read.remaining c.args.log.now) (g.W.Write.contents c.args.out.now) (g.W.Write.contents c.loop-line.out) = record {
      log = c.as_slice.result.now;
      read = search rules;
      before = c.begin-filter.result;
      after = c.loop-line.filter;
      begun = record {
        q = search rules;
        r = search rules;
        blocks = blocks_exact c.in_ok-plan.plan.r _ _ _ _ (search rules) c.as_mut_slice.ensures.len c.in_ok-words.ensures.size;
        empty = search rules;
      };
      text = c.loop-line.invariant.0;
      ran = sofar_all _ _ _ _ _ _ c.loop-line.invariant.1 (search rules) (c.in-None.ensures.steps).0;
      said = c.loop-line.invariant.2;
    } in
    rw asked printed

pub returns-in_err-print_answer-clause-done : goal.returns-in_err-print_answer-clause-done
returns-in_err-print_answer-clause-done g c =
    let asked : c.args.request ≡ Some c.in_ok-request.request = search rules in
    let range : PlanInRange c.in_ok-request.request = search rules in
    let same : c.from_residual-in_err-print_answer.result ≡ Err c.in_err-print_answer.field-0.0 = search rules in
    let read : IfSome (g.R.Read.remaining c.args.log.now) (λ bytes. c.as_slice.result.now ≡ bytes) = search rules in
    let begun : FilterBegun c.in_ok-request.request c.begin-filter.result = record {
      q = search rules;
      r = search rules;
      blocks = blocks_exact c.in_ok-plan.plan.r _ _ _ _ (search rules) c.as_mut_slice.ensures.len c.in_ok-words.ensures.size;
      empty = search rules;
    } in
    let lines : lines_left c.into_iter-line-iterator.result ≡ lines_of c.as_slice.result.now = search rules in
    rw (asked, same) (stopped c.in_ok-request.request (g.R.Read.remaining c.args.log.now) _ _ _ _ c.as_slice.result.now _ _ _ c.in-Some.line.now c.begin-filter.result c.loop-line.filter _ c.loop-line.invariant.0 c.in_err-print_answer.field-0.0
    range read begun lines c.loop-line.invariant.1 c.loop-line.invariant.2 c.in-Some.ensures.steps c.in_err-print_answer.ensures)
