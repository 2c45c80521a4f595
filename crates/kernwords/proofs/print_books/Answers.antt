use Rattle.std.proofs.Common.{◌≡◌, Err, inl, refl, rules}
use Rattle.console.specs.declared.fault.Fault.TheVariants.{Memory}
use Rattle.kernwords.specs.Reports.{report_text, Shown}
use Rattle.kernwords.proofs.Printing.{unprinted, printed}
use Rattle.kernwords.proofs.print_books.Goals as goal

pub returns-in_err-text : goal.returns-in_err-text
returns-in_err-text g c =
    let why : c.from_residual-in_err-text.result ≡ Err c.in_err-text.field-0.0 = search rules in
    rw why (unprinted _ _ _ c.in_err-text.ensures.in_order c.in_ok-kern.kern _ c.in_ok-kern.ensures c.in_err-text.field-0.0 c.in_err-text.ensures.fault)

pub returns-in_err-report : goal.returns-in_err-report
returns-in_err-report g c =
    let why : c.from_residual-in_err-report.result ≡ Err Memory = search rules in
    rw why (unprinted _ _ _ c.in_ok-text.ensures.in_order c.in_ok-kern.kern _ c.in_ok-kern.ensures Memory (inl refl))

pub returns : goal.returns
returns g c =
    let shown : Shown c.args.request (g.R.Read.remaining c.args.input.now) (g.R.Read.remaining c.read_text.new.input) (report_text c.in_ok-report.report) =
    record {
      size = c.in_ok-kern.kern;
      sized = c.in_ok-kern.ensures;
      text = c.as_slice.result.now;
      read = rw c.as_slice.ensures.value c.in_ok-text.ensures.text;
      all = c.in_ok-text.ensures.all;
      report = c.in_ok-report.report;
      reported = c.in_ok-report.ensures;
      said = refl;
    } in
    printed _ _ _ c.in_ok-text.ensures.in_order (report_text c.in_ok-report.report) _ _ c.send.result shown c.send.ensures
