use Rattle.std.proofs.Common.{◌≡◌, ◌<◌, ◌≤◌, [], Ok, length, ap, sym, ◌∙◌, subst, arith}
use Rattle.filter.specs.Cuts.{cut_to}
use Rattle.filter.specs.Filters.{SameFilter, words_of, cleared_over}
use Rattle.filter.specs.declared.filter.Filter.{Filter}
use Rattle.history.specs.declared.fault.BookFault.TheVariants.{Filter as FromFilter}
use Rattle.book.specs.Books.{Opened}
use Rattle.book.proofs.Reaching.{opened}
use Rattle.book.proofs.Refusals.{add_refused, cut_by}
use Rattle.book.proofs.Holding.{Holds, same_then, holds_none, holds_then, cleared_again}
use Rattle.book.proofs.Opening.{filled_none, filled_free, filled_record, crowded_record, filled_all, crowded_all}
use Rattle.book.proofs.calls.open.Goals as goal

pub loop-place-init : goal.loop-place-init
loop-place-init g c = filled_none (g.P.Fingerprint.number c.args.by.now) c.clear.new.self (g.X.Table.meaning c.args.table.now).rows c.clear.ensures.empty

pub returns-in-Err : goal.returns-in-Err
returns-in-Err g c =
    let number = g.P.Fingerprint.number c.args.by.now in
    let m = g.X.Table.meaning c.args.table.now in
    let f = c.args.filter.now in
    let e = c.clear.new.self in
    let h = c.loop-place.filter in
    let s : SameFilter f e = c.clear.ensures.same in
    let is : c.fingerprint_of.result ≡ cut_to h.plan (number c.in-Some.record.key) =
    cut_by c.fingerprint_of.result (number c.in-Some.record.key) c.plan.result h.plan c.fingerprint_of.ensures c.plan.ensures in
    let r = add_refused h c.add.new.self c.fingerprint_of.result (number c.in-Some.record.key) c.in-Err.fault is c.in-Err.ensures.done in
    let l : c.loop-place.place < length m.rows = omega (arith, c.loop-place-test.true, c.places-place-end.ensures) in
    let t : SameFilter c.add.new.self c.clear-in-Err.new.self = c.clear-in-Err.ensures.same in
    let back : Holds f h _ = holds_then f e h [] _ (holds_none f e s c.clear.ensures.empty c.clear.ensures.words) c.loop-place.invariant.holds in
    record {
      law = tt;
      filter = same_then f h c.clear-in-Err.new.self back.same (subst (λ (x : Filter). SameFilter x c.clear-in-Err.new.self) r.2 t);
      done = (
        c.into.ensures ∙ ap FromFilter r.0,
        crowded_all number f e m s (crowded_record number e m.rows h c.loop-place.place c.in-Some.record l c.in-Some.ensures c.loop-place.invariant c.fingerprint_of.result is r.1),
        c.clear-in-Err.ensures.empty,
        cleared_again f h c.clear-in-Err.new.self _ back
            (subst (λ (x : Filter). words_of c.clear-in-Err.new.self ≡ cleared_over x.plan.r x.blocks (words_of x)) r.2 c.clear-in-Err.ensures.words),
      );
    }

pub loop-place-preserved-in_default : goal.loop-place-preserved-in_default
loop-place-preserved-in_default g c =
    let number = g.P.Fingerprint.number c.args.by.now in
    let m = g.X.Table.meaning c.args.table.now in
    filled_free number c.clear.new.self m.rows c.loop-place.filter c.loop-place.place (omega (arith, c.loop-place-test.true, c.places-place-end.ensures)) (sym c.in_default.is ∙ c.peek.ensures) c.loop-place.invariant

pub loop-place-preserved : goal.loop-place-preserved
loop-place-preserved g c =
    let number = g.P.Fingerprint.number c.args.by.now in
    let m = g.X.Table.meaning c.args.table.now in
    let h = c.loop-place.filter in
    let i = c.loop-place.place in
    let l : i < length m.rows = omega (arith, c.loop-place-test.true, c.places-place-end.ensures) in
    let a = c.in_default-add.ensures in
    filled_record number c.clear.new.self m.rows h i c.in-Some.record l c.in-Some.ensures c.loop-place.invariant c.fingerprint_of.result
    (cut_by c.fingerprint_of.result (number c.in-Some.record.key) c.plan.result h.plan c.fingerprint_of.ensures c.plan.ensures)
    c.add.new.self a.same a.done

pub returns : goal.returns
returns g c =
    let number = g.P.Fingerprint.number c.args.by.now in
    let m = g.X.Table.meaning c.args.table.now in
    let f = c.args.filter.now in
    let e = c.clear.new.self in
    let s : SameFilter f e = c.clear.ensures.same in
    let l : length m.rows ≤ c.loop-place.place = omega (arith, c.loop-place-test.false, c.places-place-end.ensures) in
    let d = filled_all number f e m s c.loop-place.filter c.loop-place.place l (holds_none f e s c.clear.ensures.empty c.clear.ensures.words) c.loop-place.invariant in
    let done : Opened number f c.loop-place.filter m (Ok tt) = (d.1, d.0.entries, d.0.words) in
    record {
      filter = d.0.same;
      law = opened g.K.Kind.bytes g.met.K.Kind.apart f c.loop-place.filter m number (g.X.Table.proper c.args.table.now c.requires).once d.0.same done;
      done = done;
    }
