use Rattle.std.proofs.Common.{◌≡◌, ℕ, ◌+◌, Some, None, Ok, sym, refl, subst, inl, inr, arith}
use Rattle.tables.proofs.Changes.{same_frame}
use Rattle.listtable.specs.Lists.{list_meaning, SetWrites}
use Rattle.listtable.specs.Propers.{count_places}
use Rattle.listtable.proofs.Lists.{Changed, placed, overwritten, appended, full, is_held}
use Rattle.listtable.proofs.list.calls.ListTableTable.set.Goals as goal

pub returns : goal.returns
returns g c =
    let table = c.args.self.now in
    let count = count_places table.held table.records.now table.within in
    let none = placed g.K.Kind.bytes g.met.K.Kind.apart table.held table.records.now table.within c.args.key None c.in_default.ensures in
    let t = subst (λ rs. Changed g.K.Kind.bytes table.held (table.held + 1) table.records.now rs c.args.key (Some c.args.value)) (sym c.write-2.ensures)
    (appended g.K.Kind.bytes g.met.K.Kind.apart table.held table.records.now table.within table.once c.args.key c.args.value none (omega arith)) in
    record {
      list = subst (λ o. SetWrites (Ok tt) o c.args.key c.args.value table.held table.records.now (table.held + 1) c.write-2.new.records) c.in_default.ensures (refl, c.write-2.ensures);
      frame = t.frame;
      lender = refl;
      beyond = t.beyond;
      done = (refl, inr (omega arith), t.revalued);
      undone = λ e. let z : ◌≡◌ {A = ℕ} 0 1 = cc in absurd (omega arith);
    }

pub invariant_of-self : goal.invariant_of-self
invariant_of-self g c =
    let table = c.args.self.now in
    let at = placed g.K.Kind.bytes g.met.K.Kind.apart table.held table.records.now table.within c.args.key (Some c.in-Some.place) c.in-Some.ensures in
    let t = subst (λ rs. Changed g.K.Kind.bytes table.held table.held table.records.now rs c.args.key (Some c.args.value)) (sym c.write.ensures)
    (overwritten g.K.Kind.bytes g.met.K.Kind.apart table.held table.records.now table.within table.once c.in-Some.place c.args.key c.args.value at) in
    record { within = t.within; once = t.once }

pub returns-in-Some : goal.returns-in-Some
returns-in-Some g c =
    let table = c.args.self.now in
    let at = placed g.K.Kind.bytes g.met.K.Kind.apart table.held table.records.now table.within c.args.key (Some c.in-Some.place) c.in-Some.ensures in
    let t = subst (λ rs. Changed g.K.Kind.bytes table.held table.held table.records.now rs c.args.key (Some c.args.value)) (sym c.write.ensures)
    (overwritten g.K.Kind.bytes g.met.K.Kind.apart table.held table.records.now table.within table.once c.in-Some.place c.args.key c.args.value at) in
    record {
      list = subst (λ o. SetWrites (Ok tt) o c.args.key c.args.value table.held table.records.now table.held c.write.new.records) c.in-Some.ensures (refl, c.write.ensures);
      frame = t.frame;
      lender = refl;
      beyond = t.beyond;
      done = (refl, inl (is_held g.K.Kind.bytes g.met.K.Kind.apart table.held table.records.now table.within table.once c.in-Some.place c.args.key at), t.revalued);
      undone = λ e. let z : ◌≡◌ {A = ℕ} 0 1 = cc in absurd (omega arith);
    }

pub returns-then-held-capacity : goal.returns-then-held-capacity
returns-then-held-capacity g c =
    let table = c.args.self.now in
    let count = count_places table.held table.records.now table.within in
    let none = placed g.K.Kind.bytes g.met.K.Kind.apart table.held table.records.now table.within c.args.key None c.in_default.ensures in
    record {
      list = (refl, refl);
      frame = same_frame (list_meaning table.held table.records.now);
      lender = refl;
      beyond = refl;
      done = full g.K.Kind.bytes g.met.K.Kind.apart table.held table.records.now table.within c.args.key c.args.value none (omega arith);
      undone = λ e. refl;
    }

pub write-requires-2 : goal.write-requires-2
write-requires-2 g c =
    let table = c.args.self.now in
    let count = count_places table.held table.records.now table.within in
    omega arith

pub invariant_of-self-2 : goal.invariant_of-self-2
invariant_of-self-2 g c =
    let table = c.args.self.now in
    let count = count_places table.held table.records.now table.within in
    let none = placed g.K.Kind.bytes g.met.K.Kind.apart table.held table.records.now table.within c.args.key None c.in_default.ensures in
    let t = subst (λ rs. Changed g.K.Kind.bytes table.held (table.held + 1) table.records.now rs c.args.key (Some c.args.value)) (sym c.write-2.ensures)
    (appended g.K.Kind.bytes g.met.K.Kind.apart table.held table.records.now table.within table.once c.args.key c.args.value none (omega arith)) in
    record { within = t.within; once = t.once }
