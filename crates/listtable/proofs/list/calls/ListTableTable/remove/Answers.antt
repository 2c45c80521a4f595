use Rattle.std.proofs.Common.{◌≡◌, ℕ, ◌-◌, get_or, set, is_some, Some, None, Ok, Err, sym, refl, ap, ◌∙◌, subst, arith, rules}
use Rattle.std.proofs.lemmas.List.{get_or_default}
use Rattle.tables.specs.Meaning.{RemoveDone}
use Rattle.tables.specs.declared.fault.TableFault.TheVariants.{NotHeld}
use Rattle.listtable.specs.Lists.{list_meaning, RemoveWrites}
use Rattle.listtable.proofs.Lists.{Changed, placed, taken_out, is_held}
use Rattle.listtable.proofs.list.calls.ListTableTable.remove.Goals as goal

pub returns : goal.returns
returns g c =
    let table = c.args.self.now in
    let at = placed g.K.Kind.bytes g.met.K.Kind.apart table.held table.records.now table.within c.args.key (Some c.in_ok-place.place) (sym c.in_ok-place.ensures.ok_part ∙ c.place.ensures) in
    let t = subst (λ rs. Changed g.K.Kind.bytes table.held (table.held - 1) table.records.now rs c.args.key None) (sym c.write.ensures)
    (taken_out g.K.Kind.bytes g.met.K.Kind.apart table.held table.records.now table.within table.once c.in_ok-place.place c.args.key _ at) in
    let moved : (d : _) → c.write.new.records ≡ set table.records.now c.in_ok-place.place (get_or table.records.now (table.held - 1) d) =
    λ d. c.write.ensures ∙ ap (λ r. set table.records.now c.in_ok-place.place r) (get_or_default table.records.now (table.held - 1) _ d (let w = table.within in omega (arith, at.0))) in
    record {
      list = subst (λ o. RemoveWrites (Ok tt) o table.held table.records.now (table.held - 1) c.write.new.records) (sym c.in_ok-place.ensures.ok_part ∙ c.place.ensures) (refl, moved);
      frame = t.frame;
      lender = refl;
      beyond = t.beyond;
      done = (is_held g.K.Kind.bytes g.met.K.Kind.apart table.held table.records.now table.within table.once c.in_ok-place.place c.args.key at, t.revalued);
      undone = λ e. let z : ◌≡◌ {A = ℕ} 0 1 = cc in absurd (omega arith);
    }

pub returns-in_err-place-clause-done : goal.returns-in_err-place-clause-done
returns-in_err-place-clause-done g c =
    let table = c.args.self.now in
    let is : c.from_residual.result ≡ Err NotHeld = search rules in
    let none : c.place.result ≡ None = search rules in
    let missed = placed g.K.Kind.bytes g.met.K.Kind.apart table.held table.records.now table.within c.args.key None (sym none ∙ c.place.ensures) in
    subst (λ r. RemoveDone g.K.Kind.bytes (list_meaning table.held table.records.now) (list_meaning table.held table.records.now) c.args.key r) (sym is) (ap is_some missed, refl)

pub invariant_of-self : goal.invariant_of-self
invariant_of-self g c =
    let table = c.args.self.now in
    let at = placed g.K.Kind.bytes g.met.K.Kind.apart table.held table.records.now table.within c.args.key (Some c.in_ok-place.place) (sym c.in_ok-place.ensures.ok_part ∙ c.place.ensures) in
    let t = subst (λ rs. Changed g.K.Kind.bytes table.held (table.held - 1) table.records.now rs c.args.key None) (sym c.write.ensures)
    (taken_out g.K.Kind.bytes g.met.K.Kind.apart table.held table.records.now table.within table.once c.in_ok-place.place c.args.key _ at) in
    record { within = t.within; once = t.once }
