use Rattle.std.proofs.Common.{◌≡◌, ◌+◌, vec_items, sym, subst, arith}
use Rattle.filter.proofs.Slotting.{ReadUpTo, read_none, read_free, read_entry, read_whole}
use Rattle.filter.proofs.Sounds.{sound_of}
use Rattle.filter.specs.Layouts.{bits_of, entries, slots_in}
use Rattle.filter.proofs.laid.Layout.entries.Goals as goal
use Rattle.filter.proofs.laid.Layout.entries.Goals.{in-Some+in_ok-push, in_default}

pub loop-s-init : goal.loop-s-init
loop-s-init c =
    let l = c.args.self.now in
    read_none (bits_of l) (entries l) (vec_items c.in_ok-list.list) c.in_ok-list.ensures.items

pub loop-s-preserved : goal.loop-s-preserved
loop-s-preserved c =
    let r = bits_of c.args.self.now in
    let ps = entries c.args.self.now in
    let s = c.loop-s.s in
    elim c.match-slot.branch [
      | in-Some+in_ok-push w ↦ subst (λ l. ReadUpTo r ps (vec_items l) (s + 1)) (sym w.list-is)
          (read_entry r ps (vec_items c.loop-s.list) (vec_items w.push.new.self) s w.in-Some.c w.in-Some.rem w.fingerprint_of.result c.loop-s.invariant w.in-Some.ensures w.fingerprint_of.ensures w.in_ok-push.ensures.items)
      | in_default w ↦ subst (λ l. ReadUpTo r ps (vec_items l) (s + 1)) (sym w.list-is) (read_free r ps (vec_items c.loop-s.list) s c.loop-s.invariant w.in_default.ensures)
    ]

pub returns : goal.returns
returns c =
    let l = c.args.self.now in
    let end : c.loop-s.s ≡ slots_in l = omega arith in
    read_whole (slots_in l) (bits_of l) (entries l) (vec_items c.loop-s.list) (sound_of l).rising l.roomy (subst (ReadUpTo (bits_of l) (entries l) (vec_items c.loop-s.list)) end c.loop-s.invariant)
