use Rattle.std.proofs.Common.{[], length, sym, subst, arith, rules}
use Rattle.words.proofs.Rows.{Words}
use Rattle.blocks.specs.Views.{Shows}
use Rattle.blocks.proofs.Forms.{words_from_views}
use Rattle.blocks.proofs.Readings.{zeros_show}
use Rattle.filter.proofs.laying.Rising.lay.Goals as goal

pub lay_entries-requires-clause-empty : goal.lay_entries-requires-clause-empty
lay_entries-requires-clause-empty c =
    let r = c.args.self.now.width.bits in
    subst (λ ws. Shows r ws []) (sym (c.fill.ensures.after (λ y e. e))) (zeros_show r (length c.args.words.now))

pub returns : goal.returns
returns c =
    let r = c.args.self.now.width.bits in
    let ps = c.args.self.now.list.now in
    let own = c.lay_offsets.new.words in
    let all : Words own = λ k. search rules in
    words_from_views r ps (omega arith) own all (subst (Shows r own) (sym c.args.self.now.order) c.lay_offsets.ensures) c.args.self.now.blocks (omega arith)
