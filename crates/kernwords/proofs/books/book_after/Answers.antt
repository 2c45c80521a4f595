use Rattle.std.proofs.Common.{◌≡◌, ◌≤◌, min, length, take, drop, sym, ap, ◌∙◌, arith}
use Rattle.std.proofs.lemmas.List.{take_at, take_all}
use Rattle.layout.specs.Format.{block_count}
use Rattle.filter.specs.Meaning.{size_of}
use Rattle.listtable.specs.Lists.{list_capacity}
use Rattle.kernwords.proofs.Runs.{blocks_exact, resized}
use Rattle.kernwords.proofs.books.book_after.Goals as goal

pub returns-clause-performed : goal.returns-clause-performed
returns-clause-performed g c =
    let plan = c.args.size.plan in
    let blocks = min c.args.size.blocks 16640 in
    let few : blocks ≤ 16640 = omega arith in
    let ws = c.as_mut_slice.result.now in
    let rs = c.as_mut_slice-2.result.now in
    let vs = c.perform_all-held.new.words in
    let size : length ws ≡ size_of plan.r blocks = c.as_mut_slice.ensures.len ∙ c.in_ok-words.ensures.size in
    let own : block_count plan.r (length ws) ≡ blocks = ap (block_count plan.r) size ∙ blocks_exact plan.r blocks few in
    let room : list_capacity (length rs) ≡ list_capacity c.args.size.records = ap list_capacity (c.as_mut_slice-2.ensures.len ∙ c.in_ok-records.ensures.len) in
    let front = take_all (size_of plan.r (block_count plan.r (length ws))) vs (omega (arith, ap (size_of plan.r) own, size)) in
    let back = take_at vs (drop (length vs) c.in_ok-words.words.items) c.in_ok-words.words.len (omega (arith, c.as_mut_slice.ensures.len)) in
    resized g.K.Kind.bytes (g.P.Fingerprint.number c.args.by.now) plan c.args.calls.now c.perform_all-held.new.calls c.perform_all-held.result
    (block_count plan.r (length ws)) blocks (list_capacity (length rs)) (list_capacity c.args.size.records)
    (take (size_of plan.r (block_count plan.r (length ws))) vs) _ own room (front ∙ sym back) c.perform_all-held.ensures
