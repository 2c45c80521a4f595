use Rattle.std.proofs.Common.{◌≡◌, ltb, sym}
use Rattle.std.proofs.lemmas.Bool.{ltb-true}
use Rattle.layout.specs.Laws.{copies_of}
use Rattle.filter.proofs.Promises.{quotient_small, by_layout}
use Rattle.filter.proofs.filter.Filter.has.Goals as goal

pub has-requires : goal.has-requires
has-requires c = quotient_small c.args.self.now c.layout.result c.args.fingerprint c.layout.ensures (ltb-true c.args.fingerprint _ (sym c.if-not-admits.ensures))

pub returns : goal.returns
returns c =
    let p = c.args.fingerprint in
    let l = c.layout.result in
    (ltb-true p _ (sym c.if-not-admits.ensures), by_layout c.args.self.now l c.layout.ensures (λ r blocks es. c.has.result ≡ ltb 0 (copies_of p es)) c.has.ensures)
