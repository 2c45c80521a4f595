use Rattle.std.proofs.Common.{◌≡◌, ◌*◌, Err, rules, codes, decimal}
use Rattle.kernwords.proofs.Pieces.{named_more, named_short}
use Rattle.kernwords.proofs.books.BookWords.send_heading.Goals as goal

pub returns-in_err-send_named : goal.returns-in_err-send_named
returns-in_err-send_named g c =
    let size = c.args.self.now.size in
    let q : c.from-q.result ≡ size.plan.q = search rules in
    let fault = c.in_err-send_named.field-0.0 in
    let same : c.from_residual.result ≡ Err fault = search rules in
    rw (same, ← q) (named_short _ _ (codes "q ") (decimal c.from-q.result) _ 32 fault c.in_err-send_named.ensures)

pub returns-in_err-send_named-2 : goal.returns-in_err-send_named-2
returns-in_err-send_named-2 g c =
    let size = c.args.self.now.size in
    let q : c.from-q.result ≡ size.plan.q = search rules in
    let r : c.from-r.result ≡ size.plan.r = search rules in
    let fault = c.in_err-send_named-2.field-0.0 in
    let same : c.from_residual-in_err-send_named-2.result ≡ Err fault = search rules in
    rw (same, ← q, ← r) (named_more _ _ _ (codes "q ") (decimal c.from-q.result) _ 32 (Err fault) c.in_ok-send_named.ensures
    (named_short _ _ (codes "r ") (decimal c.from-r.result) _ 32 fault c.in_err-send_named-2.ensures))

pub returns-in_err-send_named-3 : goal.returns-in_err-send_named-3
returns-in_err-send_named-3 g c =
    let size = c.args.self.now.size in
    let q : c.from-q.result ≡ size.plan.q = search rules in
    let r : c.from-r.result ≡ size.plan.r = search rules in
    let blocks : c.from.result ≡ size.blocks = search rules in
    let fault = c.in_err-send_named-3.field-0.0 in
    let same : c.from_residual-in_err-send_named-3.result ≡ Err fault = search rules in
    rw (same, ← q, ← r, ← blocks) (named_more _ _ _ (codes "q ") (decimal c.from-q.result) _ 32 (Err fault) c.in_ok-send_named.ensures
    (named_more _ _ _ (codes "r ") (decimal c.from-r.result) _ 32 (Err fault) c.in_ok-send_named-2.ensures
    (named_short _ _ (codes "blocks ") (decimal c.from.result) _ 32 fault c.in_err-send_named-3.ensures)))

pub returns-in_err-send_named-4 : goal.returns-in_err-send_named-4
returns-in_err-send_named-4 g c =
    let size = c.args.self.now.size in
    let q : c.from-q.result ≡ size.plan.q = search rules in
    let r : c.from-r.result ≡ size.plan.r = search rules in
    let blocks : c.from.result ≡ size.blocks = search rules in
    let slots : 64 * c.from-slots.result ≡ 64 * size.blocks = search rules in
    let fault = c.in_err-send_named-4.field-0.0 in
    let same : c.from_residual-in_err-send_named-4.result ≡ Err fault = search rules in
    rw (same, ← q, ← r, ← slots, ← blocks) (named_more _ _ _ (codes "q ") (decimal c.from-q.result) _ 32 (Err fault) c.in_ok-send_named.ensures
    (named_more _ _ _ (codes "r ") (decimal c.from-r.result) _ 32 (Err fault) c.in_ok-send_named-2.ensures
    (named_more _ _ _ (codes "blocks ") (decimal c.from.result) _ 32 (Err fault) c.in_ok-send_named-3.ensures
    (named_short _ _ (codes "slots ") (decimal (64 * c.from-slots.result)) _ 32 fault c.in_err-send_named-4.ensures))))

pub returns : goal.returns
returns g c =
    let size = c.args.self.now.size in
    let q : c.from-q.result ≡ size.plan.q = search rules in
    let r : c.from-r.result ≡ size.plan.r = search rules in
    let blocks : c.from.result ≡ size.blocks = search rules in
    let slots : 64 * c.from-slots.result ≡ 64 * size.blocks = search rules in
    let held : c.from-2.result ≡ c.args.self.now.held = search rules in
    rw (← q, ← r, ← slots, ← blocks, ← held) (named_more _ _ _ (codes "q ") (decimal c.from-q.result) _ 32 c.send_named-5.result c.in_ok-send_named.ensures
    (named_more _ _ _ (codes "r ") (decimal c.from-r.result) _ 32 c.send_named-5.result c.in_ok-send_named-2.ensures
    (named_more _ _ _ (codes "blocks ") (decimal c.from.result) _ 32 c.send_named-5.result c.in_ok-send_named-3.ensures
    (named_more _ _ _ (codes "slots ") (decimal (64 * c.from-slots.result)) _ 32 c.send_named-5.result c.in_ok-send_named-4.ensures
    c.send_named-5.ensures))))
