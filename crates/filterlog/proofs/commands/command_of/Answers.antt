use Rattle.std.proofs.Common.{◌≡◌, ◌^◌, ◌<◌, ◌≤◌, [], ◌∷◌, rules}
use Rattle.figures.proofs.Words.{begun}
use Rattle.filterlog.proofs.Spelling.{no_add, no_take, no_has, no_slot, wide_slot, bare_slot, renumbered}
use Rattle.filterlog.proofs.commands.command_of.Goals as goal

pub returns-in_err-natural-in-116 : goal.returns-in_err-natural-in-116
returns-in_err-natural-in-116 c =
    rw c.from_residual.ensures
    (no_take c.args.line.now _ (begun c.args.line.now (116 ∷ 97 ∷ 107 ∷ 101 ∷ 32 ∷ []) (search rules) (search rules)) c.in_err-natural-in-116.ensures)

pub returns-in_err-natural-in-115 : goal.returns-in_err-natural-in-115
returns-in_err-natural-in-115 c =
    rw c.from_residual-in_err-natural-in-115.ensures
    (no_slot c.args.line.now _ (begun c.args.line.now (115 ∷ 108 ∷ 111 ∷ 116 ∷ 32 ∷ []) (search rules) (search rules)) (bare_slot _ c.in_err-natural-in-115.ensures))

pub returns-in_err-slot-in-115 : goal.returns-in_err-slot-in-115
returns-in_err-slot-in-115 c =
    let wide : 2 ^ 32 ≤ c.in_ok-natural-in-115.field-0 = search rules in
    rw c.from_residual-in_err-slot-in-115.ensures
    (no_slot c.args.line.now _ (begun c.args.line.now (115 ∷ 108 ∷ 111 ∷ 116 ∷ 32 ∷ []) (search rules) (search rules)) (wide_slot _ _ c.in_ok-natural-in-115.ensures wide))

pub returns-in_err-natural-in-104 : goal.returns-in_err-natural-in-104
returns-in_err-natural-in-104 c =
    rw c.from_residual-in_err-natural-in-104.ensures
    (no_has c.args.line.now _ (begun c.args.line.now (104 ∷ 97 ∷ 115 ∷ 32 ∷ []) (search rules) (search rules)) c.in_err-natural-in-104.ensures)

pub returns-in_err-natural-in-97 : goal.returns-in_err-natural-in-97
returns-in_err-natural-in-97 c =
    rw c.from_residual-in_err-natural-in-97.ensures
    (no_add c.args.line.now _ (begun c.args.line.now (97 ∷ 100 ∷ 100 ∷ 32 ∷ []) (search rules) (search rules)) c.in_err-natural-in-97.ensures)

pub returns-in_ok-natural-in-116 : goal.returns-in_ok-natural-in-116
returns-in_ok-natural-in-116 c = (_, begun c.args.line.now (116 ∷ 97 ∷ 107 ∷ 101 ∷ 32 ∷ []) (search rules) (search rules), c.in_ok-natural-in-116.ensures)

pub returns-in_ok-slot-in-115 : goal.returns-in_ok-slot-in-115
returns-in_ok-slot-in-115 c =
    let same : c.in_ok-natural-in-115.field-0 ≡ c.in_ok-slot-in-115.slot = search rules in
    let low : c.in_ok-slot-in-115.slot < 2 ^ 32 = search rules in (
      (_, begun c.args.line.now (115 ∷ 108 ∷ 111 ∷ 116 ∷ 32 ∷ []) (search rules) (search rules), renumbered _ _ _ same c.in_ok-natural-in-115.ensures),
      low,
    )

pub returns-in_ok-natural-in-104 : goal.returns-in_ok-natural-in-104
returns-in_ok-natural-in-104 c = (_, begun c.args.line.now (104 ∷ 97 ∷ 115 ∷ 32 ∷ []) (search rules) (search rules), c.in_ok-natural-in-104.ensures)

pub returns-in_ok-natural-in-97 : goal.returns-in_ok-natural-in-97
returns-in_ok-natural-in-97 c = (_, begun c.args.line.now (97 ∷ 100 ∷ 100 ∷ 32 ∷ []) (search rules) (search rules), c.in_ok-natural-in-97.ensures)
