-- The words after a history, by the current keys alone.
use Rattle.std.proofs.Common.{◌≡◌, ℕ, List, map, take, drop, sym, ap, ◌∙◌, subst₂}
use Rattle.layout.specs.Rule.{one_if}
use Rattle.layout.specs.Format.{filter_words}
use Rattle.filter.specs.Cuts.{cut_to}
use Rattle.filter.specs.Meaning.{size_of}
use Rattle.filter.specs.Filters.{words_of}
use Rattle.filter.specs.declared.plan.Plan.{Plan}
use Rattle.filter.proofs.Held.{front}
use Rattle.tables.specs.Rows.{keys_of}
use Rattle.tables.specs.Meaning.{value_in}
use Rattle.history.specs.History.{Current}
use Rattle.replay.specs.Alone.{WordsAlone}

pub words_alone : {K : Type 0} (V : Type 0) (bytes : K → List ℕ) → WordsAlone V bytes
words_alone {K} V bytes start now start' now' h h' en ep eb r r' same =
    let ks = keys_of now.table.rows in
    let f = start.filter in
    let f' = start'.filter in
    let other : Current bytes (value_in bytes now'.table) ks = λ k. r.keys k ∙ ap one_if (sym (same k)) in
    let cut = λ (n : K → ℕ) (p : Plan). map (λ k. cut_to p (n k)) ks in
    let one = ap (take (size_of f.plan.r f.blocks)) (r.words ks r.keys) ∙ front f.plan.r f.blocks (cut start.number f.plan) (drop (size_of f.plan.r f.blocks) (words_of f)) in
    let two = ap (take (size_of f'.plan.r f'.blocks)) (r'.words ks other) ∙ front f'.plan.r f'.blocks (cut start'.number f'.plan) (drop (size_of f'.plan.r f'.blocks) (words_of f')) in
    subst₂ (λ (p : Plan) (b : ℕ). take (size_of p.r b) (words_of now'.filter) ≡ filter_words p.r b (cut start.number p)) ep eb
    (two ∙ ap (λ n. filter_words f'.plan.r f'.blocks (cut n f'.plan)) en) ∙ sym one
