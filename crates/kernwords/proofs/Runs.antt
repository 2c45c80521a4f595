-- From the law of a replay to what a book over fresh words did.
use Rattle.std.proofs.Common.{◌≡◌, ℕ, ◌+◌, ◌<◌, ◌≤◌, List, map, length, take, drop, Option, sym, ap, ◌∙◌, subst, subst₂, mul-div_cancel, arith}
use Rattle.layout.specs.Format.{filter_words, block_count}
use Rattle.filter.specs.Cuts.{cut_to}
use Rattle.filter.specs.Meaning.{size_of}
use Rattle.filter.specs.Filters.{words_of, laid_over}
use Rattle.filter.specs.declared.plan.Plan.{Plan}
use Rattle.filter.proofs.Held.{front}
use Rattle.tables.proofs.Lookups.{lookup_none}
use Rattle.tables.specs.Rows.{keys_of}
use Rattle.tables.specs.Meaning.{Meaning, value_in, key_count}
use Rattle.listtable.specs.Lists.{empty_list}
use Rattle.history.specs.Beginnings.{nothing, list_terms}
use Rattle.history.specs.History.{Follows}
use Rattle.history.specs.Law.{Law}
use Rattle.history.specs.declared.call.Call.{Call}
use Rattle.history.proofs.Rolls.{length_keys}
use Rattle.book.specs.Books.{terms_of}
use Rattle.kernwords.specs.Books.{PerformedOn, BookPerformed}

-- what a book over an empty list did
pub performed : {K V : Type 0} (bytes : K → List ℕ) (number : K → ℕ) (plan : Plan) (words ws : List ℕ) (capacity held : ℕ) (m n : Meaning K V) (before after : List (Call K V))
    → m ≡ empty_list capacity → held ≡ key_count n → PerformedOn bytes number plan words ws m n before after
    → BookPerformed (list_terms bytes number plan (block_count plan.r (length words)) capacity) (block_count plan.r (length words)) before after held
    (take (size_of plan.r (block_count plan.r (length words))) ws)
performed {K} {V} bytes number plan words ws capacity held m n before after empty as_many d =
    let blocks = block_count plan.r (length words) in
    let start = d.start in
    let now = d.now in
    let f = start.filter in
    let r = d.replayed.reached in
    let over : start.table ≡ empty_list capacity = d.begins.2 ∙ empty in
    let opening : value_in bytes start.table ≡ nothing = ap (λ (x : Meaning K V). value_in bytes x) over ∙ (λ i k. lookup_none V bytes capacity k i) in
    let terms : terms_of bytes start.number f start.table ≡ list_terms bytes number plan blocks capacity =
    ap (λ (x : Meaning K V). terms_of bytes start.number f x) over
    ∙ ap (λ (p : Plan). list_terms bytes start.number p f.blocks capacity) d.begins.0
    ∙ ap (λ b. list_terms bytes start.number plan b capacity) d.begins.1
    ∙ ap (λ (q : K → ℕ). list_terms bytes q plan blocks capacity) d.begins.3 in
    let marks = λ (q : K → ℕ) (p : Plan) (ks : List K). map (λ k. cut_to p (q k)) ks in
    let laid : (q : K → ℕ) → q ≡ number → (ks : List K) → words_of now.filter ≡ laid_over f.plan.r f.blocks (marks q f.plan ks) (words_of f)
    → take (size_of plan.r blocks) ws ≡ filter_words plan.r blocks (marks number plan ks) = λ q e ks l.
    subst (λ (q : K → ℕ). take (size_of plan.r blocks) ws ≡ filter_words plan.r blocks (marks q plan ks)) e
    (subst₂ (λ (p : Plan) (b : ℕ). take (size_of p.r b) ws ≡ filter_words p.r b (marks q p ks)) d.begins.0 d.begins.1
    (ap (take (size_of f.plan.r f.blocks)) (d.ends.0 ∙ l) ∙ front f.plan.r f.blocks (marks q f.plan ks) (drop (size_of f.plan.r f.blocks) (words_of f)))) in
    record {
      history = d.replayed.history;
      asked = d.replayed.operations;
      answered = d.replayed.answers;
      begun = record {
        law = subst₂ (λ t (v : K → Option V). Law t v d.replayed.history) terms opening r.law;
        value = value_in bytes now.table;
        follows = subst (λ (v : K → Option V). Follows v d.replayed.history (value_in bytes now.table)) opening r.values;
        keys = keys_of now.table.rows;
        current = r.keys;
        counted = as_many ∙ ap key_count d.ends.1 ∙ sym (length_keys now.table.rows);
        laid = λ ks c. laid start.number d.begins.3 ks (r.words ks c);
      };
    }

-- words for just that many blocks
pub blocks_exact : (r blocks : ℕ) → blocks ≤ 16640 → block_count r (size_of r blocks) ≡ blocks
blocks_exact r blocks few =
    let size : 0 < r + 3 = omega arith in
    omega (arith, mul-div_cancel blocks size)

-- the same book, its sizes written otherwise
pub resized : {K V : Type 0} (bytes : K → List ℕ) (number : K → ℕ) (plan : Plan) (before after : List (Call K V)) (held blocks blocks' capacity capacity' : ℕ) (ws ws' : List ℕ)
    → blocks ≡ blocks' → capacity ≡ capacity' → ws ≡ ws'
    → BookPerformed (list_terms bytes number plan blocks capacity) blocks before after held ws
    → BookPerformed (list_terms bytes number plan blocks' capacity') blocks' before after held ws'
resized bytes number plan before after held blocks blocks' capacity capacity' ws ws' eb ec ew b =
    subst (λ xs. BookPerformed (list_terms bytes number plan blocks' capacity') blocks' before after held xs) ew
    (subst₂ (λ x c. BookPerformed (list_terms bytes number plan x c) x before after held ws) eb ec b)
