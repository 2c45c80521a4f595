-- Why a list is a proper table: a proof, for the table's ghost member; nothing else has to be read here.
use Rattle.std.specs.Prelude.{◌≡◌, ℕ, ◌-◌, ◌≤◌, List, length, take, replicate, None, refl}
use Rattle.std.proofs.Common.{arith}
use Rattle.std.proofs.lemmas.List.{length-append, length-map, length-take-le, length-replicate}
use Rattle.tables.specs.declared.record.Record.{Record}
use Rattle.tables.specs.Rows.{record_count, Apart}
use Rattle.tables.specs.Meaning.{Proper}
use Rattle.tables.proofs.Counts.{count_held, count_free}
use Rattle.listtable.specs.Lists.{list_capacity, places_of, list_meaning}

pub length_places : {R : Type 0} (held : ℕ) (rs : List R) → held ≤ list_capacity (length rs) → length (places_of held rs) ≡ list_capacity (length rs)
unfolding places_of
length_places held rs h = simp (length-append, length-map, length-replicate) (let t = length-take-le held rs (omega arith) in omega arith)

pub count_places : {R : Type 0} (held : ℕ) (rs : List R) → held ≤ list_capacity (length rs) → record_count (places_of held rs) ≡ held
unfolding places_of
count_places {R} held rs h =
    let t = length-take-le held rs (omega arith) in
    let c = count_held (take held rs) (replicate (list_capacity (length rs) - held) None) in
    let z = count_free R (list_capacity (length rs) - held) in
    omega arith

pub proper_list : {K V : Type 0} (held : ℕ) (rs : List (Record K V)) → held ≤ list_capacity (length rs) → Apart (places_of held rs) → Proper (list_meaning held rs)
proper_list held rs h once =
    let n = length_places held rs h in
    let c = count_places held rs h in
    record { once = once; within = omega arith; admitted = λ i r e. refl; few = omega arith }
