-- The calls of a replay on the way: those performed stand beside their answers, and the others as they were.
use Rattle.std.proofs.Common.{◌≡◌, ℕ, ◌+◌, ◌<◌, ◌≤◌, List, [], ◌∷◌, ◌++◌, map, length, get_or, set, take, drop, Some, sym, refl, ap, ◌∙◌, add-one, drop-cons, append_assoc, take_all, length-append}
use Rattle.std.proofs.lemmas.List.{take_more, map-append, append-nil, length-map, drop_all}
use Rattle.std.proofs.Math.Seq.{set-append_seam, get_or-append_seam}
use Rattle.history.specs.History.{Event, History}
use Rattle.history.specs.Rules.{Answer}
use Rattle.history.specs.declared.call.Call.{Call}
use Rattle.book.specs.Reached.{State, Reached}
use Rattle.replay.specs.Replays.{call_of, Replayed}

pub record Going {K V : Type 0} (bytes : K → List ℕ) (start now : State K V) (before calls : List (Call K V)) (i : ℕ) : Type 0 where
  pub history : History K V
  pub count : length history ≡ i
  pub operations : map (λ e. e.0) history ≡ map (λ c. c.operation) (take i before)
  pub answers : calls ≡ map call_of history ++ drop i before
  pub reached : Reached bytes start now history

module _ {K V : Type 0} (bytes : K → List ℕ) (start : State K V) (before : List (Call K V)) where
  module _ (now : State K V) (calls : List (Call K V)) (i : ℕ) (g : Going bytes start now before calls i) where
    -- one call more
    pub going_on : (now' : State K V) (d : Call K V) (a : Answer V) → i < length before → Reached bytes start now' (g.history ++ ((get_or calls i d).operation, a) ∷ [])
        → Going bytes start now' before (set calls i (record { operation = (get_or calls i d).operation; answer = Some a })) (i + 1)
    going_on now' d a l r =
        let done = map call_of g.history in
        let rest = drop (i + 1) before in
        let x = get_or calls i d in
        let y = get_or before i d in
        let e : Event K V = (x.operation, a) in
        let head : drop i before ≡ y ∷ rest = rw (add-one, drop-cons before i d) in
        let split : calls ≡ done ++ y ∷ rest = g.answers ∙ ap (λ l. done ++ l) head in
        let len : i ≡ length done = sym (length-map g.history call_of ∙ g.count) in
        let read : x ≡ y = ap (λ l. get_or l i d) split ∙ ap (λ n. get_or (done ++ y ∷ rest) n d) len ∙ get_or-append_seam done y rest d in
        record {
          history = g.history ++ e ∷ [];
          count = simp (length-append, g.count) refl;
          operations =
              map-append (λ (e : Event K V). e.0) g.history (e ∷ []) ∙ ap (λ l. l ++ x.operation ∷ []) g.operations
              ∙ ap (λ (z : Call K V). map (λ (c : Call K V). c.operation) (take i before) ++ z.operation ∷ []) read
              ∙ sym (ap (map (λ (c : Call K V). c.operation)) (take_more before i d l) ∙ map-append (λ (c : Call K V). c.operation) (take i before) (y ∷ []));
          answers =
              ap (λ l. set l i (call_of e)) split ∙ ap (λ n. set (done ++ y ∷ rest) n (call_of e)) len ∙ set-append_seam done y rest (call_of e)
              ∙ sym (ap (λ l. l ++ rest) (map-append call_of g.history (e ∷ [])) ∙ append_assoc done (call_of e ∷ []) rest);
          reached = r;
        }

    -- all calls
    pub going_all : length before ≤ i → Replayed bytes start now before calls
    going_all l =
        record {
          history = g.history;
          operations = g.operations ∙ ap (map (λ c. c.operation)) (take_all i before l);
          answers = g.answers ∙ ap (λ l. map call_of g.history ++ l) (drop_all i before l) ∙ append-nil (map call_of g.history);
          reached = g.reached;
        }
