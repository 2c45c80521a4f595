use Rattle.std.proofs.Common.{◌≡◌, ℕ, ◌+◌, ◌<◌, List, [], ◌∷◌, ◌++◌, map, length, get_or, take, take_all, refl, sym, ap, ◌∙◌, arith}
use Rattle.std.proofs.lemmas.List.{map-append, take_more, append_assoc}
use Rattle.std.proofs.lemmas.Grind.{flat_map-append}
use Rattle.history.specs.Rules.{Answer}
use Rattle.history.specs.History.{History, Event}
use Rattle.history.specs.declared.operation.Operation.{Operation}
use Rattle.history.specs.declared.operation.Operation.TheVariants.{Put, Drop, Find}
use Rattle.book.specs.Reached.{state}
use Rattle.booktrial.specs.Client.{asked_of_each, TriedEach}
use Rattle.booktrial.proofs.client.try_each.Goals as goal

module _ {K V : Type 0} (value : V) where
  -- one key more
  one_key : (h : History K V) (keys : List K) (i : ℕ) (k : K) (a b c : Answer V) → i < length keys → k ≡ get_or keys i k
      → map (λ e. e.0) h ≡ asked_of_each value (take i keys)
      → map (λ e. e.0) (((h ++ (Put k value, a) ∷ []) ++ (Find k, b) ∷ []) ++ (Drop k, c) ∷ []) ≡ asked_of_each value (take (i + 1) keys)
  one_key h keys i k a b c l is e =
      let each : K → List (Operation K V) = λ key. Put key value ∷ Find key ∷ Drop key ∷ [] in
      let front : take (i + 1) keys ≡ take i keys ++ k ∷ [] = take_more keys i k l ∙ ap (λ x. take i keys ++ x ∷ []) (sym is) in
      let left : map (λ e. e.0) (((h ++ (Put k value, a) ∷ []) ++ (Find k, b) ∷ []) ++ (Drop k, c) ∷ []) ≡ map (λ e. e.0) h ++ each k = simp (map-append, append_assoc) in
      let right : asked_of_each value (take (i + 1) keys) ≡ asked_of_each value (take i keys) ++ each k =
      ap (asked_of_each value) front ∙ flat_map-append each (take i keys) (k ∷ []) in
      left ∙ ap (λ asked. asked ++ each k) e ∙ sym right

pub loop-key-init : goal.loop-key-init
loop-key-init g c = record {
  sound = c.requires;
  tried = record { history = []; operations = refl; reached = c.in_ok-open.ensures.law };
}

-- put, find and drop, one after the other
pub loop-key-preserved : goal.loop-key-preserved
loop-key-preserved g c =
    let start = state g.X.Table.meaning g.P.Fingerprint.number c.args.book.now in
    let t = c.loop-key.invariant.tried in
    record {
      sound = c.drop.ensures.sound;
      tried = record {
        history = _;
        operations = one_key c.args.value t.history c.args.keys.now c.loop-key.key-index c.key-item.result _ _ _ c.loop-key-test.true c.key-item.is t.operations;
        reached = c.drop.ensures.law start _ (c.find.ensures.law start _ (c.put.ensures.law start t.history t.reached));
      };
    }

pub returns : goal.returns
returns g c =
    let t = c.loop-key.invariant.tried in
    record {
      history = t.history;
      operations = t.operations ∙ ap (asked_of_each c.args.value) (take_all c.loop-key.key-index c.args.keys.now c.loop-key-test.false);
      reached = t.reached;
    }
