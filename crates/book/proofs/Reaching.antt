-- The law of an opened book: at the opening, and one event more.
use Rattle.std.proofs.Common.{◌≡◌, ℕ, List, [], ◌∷◌, ◌++◌, map, Ok, Err, Result, sym, refl, ap, ◌∙◌, subst}
use Rattle.layout.specs.Rule.{Roomy}
use Rattle.layout.proofs.Bounds.{empty_law}
use Rattle.filter.specs.Cuts.{cut_to}
use Rattle.filter.specs.Filters.{SameFilter, slots_of}
use Rattle.filter.specs.declared.filter.Filter.{Filter}
use Rattle.tables.specs.Rows.{keys_of, Apart}
use Rattle.tables.specs.Meaning.{Meaning, SameFrame, value_in}
use Rattle.tables.proofs.Changes.{same_frame}
use Rattle.history.specs.Rules.{PutRule, DropRule, FindRule, Answer, Rule}
use Rattle.history.specs.History.{History, Follows, Lawful, put_event, drop_event, find_event}
use Rattle.history.specs.declared.operation.Operation.{Operation}
use Rattle.history.specs.declared.operation.Operation.TheVariants.{Put, Drop, Find}
use Rattle.history.specs.declared.answer.Stored.{Stored}
use Rattle.history.specs.declared.answer.Found.{Found}
use Rattle.history.specs.declared.answer.Told.TheVariants as told
use Rattle.history.specs.declared.fault.BookFault.{BookFault}
use Rattle.history.proofs.Rolls.{current_keys}
use Rattle.history.proofs.Histories.{follows_none, follows_push, answered, lawful_none, lawful_push}
use Rattle.history.proofs.Laws.{law_of}
use Rattle.book.specs.Books.{terms_of, held_by, fingerprints_of, PutDone, DropDone, Opened, OperationDone}
use Rattle.book.specs.Reached.{State, state_of, Reached, EmptyIsOpen, Extends}
use Rattle.book.proofs.Holding.{Holds, holds_self, same_self, frame_then}
use Rattle.book.proofs.Turns.{step, holds_on, rule_on, words_current}

module _ {K V : Type 0} (bytes : K → List ℕ) (apart : (a b : K) → bytes a ≡ bytes b → a ≡ b) where
  module _ (start now : State K V) (h : History K V) (own : Apart now.table.rows) where
    reached : Roomy (slots_of start.filter) start.filter.plan.r (fingerprints_of start.number start.filter start.table)
        → Lawful (terms_of bytes start.number start.filter start.table) (value_in bytes start.table) h
        → Follows (value_in bytes start.table) h (value_in bytes now.table)
        → Holds start.filter now.filter (fingerprints_of start.number start.filter now.table)
        → now.number ≡ start.number → SameFrame start.table now.table → Reached bytes start now h
    reached room lawful values holds number frame =
        record {
          room = room;
          law = law_of (terms_of bytes start.number start.filter start.table) apart (value_in bytes start.table) h lawful;
          values = values;
          keys = current_keys bytes apart now.table.rows own;
          entries = holds.entries;
          words = words_current bytes apart start.number start.filter now.filter now.table own holds;
          number = number;
          filter = holds.same;
          frame = frame;
        }

  -- just opened
  pub opened : (f g : Filter) (m : Meaning K V) (number : K → ℕ) → Apart m.rows → SameFilter f g → Opened number f g m (Ok tt)
      → Reached bytes (state_of f m number) (state_of g m number) []
  opened f g m number own s d =
      reached (state_of f m number) (state_of g m number) [] own d.0 (lawful_none (terms_of bytes number f m) (value_in bytes m)) (follows_none (value_in bytes m))
      (record { same = s; entries = d.1; words = d.2 }) refl (same_frame m)

  -- a filter that holds nothing in front of a table that holds nothing needs no opening
  pub empty_is_open : EmptyIsOpen V bytes
  empty_is_open s own e none =
      let f = s.filter in
      let nothing : fingerprints_of s.number f s.table ≡ [] = ap (map (λ k. cut_to f.plan (s.number k))) none in
      reached s s [] own (subst (λ ps. Roomy (slots_of f) f.plan.r ps) (sym nothing) (empty_law (slots_of f) f.plan.r 0).0)
      (lawful_none (terms_of bytes s.number f s.table) (value_in bytes s.table)) (follows_none (value_in bytes s.table))
      (subst (λ ps. Holds f f ps) (sym nothing) (holds_self f e)) refl (same_frame s.table)

  module _ (before after : State K V) (own : Apart before.table.rows) (own' : Apart after.table.rows) (number : after.number ≡ before.number)
      (same : SameFilter before.filter after.filter) (frame : SameFrame before.table after.table) where
    -- one event more
    pub extends : (o : Operation K V) (a : Answer V) → Rule (terms_of bytes before.number before.filter before.table) (held_by bytes before.filter before.table) o a
        → OperationDone bytes before.number before.filter after.filter before.table after.table o a → Extends bytes before after (o, a)
    extends o a rule done start h r =
        let n = start.number in
        let f = start.filter in
        let m = start.table in
        let g = before.filter in
        let x = before.table in
        let answer : Rule (terms_of bytes n g x) (held_by bytes g x) o a = subst (λ k. Rule (terms_of bytes k g x) (held_by bytes g x) o a) r.number rule in
        let did : OperationDone bytes n g after.filter x after.table o a = subst (λ k. OperationDone bytes k g after.filter x after.table o a) r.number done in
        let holds : Holds f g (fingerprints_of n f x) = record { same = r.filter; entries = r.entries; words = r.words (keys_of x.rows) r.keys } in
        let t = terms_of bytes n f m in
        let opening = value_in bytes m in
        reached start after (h ++ (o, a) ∷ []) own' r.room
        (lawful_push t opening h o a r.law.answers
        (answered t apart opening h (value_in bytes x) (keys_of x.rows) o a r.values r.keys
        (rule_on bytes apart n f m g after.filter x after.table own own' holds o a r.frame answer)))
        (follows_push opening h (o, a) (value_in bytes x) (value_in bytes after.table) r.values (step bytes apart n g after.filter x after.table o a did))
        (holds_on bytes apart n f m g after.filter x after.table own own' holds o a same answer did)
        (number ∙ r.number) (frame_then m x after.table r.frame frame)

    pub put_extends : (k : K) (v : V) (r : Result Stored BookFault) → PutRule (terms_of bytes before.number before.filter before.table) (held_by bytes before.filter before.table) k r
        → PutDone bytes before.number before.filter after.filter before.table after.table k v r → Extends bytes before after (put_event k v r)
    put_extends k v (Ok s) rule done = extends (Put k v) (Ok (told.Stored s)) rule done
    put_extends k v (Err e) rule done = extends (Put k v) (Err e) rule done

    pub drop_extends : (k : K) (r : Result (Unit {0}) BookFault) → DropRule (terms_of bytes before.number before.filter before.table) (held_by bytes before.filter before.table) k r
        → DropDone bytes before.number before.filter after.filter before.table after.table k r → Extends bytes before after (drop_event k r)
    drop_extends k (Ok done) rule d = extends (Drop k) (Ok told.Dropped) rule d
    drop_extends k (Err e) rule d = extends (Drop k) (Err e) rule d

  -- a refusal that leaves all as it was
  module _ (s : State K V) (own : Apart s.table.rows) (e : BookFault) where
    pub put_refused : (k : K) (v : V) → PutRule (terms_of bytes s.number s.filter s.table) (held_by bytes s.filter s.table) k (Err e) → Extends bytes s s (put_event k v (Err e))
    put_refused k v rule = put_extends s s own own refl (same_self s.filter) (same_frame s.table) k v (Err e) rule (refl, refl)

    pub drop_refused : (k : K) → DropRule (terms_of bytes s.number s.filter s.table) (held_by bytes s.filter s.table) k (Err e) → Extends bytes s s (drop_event k (Err e))
    drop_refused k rule = drop_extends s s own own refl (same_self s.filter) (same_frame s.table) k (Err e) rule (refl, refl)

  pub find_extends : (s : State K V) → Apart s.table.rows → (k : K) (v : Found V) → FindRule (terms_of bytes s.number s.filter s.table) (held_by bytes s.filter s.table) k v
      → Extends bytes s s (find_event k v)
  find_extends s own k v rule = extends s s own own refl (same_self s.filter) (same_frame s.table) (Find k) (Ok (told.Found v)) rule (refl, refl)
