-- Texts that are written one after the other.
use Rattle.std.proofs.Common.{◌≡◌, ℕ, ◌+◌, ◌<◌, List, [], ◌∷◌, ◌++◌, take, drop, length, get_or, flat_map, Some, None, Option, Ok, Err, Result, sym, ap, subst, ◌∙◌, append-nil, append_assoc}
use Rattle.std.proofs.Math.Seq.{take-append_seam}
use Rattle.std.proofs.lemmas.List.{take-append-drop, take_more, flat_map_more}
use Rattle.std.proofs.lemmas.Grind.{flat_map-append}
use Rattle.std.specs.Io.KnownBytes.{Keeps, Appends}
use Rattle.console.specs.declared.fault.Fault.{Fault}
use Rattle.console.specs.Sending.{AppendsBeginning, Sent}

pub appends_none : (o : Option (List ℕ)) → Appends o o []
appends_none None = tt
appends_none (Some xs) = sym (append-nil xs)

-- one text after the other
pub appends_more : (o p q : Option (List ℕ)) (a b : List ℕ) → Appends o p a → Appends p q b → Appends o q (a ++ b)
appends_more None p q a b s t = tt
appends_more (Some xs) None q a b s t = absurd s
appends_more (Some xs) (Some ys) None a b s t = absurd t
appends_more (Some xs) (Some ys) (Some zs) a b s t = rw (t, s, append_assoc)

-- what is kept after a text
pub appends_kept : (o p q : Option (List ℕ)) (a : List ℕ) → Appends o p a → Keeps p q → Appends o q a
appends_kept None p q a s k = tt
appends_kept (Some xs) None q a s k = absurd s
appends_kept (Some xs) (Some ys) None a s k = absurd k
appends_kept (Some xs) (Some ys) (Some zs) a s k = k ∙ s

-- what is written is a beginning of any text that goes on with it
pub begins_with : (o p : Option (List ℕ)) (a b text : List ℕ) → Appends o p a → text ≡ a ++ b → AppendsBeginning o p text
begins_with o p a b text s e = (length a, subst (λ xs. Appends o p xs) (sym (ap (take (length a)) e ∙ take-append_seam a b)) s)

-- a whole text is a beginning of itself
pub begins_whole : (o p : Option (List ℕ)) (text : List ℕ) → Appends o p text → AppendsBeginning o p text
begins_whole o p text s = begins_with o p text [] text s (sym (append-nil text))

-- a beginning of a text is one of any that goes on with it
pub begins_longer : (o p : Option (List ℕ)) (a b : List ℕ) → AppendsBeginning o p a → AppendsBeginning o p (a ++ b)
begins_longer o p a b (n, s) = begins_with o p (take n a) (drop n a ++ b) (a ++ b) s (ap (λ xs. xs ++ b) (sym (take-append-drop n a)) ∙ append_assoc (take n a) (drop n a) b)

-- a text, and then a beginning of another
pub begins_after : (o p q : Option (List ℕ)) (a b : List ℕ) → Appends o p a → AppendsBeginning p q b → AppendsBeginning o q (a ++ b)
begins_after o p q a b s (n, t) = begins_with o q (a ++ take n b) (drop n b) (a ++ b) (appends_more o p q a (take n b) s t)
    (ap (λ xs. a ++ xs) (sym (take-append-drop n b)) ∙ sym (append_assoc a (take n b) (drop n b)))

-- a text is sent after another
pub sent_after : (o p q : Option (List ℕ)) (a b : List ℕ) (result : Result (Unit {0}) Fault) → Appends o p a → Sent p q b result → Sent o q (a ++ b) result
sent_after o p q a b (Ok done) s t = appends_more o p q a b s t
sent_after o p q a b (Err fault) s (e, t) = (e, begins_after o p q a b s t)

-- a text whose first part is not sent whole
pub sent_short : (o p : Option (List ℕ)) (a b : List ℕ) (fault : Fault) → Sent o p a (Err fault) → Sent o p (a ++ b) (Err fault)
sent_short o p a b fault (e, t) = (e, begins_longer o p a b t)

-- a text is sent up to a part that is not sent whole
pub sent_part : (o p q : Option (List ℕ)) (a b c text : List ℕ) (fault : Fault) → Appends o p a → Sent p q b (Err fault) → text ≡ a ++ (b ++ c) → Sent o q text (Err fault)
sent_part o p q a b c text fault s t e =
    subst (λ xs. Sent o q xs (Err fault)) (sym e) (sent_after o p q a (b ++ c) (Err fault) s (sent_short p q b c fault t))

-- the front of a text is written, and the rest is sent
pub sent_behind : (o p q : Option (List ℕ)) (text rest : List ℕ) (n : ℕ) (result : Result (Unit {0}) Fault) → Appends o p (take n text) → rest ≡ drop n text → Sent p q rest result → Sent o q text result
sent_behind o p q text rest n result s e t =
    subst (λ xs. Sent o q xs result) (take-append-drop n text) (sent_after o p q (take n text) (drop n text) result s (subst (λ xs. Sent p q xs result) e t))

-- nothing is written, and then a text is sent
pub sent_kept : (o p q : Option (List ℕ)) (text : List ℕ) (result : Result (Unit {0}) Fault) → Keeps o p → Sent p q text result → Sent o q text result
sent_kept o p q text result k t = sent_after o p q [] text result (appends_kept o o p [] (appends_none o) k) t

-- what is written of a list, cut at the i-th of its elements
pub flat_map_at : {X : Type 0} (f : X → List ℕ) (xs : List X) (i : ℕ) (d : X) → i < length xs → flat_map f xs ≡ flat_map f (take i xs) ++ (f (get_or xs i d) ++ flat_map f (drop (i + 1) xs))
flat_map_at f xs i d h =
    ap (flat_map f) (sym (take-append-drop (i + 1) xs) ∙ ap (λ ys. ys ++ drop (i + 1) xs) (take_more xs i d h)) ∙ flat_map-append f (take i xs ++ (get_or xs i d ∷ [])) (drop (i + 1) xs)
    ∙ ap (λ ys. ys ++ flat_map f (drop (i + 1) xs)) (sym (flat_map_more f [] (take i xs) (get_or xs i d))) ∙ append_assoc (flat_map f (take i xs)) (f (get_or xs i d)) (flat_map f (drop (i + 1) xs))

-- the text is part and then rest, and part is written from o to p
abbrev pub Written : Option (List ℕ) → Option (List ℕ) → List ℕ → List ℕ → Type 0
Written o p text rest = (part : List ℕ) × (text ≡ part ++ rest) × Appends o p part

pub written_more : (o p q : Option (List ℕ)) (text rest : List ℕ) (n : ℕ) → Written o p text rest → Appends p q (take n rest) → Written o q text (drop n rest)
written_more o p q text rest n (part, e, s) t = (part ++ take n rest, e ∙ ap (λ xs. part ++ xs) (sym (take-append-drop n rest)) ∙ sym (append_assoc part (take n rest) (drop n rest)), appends_more o p q part (take n rest) s t)

pub written_kept : (o p q : Option (List ℕ)) (text rest : List ℕ) → Written o p text rest → Keeps p q → Written o q text rest
written_kept o p q text rest (part, e, s) k = (part, e, appends_kept o p q part s k)

pub written_begins : (o p : Option (List ℕ)) (text rest : List ℕ) → Written o p text rest → AppendsBeginning o p text
written_begins o p text rest (part, e, s) = begins_with o p part rest text s e

pub written_all : (o p : Option (List ℕ)) (text rest : List ℕ) → Written o p text rest → length rest ≡ 0 → Appends o p text
written_all o p text [] (part, e, s) none = subst (λ xs. Appends o p xs) (sym (e ∙ append-nil part)) s
written_all o p text (x ∷ rest) w none = absurd (cc)
