-- A book that began empty: its law, by what was asked of it and what it answered alone.
use Rattle.std.specs.Prelude.{◌≡◌, ℕ, List, map, length, Option}
use Rattle.layout.specs.Format.{filter_words, block_count}
use Rattle.filter.specs.Filters.{words_of}
use Rattle.filter.specs.declared.plan.Plan.{Plan}
use Rattle.tables.specs.Meaning.{Meaning}
use Rattle.history.specs.Beginnings.{nothing}
use Rattle.history.specs.History.{History, Follows, Current}
use Rattle.history.specs.Law.{Law}
use Rattle.history.specs.Rules.{Terms}
use Rattle.history.specs.declared.call.Call.{Call}
use Rattle.batch.specs.Batches.{operations}
use Rattle.book.specs.Reached.{State}
use Rattle.replay.specs.Replays.{call_of, Replayed}

-- What holds of a book that held nothing and performed this history, of how many keys it then holds, and of the words of its filter's blocks.
pub record BeganEmpty {K V : Type 0} (t : Terms K) (blocks : ℕ) (h : History K V) (held : ℕ) (words : List ℕ) : Type 0 where
  -- every answer is the one due
  pub law : Law t nothing h
  -- each key has what its last accepted put or drop gave
  pub value : K → Option V
  pub follows : Follows nothing h value
  -- the current keys can be listed, each once, and they are so many
  pub keys : List K
  pub current : Current t.bytes value keys
  pub counted : held ≡ length keys
  -- the words are those laid out from nothing with the fingerprints of the current keys, one for each key, however they are listed
  pub laid : (ks : List K) → Current t.bytes value ks → words ≡ filter_words t.plan.r blocks (map t.fingerprint ks)

-- Such a book performed the operations of the calls in order, and each stands with its answer beside it.
pub record BookPerformed {K V : Type 0} (t : Terms K) (blocks : ℕ) (before after : List (Call K V)) (held : ℕ) (words : List ℕ) : Type 0 where
  pub history : History K V
  pub asked : map (λ e. e.0) history ≡ operations before
  pub answered : after ≡ map call_of history
  pub begun : BeganEmpty t blocks history held words

-- Calls were performed on a book over a table that was m and became n, with a filter over words that became words'.
pub record PerformedOn {K V : Type 0} (bytes : K → List ℕ) (number : K → ℕ) (plan : Plan) (words words' : List ℕ) (m n : Meaning K V) (before after : List (Call K V)) : Type 0 where
  pub start : State K V
  pub begins : (start.filter.plan ≡ plan) × (start.filter.blocks ≡ block_count plan.r (length words)) × (start.table ≡ m) × (start.number ≡ number)
  pub now : State K V
  pub ends : (words' ≡ words_of now.filter) × (n ≡ now.table)
  pub replayed : Replayed bytes start now before after
