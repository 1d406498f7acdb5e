-- What is said on a connection that is served, and on all of them.
use Rattle.std.specs.Prelude.{◌≡◌, ◌⊎◌, ℕ, Bool, true, false, List, [], ◌∷◌, length, drop, Option, Some, option_map}
use Rattle.httparse.specs.Grammar.{RequestHead}
use Rattle.acq_outside.specs.Tree.{TreeFiles}
use Rattle.acq_net.specs.Talk.{Talk, silent}
use Rattle.tree_serve.specs.Streams.{Answered, CutResponses, Responses}

-- Where the tree tells its files, and the port what was said: a connection was accepted, and this holds of the files and of
-- what was said on the latest one.
pub record WhereTold (told : Option TreeFiles) (talks : Option (List Talk)) (P : TreeFiles → Talk → Type 0) : Type 0 where
  pub holds : (files : TreeFiles) (list : List Talk) → told ≡ Some files → talks ≡ Some list → (talk : Talk) × (others : List Talk) × (list ≡ talk ∷ others) × P files talk

-- what was said on the connections before the latest one
abbrev pub others_of : Option (List Talk) → Option (List Talk)
others_of talks = option_map (drop 1) talks

-- nothing was said on the latest connection, if there is one
abbrev pub IsFresh : List Talk → Type 0
IsFresh [] = ⊥
IsFresh (talk ∷ others) = talk ≡ silent

-- So far so many requests were answered, which left the connection open, and its end wasn't heard. These bytes were received
-- behind them.
pub record Goes (root : List ℕ) (done : ℕ) (rest : List ℕ) (files : TreeFiles) (talk : Talk) : Type 0 where
  pub heads : List RequestHead
  pub answered : Answered files root 1 heads talk.received talk.sent rest
  pub done_is : done ≡ length heads
  pub unended : talk.ended ≡ false

-- All that was received was answered by so many responses, and nothing more: the peer has ended, or the last closes.
pub record IsServed (root : List ℕ) (count : ℕ) (files : TreeFiles) (talk : Talk) : Type 0 where
  pub last : Bool
  pub responses : Responses files root talk.received talk.sent count last
  pub over : (last ≡ true) ⊎ (talk.ended ≡ true)

-- what was sent is a part of what that would be, from its beginning on
abbrev pub IsCut : List ℕ → TreeFiles → Talk → Type 0
IsCut root files talk = CutResponses files root talk.received talk.sent
