-- What a method for both schemes shows.
use Rattle.std.specs.Prelude.{◌≡◌, ℕ, ◌==◌, Bool, true, false, if◌then◌else◌, [], ◌∷◌, ◌++◌, Option, Some, None, IfSome}
use Rattle.acq_base.specs.declared.fetch.NotServed.TheVariants as nots
use Rattle.acq_base.specs.declared.uri.Scheme.{Scheme}
use Rattle.acq_base.specs.declared.uri.Scheme.TheVariants.{Http, File}
use Rattle.acq_base.specs.Mirror.{MirrorMap}
use Rattle.acq_base.specs.Uri.{scheme_index}
use Rattle.acq_outside.specs.Count.{one_more}
use Rattle.acq_outside.specs.declared.method.Method.{Ghosts}
use Rattle.acq_outside.specs.declared.word.Fetch.{Fetch}
use Rattle.acq_outside.specs.declared.word.Word.{Word}
use Rattle.acq_outside.specs.declared.word.Word.TheVariants.{Not}
use Rattle.acq_outside.specs.Word.{IsWord}

pub record BothState (F H : Type 0) : Type 0 where
  pub files : F
  pub peers : H
  pub faults : ℕ
  -- how many fetches were begun
  pub begins : ℕ
  -- the scheme of the last fetch
  pub turn : Option Scheme

-- what is under way is so in the method that was asked last
abbrev pub under_of : Option Scheme → Option Fetch → Option Fetch → Option Fetch
under_of None files peers = None
under_of (Some File) files peers = files
under_of (Some Http) files peers = peers

-- what is under way is a fetch of the last scheme
abbrev pub IsTurn : Option Scheme → Option Fetch → Option Fetch → Type 0
IsTurn turn files peers = IfSome (under_of turn files peers) (λ fetch. turn ≡ Some fetch.job.uri.scheme)

-- a mirror's answers to URIs of one scheme
abbrev pub entries_of : Scheme → MirrorMap → MirrorMap
entries_of scheme [] = []
entries_of scheme (entry ∷ entries) = if scheme_index entry.0.scheme == scheme_index scheme then entry ∷ entries_of scheme entries else entries_of scheme entries

-- both mirrors together, where both are told: each for its own scheme
abbrev pub joined : Option MirrorMap → Option MirrorMap → Option MirrorMap
joined None peers = None
joined (Some files) None = None
joined (Some files) (Some peers) = Some (entries_of File files ++ entries_of Http peers)

abbrev pub is_fault : Word → Bool
is_fault (Not (nots.Fault before after)) = true
is_fault word = false

-- a fault tells the counts of the method that says it
abbrev pub own_word : ℕ → ℕ → Word → Word
own_word before after (Not (nots.Fault their_before their_after)) = Not (nots.Fault before after)
own_word before after word = word

abbrev pub own_count : ℕ → Word → ℕ
own_count count word = if is_fault word then one_more count else count

-- It is the word of the one that was asked, whose counts were these, but that a fault tells one's own count, which rose.
pub record IsTheirs (their_before their_after : ℕ) (world : Option MirrorMap) (fetch : Fetch) (under : Option Fetch) (before after : ℕ) (word : Word) : Type 0 where
  pub their : Word
  pub is : IsWord their_before their_after world fetch under their
  pub same : word ≡ own_word before after their
  pub counted : after ≡ own_count before their

-- how often it failed
abbrev pub faults_of : {F H : Type 0} → BothState F H → ℕ
faults_of method = method.faults

-- how many fetches were begun
abbrev pub begins_of : {F H : Type 0} → BothState F H → ℕ
begins_of method = method.begins

-- ---- over the two methods

-- the mirror that is told
abbrev pub world_of : {F H : Type 0} → Ghosts F → Ghosts H → BothState F H → Option MirrorMap
world_of f h method = joined (f.world method.files) (h.world method.peers)

-- the fetch under way
abbrev pub fetch_of : {F H : Type 0} → Ghosts F → Ghosts H → BothState F H → Option Fetch
fetch_of f h method = under_of method.turn (f.under method.files) (h.under method.peers)

-- a word to a fetch, told of both mirrors
abbrev pub IsBothWord : {F H : Type 0} → Ghosts F → Ghosts H → BothState F H → BothState F H → Fetch → Word → Type 0
IsBothWord f h before after fetch word = IsWord before.faults after.faults (world_of f h before) fetch (fetch_of f h after) word

-- the word of the method for `file` URIs, whose fault tells the count of the method of two
abbrev pub IsFilesWord : {F H : Type 0} → Ghosts F → BothState F H → BothState F H → Fetch → Word → Type 0
IsFilesWord f before after fetch word =
    IsTheirs (f.faults before.files) (f.faults after.files) (f.world before.files) fetch (f.under after.files) before.faults after.faults word

-- the word of the method for `http` URIs
abbrev pub IsPeersWord : {F H : Type 0} → Ghosts H → BothState F H → BothState F H → Fetch → Word → Type 0
IsPeersWord h before after fetch word =
    IsTheirs (h.faults before.peers) (h.faults after.peers) (h.world before.peers) fetch (h.under after.peers) before.faults after.faults word
