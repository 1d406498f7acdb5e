-- What a method over a tree shows.
use Rattle.std.specs.Prelude.{◌≡◌, ◌⊎◌, ℕ, ◌<◌, ◌≤◌, length, Option, Some, IfSome, option_map}
use Rattle.acq_base.specs.Mirror.{MirrorMap}
use Rattle.acq_base.specs.declared.fetch.NotServed.TheVariants as nots
use Rattle.acq_outside.specs.Count.{Rose}
use Rattle.acq_outside.specs.Frame.{FetchesBy}
use Rattle.acq_outside.specs.Tree.{TreeFiles, file_at}
use Rattle.acq_outside.specs.declared.tree.Tree.{Ghosts}
use Rattle.acq_outside.specs.declared.word.Fetch.{Fetch}
use Rattle.acq_outside.specs.declared.word.Word.{Word}
use Rattle.acq_outside.specs.declared.word.Word.TheVariants.{Piece, Done, Not, NoMemory}
use Rattle.file_method.specs.TreeMirror.{file_uri, mirror_of}

pub record FileState (T : Type 0) : Type 0 where
  pub tree : T
  pub faults : ℕ
  -- how many fetches were begun
  pub begins : ℕ
  pub under : Option Fetch
  -- the length of the file of the fetch under way, as the tree gave it when that fetch began
  pub size : ℕ

-- it tells its mirror where its tree tells the files
abbrev pub world_of : Option TreeFiles → Option MirrorMap
world_of files = option_map mirror_of files

-- a fetch of a file of this length, which is within its job's limit and longer than what the job leaves out, if it leaves
-- out any
pub record IsFetchOf (files : Option TreeFiles) (size : ℕ) (fetch : Fetch) : Type 0 where
  pub uri : fetch.job.uri ≡ file_uri fetch.job.uri.path
  pub within : fetch.at ≤ size
  pub small : size ≤ fetch.job.max
  pub begins : (fetch.job.from ≡ 0) ⊎ (fetch.job.from < size)
  pub told : IfSome files (λ all. option_map length (file_at all fetch.job.uri.path) ≡ Some size)

-- how often the tree failed: a fault comes exactly where its count rose
abbrev pub CountsFault : ℕ → ℕ → Word → Type 0
CountsFault before after (Not (nots.Fault told_before told_after)) = Rose before after
CountsFault before after (Piece place bytes) = after ≡ before
CountsFault before after (Done size) = after ≡ before
CountsFault before after (Not (nots.Moved place)) = after ≡ before
CountsFault before after (Not (nots.Absent status)) = after ≡ before
CountsFault before after (Not nots.TooBig) = after ≡ before
CountsFault before after (Not (nots.Garbled at)) = after ≡ before
CountsFault before after NoMemory = after ≡ before

-- how often it failed
abbrev pub faults_of : {T : Type 0} → FileState T → ℕ
faults_of method = method.faults

-- how many fetches were begun
abbrev pub begins_of : {T : Type 0} → FileState T → ℕ
begins_of method = method.begins

-- the mirror that it tells
abbrev pub told_mirror : {T : Type 0} → Ghosts T → FileState T → Option MirrorMap
told_mirror g method = world_of (g.files method.tree)

-- The frame of a call: that of any method; and the tree's files stay, its count never falls, and it rose exactly where the
-- word is a fault.
pub record FetchesOver {T : Type 0} (g : Ghosts T) (old new : FileState T) (word : Word) : Type 0 where
  pub fetches : FetchesBy faults_of (told_mirror g) old new
  pub open fetches use *
  pub files : g.files new.tree ≡ g.files old.tree
  pub tree_count : g.faults old.tree ≤ g.faults new.tree
  pub tree_fault : CountsFault (g.faults old.tree) (g.faults new.tree) word

-- the same of a call that leaves the count of fetches
pub record GoesOnOver {T : Type 0} (g : Ghosts T) (old new : FileState T) (word : Word) : Type 0 where
  pub over : FetchesOver g old new word
  pub open over use *
  pub begins : new.begins ≡ old.begins
