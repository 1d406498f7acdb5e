-- What a method over HTTP shows.
use Rattle.std.specs.Prelude.{◌≡◌, ◌≤◌, ℕ, Option}
use Rattle.acq_base.specs.declared.fetch.NotServed.TheVariants as nots
use Rattle.acq_base.specs.Mirror.{MirrorMap}
use Rattle.acq_outside.specs.Count.{Rose}
use Rattle.acq_outside.specs.Frame.{FetchesBy}
use Rattle.acq_outside.specs.declared.word.Word.{Word}
use Rattle.acq_outside.specs.declared.word.Word.TheVariants.{Piece, Done, Not, NoMemory}
use Rattle.acq_net.specs.declared.link.Link.{Ghosts}
use Rattle.http_method.specs.Reading.{world_of}
use Rattle.http_method.specs.declared.reading.Place.{Place}
use Rattle.http_method.specs.declared.reading.Reading.{Reading}
use Rattle.http_method.specs.declared.reading.Said.{Said}

pub record HttpState (L : Type 0) : Type 0 where
  pub link : L
  pub faults : ℕ
  -- how many fetches were begun
  pub begins : ℕ
  -- the host and port to which a connection is kept
  pub kept : Option Place
  -- the response of the fetch under way
  pub reading : Option Reading

-- a word, and what is kept behind it
abbrev pub said_of : {L : Type 0} → Word → HttpState L → Said
said_of word method = record { word = word; kept = method.kept; reading = method.reading }

-- how often the link failed: a fault comes exactly where its count rose
abbrev pub CountsFault : ℕ → ℕ → Word → Type 0
CountsFault before after (Not (nots.Fault told_before told_after)) = Rose before after
CountsFault before after (Piece place bytes) = after ≡ before
CountsFault before after (Done size) = after ≡ before
CountsFault before after (Not (nots.Moved place)) = after ≡ before
CountsFault before after (Not (nots.Absent status)) = after ≡ before
CountsFault before after (Not nots.TooBig) = after ≡ before
CountsFault before after (Not (nots.Garbled at)) = after ≡ before
CountsFault before after NoMemory = after ≡ before

-- how often it failed
abbrev pub faults_of : {L : Type 0} → HttpState L → ℕ
faults_of method = method.faults

-- how many fetches were begun
abbrev pub begins_of : {L : Type 0} → HttpState L → ℕ
begins_of method = method.begins

-- the mirror that it tells
abbrev pub told_mirror : {L : Type 0} → Ghosts L → HttpState L → Option MirrorMap
told_mirror g method = world_of (g.world method.link)

-- The frame of a call: that of any method; and the link's count never falls, and rose exactly where the word is a fault.
pub record FetchesOver {L : Type 0} (g : Ghosts L) (old new : HttpState L) (word : Word) : Type 0 where
  pub fetches : FetchesBy faults_of (told_mirror g) old new
  pub open fetches use *
  pub link_count : g.faults old.link ≤ g.faults new.link
  pub link_fault : CountsFault (g.faults old.link) (g.faults new.link) word
