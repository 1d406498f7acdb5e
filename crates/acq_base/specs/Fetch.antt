-- What makes a job, an answer, a reply and a mirror sound: every URI in them is one that the readers give.
use Rattle.std.specs.Prelude.{◌≢◌, Option, Some, None, All, AllPairs}
use Rattle.acq_base.specs.declared.fetch.Answer.{Answer}
use Rattle.acq_base.specs.declared.fetch.Answer.TheVariants.{Moved}
use Rattle.acq_base.specs.declared.fetch.Reply.{Reply}
use Rattle.acq_base.specs.declared.fetch.NotServed.TheVariants as nots
use Rattle.acq_base.specs.declared.fetch.Reply.TheVariants as replies
use Rattle.acq_base.specs.declared.fetch.Mirror.{Mirror}
use Rattle.acq_base.specs.declared.uri.Uri.{Uri}
use Rattle.acq_base.specs.Uri.{IsSound as IsSoundUri}

-- a place that is no URI of this profile is none, and any other is sound
abbrev pub IsSoundPlace : Option Uri → Type 0
IsSoundPlace None = Unit {0}
IsSoundPlace (Some uri) = IsSoundUri uri

abbrev pub IsSoundAnswer : Answer → Type 0
IsSoundAnswer (Moved place) = IsSoundPlace place
IsSoundAnswer _ = Unit {0}

abbrev pub IsSoundReply : Reply → Type 0
IsSoundReply (replies.Not (nots.Moved place)) = IsSoundPlace place
IsSoundReply _ = Unit {0}

-- a mirror has one answer for a URI
pub record IsSoundMirror (mirror : Mirror) : Type 0 where
  pub distinct : AllPairs (λ a b. a.0 ≢ b.0) mirror.rows
  pub uris : All (λ row. IsSoundUri row.0) mirror.rows
  pub answers : All (λ row. IsSoundAnswer row.1) mirror.rows
