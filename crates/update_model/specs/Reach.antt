-- What a mirror gives in the end, moves followed (RFC 9110, section 15.4).
use Rattle.std.specs.Prelude.{ℕ, zero, suc, nat_le, Bool, true, false, if◌then◌else◌, length, Some, None}
use Rattle.acq_base.specs.Mirror.{MirrorMap, answer_at}
use Rattle.acq_base.specs.declared.fetch.Answer.{Answer}
use Rattle.acq_base.specs.declared.fetch.Answer.TheVariants as answers
use Rattle.acq_base.specs.declared.uri.Scheme.{Scheme}
use Rattle.acq_base.specs.declared.uri.Scheme.TheVariants.{Http, File}
use Rattle.acq_base.specs.declared.uri.Uri.{Uri}
use Rattle.update_model.specs.declared.ask.Body.TheVariants.{Bytes}
use Rattle.update_model.specs.declared.ask.Closed.{Closed}
use Rattle.update_model.specs.declared.ask.Closed.TheVariants.{Served, Not}
use Rattle.acq_base.specs.declared.fetch.NotServed.TheVariants.{Moved, Absent, TooBig, Garbled, Fault}
use Rattle.update_model.specs.declared.ask.Ending.{Ending}
use Rattle.update_model.specs.declared.ask.Ending.TheVariants as endings

-- where an answer leads: on to another URI, or to an end
pub data Way : Type 0 where
  On : (uri : Uri) → Way
  Stop : (ending : Ending) → Way

-- every move is followed but one from http to a file
abbrev pub may_move : Scheme → Scheme → Bool
may_move Http File = false
may_move Http Http = true
may_move File to = true

-- a move, where this many are left
abbrev pub moved : ℕ → Uri → Uri → Way
moved zero from to = Stop endings.Lost
moved (suc left) from to = if may_move from.scheme to.scheme then On to else Stop endings.Lost

-- where an answer to an ask at a URI leads. A fault is no answer and leads nowhere
abbrev pub way : ℕ → Uri → Closed → Way
way left uri (Served body) = Stop (endings.Served body)
way left uri (Not (Moved None)) = Stop endings.Lost
way left uri (Not (Moved (Some to))) = moved left uri to
way left uri (Not (Absent status)) = Stop (endings.Absent status)
way left uri (Not TooBig) = Stop endings.TooBig
way left uri (Not (Garbled at)) = Stop (endings.Garbled at)
way left uri (Not (Fault before after)) = Stop endings.Lost

abbrev pub followed : Way → (Uri → Ending) → Ending
followed (On to) from_there = from_there to
followed (Stop ending) from_there = ending

-- a mirror's answer, in which a file may have `max` bytes
abbrev pub within : ℕ → Answer → Closed
within max (answers.Served bytes) = if nat_le (length bytes) max then Served (Bytes bytes) else Not TooBig
within max (answers.Moved place) = Not (Moved place)
within max (answers.Absent status) = Not (Absent status)

-- what is reached from a URI, where this many moves are left
abbrev pub reach_by : ℕ → MirrorMap → Uri → ℕ → Ending
reach_by zero world uri max = followed (way zero uri (within max (answer_at world uri))) (λ to. endings.Lost)
reach_by (suc left) world uri max = followed (way (suc left) uri (within max (answer_at world uri))) (λ to. reach_by left world to max)

-- what is reached from a URI within `max` bytes: ten moves are followed
abbrev pub reach : MirrorMap → Uri → ℕ → Ending
reach world uri max = reach_by 10 world uri max
