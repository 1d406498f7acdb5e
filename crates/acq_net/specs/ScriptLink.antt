-- What a connection in memory shows.
use Rattle.std.specs.Prelude.{ℕ, Bool, Option, Some}
use Rattle.acq_net.specs.Script.{talk_with}
use Rattle.acq_net.specs.Talk.{Talk}
use Rattle.acq_net.specs.declared.calls.Calls.{Calls}
use Rattle.acq_net.specs.declared.script.Script.{Script}
use Rattle.acq_net.specs.declared.script_link.Conversation.{Conversation}
use Rattle.acq_net.specs.declared.script_link.ScriptLink.{ScriptLink}

abbrev pub said : Conversation → Talk
said talk = talk_with talk.sent talk.heard

abbrev pub talk_of : ScriptLink → Talk
talk_of link = said link.talk

-- on the connection before the present one
abbrev pub former_of : ScriptLink → Talk
former_of link = said link.former

-- it tells that
abbrev pub told_former : ScriptLink → Option Talk
told_former link = Some (former_of link)

-- what its peers have still to say
abbrev pub script_of : ScriptLink → Script
script_of link = link.script

-- how its calls went, and which are to fail
abbrev pub calls_of : ScriptLink → Calls
calls_of link = link.calls

-- how often it failed
abbrev pub faults_of : ScriptLink → ℕ
faults_of link = link.calls.faults

abbrev pub made_of : ScriptLink → ℕ
made_of link = link.made

abbrev pub ends_of : ScriptLink → ℕ
ends_of link = link.ends

-- whether the present connection is open
abbrev pub opened_of : ScriptLink → Bool
opened_of link = link.opened

-- whether a byte was received since the last `send` on it
abbrev pub answered_of : ScriptLink → Bool
answered_of link = link.answered
