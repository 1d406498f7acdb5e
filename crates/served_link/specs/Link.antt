-- What a link to a server in memory shows.
use Rattle.std.specs.Prelude.{◌≡◌, ℕ, ◌+◌, ◌==◌, ◌&&◌, nat_le, Bool, true, false, List, [], ◌++◌, length, drop, if◌then◌else◌, bytes_eq, Option, Some, None, option_map, IfSome}
use Rattle.acq_base.specs.Mirror.{MirrorMap}
use Rattle.acq_outside.specs.Count.{one_more}
use Rattle.acq_outside.specs.Tree.{TreeFiles}
use Rattle.acq_net.specs.Due.{Due}
use Rattle.httparse.specs.Grammar.{RequestHead}
use Rattle.http_wire.specs.Forms.{Whole}
use Rattle.http_requests.specs.Asked.{request_of}
use Rattle.http_requests.specs.Heads.{request_form}
use Rattle.http_requests.specs.declared.request.Request.{Request}
use Rattle.tree_serve.specs.Planned.{InRange, IsPlanOf, IsWithin, part_at}
use Rattle.served_link.specs.Served.{mirror_of}
use Rattle.served_link.specs.declared.link.LinkCounts.{LinkCounts}
use Rattle.served_link.specs.declared.link.Place.{Place}
use Rattle.served_link.specs.declared.pending.Pending.{Pending}

pub record LinkState (T : Type 0) : Type 0 where
  pub tree : T
  -- the files below it are served, at this host's port
  pub root : List ℕ
  pub host : List ℕ
  pub port : ℕ
  pub counts : LinkCounts
  pub opened : Bool
  pub answered : Bool
  -- where the present connection leads, if there is one
  pub place : Option Place
  -- how many responses there were on it
  pub number : ℕ
  -- what is still to be sent of the last one, where every request got one
  pub pending : Option Pending

-- ---- what is to be sent

-- nothing, and the connection is open
abbrev pub nothing : Pending
nothing = record { planned = record { head = []; path = []; at = 0; left = 0; keep = true }; done = 0 }

-- the rest of its head, and then of its file
abbrev pub to_come : TreeFiles → Pending → List ℕ
to_come files p = drop p.done p.planned.head ++ part_at files p.planned.path p.planned.at p.planned.left

-- the file has the bytes that are to be sent of it
abbrev pub PendingWithin : TreeFiles → Option Pending → Type 0
PendingWithin files None = Unit {0}
PendingWithin files (Some p) = IsWithin files p.planned

abbrev pub IsInRange : Option Pending → Type 0
IsInRange None = Unit {0}
IsInRange (Some p) = InRange p.planned

-- every byte was sent, and the connection stays open
abbrev pub is_ready : Option Pending → Bool
is_ready None = false
is_ready (Some p) = nat_le (length p.planned.head) p.done && (p.planned.left == 0) && p.planned.keep

abbrev pub is_home : List ℕ → ℕ → Place → Bool
is_home host port place = bytes_eq host place.host && (port == place.port)

-- ---- which response is planned

-- the text is one whole request, which asks for this
pub record IsOneRequest (text : List ℕ) (request : Request) : Type 0 where
  pub head : RequestHead
  pub whole : Whole request_form text head []
  pub asks : request ≡ request_of head

abbrev pub IsNoRequest : List ℕ → Type 0
IsNoRequest text = (h : RequestHead) → ¬ (Whole request_form text h [])

-- what a text asks for, if it is one whole request
abbrev pub IsRequestIn : List ℕ → Option Request → Type 0
IsRequestIn text None = IsNoRequest text
IsRequestIn text (Some request) = IsOneRequest text request

-- all of the response of this number to a text that is one whole request
pub record IsResponseTo (files : TreeFiles) (root : List ℕ) (number : ℕ) (text : List ℕ) (p : Pending) : Type 0 where
  pub head : RequestHead
  pub whole : Whole request_form text head []
  pub begins : p.done ≡ 0
  pub plan : IsPlanOf files root number head p.planned

-- a text gets a response just where it is one whole request
abbrev pub IsResponse : TreeFiles → List ℕ → ℕ → List ℕ → Option Pending → Type 0
IsResponse files root number text None = IsNoRequest text
IsResponse files root number text (Some p) = IsResponseTo files root number text p

-- the tree's files at the server's own place, and none elsewhere
abbrev pub files_at : {T : Type 0} → TreeFiles → LinkState T → Place → TreeFiles
files_at files link place = if is_home link.host link.port place then files else []

-- behind a text that is sent where the last response was received and left the connection open: the next response
abbrev pub Responds : {T : Type 0} → (T → Option TreeFiles) → List ℕ → LinkState T → LinkState T → Type 0
Responds files text old new = IfSome old.place (λ place. is_ready old.pending ≡ true
    → (new.number ≡ one_more old.number) × IfSome (files old.tree) (λ known. IsResponse (files_at known old place) old.root new.number text new.pending))

-- ---- what the link tells

-- What is due at a place. A response of any other place than the server's own has no bytes of a file.
abbrev pub due_at : TreeFiles → Option Place → Option Pending → Option Due
due_at files None pending = None
due_at files (Some place) None = None
due_at files (Some place) (Some p) = Some (record { host = place.host; port = place.port; bytes = to_come files p; keep = p.planned.keep })

-- the same where the tree may tell nothing
abbrev pub due_in : Option TreeFiles → Option Place → Option Pending → Option Due
due_in None place pending = None
due_in (Some files) place pending = due_at files place pending

abbrev pub due_of : {T : Type 0} → (T → Option TreeFiles) → LinkState T → Option Due
due_of files link = due_in (files link.tree) link.place link.pending

-- the mirror that the files are, where the tree tells them
abbrev pub world_of : {T : Type 0} → (T → Option TreeFiles) → LinkState T → Option MirrorMap
world_of files link = option_map (mirror_of link.root link.host link.port) (files link.tree)

-- the tree's faults, and one for each want of memory
abbrev pub faults_of : {T : Type 0} → (T → ℕ) → LinkState T → ℕ
faults_of faults link = faults link.tree + link.counts.dry

abbrev pub made_of : {T : Type 0} → LinkState T → ℕ
made_of link = link.counts.made

abbrev pub ends_of : {T : Type 0} → LinkState T → ℕ
ends_of link = link.counts.ends

abbrev pub opened_of : {T : Type 0} → LinkState T → Bool
opened_of link = link.opened

abbrev pub answered_of : {T : Type 0} → LinkState T → Bool
answered_of link = link.answered
