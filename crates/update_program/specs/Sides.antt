-- What is asked for beside updates, and what comes of it.
use Rattle.std.specs.Prelude.{◌≡◌, ℕ, Bool, List, ◌∷◌, map, Option, Some, None, Result, Ok, Err, OnOk, String, string_bytes}
use Rattle.std.specs.Global.{Global, Vec}
use Rattle.acq_net.specs.declared.port.Port as ports
use Rattle.acq_outside.specs.Fetches.{Fetches}
use Rattle.acq_outside.specs.declared.files.Files as put_files
use Rattle.acq_outside.specs.declared.inlet.Inlet as inlets
use Rattle.acq_outside.specs.declared.method.Method as methods
use Rattle.acq_outside.specs.declared.sink.Sink as sinks
use Rattle.acq_outside.specs.declared.tree.Tree as trees
use Rattle.command_words.specs.Side.{side_of}
use Rattle.command_words.specs.declared.request.Options.{Options}
use Rattle.command_words.specs.declared.side.Side.{Side}
use Rattle.command_words.specs.declared.side.Side.TheVariants.{Method, Serve, Download}
use Rattle.method_server.specs.Serving.{Blames, ServesCall, status_of}
use Rattle.method_server.specs.declared.end.ServeEnd.{ServeEnd}
use Rattle.method_server.specs.declared.end.ServeEnd.TheVariants as ends
use Rattle.report_text.specs.declared.fault.FaultLine.TheVariants.{Port as PortLine, Memory}
use Rattle.tree_serve.specs.Connections.{HasServedAll}
use Rattle.tree_serve.specs.Frame.{Stops}
use Rattle.tree_serve.specs.declared.error.Stop.{Stop}
use Rattle.tree_serve.specs.declared.error.Stop.TheVariants as stops
use Rattle.update_program.specs.Objects.{Output, output}
use Rattle.update_program.specs.Asked.{IfUpdate, asked}
use Rattle.update_program.specs.Said.{WritesLine}
use Rattle.update_program.specs.declared.ran.Ran.{Ran}

-- ---- the words

-- what words ask for beside updates
abbrev pub side_asked : List (String Global) → Option Side
side_asked words = side_of (map string_bytes words)

-- P, where they ask for nothing beside updates
abbrev pub Otherwise : Option Side → Type 0 → Type 0
Otherwise None P = P
Otherwise (Some side) P = Unit {0}

-- P of the options, where they ask for an update
abbrev pub IfUpdating : List (String Global) → (Options → Type 0) → Type 0
IfUpdating words P = Otherwise (side_asked words) (IfUpdate (asked words) P)

-- P, where they ask for something beside updates
abbrev pub IfAside : Option Side → Type 0 → Type 0
IfAside None P = Unit {0}
IfAside (Some side) P = P

-- whether the method asked for is that of `http`
abbrev pub scheme_of : Option Side → Option Bool
scheme_of None = None
scheme_of (Some (Method http)) = Some http
scheme_of (Some (Serve root port connections)) = None
scheme_of (Some (Download name version)) = None

-- P of that, where a method is asked for
abbrev pub IfMethod : Option Side → (Bool → Type 0) → Type 0
IfMethod None P = Unit {0}
IfMethod (Some (Method http)) P = P http
IfMethod (Some (Serve root port connections)) P = Unit {0}
IfMethod (Some (Download name version)) P = Unit {0}

-- P of the folder, the port and how many connections, where a server is asked for
abbrev pub IfServe : Option Side → (List ℕ → ℕ → ℕ → Type 0) → Type 0
IfServe None P = Unit {0}
IfServe (Some (Method http)) P = Unit {0}
IfServe (Some (Serve root port connections)) P = P root port connections
IfServe (Some (Download name version)) P = Unit {0}

-- P of the package's name and its version, where its file is asked for
abbrev pub IfDownload : Option Side → (List ℕ → List ℕ → Type 0) → Type 0
IfDownload None P = Unit {0}
IfDownload (Some (Method http)) P = Unit {0}
IfDownload (Some (Serve root port connections)) P = Unit {0}
IfDownload (Some (Download name version)) P = P name version

-- ---- method

-- The method served its input, and the status is that of how this ended: each end has its cause, and what was written is as it
-- tells.
pub record Speaks {I M F S : Type 0} (i : inlets.Ghosts I) (m : methods.Ghosts M) (f : put_files.Ghosts F) (s : sinks.Ghosts S) (http : Bool)
    (input input' : I) (method method' : M) (files files' : F) (out out' : S) (status : ℕ) : Type 0 where
  pub end : ServeEnd
  pub status_is : status ≡ status_of end
  pub input_fault : Blames ends.Input (i.faults input) (i.faults input') end
  pub files_fault : Blames ends.Files (f.faults files) (f.faults files') end
  pub sink_fault : Blames ends.Output (s.faults out) (s.faults out') end
  pub fetches : Fetches m method method'
  pub serves : ServesCall i m f s http input input' method method' files files' out out' end

-- the first of the methods did so, and the others stayed
pub record SpeaksByFirst {I M F S : Type 0} (i : inlets.Ghosts I) (m : methods.Ghosts M) (f : put_files.Ghosts F) (s : sinks.Ghosts S)
    (input input' : I) (methods methods' : Vec M) (files files' : F) (out out' : S) (ran : Ran) (http : Bool) : Type 0 where
  pub method : M
  pub method' : M
  pub others : List M
  pub before : methods.items ≡ method ∷ others
  pub after : methods'.items ≡ method' ∷ others
  pub speaks : Speaks i m f s http input input' method method' files files' out out' ran.status.0

-- ---- serve

-- nothing is written where all connections were served
abbrev pub SaysStop : Output → Output → Result (Unit {0}) Stop → ℕ → Type 0
SaysStop before after (Ok all) status = (status ≡ 0) × (after ≡ before)
SaysStop before after (Err stops.Port) status = WritesLine before after PortLine status
SaysStop before after (Err stops.NoMemory) status = WritesLine before after Memory status

-- The connections of that port were served, or its count of lost ones rose, or memory ran out; and the status says which.
pub record ServesPort {P T S : Type 0} (p : ports.Ghosts P) (t : trees.Ghosts T) (s : sinks.Ghosts S)
    (port port' : P) (tree tree' : T) (out out' : S) (ran : Ran) (root : List ℕ) (number connections : ℕ) : Type 0 where
  pub end : Result (Unit {0}) Stop
  pub frame : Stops p t port port' tree tree' end
  pub at : OnOk end (p.at port' ≡ Some number)
  pub served : OnOk end (HasServedAll p t root connections port port' tree tree')
  pub said : SaysStop (output s out) (output s out') end ran.status.0
