-- The objects that a call is handed, at one moment.
use Rattle.std.specs.Prelude.{Bool, ℕ, List, map, Option}
use Rattle.std.specs.Global.{Vec}
use Rattle.acq_outside.specs.Disk.{Files}
use Rattle.acq_outside.specs.declared.disk.Disk.{Ghosts as Disks}
use Rattle.acq_outside.specs.declared.method.Method.{Ghosts as Methods}
use Rattle.acq_outside.specs.declared.sink.Sink.{Ghosts as Sinks}
use Rattle.update_engine.specs.Run as run
use Rattle.update_engine.specs.Run.{Engine}

-- what was written, where the output tells it, and how often the output failed
pub record Output : Type 0 where
  pub faults : ℕ
  pub written : Option (List ℕ)

abbrev pub output : {S : Type 0} → Sinks S → S → Output
output s out = record { faults = s.faults out; written = s.written out }

-- the lists folder, as it is and as it was, the methods, with how often each was asked, and the output
pub record Objects : Type 0 where
  pub engine : Engine
  pub tells : Bool
  pub files : Files
  pub begins : List ℕ
  pub out : Output

abbrev pub objects : {D M S : Type 0} → Disks D → Methods M → Sinks S → D → List M → S → Objects
objects d m s disk methods out = record { engine = run.engine d m disk methods; tells = d.tells disk; files = d.files disk; begins = map m.begins methods; out = output s out }

-- the objects before a call and after it
pub record Span : Type 0 where
  pub before : Objects
  pub after : Objects

abbrev pub span : {D M S : Type 0} → Disks D → Methods M → Sinks S → D → D → Vec M → Vec M → S → S → Span
span d m s disk disk' methods methods' out out' = record { before = objects d m s disk methods.items out; after = objects d m s disk' methods'.items out' }
