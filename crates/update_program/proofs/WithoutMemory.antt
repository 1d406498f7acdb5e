-- Where memory ran out before it was known what is asked for.
use Rattle.std.proofs.Common.{◌≡◌, ◌≤◌, ℕ, List, [], ◌∷◌, length, Option, Err, inr, refl, arith, vec_len}
use Rattle.std.specs.Global.{Vec}
use Rattle.acq_net.specs.declared.port.Port as ports
use Rattle.acq_outside.specs.Etc.{EtcFiles}
use Rattle.acq_outside.specs.declared.disk.Disk as disks
use Rattle.acq_outside.specs.declared.method.Method as methods
use Rattle.acq_outside.specs.declared.sink.Sink as sinks
use Rattle.acq_outside.specs.declared.tree.Tree as trees
use Rattle.report_text.specs.declared.fault.FaultLine.TheVariants.{Memory}
use Rattle.tree_serve.specs.declared.error.Stop.TheVariants as stops
use Rattle.update_program.specs.Downloads.{DownloadsByFirst}
use Rattle.update_program.specs.Objects.{output}
use Rattle.update_program.specs.Said.{WritesLine}
use Rattle.update_program.specs.Sides.{ServesPort}
use Rattle.update_program.specs.declared.ran.Ran.{Ran}

-- no connection was served
pub dry_server : {P T S : Type 0} (p : ports.Ghosts P) (t : trees.Ghosts T) (s : sinks.Ghosts S) (port : P) (tree : T) (out out' : S) (ran : Ran) (root : List ℕ) (number connections : ℕ)
    → WritesLine (output s out) (output s out') Memory ran.status.0 → ServesPort p t s port port tree tree out out' ran root number connections
dry_server p t s port tree out out' ran root number connections said = record {
  end = Err stops.NoMemory;
  frame = record {
    port_count = omega arith;
    tree_count = omega arith;
    lost = record { count = omega arith; fault = λ is. absurd cc; quiet = tt; dry = λ other. refl };
    same = refl;
  };
  at = tt;
  served = tt;
  said = said;
}

-- nothing was looked into
pub dry_download : {D Q M S : Type 0} (d : disks.Ghosts D) (q : disks.Ghosts Q) (m : methods.Ghosts M) (s : sinks.Ghosts S) (told : Option EtcFiles) (disk : D) (place : Q) (methods : Vec M) (out out' : S) (ran : Ran) (name version : List ℕ)
    → 1 ≤ vec_len methods → WritesLine (output s out) (output s out') Memory ran.status.0 → DownloadsByFirst d q m s told disk disk place place methods methods out out' ran name version
dry_download {M = M} d q m s told disk place methods out out' ran name version some said = by methods.items refl (rw methods.ok.0 at some)
  where
    by : (items : List M) → methods.items ≡ items → 1 ≤ length items → DownloadsByFirst d q m s told disk disk place place methods methods out out' ran name version
    by [] are none = absurd (omega (arith, none))
    by (method ∷ others) are more = record {
      method = method;
      method' = method;
      others = others;
      before = are;
      after = are;
      downloads = record { way = inr (record { disk_is = refl; nothing = record { place_is = refl; method_is = refl }; said = inr (inr said) }) };
    }
