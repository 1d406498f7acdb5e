use Rattle.std.proofs.Common.{◌≡◌, ◌≤◌, ◌+◌, ◌*◌}
use Rattle.acq_outside.specs.Fetches.{Fetches}
use Rattle.acq_outside.specs.Stays.{HasStayed}
use Rattle.item_graph.specs.Refinement.{point_of, retries_of}
use Rattle.item_graph.specs.Single.{single}
use Rattle.item_graph.specs.Sound.{IsSoundAt}
use Rattle.job_fetch.specs.Fetched.{Staging}
use Rattle.deb_fetch.specs.Asking.{IsUnderWay, asks_left}
use Rattle.deb_fetch.proofs.asking.ask_all.Given as goal

abbrev pub invariant-asks : goal.invariant-asks
invariant-asks g l = record {
  under : IsUnderWay l.settings.retries (single l.deb.uri l.deb.path l.deb.sum) l.deb.file.0 (g.M.Method.world l.fn.method) (g.M.Method.faults l.fn.method) (g.M.Method.faults l.method) (g.D.Disk.trace l.place) (point_of l.item);
  sound : IsSoundAt (point_of l.item);
  retries : retries_of l.item ≡ l.settings.retries;
  staging : Staging l.deb.file.0 (g.D.Disk.trace l.fn.place) (g.D.Disk.trace l.place);
  frame : HasStayed g.D.Disk l.fn.place l.place;
  begins : g.M.Method.begins l.method + asks_left l.settings.retries (point_of l.item) ≤ g.M.Method.begins l.fn.method + 11 * (l.settings.retries + 1);
  method : Fetches g.M.Method l.fn.method l.method;
}

abbrev pub decreases-asks : goal.decreases-asks
decreases-asks g l = asks_left l.settings.retries (point_of l.item)
