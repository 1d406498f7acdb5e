-- What an update promises whose mirror is a tree of files behind the product's own server.
use Rattle.std.specs.Prelude.{◌≡◌, ◌⊎◌, ℕ, ℤ, List, Option, Some, IfSome, String}
use Rattle.std.specs.Global.{Global, Vec}
use Rattle.std.specs.List.{AllByRecursion as Each}
use Rattle.acq_base.specs.Mirror.{MirrorMap}
use Rattle.acq_outside.specs.Crash.{State}
use Rattle.acq_outside.specs.Etc.{EtcFiles}
use Rattle.acq_outside.specs.Tree.{TreeFiles}
use Rattle.acq_outside.specs.declared.tree.Tree.{Ghosts as Trees}
use Rattle.command_words.specs.declared.request.Options.{Options}
use Rattle.http_method.specs.HttpMethod.{HttpState}
use Rattle.journal_model.specs.Reopen.{installed_now}
use Rattle.run_promises.specs.Claims.{Serves}
use Rattle.run_promises.specs.Promise.{EndsAsServed, IsServed, NoneIsGivenUp, StopsWith, WasSynced}
use Rattle.served_link.specs.Link.{LinkState}
use Rattle.served_link.specs.Served.{mirror_of}
use Rattle.update_engine.specs.Run.{Run}
use Rattle.update_model.specs.declared.log.RunLog.{RunLog}
use Rattle.update_program.specs.Asked.{AsksForRun, IfUpdate, asked}
use Rattle.update_program.specs.Ending.{IsNoRun}
use Rattle.update_program.specs.Objects.{Objects, Span}
use Rattle.update_program.specs.declared.ran.Ran.{Ran}

-- where a server is, and what it serves: the files below a root, at a host's port
pub record Server : Type 0 where
  pub root : List ℕ
  pub host : List ℕ
  pub port : ℕ
  pub files : TreeFiles

-- the mirror that it is
abbrev pub mirror_at : Server → MirrorMap
mirror_at server = mirror_of server.root server.host server.port server.files

-- the method's link is to this server, and its tree tells the files
pub record AsksServer {T : Type 0} (t : Trees T) (server : Server) (method : HttpState (LinkState T)) : Type 0 where
  pub root : method.link.root ≡ server.root
  pub host : method.link.host ≡ server.host
  pub port : method.link.port ≡ server.port
  pub files : t.files method.link.tree ≡ Some server.files

-- A run over a mirror. A stop leaves each source its former set or the mirror's, whole. Where a log is answered and no fetch
-- was given up, the lists are those that are next over the mirror, and none was where no method failed; and where the mirror
-- serves all sources whole the status is 0, unless memory for the report ran out or the output failed.
pub record UpdatesFrom (mirror : MirrorMap) (told : Option EtcFiles) (options : Options) (moment : Option ℤ) (before after : Objects) (log : Option RunLog) (status : ℕ) : Type 0 where
  pub run : Run
  pub asks : AsksForRun told options moment run
  pub stops : WasSynced before.engine
      → (opened : List State) × StopsWith run (IsServed run mirror before.engine.trace opened) before.engine.trace opened after.engine.trace
  pub ends : IfSome log (λ known. WasSynced before.engine → EndsAsServed run mirror before.engine after.engine known)
  pub complete : IfSome log (λ known. WasSynced before.engine → NoneIsGivenUp run.settings.retries known.asks
      → Each (Serves run mirror (installed_now before.engine.trace)) run.plan.sources → (status ≡ 0) ⊎ ((status ≡ 103) ⊎ (status ≡ 105)))

-- So it is of each server that all methods ask, or no run was made.
abbrev pub UpdatesFromServer : {T : Type 0} → Trees T → List (HttpState (LinkState T)) → Option EtcFiles → Option ℤ → Span → Ran → Options → Type 0
UpdatesFromServer t methods told moment seen ran options =
    (server : Server) → Each (AsksServer t server) methods
    → IsNoRun seen.before seen.after ran.log ⊎ UpdatesFrom (mirror_at server) told options moment seen.before seen.after ran.log ran.status.0

-- the same of the update that words ask for
abbrev pub UpdatesOfServer : {T : Type 0} → Trees T → List (String Global) → Vec (HttpState (LinkState T)) → Option EtcFiles → Option ℤ → Span → Ran → Type 0
UpdatesOfServer t words methods told moment seen ran = IfUpdate (asked words) (UpdatesFromServer t methods.items told moment seen ran)
