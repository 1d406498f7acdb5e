-- An update over one mirror that all methods tell.
use Rattle.std.proofs.Common.{◌≡◌, ◌⊎◌, ℕ, ℤ, ◌≤◌, ◌&&◌, Bool, true, false, if◌then◌else◌, List, [], ◌∷◌, ◌++◌, length, drop, map, Option, Some, None, IfSome, inl, inr, refl, sym, subst, arith}
use Rattle.std.specs.List.{AllByRecursion as Each}
use Rattle.acq_base.specs.Mirror.{MirrorMap}
use Rattle.acq_base.specs.declared.fetch.Answer.TheVariants as answers
use Rattle.acq_outside.specs.Etc.{EtcFiles}
use Rattle.acq_outside.specs.Tree.{TreeFiles}
use Rattle.acq_outside.specs.declared.tree.Tree.{Ghosts as Trees}
use Rattle.command_words.specs.declared.request.Options.{Options}
use Rattle.command_words.specs.declared.request.Request.{Request}
use Rattle.command_words.specs.declared.request.Request.TheVariants.{Update, Generate}
use Rattle.http_method.specs.HttpMethod.{HttpState}
use Rattle.http_method.specs.Reading.{has_no_file, is_http, world_of as told_by}
use Rattle.served_link.specs.Link.{LinkState, world_of}
use Rattle.served_link.specs.Served.{entries_of, is_served, mirror_of, served_uri}
use Rattle.run_jobs.specs.Mirrors.{ForMirror}
use Rattle.update_model.specs.declared.log.RunLog.{RunLog}
use Rattle.update_program.specs.Asked.{IfUpdate}
use Rattle.update_program.specs.Ending.{IsNoRun}
use Rattle.update_program.specs.Headline.{Headline, KeepsPromise, Promises}
use Rattle.update_program.specs.Objects.{Objects, Span}
use Rattle.update_program.specs.declared.ran.Ran.{Ran}
use Rattle.served_update.specs.Served.{AsksServer, Server, UpdatesFrom, UpdatesFromServer, mirror_at}

-- what holds of the mirror that all of them tell
of_mirror : (worlds : List (Option MirrorMap)) (mirror : MirrorMap) (P : MirrorMap → Type 0) → 1 ≤ length worlds → Each (λ world. world ≡ Some mirror) worlds → ForMirror worlds P → P mirror
of_mirror [] mirror P some each for = absurd (omega (arith, some))
of_mirror (world ∷ worlds) mirror P some each for = (subst (λ (w : Option MirrorMap). IfSome w (λ told. Each (λ other. other ≡ Some told) worlds → P told)) each.0 for) each.1

of_log : (log : Option RunLog) (worlds : List (Option MirrorMap)) (mirror : MirrorMap) (P : RunLog → MirrorMap → Type 0) → 1 ≤ length worlds → Each (λ world. world ≡ Some mirror) worlds
    → IfSome log (λ known. ForMirror worlds (P known)) → IfSome log (λ known. P known mirror)
of_log None worlds mirror P some each for = tt
of_log (Some known) worlds mirror P some each for = of_mirror worlds mirror (P known) some each for

-- a promise over a mirror that all methods tell is one over that mirror
over_mirror : (told : Option EtcFiles) (options : Options) (moment : Option ℤ) (before after : Objects) (log : Option RunLog) (status : ℕ) (mirror : MirrorMap)
    → 1 ≤ length before.engine.mirrors → Each (λ world. world ≡ Some mirror) before.engine.mirrors
    → KeepsPromise told options moment before after log status → UpdatesFrom mirror told options moment before after log status
over_mirror told options moment before after log status mirror some each keeps = record {
  run = keeps.run;
  asks = keeps.asks;
  stops = λ synced. of_mirror before.engine.mirrors mirror _ some each (keeps.stops_as_served synced);
  ends = of_log log before.engine.mirrors mirror _ some each keeps.ends;
  complete = of_log log before.engine.mirrors mirror _ some each keeps.complete;
}

pub promised : (told : Option EtcFiles) (options : Options) (moment : Option ℤ) (before after : Objects) (log : Option RunLog) (status : ℕ) (mirror : MirrorMap)
    → 1 ≤ length before.engine.mirrors → Each (λ world. world ≡ Some mirror) before.engine.mirrors
    → Promises told options moment before after log status → IsNoRun before after log ⊎ UpdatesFrom mirror told options moment before after log status
promised told options moment before after log status mirror some each promises = by promises.way
  where
    by : IsNoRun before after log ⊎ KeepsPromise told options moment before after log status → IsNoRun before after log ⊎ UpdatesFrom mirror told options moment before after log status
    by (inl none) = inl none
    by (inr keeps) = inr (over_mirror told options moment before after log status mirror some each keeps)

for_update : (request : Option Request) (P Q : Options → Type 0) → ((options : Options) → P options → Q options) → IfUpdate request P → IfUpdate request Q
for_update None P Q onward is = tt
for_update (Some (Update options)) P Q onward is = onward options is
for_update (Some (Generate number)) P Q onward is = tt

-- ---- the mirror that a method tells

no_file_joined : (front rest : MirrorMap) → has_no_file front ≡ true → has_no_file rest ≡ true → has_no_file (front ++ rest) ≡ true
no_file_joined [] rest none more = more
no_file_joined (entry ∷ front) rest none more = by (is_http entry.0.scheme) none (λ is. no_file_joined front rest is more)
  where
    by : (http : Bool) → (http && has_no_file front) ≡ true → (has_no_file front ≡ true → has_no_file (front ++ rest) ≡ true) → (http && has_no_file (front ++ rest)) ≡ true
    by true is onward = onward is
    by false is onward = absurd (cc)

no_file_entry : (root host : List ℕ) (port : ℕ) (file : List ℕ × List ℕ) → has_no_file (entries_of root host port file) ≡ true
no_file_entry root host port file = by (is_served root file.0)
  where
    by : (served : Bool) → has_no_file (if served then (served_uri host port (drop (length root) file.0), answers.Served file.1) ∷ [] else []) ≡ true
    by true = refl
    by false = refl

-- a server has no file but over HTTP
no_file : (root host : List ℕ) (port : ℕ) (files : TreeFiles) → has_no_file (mirror_of root host port files) ≡ true
no_file root host port [] = refl
no_file root host port (file ∷ files) = no_file_joined (entries_of root host port file) (mirror_of root host port files) (no_file_entry root host port file) (no_file root host port files)

-- the mirror that a method over HTTP tells, by its link
abbrev pub mirror_told : {T : Type 0} → Trees T → HttpState (LinkState T) → Option MirrorMap
mirror_told t method = told_by (world_of t.files method.link)

-- a method that asks a server tells its mirror
told : {T : Type 0} (t : Trees T) (server : Server) (method : HttpState (LinkState T)) → AsksServer t server method → mirror_told t method ≡ Some (mirror_at server)
told t server method asks =
    rw (asks.files, asks.root, asks.host, asks.port, no_file server.root server.host server.port server.files) refl

all_told : {T : Type 0} (t : Trees T) (server : Server) (methods : List (HttpState (LinkState T))) → Each (AsksServer t server) methods → Each (λ world. world ≡ Some (mirror_at server)) (map (mirror_told t) methods)
all_told t server [] each = tt
all_told t server (method ∷ methods) each = (told t server method each.0, all_told t server methods each.1)

some_told : {A B : Type 0} (f : A → B) (xs : List A) → 1 ≤ length xs → 1 ≤ length (map f xs)
some_told f [] some = some
some_told f (x ∷ xs) some = omega arith

-- so it is of each server that all methods ask
pub from_server : {T : Type 0} (t : Trees T) (methods : List (HttpState (LinkState T))) (request : Option Request) (told : Option EtcFiles) (moment : Option ℤ) (seen : Span) (ran : Ran)
    → 1 ≤ length methods → seen.before.engine.mirrors ≡ map (mirror_told t) methods
    → IfUpdate request (Headline told moment seen ran) → IfUpdate request (UpdatesFromServer t methods told moment seen ran)
from_server t methods request told moment seen ran some are = for_update request (Headline told moment seen ran) (UpdatesFromServer t methods told moment seen ran) (λ options promises server each.
    promised told options moment seen.before seen.after ran.log ran.status.0 (mirror_at server)
    (subst (λ worlds. 1 ≤ length worlds) (sym are) (some_told (mirror_told t) methods some))
    (subst (Each (λ world. world ≡ Some (mirror_at server))) (sym are) (all_told t server methods each)) promises)
