-- One ask for a package file as a job.
use Rattle.std.proofs.Common.{◌≡◌, refl, sym, ap, ◌∙◌, subst, arith, ℕ, ◌+◌, ◌≤◌, true, List, [], Option, Some, None, IfSome}
use Rattle.acq_base.specs.Mirror.{MirrorMap, answer_at}
use Rattle.acq_base.specs.declared.fetch.Answer.{Answer}
use Rattle.acq_base.specs.declared.fetch.Answer.TheVariants as answers
use Rattle.acq_base.specs.declared.fetch.Job.{Job}
use Rattle.acq_base.specs.declared.uri.Uri.{Uri}
use Rattle.acq_outside.specs.Count.{one_more}
use Rattle.acq_outside.specs.Crash.{State}
use Rattle.acq_outside.specs.States.{IsTold}
use Rattle.item_graph.specs.Refinement.{asked}
use Rattle.job_fetch.specs.Fetched.{IsAnswer, IsCounted, IsKnown, IsStagedBody, ask_of}
use Rattle.journal_model.specs.Rest.{part_bytes}
use Rattle.update_model.specs.Points.{Point, Over, At, point_after}
use Rattle.update_model.specs.Trails.{IsFaultOr, answered}
use Rattle.update_model.specs.Walks.{Walk}
use Rattle.update_model.specs.declared.ask.Ask.{Ask}
use Rattle.update_model.specs.declared.ask.Closed.{Closed}
use Rattle.update_model.specs.declared.ask.Closed.TheVariants.{Served, Not}
use Rattle.update_model.specs.declared.ask.Ending.{Ending}
use Rattle.deb_fetch.specs.Asking.{AsksWhole, HasAsked, asks_next}

-- what is asked at a point
record IsAskAt (p : Point) (ask : Ask) : Type 0 where
  left : ℕ
  faults : ℕ
  next : Ending → Walk
  at : p ≡ At ask left faults next

ask_at : (p : Point) (ask : Ask) → Some ask ≡ asked p → IsAskAt p ask
ask_at (Over end) ask is = absurd cc
ask_at (At other left faults next) ask is = record { left = left; faults = faults; next = next; at = ap (λ (a : Ask). At a left faults next) (let same : other ≡ ask = cc in same) }

-- a fetch that was begun is the one ask
pub begun_once : (before after : ℕ) (p : Point) (ask : Ask) → Some ask ≡ asked p → after ≡ one_more before → after ≤ before + asks_next p
begun_once before after (Over end) ask is more = absurd cc
begun_once before after (At other left faults next) ask is more = omega (arith, more)

whole_at : (p : Point) (ask : Ask) → Some ask ≡ asked p → AsksWhole p → (ask.from ≡ 0) × (ask.stage ≡ true)
whole_at p ask is whole = let at = ask_at p ask is in subst (λ (q : Point). AsksWhole q) at.at whole

pub begins_whole : (p : Point) (ask : Ask) (job : Job) → Some ask ≡ asked p → AsksWhole p → job ≡ record { no = 0; uri = ask.uri; max = ask.max; from = ask.from } → job.from ≡ 0
begins_whole p ask job is whole same = ap (λ (j : Job). j.from) same ∙ (whole_at p ask is whole).0

-- what is at hand doesn't count
front_free : (front : List ℕ) (uri : Uri) (max from : ℕ) (answer : Answer) → from ≡ 0 → answered front (record { uri = uri; max = max; from = from; stage = true }) answer ≡ answered [] (record { uri = uri; max = max; from = from; stage = true }) answer
front_free front uri max from (answers.Served bytes) is =
    subst (λ (n : ℕ). answered front (record { uri = uri; max = max; from = n; stage = true }) (answers.Served bytes) ≡ answered [] (record { uri = uri; max = max; from = n; stage = true }) (answers.Served bytes)) (sym is) refl
front_free front uri max from (answers.Moved place) is = refl
front_free front uri max from (answers.Absent status) is = refl

same_ask : (ask : Ask) (job : Job) → job ≡ record { no = 0; uri = ask.uri; max = ask.max; from = ask.from } → ask.stage ≡ true → ask_of true job ≡ ask
same_ask ask job same staged = ap (ask_of true) same ∙ (λ i. record { uri = ask.uri; max = ask.max; from = ask.from; stage = sym staged i })

answered_so : (front : List ℕ) (ask : Ask) (job : Job) (entries : MirrorMap) → job ≡ record { no = 0; uri = ask.uri; max = ask.max; from = ask.from } → ask.from ≡ 0 → ask.stage ≡ true
    → answered front (ask_of true job) (answer_at entries job.uri) ≡ answered [] ask (answer_at entries ask.uri)
answered_so front ask job entries same whole staged =
    front_free front job.uri job.max job.from (answer_at entries job.uri) (ap (λ (j : Job). j.from) same ∙ whole)
    ∙ ap (λ (a : Ask). answered [] a (answer_at entries job.uri)) (same_ask ask job same staged)
    ∙ ap (λ (j : Job). answered [] ask (answer_at entries j.uri)) same

known_of : (now : List State) (closed : Closed) → IsTold now → IsKnown now closed
known_of now (Served body) told = told
known_of now (Not end) told = tt

same_answer : (world : Option MirrorMap) (front : List ℕ) (ask : Ask) (job : Job) (closed : Closed) → job ≡ record { no = 0; uri = ask.uri; max = ask.max; from = ask.from } → ask.from ≡ 0 → ask.stage ≡ true
    → IsAnswer world front true job closed → IfSome world (λ entries. IsFaultOr closed (answered [] ask (answer_at entries ask.uri)))
same_answer None front ask job closed same whole staged answer = tt
same_answer (Some entries) front ask job closed same whole staged answer = subst (λ (said : Closed). IsFaultOr closed said) (answered_so front ask job entries same whole staged) answer.told

pub has_asked : (retries : ℕ) (world : Option MirrorMap) (name : List ℕ) (before after : ℕ) (old now : List State) (p q : Point) (ask : Ask) (job : Job) (closed : Closed)
    → Some ask ≡ asked p → AsksWhole p → job ≡ record { no = 0; uri = ask.uri; max = ask.max; from = ask.from } → q ≡ point_after retries p (record { lane = 0; closed = closed })
    → IsCounted before after closed → IsStagedBody name now closed → (IsKnown now closed → IsAnswer world (part_bytes old name) true job closed) → HasAsked retries world name before after now p q
has_asked retries world name before after old now p q ask job closed is whole same step counted staged answer =
    let at = ask_at p ask is in
    let both = whole_at p ask is whole in
    record {
      ask = ask;
      left = at.left;
      faults = at.faults;
      next = at.next;
      at = at.at;
      closed = closed;
      step = step;
      counted = counted;
      staged = staged;
      answer = λ told. same_answer world (part_bytes old name) ask job closed same both.0 both.1 (answer (known_of now closed told));
    }
