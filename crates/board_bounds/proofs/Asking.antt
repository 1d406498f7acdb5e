-- What an item of a board asks, over a sound plan.
use Rattle.std.proofs.Common.{◌≡◌, ◌<◌, ◌∙◌, ◌⊎◌, inl, inr, ℕ, zero, suc, ◌+◌, Bool, true, false, List, [], ◌∷◌, Option, Some, None, refl, sym, ap, subst, arith}
use Rattle.std.specs.Prelude.{if◌then◌else◌, option_map, option_and_then, slice_get}
use Rattle.acq_base.specs.Plan.{IsPlanned}
use Rattle.acq_base.specs.Uri.{IsSound}
use Rattle.acq_base.specs.declared.fetch.Job.{Job}
use Rattle.acq_base.specs.declared.installed.Old.{Old}
use Rattle.acq_base.specs.declared.plan.Source.{Source}
use Rattle.acq_base.specs.declared.plan.Target.{Target}
use Rattle.acq_base.specs.declared.sum.Sum.{Sum}
use Rattle.host_queues.specs.Lanes.{first_of}
use Rattle.item_graph.specs.Refinement.{asked}
use Rattle.item_graph.specs.Sound.{AsksSoundly, ListsAskSoundly}
use Rattle.release_file.specs.declared.release.Release.{Release}
use Rattle.update_model.specs.Laws.{SetsAreAdmissible}
use Rattle.update_model.specs.Releases.{release_text}
use Rattle.update_model.specs.Walks.{Walk, release_walk}
use Rattle.update_model.specs.declared.ask.Ask.{Ask}
use Rattle.update_model.specs.declared.settled.Verdict2.{Verdict2}
use Rattle.board_model.specs.Boards.{Asker, Board, asker_of, is_out, job_for}
use Rattle.board_model.specs.CallLaws.{AsksBeginWell}
use Rattle.board_model.specs.Keys.{named, same_key}
use Rattle.board_model.specs.Laws.{BoardsStand}
use Rattle.board_model.specs.Reached.{Reached}
use Rattle.board_model.specs.Runs.{Note}
use Rattle.board_model.specs.Slots.{Setup, Standing, Slot, Asking, Listing, Refused, SettledSlot, ask_of, item_in, joined}
use Rattle.board_model.specs.Stands.{AllStand, ItemHasHeard, History, IsOpen, ListStands, ListsStand, SourceStands, StandsAt, history_of, of_key, lane_answers, walk_of}
use Rattle.board_model.specs.declared.key.Key.{Key}
use Rattle.board_model.proofs.Askers.{asker-asks}
use Rattle.board_model.proofs.Resting.{olds-there}
use Rattle.board_model.proofs.Notes.{read-of}
use Rattle.board_bounds.proofs.Listed.{listed-written}
use Rattle.board_bounds.proofs.Walking.{AreSound, list-walks, release-walks, walk-sound, at_all}
use Rattle.board_bounds.specs.Fetching.{AsksMayBeFetched, IssuedJobsMayBeHanded, JobsOutMayBeHanded, LeadSoundly, MayBeFetched, MayBeHanded}

-- ---- what was heard

key-sound : (key : Key) (notes : List Note) → LeadSoundly notes → LeadSoundly (of_key key notes)
key-sound key [] h = tt
key-sound key (note ∷ notes) h = one (key-sound key notes h.1) (same_key note.key key)
  where
    one : LeadSoundly (of_key key notes) → (c : Bool) → LeadSoundly (if c then note ∷ of_key key notes else of_key key notes)
    one rest true = (h.0, rest)
    one rest false = rest

told-sound : (notes : List Note) → LeadSoundly notes → AreSound (lane_answers notes)
told-sound [] h = tt
told-sound (note ∷ notes) h = (h.0, told-sound notes h.1)

-- ---- an item that asks, with its source as it stands

list-of : (config : Setup) (n : ℕ) (source : Source) (old : Old) (release : Release) (place : ℕ) (targets : List Target) (lists : List (Option Standing)) (history : History) (k : ℕ) (item : Standing)
    → ListsStand config n source old release place targets lists history → slice_get lists k ≡ Some (Some item)
    → (target : Target) × (slice_get targets k ≡ Some target) × ListStands config n source old release target (history (place + k)) (Some item)
list-of config n source old release place [] lists history k item h e =
    let none : slice_get [] k ≡ Some (Some item) = subst (λ (xs : List (Option Standing)). slice_get xs k ≡ Some (Some item)) h e in
    absurd (cc)
list-of config n source old release place (t ∷ targets) [] history k item h e = absurd h
list-of config n source old release place (t ∷ targets) (list ∷ lists) history zero item h e =
    let same : list ≡ Some item = cc in
    let here : place ≡ place + 0 = omega arith in
    (t, refl, subst (λ (p : ℕ). ListStands config n source old release t (history p) (Some item)) here (subst (λ (x : Option Standing). ListStands config n source old release t (history place) x) same h.0))
list-of config n source old release place (t ∷ targets) (list ∷ lists) history (suc k) item h e =
    let rest = list-of config n source old release (suc place) targets lists history k item h.1 e in
    let here : suc place + k ≡ place + suc k = omega arith in
    (rest.0, rest.1, subst (λ (p : ℕ). ListStands config n source old release rest.0 (history p) (Some item)) here rest.2)

-- ---- whether it is sound

pub record Laws : Type 0 where
  pub stand : BoardsStand
  pub lists : ListsAskSoundly
  pub sets : SetsAreAdmissible
  pub begin : AsksBeginWell

heard-sound : (config : Setup) (n : ℕ) (path : List ℕ) (walk : Walk) (heard : List Note) (item : Standing) (ask : Ask) → ItemHasHeard config.settings.retries n path walk heard item
    → AsksSoundly walk → LeadSoundly heard → ask_of (Some item) ≡ Some ask → IsSound ask.uri
heard-sound config n path walk heard item ask h walks sound e =
    walk-sound config.settings.retries walk (lane_answers heard) ask walks (told-sound heard sound) (ap asked (sym h.stands) ∙ e)

open-sound : Laws → (config : Setup) (n : ℕ) (source : Source) (old : Old) (slot : Slot) (history : History) (place : ℕ) (ask : Ask) → IsPlanned source → ((p : ℕ) → LeadSoundly (history p))
    → IsOpen config n source old slot history → ask_of (item_in slot place) ≡ Some ask → IsSound ask.uri
open-sound laws config n source old (Asking kept release) history zero ask planned sound h e =
    heard-sound config n release_text (release_walk source) (history 0) release ask h.1 (release-walks source planned) (sound 0) e
open-sound laws config n source old (Asking kept release) history (suc place) ask planned sound h e = absurd (cc)
open-sound laws config n source old (Listing set there lists) history zero ask planned sound h e = absurd (cc)
open-sound laws config n source old (Listing set there lists) history (suc k) ask planned sound h e = one (slice_get lists k) refl e
  where
    one : (o : Option (Option Standing)) → slice_get lists k ≡ o → ask_of (joined o) ≡ Some ask → IsSound ask.uri
    one None is e = absurd (cc)
    one (Some None) is e = absurd (cc)
    one (Some (Some item)) is e =
        let found = list-of config n source old set.release 1 source.targets lists history k item h.2 is in
        let target : Target = found.0 in
        let sum : Sum = found.2.0 in
        let written = listed-written set.bytes target.path set.release sum (read-of laws.sets config n source old (history 0) set h.0) found.2.1 in
        heard-sound config n target.path (walk_of config source old set.release target sum) (history (1 + k)) item ask found.2.2
        (list-walks laws.lists source set.release config.settings k target sum (named old.lists target.name.0) (config.sizes target.name.0) planned found.1 written)
        (sound (1 + k)) e
open-sound laws config n source old (Refused why) history place ask planned sound h e = absurd (cc)
open-sound laws config n source old SettledSlot history place ask planned sound h e = absurd (cc)

stood-sound : Laws → (config : Setup) (n : ℕ) (source : Source) (old : Old) (slot : Slot) (verdict : Verdict2) (history : History) (place : ℕ) (ask : Ask) → IsPlanned source → ((p : ℕ) → LeadSoundly (history p))
    → SourceStands config n source old slot verdict history → ask_of (item_in slot place) ≡ Some ask → IsSound ask.uri
stood-sound laws config n source old slot verdict history place ask planned sound (inl h) e = open-sound laws config n source old slot history place ask planned sound h e
stood-sound laws config n source old slot verdict history place ask planned sound (inr h) e =
    let none : ask_of (item_in SettledSlot place) ≡ Some ask = subst (λ (s : Slot). ask_of (item_in s place) ≡ Some ask) h.0 e in
    absurd (cc)

pub reached-stands : BoardsStand → (config : Setup) (olds : List Old) (notes : List Note) (b : Board) (r : Reached config olds notes b) → AllStand config olds (record { board = b; jobs = r.jobs; queue = []; notes = notes })
reached-stands law config olds notes b r = subst (AllStand config olds) r.leads (law config olds r.lanes r.events)

pub asks-fetched : Laws → AsksMayBeFetched
asks-fetched laws config olds notes b number a planned sound r is =
    let stand = reached-stands laws.stand config olds notes b r in
    let asks = asker-asks b number a is in
    let there : slice_get config.sources a.key.source ≡ Some a.source = ap (λ (c : Setup). slice_get c.sources a.key.source) (sym stand.config_is) ∙ asks.source_is in
    let old = olds-there config.sources olds a.key.source a.source r.each there in
    let at : StandsAt config a.key.source a.source old.0 (record { board = b; jobs = r.jobs; queue = []; notes = notes }) = stand.sources a.key.source a.source old.0 there old.1 in
    let both : Some asks.slot ≡ Some at.slot = sym asks.slot_is ∙ at.slot_is in
    let same : asks.slot ≡ at.slot = cc in
    let asking : ask_of (item_in at.slot a.key.place) ≡ Some a.ask = subst (λ (s : Slot). ask_of (item_in s a.key.place) ≡ Some a.ask) same asks.asks in
    let begins = laws.begin config olds notes b number a r is in
    record {
      sound = stood-sound laws config a.key.source a.source old.0 at.slot at.verdict (history_of a.key.source notes) a.key.place a.ask
          (at_all IsPlanned config.sources a.key.source a.source planned there)
          (λ p. key-sound (record { source = a.key.source; place = p }) notes sound) at.stands asking;
      begin = from a.ask begins.from;
      held = begins.staged;
    }
  where
    from : {S : Type 0} (ask : Ask) → (ask.from ≡ 0) ⊎ (S × (ask.from < ask.max)) → (ask.from ≡ 0) ⊎ (ask.from < ask.max)
    from ask (inl whole) = inl whole
    from ask (inr part) = inr part.1

-- ---- jobs

job-handed : (number : ℕ) (ask : Ask) (job : Job) → job_for number ask ≡ job → MayBeFetched ask → MayBeHanded job
job-handed number ask job same h = subst MayBeHanded same (record { sound = h.sound; begin = h.begin })

mapped : (o : Option Asker) (number : ℕ) (job : Job) → option_map (λ (a : Asker). job_for number a.ask) o ≡ Some job → (a : Asker) × (o ≡ Some a) × (job_for number a.ask ≡ job)
mapped None number job e = absurd (cc)
mapped (Some a) number job e = (a, refl, cc)

pub issued-handed : Laws → IssuedJobsMayBeHanded
issued-handed laws config olds notes b lane job planned sound r is = one (first_of b.lanes lane) is
  where
    one : (o : Option ℕ) → option_and_then (λ number. option_map (λ (a : Asker). job_for number a.ask) (asker_of b number)) o ≡ Some job → MayBeHanded job
    one None e = absurd (cc)
    one (Some number) e =
        let a = mapped (asker_of b number) number job e in
        job-handed number a.0.ask job a.2 (asks-fetched laws config olds notes b number a.0 planned sound r a.1)

pub out-handed : Laws → JobsOutMayBeHanded
out-handed laws config olds notes b number job planned sound r is = one (is_out b number) is
  where
    one : (c : Bool) → (if c then option_map (λ (a : Asker). job_for number a.ask) (asker_of b number) else None) ≡ Some job → MayBeHanded job
    one true e =
        let a = mapped (asker_of b number) number job e in
        job-handed number a.0.ask job a.2 (asks-fetched laws config olds notes b number a.0 planned sound r a.1)
    one false e = absurd (cc)
