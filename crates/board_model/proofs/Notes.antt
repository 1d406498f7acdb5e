-- The notes of a run: each is of an item of the plan, and they are as many as the items have.
use Rattle.std.proofs.Common.{◌≡◌, ◌≤◌, ◌∙◌, ℕ, zero, suc, ◌+◌, nat_eq, Bool, true, false, List, [], ◌∷◌, ◌++◌, length, Option, Some, None, refl, sym, ap, arith}
use Rattle.std.specs.Prelude.{if◌then◌else◌, slice_get, Ok}
use Rattle.std.specs.List.{list_any, AllByRecursion as Each}
use Rattle.std.proofs.lemmas.Bool.Decides.{nat_tests}
use Rattle.acq_base.specs.declared.fetch.Job.{Job}
use Rattle.acq_base.specs.declared.installed.Old.{Old}
use Rattle.acq_base.specs.declared.plan.Source.{Source}
use Rattle.release_file.specs.Release.{release_of}
use Rattle.update_model.specs.Laws.{SetsAreAdmissible}
use Rattle.update_model.specs.Outcomes.{AdmittedRelease, outcome}
use Rattle.update_model.specs.declared.ask.Closed.{Closed}
use Rattle.update_model.specs.declared.settled.Settled.{Settled}
use Rattle.board_model.specs.Boards.{Asker, asker_of, first_ready, lane_with, settled_of, took_from}
use Rattle.board_model.specs.Jobs.{one_if}
use Rattle.board_model.specs.Keys.{key_at, same_key}
use Rattle.board_model.specs.Runs.{Answered, Event, Issue, Answer, Absorb, Settle, Note, BoardRun, answered, happens, noted, note_of, run, settle_as, settle_first, take_first, lane_answer_of, without_job}
use Rattle.board_model.specs.Slots.{Setup, joined}
use Rattle.board_model.specs.Stands.{HasCome, entries_of, of_key}
use Rattle.board_model.specs.declared.key.Key.{Key}
use Rattle.board_model.proofs.Askers.{asker-asks}

-- ---- each note is of an item of the plan

-- a key of the plan
abbrev pub IsKnown : List Source → Note → Type 0
IsKnown sources note = (number : ℕ) × (key_at sources number ≡ Some note.key)

pub record AllKnown (config : Setup) (w : BoardRun) : Type 0 where
  pub config_is : w.board.config ≡ config
  pub known : Each (IsKnown config.sources) w.notes

each-append : (P : Note → Type 0) (notes : List Note) (note : Note) → Each P notes → P note → Each P (notes ++ note ∷ [])
each-append P [] note h new = (new, tt)
each-append P (n ∷ notes) note h new = (h.0, each-append P notes note h.1 new)

each-nil : (P : Note → Type 0) (notes : List Note) → Each P notes → Each P (notes ++ [])
each-nil P [] h = tt
each-nil P (n ∷ notes) h = (h.0, each-nil P notes h.1)

take-known : (config : Setup) (w : BoardRun) (queue : List Answered) → AllKnown config w → AllKnown config (take_first w queue)
take-known config w [] h = h
take-known config w (x ∷ queue) h = one (lane_with w.board.out x.job.no) (asker_of w.board x.job.no) refl
  where
    same-config : (from : Option ℕ) (asker : Option Asker) → (took_from w.board x.job.no (lane_answer_of x) from asker).config ≡ config
    same-config None asker = h.config_is
    same-config (Some from) None = h.config_is
    same-config (Some from) (Some a) = h.config_is

    one : (from : Option ℕ) (asker : Option Asker) → asker_of w.board x.job.no ≡ asker
        → AllKnown config (record { board = took_from w.board x.job.no (lane_answer_of x) from asker; jobs = without_job from asker w.jobs; queue = queue; notes = w.notes ++ noted (lane_answer_of x) from asker })
    one None asker is = record { config_is = same-config None asker; known = each-nil (IsKnown config.sources) w.notes h.known }
    one (Some from) None is = record { config_is = same-config (Some from) None; known = each-nil (IsKnown config.sources) w.notes h.known }
    one (Some from) (Some a) is = record {
      config_is = same-config (Some from) (Some a);
      known = each-append (IsKnown config.sources) w.notes (note_of a (lane_answer_of x)) h.known
          (x.job.no, ap (λ (c : Setup). key_at c.sources x.job.no) (sym h.config_is) ∙ (asker-asks w.board x.job.no a is).key_is);
    }

settle-known : (config : Setup) (w : BoardRun) → AllKnown config w → AllKnown config (happens w Settle)
settle-known config w h = one (first_ready w.board.slots)
  where
    two : (n : ℕ) (settled : Option Settled) → AllKnown config (settle_as w n settled)
    two n None = h
    two n (Some settled) = record { config_is = h.config_is; known = h.known }

    one : (first : Option ℕ) → AllKnown config (settle_first w first)
    one None = h
    one (Some n) = two n (settled_of w.board n)

answered-known : (config : Setup) (w : BoardRun) (method : ℕ) (closed : Closed) (job : Option Job) → AllKnown config w → AllKnown config (answered w method closed job)
answered-known config w method closed None h = h
answered-known config w method closed (Some job) h = one (list_any (λ (a : Answered). nat_eq a.job.no job.no) w.queue)
  where
    one : (c : Bool) → AllKnown config (if c then w else record w { queue = w.queue ++ (record { job = job; lane = method; closed = closed }) ∷ [] })
    one true = h
    one false = record { config_is = h.config_is; known = h.known }

event-known : (config : Setup) (w : BoardRun) (event : Event) → AllKnown config w → AllKnown config (happens w event)
event-known config w (Issue lane) h = record { config_is = h.config_is; known = h.known }
event-known config w (Answer lane method closed) h = answered-known config w method closed (joined (slice_get w.jobs lane)) h
event-known config w Absorb h = take-known config w w.queue h
event-known config w Settle h = settle-known config w h

pub run-known : (config : Setup) (events : List Event) (w : BoardRun) → AllKnown config w → AllKnown config (run events w)
run-known config [] w h = h
run-known config (event ∷ events) w h = run-known config events (happens w event) (event-known config w event h)

-- ---- as many notes as the items have

unfoldable pub heard_by_keys : List Key → List Note → ℕ
heard_by_keys [] notes = 0
heard_by_keys (key ∷ keys) notes = length (of_key key notes) + heard_by_keys keys notes

unfoldable pub times_key : Key → List Key → ℕ
times_key key [] = 0
times_key key (k ∷ keys) = one_if (same_key key k) + times_key key keys

pub one-more : (keys : List Key) (note : Note) (notes : List Note) → heard_by_keys keys (note ∷ notes) ≡ times_key note.key keys + heard_by_keys keys notes
unfolding heard_by_keys times_key
one-more [] note notes = omega arith
one-more (key ∷ keys) note notes =
    let rest = one-more keys note notes in
    let here : length (of_key key (note ∷ notes)) ≡ one_if (same_key note.key key) + length (of_key key notes) = one (same_key note.key key) in
    omega (arith, rest, here)
  where
    one : (c : Bool) → length (if c then note ∷ of_key key notes else of_key key notes) ≡ one_if c + length (of_key key notes)
    one true = omega arith
    one false = omega arith

pub key-there : (keys : List Key) (number : ℕ) (key : Key) → slice_get keys number ≡ Some key → 1 ≤ times_key key keys
unfolding times_key
key-there [] number key e = absurd (cc)
key-there (k ∷ keys) zero key e =
    let same : k ≡ key = cc in
    let itself : same_key key key ≡ true = grind (arith, nat_tests) in
    let own : one_if (same_key key key) ≡ 1 = ap one_if itself in
    let here : one_if (same_key key k) ≡ 1 = ap (λ (x : Key). one_if (same_key key x)) same ∙ own in
    omega (arith, here)
key-there (k ∷ keys) (suc number) key e = let rest = key-there keys number key e in omega (arith, rest)

pub length-entries : (notes : List Note) → length (entries_of notes) ≡ length notes
length-entries [] = refl
length-entries (note ∷ notes) = ap suc (length-entries notes)

-- ---- a set that has come

-- what a source came to is a Release that was read
pub read-of : SetsAreAdmissible → (config : Setup) (n : ℕ) (source : Source) (old : Old) (heard : List Note) (set : AdmittedRelease) → HasCome config n source old heard (Ok set) → release_of set.bytes ≡ Ok set.release
read-of law config n source old heard set h =
    let made : outcome h.end [] old.release config.settings config.change config.now ≡ Ok set = rw h.came_to refl in
    ((law h.end [] old.release config.settings config.change config.now set).0 made).1
