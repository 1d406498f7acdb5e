-- Walks that ask soundly do so at each point to which sound answers lead.
use Rattle.std.proofs.Common.{◌≡◌, ◌≤◌, ℕ, zero, suc, List, [], ◌∷◌, length, map, All, codes, Option, Some, subst}
use Rattle.std.specs.Prelude.{slice_get}
use Rattle.std.specs.List.{AllByRecursion as Each}
use Rattle.std.proofs.lemmas.List.Elements.{All-head, All-tail}
use Rattle.acq_base.specs.Plan.{IsPlanned, IsSoundTarget}
use Rattle.acq_base.specs.Uri.{IsSound, list_name}
use Rattle.acq_base.specs.declared.plan.Source.{Source}
use Rattle.acq_base.specs.declared.plan.Target.{Target}
use Rattle.acq_base.specs.declared.settings.Settings.{Settings}
use Rattle.acq_base.specs.declared.sum.Sum.{Sum}
use Rattle.item_graph.specs.Refinement.{asked}
use Rattle.item_graph.specs.Sound.{AsksSoundly, IsSoundAt, IsSoundAnswer, ListsAskSoundly}
use Rattle.release_file.specs.declared.release.Release.{Release}
use Rattle.by_hash.proofs.Sound.{beside_sound}
use Rattle.update_model.specs.Points.{Point, Over, At, run, start, point_after}
use Rattle.update_model.specs.Releases.{release_end, release_limit}
use Rattle.update_model.specs.Trails.{LaneAnswer}
use Rattle.update_model.specs.Walks.{Walk, Finish, Try, after_in_release, release_walk, target_walk, whole_ask}
use Rattle.update_model.specs.Wanted.{want}
use Rattle.update_model.specs.declared.ask.Ask.{Ask}
use Rattle.update_model.specs.declared.ask.Ending.{Ending}
use Rattle.update_model.specs.declared.ask.Ending.TheVariants as endings
use Rattle.item_graph.proofs.Soundness.{start-sound, step-sound}
use Rattle.board_bounds.proofs.Beside.{hashed-sound, in_release-short}
use Rattle.board_bounds.specs.Readings.{IsWritten}

-- ---- all answers

abbrev pub AreSound : List LaneAnswer → Type 0
AreSound ts = Each (λ (t : LaneAnswer). IsSoundAnswer t.closed) ts

run-sound : (retries : ℕ) (p : Point) (ts : List LaneAnswer) → IsSoundAt p → AreSound ts → IsSoundAt (run retries p ts)
run-sound retries p [] at h = at
run-sound retries p (t ∷ ts) at h = run-sound retries (point_after retries p t) ts (step-sound retries p t at h.0) h.1

ask-sound : (p : Point) (ask : Ask) → IsSoundAt p → asked p ≡ Some ask → IsSound ask.uri
ask-sound (Over end) ask at e = absurd (cc)
ask-sound (At other left faults next) ask at e = let same : other ≡ ask = cc in subst (λ (a : Ask). IsSound a.uri) same at.0

-- where sound answers led a walk that asks soundly, what it asks is sound
pub walk-sound : (retries : ℕ) (walk : Walk) (ts : List LaneAnswer) (ask : Ask) → AsksSoundly walk → AreSound ts → asked (run retries (start retries walk) ts) ≡ Some ask → IsSound ask.uri
walk-sound retries walk ts ask walks h e = ask-sound (run retries (start retries walk) ts) ask (run-sound retries (start retries walk) ts (start-sound retries walk walks) h) e

-- ---- the walks of a source

release-short : (source : Source) → IsPlanned source → length (list_name source.release) ≤ 240
release-short source planned =
    subst (λ (name : List ℕ). length name ≤ 240) planned.sound.named
    (All-head (λ name. length name ≤ 240) source.release_name.0 (map (λ (t : Target). t.name.0) source.targets) planned.short)

pub release-walks : (source : Source) → IsPlanned source → AsksSoundly (release_walk source)
release-walks source planned = (
  beside_sound source.release (codes "InRelease") planned.sound.release (release-short source planned) in_release-short,
  λ e. one e,
)
  where
    last : Walk
    last = Try (whole_ask source.release release_limit) (λ e. Finish (release_end e))

    last-sound : AsksSoundly last
    last-sound = (planned.sound.release, λ e. tt)

    one : (e : Ending) → AsksSoundly (after_in_release e last)
    one (endings.Served body) = tt
    one (endings.Dead lane before after) = tt
    one endings.TooBig = last-sound
    one (endings.Absent status) = last-sound
    one endings.Lost = last-sound
    one (endings.Garbled at) = last-sound

pub at_all : {A : Type 0} (P : A → Type 0) (xs : List A) (n : ℕ) (x : A) → All P xs → slice_get xs n ≡ Some x → P x
at_all P [] n x all e = absurd (cc)
at_all P (y ∷ xs) zero x all e = let same : y ≡ x = cc in subst P same (All-head P y xs all)
at_all P (y ∷ xs) (suc n) x all e = at_all P xs n x (All-tail P y xs all) e

name-short : (targets : List Target) (k : ℕ) (target : Target) → All (λ name. length name ≤ 240) (map (λ (t : Target). t.name.0) targets) → slice_get targets k ≡ Some target
    → length target.name.0 ≤ 240
name-short [] k target all e = absurd (cc)
name-short (t ∷ targets) zero target all e =
    let same : t ≡ target = cc in
    subst (λ (x : Target). length x.name.0 ≤ 240) same (All-head (λ name. length name ≤ 240) t.name.0 (map (λ (t : Target). t.name.0) targets) all)
name-short (t ∷ targets) (suc k) target all e = name-short targets k target (All-tail (λ name. length name ≤ 240) t.name.0 (map (λ (t : Target). t.name.0) targets) all) e

pub list-walks : ListsAskSoundly → (source : Source) (release : Release) (settings : Settings) (k : ℕ) (target : Target) (sum : Sum) (installed : Option (List ℕ)) (part : ℕ)
    → IsPlanned source → slice_get source.targets k ≡ Some target → IsWritten sum → AsksSoundly (target_walk installed part (want source release settings target sum))
list-walks law source release settings k target sum installed part planned there written =
    let sound : IsSoundTarget target = at_all IsSoundTarget source.targets k target planned.sound.targets there in
    let short : length target.name.0 ≤ 240 =
    name-short source.targets k target (All-tail (λ name. length name ≤ 240) source.release_name.0 (map (λ (t : Target). t.name.0) source.targets) planned.short) there in
    let named : length (list_name target.uri) ≤ 240 = subst (λ (name : List ℕ). length name ≤ 240) sound.named short in
    law installed part (want source release settings target sum) sound.uri (hashed-sound source target sum release.by_hash sound.uri named written) named
