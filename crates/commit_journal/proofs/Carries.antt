-- A record is carried out and its gate shut.
use Rattle.std.proofs.Common.{◌≡◌, ◌≢◌, ◌⊎◌, inl, inr, ⊎_elim, refl, sym, ap, ◌∙◌, subst, arith, ℕ, ◌<◌, min, nat_eq, Bool, true, false, if◌then◌else◌, List, [], ◌∷◌, ◌++◌, length, set, drop, Option, Some, None, option_map, Result, Ok, OnOk}
use Rattle.std.proofs.Math.Path.{fun_ext}
use Rattle.std.proofs.lemmas.Bool.{cases_eq}
use Rattle.std.proofs.lemmas.Bool.Decides.{nat_tests}
use Rattle.std.proofs.lemmas.List.{get_or-set_same, get_or-set_other}
use Rattle.acq_outside.specs.Disk.{Files, same_name}
use Rattle.acq_outside.specs.Crash.{State, Names, IsOutcome, FitsAll, IsImage, IsSound, AllSound, IsTorn, Goes, after, changed_file, on_file, with_change, file_at, no_file, names_of, all_renamed, reads, synced, all_kept, file_written}
use Rattle.acq_outside.specs.States.{IsNow, Since, From}
use Rattle.acq_outside.proofs.Outcomes.{only_kept, only_synced, synced_outcome}
use Rattle.acq_outside.proofs.Traces.{apart_now, all_push}
use Rattle.acq_outside.proofs.Crashes.{reads_left, none_of_none}
use Rattle.acq_outside.proofs.Going.{goes}
use Rattle.acq_outside.specs.declared.change.DiskCall.TheVariants.{Write, Sync, SyncNames}
use Rattle.acq_outside.specs.declared.state.FileState.{FileState}
use Rattle.acq_outside.specs.declared.state.NameChange.{NameChange}
use Rattle.journal_model.specs.Names.{journal, partial, is_installed_name}
use Rattle.journal_model.specs.Steps.{moved_at, after_step, after_steps, IsIn, change_of, AreOf}
use Rattle.journal_model.specs.Reading.{journal_state_of, journal_state_in, journal_state_with, steps_of_body}
use Rattle.journal_model.specs.Reopen.{installed_files, opened, reopened, ReopensAsAt}
use Rattle.journal_model.specs.Rest.{AllChangeNoInstalledName, IsShut, PutsPart, IsSynced, IsIdle}
use Rattle.journal_model.proofs.Twice.{carried_again, partly_all, part_of, none_yet, carried_from_part, are_push, carried_push, renamed_is, NamesNothing, idle}
use Rattle.journal_model.proofs.Views.{view, image_view, view_image, settled_names, map_carried, gated_view, lists_same, list_not_journal, instead, instead_same, instead_other}
use Rattle.journal_model.proofs.Fine.{AreFine, open_bytes, open_fine}
use Rattle.journal_model.specs.declared.step.Step.{Step}
use Rattle.journal_model.specs.declared.step.Step.TheVariants.{Put, Drop}
use Rattle.journal_model.specs.declared.step.JournalState.TheVariants.{Open, Shut}
use Rattle.commit_journal.specs.Opening.{Recovers}
use Rattle.commit_journal.specs.Phases.{HasOpenRecord, IsCarrying, IsDone, IsGateBeingShut, call_of}
use Rattle.commit_journal.proofs.Recovers.{Counts, counts_not_journal, torn_recovers, names_go, sync_goes, never}

pub fine : (steps : List Step) (s : State) → HasOpenRecord steps s → AreFine steps
fine steps s says = open_fine says.bytes steps says.gate

says_bytes : (steps : List Step) (s : State) (says : HasOpenRecord steps s) (bytes : ℕ → List ℕ) → ((i : ℕ) → IsOutcome (file_at s.files i) (bytes i)) → bytes says.number ≡ says.bytes
says_bytes steps s says bytes outcomes = only_synced says.bytes (bytes says.number) (subst (λ (f : FileState). IsOutcome f (bytes says.number)) says.file (outcomes says.number))

-- in each image the gate stands open before these steps
part_journal : (steps : List Step) (s : State) (says : HasOpenRecord steps s) (some : List NameChange) → AreOf steps some → all_renamed s.base some journal ≡ Some says.number
part_journal steps s says some are =
    (partly_all steps s.base s.base some (fine steps s says).apart are (none_yet steps s.base)).others journal (λ step is touch. (fine steps s says).away step is touch) ∙ says.leads

pub carrying_gate : (steps : List Step) (s : State) (says : HasOpenRecord steps s) → AreOf steps s.pending → (image : Files) → IsImage s image → journal_state_in (image journal) ≡ Open steps
carrying_gate steps s says pending image is =
    let are = part_of steps is.some s.pending is.part pending in
    ap journal_state_in (is.shows journal ∙ ap (option_map is.bytes) (part_journal steps s says is.some are) ∙ ap (λ (b : List ℕ). Some b) (says_bytes steps s says is.bytes is.outcomes)) ∙ says.gate

-- and it stands for the lists with all of them done
carrying_view : (steps : List Step) (s : State) (says : HasOpenRecord steps s) → AreOf steps s.pending → (image : Files) (is : IsImage s image) → reopened image ≡ Some (installed_files (view (after_steps s.base steps) is.bytes))
carrying_view steps s says pending image is =
    let m : Names = all_renamed s.base is.some in
    ap (opened image) (carrying_gate steps s says pending image is)
    ∙ ap (λ (f : Files). Some (installed_files (after_steps f steps))) (image_view s image is)
    ∙ ap (λ (f : Files). Some (installed_files f)) (sym (map_carried is.bytes steps m))
    ∙ ap (λ (n : Names). Some (installed_files (view n is.bytes))) (fun_ext (carried_from_part steps s.base is.some s.pending (fine steps s says).apart pending is.part))

-- One more step.
carry_images : (steps : List Step) (s t : State) (says : HasOpenRecord steps s) → AreOf steps s.pending → AreOf steps t.pending → t.base ≡ s.base → t.files ≡ s.files → ReopensAsAt s t
carry_images steps s t says pending more base files image is =
    let says_t : HasOpenRecord steps t = record { number = says.number; leads = ap (λ (m : Names). m journal) base ∙ says.leads; bytes = says.bytes; file = ap (λ (l : List FileState). file_at l says.number) files ∙ says.file; gate = says.gate } in
    let outcomes : (i : ℕ) → IsOutcome (file_at s.files i) (is.bytes i) = λ i. subst (λ (l : List FileState). IsOutcome (file_at l i) (is.bytes i)) files (is.outcomes i) in
    record {
      before = view s.base is.bytes;
      was = view_image s is.bytes outcomes;
      same = carrying_view steps t says_t more image is ∙ ap (λ (m : Names). Some (installed_files (view (after_steps m steps) is.bytes))) base ∙ sym (carrying_view steps s says pending (view s.base is.bytes) (view_image s is.bytes outcomes));
    }

-- A file that counts after a step counted before it.
abbrev Of : List Step → List ℕ → Type 0
Of steps name = (is_installed_name name ≡ true) ⊎ PutsPart steps name

puts_in : (steps : List Step) (list : List ℕ) → IsIn (Put list) steps → PutsPart steps (partial list)
puts_in [] list is = absurd is
puts_in (s ∷ steps) list (inl same) = subst (λ (u : Step). PutsPart (u ∷ steps) (partial list)) same (inl refl)
puts_in (Put other ∷ steps) list (inr later) = inr (puts_in steps list later)
puts_in (Drop other ∷ steps) list (inr later) = puts_in steps list later

abbrev Led : List Step → Names → ℕ → Type 0
Led steps m i = (other : List ℕ) × Of steps other × (m other ≡ Some i)

led_moved : (steps : List Step) (m : Names) (list : List ℕ) (x : Option ℕ) (name : List ℕ) (i : ℕ) → m (partial list) ≡ x → Of steps (partial list) → Of steps name → moved_at m (partial list) list x name ≡ Some i → Led steps m i
led_moved steps m list None name i was kp k is = (name, k, is)
led_moved steps m list (Some j) name i was kp k is = by (same_name list name) (same_name (partial list) name) is
  where
    by : (a b : Bool) → (if a then Some j else (if b then None else m name)) ≡ Some i → Led steps m i
    by true b same = (partial list, kp, was ∙ same)
    by false true same = absurd cc
    by false false same = (name, k, same)

led_step : (steps : List Step) (m : Names) (step : Step) (name : List ℕ) (i : ℕ) → IsIn step steps → Of steps name → after_step m step name ≡ Some i → Led steps m i
led_step steps m (Put list) name i is k leads = led_moved steps m list (m (partial list)) name i refl (inr (puts_in steps list is)) k leads
led_step steps m (Drop list) name i is k leads = by (same_name list name) leads
  where
    by : (b : Bool) → (if b then None else m name) ≡ Some i → Led steps m i
    by true same = absurd cc
    by false same = (name, k, same)

pub open_same : (a b : List Step) → Open a ≡ Open b → a ≡ b
open_same a b is = cc

of_counts : (steps : List Step) (s : State) (says : HasOpenRecord steps s) → AreOf steps s.pending → (name : List ℕ) → Counts s name → Of steps name
of_counts steps s says pending name (inl list) = inl list
of_counts steps s says pending name (inr recorded) =
    inr (subst (λ (l : List Step). PutsPart l name) (open_same recorded.steps steps (sym recorded.gate ∙ carrying_gate steps s says pending recorded.image recorded.left)) recorded.puts)

counts_of : (steps : List Step) (s : State) → IsSound s → (says : HasOpenRecord steps s) → AreOf steps s.pending → (name : List ℕ) → Of steps name → Counts s name
counts_of steps s sound says pending name (inl list) = inl list
counts_of steps s sound says pending name (inr puts) = inr (record { image = reads s; left = reads_left s sound; steps = steps; gate = carrying_gate steps s says pending (reads s) (reads_left s sound); puts = puts })

carry_settled : (steps : List Step) (step : Step) (s t : State) → IsSound s → (says : HasOpenRecord steps s) (says_t : HasOpenRecord steps t) → AreOf steps s.pending → AreOf steps t.pending → IsIn step steps → t.files ≡ s.files → names_of t ≡ after_step (names_of s) step → IsSynced s → IsSynced t
carry_settled steps step s t sound says says_t pending more is files names settled name i counts leads =
    let led = led_step steps (names_of s) step name i is (of_counts steps t says_t more name counts) (sym (ap (λ (m : Names). m name) names) ∙ leads) in
    subst (λ (l : List FileState). file_at l i ≡ synced (file_at l i).seen) (sym files) (settled led.0 i (counts_of steps s sound says pending led.0 led.1) led.2)

from_of : Step → List ℕ
from_of (Put list) = partial list
from_of (Drop list) = list

after_call : (s : State) (step : Step) → after s (call_of step) ≡ with_change s (names_of s (from_of step)) (change_of step)
unfolding from_of
after_call s (Put list) = refl
after_call s (Drop list) = refl

nothing_there : (s : State) (step : Step) → names_of s (from_of step) ≡ None → NamesNothing (names_of s) step
unfolding from_of
nothing_there s (Put list) is = is
nothing_there s (Drop list) is = is

-- what a step keeps and what it makes
record Carries (steps done : List Step) (s t : State) : Type 0 where
  recovers : Recovers s t
  next : IsCarrying steps done t

carry_case : (steps done : List Step) (step : Step) (s : State) (o : Option ℕ) → IsSound s → IsIn step steps → (o ≡ None → NamesNothing (names_of s) step) → IsCarrying steps done s → Carries steps (done ++ step ∷ []) s (with_change s o (change_of step))
carry_case steps done step s None sound is nothing carrying = record {
  recovers = record { images = λ image left. record { before = image; was = left; same = refl }; synced = λ settled. settled };
  next = record {
    says = carrying.says;
    pending = carrying.pending;
    names = sym (fun_ext (λ name. idle (names_of s) step name (nothing refl))) ∙ ap (λ (m : Names). after_step m step) carrying.names ∙ sym (carried_push s.base done step);
  };
}
carry_case steps done step s (Some i) sound is nothing carrying =
    let t : State = with_change s (Some i) (change_of step) in
    let more : AreOf steps (s.pending ++ change_of step ∷ []) = are_push steps s.pending step is carrying.pending in
    let says_t : HasOpenRecord steps t = record { number = carrying.says.number; leads = carrying.says.leads; bytes = carrying.says.bytes; file = carrying.says.file; gate = carrying.says.gate } in
    let names : names_of t ≡ after_step (names_of s) step = all_push s.base s.pending (change_of step) ∙ renamed_is (names_of s) step in
    record {
      recovers = record { images = carry_images steps s t carrying.says carrying.pending more refl refl; synced = carry_settled steps step s t sound carrying.says says_t carrying.pending more is refl names };
      next = record { says = says_t; pending = more; names = names ∙ ap (λ (m : Names). after_step m step) carrying.names ∙ sym (carried_push s.base done step) };
    }

carry_done : (steps done : List Step) (step : Step) (s : State) → IsSound s → IsIn step steps → IsCarrying steps done s → Carries steps (done ++ step ∷ []) s (after s (call_of step))
carry_done steps done step s sound is carrying =
    subst (λ (t : State). Carries steps (done ++ step ∷ []) s t) (sym (after_call s step)) (carry_case steps done step s (names_of s (from_of step)) sound is (nothing_there s step) carrying)

no_file_changes : (s : State) (step : Step) → changed_file s (call_of step) ≡ None
no_file_changes s (Put list) = refl
no_file_changes s (Drop list) = refl

pub carry_goes : {T E : Type 0} (steps done : List Step) (step : Step) (old new : List State) (result : Result T E) → IsIn step steps → AllSound old → IsNow (IsCarrying steps done) old → Goes (call_of step) old new result
    → Since old new (From Recovers old) × OnOk result (IsNow (IsCarrying steps (done ++ step ∷ [])) new)
carry_goes steps done step old new result is_in sound stands is =
    goes Recovers (IsCarrying steps done) (IsCarrying steps (done ++ step ∷ [])) (call_of step) old new result sound
    (λ s sound_s carrying. (carry_done steps done step s sound_s is_in carrying).recovers)
    (λ s torn sound_s carrying part. torn_recovers None s (after s (call_of step)) torn (subst (λ (c : Option ℕ). IsTorn c (after s (call_of step)) torn) (no_file_changes s step) part) (λ n i counts leads. never i) (carry_done steps done step s sound_s is_in carrying).recovers)
    (λ s sound_s carrying. (carry_done steps done step s sound_s is_in carrying).next)
    stands is

-- All are done: the names are synced.
settle_ends : (steps : List Step) (s : State) → IsCarrying steps steps s → IsDone steps (after s SyncNames)
settle_ends steps s carrying =
    let apart = (fine steps s carrying.says).apart in
    record {
      says = record { number = carrying.says.number; leads = part_journal steps s carrying.says s.pending carrying.pending; bytes = carrying.says.bytes; file = carrying.says.file; gate = carrying.says.gate };
      unmoved = refl;
      done = fun_ext (carried_again steps s.base (names_of s) apart (partly_all steps s.base s.base s.pending apart carrying.pending (none_yet steps s.base))) ∙ sym carrying.names;
    }

pub settle_goes : {T E : Type 0} (steps : List Step) (old new : List State) (result : Result T E) → AllSound old → IsNow (IsCarrying steps steps) old → Goes SyncNames old new result → Since old new (From Recovers old) × OnOk result (IsNow (IsDone steps) new)
settle_goes steps old new result sound stands is = names_go (IsCarrying steps steps) (IsDone steps) old new result sound (λ s _ carrying. settle_ends steps s carrying) stands is

-- The gate is shut.
shut_cells : (body : List ℕ) → (file_written (synced (1 ∷ body)) 0 (0 ∷ [])).cells ≡ None ∷ all_kept body
shut_cells body = let low : min 0 (length (1 ∷ body)) ≡ 0 = omega arith in rw low refl

any_gate : (body bytes : List ℕ) → IsOutcome (file_written (synced (1 ∷ body)) 0 (0 ∷ [])) bytes → (gate : ℕ) × (bytes ≡ gate ∷ body)
any_gate body [] outcome = absurd (omega (arith, outcome.long))
any_gate body (gate ∷ rest) outcome =
    let fits : FitsAll (None ∷ all_kept body) (gate ∷ rest) = subst (λ (cells : List (Option ℕ)). FitsAll cells (gate ∷ rest)) (shut_cells body) outcome.fits in
    (gate, ap (λ (b : List ℕ). gate ∷ b) (only_kept body rest (omega (arith, outcome.long)) fits.1))

-- the disk with the journal's file changed
abbrev pub turned_state : State → ℕ → FileState → State
turned_state s j file = record { files = set s.files j file; base = s.base; pending = s.pending }

abbrev shut_file : List ℕ → FileState
shut_file bytes = file_written (synced bytes) 0 (0 ∷ [])

written_turned : (steps : List Step) (s : State) (done : IsDone steps s) → after s (Write journal 0 (0 ∷ [])) ≡ turned_state s done.says.number (shut_file done.says.bytes)
written_turned steps s done =
    ap (λ (o : Option ℕ). on_file s o (λ f. file_written f 0 (0 ∷ []))) (ap (λ (m : Names). m journal) (settled_names s done.unmoved) ∙ done.says.leads)
    ∙ ap (λ (f : FileState). record { files = set s.files done.says.number (file_written f 0 (0 ∷ [])); base = s.base; pending = s.pending }) done.says.file

pub journal_below : (s : State) (j : ℕ) → IsSound s → s.pending ≡ [] → s.base journal ≡ Some j → j < length s.files
journal_below s j sound unmoved leads = (apart_now s sound).below journal j (ap (λ (m : Names). m journal) (settled_names s unmoved) ∙ leads)

none_of : (steps : List Step) (s : State) → s.pending ≡ [] → AreOf steps s.pending
none_of steps s unmoved = subst (λ (l : List NameChange). AreOf steps l) (sym unmoved) tt

pub unmoved_view : (s : State) (image : Files) (is : IsImage s image) → s.pending ≡ [] → image ≡ view s.base is.bytes
unmoved_view s image is unmoved = image_view s image is ∙ ap (λ (some : List NameChange). view (all_renamed s.base some) is.bytes) (none_of_none is.some s.pending is.part unmoved)

-- the gate that a crash leaves
turned_gate : (steps : List Step) (s : State) (done : IsDone steps s) → IsSound s → (image : Files) (is : IsImage (turned_state s done.says.number (shut_file done.says.bytes)) image)
    → (gate : ℕ) × (is.bytes done.says.number ≡ gate ∷ (open_bytes done.says.bytes steps done.says.gate).body)
turned_gate steps s done sound image is =
    let j = done.says.number in
    let bytes_are = open_bytes done.says.bytes steps done.says.gate in
    let here : file_at (set s.files j (shut_file done.says.bytes)) j ≡ shut_file (1 ∷ bytes_are.body) = get_or-set_same s.files j (shut_file done.says.bytes) no_file (journal_below s j sound done.unmoved done.says.leads) ∙ ap shut_file bytes_are.is in
    any_gate bytes_are.body (is.bytes j) (subst (λ (f : FileState). IsOutcome f (is.bytes j)) here (is.outcomes j))

shut_images : (steps : List Step) (s : State) (done : IsDone steps s) → IsSound s → ReopensAsAt s (turned_state s done.says.number (shut_file done.says.bytes))
shut_images steps s done sound image is = record {
  before = view s.base (instead j says.bytes is.bytes);
  was = view_image s (instead j says.bytes is.bytes) outcome;
  same =
      now
      ∙ ap (λ (f : Files). Some f) (lists_same s.base s.base is.bytes (instead j says.bytes is.bytes) (λ name list. refl) (λ name i list leads. sym (instead_other j says.bytes is.bytes i (λ same. list_not_journal name list (sound.apart.one name journal i leads (says.leads ∙ ap (λ (k : ℕ). Some k) (sym same)))))))
      ∙ sym (carrying_view steps s says (none_of steps s done.unmoved) (view s.base (instead j says.bytes is.bytes)) (view_image s (instead j says.bytes is.bytes) outcome) ∙ ap (λ (m : Names). Some (installed_files (view m (instead j says.bytes is.bytes)))) done.done);
}
  where
    says : HasOpenRecord steps s
    says = done.says

    j : ℕ
    j = says.number

    outcome : (i : ℕ) → IsOutcome (file_at s.files i) (instead j says.bytes is.bytes i)
    outcome i = ⊎_elim
        (λ same. subst (λ (k : ℕ). IsOutcome (file_at s.files k) (instead j says.bytes is.bytes k)) (sym same) (subst (λ (b : List ℕ). IsOutcome (file_at s.files j) b) (sym (instead_same j says.bytes is.bytes)) (subst (λ (f : FileState). IsOutcome f says.bytes) (sym says.file) (synced_outcome says.bytes))))
        (λ differ. subst (λ (b : List ℕ). IsOutcome (file_at s.files i) b) (sym (instead_other j says.bytes is.bytes i differ)) (subst (λ (f : FileState). IsOutcome f (is.bytes i)) (get_or-set_other s.files j i (shut_file says.bytes) no_file differ) (is.outcomes i)))
        (cases_eq i j)

    at_gate : (gate : ℕ) (body : List ℕ) → is.bytes j ≡ gate ∷ body → steps_of_body body ≡ Ok steps → (t : Bool) → nat_eq gate 1 ≡ t → reopened (view s.base is.bytes) ≡ Some (installed_files (view s.base is.bytes))
    at_gate gate body holds reads true test =
        let one : gate ≡ 1 = grind (arith, nat_tests) in
        let open_now : journal_state_of (is.bytes j) ≡ Open steps = ap journal_state_of (holds ∙ ap (λ (g : ℕ). g ∷ body) one) ∙ ap (journal_state_with (length (1 ∷ body))) reads in
        gated_view s.base is.bytes (Open steps) (ap (λ (o : Option ℕ). journal_state_in (option_map is.bytes o)) says.leads ∙ open_now)
        ∙ ap (λ (f : Files). Some (installed_files f)) (sym (map_carried is.bytes steps s.base))
        ∙ ap (λ (m : Names). Some (installed_files (view m is.bytes))) done.done
    at_gate gate body holds reads false test =
        let shut_now : journal_state_of (is.bytes j) ≡ Shut = ap journal_state_of holds ∙ shut_case gate body test in
        gated_view s.base is.bytes Shut (ap (λ (o : Option ℕ). journal_state_in (option_map is.bytes o)) says.leads ∙ shut_now)
      where
        shut_case : (gate : ℕ) (body : List ℕ) → nat_eq gate 1 ≡ false → journal_state_of (gate ∷ body) ≡ Shut
        shut_case gate body test = rw test refl

    now : reopened image ≡ Some (installed_files (view s.base is.bytes))
    now =
        let gate = turned_gate steps s done sound image is in
        ap reopened (unmoved_view (turned_state s j (shut_file says.bytes)) image is done.unmoved)
        ∙ at_gate gate.0 (open_bytes says.bytes steps says.gate).body gate.1 (open_bytes says.bytes steps says.gate).read (nat_eq gate.0 1) refl

-- a list's file isn't the journal's
other_than_journal : (s : State) (j i : ℕ) (name : List ℕ) → IsSound s → s.pending ≡ [] → s.base journal ≡ Some j → name ≢ journal → names_of s name ≡ Some i → i ≢ j
other_than_journal s j i name sound unmoved leads differ led same =
    differ ((apart_now s sound).one name journal i led (ap (λ (m : Names). m journal) (settled_names s unmoved) ∙ leads ∙ ap (λ (k : ℕ). Some k) (sym same)))

abbrev read_ok : List Step → Result (List Step) ℕ
read_ok steps = Ok steps

steps_of_ok : (a b : List Step) → read_ok a ≡ read_ok b → a ≡ b
steps_of_ok a b is = cc

-- a record that a crash leaves open then is this one
turned_counts : (steps : List Step) (s : State) (done : IsDone steps s) → IsSound s → (name : List ℕ) → Counts (turned_state s done.says.number (shut_file done.says.bytes)) name → Counts s name
turned_counts steps s done sound name (inl list) = inl list
turned_counts steps s done sound name (inr recorded) =
    let t : State = turned_state s done.says.number (shut_file done.says.bytes) in
    let is = recorded.left in
    let gate = turned_gate steps s done sound recorded.image is in
    let body = (open_bytes done.says.bytes steps done.says.gate).body in
    let at : journal_state_of (gate.0 ∷ body) ≡ Open recorded.steps =
    sym (ap journal_state_in (ap (λ (f : Files). f journal) (unmoved_view t recorded.image is done.unmoved) ∙ ap (option_map is.bytes) done.says.leads ∙ ap (λ (b : List ℕ). Some b) gate.1)) ∙ recorded.gate in
    let found = open_bytes (gate.0 ∷ body) recorded.steps at in
    let same : body ≡ found.body = ap (drop 1) found.is in
    let steps_same : steps ≡ recorded.steps = steps_of_ok steps recorded.steps (sym (open_bytes done.says.bytes steps done.says.gate).read ∙ ap steps_of_body same ∙ found.read) in
    counts_of steps s sound done.says (none_of steps s done.unmoved) name (inr (subst (λ (l : List Step). PutsPart l name) (sym steps_same) recorded.puts))

shut_recovers : (steps : List Step) (s : State) (done : IsDone steps s) → IsSound s → Recovers s (turned_state s done.says.number (shut_file done.says.bytes))
shut_recovers steps s done sound = record {
  images = shut_images steps s done sound;
  synced = λ settled name i counts leads.
      let counts_s = turned_counts steps s done sound name counts in
      let differ = other_than_journal s done.says.number i name sound done.unmoved done.says.leads (counts_not_journal s name counts_s) leads in
      subst (λ (f : FileState). f ≡ synced f.seen) (sym (get_or-set_other s.files done.says.number i (shut_file done.says.bytes) no_file differ)) (settled name i counts_s leads);
}

shut_ends : (steps : List Step) (s : State) (done : IsDone steps s) → IsSound s → IsGateBeingShut (turned_state s done.says.number (shut_file done.says.bytes))
shut_ends steps s done sound =
    let bytes_are = open_bytes done.says.bytes steps done.says.gate in
    record {
      unmoved = done.unmoved;
      number = done.says.number;
      leads = done.says.leads;
      body = bytes_are.body;
      seen = ap (λ (f : FileState). f.seen) (get_or-set_same s.files done.says.number (shut_file done.says.bytes) no_file (journal_below s done.says.number sound done.unmoved done.says.leads) ∙ ap shut_file bytes_are.is);
    }

shut_away : (steps : List Step) (s : State) (done : IsDone steps s) → IsSound s → (name : List ℕ) (i : ℕ) → Counts (after s (Write journal 0 (0 ∷ []))) name → names_of (after s (Write journal 0 (0 ∷ []))) name ≡ Some i → Some i ≢ names_of s journal
shut_away steps s done sound name i counts leads same =
    let led : names_of s name ≡ Some i = sym (ap (λ (t : State). names_of t name) (written_turned steps s done)) ∙ leads in
    counts_not_journal (after s (Write journal 0 (0 ∷ []))) name counts ((apart_now s sound).one name journal i led (sym same))

pub shut_goes : {T E : Type 0} (steps : List Step) (name : List ℕ) (old new : List State) (result : Result T E) → name ≡ journal → AllSound old → IsNow (IsDone steps) old → Goes (Write name 0 (0 ∷ [])) old new result
    → Since old new (From Recovers old) × OnOk result (IsNow IsGateBeingShut new)
shut_goes steps name old new result same sound stands is =
    goes Recovers (IsDone steps) IsGateBeingShut (Write journal 0 (0 ∷ [])) old new result sound
    (λ s sound_s done. subst (λ (t : State). Recovers s t) (sym (written_turned steps s done)) (shut_recovers steps s done sound_s))
    (λ s torn sound_s done part. torn_recovers (names_of s journal) s (after s (Write journal 0 (0 ∷ []))) torn part (shut_away steps s done sound_s) (subst (λ (t : State). Recovers s t) (sym (written_turned steps s done)) (shut_recovers steps s done sound_s)))
    (λ s sound_s done. subst IsGateBeingShut (sym (written_turned steps s done)) (shut_ends steps s done sound_s))
    stands (subst (λ (n : List ℕ). Goes (Write n 0 (0 ∷ [])) old new result) same is)

pub kept_closed : (rest : List ℕ) → IsShut (synced (0 ∷ rest))
kept_closed rest = record { rest = all_kept rest; cells = refl; least = omega arith }

-- and lasts
closed_ends : (s : State) → IsSound s → IsGateBeingShut s → IsIdle (after s (Sync journal))
closed_ends s sound turned =
    let leads : names_of s journal ≡ Some turned.number = ap (λ (m : Names). m journal) (settled_names s turned.unmoved) ∙ turned.leads in
    let file : FileState = synced (0 ∷ turned.body) in
    let put : after s (Sync journal) ≡ turned_state s turned.number file =
    ap (λ (o : Option ℕ). on_file s o (λ f. synced f.seen)) leads ∙ ap (λ (b : List ℕ). turned_state s turned.number (synced b)) turned.seen in
    subst IsIdle (sym put) (record {
      aside = subst (λ (l : List NameChange). AllChangeNoInstalledName l) (sym turned.unmoved) tt;
      number = turned.number;
      leads = turned.leads;
      shut = subst IsShut (sym (get_or-set_same s.files turned.number file no_file (journal_below s turned.number sound turned.unmoved turned.leads))) (kept_closed turned.body);
    })

pub close_goes : {T E : Type 0} (name : List ℕ) (old new : List State) (result : Result T E) → name ≡ journal → AllSound old → IsNow IsGateBeingShut old → Goes (Sync name) old new result → Since old new (From Recovers old) × OnOk result (IsNow IsIdle new)
close_goes name old new result same sound stands is = sync_goes IsGateBeingShut IsIdle journal name old new result same sound closed_ends stands is
