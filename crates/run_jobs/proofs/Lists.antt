-- What a board knows as installed, while a disk goes on.
use Rattle.std.proofs.Common.{◌≡◌, ◌∙◌, ℕ, List, [], ◌∷◌, ◌++◌, Contains, Option, Some, None, map, refl, sym, ap, subst, arith}
use Rattle.std.specs.Prelude.{option_map, slice_get}
use Rattle.std.specs.List.{AllByRecursion as Each}
use Rattle.std.proofs.lemmas.List.Elements.{Contains-append_right}
use Rattle.acq_base.specs.Plan.{IsPlanned, names_of}
use Rattle.acq_base.specs.declared.installed.Old.{Old}
use Rattle.acq_base.specs.declared.plan.Source.{Source}
use Rattle.acq_base.specs.declared.plan.Target.{Target}
use Rattle.acq_base.specs.declared.uri.ListName.{ListName}
use Rattle.acq_outside.specs.Crash.{State, reads}
use Rattle.acq_outside.specs.Disk.{Files}
use Rattle.acq_outside.specs.States.{IsNow, IsTold}
use Rattle.acq_outside.specs.declared.state.FileState.{FileState}
use Rattle.board_bounds.proofs.Walking.{at_all}
use Rattle.board_bounds.specs.Names.{PartialNamesAreOthers}
use Rattle.board_model.specs.Boards.{Board, absorbed, asker_of, first_board, issued, settled_as}
use Rattle.board_model.specs.ReadAnew.{ReadAnewAreReached, StandsOn, with_old}
use Rattle.board_model.specs.Slots.{Asking, Setup, Standing}
use Rattle.board_model.specs.Uses.{wanted_part}
use Rattle.job_fetch.specs.Hearing.{ChangesFile}
use Rattle.journal_model.proofs.Aside.{reads_named}
use Rattle.journal_model.specs.Rest.{file_named, file_now}
use Rattle.lists_dir.specs.Installed.{installed_of, listed, lists_of}
use Rattle.run_jobs.specs.Running.{IsSoundBegun, RunStart}
use Rattle.update_model.specs.declared.ask.Closed.{Closed}
use Rattle.update_model.specs.declared.settled.Verdict2.{Verdict2}

-- what is known of boards that know a source's files anew, and of what boards know as installed behind each call
pub record ListLaws : Type 0 where
  pub others : PartialNamesAreOthers
  pub anew : ReadAnewAreReached
  pub asker : (n : ℕ) (old : Old) (b : Board) (number : ℕ) → asker_of (with_old n old b) number ≡ asker_of b number
  pub wanted : (n : ℕ) (old : Old) (b : Board) (name : List ℕ) → wanted_part (with_old n old b) name ≡ wanted_part b name
  pub at_first : (installed : Source → Old) (config : Setup) (lanes : ℕ) → StandsOn installed (first_board config (map installed config.sources) lanes)
  pub after_issued : (installed : Source → Old) (b : Board) (lane : ℕ) → StandsOn installed b → StandsOn installed (issued b lane)
  pub after_absorbed : (installed : Source → Old) (b : Board) (method number : ℕ) (closed : Closed) → StandsOn installed b → StandsOn installed (absorbed b method number closed)
  pub after_settled : (installed : Source → Old) (b : Board) (n : ℕ) (verdict : Verdict2) → StandsOn installed b → StandsOn installed (settled_as b n verdict)
  pub alike : (installed other : Source → Old) (b : Board)
      → ((n : ℕ) (source : Source) (old : Old) (release : Standing) → slice_get b.config.sources n ≡ Some source → slice_get b.slots n ≡ Some (Asking old release) → installed source ≡ other source)
      → StandsOn installed b → StandsOn other b

-- where a disk tells, it has what the board knows as installed
abbrev pub HasLists : Board → List State → Type 0
HasLists b now = IsNow (λ s. StandsOn (installed_of (reads s)) b) now

pub now_map : (P Q : State → Type 0) (now : List State) → ((s : State) → P s → Q s) → IsNow P now → IsNow Q now
now_map P Q [] f is = tt
now_map P Q (s ∷ past) f is = f s is

-- ---- files that are read as they were

-- a file that stays is read as it was
pub read_alike : (s t : State) (name : List ℕ) → file_named t name ≡ file_named s name → reads t name ≡ reads s name
read_alike s t name same = reads_named t name ∙ ap (option_map (λ (f : FileState). f.seen)) same ∙ sym (reads_named s name)

lists_alike : (targets : List Target) (lists files : Files) → Each (λ name. files name ≡ lists name) (map (λ (t : Target). t.name.0) targets) → lists_of files targets ≡ lists_of lists targets
lists_alike [] lists files alike = refl
lists_alike (t ∷ targets) lists files alike =
    ap (λ (o : Option (List ℕ)). listed t o ++ lists_of files targets) alike.0
    ∙ ap (λ (xs : List (ListName × List ℕ)). listed t (lists t.name.0) ++ xs) (lists_alike targets lists files alike.1)

-- a source has the same installed where files have the same under its names
pub installed_alike : (source : Source) (lists files : Files) → Each (λ name. files name ≡ lists name) (names_of source) → installed_of files source ≡ installed_of lists source
installed_alike source lists files alike =
    ap (λ (o : Option (List ℕ)). record { release = o; lists = lists_of files source.targets }) alike.0
    ∙ ap (λ (xs : List (ListName × List ℕ)). record { release = lists source.release_name.0; lists = xs }) (lists_alike source.targets lists files alike.1)

each_in : (P : List ℕ → Type 0) (names : List (List ℕ)) → ((name : List ℕ) → Contains names name → P name) → Each P names
each_in P [] all = tt
each_in P (x ∷ xs) all = (all x (0, omega arith, refl), each_in P xs (λ name is. all name (Contains-append_right (x ∷ []) xs name is)))

-- the files under a source's names stay
abbrev pub KeepsSource : Source → List State → List State → Type 0
KeepsSource source old now = (name : List ℕ) → Contains (names_of source) name → file_now now name ≡ file_now old name

-- those of each source whose Release is asked for stay
abbrev pub KeepsAsked : Board → List State → List State → Type 0
KeepsAsked b old now =
    (n : ℕ) (source : Source) (files : Old) (release : Standing) → slice_get b.config.sources n ≡ Some source → slice_get b.slots n ≡ Some (Asking files release) → KeepsSource source old now

pub lists_stay : ListLaws → (b : Board) (old now : List State) → (IsTold now → IsTold old) → KeepsAsked b old now → HasLists b old → HasLists b now
lists_stay laws b old [] back keeps has = tt
lists_stay laws b [] (t ∷ past) back keeps has = absurd (back tt)
lists_stay laws b (s ∷ before) (t ∷ past) back keeps has =
    laws.alike (installed_of (reads s)) (installed_of (reads t)) b
    (λ n source files release at asks.
    sym (installed_alike source (reads s) (reads t) (each_in (λ name. reads t name ≡ reads s name) (names_of source) (λ name is. read_alike s t name (keeps n source files release at asks name is)))))
    has

-- ---- a job's words

-- the words of a job change no file under a source's name
changes_aside : ListLaws → (into : Option (List ℕ)) (old now : List State) (source : Source) → IsPlanned source → ChangesFile into old now → KeepsSource source old now
changes_aside laws None old now source planned is name own = rw is refl
changes_aside laws (Some list) old now source planned is name own = is.others name (λ same. laws.others source planned name list own (sym same))

pub lists_changed : ListLaws → (begun : RunStart) (b : Board) (into : Option (List ℕ)) (old now : List State) → IsSoundBegun begun → b.config ≡ begun.config → (IsTold now → IsTold old) → ChangesFile into old now
    → HasLists b old → HasLists b now
lists_changed laws begun b into old now sound config back changes has =
    lists_stay laws b old now back
    (λ n source files release at asks.
    let source_is : slice_get begun.config.sources n ≡ Some source = subst (λ (c : Setup). slice_get c.sources n ≡ Some source) config at in
    changes_aside laws into old now source (at_all IsPlanned begun.config.sources n source sound.planned source_is) changes)
    has
