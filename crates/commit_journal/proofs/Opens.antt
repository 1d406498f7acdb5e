-- The gate of a prepared commit is opened.
use Rattle.std.proofs.Common.{◌≡◌, ◌≢◌, ◌⊎◌, inl, inr, ⊎_elim, refl, sym, ap, ◌∙◌, subst, arith, ℕ, ◌+◌, ◌≤◌, min, nat_eq, Bool, true, false, List, [], ◌∷◌, length, set, Option, Some, None, option_map, Result, Ok, Err, OnOk, IsSomeAnd}
use Rattle.std.proofs.Math.Path.{fun_ext}
use Rattle.std.proofs.lemmas.Bool.{cases_eq}
use Rattle.std.proofs.lemmas.Bool.Decides.{nat_tests}
use Rattle.std.proofs.lemmas.List.{get_or-set_same, get_or-set_other}
use Rattle.acq_outside.specs.Disk.{Files}
use Rattle.acq_outside.specs.Crash.{State, Names, IsOutcome, FitsAll, IsImage, IsSound, AllSound, IsTorn, Goes, after, on_file, file_at, no_file, names_of, all_renamed, reads, seen_at, synced, all_kept, file_written}
use Rattle.acq_outside.specs.States.{IsNow, Since, From}
use Rattle.acq_outside.proofs.Outcomes.{only_kept, only_synced, synced_outcome}
use Rattle.acq_outside.proofs.Traces.{apart_now}
use Rattle.acq_outside.proofs.Crashes.{file_back, leaves_as_done}
use Rattle.acq_outside.proofs.Going.{goes, no_time, since_map}
use Rattle.acq_outside.specs.declared.change.DiskCall as DiskChange
use Rattle.acq_outside.specs.declared.change.DiskCall.TheVariants.{Write, Sync}
use Rattle.acq_outside.specs.declared.state.FileState.{FileState}
use Rattle.acq_outside.specs.declared.state.NameChange.{NameChange}
use Rattle.journal_model.specs.Names.{journal, partial}
use Rattle.journal_model.specs.Reading.{journal_state_of, journal_state_in, journal_state_with}
use Rattle.journal_model.specs.Spelling.{body_of, all_steps}
use Rattle.journal_model.specs.Reopen.{installed_files, opened, reopened, CrashLeaves, CrashLeavesEither}
use Rattle.journal_model.specs.Rest.{IsSynced, MayBePutByRecord, PutsPart, file_named, bytes_in, part_bytes}
use Rattle.journal_model.specs.Steps.{AreOf}
use Rattle.journal_model.proofs.Views.{view, view_image, settled_names, lists_same, list_not_journal, apart_names, instead, instead_same, instead_other, partial_not_journal}
use Rattle.journal_model.specs.declared.step.Step.{Step}
use Rattle.journal_model.specs.declared.step.JournalState.TheVariants.{Shut, Open}
use Rattle.commit_journal.specs.declared.changing.Change.{Change}
use Rattle.commit_journal.specs.declared.changing.Change.TheVariants.{Put, Drop}
use Rattle.commit_journal.specs.declared.changing.Content.{Content}
use Rattle.commit_journal.specs.declared.changing.Content.TheVariants.{Held, Staged}
use Rattle.commit_journal.specs.Changes.{content_of, filled_all, after_commit, steps_of, steps_in, all_changes, CanRecord}
use Rattle.commit_journal.specs.Commits.{parts_of, ArePutsPrepared, IsPrepared, IsPreparedOver, CrashLeavesBeforeOrAfter, HasMoreStates}
use Rattle.commit_journal.specs.Recorded.{LeavesRecord}
use Rattle.commit_journal.specs.Opening.{Recovers}
use Rattle.commit_journal.specs.Phases.{IsCarrying, AllNamed}
use Rattle.commit_journal.specs.Turning.{IsOpening, IsOpeningTo, CommitsOnceSynced, IsGateWritten}
use Rattle.commit_journal.proofs.Recordable.{all_in, read_again}
use Rattle.commit_journal.proofs.Stepping.{lists_after, laid_out_shown}
use Rattle.commit_journal.proofs.Carries.{turned_state, unmoved_view, carrying_gate, open_same, journal_below}
use Rattle.commit_journal.proofs.Recovers.{puts_aside, sync_goes, Lasts, recorded_back}
use Rattle.commit_journal.proofs.Turns.{gate_named}

-- the body of these groups' record
abbrev pub body_in : List (List Change) → List ℕ
body_in groups = body_of (steps_in groups)

abbrev record_in : List (List Change) → List Step
record_in groups = all_steps (steps_in groups)

abbrev open_file : List ℕ → FileState
open_file body = file_written (synced (0 ∷ body)) 0 (1 ∷ [])

-- what a crash leaves of the journal while its gate is written
open_cells : (body : List ℕ) → (open_file body).cells ≡ None ∷ all_kept body
open_cells body = let low : min 0 (length (0 ∷ body)) ≡ 0 = omega arith in rw low refl

any_gate : (body bytes : List ℕ) → IsOutcome (open_file body) bytes → (gate : ℕ) × (bytes ≡ gate ∷ body)
any_gate body [] outcome = absurd (omega (arith, outcome.long))
any_gate body (gate ∷ rest) outcome =
    let fits : FitsAll (None ∷ all_kept body) (gate ∷ rest) = subst (λ (cells : List (Option ℕ)). FitsAll cells (gate ∷ rest)) (open_cells body) outcome.fits in
    (gate, ap (λ (b : List ℕ). gate ∷ b) (only_kept body rest (omega (arith, outcome.long)) fits.1))

journal_at : (s : State) (j : ℕ) → s.pending ≡ [] → s.base journal ≡ Some j → names_of s journal ≡ Some j
journal_at s j unmoved leads = ap (λ (m : Names). m journal) (settled_names s unmoved) ∙ leads

-- the write of the gate
abbrev opened_state : (groups : List (List Change)) (s : State) → IsPrepared groups s → State
opened_state groups s ready = turned_state s ready.number (open_file (body_in groups))

written_open : (groups : List (List Change)) (s : State) (ready : IsPrepared groups s) → after s (Write journal 0 (1 ∷ [])) ≡ opened_state groups s ready
written_open groups s ready =
    ap (λ (o : Option ℕ). on_file s o (λ f. file_written f 0 (1 ∷ []))) (journal_at s ready.number ready.unmoved ready.leads)
    ∙ ap (λ (f : FileState). turned_state s ready.number (file_written f 0 (1 ∷ []))) ready.file

open_here : (groups : List (List Change)) (s : State) (ready : IsPrepared groups s) → IsSound s → file_at (opened_state groups s ready).files ready.number ≡ open_file (body_in groups)
open_here groups s ready sound = get_or-set_same s.files ready.number (open_file (body_in groups)) no_file (journal_below s ready.number sound ready.unmoved ready.leads)

open_gate : (groups : List (List Change)) (s : State) (ready : IsPrepared groups s) → IsSound s → (image : Files) (is : IsImage (opened_state groups s ready) image) → (gate : ℕ) × (is.bytes ready.number ≡ gate ∷ body_in groups)
open_gate groups s ready sound image is = any_gate (body_in groups) (is.bytes ready.number) (subst (λ (f : FileState). IsOutcome f (is.bytes ready.number)) (open_here groups s ready sound) (is.outcomes ready.number))

-- the files that a list's name leads to are not the journal's
not_journal : (s : State) (j i : ℕ) (name : List ℕ) → IsSound s → s.base journal ≡ Some j → name ≢ journal → s.base name ≡ Some i → i ≢ j
not_journal s j i name sound leads differ led same = differ (sound.apart.one name journal i led (leads ∙ ap (λ (k : ℕ). Some k) (sym same)))

-- before it, the same bytes behind a shut gate might be left
record WasShut (s : State) (image : Files) : Type 0 where
  before : Files
  was : IsImage s before
  same : installed_files image ≡ installed_files before
  gate : journal_state_in (before journal) ≡ Shut

was_shut : (groups : List (List Change)) (s : State) (ready : IsPrepared groups s) → IsSound s → (image : Files) → IsImage (opened_state groups s ready) image → WasShut s image
was_shut groups s ready sound image is = record {
  before = view s.base bytes;
  was = view_image s bytes outcome;
  same =
      ap installed_files (unmoved_view (opened_state groups s ready) image is ready.unmoved)
      ∙ lists_same s.base s.base is.bytes bytes (λ name list. refl) (λ name i list leads. sym (instead_other j content is.bytes i (not_journal s j i name sound ready.leads (list_not_journal name list) leads)));
  gate = ap (λ (o : Option ℕ). journal_state_in (option_map bytes o)) ready.leads ∙ ap journal_state_of (instead_same j content is.bytes);
}
  where
    j : ℕ
    j = ready.number

    content : List ℕ
    content = 0 ∷ body_in groups

    bytes : ℕ → List ℕ
    bytes = instead j content is.bytes

    outcome : (i : ℕ) → IsOutcome (file_at s.files i) (bytes i)
    outcome i = ⊎_elim
        (λ same. subst (λ (k : ℕ). IsOutcome (file_at s.files k) (bytes k)) (sym same) (subst (λ (b : List ℕ). IsOutcome (file_at s.files j) b) (sym (instead_same j content is.bytes)) (subst (λ (f : FileState). IsOutcome f content) (sym ready.file) (synced_outcome content))))
        (λ differ. subst (λ (b : List ℕ). IsOutcome (file_at s.files i) b) (sym (instead_other j content is.bytes i differ)) (subst (λ (f : FileState). IsOutcome f (is.bytes i)) (get_or-set_other s.files j i (open_file (body_in groups)) no_file differ) (is.outcomes i)))
        (cases_eq i j)

some_same : (a b : Files) → Some a ≡ Some b → a ≡ b
some_same a b is = ap get is
  where
    get : Option Files → Files
    get None = a
    get (Some f) = f

-- so the lists' names hold what they held
open_lists : (groups : List (List Change)) (folder : Files) (s : State) (over : IsPreparedOver groups folder s) → IsSound s → (image : Files) → IsImage (opened_state groups s over.ready) image → installed_files image ≡ folder
open_lists groups folder s over sound image is =
    let shut = was_shut groups s over.ready sound image is in
    shut.same ∙ some_same (installed_files shut.before) folder (sym (ap (opened shut.before) shut.gate) ∙ over.leaves shut.before shut.was)

-- what each Put puts stays
laid_out_stays : (s t : State) (changes : List Change) → ((name : List ℕ) → file_named t (partial name) ≡ file_named s (partial name)) → ArePutsPrepared changes s → ArePutsPrepared changes t
laid_out_stays s t [] same laid = tt
laid_out_stays s t (Put name content ∷ changes) same laid = (record { is = same name.0 ∙ laid.0.is ∙ ap (λ (b : List ℕ). Some (synced b)) (content_same name.0 content) }, laid_out_stays s t changes same laid.1)
  where
    content_same : (own : List ℕ) (content : Content) → content_of (parts_of s) own content ≡ content_of (parts_of t) own content
    content_same own (Held bytes) = refl
    content_same own Staged = ap bytes_in (sym (same own))
laid_out_stays s t (Drop name ∷ changes) same laid = (tt, laid_out_stays s t changes same laid.1)

other_named : (s : State) (j : ℕ) (file : FileState) (name : List ℕ) → IsSound s → s.pending ≡ [] → s.base journal ≡ Some j → name ≢ journal → file_named (turned_state s j file) name ≡ file_named s name
other_named s j file name sound unmoved leads differ = at (names_of s name) refl
  where
    at : (o : Option ℕ) → names_of s name ≡ o → option_map (file_at (set s.files j file)) o ≡ option_map (file_at s.files) o
    at None led = refl
    at (Some i) led =
        ap (λ (f : FileState). Some f) (get_or-set_other s.files j i file no_file (λ same. differ ((apart_now s sound).one name journal i led (journal_at s j unmoved leads ∙ ap (λ (k : ℕ). Some k) (sym same)))))

open_ends : (groups : List (List Change)) (s : State) (ready : IsPrepared groups s) → IsSound s → IsOpening groups (opened_state groups s ready)
open_ends groups s ready sound = record {
  can = ready.can;
  unmoved = ready.unmoved;
  number = ready.number;
  leads = ready.leads;
  file = open_here groups s ready sound;
  laid_out = laid_out_stays s (opened_state groups s ready) (all_changes groups) (λ name. other_named s ready.number (open_file (body_in groups)) (partial name) sound ready.unmoved ready.leads (partial_not_journal name)) ready.laid_out;
}

-- What a crash leaves then is read by its gate.
gate_reads : (groups : List (List Change)) → CanRecord groups → journal_state_of (1 ∷ body_in groups) ≡ Open (record_in groups)
gate_reads groups can = ap (journal_state_with (length (1 ∷ body_in groups))) (read_again groups can)

shut_gate : (gate : ℕ) (body : List ℕ) → nat_eq gate 1 ≡ false → journal_state_of (gate ∷ body) ≡ Shut
shut_gate gate body test = rw test refl

either_gate : (groups : List (List Change)) (gate : ℕ) → CanRecord groups → (journal_state_of (gate ∷ body_in groups) ≡ Shut) ⊎ (journal_state_of (gate ∷ body_in groups) ≡ Open (record_in groups))
either_gate groups gate can = by (nat_eq gate 1) refl
  where
    by : (t : Bool) → nat_eq gate 1 ≡ t → (journal_state_of (gate ∷ body_in groups) ≡ Shut) ⊎ (journal_state_of (gate ∷ body_in groups) ≡ Open (record_in groups))
    by true test = let one : gate ≡ 1 = grind (arith, nat_tests) in inr (ap (λ (g : ℕ). journal_state_of (g ∷ body_in groups)) one ∙ gate_reads groups can)
    by false test = inl (shut_gate gate (body_in groups) test)

journal_in : (groups : List (List Change)) (s : State) (ready : IsPrepared groups s) (image : Files) (is : IsImage (opened_state groups s ready) image) → image journal ≡ Some (is.bytes ready.number)
journal_in groups s ready image is = ap (λ (f : Files). f journal) (unmoved_view (opened_state groups s ready) image is ready.unmoved) ∙ ap (option_map is.bytes) ready.leads

-- the lists with all of the record carried out
open_after : (groups : List (List Change)) (folder : Files) (u : State) (image : Files) → IsOpening groups u → IsImage u image → installed_files image ≡ folder → journal_state_in (image journal) ≡ Open (record_in groups)
    → reopened image ≡ Some (after_commit (filled_all (parts_of u) groups) folder)
open_after groups folder u image opening is over gate =
    ap (opened image) gate ∙ ap (λ (f : Files). Some f) (lists_after (parts_of u) image folder groups opening.can (laid_out_shown u image is opening.unmoved (all_changes groups) opening.laid_out) over)

parts_same : (s t : State) → ((name : List ℕ) → file_named t (partial name) ≡ file_named s (partial name)) → parts_of t ≡ parts_of s
parts_same s t same = fun_ext (λ name. ap bytes_in (same name))

open_parts : (groups : List (List Change)) (s : State) (ready : IsPrepared groups s) → IsSound s → parts_of (opened_state groups s ready) ≡ parts_of s
open_parts groups s ready sound = parts_same s (opened_state groups s ready) (λ name. other_named s ready.number (open_file (body_in groups)) (partial name) sound ready.unmoved ready.leads (partial_not_journal name))

open_leaves : (groups : List (List Change)) (folder : Files) (s : State) (over : IsPreparedOver groups folder s) → IsSound s → CrashLeavesEither folder (after_commit (filled_all (parts_of s) groups) folder) (opened_state groups s over.ready)
open_leaves groups folder s over sound image is =
    let ready = over.ready in
    let gate = open_gate groups s ready sound image is in
    let holds : journal_state_in (image journal) ≡ journal_state_of (gate.0 ∷ body_in groups) = ap journal_state_in (journal_in groups s ready image is ∙ ap (λ (b : List ℕ). Some b) gate.1) in
    let kept = open_lists groups folder s over sound image is in
    ⊎_elim
    (λ shut. inl (ap (opened image) (holds ∙ shut) ∙ ap (λ (f : Files). Some f) kept))
    (λ open_now. inr (open_after groups folder (opened_state groups s ready) image (open_ends groups s ready sound) is kept (holds ∙ open_now)
    ∙ ap (λ (part : List ℕ → List ℕ). Some (after_commit (filled_all part groups) folder)) (open_parts groups s ready sound)))
    (either_gate groups gate.0 ready.can)

-- What counts lasts still.
puts_laid : (s : State) (changes : List Change) → ArePutsPrepared changes s → (name : List ℕ) → PutsPart (steps_of changes) name → (bytes : List ℕ) × (file_named s name ≡ Some (synced bytes))
puts_laid s [] laid name puts = absurd puts
puts_laid s (Put own content ∷ changes) laid name (inl is) = (content_of (parts_of s) own.0 content, ap (file_named s) is ∙ laid.0.is)
puts_laid s (Put own content ∷ changes) laid name (inr later) = puts_laid s changes laid.1 name later
puts_laid s (Drop own ∷ changes) laid name puts = puts_laid s changes laid.1 name puts

named_lasts : (s : State) (name bytes : List ℕ) (i : ℕ) → file_named s name ≡ Some (synced bytes) → names_of s name ≡ Some i → Lasts (file_at s.files i)
named_lasts s name bytes i holds leads =
    let file : file_at s.files i ≡ synced bytes = get (ap (option_map (file_at s.files)) (sym leads) ∙ holds) in
    subst Lasts (sym file) refl
  where
    get : Some (file_at s.files i) ≡ Some (synced bytes) → file_at s.files i ≡ synced bytes
    get is = cc

-- a record that a crash then leaves open is this one
recorded_here : (groups : List (List Change)) (s : State) (ready : IsPrepared groups s) → IsSound s → (name : List ℕ) → MayBePutByRecord (opened_state groups s ready) name → PutsPart (record_in groups) name
recorded_here groups s ready sound name recorded =
    let gate = open_gate groups s ready sound recorded.image recorded.left in
    let holds : journal_state_in (recorded.image journal) ≡ journal_state_of (gate.0 ∷ body_in groups) = ap journal_state_in (journal_in groups s ready recorded.image recorded.left ∙ ap (λ (b : List ℕ). Some b) gate.1) in
    ⊎_elim
    (λ shut. absurd (let clash = sym recorded.gate ∙ holds ∙ shut in cc))
    (λ open_now. subst (λ (l : List Step). PutsPart l name) (open_same recorded.steps (record_in groups) (sym recorded.gate ∙ holds ∙ open_now)) recorded.puts)
    (either_gate groups gate.0 ready.can)

-- a state that differs in the journal's file alone, and leaves no more than the gate that is written
open_settled : (groups : List (List Change)) (s t : State) (ready : IsPrepared groups s) → IsSound s → names_of t ≡ names_of s → ((i : ℕ) → i ≢ ready.number → file_at t.files i ≡ file_at s.files i)
    → ((image : Files) → IsImage t image → IsImage (opened_state groups s ready) image) → IsSynced s → IsSynced t
open_settled groups s t ready sound names files back settled name i counts leads =
    let led : names_of s name ≡ Some i = ap (λ (m : Names). m name) (sym names) ∙ leads in
    ⊎_elim
    (λ list. kept (list_not_journal name list) led (settled name i (inl list) led))
    (λ recorded.
    let puts = recorded_here groups s ready sound name (recorded_back (opened_state groups s ready) t name back recorded) in
    let laid = puts_laid s (all_changes groups) ready.laid_out name (subst (λ (l : List Step). PutsPart l name) (all_in groups) puts) in
    kept (apart_names name journal (puts_aside (record_in groups) name puts) refl) led (named_lasts s name laid.0 i laid.1 led))
    counts
  where
    kept : name ≢ journal → names_of s name ≡ Some i → Lasts (file_at s.files i) → Lasts (file_at t.files i)
    kept differ led lasts =
        subst Lasts (sym (files i (λ same. differ ((apart_now s sound).one name journal i led (journal_at s ready.number ready.unmoved ready.leads ∙ ap (λ (k : ℕ). Some k) (sym same)))))) lasts

-- The write, done or torn, over all that a disk has been.
abbrev pub LeavesOne : List (List Change) → Files → State → State → Type 0
LeavesOne groups folder s t = CrashLeavesEither folder (after_commit (filled_all (parts_of s) groups) folder) t

-- ready over these lists, and with the record carried out over the new ones
record IsReadyTo (groups : List (List Change)) (folder new : Files) (s : State) : Type 0 where
  over : IsPreparedOver groups folder s
  to : after_commit (filled_all (parts_of s) groups) folder ≡ new

abbrev opening_write : State → State
opening_write s = after s (Write journal 0 (1 ∷ []))

write_leaves : (groups : List (List Change)) (folder : Files) (s : State) → IsSound s → IsPreparedOver groups folder s → LeavesOne groups folder s (opening_write s)
write_leaves groups folder s sound over = subst (λ (t : State). LeavesOne groups folder s t) (sym (written_open groups s over.ready)) (open_leaves groups folder s over sound)

torn_leaves : (groups : List (List Change)) (folder : Files) (s torn : State) → IsSound s → IsPreparedOver groups folder s → IsTorn (names_of s journal) (opening_write s) torn → LeavesOne groups folder s torn
torn_leaves groups folder s torn sound over part image is = write_leaves groups folder s sound over image (leaves_as_done (opening_write s) (names_of s journal) torn image part is)

write_to : (groups : List (List Change)) (folder new : Files) (s : State) → IsSound s → IsReadyTo groups folder new s → IsOpeningTo groups folder new (opening_write s)
write_to groups folder new s sound over =
    let ready = over.over.ready in
    subst (IsOpeningTo groups folder new) (sym (written_open groups s ready)) (record {
      opening = open_ends groups s ready sound;
      over = open_lists groups folder s over.over sound;
      to = ap (λ (part : List ℕ → List ℕ). after_commit (filled_all part groups) folder) (open_parts groups s ready sound) ∙ over.to;
    })

abbrev pub KeepsSettled : State → State → Type 0
KeepsSettled s t = IsSynced s → IsSynced t

write_settled : (groups : List (List Change)) (s : State) → IsSound s → IsPrepared groups s → KeepsSettled s (opening_write s)
write_settled groups s sound ready = subst (KeepsSettled s) (sym (written_open groups s ready)) (open_settled groups s (opened_state groups s ready) ready sound refl
    (λ i differ. get_or-set_other s.files ready.number i (open_file (body_in groups)) no_file differ) (λ image is. is))

torn_settled : (groups : List (List Change)) (s torn : State) → IsSound s → IsPrepared groups s → IsTorn (names_of s journal) (opening_write s) torn → KeepsSettled s torn
torn_settled groups s torn sound ready part =
    let is : IsTorn (names_of s journal) (opened_state groups s ready) torn = subst (λ (t : State). IsTorn (names_of s journal) t torn) (written_open groups s ready) part in
    open_settled groups s torn ready sound
    (ap (λ (l : List NameChange). all_renamed torn.base l) is.pending ∙ ap (λ (m : Names). all_renamed m s.pending) is.base)
    (λ i differ. is.others i (λ same. differ (number i (same ∙ journal_at s ready.number ready.unmoved ready.leads))) ∙ get_or-set_other s.files ready.number i (open_file (body_in groups)) no_file differ)
    (λ image left. leaves_as_done (opened_state groups s ready) (names_of s journal) torn image is left)
  where
    number : (i : ℕ) → Some i ≡ Some ready.number → i ≡ ready.number
    number i same = cc

-- what a relation to the first state says, without it
pub since_first : (R : State → State → Type 0) (Q : State → Type 0) (old new : List State) → Since old new (From R old) → ((s : State) (past : List State) → old ≡ s ∷ past → (t : State) → R s t → Q t) → Since old new Q
since_first R Q [] new since change = no_time [] new Q (since.untold refl)
since_first R Q (s ∷ past) new since change = since_map (R s) Q (s ∷ past) new (λ t is. change s past refl t is) since

either_to : (groups : List (List Change)) (folder new : Files) (s t : State) → after_commit (filled_all (parts_of s) groups) folder ≡ new → LeavesOne groups folder s t → CrashLeavesEither folder new t
either_to groups folder new s t to leaves = subst (λ (n : Files). CrashLeavesEither folder n t) to leaves

write_goes_to : {T E : Type 0} (groups : List (List Change)) (folder to : Files) (old new : List State) (result : Result T E) → AllSound old → IsNow (IsReadyTo groups folder to) old → Goes (Write journal 0 (1 ∷ [])) old new result
    → Since old new (CrashLeavesEither folder to) × OnOk result (IsNow (IsOpeningTo groups folder to) new)
write_goes_to groups folder to old new result sound stands is =
    let both = goes (λ (s t : State). CrashLeavesEither folder to t) (IsReadyTo groups folder to) (IsOpeningTo groups folder to) (Write journal 0 (1 ∷ [])) old new result sound
    (λ s sound_s over. either_to groups folder to s (opening_write s) over.to (write_leaves groups folder s sound_s over.over))
    (λ s torn sound_s over part. either_to groups folder to s torn over.to (torn_leaves groups folder s torn sound_s over.over part))
    (λ s sound_s over. write_to groups folder to s sound_s over)
    stands is in
    (since_first (λ (s t : State). CrashLeavesEither folder to t) (CrashLeavesEither folder to) old new both.0 (λ s past is t leaves. leaves), both.1)

ready_to : (groups : List (List Change)) (folder : Files) (old : List State) → IsNow (IsPreparedOver groups folder) old → IsNow (IsReadyTo groups folder (after_commit (filled_all (part_bytes old) groups) folder)) old
ready_to groups folder [] stands = tt
ready_to groups folder (s ∷ past) stands = record { over = stands; to = refl }

-- a promise for each folder at Ok, in one
on_ok_each : {T E : Type 0} (P : Files → Type 0) (Q : Files → State → Type 0) (now : List State) (result : Result T E) → ((folder : Files) → P folder → OnOk result (IsNow (Q folder) now)) → OnOk result (IsNow (λ s. (folder : Files) → P folder → Q folder s) now)
on_ok_each P Q [] (Ok x) each = tt
on_ok_each P Q (s ∷ past) (Ok x) each = each
on_ok_each P Q now (Err e) each = tt

abbrev Writes : List (List Change) → State → State → Type 0
Writes groups s t = (folder : Files) → IsPreparedOver groups folder s → LeavesOne groups folder s t

pub write_keeps : {T E : Type 0} (groups : List (List Change)) (name : List ℕ) (old new : List State) (result : Result T E) → name ≡ journal → AllSound old → IsNow (IsPrepared groups) old → Goes (Write name 0 (1 ∷ [])) old new result
    → Since old new (CrashLeavesBeforeOrAfter groups (filled_all (part_bytes old) groups) old)
write_keeps groups name old new result same sound stands is = by old stands sound (goes (Writes groups) (IsPrepared groups) (λ s. Unit {0}) (Write journal 0 (1 ∷ [])) old new result sound
    (λ s sound_s ready folder over. write_leaves groups folder s sound_s over)
    (λ s torn sound_s ready part folder over. torn_leaves groups folder s torn sound_s over part)
    (λ s sound_s ready. tt)
    stands (subst (λ (n : List ℕ). Goes (Write n 0 (1 ∷ [])) old new result) same is)).0
  where
    by : (old : List State) → IsNow (IsPrepared groups) old → AllSound old → Since old new (From (Writes groups) old) → Since old new (CrashLeavesBeforeOrAfter groups (filled_all (part_bytes old) groups) old)
    by [] ready sound_old since = no_time [] new _ (since.untold refl)
    by (s ∷ past) ready sound_old since = since

pub write_over : {T E : Type 0} (groups : List (List Change)) (name : List ℕ) (old new : List State) (result : Result T E) → name ≡ journal → AllSound old → Goes (Write name 0 (1 ∷ [])) old new result
    → OnOk result (IsNow (IsGateWritten groups (filled_all (part_bytes old) groups) old) new)
write_over groups name old new result same sound is =
    on_ok_each (λ folder. IsNow (IsPreparedOver groups folder) old) (λ folder. IsOpeningTo groups folder (after_commit (filled_all (part_bytes old) groups) folder)) new result
    (λ folder stands. (write_goes_to groups folder (after_commit (filled_all (part_bytes old) groups) folder) old new result sound (ready_to groups folder old stands) (subst (λ (n : List ℕ). Goes (Write n 0 (1 ∷ [])) old new result) same is)).1)

pub write_ready : {T E : Type 0} (groups : List (List Change)) (name : List ℕ) (old new : List State) (result : Result T E) → name ≡ journal → AllSound old → IsNow (IsPrepared groups) old → Goes (Write name 0 (1 ∷ [])) old new result
    → Since old new (From KeepsSettled old) × OnOk result (IsNow (IsOpening groups) new)
write_ready groups name old new result same sound stands is =
    goes KeepsSettled (IsPrepared groups) (IsOpening groups) (Write journal 0 (1 ∷ [])) old new result sound
    (λ s sound_s ready. write_settled groups s sound_s ready)
    (λ s torn sound_s ready part. torn_settled groups s torn sound_s ready part)
    (λ s sound_s ready. subst (IsOpening groups) (sym (written_open groups s ready)) (open_ends groups s ready sound_s))
    stands (subst (λ (n : List ℕ). Goes (Write n 0 (1 ∷ [])) old new result) same is)

-- The sync of the gate.
synced_open : (groups : List (List Change)) (u : State) (opening : IsOpening groups u) → after u (Sync journal) ≡ turned_state u opening.number (synced (1 ∷ body_in groups))
synced_open groups u opening =
    ap (λ (o : Option ℕ). on_file u o (λ f. synced f.seen)) (journal_at u opening.number opening.unmoved opening.leads)
    ∙ ap (λ (f : FileState). turned_state u opening.number (synced f.seen)) opening.file

open_says : (groups : List (List Change)) (u : State) (opening : IsOpening groups u) → IsSound u → IsCarrying (record_in groups) [] (turned_state u opening.number (synced (1 ∷ body_in groups)))
open_says groups u opening sound = record {
  says = record {
    number = opening.number;
    leads = opening.leads;
    bytes = 1 ∷ body_in groups;
    file = get_or-set_same u.files opening.number (synced (1 ∷ body_in groups)) no_file (journal_below u opening.number sound opening.unmoved opening.leads);
    gate = gate_reads groups opening.can;
  };
  pending = subst (λ (l : List NameChange). AreOf (record_in groups) l) (sym opening.unmoved) tt;
  names = settled_names u opening.unmoved;
}

sync_leaves : (groups : List (List Change)) (folder new : Files) (u : State) → IsSound u → IsOpeningTo groups folder new u → CrashLeaves new (after u (Sync journal))
sync_leaves groups folder new u sound over image is =
    let v : State = turned_state u over.opening.number (synced (1 ∷ body_in groups)) in
    let here : IsImage v image = subst (λ (t : State). IsImage t image) (synced_open groups u over.opening) is in
    let says = open_says groups u over.opening sound in
    let before : IsImage u image = file_back u (names_of u journal) image sound is in
    open_after groups folder u image over.opening before (over.over image before) (carrying_gate (record_in groups) v says.says says.pending image here) ∙ ap (λ (f : Files). Some f) over.to

abbrev Syncs : List (List Change) → State → State → Type 0
Syncs groups u v = (folder to : Files) → IsOpeningTo groups folder to u → CrashLeaves to v

sync_each : {T E : Type 0} (groups : List (List Change)) (old new : List State) (result : Result T E) → AllSound old → Goes (Sync journal) old new result → Since old new (From (Syncs groups) old)
sync_each groups old new result sound is = (goes (Syncs groups) (λ s. Unit {0}) (λ s. Unit {0}) (Sync journal) old new result sound
    (λ u sound_u _ folder to over. sync_leaves groups folder to u sound_u over)
    (λ u torn sound_u _ part folder to over image left. sync_leaves groups folder to u sound_u over image (leaves_as_done (after u (Sync journal)) None torn image part left))
    (λ u sound_u _. tt)
    (anything old) is).0
  where
    anything : (l : List State) → IsNow (λ s. Unit {0}) l
    anything [] = tt
    anything (s ∷ past) = tt

pub sync_opens : {T E : Type 0} (groups : List (List Change)) (name : List ℕ) (old new : List State) (result : Result T E) → name ≡ journal → AllSound old → Goes (Sync name) old new result → Since old new (CommitsOnceSynced groups old)
sync_opens groups name old new result same sound is = by old (sync_each groups old new result sound (subst (λ (n : List ℕ). Goes (Sync n) old new result) same is))
  where
    by : (old : List State) → Since old new (From (Syncs groups) old) → Since old new (CommitsOnceSynced groups old)
    by [] since = no_time [] new _ (since.untold refl)
    by (s ∷ past) since = since

-- at Ok
sync_ends : {T E : Type 0} (groups : List (List Change)) (old new : List State) (result : Result T E) → AllSound old → Goes (Sync journal) old new result → OnOk result (IsNow (CommitsOnceSynced groups old) new)
sync_ends groups [] new (Ok x) sound is = subst (λ (l : List State). IsNow (CommitsOnceSynced groups []) l) (sym is) tt
sync_ends groups (s ∷ past) new (Ok x) sound is = subst (λ (l : List State). IsNow (CommitsOnceSynced groups (s ∷ past)) l) (sym is) (λ folder to over. sync_leaves groups folder to s sound.0 over)
sync_ends groups old new (Err e) sound is = tt

pub sync_new : {T E : Type 0} (groups : List (List Change)) (name : List ℕ) (old new : List State) (result : Result T E) → name ≡ journal → AllSound old → Goes (Sync name) old new result → OnOk result (IsNow (CommitsOnceSynced groups old) new)
sync_new groups name old new result same sound is = sync_ends groups old new result sound (subst (λ (n : List ℕ). Goes (Sync n) old new result) same is)

pub sync_carries : (groups : List (List Change)) (u : State) → IsSound u → IsOpening groups u → IsCarrying (record_in groups) [] (after u (Sync journal))
sync_carries groups u sound opening = subst (IsCarrying (record_in groups) []) (sym (synced_open groups u opening)) (open_says groups u opening sound)

pub sync_goes_on : {T E : Type 0} (groups : List (List Change)) (name : List ℕ) (old new : List State) (result : Result T E) → name ≡ journal → AllSound old → IsNow (IsOpening groups) old → Goes (Sync name) old new result
    → Since old new (From Recovers old) × OnOk result (IsNow (IsCarrying (record_in groups) []) new)
sync_goes_on groups name old new result same sound stands is = sync_goes (IsOpening groups) (IsCarrying (record_in groups) []) journal name old new result same sound (λ u sound_u opening. sync_carries groups u sound_u opening) stands is

-- the clock
pub ticks_once : {T E : Type 0} (call : DiskChange.DiskCall) (old new : List State) (result : Result T E) → Goes call old new result → (length new ≤ length old + 1) × OnOk result (HasMoreStates old new)
ticks_once call [] new (Ok x) is = (omega (arith, ap (λ (l : List State). length l) is), tt)
ticks_once call [] new (Err e) is = (omega (arith, ap (λ (l : List State). length l) is), tt)
ticks_once call (s ∷ past) new (Ok x) is = let long : length new ≡ length (after s call ∷ s ∷ past) = ap (λ (l : List State). length l) is in (omega (arith, long), omega (arith, long))
ticks_once call (s ∷ past) new (Err e) (inl is) = (omega (arith, ap (λ (l : List State). length l) is), tt)
ticks_once call (s ∷ past) new (Err e) (inr part) = let long : length new ≡ length (part.0 ∷ s ∷ past) = ap (λ (l : List State). length l) part.2 in (omega (arith, long), tt)

-- the journal that is written is there
pub ready_there : (groups : List (List Change)) (s : State) → IsPrepared groups s → IsSomeAnd (reads s journal) (λ content. 0 ≤ length content)
ready_there groups s ready = subst (λ (o : Option ℕ). IsSomeAnd (seen_at s.files o) (λ content. 0 ≤ length content)) (sym (journal_at s ready.number ready.unmoved ready.leads)) (omega arith)

-- the names of the record
pub named_steps : (groups : List (List Change)) (steps : List Step) → steps ≡ all_steps (steps_in groups) → CanRecord groups → AllNamed steps
named_steps groups steps is can = subst AllNamed (sym is) (gate_named (1 ∷ body_in groups) (Open (record_in groups)) (sym (gate_reads groups can)))

-- what a crash leaves of a commit that may be made
pub ready_recorded : (groups : List (List Change)) (s : State) → IsPrepared groups s → LeavesRecord groups s
ready_recorded groups s ready image is = record {
  behind_the_gate =
      ap (λ (f : Files). f journal) (unmoved_view s image is ready.unmoved) ∙ ap (option_map is.bytes) ready.leads
      ∙ ap (λ (b : List ℕ). Some b) (only_synced (0 ∷ body_in groups) (is.bytes ready.number) (subst (λ (f : FileState). IsOutcome f (is.bytes ready.number)) ready.file (is.outcomes ready.number)));
  puts = laid_out_shown s image is ready.unmoved (all_changes groups) ready.laid_out;
}
