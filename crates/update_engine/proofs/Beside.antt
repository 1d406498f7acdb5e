-- What lies beside the lists, through jobs and commits.
use Rattle.std.proofs.Common.{◌≡◌, ◌≢◌, ◌⊎◌, ◌∙◌, inl, inr, refl, sym, ap, subst, ℕ, true, false, List, [], ◌∷◌, ◌++◌, Contains, Option, Some, None}
use Rattle.std.specs.Prelude.{is_some}
use Rattle.std.specs.List.{list_any}
use Rattle.std.proofs.lemmas.Bool.{cases_Bool}
use Rattle.acq_base.specs.declared.plan.Source.{Source}
use Rattle.acq_outside.specs.Crash.{State}
use Rattle.acq_outside.specs.Disk.{Files}
use Rattle.board_model.specs.Runs.{Note}
use Rattle.commit_journal.specs.Changes.{AllAllowed, CanRecord, IsNone, all_changed_names, all_changes, changed_names}
use Rattle.commit_journal.specs.Commits.{AreGone, KeepsUnchangedFiles}
use Rattle.commit_journal.specs.declared.changing.Change.{Change}
use Rattle.commit_journal.specs.declared.changing.Change.TheVariants.{Put, Drop}
use Rattle.journal_model.proofs.FolderNames.{list_if, plain_inside}
use Rattle.journal_model.proofs.Twice.{other_name}
use Rattle.journal_model.proofs.Views.{partial_not_journal}
use Rattle.journal_model.specs.Names.{is_file_name, is_inside, is_installed_name, is_partial, journal, lock, partial}
use Rattle.run_jobs.proofs.OnTheWay.{same_unheard, stays_on, stays_same, unheard_same}
use Rattle.run_jobs.specs.OnTheWay.{StaysOnItsWay, WasLeft}
use Rattle.lane_jobs.specs.Going.{KeepsWholeFiles}
use Rattle.lane_jobs.specs.JobsOut.{JobsOut, fills, is_filled}
use Rattle.lane_jobs.specs.declared.transfers.Transfer.{Transfer}
use Rattle.lane_jobs.proofs.Steps.{left_behind}
use Rattle.update_engine.specs.Run.{IsListOf, KeepsAside}
use Rattle.update_engine.specs.Session.{IsMovedOrFilled}

-- ---- one after another

-- a step in which nothing was heard
pub aside_on : (sources : List Source) (Taken Later : List ℕ → Type 0) (notes : List Note) (opened old now : List State) → ((name : List ℕ) → Taken name → Later name) → KeepsAside sources Taken notes opened old → KeepsAside sources Later [] old now
    → KeepsAside sources Later notes opened now
aside_on sources Taken Later notes opened old now more a b = record {
  others = λ name listed part journal_too. b.others name listed part journal_too ∙ a.others name listed part journal_too;
  parts = λ name out. stays_same sources name notes opened old now (unheard_same sources name old now (b.parts name out)) (a.parts name (λ is. out (more name is)));
}

pub aside_none : (sources : List Source) (Taken : List ℕ → Type 0) (old now : List State) → now ≡ old → KeepsAside sources Taken [] old now
aside_none sources Taken old now same = record {
  others = λ name listed part journal_too. rw same refl;
  parts = λ name out. same_unheard sources name old now (rw same refl);
}

-- of more names nothing is said
pub aside_fewer : (sources : List Source) (Taken Later : List ℕ → Type 0) (notes : List Note) (opened now : List State) → ((name : List ℕ) → Taken name → Later name) → KeepsAside sources Taken notes opened now → KeepsAside sources Later notes opened now
aside_fewer sources Taken Later notes opened now more a = record { others = a.others; parts = λ name out. a.parts name (λ is. out (more name is)) }

pub list_more : (sources : List Source) (numbers more : List ℕ) → ((n : ℕ) → Contains numbers n → Contains more n) → (name : List ℕ) → IsListOf sources numbers name → IsListOf sources more name
list_more sources numbers more within name is = record { n = is.n; source = is.source; at = is.at; own = is.own; among = within is.n is.among }

-- ---- jobs

-- a name that is that of no list on its way
part_other : (own name : List ℕ) → is_partial name ≡ false → name ≢ partial own
part_other own name whole is = let wrong : is_partial (partial own) ≡ false = subst (λ (n : List ℕ). is_partial n ≡ false) is whole in absurd (cc)

-- behind words of jobs, of which some fill files
pub aside_asked : (sources : List Source) (installed : List ℕ) (before after : JobsOut) (notes more : List Note) (opened old now : List State) → KeepsWholeFiles old now
    → ((name : List ℕ) → is_filled after name ≡ false → StaysOnItsWay sources more old now name)
    → ((name : List ℕ) → is_filled before name ≡ true → is_filled after name ≡ false → WasLeft sources name more now)
    → KeepsAside sources (IsMovedOrFilled sources installed before) notes opened old → KeepsAside sources (IsMovedOrFilled sources installed after) (notes ++ more) opened now
aside_asked sources installed before after notes more opened old now whole left ended a = record {
  others = λ name listed part journal_too. whole name part ∙ a.others name listed part journal_too;
  parts = λ name out. at_last name out (cases_Bool (is_filled after name));
}
  where
    not_before : (name : List ℕ) → (IsMovedOrFilled sources installed after name → ⊥) → is_filled before name ≡ false → IsMovedOrFilled sources installed before name → ⊥
    not_before name out isnt (inl moved) = out (inl moved)
    not_before name out isnt (inr filled) = let wrong : true ≡ false = sym filled ∙ isnt in absurd (cc)

    at_first : (name : List ℕ) → (IsMovedOrFilled sources installed after name → ⊥) → is_filled after name ≡ false → (is_filled before name ≡ true) ⊎ (is_filled before name ≡ false) → StaysOnItsWay sources (notes ++ more) opened now name
    at_first name out none (inl filled) = inr (left_behind sources name notes more now (ended name filled none))
    at_first name out none (inr isnt) = stays_on sources name notes more opened old now (a.parts name (not_before name out isnt)) (left name none)

    at_last : (name : List ℕ) → (IsMovedOrFilled sources installed after name → ⊥) → (is_filled after name ≡ true) ⊎ (is_filled after name ≡ false) → StaysOnItsWay sources (notes ++ more) opened now name
    at_last name out (inl filled) = absurd (out (inr filled))
    at_last name out (inr none) = at_first name out none (cases_Bool (is_filled before name))

-- a step in which no job hears a word
pub beside_on : (sources : List Source) (installed later : List ℕ) (jobs : JobsOut) (notes : List Note) (opened old now : List State) → ((n : ℕ) → Contains installed n → Contains later n)
    → KeepsAside sources (IsMovedOrFilled sources installed jobs) notes opened old → KeepsAside sources (IsListOf sources later) [] old now → KeepsAside sources (IsMovedOrFilled sources later jobs) notes opened now
beside_on sources installed later jobs notes opened old now within a b =
    aside_on sources (IsMovedOrFilled sources installed jobs) (IsMovedOrFilled sources later jobs) notes opened old now moved_more a
    (aside_fewer sources (IsListOf sources later) (IsMovedOrFilled sources later jobs) [] old now (λ name is. inl is) b)
  where
    moved_more : (name : List ℕ) → IsMovedOrFilled sources installed jobs name → IsMovedOrFilled sources later jobs name
    moved_more name (inl is) = inl (list_more sources installed later within name is)
    moved_more name (inr filled) = inr filled

-- ---- no job is out

none_filled : (rows : List (Option Transfer)) (name : List ℕ) → list_any is_some rows ≡ false → list_any (fills name) rows ≡ false
none_filled [] name none = refl
none_filled (None ∷ rows) name none = none_filled rows name none
none_filled (Some t ∷ rows) name none = absurd (cc)

-- then none fills a file
pub aside_quiet : (sources : List Source) (installed : List ℕ) (jobs : JobsOut) (notes : List Note) (opened now : List State) → list_any is_some jobs.rows ≡ false
    → KeepsAside sources (IsMovedOrFilled sources installed jobs) notes opened now → KeepsAside sources (IsListOf sources installed) notes opened now
aside_quiet sources installed jobs notes opened now none a = aside_fewer sources (IsMovedOrFilled sources installed jobs) (IsListOf sources installed) notes opened now moved a
  where
    moved : (name : List ℕ) → IsMovedOrFilled sources installed jobs name → IsListOf sources installed name
    moved name (inl is) = is
    moved name (inr filled) = absurd (let wrong : true ≡ false = sym filled ∙ none_filled jobs.rows name none in cc)

-- ---- a commit

-- a record changes no name but those of lists, installed or on their way
file_listed : (name : List ℕ) → is_file_name name ≡ true → is_partial name ≡ false → name ≢ lock → name ≢ journal → is_installed_name name ≡ true
file_listed name file whole not_lock not_journal = list_if name (other_name name journal not_journal) (other_name name lock not_lock) whole file

dropped_listed : (name : List ℕ) → is_inside name ≡ true → is_partial name ≡ false → name ≢ lock → name ≢ journal → is_installed_name name ≡ true
dropped_listed name inside whole not_lock not_journal = file_listed name (plain_inside name whole ∙ inside) whole not_lock not_journal

other_free : (name : List ℕ) (changes : List Change) → is_installed_name name ≡ false → is_partial name ≡ false → AllAllowed changes → IsNone name (changed_names changes)
other_free name [] listed part allowed = tt
other_free name (Put list content ∷ changes) listed part allowed = (
  (λ same. let wrong : true ≡ false = sym (put_listed (subst (λ (n : List ℕ). is_partial n ≡ false) (sym same) part)) ∙ (ap is_installed_name same ∙ listed) in absurd (cc)),
  ((λ same. part_other list.0 name part (sym same)), other_free name changes listed part allowed.1),
)
  where
    put_listed : is_partial list.0 ≡ false → is_installed_name list.0 ≡ true
    put_listed whole = file_listed list.0 allowed.0.file whole allowed.0.put.not_lock allowed.0.put.not_journal
other_free name (Drop list ∷ changes) listed part allowed = (
  (λ same. let wrong : true ≡ false = sym (drop_listed (subst (λ (n : List ℕ). is_partial n ≡ false) (sym same) part)) ∙ (ap is_installed_name same ∙ listed) in absurd (cc)),
  other_free name changes listed part allowed.1,
)
  where
    drop_listed : is_partial list ≡ false → is_installed_name list ≡ true
    drop_listed whole = dropped_listed list allowed.0.inside whole allowed.0.not_lock allowed.0.not_journal

-- the lists on their way that a commit doesn't change
pub aside_committed : (sources : List Source) (Taken : List ℕ → Type 0) (groups : List (List Change)) (old now : List State) → CanRecord groups → KeepsUnchangedFiles groups old now
    → ((name : List ℕ) → (Taken name → ⊥) → IsNone (partial name) (all_changed_names groups)) → KeepsAside sources Taken [] old now
aside_committed sources Taken groups old now can keeps free = record {
  others = λ name listed part journal_too. keeps name journal_too (other_free name (all_changes groups) listed part can.allowed);
  parts = λ name out. same_unheard sources name old now (keeps (partial name) (partial_not_journal name) (free name out));
}

-- ---- what is removed

pub gone_behind : (first rest : List Change) (files : Files) → AreGone (first ++ rest) files → AreGone rest files
gone_behind [] rest files gone = gone
gone_behind (Put name content ∷ first) rest files gone = gone_behind first rest files gone.1
gone_behind (Drop name ∷ first) rest files gone = gone_behind first rest files gone.1
