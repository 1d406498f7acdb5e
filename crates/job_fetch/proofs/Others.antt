-- A call on the file of one name leaves all others to a crash as they were left.
use Rattle.std.proofs.Common.{◌≡◌, ◌≢◌, ⊎_elim, refl, sym, ap, ◌∙◌, subst, ℕ, List, [], ◌∷◌, ◌++◌, Option, Some, None, option_map, Result}
use Rattle.std.proofs.lemmas.Bool.{cases_eq}
use Rattle.acq_outside.specs.Crash.{State, Names, IsOutcome, IsSubsequence, none, left_out, taken, IsSound, AllSound, Goes, after, changed_file, all_renamed, renamed, moved_name, with_name, file_at}
use Rattle.acq_outside.specs.States.{Since}
use Rattle.acq_outside.proofs.Going.{goes}
use Rattle.acq_outside.specs.declared.change.DiskCall.{DiskCall}
use Rattle.acq_outside.specs.declared.state.NameChange.{NameChange}
use Rattle.acq_outside.specs.declared.state.NameChange.TheVariants.{Made, Moved, Removed}
use Rattle.journal_model.specs.Names.{partial}
use Rattle.journal_model.proofs.Aside.{ChangesOnly, IsOn, any_stands, aside_stays, call_changes, parts_stay, torn_changes}
use Rattle.journal_model.proofs.Twice.{with_other}
use Rattle.journal_model.proofs.Views.{instead, instead_other, instead_same, partial_aside, view, view_image}
use Rattle.job_fetch.specs.Fetched.{Staging}
use Rattle.job_fetch.specs.Others.{ChangesNameAlone, AllChangeNameAlone, LeavesOthers, OthersLeftSince}

-- ---- names

away : (name changed other : List ℕ) → changed ≡ name → other ≢ name → changed ≢ other
away name changed other is differ same = differ (sym same ∙ is)

off_one : (name : List ℕ) (m : Names) (change : NameChange) (other : List ℕ) → ChangesNameAlone name change → other ≢ name → renamed m change other ≡ m other
off_one name m (Made n i) other alone differ = with_other m n (Some i) other (away name n other alone differ)
off_one name m (Moved from to) other alone differ = moved_off (m from) (away name from other alone.0 differ) (away name to other alone.1 differ)
  where
    moved_off : (x : Option ℕ) → from ≢ other → to ≢ other → moved_name m from to x other ≡ m other
    moved_off None f t = refl
    moved_off (Some i) f t = with_other (with_name m from None) to (Some i) other t ∙ with_other m from None other f
off_one name m (Removed n) other alone differ = with_other m n None other (away name n other alone differ)

off_all : (name : List ℕ) (m : Names) (changes : List NameChange) (other : List ℕ) → AllChangeNameAlone name changes → other ≢ name → all_renamed m changes other ≡ m other
off_all name m [] other alone differ = refl
off_all name m (change ∷ changes) other alone differ = off_all name (renamed m change) changes other alone.1 differ ∙ off_one name m change other alone.0 differ

part_alone : (name : List ℕ) (some all : List NameChange) → IsSubsequence some all → AllChangeNameAlone name all → AllChangeNameAlone name some
part_alone name some all none alone = tt
part_alone name some all (left_out change part) alone = part_alone name _ _ part alone.1
part_alone name some all (taken change part) alone = (alone.0, part_alone name _ _ part alone.1)

more_alone : (name : List ℕ) (changes : List NameChange) (number : ℕ) → AllChangeNameAlone name changes → AllChangeNameAlone name (changes ++ Made name number ∷ [])
more_alone name [] number alone = (refl, tt)
more_alone name (first ∷ changes) number alone = (alone.0, more_alone name changes number alone.1)

-- ---- one state after another

still_alone : (name : List ℕ) (changed : Option ℕ) (s t : State) → ChangesOnly name changed s t → AllChangeNameAlone name s.pending → AllChangeNameAlone name t.pending
still_alone name changed s t only alone = ⊎_elim
    (λ is. subst (λ (l : List NameChange). AllChangeNameAlone name l) (sym is) alone)
    (λ is. subst (λ (l : List NameChange). AllChangeNameAlone name l) (sym is) (more_alone name s.pending only.number alone))
    only.pending

others_left : (name : List ℕ) (changed : Option ℕ) (s t : State) → IsSound s → ChangesOnly name changed s t → LeavesOthers name s t
others_left name changed s t sound only = record {
  pending = still_alone name changed s t only;
  leaves = λ alone image is.
      let seen : List ℕ = (file_at s.files only.number).seen in
      let bytes : ℕ → List ℕ = instead only.number seen is.bytes in
      let outcome : (k : ℕ) → IsOutcome (file_at s.files k) (bytes k) = λ k. ⊎_elim
      (λ same. subst (λ (n : ℕ). IsOutcome (file_at s.files n) (bytes n)) (sym same) (subst (λ (b : List ℕ). IsOutcome (file_at s.files only.number) b) (sym (instead_same only.number seen is.bytes)) (sound.outcomes only.number)))
      (λ differ. subst (λ (b : List ℕ). IsOutcome (file_at s.files k) b) (sym (instead_other only.number seen is.bytes k differ)) (subst (λ f. IsOutcome f (is.bytes k)) (only.files k differ) (is.outcomes k)))
      (cases_eq k only.number) in
      let at : (other : List ℕ) → other ≢ name → (o : Option ℕ) → s.base other ≡ o → option_map is.bytes o ≡ option_map bytes o = λ other differ o leads. kept only.number seen is.bytes o
      (λ k there same. only.own other differ (off_all name s.base s.pending other alone differ ∙ leads ∙ there ∙ ap (λ (n : ℕ). Some n) same)) in
      record {
        before = view s.base bytes;
        was = view_image s bytes outcome;
        same = λ other differ.
            is.shows other
            ∙ ap (option_map is.bytes) (off_all name t.base is.some other (part_alone name is.some t.pending is.part (still_alone name changed s t only alone)) differ)
            ∙ ap (λ (m : Names). option_map is.bytes (m other)) only.base
            ∙ at other differ (s.base other) refl;
      };
}
  where
    kept : (number : ℕ) (seen : List ℕ) (left : ℕ → List ℕ) (o : Option ℕ) → ((k : ℕ) → o ≡ Some k → k ≢ number) → option_map left o ≡ option_map (instead number seen left) o
    kept number seen left None apart = refl
    kept number seen left (Some k) apart = ap (λ (b : List ℕ). Some b) (sym (instead_other number seen left k (apart k refl)))

pub others_by_steps : (name : List ℕ) (a b c : State) → LeavesOthers name a b → LeavesOthers name b c → LeavesOthers name a c
others_by_steps name a b c first later = record {
  pending = λ alone. later.pending (first.pending alone);
  leaves = λ alone image is.
      let near = later.leaves (first.pending alone) image is in
      let far = first.leaves alone near.before near.was in
      record { before = far.before; was = far.was; same = λ other differ. near.same other differ ∙ far.same other differ };
}

-- ---- a call, whatever it answers

call_leaves : {T E : Type 0} (name : List ℕ) (call : DiskCall) (old new : List State) (result : Result T E) → IsOn name call → AllSound old → Goes call old new result → Since old new (OthersLeftSince name old)
call_leaves name call old new result on sound is =
    (goes (LeavesOthers name) (λ s. Unit {0}) (λ s. Unit {0}) call old new result sound
    (λ s sound_s has. others_left name (changed_file s call) s (after s call) sound_s (call_changes name s call sound_s on))
    (λ s torn sound_s has part. others_left name (changed_file s call) s torn sound_s (torn_changes name (changed_file s call) s (after s call) torn (call_changes name s call sound_s on) part))
    (λ s sound_s has. tt) (any_stands old) is).0

pub call_stages : {T E : Type 0} (name : List ℕ) (call : DiskCall) (old new : List State) (result : Result T E) → IsOn (partial name) call → AllSound old → Goes call old new result → Staging name old new
call_stages name call old new result on sound is = record {
  moments = aside_stays (partial name) call old new result (partial_aside name) on sound is;
  others = parts_stay name call old new result on sound is;
  only = call_leaves (partial name) call old new result on sound is;
}
