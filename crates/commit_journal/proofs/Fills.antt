-- What a commit puts is laid under `partial/`, change after change.
use Rattle.std.proofs.Common.{◌≡◌, refl, sym, ap, ◌∙◌, subst, ℕ, suc, ◌+◌, ◌<◌, List, [], ◌∷◌, ◌++◌, length, get_or, take, drop, Some}
use Rattle.acq_outside.specs.Crash.{State, synced}
use Rattle.acq_outside.specs.States.{IsNow, Since}
use Rattle.acq_outside.proofs.Going.{IsBySteps, onward, handed_on}
use Rattle.journal_model.specs.Names.{partial}
use Rattle.journal_model.specs.Rest.{IsIdle, KeepsAtRest, KeptAtRestSince, part_file, part_bytes, bytes_in, file_named}
use Rattle.commit_journal.specs.declared.changing.Change.{Change}
use Rattle.commit_journal.specs.declared.changing.Change.TheVariants.{Put, Drop}
use Rattle.commit_journal.specs.declared.changing.Content.{Content}
use Rattle.commit_journal.specs.declared.changing.Content.TheVariants.{Held, Staged}
use Rattle.commit_journal.specs.Changes.{content_of, changed_names, all_changes, IsNone, AreApart, AllAllowed, AreStaged}
use Rattle.commit_journal.specs.Laying.{AreFilledFrom, KeepsUnnamedIn}
use Rattle.commit_journal.proofs.Recordable.{Away}
use Rattle.commit_journal.proofs.Parted.{none_split, apart_split, away_turned, away_split, allowed_parts, change_at, take_next, group_at, group_next}

-- after some of the changes
pub record WritesParts (done : List Change) (old now : List State) : Type 0 where
  pub moments : Since old now (KeptAtRestSince old)
  pub others : KeepsUnnamedIn (changed_names done) old now
  pub filled : IsNow (AreFilledFrom (part_bytes old) done) now

-- one call after another
rest_by_steps : IsBySteps KeepsAtRest
rest_by_steps a b c first later = record { rest = λ idle folder rest. later.rest (first.idle idle) folder (first.rest idle folder rest); idle = λ idle. later.idle (first.idle idle) }

pub rests_on : (old mid new : List State) → Since old mid (KeptAtRestSince old) → Since mid new (KeptAtRestSince mid) → Since old new (KeptAtRestSince old)
rests_on old mid new first later = onward KeepsAtRest rest_by_steps old mid new first later

pub idle_on : (old new : List State) → Since old new (KeptAtRestSince old) → IsNow IsIdle old → IsNow IsIdle new
idle_on old new since idle = handed_on KeepsAtRest IsIdle old new (λ s t stays. stays.idle) since idle

-- What is laid stays while others are.
part_same : (new old : List State) (name : List ℕ) → part_file new name ≡ part_file old name → part_bytes new name ≡ part_bytes old name
part_same new old name same = ap bytes_in same

filled_after : (part : List ℕ → List ℕ) (done : List Change) (names : List (List ℕ)) (s t : State) → ((name : List ℕ) → IsNone (partial name) names → file_named t (partial name) ≡ file_named s (partial name)) → Away (changed_names done) names
    → AreFilledFrom part done s → AreFilledFrom part done t
filled_after part [] names s t same away filled = tt
filled_after part (Put name content ∷ done) names s t same away filled = (record { is = same name.0 away.1.0 ∙ filled.0.is }, filled_after part done names s t same away.1.1 filled.1)
filled_after part (Drop name ∷ done) names s t same away filled = (tt, filled_after part done names s t same away.1 filled.1)

filled_stays : (part : List ℕ → List ℕ) (done more : List Change) (mid new : List State) → (mid ≡ [] → new ≡ []) → KeepsUnnamedIn (changed_names more) mid new → Away (changed_names done) (changed_names more) → IsNow (AreFilledFrom part done) mid → IsNow (AreFilledFrom part done) new
filled_stays part done more mid [] untold keeps away filled = tt
filled_stays part done more [] (t ∷ past) untold keeps away filled = absurd (let clash = untold refl in cc)
filled_stays part done more (s ∷ before) (t ∷ past) untold keeps away filled = filled_after part done (changed_names more) s t (λ name none. keeps (partial name) none) away filled

-- what is laid from later bytes is laid from earlier ones
content_same : (one two : List ℕ → List ℕ) (name : List ℕ) (content : Content) → one name ≡ two name → content_of one name content ≡ content_of two name content
content_same one two name (Held bytes) same = refl
content_same one two name Staged same = same

filled_earlier : (one two : List ℕ → List ℕ) (more : List Change) (names : List (List ℕ)) (s : State) → ((name : List ℕ) → IsNone (partial name) names → one name ≡ two name) → Away (changed_names more) names → AreFilledFrom one more s → AreFilledFrom two more s
filled_earlier one two [] names s same away filled = tt
filled_earlier one two (Put name content ∷ more) names s same away filled =
    (record { is = filled.0.is ∙ ap (λ (b : List ℕ). Some (synced b)) (content_same one two name.0 content (same name.0 away.1.0)) }, filled_earlier one two more names s same away.1.1 filled.1)
filled_earlier one two (Drop name ∷ more) names s same away filled = (tt, filled_earlier one two more names s same away.1 filled.1)

stands_earlier : (done more : List Change) (old mid new : List State) → KeepsUnnamedIn (changed_names done) old mid → Away (changed_names more) (changed_names done) → IsNow (AreFilledFrom (part_bytes mid) more) new → IsNow (AreFilledFrom (part_bytes old) more) new
stands_earlier done more old mid [] keeps away filled = tt
stands_earlier done more old mid (t ∷ past) keeps away filled = filled_earlier (part_bytes mid) (part_bytes old) more (changed_names done) t (λ name none. part_same mid old name (keeps (partial name) none)) away filled

filled_joined : (part : List ℕ → List ℕ) (a b : List Change) (s : State) → AreFilledFrom part a s → AreFilledFrom part b s → AreFilledFrom part (a ++ b) s
filled_joined part [] b s in_a in_b = in_b
filled_joined part (c ∷ a) b s in_a in_b = (in_a.0, filled_joined part a b s in_a.1 in_b)

stands_joined : (part : List ℕ → List ℕ) (a b : List Change) (now : List State) → IsNow (AreFilledFrom part a) now → IsNow (AreFilledFrom part b) now → IsNow (AreFilledFrom part (a ++ b)) now
stands_joined part a b [] in_a in_b = tt
stands_joined part a b (s ∷ past) in_a in_b = filled_joined part a b s in_a in_b

-- the next ones are still staged
staged_after : (more : List Change) (names : List (List ℕ)) (s t : State) → ((name : List ℕ) → IsNone (partial name) names → file_named t (partial name) ≡ file_named s (partial name)) → Away (changed_names more) names → AreStaged more s → AreStaged more t
staged_after [] names s t same away staged = tt
staged_after (Put name (Held bytes) ∷ more) names s t same away staged = (tt, staged_after more names s t same away.1.1 staged.1)
staged_after (Put name Staged ∷ more) names s t same away staged = ((staged.0.0, record { is = same name.0 away.1.0 ∙ staged.0.1.is }), staged_after more names s t same away.1.1 staged.1)
staged_after (Drop name ∷ more) names s t same away staged = (tt, staged_after more names s t same away.1 staged.1)

staged_split : (a b : List Change) (s : State) → AreStaged (a ++ b) s → AreStaged a s × AreStaged b s
staged_split [] b s staged = (tt, staged)
staged_split (c ∷ a) b s staged = let rest = staged_split a b s staged.1 in ((staged.0, rest.0), rest.1)

staged_stands : (done more rest : List Change) (old mid : List State) → (old ≡ [] → mid ≡ []) → KeepsUnnamedIn (changed_names done) old mid → Away (changed_names more) (changed_names done) → IsNow (AreStaged (done ++ (more ++ rest))) old → IsNow (AreStaged more) mid
staged_stands done more rest old [] untold keeps away staged = tt
staged_stands done more rest [] (t ∷ past) untold keeps away staged = absurd (let clash = untold refl in cc)
staged_stands done more rest (s ∷ before) (t ∷ past) untold keeps away staged =
    staged_after more (changed_names done) s t (λ name none. keeps (partial name) none) away (staged_split more rest s (staged_split done (more ++ rest) s staged).1).0

-- A turn of a loop: some changes are done, and now come more of all.
pub record Coming (all done more : List Change) (old mid : List State) : Type 0 where
  pub allowed : AllAllowed more
  pub apart : AreApart (changed_names more)
  pub staged : IsNow (AreStaged more) mid
  pub idle : IsNow IsIdle mid
  pub front : Away (changed_names done) (changed_names more)

coming_from : (done more rest : List Change) (old mid : List State) → AllAllowed (done ++ (more ++ rest)) → AreApart (changed_names (done ++ (more ++ rest))) → IsNow (AreStaged (done ++ (more ++ rest))) old → IsNow IsIdle old → WritesParts done old mid → Coming (done ++ (more ++ rest)) done more old mid
coming_from done more rest old mid allowed apart staged idle fills =
    let parts = apart_split done (more ++ rest) apart in
    let inner = apart_split more rest parts.1.0 in
    let both = away_split (changed_names done) more rest parts.1.1 in
    record {
      allowed = (allowed_parts more rest (allowed_parts done (more ++ rest) allowed).1).0;
      apart = inner.0;
      staged = staged_stands done more rest old mid fills.moments.untold fills.others (away_turned (changed_names done) (changed_names more) both) staged;
      idle = idle_on old mid fills.moments idle;
      front = both;
    }

pub coming : (all done more rest : List Change) (old mid : List State) → all ≡ done ++ (more ++ rest) → AllAllowed all → AreApart (changed_names all) → IsNow (AreStaged all) old → IsNow IsIdle old → WritesParts done old mid → Coming all done more old mid
coming all done more rest old mid is allowed apart staged idle fills =
    subst (λ (l : List Change). Coming l done more old mid) (sym is) (coming_from done more rest old mid
    (subst AllAllowed is allowed) (subst (λ (l : List Change). AreApart (changed_names l)) is apart) (subst (λ (l : List Change). IsNow (AreStaged l) old) is staged) idle fills)

pub fills_more : (all done more : List Change) (old mid new : List State) → Coming all done more old mid → WritesParts done old mid → Since mid new (KeptAtRestSince mid) → KeepsUnnamedIn (changed_names more) mid new → IsNow (AreFilledFrom (part_bytes mid) more) new → WritesParts (done ++ more) old new
fills_more all done more old mid new comes fills moments keeps filled = record {
  moments = rests_on old mid new fills.moments moments;
  others = λ other none. let each = none_split done more other none in keeps other each.1 ∙ fills.others other each.0;
  filled = stands_joined (part_bytes old) done more new
      (filled_stays (part_bytes old) done more mid new moments.untold keeps comes.front fills.filled)
      (stands_earlier done more old mid new fills.others (away_turned (changed_names done) (changed_names more) comes.front) filled);
}

-- stopped within it
pub others_within : (all done more rest : List Change) (old mid new : List State) → all ≡ done ++ (more ++ rest) → WritesParts done old mid → KeepsUnnamedIn (changed_names more) mid new → KeepsUnnamedIn (changed_names all) old new
others_within all done more rest old mid new is fills keeps other none =
    let outer = none_split done (more ++ rest) other (subst (λ (l : List Change). IsNone other (changed_names l)) is none) in
    let inner = none_split more rest other outer.1 in
    keeps other inner.0 ∙ fills.others other outer.0

-- a change of a group, and a group among all
pub change_comes : (changes : List Change) (i : ℕ) (change : Change) (old mid : List State) → i < length changes → change ≡ get_or changes i change → AllAllowed changes → AreApart (changed_names changes) → IsNow (AreStaged changes) old → IsNow IsIdle old
    → WritesParts (take i changes) old mid → Coming changes (take i changes) (change ∷ []) old mid
change_comes changes i change old mid below is allowed apart staged idle fills = coming changes (take i changes) (change ∷ []) (drop (suc i) changes) old mid (change_at changes i change below is) allowed apart staged idle fills

pub change_fills : (changes : List Change) (i : ℕ) (change : Change) (old mid new : List State) → i < length changes → change ≡ get_or changes i change → Coming changes (take i changes) (change ∷ []) old mid → WritesParts (take i changes) old mid
    → Since mid new (KeptAtRestSince mid) → KeepsUnnamedIn (changed_names (change ∷ [])) mid new → IsNow (AreFilledFrom (part_bytes mid) (change ∷ [])) new → WritesParts (take (i + 1) changes) old new
change_fills changes i change old mid new below is comes fills moments keeps filled =
    subst (λ (l : List Change). WritesParts l old new) (take_next changes i change below is) (fills_more changes (take i changes) (change ∷ []) old mid new comes fills moments keeps filled)

pub change_within : (changes : List Change) (i : ℕ) (change : Change) (old mid new : List State) → i < length changes → change ≡ get_or changes i change → WritesParts (take i changes) old mid → KeepsUnnamedIn (changed_names (change ∷ [])) mid new → KeepsUnnamedIn (changed_names changes) old new
change_within changes i change old mid new below is fills keeps = others_within changes (take i changes) (change ∷ []) (drop (suc i) changes) old mid new (change_at changes i change below is) fills keeps

pub group_comes : (groups : List (List Change)) (i : ℕ) (group slice : List Change) (old mid : List State) → i < length groups → group ≡ get_or groups i group → slice ≡ group → AllAllowed (all_changes groups) → AreApart (changed_names (all_changes groups))
    → IsNow (AreStaged (all_changes groups)) old → IsNow IsIdle old → WritesParts (all_changes (take i groups)) old mid → Coming (all_changes groups) (all_changes (take i groups)) slice old mid
group_comes groups i group slice old mid below is same allowed apart staged idle fills =
    subst (λ (l : List Change). Coming (all_changes groups) (all_changes (take i groups)) l old mid) (sym same)
    (coming (all_changes groups) (all_changes (take i groups)) group (all_changes (drop (suc i) groups)) old mid (group_at groups i group below is) allowed apart staged idle fills)

pub group_fills : (groups : List (List Change)) (i : ℕ) (group slice : List Change) (old mid new : List State) → i < length groups → group ≡ get_or groups i group → slice ≡ group → Coming (all_changes groups) (all_changes (take i groups)) slice old mid
    → WritesParts (all_changes (take i groups)) old mid → Since mid new (KeptAtRestSince mid) → KeepsUnnamedIn (changed_names slice) mid new → IsNow (AreFilledFrom (part_bytes mid) slice) new → WritesParts (all_changes (take (i + 1) groups)) old new
group_fills groups i group slice old mid new below is same comes fills moments keeps filled =
    subst (λ (l : List Change). WritesParts l old new) (ap (λ (l : List Change). all_changes (take i groups) ++ l) same ∙ group_next groups i group below is)
    (fills_more (all_changes groups) (all_changes (take i groups)) slice old mid new comes fills moments keeps filled)

pub group_within : (groups : List (List Change)) (i : ℕ) (group slice : List Change) (old mid new : List State) → i < length groups → group ≡ get_or groups i group → slice ≡ group → WritesParts (all_changes (take i groups)) old mid → KeepsUnnamedIn (changed_names slice) mid new
    → KeepsUnnamedIn (changed_names (all_changes groups)) old new
group_within groups i group slice old mid new below is same fills keeps =
    others_within (all_changes groups) (all_changes (take i groups)) group (all_changes (drop (suc i) groups)) old mid new (group_at groups i group below is) fills (subst (λ (l : List Change). KeepsUnnamedIn (changed_names l) mid new) same keeps)
