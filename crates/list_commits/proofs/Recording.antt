-- The changes that are gathered for one commit.
use Rattle.std.proofs.Common.{◌≡◌, ◌≢◌, ◌⊎◌, inl, inr, ⊎_elim, refl, sym, ap, ◌∙◌, subst, arith, ℕ, suc, ◌+◌, ◌<◌, ◌≤◌, ◌^◌, true, List, [], ◌∷◌, ◌++◌, length, length-append, map, Option, Some, None, IfSome, Contains, All}
use Rattle.std.proofs.lemmas.List.{append-nil}
use Rattle.std.proofs.lemmas.List.Elements.{All-contains, Contains-append_left, Contains-append_right, Contains-append_cases}
use Rattle.std.proofs.lemmas.Cmp.{nat_list_cmp_total}
use Rattle.std.specs.Cmp.{tied_itself}
use Rattle.std.specs.Cmp.Lexicographic.{slice_cmp}
use Rattle.std.specs.Ordering.{nat_cmp}
use Rattle.std.specs.declared.cmp.Ordering.TheVariants.{Less}
use Rattle.std.specs.Prelude.{slice_index_or}
use Rattle.std.specs.List.{AllByRecursion as Each, flat_map}
use Rattle.acq_base.specs.Plan.{names_of}
use Rattle.acq_base.specs.declared.plan.Source.{Source}
use Rattle.acq_base.specs.declared.uri.ListName.{ListName}
use Rattle.acq_base.proofs.Lists.{first-or-rest}
use Rattle.acq_outside.specs.Crash.{State}
use Rattle.acq_outside.specs.Disk.{IsName}
use Rattle.journal_model.specs.Names.{IsPutName, is_installed_name, journal, lock, partial}
use Rattle.update_model.specs.declared.ask.Body.{Body}
use Rattle.update_model.specs.declared.ask.Body.TheVariants as bodies
use Rattle.update_model.specs.declared.settled.Settled.{Settled}
use Rattle.board_model.proofs.Making.{none-in}
use Rattle.journal_model.proofs.FolderNames.{list_inside, list_parts}
use Rattle.journal_model.proofs.Views.{partial_one}
use Rattle.commit_journal.specs.declared.changing.Change.{Change}
use Rattle.commit_journal.specs.declared.changing.Change.TheVariants.{Put, Drop}
use Rattle.commit_journal.specs.Changes.{AllAllowed, AreAllStaged, AreApart, AreStaged, CanRecord, IsDropName, IsNone, IsStaged, all_changes, changed_names, all_changed_names}
use Rattle.list_commits.specs.Changes.{changes_for, content_for, drop_for, drops_for, put_for, release_for}
use Rattle.list_commits.specs.Loose.{AreSorted, IsLoose, kept_of}
use Rattle.list_commits.specs.SetLaws.{HasPutNames, OwnsChanges}
use Rattle.list_commits.specs.RecordLaws.{AllSynced, AreGathered, IsSyncedPart, MayBeRemoved, group_of, groups_of, names_gathered, names_of_group}
use Rattle.list_commits.proofs.Apart.{apart_append, apart_of, here, none_if, not_in, there}
use Rattle.list_commits.proofs.Gone.{names_gone, all_kept, parts_kept}
use Rattle.list_commits.proofs.Folding.{names_in}
use Rattle.list_commits.proofs.Owned.{changed_apart, changed_is_touched}

-- each Put is of one of these names
abbrev PutsIn : List (List ℕ) → List Change → Type 0
PutsIn names [] = Unit {0}
PutsIn names (Put name content ∷ changes) = Contains names name.0 × PutsIn names changes
PutsIn names (Drop name ∷ changes) = PutsIn names changes

-- the names on the way of no Put are among these
abbrev PutsAside : List (List ℕ) → List Change → Type 0
PutsAside names [] = Unit {0}
PutsAside names (Put name content ∷ changes) = IsNone (partial name.0) names × PutsAside names changes
PutsAside names (Drop name ∷ changes) = PutsAside names changes

-- What is touched is apart where the names are, and the names on the way are none of them.
aside_tail : (name : List ℕ) (names : List (List ℕ)) (changes : List Change) → PutsAside (name ∷ names) changes → PutsAside names changes
aside_tail name names [] aside = tt
aside_tail name names (Put list content ∷ changes) aside = (aside.0.1, aside_tail name names changes aside.1)
aside_tail name names (Drop list ∷ changes) aside = aside_tail name names changes aside

none_touched : (name : List ℕ) (names : List (List ℕ)) (changes : List Change) → IsNone name (names_in changes) → PutsAside (name ∷ names) changes → IsNone name (changed_names changes)
none_touched name names [] none aside = tt
none_touched name names (Put list content ∷ changes) none aside = (none.0, (λ same. aside.0.0 (sym same), none_touched name names changes none.1 aside.1))
none_touched name names (Drop list ∷ changes) none aside = (none.0, none_touched name names changes none.1 aside)

none_on_way : (name : List ℕ) (changes : List Change) → IsNone name (names_in changes) → IsNone (partial name) (names_in changes) → IsNone (partial name) (changed_names changes)
none_on_way name [] none none_part = tt
none_on_way name (Put list content ∷ changes) none none_part = (none_part.0, (λ same. none.0 (partial_one list.0 name same), none_on_way name changes none.1 none_part.1))
none_on_way name (Drop list ∷ changes) none none_part = (none_part.0, none_on_way name changes none.1 none_part.1)

touched_apart : (changes : List Change) → AreApart (names_in changes) → PutsAside (names_in changes) changes → AreApart (changed_names changes)
touched_apart [] apart aside = tt
touched_apart (Put list content ∷ changes) apart aside = (
  (λ same. aside.0.0 (sym same), none_touched list.0 (names_in changes) changes apart.0 aside.1),
  (none_on_way list.0 changes apart.0 aside.0.1, touched_apart changes apart.1 (aside_tail list.0 (names_in changes) changes aside.1)),
)
touched_apart (Drop list ∷ changes) apart aside =
    (none_touched list (names_in changes) changes apart.0 aside, touched_apart changes apart.1 (aside_tail list (names_in changes) changes aside))

puts_aside : (names others : List (List ℕ)) (changes : List Change) → PutsIn names changes → ((name : List ℕ) → Contains names name → IsNone (partial name) others) → PutsAside others changes
puts_aside names others [] puts away = tt
puts_aside names others (Put list content ∷ changes) puts away = (away list.0 puts.0, puts_aside names others changes puts.1 away)
puts_aside names others (Drop list ∷ changes) puts away = puts_aside names others changes puts away

-- Joined changes.
names_joined : (a b : List Change) → names_in (a ++ b) ≡ names_in a ++ names_in b
names_joined [] b = refl
names_joined (Put list content ∷ a) b = ap (λ (l : List (List ℕ)). list.0 ∷ l) (names_joined a b)
names_joined (Drop list ∷ a) b = ap (λ (l : List (List ℕ)). list ∷ l) (names_joined a b)

allowed_joined : (a b : List Change) → AllAllowed a → AllAllowed b → AllAllowed (a ++ b)
allowed_joined [] b in_a in_b = in_b
allowed_joined (change ∷ a) b in_a in_b = (in_a.0, allowed_joined a b in_a.1 in_b)

puts_joined : (names more : List (List ℕ)) (a b : List Change) → PutsIn names a → PutsIn more b → PutsIn (names ++ more) (a ++ b)
puts_joined names more [] [] in_a in_b = tt
puts_joined names more [] (Put list content ∷ b) in_a in_b = (Contains-append_right names more list.0 in_b.0, puts_joined names more [] b in_a in_b.1)
puts_joined names more [] (Drop list ∷ b) in_a in_b = puts_joined names more [] b in_a in_b
puts_joined names more (Put list content ∷ a) b in_a in_b = (Contains-append_left names more list.0 in_a.0, puts_joined names more a b in_a.1 in_b)
puts_joined names more (Drop list ∷ a) b in_a in_b = puts_joined names more a b in_a in_b

puts_if : (names : List (List ℕ)) (changes : List Change) → ((name : List ℕ) → Contains (names_in changes) name → Contains names name) → PutsIn names changes
puts_if names [] within = tt
puts_if names (Put list content ∷ changes) within = (within list.0 (here list.0 (names_in changes) list.0 refl), puts_if names changes (λ name is. within name (there list.0 (names_in changes) name is)))
puts_if names (Drop list ∷ changes) within = puts_if names changes (λ name is. within name (there list (names_in changes) name is))

-- a list's name, under which a record may put one
abbrev IsOfList : List ℕ → Type 0
IsOfList name = IsPutName name × (is_installed_name name ≡ true)

allowed_if : (changes : List Change) → ((name : List ℕ) → Contains (names_in changes) name → IsOfList name) → AllAllowed changes
allowed_if [] put = tt
allowed_if (Put list content ∷ changes) put =
    let one = put list.0 (here list.0 (names_in changes) list.0 refl) in
    (record { put = one.0; file = (list_parts list.0 one.1).2 }, allowed_if changes (λ name is. put name (there list.0 (names_in changes) name is)))
allowed_if (Drop list ∷ changes) put =
    let one = put list (here list (names_in changes) list refl) in
    (record { named = one.0.named; inside = list_inside list one.1; not_lock = one.0.not_lock; not_journal = one.0.not_journal }, allowed_if changes (λ name is. put name (there list (names_in changes) name is)))

-- How many they are.
as_many : (changes : List Change) → length (names_in changes) ≡ length changes
as_many [] = refl
as_many (Put list content ∷ changes) = ap suc (as_many changes)
as_many (Drop list ∷ changes) = ap suc (as_many changes)

pub record Without (x : List ℕ) (ys : List (List ℕ)) : Type 0 where
  pub rest : List (List ℕ)
  pub one_less : length ys ≡ suc (length rest)
  pub others : (name : List ℕ) → Contains ys name → (x ≡ name) ⊎ Contains rest name

taken_out : (x : List ℕ) (ys : List (List ℕ)) → Contains ys x → Without x ys
taken_out x [] is = absurd (none-in x is)
taken_out x (y ∷ ys) is = by (taken_out x ys) (first-or-rest y ys x is)
  where
    by : (Contains ys x → Without x ys) → (y ≡ x) ⊎ Contains ys x → Without x (y ∷ ys)
    by deeper (inl same) = record { rest = ys; one_less = refl; others = λ name in_ys. ⊎_elim (λ first. inl (sym same ∙ first)) (λ later. inr later) (first-or-rest y ys name in_ys) }
    by deeper (inr later) =
        let out : Without x ys = deeper later in
        record {
          rest = y ∷ out.rest;
          one_less = ap suc out.one_less;
          others = λ name in_ys. ⊎_elim (λ first. inr (here y out.rest name first)) (λ behind. ⊎_elim (λ same. inl same) (λ left. inr (there y out.rest name left)) (out.others name behind)) (first-or-rest y ys name in_ys);
        }

fits_in : (xs ys : List (List ℕ)) → AreApart xs → ((name : List ℕ) → Contains xs name → Contains ys name) → length xs ≤ length ys
fits_in [] ys apart within = omega arith
fits_in (x ∷ xs) ys apart within =
    let out : Without x ys = taken_out x ys (within x (here x xs x refl)) in
    let fewer : length xs ≤ length out.rest = fits_in xs out.rest apart.1 (λ name is. ⊎_elim
    (λ same. absurd (not_in x xs apart.0 (subst (Contains xs) (sym same) is)))
    (λ left. left)
    (out.others name (within name (there x xs name is)))) in
    omega (arith, out.one_less, fewer)

-- Names in order.
apart_sorted : (names : List (List ℕ)) → AreSorted names → AreApart names
apart_sorted names sorted = apart_of names (λ i j d low high same.
    let less = sorted i j d low high in
    let equal = tied_itself nat_list_cmp_total (slice_index_or names j d) in
    let wrong = sym (subst (λ (n : List ℕ). slice_cmp nat_cmp n (slice_index_or names j d) ≡ Less) same less) ∙ equal in
    absurd cc)

-- What is gathered, over the names of its sources and those of the clean-up.
record Gathers (planned gone : List (List ℕ)) (changes : List Change) : Type 0 where
  within : (name : List ℕ) → Contains (names_in changes) name → Contains planned name ⊎ Contains gone name
  apart : AreApart (names_in changes)
  allowed : AllAllowed changes
  puts : PutsIn planned changes
  short : length changes ≤ length planned + length gone

-- the planned names are apart from those of the clean-up
abbrev AreAway : List (List ℕ) → List (List ℕ) → Type 0
AreAway planned gone = (name : List ℕ) → Contains planned name → Contains gone name → ⊥

pub both_apart : (xs ys : List (List ℕ)) (name : List ℕ) → AreApart (xs ++ ys) → Contains xs name → Contains ys name → ⊥
both_apart [] ys name apart in_x in_y = none-in name in_x
both_apart (x ∷ xs) ys name apart in_x in_y = ⊎_elim
    (λ same. not_in x (xs ++ ys) apart.0 (subst (Contains (xs ++ ys)) (sym same) (Contains-append_right xs ys name in_y)))
    (λ later. both_apart xs ys name apart.1 later in_y)
    (first-or-rest x xs name in_x)

pub right_apart : (xs ys : List (List ℕ)) → AreApart (xs ++ ys) → AreApart ys
right_apart [] ys apart = apart
right_apart (x ∷ xs) ys apart = right_apart xs ys apart.1

one_more : (source : Source) (settled : Settled) (planned gone : List (List ℕ)) (changes : List Change) → HasPutNames source → OwnsChanges source settled → AreApart (names_of source ++ planned) → AreAway (names_of source ++ planned) gone
    → Gathers planned gone changes → Gathers (names_of source ++ planned) gone (changes_for source settled ++ changes)
one_more source settled planned gone changes names owns apart away so_far = record {
  within = λ name is. ⊎_elim
      (λ own. inl (Contains-append_left (names_of source) planned name (within_source name own)))
      (λ other. ⊎_elim (λ in_planned. inl (Contains-append_right (names_of source) planned name in_planned)) (λ in_gone. inr in_gone) (so_far.within name other))
      (Contains-append_cases (names_in (changes_for source settled)) (names_in changes) name (subst (λ (l : List (List ℕ)). Contains l name) (names_joined (changes_for source settled) changes) is));
  apart = subst AreApart (sym (names_joined (changes_for source settled) changes))
      (apart_append (names_in (changes_for source settled)) (names_in changes) (changed_apart source settled owns) so_far.apart
      (λ name own. none_if name (names_in changes) (λ other. ⊎_elim
      (λ in_planned. both_apart (names_of source) planned name apart (within_source name own) in_planned)
      (λ in_gone. away name (Contains-append_left (names_of source) planned name (within_source name own)) in_gone)
      (so_far.within name other))));
  allowed = allowed_joined (changes_for source settled) changes (allowed_if (changes_for source settled) of_lists) so_far.allowed;
  puts = puts_joined (names_of source) planned (changes_for source settled) changes (puts_if (names_of source) (changes_for source settled) within_source) so_far.puts;
  short =
      let fit : length (names_in (changes_for source settled)) ≤ length (names_of source) = fits_in (names_in (changes_for source settled)) (names_of source) (changed_apart source settled owns) within_source in
      omega (arith, fit, as_many (changes_for source settled), so_far.short, length-append (changes_for source settled) changes, length-append (names_of source) planned);
}
  where
    within_source : (name : List ℕ) → Contains (names_in (changes_for source settled)) name → Contains (names_of source) name
    within_source name is = owns.own name (changed_is_touched source settled name is)

    of_lists : (name : List ℕ) → Contains (names_in (changes_for source settled)) name → IsOfList name
    of_lists name is = (
      All-contains IsPutName (names_of source) name names.put (within_source name is),
      All-contains (λ n. is_installed_name n ≡ true) (names_of source) name names.listed (within_source name is),
    )

goes_allowed : (names : List (List ℕ)) → ((name : List ℕ) → Contains names name → IsDropName name) → AllAllowed (drops_for names)
goes_allowed [] may = tt
goes_allowed (name ∷ names) may = (may name (here name names name refl), goes_allowed names (λ other is. may other (there name names other is)))

goes_puts : (planned names : List (List ℕ)) → PutsIn planned (drops_for names)
goes_puts planned [] = tt
goes_puts planned (name ∷ names) = goes_puts planned names

drop_named : (sources : List Source) (name : List ℕ) → IsLoose sources name → IsName name → IsDropName name
drop_named sources name loose named = record {
  named = named;
  inside = loose.inside;
  not_lock = λ same. loose.other (here lock (journal ∷ flat_map kept_of sources) name (sym same));
  not_journal = λ same. loose.other (there lock (journal ∷ flat_map kept_of sources) name (here journal (flat_map kept_of sources) name (sym same)));
}

clean_up_alone : (sources : List Source) (loose : Option (List (List ℕ))) → IfSome loose (MayBeRemoved sources) → Gathers [] (names_of_group loose) (all_changes (group_of loose))
clean_up_alone sources None may = record { within = λ name is. absurd (none-in name is); apart = tt; allowed = tt; puts = tt; short = omega arith }
clean_up_alone sources (Some names) may = subst (Gathers [] names) (sym (append-nil (drops_for names))) (record {
  within = λ name is. inr (subst (λ (l : List (List ℕ)). Contains l name) (names_gone names) is);
  apart = subst AreApart (sym (names_gone names)) (apart_sorted names may.sorted);
  allowed = goes_allowed names (λ name is. drop_named sources name (All-contains (IsLoose sources) names name may.loose is) (All-contains IsName names name may.named is));
  puts = goes_puts [] names;
  short = omega (arith, as_many (drops_for names), ap (length {A = List ℕ}) (names_gone names));
})

gathers : (sources : List Source) (loose : Option (List (List ℕ))) (gathered : List (Source × Settled)) → IfSome loose (MayBeRemoved sources) → Each (λ s. HasPutNames s.0) gathered → Each (λ s. OwnsChanges s.0 s.1) gathered
    → AreApart (names_gathered gathered) → AreAway (names_gathered gathered) (names_of_group loose) → Gathers (names_gathered gathered) (names_of_group loose) (all_changes (groups_of gathered loose))
gathers sources loose [] may put own apart away = clean_up_alone sources loose may
gathers sources loose (s ∷ gathered) may put own apart away =
    one_more s.0 s.1 (names_gathered gathered) (names_of_group loose) (all_changes (groups_of gathered loose)) put.0 own.0 apart away
    (gathers sources loose gathered may put.1 own.1 (right_apart (names_of s.0) (names_gathered gathered) apart) (λ name is. away name (Contains-append_right (names_of s.0) (names_gathered gathered) name is)))

-- no name on its way is one of the planned names
others_gathered : (gathered : List (Source × Settled)) → Each (λ s. HasPutNames s.0) gathered → (name other : List ℕ) → Contains (names_gathered gathered) name → partial other ≢ name
others_gathered [] put name other is same = none-in name is
others_gathered (s ∷ gathered) put name other is same = ⊎_elim
    (λ own. put.0.others name other own same)
    (λ later. others_gathered gathered put.1 name other later same)
    (Contains-append_cases (names_of s.0) (names_gathered gathered) name is)

kept_away : (sources : List Source) (names : List (List ℕ)) (name : List ℕ) → All (IsLoose sources) names → Contains (flat_map kept_of sources) name → Contains names name → ⊥
kept_away sources names name loose kept is = (All-contains (IsLoose sources) names name loose is).other (there lock (journal ∷ flat_map kept_of sources) name (there journal (flat_map kept_of sources) name kept))

are_away : (sources : List Source) (gathered : List (Source × Settled)) (loose : Option (List (List ℕ))) → AreGathered sources gathered → IfSome loose (MayBeRemoved sources) → AreAway (names_gathered gathered) (names_of_group loose)
are_away sources gathered None are may name planned is = none-in name is
are_away sources gathered (Some names) are may name planned is = kept_away sources names name may.loose (all_kept sources name (are.among name planned)) is

parts_away : (sources : List Source) (gathered : List (Source × Settled)) (loose : Option (List (List ℕ))) → AreGathered sources gathered → IfSome loose (MayBeRemoved sources) → (name : List ℕ) → Contains (names_gathered gathered) name → Contains (names_of_group loose) (partial name) → ⊥
parts_away sources gathered None are may name planned is = none-in (partial name) is
parts_away sources gathered (Some names) are may name planned is = kept_away sources names (partial name) may.loose (parts_kept sources name (are.among name planned)) is

many_names : (gathered : List (Source × Settled)) → length (map (λ s. changes_for s.0 s.1) gathered) ≤ length (names_gathered gathered)
many_names [] = omega arith
many_names (s ∷ gathered) = omega (arith, many_names gathered, length-append (names_of s.0) (names_gathered gathered))

few_groups : (loose : Option (List (List ℕ))) → length (group_of loose) ≤ 1
few_groups None = omega arith
few_groups (Some names) = omega arith

few_gone : (sources : List Source) (loose : Option (List (List ℕ))) → IfSome loose (MayBeRemoved sources) → length (names_of_group loose) < 2 ^ 31
few_gone sources None may = omega arith
few_gone sources (Some names) may = may.few

pub can_record : (sources : List Source) (gathered : List (Source × Settled)) (loose : Option (List (List ℕ))) → AreGathered sources gathered → IfSome loose (MayBeRemoved sources) → CanRecord (groups_of gathered loose)
can_record sources gathered loose are may = record {
  few = omega (arith, are.few, many_names gathered, few_groups loose, length-append (map (λ s. changes_for s.0 s.1) gathered) (group_of loose));
  short = omega (arith, so.short, are.few, few_gone sources loose may);
  allowed = so.allowed;
  apart = touched_apart (all_changes (groups_of gathered loose)) so.apart (puts_aside (names_gathered gathered) (names_in (all_changes (groups_of gathered loose))) (all_changes (groups_of gathered loose)) so.puts
      (λ name planned. none_if (partial name) (names_in (all_changes (groups_of gathered loose))) (λ is. ⊎_elim
      (λ in_planned. others_gathered gathered are.put (partial name) name in_planned refl)
      (λ in_gone. parts_away sources gathered loose are may name planned in_gone)
      (so.within (partial name) is))));
}
  where
    so : Gathers (names_gathered gathered) (names_of_group loose) (all_changes (groups_of gathered loose))
    so = gathers sources loose gathered may are.put are.own (apart_of (names_gathered gathered) are.distinct) (are_away sources gathered loose are may)

-- Other files stay.
none_joined : (other : List ℕ) (a b : List Change) → IsNone other (changed_names a) → IsNone other (changed_names b) → IsNone other (changed_names (a ++ b))
none_joined other [] b none_a none_b = none_b
none_joined other (Put list content ∷ a) b none_a none_b = (none_a.0, (none_a.1.0, none_joined other a b none_a.1.1 none_b))
none_joined other (Drop list ∷ a) b none_a none_b = (none_a.0, none_joined other a b none_a.1 none_b)

untouched : (other : List ℕ) (names : List (List ℕ)) (changes : List Change) → ((name : List ℕ) → Contains (names_in changes) name → Contains names name) → (Contains names other → ⊥) → ((name : List ℕ) → Contains names name → partial name ≢ other) → IsNone other (changed_names changes)
untouched other names [] within away parts = tt
untouched other names (Put list content ∷ changes) within away parts =
    let one = within list.0 (here list.0 (names_in changes) list.0 refl) in
    (λ same. away (subst (Contains names) same one), (parts list.0 one, untouched other names changes (λ name is. within name (there list.0 (names_in changes) name is)) away parts))
untouched other names (Drop list ∷ changes) within away parts =
    let one = within list (here list (names_in changes) list refl) in
    (λ same. away (subst (Contains names) same one), untouched other names changes (λ name is. within name (there list (names_in changes) name is)) away parts)

untouched_gone : (other : List ℕ) (names : List (List ℕ)) → (Contains names other → ⊥) → IsNone other (changed_names (drops_for names))
untouched_gone other [] away = tt
untouched_gone other (name ∷ names) away = (λ same. away (here name names other same), untouched_gone other names (λ is. away (there name names other is)))

untouched_group : (other : List ℕ) (loose : Option (List (List ℕ))) → (Contains (names_of_group loose) other → ⊥) → IsNone other (all_changed_names (group_of loose))
untouched_group other None away = tt
untouched_group other (Some names) away = subst (λ (changes : List Change). IsNone other (changed_names changes)) (sym (append-nil (drops_for names))) (untouched_gone other names away)

untouched_all : (gathered : List (Source × Settled)) (loose : Option (List (List ℕ))) (other : List ℕ) → Each (λ s. OwnsChanges s.0 s.1) gathered
    → (Contains (names_gathered gathered) other → ⊥) → ((name : List ℕ) → Contains (names_gathered gathered) name → partial name ≢ other) → (Contains (names_of_group loose) other → ⊥) → IsNone other (all_changed_names (groups_of gathered loose))
untouched_all [] loose other own away parts not_gone = untouched_group other loose not_gone
untouched_all (s ∷ gathered) loose other own away parts not_gone =
    none_joined other (changes_for s.0 s.1) (all_changes (groups_of gathered loose))
    (untouched other (names_of s.0) (changes_for s.0 s.1) (λ name is. own.0.own name (changed_is_touched s.0 s.1 name is))
    (λ is. away (Contains-append_left (names_of s.0) (names_gathered gathered) other is)) (λ name is. parts name (Contains-append_left (names_of s.0) (names_gathered gathered) name is)))
    (untouched_all gathered loose other own.1 (λ is. away (Contains-append_right (names_of s.0) (names_gathered gathered) other is)) (λ name is. parts name (Contains-append_right (names_of s.0) (names_gathered gathered) name is)) not_gone)

pub keep_others : (sources : List Source) (gathered : List (Source × Settled)) (loose : Option (List (List ℕ))) (other : List ℕ) → AreGathered sources gathered
    → (Contains (names_gathered gathered) other → ⊥) → ((name : List ℕ) → Contains (names_gathered gathered) name → partial name ≢ other) → (Contains (names_of_group loose) other → ⊥) → IsNone other (all_changed_names (groups_of gathered loose))
keep_others sources gathered loose other are away parts not_gone = untouched_all gathered loose other are.own away parts not_gone

-- What is staged.
staged_joined : (s : State) (a b : List Change) → AreStaged a s → AreStaged b s → AreStaged (a ++ b) s
staged_joined s [] b in_a in_b = in_b
staged_joined s (change ∷ a) b in_a in_b = (in_a.0, staged_joined s a b in_a.1 in_b)

staged_put : (s : State) (name : ListName) (body : Body) → IsSyncedPart s name body → IsStaged s (Put name (content_for body))
staged_put s name (bodies.Bytes bytes) lasts = tt
staged_put s name (bodies.Staged sum) lasts = lasts

staged_puts : (s : State) (puts : List (ListName × Body)) → Each (λ put. IsSyncedPart s put.0 put.1) puts → AreStaged (map put_for puts) s
staged_puts s [] last = tt
staged_puts s (put ∷ puts) last = (staged_put s put.0 put.1 last.0, staged_puts s puts last.1)

staged_release : (s : State) (name : ListName) (release : Option (List ℕ)) → AreStaged (release_for name release) s
staged_release s name None = tt
staged_release s name (Some bytes) = (tt, tt)

staged_drops : (s : State) (drops : List ListName) → AreStaged (map drop_for drops) s
staged_drops s [] = tt
staged_drops s (name ∷ drops) = (tt, staged_drops s drops)

staged_gone : (s : State) (names : List (List ℕ)) → AreStaged (drops_for names) s
staged_gone s [] = tt
staged_gone s (name ∷ names) = (tt, staged_gone s names)

staged_group : (s : State) (loose : Option (List (List ℕ))) → AreAllStaged (group_of loose) s
staged_group s None = tt
staged_group s (Some names) = staged_joined s (drops_for names) [] (staged_gone s names) tt

pub all_staged : (gathered : List (Source × Settled)) (loose : Option (List (List ℕ))) (s : State) → AllSynced s gathered → AreAllStaged (groups_of gathered loose) s
all_staged [] loose s last = staged_group s loose
all_staged (one ∷ gathered) loose s last =
    staged_joined s (changes_for one.0 one.1) (all_changes (groups_of gathered loose))
    (staged_joined s (map put_for one.1.puts ++ release_for one.0.release_name one.1.release) (map drop_for one.1.drops)
    (staged_joined s (map put_for one.1.puts) (release_for one.0.release_name one.1.release) (staged_puts s one.1.puts last.0) (staged_release s one.0.release_name one.1.release)) (staged_drops s one.1.drops))
    (all_staged gathered loose s last.1)
