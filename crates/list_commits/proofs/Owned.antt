-- The names that a source's changes touch.
use Rattle.std.proofs.Common.{◌≡◌, refl, sym, ap, ◌∙◌, subst, ℕ, true, List, [], ◌∷◌, ◌++◌, map, Option, Some, None, option_map, IfSome, Ok, Contains, All, append_assoc}
use Rattle.std.specs.List.{AllByRecursion as Each}
use Rattle.std.proofs.lemmas.List.Elements.{All-contains}
use Rattle.acq_base.specs.Plan.{names_of}
use Rattle.acq_base.specs.Sum.{sum_of}
use Rattle.acq_base.specs.declared.plan.Source.{Source}
use Rattle.acq_base.specs.declared.uri.ListName.{ListName}
use Rattle.acq_outside.specs.Disk.{Files}
use Rattle.journal_model.specs.Names.{is_installed_name}
use Rattle.update_model.specs.Carried.{Does}
use Rattle.update_model.specs.Files.{sum_of_body}
use Rattle.update_model.specs.Next.{OutcomeLeaves, Installs}
use Rattle.update_model.specs.Outcomes.{AdmittedRelease}
use Rattle.update_model.specs.declared.ask.Body.{Body}
use Rattle.update_model.specs.declared.settled.Settled.{Settled}
use Rattle.board_model.specs.Changes.{AreMade, release_name_in, touched}
use Rattle.commit_journal.specs.declared.changing.Change.{Change}
use Rattle.commit_journal.specs.Changes.{filled, folder_steps, AreApart}
use Rattle.list_commits.specs.Changes.{changes_for, drop_for, put_for, release_for}
use Rattle.list_commits.specs.SetLaws.{HasPutNames, HaveSums, OwnsChanges}
use Rattle.list_commits.proofs.Apart.{apart_insert, apart_of, contains_insert, here, none_if, there}
use Rattle.list_commits.proofs.Folding.{AllLists, drops_made, names_in, puts_made, release_made, steps_beside}

abbrev put_name : ListName × Body → List ℕ
put_name put = put.0.0

abbrev drop_name : ListName → List ℕ
drop_name name = name.0

names_behind : (puts : List (ListName × Body)) (rest : List Change) → names_in (map put_for puts ++ rest) ≡ map put_name puts ++ names_in rest
names_behind [] rest = refl
names_behind (put ∷ puts) rest = ap (λ (names : List (List ℕ)). put.0.0 ∷ names) (names_behind puts rest)

names_dropped : (drops : List ListName) → names_in (map drop_for drops) ≡ map drop_name drops
names_dropped [] = refl
names_dropped (name ∷ drops) = ap (λ (names : List (List ℕ)). name.0 ∷ names) (names_dropped drops)

-- the changes, with what comes behind the puts taken together
abbrev pub arranged : ListName → Option (List ℕ) → List (ListName × Body) → List ListName → List Change
arranged name release puts drops = map put_for puts ++ (release_for name release ++ map drop_for drops)

pub are_arranged : (source : Source) (settled : Settled) → changes_for source settled ≡ arranged source.release_name settled.release settled.puts settled.drops
are_arranged source settled = append_assoc (map put_for settled.puts) (release_for source.release_name settled.release) (map drop_for settled.drops)

names_without : (name : ListName) (puts : List (ListName × Body)) (drops : List ListName) → names_in (arranged name None puts drops) ≡ map put_name puts ++ map drop_name drops
names_without name puts drops = names_behind puts (map drop_for drops) ∙ ap (λ (names : List (List ℕ)). map put_name puts ++ names) (names_dropped drops)

names_with : (name : ListName) (bytes : List ℕ) (puts : List (ListName × Body)) (drops : List ListName) → names_in (arranged name (Some bytes) puts drops) ≡ map put_name puts ++ name.0 ∷ map drop_name drops
names_with name bytes puts drops = names_behind puts (release_for name (Some bytes) ++ map drop_for drops) ∙ ap (λ (names : List (List ℕ)). map put_name puts ++ name.0 ∷ names) (names_dropped drops)

abbrev released : ListName → Option (List ℕ) → List (List ℕ)
released name None = []
released name (Some bytes) = name.0 ∷ []

in_touched : (name : ListName) (release : Option (List ℕ)) (puts : List (ListName × Body)) (drops : List ListName) (other : List ℕ) → Contains (names_in (arranged name release puts drops)) other → Contains ((released name release ++ map put_name puts) ++ map drop_name drops) other
in_touched name None puts drops other is = subst (λ (names : List (List ℕ)). Contains names other) (names_without name puts drops) is
in_touched name (Some bytes) puts drops other is =
    contains_insert name.0 other (map put_name puts) (map drop_name drops) (subst (λ (names : List (List ℕ)). Contains names other) (names_with name bytes puts drops) is)

stay_apart : (name : ListName) (release : Option (List ℕ)) (puts : List (ListName × Body)) (drops : List ListName) → AreApart ((released name release ++ map put_name puts) ++ map drop_name drops) → AreApart (names_in (arranged name release puts drops))
stay_apart name None puts drops apart = subst AreApart (sym (names_without name puts drops)) apart
stay_apart name (Some bytes) puts drops apart = subst AreApart (sym (names_with name bytes puts drops)) (apart_insert name.0 (map put_name puts) (map drop_name drops) apart.0 apart.1)

as_released : (source : Source) (release : Option (List ℕ)) → release_name_in source release ≡ released source.release_name release
as_released source None = refl
as_released source (Some bytes) = refl

touched_is : (source : Source) (settled : Settled) → touched source settled ≡ (released source.release_name settled.release ++ map put_name settled.puts) ++ map drop_name settled.drops
touched_is source settled = ap (λ (names : List (List ℕ)). (names ++ map put_name settled.puts) ++ map drop_name settled.drops) (as_released source settled.release)

pub changed_is_touched : (source : Source) (settled : Settled) (other : List ℕ) → Contains (names_in (changes_for source settled)) other → Contains (touched source settled) other
changed_is_touched source settled other is =
    subst (λ (names : List (List ℕ)). Contains names other) (sym (touched_is source settled))
    (in_touched source.release_name settled.release settled.puts settled.drops other (subst (λ (cs : List Change). Contains (names_in cs) other) (are_arranged source settled) is))

pub changed_apart : (source : Source) (settled : Settled) → OwnsChanges source settled → AreApart (names_in (changes_for source settled))
changed_apart source settled owns =
    subst (λ (cs : List Change). AreApart (names_in cs)) (sym (are_arranged source settled))
    (stay_apart source.release_name settled.release settled.puts settled.drops (subst AreApart (touched_is source settled) (apart_of (touched source settled) owns.apart)))

lists_if : (names : List (List ℕ)) → ((name : List ℕ) → Contains names name → is_installed_name name ≡ true) → AllLists names
lists_if [] are = tt
lists_if (name ∷ names) are = (are name (here name names name refl), lists_if names (λ other is. are other (there name names other is)))

changed_lists : (source : Source) (settled : Settled) → OwnsChanges source settled → All (λ name. is_installed_name name ≡ true) (names_of source) → AllLists (names_in (changes_for source settled))
changed_lists source settled owns lists =
    lists_if (names_in (changes_for source settled)) (λ name is. All-contains (λ n. is_installed_name n ≡ true) (names_of source) name lists (owns.own name (changed_is_touched source settled name is)))

made_so : (part : List ℕ → List ℕ) (source : Source) (settled : Settled) (folder : Files) (changes : List Change) → changes ≡ arranged source.release_name settled.release settled.puts settled.drops → AreApart (names_in changes) → AllLists (names_in changes)
    → ((name : List ℕ) → Contains (names_in changes) name → Contains (touched source settled) name) → HaveSums part settled → AreMade source settled folder (folder_steps (filled part changes) folder)
made_so part source settled folder changes are apart lists within have = record {
  release = subst (λ (cs : List Change). IfSome settled.release (λ bytes. folder_steps (filled part cs) folder source.release_name.0 ≡ Some bytes)) (sym are)
      (release_made part (map put_for settled.puts) source.release_name settled.release (map drop_for settled.drops) folder (now_apart) (now_lists));
  puts = subst (λ (cs : List Change). Each (λ put. option_map sum_of (folder_steps (filled part cs) folder put.0.0) ≡ Some (sum_of_body put.1)) settled.puts) (sym are)
      (puts_made part settled.puts (release_for source.release_name settled.release ++ map drop_for settled.drops) folder now_apart now_lists have);
  drops = subst (λ (cs : List Change). Each (λ name. folder_steps (filled part cs) folder name.0 ≡ None) settled.drops) (sym (are ∙ sym regrouped))
      (drops_made part (map put_for settled.puts ++ release_for source.release_name settled.release) settled.drops folder
      (subst (λ (cs : List Change). AreApart (names_in cs)) (sym regrouped) now_apart) (subst (λ (cs : List Change). AllLists (names_in cs)) (sym regrouped) now_lists));
  others = λ name never. steps_beside part changes folder name (none_if name (names_in changes) (λ is. never (within name is)));
}
  where
    now_apart : AreApart (names_in (arranged source.release_name settled.release settled.puts settled.drops))
    now_apart = subst (λ (cs : List Change). AreApart (names_in cs)) are apart

    now_lists : AllLists (names_in (arranged source.release_name settled.release settled.puts settled.drops))
    now_lists = subst (λ (cs : List Change). AllLists (names_in cs)) are lists

    regrouped : (map put_for settled.puts ++ release_for source.release_name settled.release) ++ map drop_for settled.drops ≡ arranged source.release_name settled.release settled.puts settled.drops
    regrouped = append_assoc (map put_for settled.puts) (release_for source.release_name settled.release) (map drop_for settled.drops)

pub sets_made : (part : List ℕ → List ℕ) (source : Source) (settled : Settled) (folder : Files) → HasPutNames source → OwnsChanges source settled → HaveSums part settled
    → AreMade source settled folder (folder_steps (filled part (changes_for source settled)) folder)
sets_made part source settled folder names owns have =
    made_so part source settled folder (changes_for source settled) (are_arranged source settled) (changed_apart source settled owns) (changed_lists source settled owns names.listed) (changed_is_touched source settled) have

pub installed : (source : Source) (settled : Settled) (set : AdmittedRelease) (before after : Files) → OwnsChanges source settled → AreMade source settled before after → OutcomeLeaves (Ok set) source before after → Does (Installs source set) before after
installed source settled set before after owns made leaves = (leaves, λ name never. made.others name (λ is. never (owns.own name is)))
