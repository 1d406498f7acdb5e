-- Routes of a source that agree with a mirror come to its new set.
use Rattle.std.proofs.Common.{◌≡◌, ℕ, ℤ, List, [], ◌∷◌, map, Result, Ok, refl, sym, ap, ◌∙◌, subst}
use Rattle.std.specs.List.{AllByRecursion as Each}
use Rattle.acq_base.specs.Mirror.{MirrorMap}
use Rattle.acq_base.specs.declared.plan.Source.{Source}
use Rattle.acq_base.specs.declared.settings.Settings.{Settings}
use Rattle.release_file.specs.declared.changing.Change.{Change}
use Rattle.update_model.specs.Laws.{by_sum, IsHad, file_of, IsFileOf, NewSetsFit, ListEnd, AreRoutesOver, RoutesMakeNewSets, RoutesAreEnough}
use Rattle.update_model.specs.Outcomes.{AdmittedRelease, Staying, Directory, PartFiles, admitted, wanted_by, all_had, outcome, obtained, new_set}
use Rattle.update_model.specs.Releases.{obtain_release}
use Rattle.update_model.specs.declared.wanted.Wanted.{Wanted}
use Rattle.update_model.specs.declared.end.End.{End}
use Rattle.update_model.specs.declared.end.End.TheVariants.{Got, Stands, Ended}
use Rattle.update_model.proofs.Obtained.{files-fit}
use Rattle.update_model.proofs.Routes.{lists-end, releases-end}
use Rattle.update_model.proofs.Sets.{passed, done-same, all-ok}

-- whether all are had is seen by sums
all-by-sum : (ends : List End) → all_had ends ≡ all_had (map by_sum ends)
all-by-sum [] = refl
all-by-sum (Ended cause ∷ ends) = refl
all-by-sum (Got body ∷ ends) = all-by-sum ends
all-by-sum (Stands ∷ ends) = all-by-sum ends

ends-by-sum : (world : MirrorMap) (dir : Directory) (parts : PartFiles) (retries : ℕ) (lists : List ListEnd) → AreRoutesOver world dir parts retries lists
    → map by_sum (map (λ l. l.end) lists) ≡ map by_sum (map (obtained world dir parts) (map (λ l. l.wanted) lists))
ends-by-sum world dir parts retries [] h = refl
ends-by-sum world dir parts retries (l ∷ lists) h =
    let e : by_sum l.end ≡ by_sum (obtained world dir parts l.wanted) =
    lists-end world (dir l.wanted.name.0) (parts l.wanted.name.0) l.wanted retries l.trails l.end h.0.0 h.0.1 h.0.2 in
    ap (λ x. x ∷ map by_sum (map (λ l. l.end) lists)) e
    ∙ ap (λ xs. by_sum (obtained world dir parts l.wanted) ∷ xs) (ends-by-sum world dir parts retries lists h.1)

-- ends that are the mirror's by sum make what it has
pub ends-make : (world : MirrorMap) (dir : Directory) (parts : PartFiles) (source : Source) (settings : Settings) (change : Change) (now : ℤ) (r : End) (lists : List ListEnd)
    → r ≡ obtain_release world source
    → map (λ l. l.wanted) lists ≡ wanted_by source settings (admitted r (dir source.release_name.0) settings change now)
    → map by_sum (map (λ l. l.end) lists) ≡ map by_sum (map (obtained world dir parts) (map (λ l. l.wanted) lists))
    → outcome r (map (λ l. l.end) lists) (dir source.release_name.0) settings change now ≡ new_set world dir parts source settings change now
ends-make world dir parts source settings change now r lists e names ends =
    let have : List End = map (λ (l : ListEnd). l.end) lists in
    let want : List End = map (obtained world dir parts) (wanted_by source settings (admitted r (dir source.release_name.0) settings change now)) in
    let f : map by_sum have ≡ map by_sum want = ends ∙ ap (λ ws. map by_sum (map (obtained world dir parts) ws)) names in
    let g : all_had have ≡ all_had want = all-by-sum have ∙ ap all_had f ∙ sym (all-by-sum want) in
    same have want g
    ∙ ap (λ x. outcome x (map (obtained world dir parts) (wanted_by source settings (admitted x (dir source.release_name.0) settings change now))) (dir source.release_name.0) settings change now) e
  where
    same : (have want : List End) → all_had have ≡ all_had want
        → outcome r have (dir source.release_name.0) settings change now ≡ outcome r want (dir source.release_name.0) settings change now
    same have want g = rw g refl

pub routes-make : RoutesMakeNewSets
routes-make world dir parts source settings change now retries trails r lists route agrees lives names each =
    ends-make world dir parts source settings change now r lists (releases-end world source retries trails r route agrees lives) names
    (ends-by-sum world dir parts retries lists each)

pub routes-enough : RoutesAreEnough
routes-enough world other dir parts source settings change now retries trails r lists route agrees other_agrees lives names each other_each =
    sym (routes-make world dir parts source settings change now retries trails r lists route agrees lives names each)
    ∙ routes-make other dir parts source settings change now retries trails r lists route other_agrees lives names other_each

each-fit : (world : MirrorMap) (dir : Directory) (parts : PartFiles) (ws : List Wanted) → Each IsHad (map (obtained world dir parts) ws)
    → Each (λ w. IsFileOf w.sum (file_of (dir w.name.0) (obtained world dir parts w))) ws
each-fit world dir parts [] h = tt
each-fit world dir parts (w ∷ ws) h = (files-fit world (dir w.name.0) (parts w.name.0) w h.0, each-fit world dir parts ws h.1)

pub sets-fit : NewSetsFit
sets-fit world dir parts source settings change now set h =
    let r : End = obtain_release world source in
    let found : Result AdmittedRelease Staying = admitted r (dir source.release_name.0) settings change now in
    let a = passed found _ set h in
    let b = passed (all_had (map (obtained world dir parts) (wanted_by source settings found))) _ set a.2 in
    let is : found ≡ Ok set = a.1 ∙ ap (λ x. Ok x) (done-same a.0 set b.2) in
    subst (λ f. Each (λ w. IsFileOf w.sum (file_of (dir w.name.0) (obtained world dir parts w))) (wanted_by source settings f)) is
    (each-fit world dir parts (wanted_by source settings found) (all-ok (map (obtained world dir parts) (wanted_by source settings found)) b.0 b.1))
