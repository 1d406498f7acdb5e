-- What a source comes to where methods may have failed.
use Rattle.std.proofs.Common.{◌≡◌, ℕ, List, [], ◌∷◌, map, Ok, refl, sym, ap, ap₂, ◌∙◌}
use Rattle.std.specs.List.{AllByRecursion as Each}
use Rattle.acq_base.specs.Mirror.{MirrorMap}
use Rattle.update_model.specs.Faults.{IsListed, AreRoutes, AreAgreeing, SetsAreAsListed, SetsMadeAreNew}
use Rattle.update_model.specs.Laws.{by_sum, IsHad, ListEnd}
use Rattle.update_model.specs.Outcomes.{Directory, PartFiles, all_had, admitted, bytes_of, obtained, wanted_by}
use Rattle.update_model.specs.Releases.{obtain_release}
use Rattle.update_model.specs.declared.end.End.{End}
use Rattle.update_model.specs.declared.end.End.TheVariants.{Got, Stands, Ended}
use Rattle.update_model.proofs.Ends.{lists-listed}
use Rattle.update_model.proofs.Faults.{lists-had, releases-had}
use Rattle.update_model.proofs.Sets.{Judges, passed, done-same, all-ok, sets-admissible}
use Rattle.update_model.proofs.Sources.{ends-make}

-- ---- whatever is answered

bytes-had : (r : End) (bytes : List ℕ) → bytes_of r ≡ Ok bytes → IsHad r
bytes-had (Got body) bytes h = tt
bytes-had Stands bytes h = tt
bytes-had (Ended cause) bytes h = absurd (cc)

each-listed : (dir : Directory) (parts : PartFiles) (retries : ℕ) (lists : List ListEnd) → AreRoutes dir parts retries lists → Each IsHad (map (λ l. l.end) lists)
    → Each (λ l. IsListed l.wanted.sum (dir l.wanted.name.0) l.end) lists
each-listed dir parts retries [] routes had = tt
each-listed dir parts retries (l ∷ lists) routes had =
    (lists-listed (dir l.wanted.name.0) _ l.wanted retries l.trails l.end routes.0 had.0, each-listed dir parts retries lists routes.1 had.1)

pub sets-listed : Judges → SetsAreAsListed
sets-listed judges dir parts source settings change now retries r lists set names routes h =
    let is = (sets-admissible judges r (map (λ (l : ListEnd). l.end) lists) (dir source.release_name.0) settings change now set).0 h in
    let a = passed (admitted r (dir source.release_name.0) settings change now) _ set h in
    let b = passed (all_had (map (λ (l : ListEnd). l.end) lists)) _ set a.2 in
    let found : admitted r (dir source.release_name.0) settings change now ≡ Ok set = a.1 ∙ ap (λ x. Ok x) (done-same a.0 set b.2) in record {
      bytes = is.0;
      reads = is.1;
      admissible = is.2;
      named = names ∙ ap (wanted_by source settings) found;
      listed = each-listed dir parts retries lists routes is.3;
    }

-- ---- over a mirror

ends-had : (world : MirrorMap) (dir : Directory) (parts : PartFiles) (retries : ℕ) (lists : List ListEnd) → AreAgreeing world dir parts retries lists → Each IsHad (map (λ l. l.end) lists)
    → map by_sum (map (λ l. l.end) lists) ≡ map by_sum (map (obtained world dir parts) (map (λ l. l.wanted) lists))
ends-had world dir parts retries [] routes had = refl
ends-had world dir parts retries (l ∷ lists) routes had =
    let e : by_sum l.end ≡ by_sum (obtained world dir parts l.wanted) =
    lists-had world (dir l.wanted.name.0) (parts l.wanted.name.0) l.wanted retries l.trails l.end routes.0.0 routes.0.1 had.0 in
    ap₂ (λ x xs. x ∷ xs) e (ends-had world dir parts retries lists routes.1 had.1)

pub sets-made : SetsMadeAreNew
sets-made world dir parts source settings change now retries trails r lists set route agrees names routes h =
    let a = passed (admitted r (dir source.release_name.0) settings change now) _ set h in
    let b = passed (all_had (map (λ (l : ListEnd). l.end) lists)) _ set a.2 in
    let bytes = passed (bytes_of r) _ a.0 a.1 in
    let e : r ≡ obtain_release world source = releases-had world source retries trails r route agrees (bytes-had r bytes.0 bytes.1) in
    sym (ends-make world dir parts source settings change now r lists e names
    (ends-had world dir parts retries lists routes (all-ok (map (λ (l : ListEnd). l.end) lists) b.0 b.1)))
    ∙ h
