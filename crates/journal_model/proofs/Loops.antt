-- Steps and groups read one after the other, as loops do.
use Rattle.std.proofs.Common.{◌≡◌, ℕ, suc, ◌-◌, ◌+◌, ◌≤◌, ◌<◌, List, [], ◌∷◌, ◌++◌, Result, Ok, Err, sym, ap, subst, ◌∙◌, refl, arith}
use Rattle.journal_model.specs.Reading.{Fails, step_at, steps_at, group_at, groups_at}
use Rattle.journal_model.specs.declared.record.ReadError.{ReadError}
use Rattle.journal_model.specs.declared.record.ReadError.TheVariants as errors
use Rattle.journal_model.specs.declared.step.Step.{Step}

pub step_goes_on : (before seen grown : List Step) (count i : ℕ) (bytes : List ℕ) (s : Step) (after : List ℕ) (total : Result (List Step × List ℕ) ℕ) → i < count → seen ≡ before → grown ≡ before ++ s ∷ []
    → step_at seen bytes ≡ Ok (s, after) → steps_at (count - i) before bytes ≡ total → steps_at (count - (i + 1)) grown after ≡ total
unfolding steps_at
step_goes_on before seen grown count i bytes s after total lt same more h so_far =
    let k : count - i ≡ suc (count - (i + 1)) = omega arith in
    let here : step_at before bytes ≡ Ok (s, after) = subst (λ (b : List Step). step_at b bytes ≡ Ok (s, after)) same h in
    let one : steps_at (count - i) before bytes ≡ steps_at (count - (i + 1)) (before ++ s ∷ []) after = rw (k, here) refl in
    ap (λ (l : List Step). steps_at (count - (i + 1)) l after) more ∙ sym one ∙ so_far

pub step_ends : (e : ReadError) (before seen : List Step) (count i : ℕ) (bytes : List ℕ) (total : Result (List Step × List ℕ) ℕ) → i < count → seen ≡ before → Fails e (step_at seen bytes) → steps_at (count - i) before bytes ≡ total → Fails e total
unfolding steps_at
step_ends errors.NoMemory before seen count i bytes total lt same h so_far = tt
step_ends (errors.Bad left) before seen count i bytes total lt same h so_far =
    let k : count - i ≡ suc (count - (i + 1)) = omega arith in
    let here : step_at before bytes ≡ Err left = subst (λ (b : List Step). step_at b bytes ≡ Err left) same h in
    let one : steps_at (count - i) before bytes ≡ Err left = rw (k, here) refl in
    sym so_far ∙ one

pub steps_done : (before : List Step) (count i : ℕ) (bytes : List ℕ) (total : Result (List Step × List ℕ) ℕ) → count ≤ i → steps_at (count - i) before bytes ≡ total → total ≡ Ok (before, bytes)
unfolding steps_at
steps_done before count i bytes total le so_far =
    let k : count - i ≡ 0 = omega arith in
    let one : steps_at (count - i) before bytes ≡ Ok (before, bytes) = rw k refl in
    sym so_far ∙ one

pub group_goes_on : (before more : List Step) (count i : ℕ) (bytes after : List ℕ) (total : Result (List Step × List ℕ) ℕ) → i < count → group_at before bytes ≡ Ok (more, after)
    → groups_at (count - i) before bytes ≡ total → groups_at (count - (i + 1)) more after ≡ total
unfolding groups_at
group_goes_on before more count i bytes after total lt h so_far =
    let k : count - i ≡ suc (count - (i + 1)) = omega arith in
    let one : groups_at (count - i) before bytes ≡ groups_at (count - (i + 1)) more after = rw (k, h) refl in
    sym one ∙ so_far

pub group_ends : (e : ReadError) (before : List Step) (count i : ℕ) (bytes : List ℕ) (total : Result (List Step × List ℕ) ℕ) → i < count → Fails e (group_at before bytes) → groups_at (count - i) before bytes ≡ total → Fails e total
unfolding groups_at
group_ends errors.NoMemory before count i bytes total lt h so_far = tt
group_ends (errors.Bad left) before count i bytes total lt h so_far =
    let k : count - i ≡ suc (count - (i + 1)) = omega arith in
    let one : groups_at (count - i) before bytes ≡ Err left = rw (k, h) refl in
    sym so_far ∙ one

pub groups_done : (before : List Step) (count i : ℕ) (bytes : List ℕ) (total : Result (List Step × List ℕ) ℕ) → count ≤ i → groups_at (count - i) before bytes ≡ total → total ≡ Ok (before, bytes)
unfolding groups_at
groups_done before count i bytes total le so_far =
    let k : count - i ≡ 0 = omega arith in
    let one : groups_at (count - i) before bytes ≡ Ok (before, bytes) = rw k refl in
    sym so_far ∙ one
