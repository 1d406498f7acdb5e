-- Steps of which no two change one name may be carried out again after any part of them, and lead where they led.
use Rattle.std.proofs.Common.{◌≡◌, ◌≢◌, ◌⊎◌, inl, inr, ⊎_elim, ℕ, Bool, true, false, if◌then◌else◌, List, [], ◌∷◌, ◌++◌, length, Option, Some, None, refl, sym, ◌∙◌, ap, subst, arith, codes, length-append}
use Rattle.std.proofs.lemmas.Slice.Eq.{bytes_eq-Decides}
use Rattle.acq_outside.specs.Disk.{same_name}
use Rattle.acq_outside.specs.Crash.{Names, moved_name, renamed, all_renamed, IsSubsequence, none, left_out, taken}
use Rattle.acq_outside.specs.declared.state.NameChange.{NameChange}
use Rattle.journal_model.specs.Names.{partial}
use Rattle.journal_model.specs.Steps.{with_at, moved_at, after_step, after_steps, Touches, IsIn, change_of, AreOf}
use Rattle.journal_model.specs.declared.step.Step.{Step}
use Rattle.journal_model.specs.declared.step.Step.TheVariants.{Put, Drop}

-- no two change one name
abbrev pub ChangeDifferentNames : List Step → Type 0
ChangeDifferentNames [] = Unit {0}
ChangeDifferentNames (step ∷ steps) = ((other : Step) (name : List ℕ) → IsIn other steps → Touches step name → Touches other name → ⊥) × ChangeDifferentNames steps

abbrev pub Agree : {A : Type 0} → Step → (List ℕ → Option A) → (List ℕ → Option A) → Type 0
Agree step a b = (name : List ℕ) → Touches step name → a name ≡ b name

-- n is m with some of the steps done
pub record IsPartlyCarriedOut {A : Type 0} (steps : List Step) (m n : List ℕ → Option A) : Type 0 where
  pub each : (step : Step) → IsIn step steps → Agree step n m ⊎ Agree step n (after_step m step)
  pub others : (name : List ℕ) → ((step : Step) → IsIn step steps → Touches step name → ⊥) → n name ≡ m name

pub same_or_not : (a b : List ℕ) → (a ≡ b) ⊎ (a ≢ b)
same_or_not a b = by (same_name a b) refl
  where
    by : (t : Bool) → same_name a b ≡ t → (a ≡ b) ⊎ (a ≢ b)
    by true is = inl ((bytes_eq-Decides a b).0 is)
    by false is = inr (λ same. let yes : same_name a b ≡ true = (bytes_eq-Decides a b).1 same in cc)

pub other_name : (a b : List ℕ) → a ≢ b → same_name a b ≡ false
other_name a b differ = by (same_name a b) refl
  where
    by : (t : Bool) → same_name a b ≡ t → same_name a b ≡ false
    by true is = absurd (differ ((bytes_eq-Decides a b).0 is))
    by false is = is

pub with_same : {A : Type 0} (m : List ℕ → Option A) (n : List ℕ) (x : Option A) (name : List ℕ) → n ≡ name → with_at m n x name ≡ x
with_same m n x name is = rw ((bytes_eq-Decides n name).1 is) refl

pub with_other : {A : Type 0} (m : List ℕ → Option A) (n : List ℕ) (x : Option A) (name : List ℕ) → n ≢ name → with_at m n x name ≡ m name
with_other m n x name differ = by (same_name n name) refl
  where
    by : (t : Bool) → same_name n name ≡ t → (if t then x else m name) ≡ m name
    by true is = absurd (differ ((bytes_eq-Decides n name).0 is))
    by false is = refl

pub partial_other : (n : List ℕ) → n ≢ partial n
partial_other n is = absurd (omega (arith, ap length is, length-append (codes "partial/") n))

-- a step changes only what it touches
pub moved_untouched : {A : Type 0} (m : List ℕ → Option A) (from to : List ℕ) (x : Option A) (name : List ℕ) → from ≢ name → to ≢ name → moved_at m from to x name ≡ m name
moved_untouched m from to None name f t = refl
moved_untouched m from to (Some x) name f t = with_other (with_at m from None) to (Some x) name t ∙ with_other m from None name f

pub step_untouched : {A : Type 0} (m : List ℕ → Option A) (step : Step) (name : List ℕ) → (Touches step name → ⊥) → after_step m step name ≡ m name
step_untouched m (Put n) name no_touch = moved_untouched m (partial n) n (m (partial n)) name (λ is. no_touch (inr (sym is))) (λ is. no_touch (inl (sym is)))
step_untouched m (Drop n) name no_touch = with_other m n None name (λ is. no_touch (sym is))

-- and rests on that alone
moved_agree : {A : Type 0} (a b : List ℕ → Option A) (from to : List ℕ) (x : Option A) (name : List ℕ) → a name ≡ b name → moved_at a from to x name ≡ moved_at b from to x name
moved_agree a b from to None name same = same
moved_agree a b from to (Some x) name same = rw same refl

step_agree : {A : Type 0} (a b : List ℕ → Option A) (step : Step) → Agree step a b → Agree step (after_step a step) (after_step b step)
step_agree a b (Put n) same name touch = ap (λ x. moved_at a (partial n) n x name) (same (partial n) (inr refl)) ∙ moved_agree a b (partial n) n (b (partial n)) name (same name touch)
step_agree a b (Drop n) same name touch = rw (same name touch) refl

-- done twice is done once
moved_twice : {A : Type 0} (m : List ℕ → Option A) (n : List ℕ) (x : Option A) → m (partial n) ≡ x → (y : Option A) → moved_at m (partial n) n x (partial n) ≡ y → (name : List ℕ) → moved_at (moved_at m (partial n) n x) (partial n) n y name ≡ moved_at m (partial n) n x name
moved_twice m n None was y is name = rw (sym is ∙ was) refl
moved_twice m n (Some x) was y is name =
    let gone : with_at (with_at m (partial n) None) n (Some x) (partial n) ≡ None = with_other (with_at m (partial n) None) n (Some x) (partial n) (partial_other n) ∙ with_same m (partial n) None (partial n) refl in
    rw (sym is ∙ gone) refl

twice_case : {A : Type 0} (t : Bool) (x : Option A) → (if t then None else (if t then None else x)) ≡ (if t then None else x)
twice_case true x = refl
twice_case false x = refl

pub step_twice : {A : Type 0} (m : List ℕ → Option A) (step : Step) (name : List ℕ) → after_step (after_step m step) step name ≡ after_step m step name
step_twice m (Put n) name = moved_twice m n (m (partial n)) refl _ refl name
step_twice m (Drop n) name = twice_case (same_name n name) (m name)

-- what carrying out does at a name that one of the steps touches, and at one that none does
pub carried_other : {A : Type 0} (steps : List Step) (m : List ℕ → Option A) (name : List ℕ) → ((step : Step) → IsIn step steps → Touches step name → ⊥) → after_steps m steps name ≡ m name
carried_other [] m name no_step = refl
carried_other (s ∷ steps) m name no_step = carried_other steps (after_step m s) name (λ t is. no_step t (inr is)) ∙ step_untouched m s name (no_step s (inl refl))

pub carried_at : {A : Type 0} (steps : List Step) (m : List ℕ → Option A) (t : Step) (name : List ℕ) → ChangeDifferentNames steps → IsIn t steps → Touches t name → after_steps m steps name ≡ after_step m t name
carried_at [] m t name apart is touch = absurd is
carried_at (s ∷ steps) m t name apart (inl is) touch =
    let touch_s : Touches s name = subst (λ (u : Step). Touches u name) is touch in
    carried_other steps (after_step m s) name (λ u in_steps touch_u. apart.0 u name in_steps touch_s touch_u) ∙ ap (λ (u : Step). after_step m u name) (sym is)
carried_at (s ∷ steps) m t name apart (inr is) touch =
    carried_at steps (after_step m s) t name apart.1 is touch ∙ step_agree (after_step m s) m t (λ other touch_t. step_untouched m s other (λ touch_s. apart.0 t other is touch_s touch_t)) name touch

touched_or_not : (step : Step) (name : List ℕ) → Touches step name ⊎ (Touches step name → ⊥)
touched_or_not (Put n) name = ⊎_elim (λ is. inl (inl is)) (λ no_n. ⊎_elim (λ is. inl (inr is)) (λ no_p. inr (⊎_elim no_n no_p)) (same_or_not name (partial n))) (same_or_not name n)
touched_or_not (Drop n) name = same_or_not name n

some_or_none : (steps : List Step) (name : List ℕ) → ((step : Step) × IsIn step steps × Touches step name) ⊎ ((step : Step) → IsIn step steps → Touches step name → ⊥)
some_or_none [] name = inr (λ s is touch. is)
some_or_none (s ∷ steps) name = ⊎_elim (λ touch. inl (s, inl refl, touch)) (λ no_touch. ⊎_elim (λ some. inl (some.0, inr some.1, some.2)) (λ no_step. inr (λ t is touch. ⊎_elim (λ same. no_touch (subst (λ (u : Step). Touches u name) same touch)) (λ later. no_step t later touch) is)) (some_or_none steps name)) (touched_or_not s name)

-- After any part of the steps the whole gives what it gives from the beginning.
pub carried_again : {A : Type 0} (steps : List Step) (m n : List ℕ → Option A) → ChangeDifferentNames steps → IsPartlyCarriedOut steps m n → (name : List ℕ) → after_steps n steps name ≡ after_steps m steps name
carried_again steps m n apart partly name = ⊎_elim at other (some_or_none steps name)
  where
    at : (step : Step) × IsIn step steps × Touches step name → after_steps n steps name ≡ after_steps m steps name
    at (s, is, touch) =
        carried_at steps n s name apart is touch
        ∙ ⊎_elim (λ same. step_agree n m s same name touch) (λ done. step_agree n (after_step m s) s done name touch ∙ step_twice m s name) (partly.each s is)
        ∙ sym (carried_at steps m s name apart is touch)

    other : ((step : Step) → IsIn step steps → Touches step name → ⊥) → after_steps n steps name ≡ after_steps m steps name
    other no_step = carried_other steps n name no_step ∙ partly.others name no_step ∙ sym (carried_other steps m name no_step)

-- Any part of the changes leaves a map in which some of the steps are done.
moved_is : (m : Names) (from to : List ℕ) (x : Option ℕ) → moved_name m from to x ≡ moved_at m from to x
moved_is m from to None = refl
moved_is m from to (Some i) = refl

pub renamed_is : (m : Names) (step : Step) → renamed m (change_of step) ≡ after_step m step
renamed_is m (Put n) = moved_is m (partial n) n (m (partial n))
renamed_is m (Drop n) = refl

change_is : (m : Names) (step : Step) (name : List ℕ) → renamed m (change_of step) name ≡ after_step m step name
change_is m step name = ap (λ (n : Names). n name) (renamed_is m step)

apart_from : (steps : List Step) (s t : Step) → ChangeDifferentNames steps → IsIn s steps → IsIn t steps → (s ≡ t) ⊎ ((name : List ℕ) → Touches s name → Touches t name → ⊥)
apart_from [] s t apart in_s in_t = absurd in_s
apart_from (u ∷ steps) s t apart (inl is_s) (inl is_t) = inl (is_s ∙ sym is_t)
apart_from (u ∷ steps) s t apart (inl is_s) (inr in_t) = inr (λ name touch_s touch_t. apart.0 t name in_t (subst (λ (v : Step). Touches v name) is_s touch_s) touch_t)
apart_from (u ∷ steps) s t apart (inr in_s) (inl is_t) = inr (λ name touch_s touch_t. apart.0 s name in_s (subst (λ (v : Step). Touches v name) is_t touch_t) touch_s)
apart_from (u ∷ steps) s t apart (inr in_s) (inr in_t) = apart_from steps s t apart.1 in_s in_t

partly_step : (steps : List Step) (m n : Names) (s : Step) → ChangeDifferentNames steps → IsIn s steps → IsPartlyCarriedOut steps m n → IsPartlyCarriedOut steps m (renamed n (change_of s))
partly_step steps m n s apart is partly = record {
  each = λ t in_t. ⊎_elim (λ same. inr (subst (λ (v : Step). Agree v (renamed n (change_of s)) (after_step m v)) same (here (partly.each s is)))) (λ away.
      let kept : Agree t (renamed n (change_of s)) n = λ name touch. change_is n s name ∙ step_untouched n s name (λ touch_s. away name touch_s touch) in
      ⊎_elim (λ same. inl (λ name touch. kept name touch ∙ same name touch)) (λ done. inr (λ name touch. kept name touch ∙ done name touch)) (partly.each t in_t)) (apart_from steps s t apart is in_t);
  others = λ name no_step. change_is n s name ∙ step_untouched n s name (no_step s is) ∙ partly.others name no_step;
}
  where
    here : Agree s n m ⊎ Agree s n (after_step m s) → Agree s (renamed n (change_of s)) (after_step m s)
    here (inl same) name touch = change_is n s name ∙ step_agree n m s same name touch
    here (inr done) name touch = change_is n s name ∙ step_agree n (after_step m s) s done name touch ∙ step_twice m s name

pub partly_all : (steps : List Step) (m n : Names) (changes : List NameChange) → ChangeDifferentNames steps → AreOf steps changes → IsPartlyCarriedOut steps m n → IsPartlyCarriedOut steps m (all_renamed n changes)
partly_all steps m n [] apart are partly = partly
partly_all steps m n (c ∷ changes) apart are partly =
    partly_all steps m (renamed n c) changes apart are.1 (subst (λ (d : NameChange). IsPartlyCarriedOut steps m (renamed n d)) (sym are.0.2) (partly_step steps m n are.0.0 apart are.0.1 partly))

pub part_of : (steps : List Step) (some all : List NameChange) → IsSubsequence some all → AreOf steps all → AreOf steps some
part_of steps some all none are = are
part_of steps some all (left_out c part) are = part_of steps _ _ part are.1
part_of steps some all (taken c part) are = (are.0, part_of steps _ _ part are.1)

pub none_yet : (steps : List Step) (m : Names) → IsPartlyCarriedOut steps m m
none_yet steps m = record { each = λ s is. inl (λ name touch. refl); others = λ name no_step. refl }

-- Whatever part of the changes has happened, the record carried out gives the same.
pub carried_from_part : (steps : List Step) (m : Names) (some all : List NameChange) → ChangeDifferentNames steps → AreOf steps all → IsSubsequence some all → (name : List ℕ) → after_steps (all_renamed m some) steps name ≡ after_steps m steps name
carried_from_part steps m some all apart are part =
    carried_again steps m (all_renamed m some) apart (partly_all steps m m some apart (part_of steps some all part are) (none_yet steps m))

-- one more step
pub are_push : (steps : List Step) (changes : List NameChange) (s : Step) → IsIn s steps → AreOf steps changes → AreOf steps (changes ++ change_of s ∷ [])
are_push steps [] s is are = ((s, is, refl), tt)
are_push steps (c ∷ changes) s is are = (are.0, are_push steps changes s is are.1)

pub carried_push : {A : Type 0} (m : List ℕ → Option A) (steps : List Step) (s : Step) → after_steps m (steps ++ s ∷ []) ≡ after_step (after_steps m steps) s
carried_push m [] s = refl
carried_push m (t ∷ steps) s = carried_push (after_step m t) steps s

-- what a step changes isn't there
abbrev pub NamesNothing : Names → Step → Type 0
NamesNothing m (Put n) = m (partial n) ≡ None
NamesNothing m (Drop n) = m n ≡ None

-- and then it changes nothing
drop_idle : (m : Names) (n name : List ℕ) (t : Bool) → same_name n name ≡ t → m n ≡ None → (if t then None else m name) ≡ m name
drop_idle m n name true same nothing = sym (ap m (sym ((bytes_eq-Decides n name).0 same)) ∙ nothing)
drop_idle m n name false same nothing = refl

pub idle : (m : Names) (step : Step) (name : List ℕ) → NamesNothing m step → after_step m step name ≡ m name
idle m (Put n) name nothing = ap (λ (x : Option ℕ). moved_at m (partial n) n x name) nothing
idle m (Drop n) name nothing = drop_idle m n name (same_name n name) refl nothing
