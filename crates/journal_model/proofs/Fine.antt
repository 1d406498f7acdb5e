-- The steps that a journal says change each name but once, leave the journal's alone, and have names that a disk may have.
use Rattle.std.proofs.Common.{◌≡◌, ◌≢◌, ◌⊎◌, inl, inr, ⊎_elim, refl, sym, ap, ◌∙◌, subst, arith, ℕ, zero, suc, ◌≤◌, ◌-◌, nat_eq, nat_lt, Bool, true, false, not, ◌&&◌, if◌then◌else◌, List, [], ◌∷◌, ◌++◌, length, take, drop, Result, Ok, Err, bytes_eq}
use Rattle.std.proofs.lemmas.Bool.Decides.{nat_tests}
use Rattle.std.proofs.lemmas.Slice.Eq.{bytes_eq-Decides}
use Rattle.std.proofs.lemmas.Str.{IsUtf8-from_is_utf8}
use Rattle.std.specs.Str.{is_utf8}
use Rattle.std.specs.Int.{w16, w32}
use Rattle.std.specs.List.{list_any}
use Rattle.sha2.specs.Sha256.{sha256}
use Rattle.std.proofs.lemmas.Bool.{not-true, and_parts, or_left, or_right}
use Rattle.acq_outside.specs.Disk.{IsName, same_name}
use Rattle.journal_model.specs.Names.{journal, lock, partial, stays_inside}
use Rattle.journal_model.specs.Reading.{◌>>=◌, number_at, kind_at, step_named, most_long, clashes, is_name_of, is_allowed, name_at, step_at, steps_at, group_at, groups_at, ended, sealed, old_at, new_at, steps_of_body, journal_state_with, journal_state_of}
use Rattle.journal_model.proofs.Twice.{ChangeDifferentNames}
use Rattle.journal_model.specs.Steps.{Touches, IsIn, IsNamedStep}
use Rattle.journal_model.specs.declared.step.Step.{Step}
use Rattle.journal_model.specs.declared.step.Step.TheVariants.{Put, Drop}
use Rattle.journal_model.specs.declared.step.JournalState.TheVariants.{Open, Shut}
use Rattle.journal_model.proofs.Views.{partial_one}

pub record AreFine (steps : List Step) : Type 0 where
  pub apart : ChangeDifferentNames steps
  pub away : (step : Step) → IsIn step steps → Touches step journal → ⊥
  pub named : (step : Step) → IsIn step steps → IsNamedStep step

-- one more step
is_same : (a b : List ℕ) → a ≡ b → same_name a b ≡ true
is_same a b = (bytes_eq-Decides a b).1

put_put : (a b name : List ℕ) → (name ≡ a) ⊎ (name ≡ partial a) → (name ≡ b) ⊎ (name ≡ partial b) → clashes (Put a) (Put b) ≡ true
put_put a b name (inl x) (inl y) = or_left (same_name a b) _ (is_same a b (sym x ∙ y))
put_put a b name (inl x) (inr y) = or_right (same_name a b) _ (or_left (same_name a (partial b)) _ (is_same a (partial b) (sym x ∙ y)))
put_put a b name (inr x) (inl y) = or_right (same_name a b) _ (or_right (same_name a (partial b)) _ (is_same (partial a) b (sym x ∙ y)))
put_put a b name (inr x) (inr y) = or_left (same_name a b) _ (is_same a b (partial_one a b (sym x ∙ y)))

clash_tells : (a b : Step) (name : List ℕ) → Touches a name → Touches b name → clashes a b ≡ true
clash_tells (Put a) (Put b) name in_a in_b = put_put a b name in_a in_b
clash_tells (Put a) (Drop b) name (inl x) y = or_left (same_name a b) _ (is_same a b (sym x ∙ y))
clash_tells (Put a) (Drop b) name (inr x) y = or_right (same_name a b) _ (is_same (partial a) b (sym x ∙ y))
clash_tells (Drop a) (Put b) name x (inl y) = or_left (same_name a b) _ (is_same a b (sym x ∙ y))
clash_tells (Drop a) (Put b) name x (inr y) = or_right (same_name a b) _ (is_same a (partial b) (sym x ∙ y))
clash_tells (Drop a) (Drop b) name x y = is_same a b (sym x ∙ y)

any_in : (test : Step → Bool) (steps : List Step) (b : Step) → IsIn b steps → test b ≡ true → list_any test steps ≡ true
any_in test [] b is holds = absurd is
any_in test (s ∷ steps) b (inl same) holds = or_left (test s) _ (subst (λ (u : Step). test u ≡ true) same holds)
any_in test (s ∷ steps) b (inr later) holds = or_right (test s) _ (any_in test steps b later holds)

in_push : (steps : List Step) (s t : Step) → IsIn t (steps ++ s ∷ []) → IsIn t steps ⊎ (t ≡ s)
in_push [] s t (inl same) = inr same
in_push [] s t (inr none) = absurd none
in_push (u ∷ steps) s t (inl same) = inl (inl same)
in_push (u ∷ steps) s t (inr later) = ⊎_elim (λ is. inl (inr is)) (λ is. inr is) (in_push steps s t later)

apart_push : (steps : List Step) (s : Step) → ChangeDifferentNames steps → ((b : Step) (name : List ℕ) → IsIn b steps → Touches s name → Touches b name → ⊥) → ChangeDifferentNames (steps ++ s ∷ [])
apart_push [] s apart new = ((λ other name is. absurd is), tt)
apart_push (u ∷ steps) s apart new = (
  (λ other name is touch_u touch_other. ⊎_elim
      (λ before. apart.0 other name before touch_u touch_other)
      (λ last. new u name (inl refl) (subst (λ (v : Step). Touches v name) last touch_other) touch_u)
      (in_push steps s other is)),
  apart_push steps s apart.1 (λ b name is. new b name (inr is)),
)

-- what the test of a name tells
pub record IsFit (put : Bool) (name : List ℕ) : Type 0 where
  pub named : IsName name
  pub short : length name ≤ most_long put
  pub not_lock : name ≢ lock
  pub other : name ≢ journal
  pub stays : stays_inside put name ≡ true

most_short : (put : Bool) → most_long put ≤ 255
most_short true = omega arith
most_short false = omega arith

pub fit_name : (put : Bool) (name : List ℕ) → is_name_of put name ≡ true → IsFit put name
fit_name put name is =
    let front = (not (nat_eq (length name) 0) && not (nat_lt (most_long put) (length name))) && (is_utf8 name && (not (same_name name lock) && not (same_name name journal))) in
    let both = and_parts front (stays_inside put name) is in
    let parts = and_parts (not (nat_eq (length name) 0) && not (nat_lt (most_long put) (length name))) (is_utf8 name && (not (same_name name lock) && not (same_name name journal))) both.0 in
    let lengths = and_parts (not (nat_eq (length name) 0)) (not (nat_lt (most_long put) (length name))) parts.0 in
    let texts = and_parts (is_utf8 name) (not (same_name name lock) && not (same_name name journal)) parts.1 in
    let others = and_parts (not (same_name name lock)) (not (same_name name journal)) texts.1 in
    let some : nat_eq (length name) 0 ≡ false = not-true _ lengths.0 in
    let few : nat_lt (most_long put) (length name) ≡ false = not-true _ lengths.1 in
    let within : length name ≤ most_long put = grind (arith, nat_tests) in
    let most = most_short put in
    record {
      named = record { text = IsUtf8-from_is_utf8 name texts.0; nonempty = grind (arith, nat_tests); short = omega (arith, within, most) };
      short = within;
      not_lock = λ same. let yes : same_name name lock ≡ true = is_same name lock same in let no_clash : same_name name lock ≡ false = not-true _ others.0 in cc;
      other = λ same. let yes : same_name name journal ≡ true = is_same name journal same in let no_clash : same_name name journal ≡ false = not-true _ others.1 in cc;
      stays = both.1;
    }

named_step : (put : Bool) (name : List ℕ) → IsFit put name → IsNamedStep (step_named put name) × (Touches (step_named put name) journal → ⊥)
named_step true name fit = ((fit.named, fit.short), ⊎_elim (λ same. fit.other (sym same)) (λ same. absurd cc))
named_step false name fit = (fit.named, λ same. fit.other (sym same))

pub fine_push : (before : List Step) (put : Bool) (name : List ℕ) → AreFine before → is_allowed before put name ≡ true → AreFine (before ++ step_named put name ∷ [])
fine_push before put name fine allowed =
    let s : Step = step_named put name in
    let tests = and_parts (is_name_of put name) (not (list_any (clashes s) before)) allowed in
    let fit = named_step put name (fit_name put name tests.0) in
    let free : list_any (clashes s) before ≡ false = not-true _ tests.1 in
    record {
      apart = apart_push before s fine.apart (λ b other is touch_s touch_b. let hit : list_any (clashes s) before ≡ true = any_in (clashes s) before b is (clash_tells s b other touch_s touch_b) in cc);
      away = λ t is touch. ⊎_elim (λ old. fine.away t old touch) (λ last. fit.1 (subst (λ (v : Step). Touches v journal) last touch)) (in_push before s t is);
      named = λ t is. ⊎_elim (λ old. fine.named t old) (λ last. subst IsNamedStep (sym last) fit.0) (in_push before s t is);
    }

-- what is read is fine
abbrev pub done : {A : Type 0} → A → Result A ℕ
done x = Ok x

pub ok_is : {A : Type 0} (x y : A) → done x ≡ done y → x ≡ y
ok_is x y e = cc

pub bind_ok : {A B : Type 0} (r : Result A ℕ) (f : A → Result B ℕ) (y : B) → (r >>= f) ≡ Ok y → (x : A) × (r ≡ Ok x) × (f x ≡ Ok y)
bind_ok (Ok x) f y e = (x, refl, e)
bind_ok (Err d) f y e = absurd cc

name_case : (before : List Step) (put : Bool) (long : Bool) (name rest : List ℕ) (left : ℕ) (x : List ℕ × List ℕ) (b : Bool) → is_allowed before put name ≡ b → (if long then Err 0 else (if b then Ok (name, rest) else Err left)) ≡ Ok x → is_allowed before put x.0 ≡ true
name_case before put true name rest left x b is e = absurd cc
name_case before put false name rest left x true is e = let same : name ≡ x.0 = ap (λ (p : List ℕ × List ℕ). p.0) (ok_is (name, rest) x e) in subst (λ (n : List ℕ). is_allowed before put n ≡ true) same is
name_case before put false name rest left x false is e = absurd cc

name_allowed : (before : List Step) (put : Bool) (bytes : List ℕ) (x : List ℕ × List ℕ) → name_at before put bytes ≡ Ok x → is_allowed before put x.0 ≡ true
unfolding name_at
name_allowed before put bytes x e =
    let n = bind_ok (number_at w16 bytes) (λ n. if nat_lt (length n.1) n.0 then Err 0 else (if is_allowed before put (take n.0 n.1) then Ok (take n.0 n.1, drop n.0 n.1) else Err (length n.1))) x e in
    name_case before put (nat_lt (length n.0.1) n.0.0) (take n.0.0 n.0.1) (drop n.0.0 n.0.1) (length n.0.1) x (is_allowed before put (take n.0.0 n.0.1)) refl n.2

step_fine : (before : List Step) (bytes : List ℕ) (x : Step × List ℕ) → AreFine before → step_at before bytes ≡ Ok x → AreFine (before ++ x.0 ∷ [])
unfolding step_at
step_fine before bytes x fine e =
    let kind = bind_ok (kind_at bytes) (λ kind. name_at before kind.0 kind.1 >>= λ name. Ok (step_named kind.0 name.0, name.1)) x e in
    let name = bind_ok (name_at before kind.0.0 kind.0.1) (λ name. Ok (step_named kind.0.0 name.0, name.1)) x kind.2 in
    let allowed = name_allowed before kind.0.0 kind.0.1 name.0 name.1 in
    let is : step_named kind.0.0 name.0.0 ≡ x.0 = ap (λ (p : Step × List ℕ). p.0) (ok_is (step_named kind.0.0 name.0.0, name.0.1) x name.2) in
    subst (λ (s : Step). AreFine (before ++ s ∷ [])) is (fine_push before kind.0.0 name.0.0 fine allowed)

steps_fine : (n : ℕ) (before : List Step) (bytes : List ℕ) (x : List Step × List ℕ) → AreFine before → steps_at n before bytes ≡ Ok x → AreFine x.0
unfolding steps_at
steps_fine zero before bytes x fine e = subst AreFine (ap (λ (p : List Step × List ℕ). p.0) (ok_is (before, bytes) x e)) fine
steps_fine (suc n) before bytes x fine e =
    let s = bind_ok (step_at before bytes) (λ step. steps_at n (before ++ step.0 ∷ []) step.1) x e in
    steps_fine n (before ++ s.0.0 ∷ []) s.0.1 x (step_fine before bytes s.0 fine s.1) s.2

group_fine : (before : List Step) (bytes : List ℕ) (x : List Step × List ℕ) → AreFine before → group_at before bytes ≡ Ok x → AreFine x.0
unfolding group_at
group_fine before bytes x fine e =
    let count = bind_ok (number_at w32 bytes) (λ count. steps_at count.0 before count.1) x e in
    steps_fine count.0.0 before count.0.1 x fine count.2

groups_fine : (n : ℕ) (before : List Step) (bytes : List ℕ) (x : List Step × List ℕ) → AreFine before → groups_at n before bytes ≡ Ok x → AreFine x.0
unfolding groups_at
groups_fine zero before bytes x fine e = subst AreFine (ap (λ (p : List Step × List ℕ). p.0) (ok_is (before, bytes) x e)) fine
groups_fine (suc n) before bytes x fine e =
    let g = bind_ok (group_at before bytes) (λ steps. groups_at n steps.0 steps.1) x e in
    groups_fine n g.0.0 g.0.1 x (group_fine before bytes g.0 fine g.1) g.2

ended_same : (steps : List Step) (rest : List ℕ) (x : List Step) → ended steps rest ≡ Ok x → steps ≡ x
ended_same steps [] x e = ok_is steps x e
ended_same steps (b ∷ rest) x e = absurd cc

sealed_case : (short good : Bool) (steps : List Step) (rest : List ℕ) (left : ℕ) (x : List Step) → (if short then Err 0 else (if good then ended steps rest else Err left)) ≡ Ok x → steps ≡ x
sealed_case true good steps rest left x e = absurd cc
sealed_case false true steps rest left x e = ended_same steps rest x e
sealed_case false false steps rest left x e = absurd cc

sealed_same : (body : List ℕ) (steps : List Step) (rest : List ℕ) (x : List Step) → sealed body steps rest ≡ Ok x → steps ≡ x
unfolding sealed
sealed_same body steps rest x e = sealed_case (nat_lt (length rest) 32) (bytes_eq (take 32 rest) (sha256 (take (length body - length rest) body))) steps (drop 32 rest) (length rest) x e

pub none_fine : AreFine []
none_fine = record { apart = tt; away = λ s is. absurd is; named = λ s is. absurd is }

old_fine : (bytes : List ℕ) (x : List Step) → old_at bytes ≡ Ok x → AreFine x
unfolding old_at
old_fine bytes x e =
    let g = bind_ok (group_at [] bytes) (λ steps. ended steps.0 steps.1) x e in
    subst AreFine (ended_same g.0.0 g.0.1 x g.2) (group_fine [] bytes g.0 none_fine g.1)

new_fine : (body bytes : List ℕ) (x : List Step) → new_at body bytes ≡ Ok x → AreFine x
unfolding new_at
new_fine body bytes x e =
    let count = bind_ok (number_at w32 bytes) (λ count. groups_at count.0 [] count.1 >>= λ steps. sealed body steps.0 steps.1) x e in
    let g = bind_ok (groups_at count.0.0 [] count.0.1) (λ steps. sealed body steps.0 steps.1) x count.2 in
    subst AreFine (sealed_same body g.0.0 g.0.1 x g.2) (groups_fine count.0.0 [] count.0.1 g.0 none_fine g.1)

body_case : (one two : Bool) (version : ℕ) (rest : List ℕ) (left : ℕ) (x : List Step) → (if one then old_at rest else (if two then new_at (version ∷ rest) rest else Err left)) ≡ Ok x → AreFine x
body_case true two version rest left x e = old_fine rest x e
body_case false true version rest left x e = new_fine (version ∷ rest) rest x e
body_case false false version rest left x e = absurd cc

pub body_fine : (body : List ℕ) (x : List Step) → steps_of_body body ≡ Ok x → AreFine x
body_fine [] x e = absurd cc
body_fine (version ∷ rest) x e = body_case (nat_eq version 1) (nat_eq version 2) version rest (length (version ∷ rest)) x e

-- an open gate stands before a record
open_case : (long : ℕ) (read : Result (List Step) ℕ) (steps : List Step) → journal_state_with long read ≡ Open steps → read ≡ Ok steps
open_case long (Ok x) steps e = ap (λ (l : List Step). Ok l) (open_is x steps e)
  where
    open_is : (a b : List Step) → Open a ≡ Open b → a ≡ b
    open_is a b is = cc
open_case long (Err left) steps e = absurd cc

pub record IsOpenBytes (bytes : List ℕ) (steps : List Step) : Type 0 where
  pub body : List ℕ
  pub is : bytes ≡ 1 ∷ body
  pub read : steps_of_body body ≡ Ok steps

pub open_bytes : (bytes : List ℕ) (steps : List Step) → journal_state_of bytes ≡ Open steps → IsOpenBytes bytes steps
open_bytes [] steps is = absurd cc
open_bytes (gate ∷ body) steps is = by (nat_eq gate 1) refl is
  where
    by : (t : Bool) → nat_eq gate 1 ≡ t → (if t then journal_state_with (length (gate ∷ body)) (steps_of_body body) else Shut) ≡ Open steps → IsOpenBytes (gate ∷ body) steps
    by true test at = let one : gate ≡ 1 = grind (arith, nat_tests) in record { body = body; is = ap (λ (g : ℕ). g ∷ body) one; read = open_case (length (gate ∷ body)) (steps_of_body body) steps at }
    by false test at = absurd cc

pub open_fine : (bytes : List ℕ) (steps : List Step) → journal_state_of bytes ≡ Open steps → AreFine steps
open_fine bytes steps is = let bytes_are = open_bytes bytes steps is in body_fine bytes_are.body steps bytes_are.read

-- a name that a record may have is short
pub allowed_short : (before : List Step) (put : Bool) (name : List ℕ) → is_allowed before put name ≡ true → length name ≤ 255
allowed_short before put name allowed =
    let tests = and_parts (is_name_of put name) (not (list_any (clashes (step_named put name)) before)) allowed in
    (fit_name put name tests.0).named.short
