-- What is read as a record was spelled as one.
use Rattle.std.proofs.Common.{◌≡◌, inl, inr, refl, sym, ap, ◌∙◌, subst, arith, ℕ, zero, suc, ◌-◌, ◌<◌, ◌≤◌, ◌^◌, nat_eq, nat_lt, Bool, true, false, if◌then◌else◌, List, [], ◌∷◌, ◌++◌, length, take, drop, get_or, Result, Ok, Err, append_assoc, length-append, bytes_eq}
use Rattle.std.specs.Int.{Width, w16, w32, byte_len, from_be_bytes, to_be_bytes}
use Rattle.std.proofs.lemmas.Bool.Decides.{nat_tests}
use Rattle.std.proofs.lemmas.List.{take_at, append-nil, take-append-drop, length-take-le, get_or_past}
use Rattle.std.proofs.lemmas.Nat.{be_bytes_2, be_bytes_4}
use Rattle.std.proofs.lemmas.Slice.Eq.{bytes_eq-Decides}
use Rattle.sha2.specs.Sha256.{sha256}
use Rattle.acq_outside.specs.Choice.{AreBytes}
use Rattle.journal_model.specs.Reading.{◌>>=◌, number_at, kind_at, step_named, is_allowed, name_at, step_at, steps_at, group_at, groups_at, ended, sealed, old_at, new_at, steps_of_body}
use Rattle.journal_model.specs.Spelling.{name_bytes, step_bytes, steps_bytes, group_bytes, groups_bytes, unsealed, all_steps, AreAllowed, AreShort, IsRecord}
use Rattle.journal_model.proofs.Fine.{ok_is, bind_ok}
use Rattle.journal_model.specs.declared.step.Step.{Step}
use Rattle.journal_model.specs.declared.step.Step.TheVariants.{Put, Drop}

-- bytes in parts
take_bytes : (n : ℕ) (bytes : List ℕ) → AreBytes bytes → AreBytes (take n bytes)
take_bytes zero bytes are = tt
take_bytes (suc n) [] are = tt
take_bytes (suc n) (b ∷ bytes) are = (are.0, take_bytes n bytes are.1)

drop_bytes : (n : ℕ) (bytes : List ℕ) → AreBytes bytes → AreBytes (drop n bytes)
drop_bytes zero bytes are = are
drop_bytes (suc n) [] are = tt
drop_bytes (suc n) (b ∷ bytes) are = drop_bytes n bytes are.1

byte_in : (bytes : List ℕ) → AreBytes bytes → (i : ℕ) → get_or bytes i 0 < 256
byte_in [] are i = let none : get_or {A = ℕ} [] i 0 ≡ 0 = get_or_past {X = ℕ} [] i 0 (omega arith) in omega (arith, none)
byte_in (b ∷ bytes) are zero = are.0
byte_in (b ∷ bytes) are (suc i) = byte_in bytes are.1 i

-- a number was written as its bytes
record IsNumber (w : Width) (bytes : List ℕ) (x : ℕ × List ℕ) : Type 0 where
  bytes_are : bytes ≡ to_be_bytes w x.0 ++ x.1
  more : AreBytes x.1
  front : List ℕ
  small : (i : ℕ) → get_or front i 0 < 256
  is : x.0 ≡ from_be_bytes w front

abbrev stops : {A : Type 0} → ℕ → Result A ℕ
stops left = Err left

abbrev WritesBack : Width → Type 0
WritesBack w = (bs : List ℕ) (n : ℕ) → length bs ≡ byte_len w → ((i : ℕ) → get_or bs i 0 < 256) → n ≡ from_be_bytes w bs → to_be_bytes w n ≡ bs

number_is : (w : Width) → WritesBack w → (bytes : List ℕ) (x : ℕ × List ℕ) → AreBytes bytes → number_at w bytes ≡ Ok x → IsNumber w bytes x
number_is w back bytes x are e = by (nat_lt (length bytes) (byte_len w)) refl e
  where
    first : List ℕ
    first = take (byte_len w) bytes

    here : (long : byte_len w ≤ length bytes) → IsNumber w bytes (from_be_bytes w first, drop (byte_len w) bytes)
    here long = record {
      bytes_are = sym (take-append-drop (byte_len w) bytes) ∙ ap (λ (f : List ℕ). f ++ drop (byte_len w) bytes) (sym (back first (from_be_bytes w first) (length-take-le (byte_len w) bytes long) (byte_in first (take_bytes (byte_len w) bytes are)) refl));
      more = drop_bytes (byte_len w) bytes are;
      front = first;
      small = byte_in first (take_bytes (byte_len w) bytes are);
      is = refl;
    }

    by : (t : Bool) → nat_lt (length bytes) (byte_len w) ≡ t → (if t then stops 0 else Ok (from_be_bytes w (take (byte_len w) bytes), drop (byte_len w) bytes)) ≡ Ok x → IsNumber w bytes x
    by true test at = absurd cc
    by false test at = subst (λ (y : ℕ × List ℕ). IsNumber w bytes y) (ok_is (from_be_bytes w first, drop (byte_len w) bytes) x at) (here (grind (arith, nat_tests)))

below32 : (bs : List ℕ) → ((i : ℕ) → get_or bs i 0 < 256) → from_be_bytes w32 bs < 2 ^ 32
below32 bs small = omega (arith, small 0, small 1, small 2, small 3)

-- a name
record IsNameRead (before : List Step) (put : Bool) (bytes : List ℕ) (x : List ℕ × List ℕ) : Type 0 where
  bytes_are : bytes ≡ name_bytes x.0 ++ x.1
  more : AreBytes x.1
  allowed : is_allowed before put x.0 ≡ true

name_here : (before : List Step) (put : Bool) (bytes : List ℕ) (n : ℕ × List ℕ) → IsNumber w16 bytes n → n.0 ≤ length n.1 → is_allowed before put (take n.0 n.1) ≡ true → IsNameRead before put bytes (take n.0 n.1, drop n.0 n.1)
name_here before put bytes n number long allowed = record {
  bytes_are = number.bytes_are ∙ ap (λ (rest : List ℕ). to_be_bytes w16 n.0 ++ rest) (sym (take-append-drop n.0 n.1)) ∙ sym (append_assoc (to_be_bytes w16 n.0) (take n.0 n.1) (drop n.0 n.1))
      ∙ ap (λ (k : ℕ). (to_be_bytes w16 k ++ take n.0 n.1) ++ drop n.0 n.1) (sym (length-take-le n.0 n.1 long));
  more = drop_bytes n.0 n.1 number.more;
  allowed = allowed;
}

name_case : (before : List Step) (put : Bool) (bytes : List ℕ) (n : ℕ × List ℕ) (x : List ℕ × List ℕ) (t u : Bool) → nat_lt (length n.1) n.0 ≡ t → is_allowed before put (take n.0 n.1) ≡ u → IsNumber w16 bytes n
    → (if t then Err 0 else (if u then Ok (take n.0 n.1, drop n.0 n.1) else Err (length n.1))) ≡ Ok x → IsNameRead before put bytes x
name_case before put bytes n x true u test allowed number e = absurd cc
name_case before put bytes n x false true test allowed number e =
    subst (λ (y : List ℕ × List ℕ). IsNameRead before put bytes y) (ok_is (take n.0 n.1, drop n.0 n.1) x e) (name_here before put bytes n number (grind (arith, nat_tests)) allowed)
name_case before put bytes n x false false test allowed number e = absurd cc

name_is : (before : List Step) (put : Bool) (bytes : List ℕ) (x : List ℕ × List ℕ) → AreBytes bytes → name_at before put bytes ≡ Ok x → IsNameRead before put bytes x
unfolding name_at
name_is before put bytes x are e =
    let n = bind_ok (number_at w16 bytes) (λ n. if nat_lt (length n.1) n.0 then Err 0 else (if is_allowed before put (take n.0 n.1) then Ok (take n.0 n.1, drop n.0 n.1) else Err (length n.1))) x e in
    name_case before put bytes n.0 x (nat_lt (length n.0.1) n.0.0) (is_allowed before put (take n.0.0 n.0.1)) refl refl (number_is w16 be_bytes_2 bytes n.0 are n.1) n.2

-- a step
abbrev kind_byte : Bool → ℕ
kind_byte true = 0
kind_byte false = 1

record IsKind (bytes : List ℕ) (x : Bool × List ℕ) : Type 0 where
  bytes_are : bytes ≡ kind_byte x.0 ∷ x.1
  more : AreBytes x.1

kind_case : (kind : ℕ) (rest : List ℕ) (x : Bool × List ℕ) (t u : Bool) → nat_lt 1 kind ≡ t → nat_eq kind 0 ≡ u → AreBytes rest → (if t then Err (length (kind ∷ rest)) else Ok (u, rest)) ≡ Ok x → IsKind (kind ∷ rest) x
kind_case kind rest x true u low zero_is are e = absurd cc
kind_case kind rest x false true low zero_is are e =
    subst (λ (y : Bool × List ℕ). IsKind (kind ∷ rest) y) (ok_is (true, rest) x e) (record { bytes_are = (let none : kind ≡ 0 = grind (arith, nat_tests) in ap (λ (k : ℕ). k ∷ rest) none); more = are })
kind_case kind rest x false false low zero_is are e =
    subst (λ (y : Bool × List ℕ). IsKind (kind ∷ rest) y) (ok_is (false, rest) x e) (record { bytes_are = (let one : kind ≡ 1 = grind (arith, nat_tests) in ap (λ (k : ℕ). k ∷ rest) one); more = are })

kind_is : (bytes : List ℕ) (x : Bool × List ℕ) → AreBytes bytes → kind_at bytes ≡ Ok x → IsKind bytes x
kind_is [] x are e = absurd cc
kind_is (kind ∷ rest) x are e = kind_case kind rest x (nat_lt 1 kind) (nat_eq kind 0) refl refl are.1 e

record IsStepRead (before : List Step) (bytes : List ℕ) (x : Step × List ℕ) : Type 0 where
  bytes_are : bytes ≡ step_bytes x.0 ++ x.1
  more : AreBytes x.1
  allowed : AreAllowed before (x.0 ∷ [])

named_bytes : (put : Bool) (name : List ℕ) → step_bytes (step_named put name) ≡ kind_byte put ∷ name_bytes name
named_bytes true name = refl
named_bytes false name = refl

named_allowed : (before : List Step) (put : Bool) (name : List ℕ) → is_allowed before put name ≡ true → AreAllowed before (step_named put name ∷ [])
named_allowed before true name allowed = (allowed, tt)
named_allowed before false name allowed = (allowed, tt)

step_here : (before : List Step) (bytes : List ℕ) (kind : Bool × List ℕ) (name : List ℕ × List ℕ) → IsKind bytes kind → IsNameRead before kind.0 kind.1 name → IsStepRead before bytes (step_named kind.0 name.0, name.1)
step_here before bytes kind name is_kind is_name = record {
  bytes_are = is_kind.bytes_are ∙ ap (λ (rest : List ℕ). kind_byte kind.0 ∷ rest) is_name.bytes_are ∙ ap (λ (front : List ℕ). front ++ name.1) (sym (named_bytes kind.0 name.0));
  more = is_name.more;
  allowed = named_allowed before kind.0 name.0 is_name.allowed;
}

step_is : (before : List Step) (bytes : List ℕ) (x : Step × List ℕ) → AreBytes bytes → step_at before bytes ≡ Ok x → IsStepRead before bytes x
unfolding step_at
step_is before bytes x are e =
    let kind = bind_ok (kind_at bytes) (λ kind. name_at before kind.0 kind.1 >>= λ name. Ok (step_named kind.0 name.0, name.1)) x e in
    let name = bind_ok (name_at before kind.0.0 kind.0.1) (λ name. Ok (step_named kind.0.0 name.0, name.1)) x kind.2 in
    let of_kind = kind_is bytes kind.0 are kind.1 in
    subst (λ (y : Step × List ℕ). IsStepRead before bytes y) (ok_is (step_named kind.0.0 name.0.0, name.0.1) x name.2)
    (step_here before bytes kind.0 name.0 of_kind (name_is before kind.0.0 kind.0.1 name.0 of_kind.more name.1))

-- steps, one after another
record AreStepsRead (n : ℕ) (before : List Step) (bytes : List ℕ) (x : List Step × List ℕ) : Type 0 where
  steps : List Step
  all : x.0 ≡ before ++ steps
  count : length steps ≡ n
  bytes_are : bytes ≡ steps_bytes steps ++ x.1
  more : AreBytes x.1
  allowed : AreAllowed before steps

allowed_more : (before : List Step) (s : Step) (steps : List Step) → AreAllowed before (s ∷ []) → AreAllowed (before ++ s ∷ []) steps → AreAllowed before (s ∷ steps)
allowed_more before (Put name) steps one rest = (one.0, rest)
allowed_more before (Drop name) steps one rest = (one.0, rest)

steps_here : (n : ℕ) (before : List Step) (bytes : List ℕ) (s : Step × List ℕ) (x : List Step × List ℕ) → IsStepRead before bytes s → AreStepsRead n (before ++ s.0 ∷ []) s.1 x → AreStepsRead (suc n) before bytes x
steps_here n before bytes s x first later = record {
  steps = s.0 ∷ later.steps;
  all = later.all ∙ append_assoc before (s.0 ∷ []) later.steps;
  count = ap suc later.count;
  bytes_are = first.bytes_are ∙ ap (λ (rest : List ℕ). step_bytes s.0 ++ rest) later.bytes_are ∙ sym (append_assoc (step_bytes s.0) (steps_bytes later.steps) x.1);
  more = later.more;
  allowed = allowed_more before s.0 later.steps first.allowed later.allowed;
}

steps_are : (n : ℕ) (before : List Step) (bytes : List ℕ) (x : List Step × List ℕ) → AreBytes bytes → steps_at n before bytes ≡ Ok x → AreStepsRead n before bytes x
unfolding steps_at
steps_are zero before bytes x are e =
    subst (λ (y : List Step × List ℕ). AreStepsRead zero before bytes y) (ok_is (before, bytes) x e)
    (record { steps = []; all = sym (append-nil before); count = refl; bytes_are = refl; more = are; allowed = tt })
steps_are (suc n) before bytes x are e =
    let s = bind_ok (step_at before bytes) (λ step. steps_at n (before ++ step.0 ∷ []) step.1) x e in
    let first = step_is before bytes s.0 are s.1 in
    steps_here n before bytes s.0 x first (steps_are n (before ++ s.0.0 ∷ []) s.0.1 x first.more s.2)

-- a group
record IsGroupRead (before : List Step) (bytes : List ℕ) (x : List Step × List ℕ) : Type 0 where
  steps : List Step
  all : x.0 ≡ before ++ steps
  few : length steps < 2 ^ 32
  bytes_are : bytes ≡ group_bytes steps ++ x.1
  more : AreBytes x.1
  allowed : AreAllowed before steps

group_here : (before : List Step) (bytes : List ℕ) (n : ℕ × List ℕ) (x : List Step × List ℕ) → IsNumber w32 bytes n → AreStepsRead n.0 before n.1 x → IsGroupRead before bytes x
group_here before bytes n x number are = record {
  steps = are.steps;
  all = are.all;
  few = omega (arith, are.count, number.is, below32 number.front number.small);
  bytes_are = number.bytes_are
      ∙ ap (λ (rest : List ℕ). to_be_bytes w32 n.0 ++ rest) are.bytes_are
      ∙ sym (append_assoc (to_be_bytes w32 n.0) (steps_bytes are.steps) x.1)
      ∙ ap (λ (k : ℕ). (to_be_bytes w32 k ++ steps_bytes are.steps) ++ x.1) (sym are.count);
  more = are.more;
  allowed = are.allowed;
}

group_is : (before : List Step) (bytes : List ℕ) (x : List Step × List ℕ) → AreBytes bytes → group_at before bytes ≡ Ok x → IsGroupRead before bytes x
unfolding group_at
group_is before bytes x are e =
    let n = bind_ok (number_at w32 bytes) (λ count. steps_at count.0 before count.1) x e in
    let number = number_is w32 be_bytes_4 bytes n.0 are n.1 in
    group_here before bytes n.0 x number (steps_are n.0.0 before n.0.1 x number.more n.2)

-- groups, one after another
record AreGroupsRead (n : ℕ) (before : List Step) (bytes : List ℕ) (x : List Step × List ℕ) : Type 0 where
  groups : List (List Step)
  all : x.0 ≡ before ++ all_steps groups
  count : length groups ≡ n
  short : AreShort groups
  bytes_are : bytes ≡ groups_bytes groups ++ x.1
  more : AreBytes x.1
  allowed : AreAllowed before (all_steps groups)

allowed_join : (a b before : List Step) → AreAllowed before a → AreAllowed (before ++ a) b → AreAllowed before (a ++ b)
allowed_join [] b before first later = subst (λ (l : List Step). AreAllowed l b) (append-nil before) later
allowed_join (Put name ∷ a) b before first later = (first.0, allowed_join a b (before ++ Put name ∷ []) first.1 (subst (λ (l : List Step). AreAllowed l b) (sym (append_assoc before (Put name ∷ []) a)) later))
allowed_join (Drop name ∷ a) b before first later = (first.0, allowed_join a b (before ++ Drop name ∷ []) first.1 (subst (λ (l : List Step). AreAllowed l b) (sym (append_assoc before (Drop name ∷ []) a)) later))

groups_here : (n : ℕ) (before : List Step) (bytes : List ℕ) (g x : List Step × List ℕ) (first : IsGroupRead before bytes g) → AreGroupsRead n (before ++ first.steps) g.1 x → AreGroupsRead (suc n) before bytes x
groups_here n before bytes g x first later = record {
  groups = first.steps ∷ later.groups;
  all = later.all ∙ append_assoc before first.steps (all_steps later.groups);
  count = ap suc later.count;
  short = (first.few, later.short);
  bytes_are = first.bytes_are ∙ ap (λ (rest : List ℕ). group_bytes first.steps ++ rest) later.bytes_are ∙ sym (append_assoc (group_bytes first.steps) (groups_bytes later.groups) x.1);
  more = later.more;
  allowed = allowed_join first.steps (all_steps later.groups) before first.allowed later.allowed;
}

groups_are : (n : ℕ) (before : List Step) (bytes : List ℕ) (x : List Step × List ℕ) → AreBytes bytes → groups_at n before bytes ≡ Ok x → AreGroupsRead n before bytes x
unfolding groups_at
groups_are zero before bytes x are e =
    subst (λ (y : List Step × List ℕ). AreGroupsRead zero before bytes y) (ok_is (before, bytes) x e)
    (record { groups = []; all = sym (append-nil before); count = refl; short = tt; bytes_are = refl; more = are; allowed = tt })
groups_are (suc n) before bytes x are e =
    let g = bind_ok (group_at before bytes) (λ steps. groups_at n steps.0 steps.1) x e in
    let first = group_is before bytes g.0 are g.1 in
    groups_here n before bytes g.0 x first (subst (λ (l : List Step). AreGroupsRead n l g.0.1 x) first.all (groups_are n g.0.0 g.0.1 x first.more g.2))

-- the end
ended_is : (steps : List Step) (rest : List ℕ) (x : List Step) → ended steps rest ≡ Ok x → (rest ≡ []) × (steps ≡ x)
ended_is steps [] x e = (refl, ok_is steps x e)
ended_is steps (b ∷ rest) x e = absurd cc

-- the digest and the end
record IsSealed (body : List ℕ) (steps : List Step) (rest : List ℕ) (x : List Step) : Type 0 where
  digest : rest ≡ sha256 (take (length body - length rest) body)
  same : steps ≡ x

sealed_case : (body : List ℕ) (steps : List Step) (rest : List ℕ) (x : List Step) (t u : Bool) → bytes_eq (take 32 rest) (sha256 (take (length body - length rest) body)) ≡ u
    → (if t then Err 0 else (if u then ended steps (drop 32 rest) else Err (length rest))) ≡ Ok x → IsSealed body steps rest x
sealed_case body steps rest x true u test e = absurd cc
sealed_case body steps rest x false true test e =
    let at_end = ended_is steps (drop 32 rest) x e in
    let front : take 32 rest ≡ sha256 (take (length body - length rest) body) = (bytes_eq-Decides (take 32 rest) (sha256 (take (length body - length rest) body))).0 test in
    record { digest = sym (take-append-drop 32 rest) ∙ ap (λ (l : List ℕ). take 32 rest ++ l) at_end.0 ∙ append-nil (take 32 rest) ∙ front; same = at_end.1 }
sealed_case body steps rest x false false test e = absurd cc

sealed_is : (body : List ℕ) (steps : List Step) (rest : List ℕ) (x : List Step) → sealed body steps rest ≡ Ok x → IsSealed body steps rest x
unfolding sealed
sealed_is body steps rest x e = sealed_case body steps rest x (nat_lt (length rest) 32) (bytes_eq (take 32 rest) (sha256 (take (length body - length rest) body))) refl e

-- a body of either version
old_is : (bytes : List ℕ) (x : List Step) → AreBytes bytes → old_at bytes ≡ Ok x → IsRecord (1 ∷ bytes) x
unfolding old_at
old_is bytes x are e =
    let g = bind_ok (group_at [] bytes) (λ steps. ended steps.0 steps.1) x e in
    let group = group_is [] bytes g.0 are g.1 in
    let at_end = ended_is g.0.0 g.0.1 x g.2 in
    let same : group.steps ≡ x = sym group.all ∙ at_end.1 in
    let spelled : bytes ≡ group_bytes group.steps = group.bytes_are ∙ ap (λ (l : List ℕ). group_bytes group.steps ++ l) at_end.0 ∙ append-nil (group_bytes group.steps) in
    subst (λ (l : List Step). IsRecord (1 ∷ bytes) l) same (record { allowed = group.allowed; spelled = inl (record { few = group.few; is = ap (λ (l : List ℕ). 1 ∷ l) spelled }) })

new_here : (bytes : List ℕ) (n : ℕ × List ℕ) (g : List Step × List ℕ) (x : List Step) → IsNumber w32 bytes n → AreGroupsRead n.0 [] n.1 g → IsSealed (2 ∷ bytes) g.0 g.1 x → IsRecord (2 ∷ bytes) x
new_here bytes n g x number groups end = record {
  allowed = subst (λ (l : List Step). AreAllowed [] l) same groups.allowed;
  spelled = inr (record {
    groups = groups.groups;
    few = omega (arith, groups.count, number.is, below32 number.front number.small);
    short = groups.short;
    all = same;
    is = body ∙ ap (λ (l : List ℕ). unsealed groups.groups ++ l) (end.digest ∙ ap sha256 before);
  });
}
  where
    same : all_steps groups.groups ≡ x
    same = sym groups.all ∙ end.same

    counted : bytes ≡ to_be_bytes w32 n.0 ++ (groups_bytes groups.groups ++ g.1)
    counted = number.bytes_are ∙ ap (λ (rest : List ℕ). to_be_bytes w32 n.0 ++ rest) groups.bytes_are

    front : bytes ≡ (to_be_bytes w32 (length groups.groups) ++ groups_bytes groups.groups) ++ g.1
    front = counted ∙ sym (append_assoc (to_be_bytes w32 n.0) (groups_bytes groups.groups) g.1) ∙ ap (λ (k : ℕ). (to_be_bytes w32 k ++ groups_bytes groups.groups) ++ g.1) (sym groups.count)

    body : 2 ∷ bytes ≡ unsealed groups.groups ++ g.1
    body = ap (λ (l : List ℕ). 2 ∷ l) front

    cut_at : length (2 ∷ bytes) - length g.1 ≡ length (unsealed groups.groups)
    cut_at = omega (arith, ap length body, length-append (unsealed groups.groups) g.1)

    before : take (length (2 ∷ bytes) - length g.1) (2 ∷ bytes) ≡ unsealed groups.groups
    before = ap (λ (k : ℕ). take k (2 ∷ bytes)) cut_at ∙ ap (λ (l : List ℕ). take (length (unsealed groups.groups)) l) body ∙ take_at (unsealed groups.groups) g.1 (length (unsealed groups.groups)) refl

new_is : (bytes : List ℕ) (x : List Step) → AreBytes bytes → new_at (2 ∷ bytes) bytes ≡ Ok x → IsRecord (2 ∷ bytes) x
unfolding new_at
new_is bytes x are e =
    let n = bind_ok (number_at w32 bytes) (λ count. groups_at count.0 [] count.1 >>= λ steps. sealed (2 ∷ bytes) steps.0 steps.1) x e in
    let g = bind_ok (groups_at n.0.0 [] n.0.1) (λ steps. sealed (2 ∷ bytes) steps.0 steps.1) x n.2 in
    let number = number_is w32 be_bytes_4 bytes n.0 are n.1 in
    new_here bytes n.0 g.0 x number (groups_are n.0.0 [] n.0.1 g.0 number.more g.1) (sealed_is (2 ∷ bytes) g.0.0 g.0.1 x g.2)

body_case : (version : ℕ) (rest : List ℕ) (x : List Step) (one two : Bool) → nat_eq version 1 ≡ one → nat_eq version 2 ≡ two → AreBytes rest
    → (if one then old_at rest else (if two then new_at (version ∷ rest) rest else Err (length (version ∷ rest)))) ≡ Ok x → IsRecord (version ∷ rest) x
body_case version rest x true two is_one is_two are e = let first : 1 ≡ version = grind (arith, nat_tests) in subst (λ (v : ℕ). IsRecord (v ∷ rest) x) first (old_is rest x are e)
body_case version rest x false true is_one is_two are e =
    let second : version ≡ 2 = grind (arith, nat_tests) in
    subst (λ (v : ℕ). IsRecord (v ∷ rest) x) (sym second) (new_is rest x are (subst (λ (v : ℕ). new_at (v ∷ rest) rest ≡ Ok x) second e))
body_case version rest x false false is_one is_two are e = absurd cc

pub records_only : (body : List ℕ) (steps : List Step) → AreBytes body → steps_of_body body ≡ Ok steps → IsRecord body steps
records_only [] steps are e = absurd cc
records_only (version ∷ rest) steps are e = body_case version rest steps (nat_eq version 1) (nat_eq version 2) refl refl are.1 e
