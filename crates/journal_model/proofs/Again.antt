-- What is spelled as a record is read as it.
use Rattle.std.proofs.Common.{◌≡◌, refl, sym, ap, ◌∙◌, subst, arith, ℕ, zero, suc, ◌-◌, ◌*◌, ◌<◌, ◌≤◌, ◌^◌, nat_lt, Bool, true, false, List, [], ◌∷◌, ◌++◌, length, take, drop, Ok, append_assoc, length-append, bytes_eq}
use Rattle.std.specs.Int.{Width, w16, w32, byte_len, from_be_bytes, to_be_bytes}
use Rattle.std.proofs.lemmas.Bool.{le-ltb}
use Rattle.std.proofs.lemmas.List.{take_at, drop_at, append-nil, take_all, drop_all}
use Rattle.std.proofs.lemmas.Nat.{from_be_bytes-to_be_bytes_2, from_be_bytes-to_be_bytes_4}
use Rattle.std.proofs.lemmas.Slice.Eq.{bytes_eq-Decides}
use Rattle.std.specs.Prelude.{slice_index}
use Rattle.sha2.specs.Sha256.{sha256, digest_bytes, final_hash, initial_hash_256}
use Rattle.journal_model.specs.Reading.{number_at, is_allowed, name_at, step_at, steps_at, group_at, groups_at, sealed, old_at, new_at, steps_of_body}
use Rattle.journal_model.specs.Spelling.{name_bytes, step_bytes, steps_bytes, group_bytes, groups_bytes, unsealed, body_of, old_body_of, all_steps, AreAllowed, AreShort}
use Rattle.journal_model.proofs.Fine.{allowed_short}
use Rattle.journal_model.specs.declared.step.Step.{Step}
use Rattle.journal_model.specs.declared.step.Step.TheVariants.{Put, Drop}

number_again : (w : Width) (n : ℕ) (rest : List ℕ) → length (to_be_bytes w n) ≡ byte_len w → from_be_bytes w (to_be_bytes w n) ≡ n → number_at w (to_be_bytes w n ++ rest) ≡ Ok (n, rest)
number_again w n rest len again =
    let long : nat_lt (length (to_be_bytes w n ++ rest)) (byte_len w) ≡ false = le-ltb _ _ (omega (arith, length-append (to_be_bytes w n) rest, len)) in
    rw (long, take_at (to_be_bytes w n) rest (byte_len w) len, drop_at (to_be_bytes w n) rest (byte_len w) len, again) refl

again16 : (n : ℕ) (rest : List ℕ) → n < 2 ^ 16 → number_at w16 (to_be_bytes w16 n ++ rest) ≡ Ok (n, rest)
again16 n rest low = number_again w16 n rest refl (from_be_bytes-to_be_bytes_2 n low)

again32 : (n : ℕ) (rest : List ℕ) → n < 2 ^ 32 → number_at w32 (to_be_bytes w32 n ++ rest) ≡ Ok (n, rest)
again32 n rest low = number_again w32 n rest refl (from_be_bytes-to_be_bytes_4 n low)

name_again : (before : List Step) (put : Bool) (name rest : List ℕ) → is_allowed before put name ≡ true → name_at before put (name_bytes name ++ rest) ≡ Ok (name, rest)
unfolding name_at
name_again before put name rest allowed =
    let short : length name ≤ 255 = allowed_short before put name allowed in
    let regrouped : name_bytes name ++ rest ≡ to_be_bytes w16 (length name) ++ (name ++ rest) = append_assoc (to_be_bytes w16 (length name)) name rest in
    let long : nat_lt (length (name ++ rest)) (length name) ≡ false = le-ltb _ _ (omega (arith, length-append name rest)) in
    ap (name_at before put) regrouped ∙ rw (again16 (length name) (name ++ rest) (omega (arith, short)), long, take_at name rest (length name) refl, drop_at name rest (length name) refl, allowed) refl

put_again : (before : List Step) (name rest : List ℕ) → is_allowed before true name ≡ true → step_at before (step_bytes (Put name) ++ rest) ≡ Ok (Put name, rest)
unfolding step_at
put_again before name rest allowed = rw (name_again before true name rest allowed) refl

drop_again : (before : List Step) (name rest : List ℕ) → is_allowed before false name ≡ true → step_at before (step_bytes (Drop name) ++ rest) ≡ Ok (Drop name, rest)
unfolding step_at
drop_again before name rest allowed = rw (name_again before false name rest allowed) refl

one_more : (s : Step) (steps before : List Step) (rest : List ℕ) → step_at before (step_bytes s ++ (steps_bytes steps ++ rest)) ≡ Ok (s, steps_bytes steps ++ rest) → steps_at (length steps) (before ++ s ∷ []) (steps_bytes steps ++ rest) ≡ Ok ((before ++ s ∷ []) ++ steps, rest)
    → steps_at (length (s ∷ steps)) before (steps_bytes (s ∷ steps) ++ rest) ≡ Ok (before ++ s ∷ steps, rest)
unfolding steps_at
one_more s steps before rest first others =
    ap (steps_at (suc (length steps)) before) (append_assoc (step_bytes s) (steps_bytes steps) rest)
    ∙ rw (first) others
    ∙ ap (λ (l : List Step). Ok (l, rest)) (append_assoc before (s ∷ []) steps)

steps_again : (steps before : List Step) (rest : List ℕ) → AreAllowed before steps → steps_at (length steps) before (steps_bytes steps ++ rest) ≡ Ok (before ++ steps, rest)
unfolding steps_at
steps_again [] before rest allowed = ap (λ (l : List Step). Ok (l, rest)) (sym (append-nil before))
steps_again (Put name ∷ steps) before rest allowed = one_more (Put name) steps before rest (put_again before name (steps_bytes steps ++ rest) allowed.0) (steps_again steps (before ++ Put name ∷ []) rest allowed.1)
steps_again (Drop name ∷ steps) before rest allowed = one_more (Drop name) steps before rest (drop_again before name (steps_bytes steps ++ rest) allowed.0) (steps_again steps (before ++ Drop name ∷ []) rest allowed.1)

group_again : (steps before : List Step) (rest : List ℕ) → length steps < 2 ^ 32 → AreAllowed before steps → group_at before (group_bytes steps ++ rest) ≡ Ok (before ++ steps, rest)
unfolding group_at
group_again steps before rest few allowed =
    ap (group_at before) (append_assoc (to_be_bytes w32 (length steps)) (steps_bytes steps) rest) ∙ rw (again32 (length steps) (steps_bytes steps ++ rest) few) (steps_again steps before rest allowed)

allowed_parts : (a b before : List Step) → AreAllowed before (a ++ b) → AreAllowed before a × AreAllowed (before ++ a) b
allowed_parts [] b before allowed = (tt, subst (λ (l : List Step). AreAllowed l b) (sym (append-nil before)) allowed)
allowed_parts (Put name ∷ a) b before allowed =
    let rest = allowed_parts a b (before ++ Put name ∷ []) allowed.1 in
    ((allowed.0, rest.0), subst (λ (l : List Step). AreAllowed l b) (append_assoc before (Put name ∷ []) a) rest.1)
allowed_parts (Drop name ∷ a) b before allowed =
    let rest = allowed_parts a b (before ++ Drop name ∷ []) allowed.1 in
    ((allowed.0, rest.0), subst (λ (l : List Step). AreAllowed l b) (append_assoc before (Drop name ∷ []) a) rest.1)

groups_again : (groups : List (List Step)) (before : List Step) (rest : List ℕ) → AreShort groups → AreAllowed before (all_steps groups) → groups_at (length groups) before (groups_bytes groups ++ rest) ≡ Ok (before ++ all_steps groups, rest)
unfolding groups_at
groups_again [] before rest short allowed = ap (λ (l : List Step). Ok (l, rest)) (sym (append-nil before))
groups_again (group ∷ groups) before rest short allowed =
    let parts = allowed_parts group (all_steps groups) before allowed in
    ap (groups_at (suc (length groups)) before) (append_assoc (group_bytes group) (groups_bytes groups) rest)
    ∙ rw (group_again group before (groups_bytes groups ++ rest) short.0 parts.0) (groups_again groups (before ++ group) rest short.1 parts.1)
    ∙ ap (λ (l : List Step). Ok (l, rest)) (append_assoc before group (all_steps groups))

digest_long : (h : List ℕ) (n : ℕ) → length (digest_bytes h n) ≡ n * 4
unfolding digest_bytes
digest_long h zero = refl
digest_long h (suc n) = omega (arith, length-append (digest_bytes h n) (to_be_bytes w32 (slice_index h n)), digest_long h n)

sha_long : (bytes : List ℕ) → length (sha256 bytes) ≡ 32
unfolding sha256
sha_long bytes = digest_long (final_hash initial_hash_256 bytes) 8

sealed_again : (front : List ℕ) (steps : List Step) → sealed (front ++ sha256 front) steps (sha256 front) ≡ Ok steps
unfolding sealed
sealed_again front steps =
    let long : nat_lt (length (sha256 front)) 32 ≡ false = le-ltb _ _ (omega (arith, sha_long front)) in
    let all : take 32 (sha256 front) ≡ sha256 front = take_all 32 (sha256 front) (omega (arith, sha_long front)) in
    let none : drop 32 (sha256 front) ≡ [] = drop_all 32 (sha256 front) (omega (arith, sha_long front)) in
    let before : length (front ++ sha256 front) - length (sha256 front) ≡ length front = omega (arith, length-append front (sha256 front)) in
    let same : bytes_eq (sha256 front) (sha256 front) ≡ true = (bytes_eq-Decides (sha256 front) (sha256 front)).1 refl in
    rw (long, all, none, before, take_at front (sha256 front) (length front) refl, same) refl

pub new_again : (groups : List (List Step)) → length groups < 2 ^ 32 → AreShort groups → AreAllowed [] (all_steps groups) → steps_of_body (body_of groups) ≡ Ok (all_steps groups)
unfolding new_at
new_again groups few short allowed =
    let sum : List ℕ = sha256 (unsealed groups) in
    let regrouped : (to_be_bytes w32 (length groups) ++ groups_bytes groups) ++ sum ≡ to_be_bytes w32 (length groups) ++ (groups_bytes groups ++ sum) = append_assoc (to_be_bytes w32 (length groups)) (groups_bytes groups) sum in
    ap (new_at (body_of groups)) regrouped
    ∙ rw (again32 (length groups) (groups_bytes groups ++ sum) few, groups_again groups [] sum short allowed) (sealed_again (unsealed groups) (all_steps groups))

pub old_again : (steps : List Step) → length steps < 2 ^ 32 → AreAllowed [] steps → steps_of_body (old_body_of steps) ≡ Ok steps
unfolding old_at
old_again steps few allowed =
    ap old_at (sym (append-nil (group_bytes steps))) ∙ rw (group_again steps [] [] few allowed) refl
