-- A call on one file of a replay.
use Rattle.std.proofs.Common.{◌≡◌, refl, sym, ap, ◌∙◌, true, false, is_none, [], ◌∷◌, ◌++◌, ℕ, ◌<◌, ◌≤◌, List, length, drop, ◌+◌, get_or, set, Option, Some, None}
use Rattle.std.proofs.lemmas.List.{get_or_default, set_past, drop_more, drop_all}
use Rattle.acq_outside.specs.Crash.{State, Names, number_of, renamed, all_renamed, names_of, with_change, after, on_file, no_file, newest, trace_after}
use Rattle.acq_outside.specs.declared.state.NameChange.{NameChange}
use Rattle.acq_outside.specs.declared.state.NameChange.TheVariants.{Made, Moved, Removed}
use Rattle.acq_outside.specs.declared.change.DiskCall.TheVariants.{Rename, Remove}
use Rattle.acq_outside.specs.History.{FileRows}
use Rattle.acq_memory.specs.Replay.{file_after}
use Rattle.acq_outside.specs.declared.change.DiskCall.{DiskCall}
use Rattle.acq_outside.specs.declared.state.FileState.{FileState}

pub file_none : (s : State) (o : Option ℕ) (change : FileState → FileState) → o ≡ None → s ≡ on_file s o change
file_none s o change is = sym (ap (λ (p : Option ℕ). on_file s p change) is)

pub file_past : (s : State) (o : Option ℕ) (i : ℕ) (change : FileState → FileState) → o ≡ Some i → length s.files ≤ i → s ≡ on_file s o change
file_past s o i change is past = sym (ap (λ (p : Option ℕ). on_file s p change) is ∙ ap (λ (files : List FileState). record { files = files; base = s.base; pending = s.pending }) (set_past s.files i (change (get_or s.files i no_file)) past))

pub file_set : (s t : State) (o : Option ℕ) (i : ℕ) (call : DiskCall) (old new : FileState) → o ≡ Some i → i < length s.files → old ≡ get_or s.files i old → new ≡ file_after old call → t ≡ record { files = set s.files i new; base = s.base; pending = s.pending } → t ≡ on_file s o (λ file. file_after file call)
file_set s t o i call old new is low was now done =
    done
    ∙ ap (λ (file : FileState). record { files = set s.files i file; base = s.base; pending = s.pending }) (now ∙ ap (λ (file : FileState). file_after file call) (was ∙ get_or_default s.files i old no_file low))
    ∙ sym (ap (λ (p : Option ℕ). on_file s p (λ file. file_after file call)) is)

all_push : (m : Names) (changes : List NameChange) (change : NameChange) → all_renamed m (changes ++ change ∷ []) ≡ renamed (all_renamed m changes) change
all_push m [] change = refl
all_push m (first ∷ changes) change = all_push (renamed m first) changes change

pub pushed : (m before after : Names) (old new : List NameChange) (change : NameChange) → before ≡ all_renamed m old → after ≡ renamed before change → new ≡ old ++ change ∷ [] → after ≡ all_renamed m new
pushed m before after old new change was done more = done ∙ ap (λ (n : Names). renamed n change) was ∙ sym (all_push m old change) ∙ ap (all_renamed m) (sym more)

some_of : {A B : Type 0} (P : Option A → B) (o : Option A) (y : B) → ((x : A) → P (Some x) ≡ y) → is_none o ≡ false → P o ≡ y
some_of P None y at is = absurd cc
some_of P (Some x) y at is = at x

none_of : {A : Type 0} (o : Option A) → is_none o ≡ true → o ≡ None
none_of None is = refl
none_of (Some x) is = absurd cc

pub moved_none : (s : State) (names : Names) (from to : List ℕ) → names ≡ names_of s → is_none (names from) ≡ true → s ≡ after s (Rename from to)
moved_none s names from to standing absent = sym (ap (λ (o : Option ℕ). with_change s o (Moved from to)) (ap (λ (m : Names). m from) (sym standing) ∙ none_of (names from) absent))

pub moved_some : (s t : State) (names : Names) (from to : List ℕ) → names ≡ names_of s → is_none (names from) ≡ false → t ≡ record { files = s.files; base = s.base; pending = s.pending ++ Moved from to ∷ [] } → t ≡ after s (Rename from to)
moved_some s t names from to standing there done =
    done ∙ sym (ap (λ (m : Names). with_change s (m from) (Moved from to)) (sym standing) ∙ some_of (λ (o : Option ℕ). with_change s o (Moved from to)) (names from) (record { files = s.files; base = s.base; pending = s.pending ++ Moved from to ∷ [] }) (λ x. refl) there)

pub gone_none : (s : State) (names : Names) (name : List ℕ) → names ≡ names_of s → is_none (names name) ≡ true → s ≡ after s (Remove name)
gone_none s names name standing absent = sym (ap (λ (o : Option ℕ). with_change s o (Removed name)) (ap (λ (m : Names). m name) (sym standing) ∙ none_of (names name) absent))

pub gone_some : (s t : State) (names : Names) (name : List ℕ) → names ≡ names_of s → is_none (names name) ≡ false → t ≡ record { files = s.files; base = s.base; pending = s.pending ++ Removed name ∷ [] } → t ≡ after s (Remove name)
gone_some s t names name standing there done =
    done ∙ sym (ap (λ (m : Names). with_change s (m name) (Removed name)) (sym standing) ∙ some_of (λ (o : Option ℕ). with_change s o (Removed name)) (names name) (record { files = s.files; base = s.base; pending = s.pending ++ Removed name ∷ [] }) (λ x. refl) there)

pub all_append : (m : Names) (a b : List NameChange) → all_renamed m (a ++ b) ≡ all_renamed (all_renamed m a) b
all_append m [] b = refl
all_append m (first ∷ a) b = all_append (renamed m first) a b

pub settled : (m names : Names) (old pending new : List NameChange) → names ≡ all_renamed (all_renamed m old) pending → new ≡ old ++ pending → all_renamed m new ≡ names
settled m names old pending new standing appended = ap (all_renamed m) appended ∙ all_append m old pending ∙ sym standing

pub number_step : (rows : FileRows) (i : ℕ) (row : List ℕ × List ℕ) (before after : Names) → i < length rows → row ≡ get_or rows i row → before ≡ number_of (i + 1) (drop (i + 1) rows) → after ≡ renamed before (Made row.0 i) → after ≡ number_of i (drop i rows)
number_step rows i row before after low is was done =
    done ∙ ap (λ (m : Names). renamed m (Made row.0 i)) was ∙ sym (ap (number_of i) (drop_more rows i row low ∙ ap (λ (r : List ℕ × List ℕ). r ∷ drop (i + 1) rows) (sym is)))

-- the newest state doesn't depend on what was before
newest_any : (s : State) (past other : List State) (calls : List DiskCall) → newest (trace_after s past calls) ≡ newest (trace_after s other calls)
newest_any s past other [] = refl
newest_any s past other (call ∷ calls) = newest_any (after s call) (s ∷ past) (s ∷ other) calls

pub one_call : (s t end : State) (calls : List DiskCall) (i : ℕ) (call : DiskCall) → i < length calls → call ≡ get_or calls i call → t ≡ after s call → newest (trace_after s [] (drop i calls)) ≡ end → newest (trace_after t [] (drop (i + 1) calls)) ≡ end
one_call s t end calls i call low is done was =
    let split : drop i calls ≡ call ∷ drop (i + 1) calls = drop_more calls i call low ∙ ap (λ (c : DiskCall). c ∷ drop (i + 1) calls) (sym is) in
    ap (λ (u : State). newest (trace_after u [] (drop (i + 1) calls))) done
    ∙ newest_any (after s call) [] (s ∷ []) (drop (i + 1) calls)
    ∙ sym (ap (λ (list : List DiskCall). newest (trace_after s [] list)) split)
    ∙ was

pub no_call : (s end : State) (calls : List DiskCall) (i : ℕ) → length calls ≤ i → newest (trace_after s [] (drop i calls)) ≡ end → s ≡ end
no_call s end calls i past was = sym (ap (λ (list : List DiskCall). newest (trace_after s [] list)) (drop_all i calls past)) ∙ was

-- the changes that are left, with one carried out
pub one_change : (m n end : Names) (changes : List NameChange) (i : ℕ) (change : NameChange) → i < length changes → change ≡ get_or changes i change → n ≡ renamed m change → all_renamed m (drop i changes) ≡ end → all_renamed n (drop (i + 1) changes) ≡ end
one_change m n end changes i change low is done was =
    let split : drop i changes ≡ change ∷ drop (i + 1) changes = drop_more changes i change low ∙ ap (λ (c : NameChange). c ∷ drop (i + 1) changes) (sym is) in
    ap (λ (names : Names). all_renamed names (drop (i + 1) changes)) done ∙ sym (ap (all_renamed m) split) ∙ was
