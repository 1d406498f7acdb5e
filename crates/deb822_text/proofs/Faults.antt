-- A scan is refused at the first line that no reading allows, in terms of all lines before it.
use Rattle.std.proofs.Common.{◌≡◌, ℕ, ◌+◌, ◌-◌, Bool, true, false, cond, not, List, [], ◌∷◌, ◌++◌, length, drop, reverse, Option, Some, None, Result, Ok, Err, ◌⊎◌, inl, inr, refl, sym, ap, subst, ◌∙◌, append_assoc, arith}
use Rattle.std.specs.Prelude.{Any, OnOk, IfErr}
use Rattle.std.specs.List.{after_last, suffix_len, prefix_len}
use Rattle.std.specs.Cmp.Lexicographic.{bytes_decides}
use Rattle.std.specs.Str.{str_eq_ignore_ascii_case, str_to_ascii_lowercase}
use Rattle.std.proofs.lemmas.Bool.{false≢true}
use Rattle.std.proofs.lemmas.List.{append-nil, drop_all, drop-append-le, reverse-append, length-append}
use Rattle.std.proofs.lemmas.List.Folds.{Any-from_list_any, list_any-from_Any}
use Rattle.deb822_text.specs.declared.paragraph.Field.{Field}
use Rattle.deb822_text.specs.declared.paragraph.Paragraph.{Paragraph}
use Rattle.deb822_text.specs.declared.error.TextError.{TextError}
use Rattle.deb822_text.specs.declared.error.TextError.TheVariants.{Twice, Loose, NoMemory}
use Rattle.deb822_text.specs.Control.{Line, Separator, Comment, Continuation, Named, Unknown, is_empty, is_separator, names_in, has_name}
use Rattle.deb822_text.specs.Refused.{names_behind, IsSameName, IsFault, AreAllowed, IsFirstFault}
use Rattle.deb822_text.specs.Names.{names_of}
use Rattle.deb822_text.specs.Scan.{State, start, add_line, fault_at, step, unless, scan}
use Rattle.deb822_text.proofs.Steps.{names_of-push}

-- ---- the names behind the last separator, one line on

after_last-yes : {X : Type 0} (p : X → Bool) (xs : List X) (x : X) → p x ≡ true → after_last p (xs ++ x ∷ []) ≡ []
after_last-yes p xs x passes =
    let back : reverse (xs ++ x ∷ []) ≡ x ∷ reverse xs = reverse-append xs (x ∷ []) in
    let none : suffix_len (λ y. not (p y)) (xs ++ x ∷ []) ≡ 0 = ap (prefix_len (λ y. not (p y))) back ∙ ap (λ (b : Bool). cond (not b) (1 + prefix_len (λ y. not (p y)) (reverse xs)) 0) passes in
    rw none (drop_all (length (xs ++ x ∷ []) - 0) (xs ++ x ∷ []) (omega arith))

after_last-no : {X : Type 0} (p : X → Bool) (xs : List X) (x : X) → p x ≡ false → after_last p (xs ++ x ∷ []) ≡ after_last p xs ++ x ∷ []
after_last-no p xs x fails =
    let back : reverse (xs ++ x ∷ []) ≡ x ∷ reverse xs = reverse-append xs (x ∷ []) in
    let more : suffix_len (λ y. not (p y)) (xs ++ x ∷ []) ≡ 1 + suffix_len (λ y. not (p y)) xs = ap (prefix_len (λ y. not (p y))) back ∙ ap (λ (b : Bool). cond (not b) (1 + prefix_len (λ y. not (p y)) (reverse xs)) 0) fails in
    let at : length (xs ++ x ∷ []) - suffix_len (λ y. not (p y)) (xs ++ x ∷ []) ≡ length xs - suffix_len (λ y. not (p y)) xs = omega (arith, more, length-append xs (x ∷ [])) in
    ap (λ (n : ℕ). drop n (xs ++ x ∷ [])) at ∙ drop-append-le (length xs - suffix_len (λ y. not (p y)) xs) xs (x ∷ []) (omega arith)

names_in-named : (lines : List Line) (at : ℕ) (name text : List ℕ) → names_in (lines ++ Named at name text ∷ []) ≡ names_in lines ++ name ∷ []
names_in-named [] at name text = refl
names_in-named (Separator ∷ lines) at name text = names_in-named lines at name text
names_in-named (Comment ∷ lines) at name text = names_in-named lines at name text
names_in-named (Continuation a t ∷ lines) at name text = names_in-named lines at name text
names_in-named (Named a n t ∷ lines) at name text = ap (λ (names : List (List ℕ)). n ∷ names) (names_in-named lines at name text)
names_in-named (Unknown a ∷ lines) at name text = names_in-named lines at name text

names_in-other : (lines : List Line) (line : Line) → names_in (line ∷ []) ≡ [] → names_in (lines ++ line ∷ []) ≡ names_in lines
names_in-other [] line none = none
names_in-other (Separator ∷ lines) line none = names_in-other lines line none
names_in-other (Comment ∷ lines) line none = names_in-other lines line none
names_in-other (Continuation a t ∷ lines) line none = names_in-other lines line none
names_in-other (Named a n t ∷ lines) line none = ap (λ (names : List (List ℕ)). n ∷ names) (names_in-other lines line none)
names_in-other (Unknown a ∷ lines) line none = names_in-other lines line none

names_of-add_line : (fields : List Field) (text : List ℕ) → names_of (add_line fields text) ≡ names_of fields
names_of-add_line [] text = refl
names_of-add_line (field ∷ []) text = refl
names_of-add_line (field ∷ next ∷ more) text = ap (λ (names : List (List ℕ)). field.name ∷ names) (names_of-add_line (next ∷ more) text)

abbrev others_behind : List Line → Line → Type 0
others_behind past line = names_behind (past ++ line ∷ []) ≡ names_behind past

stays : (past : List Line) (line : Line) → is_separator line ≡ false → names_in (line ∷ []) ≡ [] → others_behind past line
stays past line inside none = ap names_in (after_last-no is_separator past line inside) ∙ names_in-other (after_last is_separator past) line none

names_behind-step : (past : List Line) (line : Line) (state : State) → names_behind past ≡ names_of state.fields → fault_at state.fields line ≡ None → names_behind (past ++ line ∷ []) ≡ names_of (step state line).fields
names_behind-step past Separator state e fine = ap names_in (after_last-yes is_separator past Separator refl)
names_behind-step past Comment state e fine = stays past Comment refl refl ∙ e
names_behind-step past (Continuation at text) state e fine = stays past (Continuation at text) refl refl ∙ e ∙ sym (names_of-add_line state.fields text)
names_behind-step past (Named at name text) state e fine =
    ap names_in (after_last-no is_separator past (Named at name text) refl) ∙ names_in-named (after_last is_separator past) at name text
    ∙ ap (λ (names : List (List ℕ)). names ++ name ∷ []) e ∙ sym (names_of-push state.fields (record { name = name; lines = text ∷ []; at = at }))
names_behind-step past (Unknown at) state e fine = absurd cc

-- ---- the fault of a line, and no other

same_name-told : (names : List (List ℕ)) (name : List ℕ) → has_name names name ≡ true → Any (λ other. IsSameName other name) names
same_name-told names name told =
    let any = Any-from_list_any (λ other. str_eq_ignore_ascii_case other name) names told in
    (any.0, any.1, any.2, any.3, (bytes_decides (str_to_ascii_lowercase any.1) (str_to_ascii_lowercase name)).0 any.4)

has_name-told : (names : List (List ℕ)) (name : List ℕ) → Any (λ other. IsSameName other name) names → has_name names name ≡ true
has_name-told names name any =
    list_any-from_Any (λ other. str_eq_ignore_ascii_case other name) names (any.0, any.1, any.2, any.3, (bytes_decides (str_to_ascii_lowercase any.1) (str_to_ascii_lowercase name)).1 any.4)

nil_from_empty : {X : Type 0} (xs : List X) → is_empty xs ≡ true → xs ≡ []
nil_from_empty [] e = refl
nil_from_empty (x ∷ xs) e = absurd cc

empty_from_names : (fields : List Field) → names_of fields ≡ [] → is_empty fields ≡ true
empty_from_names [] e = refl
empty_from_names (field ∷ fields) e = absurd cc

guarded : (b : Bool) (fault given : TextError) → cond b (Some fault) None ≡ Some given → (b ≡ true) × (given ≡ fault)
guarded true fault given e = (refl, cc)
guarded false fault given e = absurd cc

unguarded : (b : Bool) (fault : TextError) → cond b (Some fault) None ≡ None → b ≡ false
unguarded true fault e = absurd cc
unguarded false fault e = refl

fault_is : (past : List Line) (line : Line) (fields : List Field) (fault : TextError) → names_behind past ≡ names_of fields → fault_at fields line ≡ Some fault → IsFault past line fault
fault_is past Separator fields fault e faulty = absurd cc
fault_is past Comment fields fault e faulty = absurd cc
fault_is past (Continuation at text) fields fault e faulty =
    let g = guarded (is_empty fields) (Loose at) fault faulty in
    (g.1, e ∙ ap names_of (nil_from_empty fields g.0))
fault_is past (Named at name text) fields fault e faulty =
    let g = guarded (has_name (names_of fields) name) (Twice at) fault faulty in
    (g.1, subst (λ (names : List (List ℕ)). Any (λ other. IsSameName other name) names) (sym e) (same_name-told (names_of fields) name g.0))
fault_is past (Unknown at) fields fault e faulty = cc

is_allowed : (past : List Line) (line : Line) (fields : List Field) (fault : TextError) → names_behind past ≡ names_of fields → fault_at fields line ≡ None → IsFault past line fault → ⊥
is_allowed past Separator fields fault e fine h = h
is_allowed past Comment fields fault e fine h = h
is_allowed past (Continuation at text) fields fault e fine h =
    false≢true (sym (unguarded (is_empty fields) (Loose at) fine) ∙ empty_from_names fields (sym e ∙ h.1))
is_allowed past (Named at name text) fields fault e fine h =
    false≢true (sym (unguarded (has_name (names_of fields) name) (Twice at) fine) ∙ has_name-told (names_of fields) name (subst (λ (names : List (List ℕ)). Any (λ other. IsSameName other name) names) e h.1))
is_allowed past (Unknown at) fields fault e fine h = absurd cc

-- ---- all lines so far

-- where a line stands in a list with one more at the end
place_push : {X : Type 0} (xs : List X) (x : X) (before : List X) (y : X) (behind : List X) → xs ++ x ∷ [] ≡ before ++ y ∷ behind → ((before ≡ xs) × (y ≡ x)) ⊎ ((rest : List X) × (xs ≡ before ++ y ∷ rest))
place_push [] x [] y behind e = inl (refl, cc)
place_push [] x (b ∷ []) y behind e = absurd cc
place_push [] x (b ∷ c ∷ before) y behind e = absurd cc
place_push (z ∷ zs) x [] y behind e = let same : z ≡ y = cc in inr (zs, ap (λ w. w ∷ zs) same)
place_push {X} (z ∷ zs) x (b ∷ before) y behind e =
    let same : z ≡ b = cc in
    let rest : zs ++ x ∷ [] ≡ before ++ y ∷ behind = cc in
    elim (place_push zs x before y behind rest) [
      | inl here ↦ inl (λ i. sym same i ∷ here.0 i, here.1)
      | inr there ↦ inr (there.0, λ i. same i ∷ there.1 i)
    ]

AreAllowed-push : (past : List Line) (line : Line) → AreAllowed past → ((fault : TextError) → IsFault past line fault → ⊥) → AreAllowed (past ++ line ∷ [])
AreAllowed-push past line allowed fine before y behind fault split h =
    elim (place_push past line before y behind split) [
      | inl here ↦ fine fault (subst (λ (l : Line). IsFault past l fault) here.1 (subst (λ (p : List Line). IsFault p y fault) here.0 h))
      | inr there ↦ allowed before y there.0 fault there.1 h
    ]

AreAllowed-none : AreAllowed []
AreAllowed-none [] line behind fault e h = absurd cc
AreAllowed-none (b ∷ before) line behind fault e h = absurd cc

-- what a result says of the lines
abbrev Explains : List Line → Result (List Paragraph) TextError → Type 0
Explains lines (Ok paragraphs) = AreAllowed lines
Explains lines (Err fault) = IsFirstFault lines fault

explained : (lines past : List Line) (state : State) → names_behind past ≡ names_of state.fields → AreAllowed past → Explains (past ++ lines) (scan state lines)
unfolding scan
explained [] past state e allowed = subst AreAllowed (sym (append-nil past)) allowed
explained (line ∷ lines) past state e allowed =
    cases (fault_at state.fields line) refl
    (λ fine. explained lines (past ++ line ∷ []) (step state line) (names_behind-step past line state e fine) (AreAllowed-push past line allowed (λ fault. is_allowed past line state.fields fault e fine)))
  where
    cases : (o : Option TextError) → fault_at state.fields line ≡ o → (fault_at state.fields line ≡ None → Explains ((past ++ line ∷ []) ++ lines) (scan (step state line) lines))
        → Explains (past ++ line ∷ lines) (unless o (scan (step state line) lines))
    cases None fine then = subst (λ (all : List Line). Explains all (scan (step state line) lines)) (append_assoc past (line ∷ []) lines) (then fine)
    cases (Some fault) faulty then = record { before = past; line = line; behind = lines; split = refl; refused = fault_is past line state.fields fault e faulty; allowed = allowed }

pub explains : (result : Result (List Paragraph) TextError) (lines : List Line) → (result ≡ Err NoMemory) ⊎ (result ≡ scan start lines) → OnOk result (AreAllowed lines) × IfErr result (λ fault. (fault ≡ NoMemory) ⊎ IsFirstFault lines fault)
explains (Ok paragraphs) lines (inl memory) = absurd cc
explains (Ok paragraphs) lines (inr is) = (subst (Explains lines) (sym is) (explained lines [] start refl AreAllowed-none), tt)
explains (Err fault) lines (inl memory) = (tt, inl cc)
explains (Err fault) lines (inr is) = (tt, inr (subst (Explains lines) (sym is) (explained lines [] start refl AreAllowed-none)))
