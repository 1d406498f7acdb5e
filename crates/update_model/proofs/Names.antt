-- The patches by which an Index leads have names.
use Rattle.std.proofs.Common.{◌≡◌, ℕ, ◌==◌, ◌||◌, true, false, Bool, List, [], ◌∷◌, ◌++◌, length, Option, Some, None, Result, Ok, Err, option_and_then, option_to_list, refl, ap, ◌∙◌, subst, if◌then◌else◌}
use Rattle.std.specs.List.{AllByRecursion as Each}
use Rattle.std.specs.Result.{result_ok}
use Rattle.acq_base.specs.Sum.{sum_of}
use Rattle.acq_base.specs.Words.{words, is_blank}
use Rattle.acq_base.specs.declared.sum.Sum.{Sum}
use Rattle.pdiff_index.specs.Chain.{same_sum, or_lines, entry_on, sum_named, put_first, patches_of, lines_used, are_too_many, are_too_large, limited, links_from, links}
use Rattle.pdiff_index.specs.Index.{is_name, step_as, step_of_words, step_of_line, line_below, may_stand, steps_below, steps_of, steps_part, refused_line, lesser, unless_refused, completed, index_of_parts, index_of_fields, index_of_paragraphs, index_of_text, index_of}
use Rattle.pdiff_index.specs.declared.error.IndexError.{IndexError}
use Rattle.pdiff_index.specs.declared.error.NoChain.{NoChain}
use Rattle.pdiff_index.specs.declared.error.NoChain.TheVariants.{Limit, WrongCurrent}
use Rattle.pdiff_index.specs.declared.index.Index.{Index}
use Rattle.pdiff_index.specs.declared.index.Step.{Step}
use Rattle.update_model.specs.Wanted.{chain}
use Rattle.update_model.specs.declared.wanted.Wanted.{Wanted}

abbrev pub IsNamed : Step → Type 0
IsNamed step = is_name step.name ≡ true

each-append : (xs ys : List Step) → Each IsNamed xs → Each IsNamed ys → Each IsNamed (xs ++ ys)
each-append [] ys a b = b
each-append (x ∷ xs) ys a b = (a.0, each-append xs ys a.1 b)

-- ---- lines

as-named : (name : List ℕ) (sum : Option Sum) → Each IsNamed (option_to_list (step_as name sum))
as-named name None = tt
as-named name (Some sum) = look (is_name name) refl
  where
    look : (b : Bool) → is_name name ≡ b → Each IsNamed (option_to_list (if b then Some (record { sum = sum; name = name }) else None))
    look true is = (is, tt)
    look false is = tt

words-named : (ws : List (List ℕ)) → Each IsNamed (option_to_list (step_of_words ws))
words-named [] = tt
words-named (a ∷ []) = tt
words-named (a ∷ b ∷ []) = tt
words-named (a ∷ b ∷ c ∷ []) = as-named c _
words-named (a ∷ b ∷ c ∷ d ∷ ws) = tt

line-named : (line : List ℕ) → Each IsNamed (option_to_list (step_of_line line))
unfolding step_of_line
line-named line = words-named (words is_blank line)

below-named : (once : Bool) (above : List Step) (at : ℕ) (lines : List (List ℕ)) (steps : List Step) → Each IsNamed above → steps_below once above at lines ≡ Ok steps → Each IsNamed steps
below-named once above at [] steps named h = let same : above ≡ steps = cc in subst (Each IsNamed) same named
below-named once above at (line ∷ lines) steps named h =
    look (may_stand once above (step_of_line line)) h
    (λ e. below-named once (above ++ option_to_list (step_of_line line)) (line_below at) lines steps (each-append above (option_to_list (step_of_line line)) named (line-named line)) e)
  where
    look : (b : Bool) → (if b then steps_below once (above ++ option_to_list (step_of_line line)) (line_below at) lines else Err at) ≡ Ok steps
        → (steps_below once (above ++ option_to_list (step_of_line line)) (line_below at) lines ≡ Ok steps → Each IsNamed steps) → Each IsNamed steps
    look true h more = more h
    look false h more = absurd (cc)

steps-named : (once : Bool) (lines : List (List ℕ)) (at : ℕ) (steps : List Step) → steps_of once lines at ≡ Ok steps → Each IsNamed steps
unfolding steps_of
steps-named once [] at steps h = absurd (cc)
steps-named once (first ∷ lines) at steps h = look (length first == 0) h
  where
    look : (b : Bool) → (if b then steps_below once [] (line_below at) lines else Err at) ≡ Ok steps → Each IsNamed steps
    look true h = below-named once [] (line_below at) lines steps tt h
    look false h = absurd (cc)

-- ---- an Index

-- its history is what the field says
parts-history : (current : Option (Result Sum ℕ)) (history patches : Option (Result (List Step) ℕ)) (merged : Bool) (index : Index)
    → index_of_parts current history patches merged ≡ Ok index → history ≡ Some (Ok index.history)
parts-history current history patches merged index h = look (lesser (refused_line current) (lesser (refused_line history) (refused_line patches))) h
  where
    whole : (c : Option (Result Sum ℕ)) (i p : Option (Result (List Step) ℕ)) → completed c i p merged ≡ Ok index → i ≡ Some (Ok index.history)
    whole (Some (Ok a)) (Some (Ok b)) (Some (Ok c)) h = let same : b ≡ index.history = ap history_in h in ap (λ x. Some (Ok x)) same
      where
        history_in : Result Index IndexError → List Step
        history_in (Ok found) = found.history
        history_in (Err e) = []
    whole None i p h = absurd (cc)
    whole (Some (Err a)) i p h = absurd (cc)
    whole (Some (Ok a)) None p h = absurd (cc)
    whole (Some (Ok a)) (Some (Err b)) p h = absurd (cc)
    whole (Some (Ok a)) (Some (Ok b)) None h = absurd (cc)
    whole (Some (Ok a)) (Some (Ok b)) (Some (Err c)) h = absurd (cc)

    look : (o : Option ℕ) → unless_refused o (completed current history patches merged) ≡ Ok index → history ≡ Some (Ok index.history)
    look None h = whole current history patches h
    look (Some at) h = absurd (cc)

-- what a function of a value by cases comes to
of-result : {X E : Type 0} (t : Result X E) (f : Result X E → Result Index IndexError) (index : Index) (G : Type 0)
    → ((x : X) → f (Ok x) ≡ Ok index → G) → ((e : E) → f (Err e) ≡ Ok index → G) → f t ≡ Ok index → G
of-result (Ok x) f index G ok err h = ok x h
of-result (Err e) f index G ok err h = err e h

of-list : {X : Type 0} (xs : List X) (f : List X → Result Index IndexError) (index : Index) (G : Type 0)
    → (f [] ≡ Ok index → G) → ((x : X) → f (x ∷ []) ≡ Ok index → G) → ((x y : X) (more : List X) → f (x ∷ y ∷ more) ≡ Ok index → G) → f xs ≡ Ok index → G
of-list [] f index G none one many h = none h
of-list (x ∷ []) f index G none one many h = one x h
of-list (x ∷ y ∷ more) f index G none one many h = many x y more h

of-option : {X : Type 0} (o : Option X) (f : Option X → Option (Result (List Step) ℕ)) (steps : List Step) (G : Type 0)
    → (f None ≡ Some (Ok steps) → G) → ((x : X) → f (Some x) ≡ Some (Ok steps) → G) → f o ≡ Some (Ok steps) → G
of-option None f steps G none some h = none h
of-option (Some x) f steps G none some h = some x h

part-named : (lines : List (List ℕ)) (at : ℕ) (steps : List Step) → Some (steps_of false lines at) ≡ Some (Ok steps) → Each IsNamed steps
part-named lines at steps h = let is : steps_of false lines at ≡ Ok steps = cc in steps-named false lines at steps is

history-named : (bytes : List ℕ) (index : Index) → index_of bytes ≡ Ok index → Each IsNamed index.history
unfolding index_of index_of_paragraphs index_of_fields steps_part
history-named bytes index h =
    of-result _ index_of_text index (Each IsNamed index.history)
    (λ paragraphs k. of-list paragraphs index_of_paragraphs index (Each IsNamed index.history) (λ e. absurd (cc))
    (λ paragraph e. of-option _ (steps_part false) index.history (Each IsNamed index.history) (λ n. absurd (cc)) (λ field s. part-named field.lines field.at index.history s)
    (parts-history _ _ _ _ index e))
    (λ x y more e. absurd (cc)) k)
    (λ e k. absurd (cc)) h

-- ---- the links

entry-named : (history : List Step) (have : Sum) (lines : List Step) → Each IsNamed history → entry_on history have ≡ Some lines → Each IsNamed lines
entry-named [] have lines named h = absurd (cc)
entry-named (line ∷ history) have lines named h = look (entry_on history have) refl (same_sum line.sum have) h (λ e. entry-named history have lines named.1 e)
  where
    look : (o : Option (List Step)) → entry_on history have ≡ o → (b : Bool) → or_lines o (if b then Some (line ∷ history) else None) ≡ Some lines
        → (entry_on history have ≡ Some lines → Each IsNamed lines) → Each IsNamed lines
    look (Some found) e b h more = more (e ∙ h)
    look None e true h more = let same : line ∷ history ≡ lines = cc in subst (Each IsNamed) same named
    look None e false h more = absurd (cc)

patches-named : (patches lines steps : List Step) → Each IsNamed lines → patches_of patches lines ≡ Ok steps → Each IsNamed steps
patches-named patches [] steps named h = let same : [] ≡ steps = cc in subst (Each IsNamed) same tt
patches-named patches (line ∷ lines) steps named h = look (sum_named patches line.name) (patches_of patches lines) refl h (λ rest e. patches-named patches lines rest named.1 e)
  where
    look : (o : Option Sum) (r : Result (List Step) NoChain) → patches_of patches lines ≡ r → put_first o line.name r ≡ Ok steps
        → ((rest : List Step) → patches_of patches lines ≡ Ok rest → Each IsNamed rest) → Each IsNamed steps
    look None r e h more = absurd (cc)
    look (Some sum) (Ok rest) e h more =
        let first : Step = record { sum = sum; name = line.name } in
        let same : first ∷ rest ≡ steps = cc in subst (Each IsNamed) same (named.0, more rest e)
    look (Some sum) (Err cause) e h more = absurd (cc)

used-named : (merged : Bool) (lines : List Step) → Each IsNamed lines → Each IsNamed (lines_used merged lines)
used-named merged [] named = tt
used-named true (line ∷ lines) named = (named.0, tt)
used-named false (line ∷ lines) named = named

limited-ok : (file_limit size_limit : ℕ) (want : Sum) (r : Result (List Step) NoChain) (steps : List Step) → limited file_limit size_limit want r ≡ Ok steps → r ≡ Ok steps
limited-ok file_limit size_limit want (Ok patches) steps h = look (are_too_many file_limit patches || are_too_large size_limit want.size patches) h
  where
    kept : Result (List Step) NoChain
    kept = Ok patches

    look : (b : Bool) → (if b then Err Limit else kept) ≡ Ok steps → kept ≡ Ok steps
    look true h = absurd (cc)
    look false h = h
limited-ok file_limit size_limit want (Err cause) steps h = absurd (cc)

from-named : (index : Index) (o : Option (List Step)) (want : Sum) (file_limit size_limit : ℕ) (steps : List Step)
    → ((lines : List Step) → o ≡ Some lines → Each IsNamed lines) → links_from index o want file_limit size_limit ≡ Ok steps → Each IsNamed steps
unfolding links_from
from-named index None want file_limit size_limit steps named h = absurd (cc)
from-named index (Some lines) want file_limit size_limit steps named h =
    patches-named index.patches (lines_used index.merged lines) steps (used-named index.merged lines (named lines refl))
    (limited-ok file_limit size_limit want (patches_of index.patches (lines_used index.merged lines)) steps h)

links-named : (index : Index) (have want : Sum) (file_limit size_limit : ℕ) (steps : List Step) → Each IsNamed index.history
    → links index have want file_limit size_limit ≡ Ok steps → Each IsNamed steps
unfolding links
links-named index have want file_limit size_limit steps named h = look (same_sum index.current want) h
  where
    look : (b : Bool) → (if b then links_from index (entry_on index.history have) want file_limit size_limit else Err WrongCurrent) ≡ Ok steps → Each IsNamed steps
    look true h = from-named index (entry_on index.history have) want file_limit size_limit steps (λ lines e. entry-named index.history have lines named e) h
    look false h = absurd (cc)

-- what is Some is Ok
result-some : {X E : Type 0} (r : Result X E) (x : X) → result_ok r ≡ Some x → r ≡ Ok x
result-some (Ok y) x h = let same : y ≡ x = cc in ap (λ z. Ok z) same
result-some (Err e) x h = absurd (cc)

pub chain-named : (w : Wanted) (file bytes : List ℕ) (steps : List Step) → chain w file bytes ≡ Some steps → Each IsNamed steps
chain-named w file bytes steps h = look (index_of bytes) refl h
  where
    look : (r : Result Index IndexError) → index_of bytes ≡ r
        → option_and_then (λ index. result_ok (links index (sum_of file) w.sum w.file_limit w.size_limit)) (result_ok r) ≡ Some steps → Each IsNamed steps
    look (Err e) is h = absurd (cc)
    look (Ok index) is h =
        links-named index (sum_of file) w.sum w.file_limit w.size_limit steps (history-named bytes index is)
        (result-some (links index (sum_of file) w.sum w.file_limit w.size_limit) steps h)
