-- Options word by word: what was said so far, unless a later word says it again.
use Rattle.std.proofs.Common.{◌≡◌, ◌∙◌, ℕ, ◌+◌, ◌<◌, ◌≤◌, List, [], ◌∷◌, length, drop, get_or, false, Option, Some, None, Result, Ok, Err, refl, sym, ap, arith}
use Rattle.std.proofs.lemmas.List.{drop_all}
use Rattle.source_lists.specs.declared.error.ListError.{ListError}
use Rattle.source_lists.specs.declared.options.Choice.{Choice}
use Rattle.source_lists.specs.declared.options.Options.{Options}
use Rattle.source_lists.specs.OneLine.{archs_in, hashes_in, patches_in, later, last_said, options_in, options_at, choice_at, with_choice, has_operator}
use Rattle.source_lists.specs.Steps.{◌>>=◌, each}
use Rattle.source_lists.proofs.Loops.{item_at}

-- an operator has two bytes
pub no_operator : (text : List ℕ) → length text < 2 → has_operator text ≡ false
unfolding has_operator
no_operator [] short = refl
no_operator (c ∷ []) short = refl
no_operator (c ∷ d ∷ rest) short = absurd (omega arith)

-- what is said, and else what was said before
abbrev pub over : Options → Options → Options
over options before = record {
  archs = later options.archs before.archs;
  by_hash = later options.by_hash before.by_hash;
  pdiffs = later options.pdiffs before.pdiffs;
}

abbrev pub none_said : Options
none_said = record { archs = None; by_hash = None; pdiffs = None }

abbrev pub with_options : Options → Result (List Choice) ListError → Result Options ListError
with_options before read = read >>= λ choices. Ok (over (options_in choices) before)

later-none : {A : Type 0} (value : Option A) → later value None ≡ value
later-none None = refl
later-none (Some value) = refl

later-later : {A : Type 0} (last next first : Option A) → later (later last next) first ≡ later last (later next first)
later-later None next first = refl
later-later (Some last) next first = refl

over-none : (options : Options) → over options none_said ≡ options
over-none options = rw (later-none options.archs, later-none options.by_hash, later-none options.pdiffs) refl

over-push : (choices : List Choice) (choice : Choice) (before : Options) → over (options_in (choice ∷ choices)) before ≡ over (options_in choices) (with_choice before choice)
unfolding options_in
over-push choices choice before =
    rw (later-later (last_said archs_in choices) (archs_in choice) before.archs, later-later (last_said hashes_in choices) (hashes_in choice) before.by_hash, later-later (last_said patches_in choices) (patches_in choice) before.pdiffs) refl

options-none : (read : Result (List Choice) ListError) → (read >>= λ choices. Ok (options_in choices)) ≡ with_options none_said read
options-none (Ok choices) = ap Ok (sym (over-none (options_in choices)))
options-none (Err refusal) = refl

options-push : (before : Options) (choice : Choice) (read : Result (List Choice) ListError) → with_options before (read >>= λ choices. Ok (choice ∷ choices)) ≡ with_options (with_choice before choice) read
options-push before choice (Ok choices) = ap Ok (over-push choices choice before)
options-push before choice (Err refusal) = refl

pub begun : (at : ℕ) (words : List (List ℕ)) → options_at at words ≡ with_options none_said (each (choice_at at) words)
unfolding options_at
begun at words = options-none (each (choice_at at) words)

pub said : (at : ℕ) (whole : Result Options ListError) (before : Options) (words : List (List ℕ)) (i : ℕ) (word : List ℕ) (choice : Choice) → whole ≡ with_options before (each (choice_at at) (drop i words)) → i < length words → word ≡ get_or words i word → choice_at at word ≡ Ok choice → whole ≡ with_options (with_choice before choice) (each (choice_at at) (drop (i + 1) words))
unfolding each
said at whole before words i word choice so_far within is here =
    let rest = drop (i + 1) words in
    so_far ∙ ap (λ t. with_options before (each (choice_at at) t)) (item_at words i word within is) ∙ ap (λ r. with_options before (r >>= λ found. each (choice_at at) rest >>= λ others. Ok (found ∷ others))) here ∙ options-push before choice (each (choice_at at) rest)

pub refused : (at : ℕ) (whole : Result Options ListError) (before : Options) (words : List (List ℕ)) (i : ℕ) (word : List ℕ) (refusal : ListError) → whole ≡ with_options before (each (choice_at at) (drop i words)) → i < length words → word ≡ get_or words i word → choice_at at word ≡ Err refusal → whole ≡ Err refusal
unfolding each
refused at whole before words i word refusal so_far within is here =
    let rest = drop (i + 1) words in
    so_far ∙ ap (λ t. with_options before (each (choice_at at) t)) (item_at words i word within is) ∙ ap (λ r. with_options before (r >>= λ found. each (choice_at at) rest >>= λ others. Ok (found ∷ others))) here

over-nothing : (before : Options) → over (options_in []) before ≡ before
unfolding options_in
over-nothing before = refl

pub ended : (at : ℕ) (whole : Result Options ListError) (before : Options) (words : List (List ℕ)) (i : ℕ) → whole ≡ with_options before (each (choice_at at) (drop i words)) → length words ≤ i → whole ≡ Ok before
unfolding each
ended at whole before words i so_far past = so_far ∙ ap (λ t. with_options before (each (choice_at at) t)) (drop_all i words past) ∙ ap Ok (over-nothing before)
