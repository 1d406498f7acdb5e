-- The lines of a text in the one-line form, one after another.
use Rattle.std.proofs.Common.{◌≡◌, ◌∙◌, ℕ, ◌+◌, List, [], ◌∷◌, ◌++◌, length, Option, Some, None, Result, Ok, Err, sym, ap, arith}
use Rattle.std.specs.Prelude.{option_to_list}
use Rattle.std.specs.Str.Lines.{lines as text_lines}
use Rattle.std.proofs.lemmas.List.{append-nil}
use Rattle.source_lists.specs.declared.entry.Entry.{Entry}
use Rattle.source_lists.specs.declared.error.ListError.{ListError}
use Rattle.source_lists.specs.OneLine.{line_entry, line_entries}
use Rattle.source_lists.specs.Steps.{◌>>=◌, each}
use Rattle.source_lists.specs.Texts.{all_entries, numbered_from, numbered_lines}
use Rattle.source_lists.proofs.Loops.{with_entries, entries-nil, entries-step, entries-stop, entries-end}

abbrev rest_of : List ℕ → List ℕ → List Entry → ℕ → List ℕ → Result (List Entry) ListError
rest_of file arch entries at rest = with_entries entries (each (line_entries file arch) (numbered_from at (text_lines rest)))

line-read : (file arch : List ℕ) (at : ℕ) (line : List ℕ) (found : Option Entry) → line_entry file arch (at, line) ≡ Ok found → line_entries file arch (at, line) ≡ Ok (option_to_list found)
unfolding line_entries
line-read file arch at line found here = ap (λ r. r >>= λ entry. Ok (option_to_list entry)) here

line-refused : (file arch : List ℕ) (at : ℕ) (line : List ℕ) (refusal : ListError) → line_entry file arch (at, line) ≡ Err refusal → line_entries file arch (at, line) ≡ Err refusal
unfolding line_entries
line-refused file arch at line refusal here = ap (λ r. r >>= λ entry. Ok (option_to_list entry)) here

pub begun : (file arch bytes : List ℕ) → all_entries (line_entries file arch) (numbered_lines bytes) ≡ rest_of file arch [] 1 bytes
unfolding numbered_lines
begun file arch bytes = sym (entries-nil (line_entries file arch) (numbered_from 1 (text_lines bytes)))

first : (file arch : List ℕ) (whole : Result (List Entry) ListError) (entries : List Entry) (at : ℕ) (rest line behind : List ℕ) → whole ≡ rest_of file arch entries at rest → text_lines rest ≡ line ∷ text_lines behind
    → whole ≡ with_entries entries (each (line_entries file arch) ((at, line) ∷ numbered_from (at + 1) (text_lines behind)))
first file arch whole entries at rest line behind so_far lines =
    so_far ∙ ap (λ (ls : List (List ℕ)). with_entries entries (each (line_entries file arch) (numbered_from at ls))) lines

pub stops : (file arch : List ℕ) (whole : Result (List Entry) ListError) (entries : List Entry) (at : ℕ) (rest line behind : List ℕ) (refusal : ListError) → whole ≡ rest_of file arch entries at rest → text_lines rest ≡ line ∷ text_lines behind
    → line_entry file arch (at, line) ≡ Err refusal → whole ≡ Err refusal
stops file arch whole entries at rest line behind refusal so_far lines here =
    first file arch whole entries at rest line behind so_far lines ∙ entries-stop (line_entries file arch) entries (at, line) (numbered_from (at + 1) (text_lines behind)) refusal (line-refused file arch at line refusal here)

pub adds : (file arch : List ℕ) (whole : Result (List Entry) ListError) (entries : List Entry) (at : ℕ) (rest line behind : List ℕ) (entry : Entry) → whole ≡ rest_of file arch entries at rest → text_lines rest ≡ line ∷ text_lines behind
    → line_entry file arch (at, line) ≡ Ok (Some entry) → whole ≡ rest_of file arch (entries ++ entry ∷ []) (at + 1) behind
adds file arch whole entries at rest line behind entry so_far lines here =
    first file arch whole entries at rest line behind so_far lines ∙ entries-step (line_entries file arch) entries (entry ∷ []) (at, line) (numbered_from (at + 1) (text_lines behind)) (line-read file arch at line (Some entry) here)

pub passes : (file arch : List ℕ) (whole : Result (List Entry) ListError) (entries : List Entry) (at : ℕ) (rest line behind : List ℕ) → whole ≡ rest_of file arch entries at rest → text_lines rest ≡ line ∷ text_lines behind
    → line_entry file arch (at, line) ≡ Ok None → whole ≡ rest_of file arch entries (at + 1) behind
passes file arch whole entries at rest line behind so_far lines here =
    first file arch whole entries at rest line behind so_far lines ∙ entries-step (line_entries file arch) entries [] (at, line) (numbered_from (at + 1) (text_lines behind)) (line-read file arch at line None here)
    ∙ ap (λ es. rest_of file arch es (at + 1) behind) (append-nil entries)

pub ended : (file arch : List ℕ) (whole : Result (List Entry) ListError) (entries : List Entry) (at : ℕ) (rest : List ℕ) → whole ≡ rest_of file arch entries at rest → length rest ≡ 0 → whole ≡ Ok entries
ended file arch whole entries at [] so_far none = so_far ∙ entries-end (line_entries file arch) entries
ended file arch whole entries at (c ∷ rest) so_far none = absurd (omega arith)
