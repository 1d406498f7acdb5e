-- A text is read exactly where each of its items is, and else refused for the first that isn't.
use Rattle.std.proofs.Common.{◌≡◌, ◌∙◌, ℕ, ◌<◌, ◌≤◌, ◌⊎◌, inl, inr, true, List, [], ◌∷◌, ◌++◌, length, nat_lt, Result, Ok, Err, refl, sym, ap, arith}
use Rattle.std.specs.Prelude.{is_ok, IsOk, IfOk, IfErr}
use Rattle.std.specs.List.{flat_map, AllByRecursion}
use Rattle.std.proofs.lemmas.Bool.{cases_Bool}
use Rattle.std.proofs.lemmas.Bool.Decides.{nat_tests}
use Rattle.deb822_text.specs.Control.{paragraphs_of}
use Rattle.deb822_text.specs.declared.error.TextError.{TextError}
use Rattle.deb822_text.specs.declared.paragraph.Paragraph.{Paragraph}
use Rattle.source_lists.specs.declared.entry.Entry.{Entry}
use Rattle.source_lists.specs.declared.error.ListError.{ListError}
use Rattle.source_lists.specs.declared.error.ListError.TheVariants.{LongFile, NoMemory}
use Rattle.source_lists.specs.OneLine.{line_entries}
use Rattle.source_lists.specs.Refused.{refusal_of_text}
use Rattle.source_lists.specs.Stanzas.{stanza_entries}
use Rattle.source_lists.specs.Steps.{◌>>=◌, each}
use Rattle.source_lists.specs.Texts.{joined, given, all_entries, numbered_lines, list_entries, sources_entries, entries_of_stanzas, AreRead, IsFirstRefused, IsListRefusal, AreSources, IsTextRefused, IsStanzaRefused, IsSourcesRefusal}
use Rattle.source_lists.proofs.Loops.{Gives, worked}

pub bind_ok : {A B : Type 0} (read : Result A ListError) (f : A → Result B ListError) (y : B) → (read >>= f) ≡ Ok y → (x : A) × (read ≡ Ok x) × (f x ≡ Ok y)
bind_ok (Ok x) f y e = (x, refl, e)
bind_ok (Err refusal) f y e = absurd (cc)

bind_err : {A B : Type 0} (read : Result A ListError) (f : A → Result B ListError) (refusal : ListError) → (read >>= f) ≡ Err refusal → (read ≡ Err refusal) ⊎ ((x : A) × (read ≡ Ok x) × (f x ≡ Err refusal))
bind_err (Ok x) f refusal e = inr (x, refl, e)
bind_err {B} (Err other) f refusal e = let same : other ≡ refusal = cc in inl (ap Err same)

ok_is : {A : Type 0} (read : Result A ListError) (x : A) → read ≡ Ok x → IsOk read
ok_is read x e = ap is_ok e

-- ---- each item

all_read : {X : Type 0} (read : X → Result (List Entry) ListError) (items : List X) (found : List (List Entry)) → each read items ≡ Ok found → AllByRecursion (λ item. IsOk (read item)) items × (joined found ≡ flat_map (λ item. given (read item)) items)
unfolding each
all_read read [] found e = let none : found ≡ [] = cc in (tt, ap joined none)
all_read read (x ∷ xs) found e =
    let first = bind_ok (read x) _ found e in
    let rest = bind_ok (each read xs) _ found first.2 in
    let others = all_read read xs rest.0 rest.1 in
    let same : found ≡ first.0 ∷ rest.0 = cc in
    ((ok_is (read x) first.0 first.1, others.0), ap joined same ∙ ap (λ t. first.0 ++ t) others.1 ∙ ap (λ t. given t ++ flat_map (λ item. given (read item)) xs) (sym first.1))

first_refused : {X : Type 0} (read : X → Result (List Entry) ListError) (items : List X) (refusal : ListError) → each read items ≡ Err refusal → IsFirstRefused read items refusal
unfolding each
first_refused read [] refusal e = absurd (cc)
first_refused {X} read (x ∷ xs) refusal e =
    elim (bind_err (read x) _ refusal e) [
      | inl here ↦ record { before = []; item = x; behind = xs; split = refl; refused = here; allowed = tt }
      | inr first ↦
          elim (bind_err (each read xs) _ refusal first.2) [
            | inl later ↦
                let i = first_refused read xs refusal later in
                record { before = x ∷ i.before; item = i.item; behind = i.behind; split = ap (λ (t : List X). x ∷ t) i.split; refused = i.refused; allowed = (ok_is (read x) first.0 first.1, i.allowed) }
            | inr none ↦ let bad = none.2 in absurd (cc)
          ]
    ]

-- ---- the whole

pub are_read : {X : Type 0} (read : X → Result (List Entry) ListError) (items : List X) (entries : List Entry) → all_entries read items ≡ Ok entries → AreRead read items entries
unfolding all_entries
are_read read items entries e =
    let found = bind_ok (each read items) _ entries e in
    let all = all_read read items found.0 found.1 in
    let same : entries ≡ joined found.0 = cc in
    record { all = all.0; same = same ∙ all.1 }

pub is_first_refused : {X : Type 0} (read : X → Result (List Entry) ListError) (items : List X) (refusal : ListError) → all_entries read items ≡ Err refusal → IsFirstRefused read items refusal
unfolding all_entries
is_first_refused read items refusal e =
    elim (bind_err (each read items) _ refusal e) [
      | inl here ↦ first_refused read items refusal here
      | inr none ↦ let bad = none.2 in absurd (cc)
    ]

-- ---- texts

pub list_read : (file arch bytes : List ℕ) (result : Result (List Entry) ListError) → Gives result (list_entries file arch bytes) → IfOk result (AreRead (line_entries file arch) (numbered_lines bytes))
unfolding list_entries
list_read file arch bytes (Err refusal) given = tt
list_read file arch bytes (Ok entries) given =
    let read = worked entries (list_entries file arch bytes) given in
    elim (cases_Bool (nat_lt 1048576 (length bytes))) [
      | inl long ↦ let bad = rw long at read in absurd (cc)
      | inr short ↦ are_read (line_entries file arch) (numbered_lines bytes) entries (rw short at read)
    ]

pub list_refused : (file arch bytes : List ℕ) (result : Result (List Entry) ListError) → Gives result (list_entries file arch bytes) → IfErr result (IsListRefusal file arch bytes)
unfolding list_entries
list_refused file arch bytes (Ok entries) given = tt
list_refused file arch bytes (Err refusal) (inl memory) = let same : refusal ≡ NoMemory = cc in inl same
list_refused file arch bytes (Err refusal) (inr read) =
    elim (cases_Bool (nat_lt 1048576 (length bytes))) [
      | inl long ↦ let is = rw long at read in let same : refusal ≡ LongFile = cc in let above : 1048576 < length bytes = grind (arith, nat_tests) in inr (inl (above, same))
      | inr short ↦ let below : length bytes ≤ 1048576 = grind (arith, nat_tests) in inr (inr (below, is_first_refused (line_entries file arch) (numbered_lines bytes) refusal (sym (rw short at read))))
    ]

stanzas_read : (file arch bytes : List ℕ) (text : Result (List Paragraph) TextError) (entries : List Entry) → paragraphs_of bytes true ≡ text → entries_of_stanzas file arch text ≡ Ok entries → AreSources file arch bytes entries
stanzas_read file arch bytes (Ok stanzas) entries is read = record { stanzas = stanzas; text = is; read = are_read (stanza_entries file arch) stanzas entries read }
stanzas_read file arch bytes (Err fault) entries is read = absurd (cc)

stanzas_refused : (file arch bytes : List ℕ) (text : Result (List Paragraph) TextError) (refusal : ListError) → paragraphs_of bytes true ≡ text → entries_of_stanzas file arch text ≡ Err refusal → IsTextRefused bytes refusal ⊎ IsStanzaRefused file arch bytes refusal
stanzas_refused file arch bytes (Ok stanzas) refusal is read = inr (record { stanzas = stanzas; text = is; first = is_first_refused (stanza_entries file arch) stanzas refusal read })
stanzas_refused file arch bytes (Err fault) refusal is read = let same : refusal ≡ refusal_of_text fault = cc in inl (record { fault = fault; text = is; same = same })

pub sources_read : (file arch bytes : List ℕ) (result : Result (List Entry) ListError) → Gives result (sources_entries file arch bytes) → IfOk result (AreSources file arch bytes)
unfolding sources_entries
sources_read file arch bytes (Err refusal) given = tt
sources_read file arch bytes (Ok entries) given =
    let read = worked entries (sources_entries file arch bytes) given in
    elim (cases_Bool (nat_lt 1048576 (length bytes))) [
      | inl long ↦ let bad = rw long at read in absurd (cc)
      | inr short ↦ stanzas_read file arch bytes (paragraphs_of bytes true) entries refl (rw short at read)
    ]

pub sources_refused : (file arch bytes : List ℕ) (result : Result (List Entry) ListError) → Gives result (sources_entries file arch bytes) → IfErr result (IsSourcesRefusal file arch bytes)
unfolding sources_entries
sources_refused file arch bytes (Ok entries) given = tt
sources_refused file arch bytes (Err refusal) (inl memory) = let same : refusal ≡ NoMemory = cc in inl same
sources_refused file arch bytes (Err refusal) (inr read) =
    elim (cases_Bool (nat_lt 1048576 (length bytes))) [
      | inl long ↦ let is = rw long at read in let same : refusal ≡ LongFile = cc in let above : 1048576 < length bytes = grind (arith, nat_tests) in inr (inl (above, same))
      | inr short ↦ let below : length bytes ≤ 1048576 = grind (arith, nat_tests) in inr (inr (below, stanzas_refused file arch bytes (paragraphs_of bytes true) refusal refl (sym (rw short at read))))
    ]
