-- A text that is read only up to one byte behind the limit is refused or accepted as the whole one is.
use Rattle.std.proofs.Common.{◌≡◌, ◌∙◌, refl, sym, ap, subst, inl, inr, ◌⊎◌, arith, ℕ, ◌<◌, ◌≤◌, List, length, take, [], Option, Some, None, Result, Err}
use Rattle.std.specs.Prelude.{IfSome, option_map, unwrap_or}
use Rattle.std.proofs.lemmas.Bool.{cases_lt, lt-ltb}
use Rattle.std.proofs.lemmas.List.{take_all, length-take-le}
use Rattle.acq_outside.specs.Etc.{EtcFiles, bytes_at}
use Rattle.acq_outside.specs.declared.etc.Place.{Place}
use Rattle.apt_conf.specs.Reading.{pairs_of}
use Rattle.apt_conf.specs.declared.error.ConfError.TheVariants as conf
use Rattle.source_lists.specs.declared.error.ListError.TheVariants as list
use Rattle.source_lists.specs.declared.files.Form.{Form}
use Rattle.source_lists.specs.declared.files.Form.TheVariants.{List as OneLine, Sources}
use Rattle.source_lists.specs.Texts.{list_entries, sources_entries}
use Rattle.configuration.specs.declared.error.ConfigurationError.{ConfigurationError}
use Rattle.configuration.specs.Answers.{Adds, AddsText, IsOutside, IsText}
use Rattle.configuration.specs.Configured.{entries_by}
use Rattle.configuration.specs.Folder.{text_at}

-- what was read of a text
abbrev pub IsFront : List ℕ → List ℕ → Type 0
IsFront bytes text = (bytes ≡ take 1048577 text) ⊎ (bytes ≡ text)

front_same : {A : Type 0} (f : List ℕ → A) (long : A) → ((t : List ℕ) → 1048576 < length t → f t ≡ long) → (bytes text : List ℕ) → IsFront bytes text → f bytes ≡ f text
front_same f long all bytes text (inr same) = ap f same
front_same f long all bytes text (inl front) = go (cases_lt 1048576 (length text))
  where
    go : (1048576 < length text) ⊎ (length text ≤ 1048576) → f bytes ≡ f text
    go (inl above) =
        let cut : length (take 1048577 text) ≡ 1048577 = length-take-le 1048577 text (omega arith) in
        ap f front ∙ all (take 1048577 text) (omega arith) ∙ sym (all text above)
    go (inr below) = ap f (front ∙ take_all 1048577 text (omega arith))

conf_long : (t : List ℕ) → 1048576 < length t → pairs_of t ≡ Err conf.LongFile
unfolding pairs_of
conf_long t above = rw (lt-ltb 1048576 (length t) above) refl

list_long : (file arch t : List ℕ) → 1048576 < length t → list_entries file arch t ≡ Err list.LongFile
unfolding list_entries
list_long file arch t above = rw (lt-ltb 1048576 (length t) above) refl

sources_long : (file arch t : List ℕ) → 1048576 < length t → sources_entries file arch t ≡ Err list.LongFile
unfolding sources_entries
sources_long file arch t above = rw (lt-ltb 1048576 (length t) above) refl

pub front_conf : (bytes text : List ℕ) → IsFront bytes text → pairs_of bytes ≡ pairs_of text
front_conf bytes text front = front_same pairs_of (Err conf.LongFile) conf_long bytes text front

pub front_list : (form : Option Form) (file arch bytes text : List ℕ) → IsFront bytes text → entries_by form file arch bytes ≡ entries_by form file arch text
front_list (Some OneLine) file arch bytes text front = front_same (list_entries file arch) (Err list.LongFile) (list_long file arch) bytes text front
front_list (Some Sources) file arch bytes text front = front_same (sources_entries file arch) (Err list.LongFile) (sources_long file arch) bytes text front
front_list None file arch bytes text front = refl

-- ---- one file

told_text : (told : Option EtcFiles) (place : Place) (name bytes : List ℕ) → IfSome told (λ files. bytes ≡ take 1048577 (text_at files place name)) → (text : List ℕ) × IsText told place name text × IsFront bytes text
told_text (Some files) place name bytes is = (text_at files place name, refl, inl is)
told_text None place name bytes is = (bytes, tt, inr refl)

pub some_text : (told : Option EtcFiles) (place : Place) (name : List ℕ) → (text : List ℕ) × IsText told place name text
some_text (Some files) place name = (text_at files place name, refl)
some_text None place name = ([], tt)

-- a file that was read adds what its whole text gives
pub file_adds : {X : Type 0} (told : Option EtcFiles) (place : Place) (name bytes : List ℕ) (read : List ℕ → Result (List X) ConfigurationError) (before after : List X) (result : Result (Unit {0}) ConfigurationError)
    → IfSome told (λ files. bytes ≡ take 1048577 (text_at files place name))
    → ((text : List ℕ) → IsFront bytes text → read bytes ≡ read text) → Adds (read bytes) before after result → AddsText told place name read before after result
file_adds {X} told place name bytes read before after result is front adds =
    let found = told_text told place name bytes is in
    (found.0, found.1, subst (λ (r : Result (List X) ConfigurationError). Adds r before after result) (front found.0 found.2) adds)

-- one that couldn't be read adds nothing
pub file_fails : {X : Type 0} (told : Option EtcFiles) (place : Place) (name : List ℕ) (read : List ℕ → Result (List X) ConfigurationError) (before after : List X) (refusal : ConfigurationError)
    → IsOutside refusal → AddsText told place name read before after (Err refusal)
file_fails told place name read before after refusal outside =
    let found = some_text told place name in (found.0, found.1, inl outside)

-- the bytes of a file that is read, or none where it isn't there
pub front_of_file : (told : Option EtcFiles) (place : Place) (name text : List ℕ) (bytes : Option (List ℕ)) → IfSome told (λ all. bytes ≡ option_map (take 1048577) (bytes_at all place name)) → text ≡ unwrap_or bytes []
    → IfSome told (λ files. text ≡ take 1048577 (text_at files place name))
front_of_file None place name text bytes is same = tt
front_of_file (Some all) place name text bytes is same = same ∙ ap (λ (b : Option (List ℕ)). unwrap_or b []) is ∙ go (bytes_at all place name)
  where
    go : (b : Option (List ℕ)) → unwrap_or (option_map (take 1048577) b) [] ≡ take 1048577 (unwrap_or b [])
    go (Some whole) = refl
    go None = sym (take_all 1048577 [] (omega arith))
