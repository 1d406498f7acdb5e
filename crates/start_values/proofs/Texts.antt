-- When words are text.
use Rattle.std.proofs.Common.{◌≡◌, ◌<◌, subst, ℕ, List, length, get_or, map, All, Err, IsUtf8, String, string_bytes}
use Rattle.std.specs.Global.{Global}
use Rattle.std.proofs.lemmas.List.Elements.{All-map}
use Rattle.std.proofs.lemmas.Str.{IsUtf8-string_bytes}
use Rattle.start_values.specs.Environment.{IsWords}
use Rattle.start_values.specs.MemEnvironment.{IsText}
use Rattle.start_values.specs.declared.environment.Unread.{Unread}
use Rattle.start_values.specs.declared.environment.Unread.TheVariants.{NotText, NoMemory}

pub words_of_texts : (texts : List (String Global)) (words : List (List ℕ)) → map string_bytes texts ≡ words → All IsUtf8 words
words_of_texts texts words same =
    subst (λ (all : List (List ℕ)). All IsUtf8 all) same (All-map IsUtf8 string_bytes texts (λ i d within. IsUtf8-string_bytes (get_or texts i d)))

-- what one word is refused for, all are
pub refused_by_one : (words : List (List ℕ)) (i : ℕ) (word : List ℕ) (unread : Unread) → i < length words → get_or words i word ≡ word → IsText word (Err unread) → IsWords words (Err unread)
refused_by_one words i word NotText within is none = λ all. none (subst (λ (w : List ℕ). IsUtf8 w) is (all i word within))
refused_by_one words i word NoMemory within is none = tt
