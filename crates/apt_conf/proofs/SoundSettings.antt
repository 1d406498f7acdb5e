-- Settings that are read are sound.
use Rattle.std.proofs.Common.{◌≡◌, ◌≢◌, ℕ, Bool, true, false, List, [], ◌∷◌, length, Option, Some, None, Result, Ok, Err, refl, sym, ap, ◌∙◌, codes}
use Rattle.std.specs.Prelude.{◌==◌, ◌&&◌, not, IfOk, option_map, bytes_eq, if◌then◌else◌}
use Rattle.std.specs.List.{All, list_all}
use Rattle.std.proofs.lemmas.Bool.{and_parts, cases_Bool}
use Rattle.std.proofs.lemmas.List.Elements.{All-nil, All-cons}
use Rattle.acq_base.specs.Settings.{is_architecture, is_language, IsArchitecture, IsLanguage, IsSound}
use Rattle.acq_base.specs.Words.{is_blank_or_comma, words}
use Rattle.acq_base.specs.declared.settings.Settings.{Settings}
use Rattle.apt_conf.specs.declared.error.ConfError.{ConfError}
use Rattle.apt_conf.specs.declared.table.Wanted.{Wanted}
use Rattle.apt_conf.specs.declared.values.Words.{Words}
use Rattle.apt_conf.specs.declared.values.Words.TheVariants.{Architectures, Languages}
use Rattle.apt_conf.specs.Answers.{Gives}
use Rattle.apt_conf.specs.Keys.{Pair, value_of}
use Rattle.apt_conf.specs.Statements.{◌>>=◌}
use Rattle.apt_conf.specs.Values.{architecture_of, checked, listed, but_none}
use Rattle.apt_conf.specs.Settings.{allowed, read_or, setting, architecture, architectures, languages, pick, dates, wanted, fetching, boolean, settings_of}

bind_ok : {A B : Type 0} (read : Result A ConfError) (f : A → Result B ConfError) (y : B) → (read >>= f) ≡ Ok y → (x : A) × (read ≡ Ok x) × (f x ≡ Ok y)
bind_ok (Ok x) f y e = (x, refl, e)
bind_ok (Err refusal) f y e = absurd (cc)

-- what a key's value reads as or its default has what both have
read_has : {T : Type 0} (P : T → Type 0) (read : List ℕ → Option T) (default : T) (key : List ℕ) (value : Option (List ℕ)) (y : T) → P default → ((text : List ℕ) (x : T) → read text ≡ Some x → P x) → read_or read default key value ≡ Ok y → P y
read_has P read default key None y own each e = let same : default ≡ y = cc in rw (← same) own
read_has {T} P read default key (Some text) y own each e = by (read text) refl e where
  by : (found : Option T) → read text ≡ found → allowed key found ≡ Ok y → P y
  by (Some x) is e = let same : x ≡ y = cc in rw (← same) (each text x is)
  by None is e = absurd (cc)

-- ---- lists

all_of : (test : List ℕ → Bool) (words : List (List ℕ)) → list_all test words ≡ true → All (λ word. test word ≡ true) words
all_of test [] e = All-nil (λ word. test word ≡ true)
all_of test (word ∷ others) e =
    let parts = and_parts (test word) (list_all test others) e in
    All-cons (λ word. test word ≡ true) word others parts.0 (all_of test others parts.1)

record AreWords (test : List ℕ → Bool) (found : List (List ℕ)) : Type 0 where
  some : found ≢ []
  all : All (λ word. test word ≡ true) found

words_found : (test : List ℕ → Bool) (words found : List (List ℕ)) → (if not (length words == 0) && list_all test words then Some words else None) ≡ Some found → AreWords test found
words_found test [] found e = absurd (cc)
words_found test (word ∷ others) found e = by (not (length (word ∷ others) == 0) && list_all test (word ∷ others)) refl e where
  by : (b : Bool) → (not (length (word ∷ others) == 0) && list_all test (word ∷ others)) ≡ b → (if b then Some (word ∷ others) else None) ≡ Some found → AreWords test found
  by true all e =
      let same : word ∷ others ≡ found = cc in
      rw (← same) (record { some = λ none. cc; all = all_of test (word ∷ others) (and_parts (not (length (word ∷ others) == 0)) (list_all test (word ∷ others)) all).1 })
  by false all e = absurd (cc)

-- ---- the three lists

own_architecture : IsArchitecture (codes "amd64")
unfolding is_architecture
own_architecture = refl

own_language : IsLanguage (codes "en")
unfolding is_language
own_language = refl

one_architecture : (text found : List ℕ) → architecture_of text ≡ Some found → IsArchitecture found
one_architecture text found e = by (is_architecture text) refl e where
  by : (b : Bool) → is_architecture text ≡ b → (if b then Some text else None) ≡ Some found → IsArchitecture found
  by true is e = let same : text ≡ found = cc in rw (← same) is
  by false is e = absurd (cc)

architecture_sound : (pairs : List Pair) (arch : List ℕ) → architecture pairs ≡ Ok arch → IsArchitecture arch
unfolding architecture
architecture_sound pairs arch e = read_has IsArchitecture architecture_of (codes "amd64") (codes "APT::Architecture") (value_of pairs (codes "APT::Architecture")) arch own_architecture one_architecture e

architectures_sound : (own : List ℕ) (pairs : List Pair) (archs : List (List ℕ)) → IsArchitecture own → architectures own pairs ≡ Ok archs → AreWords is_architecture archs
unfolding architectures
architectures_sound own pairs archs is e =
    read_has (AreWords is_architecture) (listed Architectures) (own ∷ []) (codes "APT::Architectures") (value_of pairs (codes "APT::Architectures")) archs
    (record { some = λ none. cc; all = All-cons IsArchitecture own [] is (All-nil IsArchitecture) })
    (λ text found e. words_found is_architecture (words is_blank_or_comma text) found e) e

none_aside : (found : List (List ℕ)) → All IsLanguage found → All IsLanguage (but_none found)
none_aside [] all = all
none_aside (first ∷ []) all = by (bytes_eq first (codes "none")) where
  by : (b : Bool) → All IsLanguage (if b then [] else first ∷ [])
  by true = All-nil IsLanguage
  by false = all
none_aside (first ∷ second ∷ others) all = all

languages_found : (text : List ℕ) (found : List (List ℕ)) → option_map but_none (listed Languages text) ≡ Some found → All IsLanguage found
languages_found text found e = by (listed Languages text) refl e where
  by : (o : Option (List (List ℕ))) → listed Languages text ≡ o → option_map but_none o ≡ Some found → All IsLanguage found
  by (Some spoken) is e = let same : but_none spoken ≡ found = cc in rw (← same) (none_aside spoken (words_found is_language (words is_blank_or_comma text) spoken is).all)
  by None is e = absurd (cc)

languages_sound : (pairs : List Pair) (langs : List (List ℕ)) → languages pairs ≡ Ok langs → All IsLanguage langs
unfolding languages
languages_sound pairs langs e =
    read_has (All IsLanguage) (λ text. option_map but_none (listed Languages text)) (codes "en" ∷ []) (codes "Acquire::Languages") (value_of pairs (codes "Acquire::Languages")) langs
    (All-cons IsLanguage (codes "en") [] own_language (All-nil IsLanguage)) languages_found e

-- ---- all settings

record AreWanted (lists : Wanted) : Type 0 where
  arch : IsArchitecture lists.arch
  archs : AreWords is_architecture lists.archs
  langs : All IsLanguage lists.langs

wanted_sound : (pairs : List Pair) (lists : Wanted) → wanted pairs ≡ Ok lists → AreWanted lists
unfolding wanted
wanted_sound pairs lists e =
    let arch = bind_ok (architecture pairs) _ lists e in
    let archs = bind_ok (architectures arch.0 pairs) _ lists arch.2 in
    let langs = bind_ok (languages pairs) _ lists archs.2 in
    let kinds = bind_ok (pick pairs) _ lists langs.2 in
    let is : record { arch = arch.0; archs = archs.0; langs = langs.0; pick = kinds.0 } ≡ lists = cc in
    let own = architecture_sound pairs arch.0 arch.1 in
    rw (← is) (record { arch = own; archs = architectures_sound arch.0 pairs archs.0 own archs.1; langs = languages_sound pairs langs.0 langs.1 })

pub settings_sound : (pairs : List Pair) (settings : Settings) → settings_of pairs ≡ Ok settings → IsSound settings
unfolding settings_of
settings_sound pairs settings e =
    let lists = bind_ok (wanted pairs) _ settings e in
    let limits = bind_ok (dates pairs) _ settings lists.2 in
    let ways = bind_ok (fetching pairs) _ settings limits.2 in
    let cleanup = bind_ok (boolean true pairs (codes "APT::Get::List-Cleanup")) _ settings ways.2 in
    let all = wanted_sound pairs lists.0 lists.1 in
    let arch : settings.arch ≡ lists.0.arch = cc in
    let archs : settings.archs ≡ lists.0.archs = cc in
    let langs : settings.langs ≡ lists.0.langs = cc in
    record { arch = rw arch all.arch; some = rw archs all.archs.some; archs = rw archs all.archs.all; langs = rw langs all.langs }

pub gives_sound : (pairs : List Pair) (result : Result Settings ConfError) → Gives result (settings_of pairs) → IfOk result IsSound
gives_sound pairs (Err refusal) given = tt
gives_sound pairs (Ok settings) given = settings_sound pairs settings given
