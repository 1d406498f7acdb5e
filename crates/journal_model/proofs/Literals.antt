-- The names that calls are made with are names that a disk may have.
use Rattle.std.proofs.Common.{◌≡◌, refl, sym, subst, arith, List, [], ◌∷◌, ℕ, ◌<◌, ◌≤◌, length, length-append, codes}
use Rattle.std.proofs.lemmas.Str.{IsUtf8-from_ascii, IsUtf8-append}
use Rattle.std.proofs.lemmas.Str.Ascii.{IsAscii-nil, IsAscii-cons}
use Rattle.std.specs.Str.{IsAscii}
use Rattle.acq_outside.specs.Disk.{IsName}
use Rattle.journal_model.specs.Names.{journal, new_journal, partial}

abbrev Small : List ℕ → Type 0
Small [] = Unit {0}
Small (b ∷ bytes) = (b < 128) × Small bytes

small_ascii : (bytes : List ℕ) → Small bytes → IsAscii bytes
small_ascii [] small = IsAscii-nil
small_ascii (b ∷ bytes) small = IsAscii-cons b bytes small.0 (small_ascii bytes small.1)

pub journal_named : (name : List ℕ) → name ≡ journal → IsName name
journal_named name is = subst (λ (n : List ℕ). IsName n) (sym is) (record { text = IsUtf8-from_ascii journal (small_ascii journal (omega arith, (omega arith, (omega arith, (omega arith, (omega arith, (omega arith, (omega arith, tt)))))))); nonempty = omega arith; short = omega arith })

pub partial_named : (name : List ℕ) → IsName name → length name ≤ 247 → IsName (partial name)
partial_named name named short = record {
  text = IsUtf8-append (codes "partial/") name (IsUtf8-from_ascii (codes "partial/") (small_ascii (codes "partial/") (omega arith, (omega arith, (omega arith, (omega arith, (omega arith, (omega arith, (omega arith, (omega arith, tt)))))))))) named.text;
  nonempty = omega (arith, length-append (codes "partial/") name);
  short = omega (arith, short, length-append (codes "partial/") name);
}

pub beside_named : (name : List ℕ) → name ≡ new_journal → IsName name
beside_named name is = subst (λ (n : List ℕ). IsName n) (sym is) (partial_named journal (journal_named journal refl) (omega arith))
