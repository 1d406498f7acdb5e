-- Words that ask for no method.
use Rattle.std.proofs.Common.{◌≡◌, ℕ, Bool, true, false, List, [], ◌∷◌, Option, Some, None, refl}
use Rattle.std.specs.Prelude.{bytes_eq, codes, if◌then◌else◌, option_and_then, option_map}
use Rattle.std.specs.List.{before_first, after_first}
use Rattle.command_words.specs.Side.{download_of, is_empty, is_equals, is_root, number_to, serve_of, side_by}
use Rattle.command_words.specs.declared.side.Side.TheVariants.{Serve, Download}
use Rattle.update_program.specs.Sides.{scheme_of}

no_server : (words : List (List ℕ)) → scheme_of (serve_of words) ≡ None
no_server [] = refl
no_server (root ∷ []) = refl
no_server (root ∷ port ∷ []) = refl
no_server (root ∷ port ∷ connections ∷ []) = by (is_root root) (number_to 65535 port) (number_to 1000000 connections)
  where
    by : (sound : Bool) (number most : Option ℕ) → scheme_of (if sound then option_and_then (λ port. option_map (Serve root port) most) number else None) ≡ None
    by false number most = refl
    by true None most = refl
    by true (Some port) None = refl
    by true (Some port) (Some connections) = refl
no_server (root ∷ port ∷ connections ∷ more ∷ words) = refl

no_package : (words : List (List ℕ)) → scheme_of (download_of words) ≡ None
no_package [] = refl
no_package (word ∷ []) = by (is_empty (before_first is_equals word)) (is_empty (after_first is_equals word))
  where
    by : (a b : Bool) → scheme_of (if a then None else if b then None else Some (Download (before_first is_equals word) (after_first is_equals word))) ≡ None
    by true b = refl
    by false true = refl
    by false false = refl
no_package (word ∷ more ∷ words) = refl

-- the first word is another
pub no_command : (command : List ℕ) (words : List (List ℕ)) → bytes_eq command (codes "method") ≡ false → scheme_of (side_by command words) ≡ None
no_command command words other = rw other (by (bytes_eq command (codes "serve")) (bytes_eq command (codes "download")))
  where
    by : (a b : Bool) → scheme_of (if a then serve_of words else if b then download_of words else None) ≡ None
    by true b = no_server words
    by false true = no_package words
    by false false = refl
