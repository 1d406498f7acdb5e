-- Words that may ask for something beside updates.
use Rattle.std.proofs.Common.{◌≡◌, ℕ, Bool, List, Option, Some, None}
use Rattle.command_words.specs.declared.side.Side.{Side}
use Rattle.command_words.specs.declared.side.Side.TheVariants.{Method, Serve, Download}
use Rattle.update_program.specs.Sides.{IfAside, IfDownload, IfMethod, IfServe, Otherwise, scheme_of}

-- what holds anyhow
pub otherwise : (side : Option Side) (P : Type 0) → P → Otherwise side P
otherwise None P is = is
otherwise (Some side) P is = tt

pub for_aside : (side : Option Side) (P : Type 0) → P → IfAside side P
for_aside None P is = tt
for_aside (Some side) P is = is

pub for_no_method : (side : Option Side) (P : Bool → Type 0) → scheme_of side ≡ None → IfMethod side P
for_no_method None P none = tt
for_no_method (Some (Method http)) P none = absurd cc
for_no_method (Some (Serve root port connections)) P none = tt
for_no_method (Some (Download name version)) P none = tt

pub for_any_server : (side : Option Side) (P : List ℕ → ℕ → ℕ → Type 0) → ((root : List ℕ) (port connections : ℕ) → P root port connections) → IfServe side P
for_any_server None P all = tt
for_any_server (Some (Method http)) P all = tt
for_any_server (Some (Serve root port connections)) P all = all root port connections
for_any_server (Some (Download name version)) P all = tt

pub for_any_package : (side : Option Side) (P : List ℕ → List ℕ → Type 0) → ((name version : List ℕ) → P name version) → IfDownload side P
for_any_package None P all = tt
for_any_package (Some (Method http)) P all = tt
for_any_package (Some (Serve root port connections)) P all = tt
for_any_package (Some (Download name version)) P all = all name version
