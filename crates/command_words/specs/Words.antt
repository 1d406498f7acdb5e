-- What the words of a command line ask for, over clap's own words for what a simple command takes.
use Rattle.std.specs.Prelude.{ℕ, Bool, true, false, if◌then◌else◌, List, [], ◌∷◌, codes, bytes_eq, Option, Some, None, option_map, option_and_then, unwrap_or}
use Rattle.std.specs.Option.{option_map_or}
use Rattle.clap.specs.Words.{App, Row, Rule, Shape, Text, all_of, fault_of, first_of, new_rule, subcommand_of}
use Rattle.clap.specs.Simple.{new_shape}
use Rattle.clap.specs.Walk.{is_empty}
use Rattle.clap.specs.declared.builder.action.ArgAction.TheVariants.{Append, SetTrue, Set}
use Rattle.acq_base.specs.Digits.{number_of_digits}
use Rattle.command_words.specs.declared.request.Options.{Options}
use Rattle.command_words.specs.declared.request.Request.{Request}
use Rattle.command_words.specs.declared.request.Request.TheVariants.{Update, Generate}

-- ---- the command

-- `-o` or `--option`, one value each time, repeated at will
abbrev pub option_rule : Rule
option_rule = record (new_rule (codes "option")) { short = Some 111; long = Some (codes "option"); action = Some Append }

-- `--together`, at most once
abbrev pub together_rule : Rule
together_rule = record (new_rule (codes "together")) { long = Some (codes "together"); action = Some SetTrue }

-- the one word behind `generate`
abbrev pub number_rule : Rule
number_rule = record (new_rule (codes "n")) { required = true; action = Some Set }

abbrev pub update_shape : Shape
update_shape = record (new_shape (codes "update")) { rules = option_rule ∷ together_rule ∷ [] }

abbrev pub generate_shape : Shape
generate_shape = record (new_shape (codes "generate")) { rules = number_rule ∷ [] }

-- without the program's own name, help and version; one of the two subcommands has to be there
abbrev pub acquire_shape : Shape
acquire_shape = record (new_shape (codes "acquire")) {
  is_leaf = false;
  no_binary_name = true;
  disable_help_flag = true;
  disable_help_subcommand = true;
  disable_version_flag = true;
  subcommand_required = true;
}

abbrev pub acquire : App
acquire = record { top = acquire_shape; subs = update_shape ∷ generate_shape ∷ [] }

-- ---- what words ask for

-- the command takes the words: clap finds no fault in them
abbrev pub is_taken : List Text → Bool
is_taken words = is_empty (fault_of acquire words)

-- clap holds `true` for a flag that was given
abbrev pub is_given : Text → List Row → Bool
is_given id rows = option_map_or (λ text. bytes_eq text (codes "true")) (first_of id rows) false

abbrev pub options_in : List Row → Options
options_in rows = record {
  pairs = unwrap_or (all_of (codes "option") rows) [];
  together = is_given (codes "together") rows;
}

-- N is 1 to 20 decimal digits of a number below 2^64
abbrev pub number_in : List Row → Option ℕ
number_in rows = option_and_then number_of_digits (first_of (codes "n") rows)

abbrev pub request_in : Text × List Row → Option Request
request_in found = if bytes_eq found.0 (codes "update") then Some (Update (options_in found.1)) else option_map Generate (number_in found.1)

-- what the words ask for, if the command takes them
unfoldable pub request_of : List Text → Option Request
request_of words = if is_taken words then option_and_then request_in (subcommand_of acquire words) else None
