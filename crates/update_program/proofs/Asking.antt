-- Words whose request isn't known.
use Rattle.std.proofs.Common.{ℕ, Option, Some, None}
use Rattle.command_words.specs.declared.request.Options.{Options}
use Rattle.command_words.specs.declared.request.Request.{Request}
use Rattle.command_words.specs.declared.request.Request.TheVariants.{Update, Generate}
use Rattle.update_program.specs.Asked.{IfGenerate, IfNoUpdate, IfUpdate}

pub for_any : (request : Option Request) (P : Options → Type 0) → ((options : Options) → P options) → IfUpdate request P
for_any None P all = tt
for_any (Some (Update options)) P all = all options
for_any (Some (Generate number)) P all = tt

pub for_any_number : (request : Option Request) (P : ℕ → Type 0) → ((number : ℕ) → P number) → IfGenerate request P
for_any_number None P all = tt
for_any_number (Some (Update options)) P all = tt
for_any_number (Some (Generate number)) P all = all number

pub for_no_update : (request : Option Request) (P : Type 0) → P → IfNoUpdate request P
for_no_update None P is = is
for_no_update (Some (Update options)) P is = tt
for_no_update (Some (Generate number)) P is = is
