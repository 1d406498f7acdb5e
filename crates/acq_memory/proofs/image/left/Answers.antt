use Rattle.std.proofs.Common.{◌≡◌, rules, List, Ok, Err, Result, IfOk, ℕ}
use Rattle.acq_base.specs.declared.memory.NoMemory.{NoMemory}
use Rattle.std.specs.BTreeMap.{BTreeMap, IsOrdered}
use Rattle.std.specs.Ordering.{nat_cmp}
use Rattle.std.specs.Cmp.Lexicographic.{slice_cmp}
use Rattle.acq_outside.specs.History.{FileRows, IsStart, start_files}
use Rattle.acq_outside.specs.Crash.{State, all_renamed}
use Rattle.acq_outside.specs.Choice.{drawn_part, drawn_files, image_of}
use Rattle.acq_memory.specs.Replay.{HasOnlyNames, names_in, rows_in, state_of}
use Rattle.acq_memory.proofs.Images.{rows_image, rows_start}
use Rattle.acq_memory.proofs.image.left.Goals as goal

start_if_ok : (s : State) (choice : List ℕ) (names : BTreeMap (List ℕ) ℕ) (contents : List (List ℕ)) (result : Result FileRows NoMemory) → HasOnlyNames s
    → IfOk result (λ _. IsOrdered (slice_cmp nat_cmp) names) → IfOk result (λ rows. rows ≡ rows_in names contents) → names_in names ≡ all_renamed s.base (drawn_part choice s.pending choice).value → IfOk result IsStart
start_if_ok s choice names contents (Ok rows) has ordered are leads = rows_start s choice names contents rows has ordered are leads
start_if_ok s choice names contents (Err want) has ordered are leads = tt

files_if_ok : (s : State) (choice : List ℕ) (names : BTreeMap (List ℕ) ℕ) (contents : List (List ℕ)) (result : Result FileRows NoMemory) → IfOk result (λ rows. rows ≡ rows_in names contents)
    → names_in names ≡ all_renamed s.base (drawn_part choice s.pending choice).value → contents ≡ (drawn_files choice s.files (drawn_part choice s.pending choice).rest).value → IfOk result (λ rows. start_files rows ≡ image_of s choice)
files_if_ok s choice names contents (Ok rows) are leads hold = rows_image s choice names contents rows are leads hold
files_if_ok s choice names contents (Err want) are leads hold = tt

pub returns-clause-start : goal.returns-clause-start
returns-clause-start c =
    let s : State = state_of c.args.replay.now in
    let choice : List ℕ = c.args.choice.now in
    let leads : names_in c.draw_part.new.names ≡ all_renamed s.base (drawn_part choice s.pending choice).value = search rules in
    start_if_ok s choice c.draw_part.new.names c.as_slice-4.result.now c.rows_of.result c.requires c.rows_of.ensures.ordered c.rows_of.ensures.rows leads

pub returns-clause-files : goal.returns-clause-files
returns-clause-files c =
    let s : State = state_of c.args.replay.now in
    let choice : List ℕ = c.args.choice.now in
    let leads : names_in c.draw_part.new.names ≡ all_renamed s.base (drawn_part choice s.pending choice).value = search rules in
    let hold : c.as_slice-4.result.now ≡ (drawn_files choice s.files (drawn_part choice s.pending choice).rest).value = search rules in
    files_if_ok s choice c.draw_part.new.names c.as_slice-4.result.now c.rows_of.result c.rows_of.ensures.rows leads hold
