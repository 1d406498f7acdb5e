-- What a source comes to, by the ends of its lists.
use Rattle.std.proofs.Common.{◌≡◌, ◌∙◌, ℕ, Bool, true, false, List, map, Option, Some, None, refl, sym, ap}
use Rattle.std.specs.Prelude.{filter_map, option_map}
use Rattle.std.proofs.Math.Path.{fun_ext}
use Rattle.acq_base.specs.declared.plan.Source.{Source}
use Rattle.acq_base.specs.declared.sum.Sum.{Sum}
use Rattle.acq_base.specs.declared.uri.ListName.{ListName}
use Rattle.release_file.specs.Release.{listed_sum}
use Rattle.update_model.specs.Outcomes.{AdmittedRelease, Kept, all_had}
use Rattle.update_model.specs.declared.ask.Body.{Body}
use Rattle.update_model.specs.declared.cause.Cause.{Cause}
use Rattle.update_model.specs.declared.end.End.{End}
use Rattle.update_model.specs.declared.settled.Held.{Held}
use Rattle.update_model.specs.declared.settled.Verdict2.TheVariants as verdicts
use Rattle.board_model.specs.Settling.{drops_of, end_in, ends_in, held_of, set_there, settled_lists, unchanged}
use Rattle.board_model.specs.Slots.{Standing}
use Rattle.board_source.specs.Admitting.{against}
use Rattle.board_slot.specs.Ended.{all_had_in, changed_set, dropped_list, held_list, puts_in}
use Rattle.board_slot.proofs.ListEnds.{filtered-ends, puts-ends}

-- what the lists came to, by their ends
had-is : (lists : List (Option Standing)) (ends : List (Option End)) → ends ≡ map end_in lists → all_had (ends_in lists) ≡ all_had_in ends
had-is lists ends e = ap all_had (filtered-ends lists) ∙ ap all_had_in (sym e)

pub kept-is : (source : Source) (set : AdmittedRelease) (there : Bool) (lists : List (Option Standing)) (ends : List (Option End)) (cause : Cause) (found : Option Cause)
    → ends ≡ map end_in lists → found ≡ Some cause → against (option_map Kept found) ≡ all_had_in ends
    → settled_lists source set there lists (all_had (ends_in lists)) ≡ unchanged (verdicts.Kept cause)
kept-is source set there lists ends cause found e some had =
    ap (settled_lists source set there lists) (had-is lists ends e ∙ sym had ∙ ap (λ (f : Option Cause). against (option_map Kept f)) some)

pub set-is : (source : Source) (set : AdmittedRelease) (there : Bool) (lists : List (Option Standing)) (ends : List (Option End)) (found : Option Cause)
    → ends ≡ map end_in lists → found ≡ None → against (option_map Kept found) ≡ all_had_in ends
    → settled_lists source set there lists (all_had (ends_in lists)) ≡ changed_set source set ends there
set-is source set there lists ends found e none had =
    ap (settled_lists source set there lists) (had-is lists ends e ∙ sym had ∙ ap (λ (f : Option Cause). against (option_map Kept f)) none)
    ∙ one there
  where
    one : (b : Bool) → set_there source set lists b ≡ changed_set source set ends b
    one true = refl
    one false =
        ap (λ (puts : List (ListName × Body)). record { verdict = verdicts.Installed (held_of source set); release = Some set.bytes; puts = puts; drops = drops_of set.release source.targets })
        (puts-ends source.targets lists ∙ ap (puts_in source.targets) (sym e))

pub changed-is : (source : Source) (set : AdmittedRelease) (ends : List (Option End)) (there : Bool) (sums : List ℕ → Option Sum) (held : Held) (puts : List (ListName × Body)) (drops : List ListName)
    → there ≡ false → ((path : List ℕ) → sums path ≡ listed_sum set.release path)
    → held ≡ held_of source set → puts ≡ puts_in source.targets ends → drops ≡ filter_map (dropped_list sums) source.targets
    → record { verdict = verdicts.Installed held; release = Some set.bytes; puts = puts; drops = drops } ≡ changed_set source set ends there
changed-is source set ends there sums held puts drops isnt same h p d =
    let all : sums ≡ listed_sum set.release = fun_ext same in
    let dropped : drops ≡ drops_of set.release source.targets = d ∙ ap (λ (s : List ℕ → Option Sum). filter_map (dropped_list s) source.targets) all in
    rw isnt (rw h (rw p (rw dropped refl)))

pub held-lists : (source : Source) (set : AdmittedRelease) (sums : List ℕ → Option Sum) (lists : List (ListName × Sum)) → ((path : List ℕ) → sums path ≡ listed_sum set.release path)
    → lists ≡ filter_map (held_list sums) source.targets → lists ≡ (held_of source set).lists
held-lists source set sums lists same e = e ∙ ap (λ (s : List ℕ → Option Sum). filter_map (held_list s) source.targets) (fun_ext same)
