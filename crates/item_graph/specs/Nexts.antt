-- What comes after a trail, and where an item stands.
use Rattle.std.specs.Prelude.{reverse, option_and_then}
use Rattle.update_model.specs.Files.{served, fitting}
use Rattle.update_model.specs.Obtained.{list_cause}
use Rattle.update_model.specs.Points.{Point, Over, At}
use Rattle.update_model.specs.Releases.{release_limit, release_end}
use Rattle.update_model.specs.Walks.{Walk, Finish, Try, whole_ask, after_in_release, got_else, plain_walk, candidates_walk, resume_walk, patches_walk, on_some}
use Rattle.update_model.specs.Wanted.{chain, edited_by}
use Rattle.update_model.specs.declared.ask.Ending.{Ending}
use Rattle.update_model.specs.declared.end.End.TheVariants.{Ended}
use Rattle.item_graph.specs.Patched.{file_in}
use Rattle.item_graph.specs.declared.patching.Listing.{Listing}
use Rattle.item_graph.specs.declared.patching.Patching.{Patching}
use Rattle.item_graph.specs.declared.state.Next.{Next}
use Rattle.item_graph.specs.declared.state.Next.TheVariants as nexts
use Rattle.item_graph.specs.declared.state.State.{State}
use Rattle.item_graph.specs.declared.state.State.TheVariants as states

-- behind the patch Index: its patches, where it is the listed one and leads from the installed file to the wanted one
abbrev pub after_index : Listing → Ending → Walk
after_index l e =
    on_some (option_and_then (chain l.wanted l.installed.file) (fitting l.sum (served e)))
    (λ steps. patches_walk l.wanted (resume_walk l.wanted l.part) steps l.installed.file)
    (resume_walk l.wanted l.part)

-- behind a patch: the next one, where this one is the listed one and applies
abbrev pub after_patch : Patching → Ending → Walk
after_patch p e =
    on_some (option_and_then (edited_by (file_in p.editing)) (fitting p.sum (served e)))
    (λ next. patches_walk p.wanted (resume_walk p.wanted p.part) (reverse p.later.items) next)
    (resume_walk p.wanted p.part)

-- what comes after a trail, by its ending
abbrev pub after : Next → Ending → Walk
after (nexts.InRelease release) e = after_in_release e (Try (whole_ask release release_limit) (λ e. Finish (release_end e)))
after nexts.Release e = Finish (release_end e)
after (nexts.Plain w) e = got_else w e (Finish (Ended (list_cause w e)))
after (nexts.Hashed w) e = got_else w e (plain_walk w)
after (nexts.Resumed w) e = got_else w e (candidates_walk w w.hashed)
after (nexts.Index listing) e = after_index listing e
after (nexts.Patch patching) e = after_patch patching e

abbrev pub point_in : State → Point
point_in (states.Ended end) = Over end
point_in (states.Asks ask left faults next) = At ask left faults (after next)
