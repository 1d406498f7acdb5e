use Rattle.std.proofs.Common.{◌∙◌, ℤ, w64, length, map, ap}
use Rattle.std.proofs.lemmas.Int.{to_z-of_z}
use Rattle.std.proofs.lemmas.List.{length-map}
use Rattle.board_model.specs.Boards.{first_board}
use Rattle.lists_dir.specs.Refinement.{old_in}
use Rattle.update_core.specs.BoardRefinement.{board_of}
use Rattle.update_core.specs.BoardRefinement.{config_for}
use Rattle.update_engine.proofs.Known.{beginnings_known}
use Rattle.update_engine.proofs.NewBoards.{olds_are_seen, read_told, starts}
use Rattle.update_engine.proofs.beginning.begin_run.Goals as goal

pub returns-clause-starts : goal.returns-clause-starts
returns-clause-starts g c = λ together. starts beginnings_known c.args.plan c.args.settings c.args.change c.args.now together (map old_in c.in_ok-olds.olds) c.in_ok-sizes.sizes c.args.lanes _ (board_of c.in_ok-new.field-0) c.requires.plan c.requires.lanes
    (c.sources_are_planned.ensures c.args.plan c.requires.plan) (length-map c.in_ok-olds.olds old_in ∙ c.in_ok-olds.ensures.each ∙ ap length c.as_slice.ensures)
    (olds_are_seen (g.D.Disk.tells c.args.disk.now) (g.D.Disk.files c.args.disk.now) (g.D.Disk.trace c.args.disk.now) (map old_in c.in_ok-olds.olds) c.args.plan.sources _
    (g.met.D.Disk.shown c.args.disk.now) c.as_slice.ensures c.in_ok-olds.ensures.told)
    (read_told _ _ c.in_ok-sizes.sizes c.args.plan.sources _ c.installed.ensures.frame.still c.as_slice-2.ensures c.in_ok-sizes.ensures.told)
    (c.in_ok-new.ensures ∙ ap (λ (z : ℤ). first_board (config_for c.args.plan c.in_ok-sizes.sizes c.args.settings c.args.change z) (map old_in c.in_ok-olds.olds) c.args.lanes) (to_z-of_z w64 c.args.now c.ranges.now))
