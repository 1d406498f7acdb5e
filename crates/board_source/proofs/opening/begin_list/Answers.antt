use Rattle.std.proofs.Common.{◌≡◌, Option, Some, None, option_map, rules}
use Rattle.release_file.specs.Release.{listed_sum}
use Rattle.item_graph.specs.OldFiles.{bytes_of}
use Rattle.board_source.specs.Listed.{standing_of}
use Rattle.board_source.specs.Refinement.{config_of}
use Rattle.board_source.proofs.Beside.{none-is, unlisted, wanted-first}
use Rattle.board_source.proofs.opening.begin_list.Goals as goal

pub returns-in_default-clause-begun : goal.returns-in_default-clause-begun
returns-in_default-clause-begun g c =
    let none : listed_sum c.args.release.now c.args.target.now.path ≡ None = search rules in
    unlisted (g.D.Disk.tells c.args.disk.now) (g.D.Disk.files c.args.disk.now) (config_of c.args.setup.now) c.args.source.now c.args.release.now c.args.target.now c.args.file c.is_none.result none (none-is c.args.file c.is_none.result c.is_none.ensures)

pub returns-clause-begun : goal.returns-clause-begun
returns-clause-begun g c =
    let there : listed_sum c.args.release.now c.args.target.now.path ≡ Some c.in-Some.sum.now = search rules in
    wanted-first (g.D.Disk.tells c.args.disk.now) (g.D.Disk.files c.args.disk.now) (config_of c.args.setup.now) c.args.source.now c.args.release.now c.args.target.now c.args.file (option_map bytes_of c.in_ok-file.file)
    c.in-Some.sum.now c.in_ok-wanted.wanted (option_map standing_of c.in_ok-list.list.item) c.in_ok-list.list.there there c.in_ok-wanted.ensures.value c.in_ok-file.ensures.told c.in_ok-list.ensures.item c.in_ok-list.ensures.there
