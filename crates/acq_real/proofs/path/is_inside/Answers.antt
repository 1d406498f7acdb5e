use Rattle.std.proofs.Common.{◌≡◌, ◌++◌, codes, Some}
use Rattle.std.proofs.lemmas.Bool.Decides.{Decides-eqb}
use Rattle.std.proofs.lemmas.Slice.Eq.{strip_prefix_is}
use Rattle.acq_real.proofs.Segments.{inside_behind}
use Rattle.acq_real.proofs.path.is_inside.Goals as goal

-- src/path.rt
pub returns-in-Some : goal.returns-in-Some
returns-in-Some c =
    let behind : c.args.name.now ≡ codes "partial/" ++ c.in-Some.file.now = strip_prefix_is Decides-eqb c.args.name.now (codes "partial/") (Some c.in-Some.file) c.in-Some.ensures.cases in
    inside_behind c.args.name.now c.in-Some.file.now c.is_segment.result behind c.is_segment.ensures
