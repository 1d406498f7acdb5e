use Rattle.std.proofs.Common.{sym, ◌∙◌, subst, ◌++◌}
use Rattle.acq_outside.specs.Disk.{IsName}
use Rattle.journal_model.specs.Rest.{part_bytes}
use Rattle.partial_store.proofs.PartNames.{kept_name, part_path, part_len}
use Rattle.partial_store.proofs.PartCalls.{Ends, put_goes, at_ok}
use Rattle.partial_store.proofs.store.put.Goals as goal

pub write_at-requires-clause-name : goal.write_at-requires-clause-name
write_at-requires-clause-name g c = subst (λ p. IsName p) (sym c.as_bytes.ensures) (kept_name c.part.inside.path c.part.invariant)

pub returns-in_err-write_at-clause-moments : goal.returns-in_err-write_at-clause-moments
returns-in_err-write_at-clause-moments g c = (put_goes c.args.part.now.name c.as_bytes.result.now c.part.inside.len c.args.part.now.len c.args.piece.now (g.D.Disk.trace c.args.disk.now) (g.D.Disk.trace c.write_at.new.self) c.write_at.result (c.as_bytes.ensures ∙ part_path c.part.inside.path c.part.inside.len c.args.part.now c.part.view_is c.part.invariant) (part_len c.part.inside.path c.part.inside.len c.args.part.now c.part.view_is) (g.met.D.Disk.sound c.args.disk.now) c.requires.there c.requires.len c.write_at.ensures.step).0

pub returns-in_err-write_at-clause-others : goal.returns-in_err-write_at-clause-others
returns-in_err-write_at-clause-others g c = (put_goes c.args.part.now.name c.as_bytes.result.now c.part.inside.len c.args.part.now.len c.args.piece.now (g.D.Disk.trace c.args.disk.now) (g.D.Disk.trace c.write_at.new.self) c.write_at.result (c.as_bytes.ensures ∙ part_path c.part.inside.path c.part.inside.len c.args.part.now c.part.view_is c.part.invariant) (part_len c.part.inside.path c.part.inside.len c.args.part.now c.part.view_is) (g.met.D.Disk.sound c.args.disk.now) c.requires.there c.requires.len c.write_at.ensures.step).1

pub returns-clause-moments : goal.returns-clause-moments
returns-clause-moments g c = (put_goes c.args.part.now.name c.as_bytes.result.now c.part.inside.len c.args.part.now.len c.args.piece.now (g.D.Disk.trace c.args.disk.now) (g.D.Disk.trace c.write_at.new.self) c.write_at.result (c.as_bytes.ensures ∙ part_path c.part.inside.path c.part.inside.len c.args.part.now c.part.view_is c.part.invariant) (part_len c.part.inside.path c.part.inside.len c.args.part.now c.part.view_is) (g.met.D.Disk.sound c.args.disk.now) c.requires.there c.requires.len c.write_at.ensures.step).0

pub returns-clause-others : goal.returns-clause-others
returns-clause-others g c = (put_goes c.args.part.now.name c.as_bytes.result.now c.part.inside.len c.args.part.now.len c.args.piece.now (g.D.Disk.trace c.args.disk.now) (g.D.Disk.trace c.write_at.new.self) c.write_at.result (c.as_bytes.ensures ∙ part_path c.part.inside.path c.part.inside.len c.args.part.now c.part.view_is c.part.invariant) (part_len c.part.inside.path c.part.inside.len c.args.part.now c.part.view_is) (g.met.D.Disk.sound c.args.disk.now) c.requires.there c.requires.len c.write_at.ensures.step).1

pub returns-clause-there : goal.returns-clause-there
returns-clause-there g c =
    (at_ok c.write_at.result c.in_ok-write_at.field-0 (Ends c.args.part.now.name (part_bytes (g.D.Disk.trace c.args.disk.now) c.args.part.now.name ++ c.args.piece.now) (g.D.Disk.trace c.write_at.new.self)) c.in_ok-write_at.was
    (put_goes c.args.part.now.name c.as_bytes.result.now c.part.inside.len c.args.part.now.len c.args.piece.now (g.D.Disk.trace c.args.disk.now) (g.D.Disk.trace c.write_at.new.self) c.write_at.result (c.as_bytes.ensures ∙ part_path c.part.inside.path c.part.inside.len c.args.part.now c.part.view_is c.part.invariant) (part_len c.part.inside.path c.part.inside.len c.args.part.now c.part.view_is) (g.met.D.Disk.sound c.args.disk.now) c.requires.there c.requires.len c.write_at.ensures.step).2).0

pub returns-clause-bytes : goal.returns-clause-bytes
returns-clause-bytes g c =
    (at_ok c.write_at.result c.in_ok-write_at.field-0 (Ends c.args.part.now.name (part_bytes (g.D.Disk.trace c.args.disk.now) c.args.part.now.name ++ c.args.piece.now) (g.D.Disk.trace c.write_at.new.self)) c.in_ok-write_at.was
    (put_goes c.args.part.now.name c.as_bytes.result.now c.part.inside.len c.args.part.now.len c.args.piece.now (g.D.Disk.trace c.args.disk.now) (g.D.Disk.trace c.write_at.new.self) c.write_at.result (c.as_bytes.ensures ∙ part_path c.part.inside.path c.part.inside.len c.args.part.now c.part.view_is c.part.invariant) (part_len c.part.inside.path c.part.inside.len c.args.part.now c.part.view_is) (g.met.D.Disk.sound c.args.disk.now) c.requires.there c.requires.len c.write_at.ensures.step).2).1
