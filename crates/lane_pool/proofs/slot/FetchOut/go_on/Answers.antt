use Rattle.std.proofs.Common.{Option, MatchOption, sym, subst, arith}
use Rattle.acq_outside.specs.declared.word.Fetch.{Fetch}
use Rattle.acq_outside.specs.Word.{IsWithinLimit}
use Rattle.lane_pool.proofs.Slots.{ends_within}
use Rattle.lane_pool.proofs.slot.FetchOut.go_on.Goals as goal

pub overflow_add-self : goal.overflow_add-self
overflow_add-self c =
    let s = c.self.inside in
    let h = ends_within s.is_out s.no s.max s.from s.at s.scheme s.port s.host.items s.path.items c.args.word.now _ _ c.in-Piece.is
    (subst (λ (o : Option Fetch). MatchOption o ⊥ (λ fetch. IsWithinLimit fetch c.args.word.now)) (sym c.self.view_is) c.requires) in
    let l = c.len.ensures in
    let m = c.self.ranges.1.1.0.1 in
    omega arith
