use Rattle.std.proofs.Common.{rules, ◌≡◌, ◌∙◌, sym, ap, arith, ℕ, ◌+◌, ◌-◌, ◌++◌, ◌∷◌, [], List, drop}
use Rattle.acq_outside.specs.Crash.{renamed, number_of}
use Rattle.acq_memory.specs.Replay.{names_in}
use Rattle.acq_memory.specs.Replay.{nowhere}
use Rattle.acq_outside.specs.declared.state.NameChange.TheVariants.{Made}
use Rattle.acq_memory.proofs.Replaying.{number_step, pushed}
use Rattle.acq_memory.proofs.replay.begin_replay.Goals as goal

pub loop-at-preserved : goal.loop-at-preserved
loop-at-preserved c =
    let rows = c.args.rows.now in
    let i = c.loop-at.at - 1 in
    let next : c.loop-at.at ≡ i + 1 = omega arith in
    let row = c.index-rows-at.result in
    let was : names_in c.loop-at.names ≡ number_of (i + 1) (drop (i + 1) rows) = c.loop-at.invariant.names ∙ ap (λ (k : ℕ). number_of k (drop k rows)) next in
    let done : names_in c.rename_one.new.names ≡ renamed (names_in c.loop-at.names) (Made c.in_ok-copy.field-0 i) = c.in_ok-rename_one.ensures in
    let copied : c.in_ok-copy.field-0 ≡ row.0 = c.in_ok-copy.ensures ∙ ap (λ (r : List ℕ × List ℕ). r.0) (sym c.index-rows-at.is) in
    let more : c.push.new.self.items ≡ c.loop-at.settled.items ++ Made c.in_ok-copy.field-0 i ∷ [] = search rules in
    record {
      within = omega (arith, c.loop-at.invariant.within);
      names = number_step rows i row (names_in c.loop-at.names) (names_in c.rename_one.new.names) (omega (arith, c.loop-at.invariant.within)) c.index-rows-at.is was (done ∙ ap (λ (n : List ℕ). renamed (names_in c.loop-at.names) (Made n i)) copied);
      settled = sym (pushed nowhere (names_in c.loop-at.names) (names_in c.rename_one.new.names) c.loop-at.settled.items c.push.new.self.items (Made c.in_ok-copy.field-0 i) (sym c.loop-at.invariant.settled) done more);
    }
