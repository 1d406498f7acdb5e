use Rattle.std.proofs.Common.{rules}
use Rattle.commit_journal.proofs.Fills.{rests_on, idle_on}
use Rattle.commit_journal.proofs.filling.fill.Goals as goal

pub put_some-requires-clause-idle : goal.put_some-requires-clause-idle
put_some-requires-clause-idle g c = idle_on _ _ c.begin.ensures.moments c.requires.idle

pub returns-in_err-put_some-clause-moves : goal.returns-in_err-put_some-clause-moves
returns-in_err-put_some-clause-moves g c = record {
  moments = rests_on _ _ _ c.begin.ensures.moments c.put_some.ensures.moves.moments;
  others = search rules;
  done = search rules;
}

pub returns-in_err-finish-clause-moves : goal.returns-in_err-finish-clause-moves
returns-in_err-finish-clause-moves g c = record {
  moments = rests_on _ _ _ (rests_on _ _ _ c.begin.ensures.moments c.put_some.ensures.moves.moments) c.finish.ensures.moments;
  others = search rules;
  done = search rules;
}

pub returns-clause-moves : goal.returns-clause-moves
returns-clause-moves g c = record {
  moments = rests_on _ _ _ (rests_on _ _ _ c.begin.ensures.moments c.put_some.ensures.moves.moments) c.finish.ensures.moments;
  others = search rules;
  done = search rules;
}
