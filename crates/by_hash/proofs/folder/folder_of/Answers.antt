-- A byte at the end that is no slash is behind the folder.
use Rattle.std.proofs.Common.{sym, ◌∙◌}
use Rattle.by_hash.proofs.Folders.{folder-slash, folder-other}
use Rattle.by_hash.proofs.folder.folder_of.Goals as goal

pub returns-then-last-eq47 : goal.returns-then-last-eq47
returns-then-last-eq47 c =
    sym (c.loop-front.invariant ∙ folder-slash c.loop-front.front.now c.in-len1-up.len_at_least c.if-last-eq47.true)

pub loop-front-preserved : goal.loop-front-preserved
loop-front-preserved c =
    c.loop-front.invariant ∙ folder-other c.loop-front.front.now c.in-len1-up.len_at_least c.if-last-eq47.false
