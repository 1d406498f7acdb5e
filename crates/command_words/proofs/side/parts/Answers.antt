use Rattle.std.proofs.Common.{◌∙◌, ◌+◌, drop, ap}
use Rattle.std.proofs.lemmas.List.{drop-drop}
use Rattle.command_words.proofs.side.parts.Goals as goal

pub returns-clause-behind : goal.returns-clause-behind
returns-clause-behind c =
    c.without_first.ensures ∙ ap (λ t. drop 1 t) c.split_at.ensures.back ∙ drop-drop 1 c.equals_at.result c.args.word.now ∙ ap (λ n. drop (n + 1) c.args.word.now) c.equals_at.ensures.place
