-- The blank behind the word is passed over with those behind it.
use Rattle.std.proofs.Common.{◌∙◌, ap, drop}
use Rattle.std.specs.List.{after_first}
use Rattle.acq_base.specs.Words.{is_blank, trimmed_start}
use Rattle.source_lists.proofs.NextWords.{blank-passed}
use Rattle.source_lists.proofs.one_line.first_word.Goals as goal

pub returns-clause-behind : goal.returns-clause-behind
returns-clause-behind c =
    let text = c.trim_blanks_start-text.result.now in
    c.trim_blanks_start.ensures ∙ ap trimmed_start c.split_at.ensures.back ∙ ap (λ n. trimmed_start (drop n text)) c.word_length.ensures.place ∙ blank-passed text ∙ ap (λ t. trimmed_start (after_first is_blank t)) c.trim_blanks_start-text.ensures
