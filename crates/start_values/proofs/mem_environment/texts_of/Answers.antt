use Rattle.std.proofs.Common.{◌≡◌, ◌∙◌, arith, sym, subst, map, ℕ, List, Err, string_bytes}
use Rattle.std.proofs.lemmas.List.{take_all}
use Rattle.start_values.specs.MemEnvironment.{IsText}
use Rattle.start_values.proofs.Texts.{refused_by_one, words_of_texts}
use Rattle.start_values.proofs.mem_environment.texts_of.Goals as goal

pub returns-in-Err : goal.returns-in-Err
returns-in-Err c =
    refused_by_one c.args.words.now c.loop-word.word-index c.word-item.result c.in-Err.unread c.loop-word-test.true (sym c.word-item.is)
    (subst (λ (bytes : List ℕ). IsText bytes (Err c.in-Err.unread)) c.as_bytes.ensures c.in-Err.ensures)

pub returns : goal.returns
returns c =
    let same : map string_bytes c.loop-word.texts.items ≡ c.args.words.now =
    c.loop-word.invariant ∙ take_all c.loop-word.word-index c.args.words.now (omega arith) in
    (same, words_of_texts c.loop-word.texts.items c.args.words.now same)
