use Rattle.std.proofs.Common.{◌≡◌, ◌++◌, List, ℕ, sym, subst, ◌∙◌}
use Rattle.deb822_text.specs.Written.{ReadsAs, text_of}
use Rattle.deb822_text.proofs.Again.{reads_as}
use Rattle.deb822_text.proofs.writing.write.Goals as goal

pub returns-clause-again : goal.returns-clause-again
returns-clause-again c =
    let text : c.into_bytes.result ≡ text_of c.args.paragraphs.now = c.into_bytes.ensures ∙ c.in_ok-put_paragraphs.ensures ∙ λ i. c.new-text.ensures i ++ text_of (c.as_slice.ensures i) in
    subst (λ (bytes : List ℕ). ReadsAs bytes c.args.paragraphs.now) (sym text) (reads_as c.args.paragraphs.now c.requires)
