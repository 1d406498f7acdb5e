use Rattle.std.proofs.Common.{◌∙◌, ap, List, [], ◌∷◌, ℕ, ◌++◌, codes}
use Rattle.method_messages.specs.Written.{field_text, written}
use Rattle.method_server.specs.Answers.{done}
use Rattle.method_server.proofs.Regrouped.{four_puts}
use Rattle.method_server.proofs.said.done.Goals as goal

pub returns : goal.returns
unfolding done written
returns c =
    four_puts c.in_ok-text.text (field_text (codes "URI", c.args.wish.now.text)) (field_text (codes "Filename", c.args.wish.now.name)) (field_text (codes "Size", c.in_ok-size.size)) (field_text (codes "SHA256-Hash", c.as_bytes-4.result.now))
    c.in_ok-text.text c.put_field.new.text c.put_field-2.new.text c.put_field-3.new.text c.put_field-4.new.text c.push.new.self
    (λ i. c.in_ok-text.text)
    (c.in_ok-put_field.ensures ∙ ap (λ (v : List ℕ). c.in_ok-text.text ++ field_text (codes "URI", v)) c.as_bytes.ensures)
    (c.in_ok-put_field-2.ensures ∙ ap (λ (v : List ℕ). c.put_field.new.text ++ field_text (codes "Filename", v)) c.as_bytes-2.ensures)
    (c.in_ok-put_field-3.ensures ∙ ap (λ (v : List ℕ). c.put_field-2.new.text ++ field_text (codes "Size", v)) c.as_bytes-3.ensures)
    c.in_ok-put_field-4.ensures
    c.in_ok-push.ensures
    ∙ (λ i. (c.in_ok-text.ensures i) ++ ((field_text (codes "URI", c.args.wish.now.text) ++ (field_text (codes "Filename", c.args.wish.now.name) ++ (field_text (codes "Size", c.in_ok-size.ensures i) ++ (field_text (codes "SHA256-Hash", (c.as_bytes-4.ensures.value ∙ c.in_ok-digits.ensures) i) ++ [])))) ++ 10 ∷ []))
