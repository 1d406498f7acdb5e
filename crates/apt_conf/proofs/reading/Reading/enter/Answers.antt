use Rattle.std.proofs.Common.{◌≡◌, ◌+◌, ◌++◌, ◌∷◌, [], List, ℕ, length, sym, ap, subst, ◌∙◌, rules}
use Rattle.std.specs.Prelude.{codes, None}
use Rattle.apt_conf.specs.Progress.{IsAt}
use Rattle.apt_conf.proofs.EntryLemmas.{entry_of, at_pushed, at_entered, enter_steps}
use Rattle.apt_conf.proofs.reading.Reading.enter.Goals as goal

pub invariant_of-self-in_err-push-2 : goal.invariant_of-self-in_err-push-2
invariant_of-self-in_err-push-2 c =
    subst (λ (blocks : List (List ℕ)). IsAt c.push.new.entries.items blocks c.self.inside.prefix) (sym c.in_err-push-2.ensures.items)
    (at_pushed c.self.inside.entries.items c.push.new.entries.items c.self.inside.blocks.items c.self.inside.prefix _ None c.self.invariant c.in_ok-push.ensures.added)

pub invariant_of-self-2 : goal.invariant_of-self-2
invariant_of-self-2 c =
    let front_is = c.in_ok-append.ensures ∙ ap (λ (k : List ℕ). k ++ codes "::") c.in_ok-front.ensures in
    let pushed : c.push.new.entries.items ≡ c.self.inside.entries.items ++ entry_of c.self.inside.prefix (c.args.key ++ codes "::") None ∷ [] =
    c.in_ok-push.ensures.added ∙ ap (λ (front : List ℕ). c.self.inside.entries.items ++ entry_of c.self.inside.prefix front None ∷ []) front_is in
    at_entered c.self.inside.entries.items c.push.new.entries.items c.self.inside.blocks.items c.push-2.new.self.items c.self.inside.prefix c.in-Some.prefix c.args.key c.self.invariant pushed c.in_ok-push-2.ensures.items
    (c.in-Some.ensures.1 ∙ ap (λ (n : ℕ). c.self.inside.prefix + n) (c.len-2.ensures ∙ ap length front_is))

pub returns : goal.returns
returns c =
    let front_is = c.in_ok-append.ensures ∙ ap (λ (k : List ℕ). k ++ codes "::") c.in_ok-front.ensures in
    let pushed : c.push.new.entries.items ≡ c.self.inside.entries.items ++ entry_of c.self.inside.prefix (c.args.key ++ codes "::") None ∷ [] =
    c.in_ok-push.ensures.added ∙ ap (λ (front : List ℕ). c.self.inside.entries.items ++ entry_of c.self.inside.prefix front None ∷ []) front_is in
    enter_steps c.self.inside.entries.items c.push.new.entries.items c.self.inside.blocks.items c.push-2.new.self.items c.self.inside.prefix c.args.line c.self.inside.part c.args.key c.args.self.now c.self.view_is (search rules) c.self.invariant pushed c.in_ok-push-2.ensures.items
