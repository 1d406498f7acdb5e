use Rattle.std.proofs.Common.{◌≡◌, ◌≢◌, ℕ, [], length, IfOk, IfErr, refl, subst, arith, rules}
use Rattle.std.proofs.lemmas.Result.{err_from_is_err_and, IfOk-weaker}
use Rattle.std.proofs.lemmas.Bool.Decides.{nat_tests}
use Rattle.apt_conf.specs.Answers.{Fails}
use Rattle.apt_conf.specs.Progress.{Ends, AreRead}
use Rattle.apt_conf.specs.Statements.{start, pairs_from}
use Rattle.apt_conf.specs.Tokens.{tokens_from}
use Rattle.apt_conf.proofs.ReadingLemmas.{goes_on, stops, ends_closed, ends_open}
use Rattle.apt_conf.proofs.reader.read_text.Goals as goal

pub returns-in_err-count-clause-err : goal.returns-in_err-count-clause-err
returns-in_err-count-clause-err c =
    let some : c.loop-rest.rest.now ≢ [] = search rules in
    let r = err_from_is_err_and c.from_residual.result c.from_residual.ensures.1 in
    let last = c.last_line-last.result in
    let refused : Fails c.in_err-count.field-0.0 (pairs_from last start (tokens_from last 1 0 c.args.text.now)) =
    stops c.in_err-count.field-0.0 last c.loop-rest.line _ c.loop-rest.reading c.loop-rest.rest.now _ some refl c.in_err-count.ensures.positive c.in_err-count.ensures.steps c.loop-rest.invariant.reads in
    rw (r.1, r.2) (subst (λ (n : ℕ). Fails c.in_err-count.field-0.0 (pairs_from n start (tokens_from n 1 0 c.args.text.now))) c.last_line-last.ensures refused)

pub loop-rest-preserved : goal.loop-rest-preserved
loop-rest-preserved c =
    let some : c.loop-rest.rest.now ≢ [] = search rules in
    record {
      reads = goes_on c.in_ok-count.count c.last_line-last.result c.loop-rest.line c.line_behind-line.result c.in_ok-count.count c.loop-rest.reading c.take.new.self c.loop-rest.rest.now c.split_at.result.0.now c.split_at.result.1.now _
          some c.in_ok-count.ensures.extent c.in_ok-count.ensures.within.some c.in_ok-count.ensures.steps c.line_behind-line.ensures.value c.split_at.ensures.front c.split_at.ensures.back c.loop-rest.invariant.reads;
      within = omega (arith, c.loop-rest.invariant.within, c.in_ok-count.ensures.within, c.split_at.ensures.front_len, c.split_at.ensures.back_len, c.line_behind-line.ensures.bound);
    }

pub returns-clause-ok : goal.returns-clause-ok
returns-clause-ok c =
    let none : length c.loop-rest.rest.now ≡ 0 = grind (arith, nat_tests) in
    let last = c.last_line-last.result in
    let read = pairs_from last start (tokens_from last 1 0 c.args.text.now) in
    let ended = IfOk-weaker c.finish.result (λ entries. Ends c.loop-rest.reading entries.items) (λ entries. AreRead entries.items read) (λ entries end. ends_closed last c.loop-rest.line c.loop-rest.reading entries.items c.loop-rest.rest.now read none c.loop-rest.invariant.reads end) c.finish.ensures.closed in
    subst (λ (n : ℕ). IfOk c.finish.result (λ entries. AreRead entries.items (pairs_from n start (tokens_from n 1 0 c.args.text.now)))) c.last_line-last.ensures ended

pub returns-clause-err : goal.returns-clause-err
returns-clause-err c =
    let none : length c.loop-rest.rest.now ≡ 0 = grind (arith, nat_tests) in
    let last = c.last_line-last.result in
    let ended = ends_open last c.loop-rest.line c.loop-rest.reading c.finish.result c.loop-rest.rest.now (pairs_from last start (tokens_from last 1 0 c.args.text.now)) none c.loop-rest.invariant.reads c.finish.ensures.left_open in
    subst (λ (n : ℕ). IfErr c.finish.result (λ error. Fails error (pairs_from n start (tokens_from n 1 0 c.args.text.now)))) c.last_line-last.ensures ended
