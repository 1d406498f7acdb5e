use Rattle.std.proofs.Common.{◌≡◌, ◌∙◌, ℕ, suc, ◌-◌, ◌<◌, ◌∷◌, List, length, drop, refl, sym, ap, rules, arith}
use Rattle.std.specs.BTreeMap.{get}
use Rattle.std.specs.Cmp.Lexicographic.{slice_cmp}
use Rattle.std.specs.Ordering.{nat_cmp}
use Rattle.release_file.specs.Release.{listed_sum, sum_in}
use Rattle.release_file.specs.declared.release.Listed.{Listed}
use Rattle.board_slot.proofs.Files.{drop-there, put-sum}
use Rattle.board_slot.proofs.sums.sums_by_path.Goals as goal

pub loop-at-preserved : goal.loop-at-preserved
loop-at-preserved c =
    let files : List Listed = c.as_slice-files.result.now in
    let n : ℕ = c.loop-at.at - 1 in
    let file : Listed = c.index-files-at.result in
    let within : c.loop-at.at - 1 < length files = search (rules, arith) in
    let up : suc (c.loop-at.at - 1) ≡ c.loop-at.at = search (rules, arith) in
    let there : drop (c.loop-at.at - 1) files ≡ file ∷ drop c.loop-at.at files =
    drop-there files (c.loop-at.at - 1) file within c.index-files-at.is ∙ ap (λ (k : ℕ). file ∷ drop k files) up in
    record {
      within = omega (arith, within);
      same = λ q.
          put-sum (drop c.loop-at.at files) file c.in_ok-copy.field-0 q file.sum (get (slice_cmp nat_cmp) c.insert.new.self q) (get (slice_cmp nat_cmp) c.loop-at.sums q)
          c.in_ok-copy.ensures refl (c.in_ok-insert.ensures.updates.0 q) (c.loop-at.invariant.same q)
          ∙ ap (λ (fs : List Listed). sum_in fs q) (sym there);
    }

pub returns : goal.returns
unfolding listed_sum
returns c = λ path.
    let none : c.loop-at.at ≡ 0 = search (rules, arith) in
    c.loop-at.invariant.same path ∙ ap (λ (k : ℕ). sum_in (drop k c.as_slice-files.result.now) path) none ∙ ap (λ (fs : List Listed). sum_in fs path) c.as_slice-files.ensures
