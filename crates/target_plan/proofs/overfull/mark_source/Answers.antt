use Rattle.std.proofs.Common.{◌≡◌, ◌≢◌, ℕ, Bool, true, List, Option, IfSome, sym, subst}
use Rattle.std.specs.List.{AllPairs}
use Rattle.std.proofs.lemmas.Result.{IfOk-weaker}
use Rattle.target_plan.specs.declared.marks.Mark.{Mark}
use Rattle.target_plan.specs.Marks.{AreMarked, AreTails, IsFolderMark, MarksFiles, alone, names_of}
use Rattle.target_plan.proofs.Alike.{tails_of_alike}
use Rattle.target_plan.proofs.OneEntry.{one_marked}
use Rattle.target_plan.proofs.overfull.mark_source.Goals as goal

pub returns-then-is_alike : goal.returns-then-is_alike
returns-then-is_alike g c =
    let pick = c.args.picker.now.pick in
    let settings = c.args.settings.now in
    let entry = c.args.entry.now in
    let folder = c.in-Some.folder in
    let tails = c.args.tails_of_model.now in
    let old = c.args.digests.now.items in
    let new = c.mark_files.new.digests.items in
    IfOk-weaker c.mark_files.result (λ (all : Bool). all ≡ true → MarksFiles folder c.as_slice-then-is_alike.result.now tails old new) (λ (all : Bool). all ≡ true → AreMarked (names_of pick settings (alone entry)) old new)
    (λ all files yes. one_marked pick settings entry entry folder tails old new
    (subst (λ (o : Option Mark). IfSome o (IsFolderMark entry)) c.in-Some.is c.in_ok-folder.ensures)
    (subst (λ (cs : List (List ℕ)). AllPairs (λ (a b : List ℕ). a ≢ b) cs) c.as_slice.ensures (c.in_ok-are_apart.ensures c.if-not-branch.false))
    (tails_of_alike pick settings c.args.model.now entry tails (c.is_alike.ensures c.if-is_alike.true) c.requires)
    (subst (λ (cs : List (List ℕ)). MarksFiles folder cs tails old new) c.as_slice-then-is_alike.ensures (files yes)))
    c.mark_files.ensures

pub returns : goal.returns
returns g c =
    let pick = c.args.picker.now.pick in
    let settings = c.args.settings.now in
    let entry = c.args.entry.now in
    let folder = c.in-Some.folder in
    let tails = c.as_slice-3.result.now in
    let old = c.args.digests.now.items in
    let new = c.mark_files-2.new.digests.items in
    IfOk-weaker c.mark_files-2.result (λ (all : Bool). all ≡ true → MarksFiles folder c.as_slice-2.result.now tails old new) (λ (all : Bool). all ≡ true → AreMarked (names_of pick settings (alone entry)) old new)
    (λ all files yes. one_marked pick settings entry entry folder tails old new
    (subst (λ (o : Option Mark). IfSome o (IsFolderMark entry)) c.in-Some.is c.in_ok-folder.ensures)
    (subst (λ (cs : List (List ℕ)). AllPairs (λ (a b : List ℕ). a ≢ b) cs) c.as_slice.ensures (c.in_ok-are_apart.ensures c.if-not-branch.false))
    (subst (AreTails pick settings entry) (sym c.as_slice-3.ensures.value)
    (subst (λ (o : Option _). IfSome o (λ found. AreTails pick settings entry found.items)) c.in-Some-2.is c.in_ok-tails.ensures))
    (subst (λ (cs : List (List ℕ)). MarksFiles folder cs tails old new) c.as_slice-2.ensures (files yes)))
    c.mark_files-2.ensures
