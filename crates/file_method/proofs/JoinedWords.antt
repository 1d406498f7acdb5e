-- The pieces of a whole fetch are the file behind its beginning.
use Rattle.std.proofs.Common.{◌≡◌, ◌∙◌, ℕ, ◌+◌, List, [], ◌∷◌, ◌++◌, length, take, drop, refl, sym, ap, subst}
use Rattle.std.proofs.lemmas.List.{drop-drop, take-append-drop}
use Rattle.acq_base.specs.declared.fetch.Job.{Job}
use Rattle.acq_base.specs.declared.fetch.Answer.TheVariants.{Served}
use Rattle.acq_base.specs.Mirror.{MirrorMap, answer_at}
use Rattle.acq_outside.specs.declared.word.Fetch.{Fetch}
use Rattle.acq_outside.specs.declared.word.Word.TheVariants.{Done}
use Rattle.acq_outside.specs.Word.{HasSize, IsPieceOf, begun, further}
use Rattle.file_method.specs.Joined.{AreWords, joined, JoinTo}

drop_all : (all : List ℕ) → drop (length all) all ≡ []
drop_all [] = refl
drop_all (byte ∷ all) = drop_all all

drop_more : (at n : ℕ) (all : List ℕ) → drop n (drop at all) ≡ drop (at + n) all
drop_more at n all = drop-drop n at all

behind : (world : MirrorMap) (all : List ℕ) (size : ℕ) (pieces : List (List ℕ)) (fetch : Fetch) → answer_at world fetch.job.uri ≡ Served all → AreWords world fetch pieces (Done size) → joined pieces ≡ drop fetch.at all
behind world all size [] fetch is words =
    let told : HasSize (Served all) fetch.job size = subst (λ a. HasSize a fetch.job size) is words.2.told in
    let end : fetch.at ≡ length all = sym words.2.reached ∙ told.0 in
    sym (ap (λ n. drop n all) end ∙ drop_all all)
behind world all size (piece ∷ pieces) fetch is words =
    let told : IsPieceOf (Served all) fetch.at piece = subst (λ a. IsPieceOf a fetch.at piece) is words.2.told in
    let rest = behind world all size pieces (further fetch (length piece)) is words.3 in
    ap (λ p. p ++ joined pieces) told.0
    ∙ ap (λ r. take (length piece) (drop fetch.at all) ++ r) (rest ∙ sym (drop_more fetch.at (length piece) all))
    ∙ take-append-drop (length piece) (drop fetch.at all)

pub whole_file : (world : MirrorMap) (job : Job) (all : List ℕ) → answer_at world job.uri ≡ Served all → JoinTo world job (drop job.from all)
whole_file world job all is pieces size words = behind world all size pieces (begun job) is words
