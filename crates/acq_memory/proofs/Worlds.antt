-- The answers of a sound map are sound.
use Rattle.std.proofs.Common.{◌≡◌, Bool, true, false, if◌then◌else◌, [], ◌∷◌, subst}
use Rattle.std.specs.List.{AllByRecursion}
use Rattle.std.proofs.lemmas.List.Elements.{recursion_from_All}
use Rattle.acq_base.specs.declared.uri.Uri.{Uri}
use Rattle.acq_base.specs.declared.fetch.Answer.{Answer}
use Rattle.acq_base.specs.Fetch.{IsSoundAnswer}
use Rattle.acq_base.specs.Uri.{same_uri}
use Rattle.acq_base.specs.Mirror.{MirrorMap, answer_at}
use Rattle.acq_memory.specs.MapMethod.{HasSoundAnswers}

either : (b : Bool) (x y : Answer) → IsSoundAnswer x → IsSoundAnswer y → IsSoundAnswer (if b then x else y)
either true x y sound other = sound
either false x y sound other = other

answer_sound : (world : MirrorMap) → AllByRecursion (λ entry. IsSoundAnswer entry.1) world → (uri : Uri) → IsSoundAnswer (answer_at world uri)
answer_sound [] sound uri = tt
answer_sound (entry ∷ entries) sound uri = either (same_uri entry.0 uri) entry.1 (answer_at entries uri) sound.0 (answer_sound entries sound.1 uri)

pub sound_answer : (world : MirrorMap) (uri : Uri) (answer : Answer) → HasSoundAnswers world → answer_at world uri ≡ answer → IsSoundAnswer answer
sound_answer world uri answer sound is =
    let P : Answer → Type 0 = λ given. IsSoundAnswer given in
    subst P is (answer_sound world (recursion_from_All (λ entry. IsSoundAnswer entry.1) world sound) uri)
