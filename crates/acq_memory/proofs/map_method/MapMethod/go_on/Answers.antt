use Rattle.std.proofs.Common.{◌≡◌, ◌∙◌, ap, refl, sym, subst, Some}
use Rattle.acq_base.specs.Mirror.{MirrorMap, answer_at}
use Rattle.acq_memory.specs.MapMethod.{CanGoOn, MapState}
use Rattle.acq_outside.specs.Word.{after_word}
use Rattle.acq_memory.proofs.MapWords.{Says, mapped_word, mapped_sound, limit_of, goes_on}
use Rattle.acq_memory.proofs.map_method.MapMethod.go_on.Goals as goal

pub after-requires : goal.after-requires
after-requires c =
    let same : c.args.self.now.world ≡ c.as_slice.result.now = sym (c.as_slice.ensures ∙ ap (λ (method : MapState). method.world) c.self.view_is) in
    let P : MirrorMap → Type 0 = λ world. CanGoOn (answer_at world c.args.fetch.job.uri) c.args.fetch in
    limit_of 0 (Some c.as_slice.result.now) c.args.fetch (after_word c.args.fetch c.next_word-word.result) c.next_word-word.result
    (mapped_word 0 c.as_slice.result.now c.args.fetch _ c.next_word-word.result (subst P same c.requires) (record { is = c.next_word-word.ensures }) refl)

pub invariant_of-self : goal.invariant_of-self
invariant_of-self c =
    let same : c.args.self.now.world ≡ c.self.inside.mirror.rows = sym (ap (λ (method : MapState). method.world) c.self.view_is) in
    let P : MirrorMap → Type 0 = λ world. CanGoOn (answer_at world c.args.fetch.job.uri) c.args.fetch in
    let Q : MirrorMap → Type 0 = λ world. Says world c.args.fetch c.next_word-word.result in
    let says = subst Q c.as_slice.ensures (record { is = c.next_word-word.ensures }) in
    record {
      sound = c.self.invariant.sound;
      under_way = goes_on 0 c.self.inside.mirror.rows c.args.fetch c.after.result c.next_word-word.result
          (mapped_word 0 c.self.inside.mirror.rows c.args.fetch c.after.result c.next_word-word.result (subst P same c.requires) says c.after.ensures);
    }

pub returns-clause-sound : goal.returns-clause-sound
returns-clause-sound c =
    let Q : MirrorMap → Type 0 = λ world. Says world c.args.fetch c.next_word-word.result in
    mapped_sound c.self.inside.mirror.rows c.args.fetch c.next_word-word.result c.self.invariant.sound (subst Q c.as_slice.ensures (record { is = c.next_word-word.ensures }))

pub returns-clause-word : goal.returns-clause-word
returns-clause-word c = λ n.
    let same : c.as_slice.result.now ≡ c.args.self.now.world = c.as_slice.ensures ∙ ap (λ (method : MapState). method.world) c.self.view_is in
    let Q : MirrorMap → Type 0 = λ world. Says world c.args.fetch c.next_word-word.result in
    mapped_word n c.args.self.now.world c.args.fetch c.after.result c.next_word-word.result c.requires (subst Q same (record { is = c.next_word-word.ensures })) c.after.ensures
