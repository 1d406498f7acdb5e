-- A Release is admissible exactly where it is refused for none of the three causes.
use Rattle.std.proofs.Common.{◌≡◌, ◌↔◌, ℕ, ℤ, pos, ◌+ℤ◌, ◌<ℤ◌, Option, Some, None, Result, Ok, Err, IsOk, refl, sym, subst, inl, inr, arith, if◌then◌else◌}
use Rattle.std.specs.Prelude.{int_lt}
use Rattle.std.proofs.lemmas.Bool.{cases_Bool}
use Rattle.std.proofs.lemmas.Int.{ints}
use Rattle.acq_base.specs.declared.settings.Dates.{Dates}
use Rattle.release_file.specs.Dates.{IsAdmissible, end_of_validity, judged, judged_end, judged_date, judged_age, unless_refused}
use Rattle.release_file.specs.declared.release.Release.{Release}
use Rattle.release_file.specs.declared.judging.DateError.{DateError}
use Rattle.release_file.specs.declared.judging.DateError.TheVariants.{Expired, Future, Older}

-- nothing is refused exactly where neither of two refusals holds
both_pass : (first next : Result (Unit {0}) DateError) (P Q : Type 0) → IsOk first ↔ (P → ⊥) → IsOk next ↔ Q → IsOk (unless_refused first next) ↔ ((P → ⊥) × Q)
both_pass (Ok x) next P Q e f = ((λ h. (e.0 refl, f.0 h)), (λ h. f.1 h.1))
both_pass (Err x) next P Q e f = ((λ h. absurd (cc)), (λ h. e.1 h.0))

passes : (a b : ℤ) (refusal : DateError) → IsOk {T = Unit {0}} {E = DateError} (if int_lt a b then Err refusal else Ok (tt {0})) ↔ ((a <ℤ b) → ⊥)
passes a b refusal =
    elim (cases_Bool (int_lt a b)) [
      | inl is ↦
          let below : a <ℤ b = grind (arith, ints) in
          rw is ((λ h. absurd (cc)), (λ h. absurd (h below)))
      | inr isnt ↦
          let above : a <ℤ b → ⊥ = λ h. grind (arith, ints) in
          rw isnt ((λ h. above), (λ h. refl))
    ]

-- below some number of an option that is there
below_some : (a b : ℤ) → ((a <ℤ b) → ⊥) ↔ (((e : ℤ) × (Some b ≡ Some e) × (a <ℤ e)) → ⊥)
below_some a b =
    ((λ h w. let same : w.0 ≡ b = cc in h (rw same at w.2)), (λ h below. h (b, refl, below)))

end_passes : (end : Option ℤ) (now : ℤ) → IsOk (judged_end end now) ↔ (((e : ℤ) × (end ≡ Some e) × (e <ℤ now)) → ⊥)
unfolding judged_end
end_passes None now = ((λ h w. let bad = w.1 in cc), (λ h. refl))
end_passes (Some end) now =
    let test = passes end now (Expired end) in
    ((λ h w. let same : w.0 ≡ end = cc in test.0 h (rw same at w.2)), (λ h. test.1 (λ below. h (end, refl, below))))

date_passes : (date : ℤ) (future : ℕ) (now : ℤ) → IsOk (judged_date date future now) ↔ (((now +ℤ pos future) <ℤ date) → ⊥)
unfolding judged_date
date_passes date future now = passes (now +ℤ pos future) date (Future date)

age_passes : (date : ℤ) (installed : Option ℤ) → IsOk (judged_age date installed) ↔ (((e : ℤ) × (installed ≡ Some e) × (date <ℤ e)) → ⊥)
unfolding judged_age
age_passes date None = ((λ h w. let bad = w.1 in cc), (λ h. refl))
age_passes date (Some installed) =
    let test = passes date installed (Older date) in
    let some = below_some date installed in
    ((λ h. some.0 (test.0 h)), (λ h. test.1 (some.1 h)))

admissible_of : (release : Release) (installed : Option ℤ) (dates : Dates) (now : ℤ) → IsOk (judged release installed dates now) ↔ IsAdmissible release installed dates now
unfolding judged
admissible_of release installed dates now =
    let first = end_passes (end_of_validity release dates) now in
    let second = date_passes release.date dates.future now in
    let third = age_passes release.date installed in
    let rest = both_pass (judged_date release.date dates.future now) (judged_age release.date installed) _ _ second third in
    let all = both_pass (judged_end (end_of_validity release dates) now) _ _ _ first rest in
    ((λ h. let a = all.0 h in (a.0, a.1.0, a.1.1)), (λ h. all.1 (h.0, (h.1, h.2))))

pub judged_ok : (release : Release) (installed : Option ℤ) (dates : Dates) (now : ℤ) → (judged release installed dates now ≡ Ok tt) ↔ IsAdmissible release installed dates now
judged_ok release installed dates now = by (judged release installed dates now) (admissible_of release installed dates now)
  where
    by : (result : Result (Unit {0}) DateError) → IsOk result ↔ IsAdmissible release installed dates now → (result ≡ Ok tt) ↔ IsAdmissible release installed dates now
    by (Ok tt) h = ((λ e. h.0 refl), (λ fine. refl))
    by (Err refusal) h = ((λ e. absurd (cc)), (λ fine. let ok = h.1 fine in absurd (cc)))

pub admissible : (release : Release) (installed : Option ℤ) (dates : Dates) (now : ℤ) (result : Result (Unit {0}) DateError) → result ≡ judged release installed dates now → IsOk result ↔ IsAdmissible release installed dates now
admissible release installed dates now result e = subst (λ r. IsOk r ↔ IsAdmissible release installed dates now) (sym e) (admissible_of release installed dates now)
