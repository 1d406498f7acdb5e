-- Two mirrors together answer as each for its own scheme.
use Rattle.std.proofs.Common.{◌≡◌, ◌∙◌, ◌==◌, ◌&&◌, Bool, true, false, [], ◌∷◌, ◌++◌, bytes_eq, Option, Some, None, IfSome, refl, sym, ap, subst, append-nil, if◌then◌else◌}
use Rattle.acq_base.specs.declared.fetch.Answer.{Answer}
use Rattle.acq_base.specs.declared.fetch.Answer.TheVariants.{Absent}
use Rattle.acq_base.specs.declared.uri.Uri.{Uri}
use Rattle.acq_base.specs.declared.uri.Scheme.{Scheme}
use Rattle.acq_base.specs.declared.uri.Scheme.TheVariants.{Http, File}
use Rattle.acq_base.specs.Mirror.{MirrorMap, answer_at}
use Rattle.acq_base.specs.Uri.{same_uri, scheme_index}
use Rattle.acq_base.proofs.Uris.{scheme_is}
use Rattle.both_method.specs.BothMethod.{entries_of, joined}

-- a URI of another scheme is another one
other_uri : (a uri : Uri) (scheme : Scheme) → uri.scheme ≡ scheme → (scheme_index a.scheme == scheme_index scheme) ≡ false → same_uri a uri ≡ false
other_uri a uri scheme is other = ap (λ b. b && bytes_eq a.host uri.host && (a.port == uri.port) && bytes_eq a.path uri.path) (ap (λ s. scheme_index a.scheme == scheme_index s) is ∙ other)

-- the entries of a URI's own scheme answer as all do
own_entries : (scheme : Scheme) (uri : Uri) (rest : MirrorMap) → uri.scheme ≡ scheme → answer_at rest uri ≡ Absent 404 → (world : MirrorMap) → answer_at (entries_of scheme world ++ rest) uri ≡ answer_at world uri
own_entries scheme uri rest is none [] = none
own_entries scheme uri rest is none (entry ∷ world) = by (own_entries scheme uri rest is none world) (scheme_index entry.0.scheme == scheme_index scheme) refl
  where
    by : answer_at (entries_of scheme world ++ rest) uri ≡ answer_at world uri → (b : Bool) → (scheme_index entry.0.scheme == scheme_index scheme) ≡ b → answer_at ((if b then entry ∷ entries_of scheme world else entries_of scheme world) ++ rest) uri ≡ answer_at (entry ∷ world) uri
    by less true same = ap (λ a. if same_uri entry.0 uri then entry.1 else a) less
    by less false other = less ∙ ap (λ b. if b then entry.1 else answer_at world uri) (sym (other_uri entry.0 uri scheme is other))

-- those of another scheme don't
other_entries : (scheme : Scheme) (uri : Uri) (rest : MirrorMap) → (scheme_index scheme == scheme_index uri.scheme) ≡ false → (world : MirrorMap) → answer_at (entries_of scheme world ++ rest) uri ≡ answer_at rest uri
other_entries scheme uri rest other [] = refl
other_entries scheme uri rest other (entry ∷ world) = by (other_entries scheme uri rest other world) (scheme_index entry.0.scheme == scheme_index scheme) refl
  where
    by : answer_at (entries_of scheme world ++ rest) uri ≡ answer_at rest uri → (b : Bool) → (scheme_index entry.0.scheme == scheme_index scheme) ≡ b → answer_at ((if b then entry ∷ entries_of scheme world else entries_of scheme world) ++ rest) uri ≡ answer_at rest uri
    by less true same =
        let e : entry.0.scheme ≡ scheme = scheme_is entry.0.scheme scheme same in
        ap (λ b. if b then entry.1 else answer_at (entries_of scheme world ++ rest) uri) (other_uri entry.0 uri uri.scheme refl (ap (λ s. scheme_index s == scheme_index uri.scheme) e ∙ other))
        ∙ less
    by less false not_same = less

none_of_other : (scheme : Scheme) (uri : Uri) → (scheme_index scheme == scheme_index uri.scheme) ≡ false → (world : MirrorMap) → answer_at (entries_of scheme world) uri ≡ Absent 404
none_of_other scheme uri other world = ap (λ w. answer_at w uri) (sym (append-nil (entries_of scheme world))) ∙ other_entries scheme uri [] other world

pub file_answer : (files peers : MirrorMap) (uri : Uri) → uri.scheme ≡ File → answer_at (entries_of File files ++ entries_of Http peers) uri ≡ answer_at files uri
file_answer files peers uri is = own_entries File uri (entries_of Http peers) is (none_of_other Http uri (ap (λ s. scheme_index Http == scheme_index s) is) peers) files

pub http_answer : (files peers : MirrorMap) (uri : Uri) → uri.scheme ≡ Http → answer_at (entries_of File files ++ entries_of Http peers) uri ≡ answer_at peers uri
http_answer files peers uri is =
    other_entries File uri (entries_of Http peers) (ap (λ s. scheme_index File == scheme_index s) is) files
    ∙ ap (λ w. answer_at w uri) (sym (append-nil (entries_of Http peers))) ∙ own_entries Http uri [] is refl peers

-- what holds of the answer of one holds of that of both
pub told_file : (P : Answer → Type 0) (files peers : Option MirrorMap) (uri : Uri) → uri.scheme ≡ File → IfSome files (λ entries. P (answer_at entries uri)) → IfSome (joined files peers) (λ entries. P (answer_at entries uri))
told_file P None peers uri is told = tt
told_file P (Some files) None uri is told = tt
told_file P (Some files) (Some peers) uri is told = subst P (sym (file_answer files peers uri is)) told

pub told_http : (P : Answer → Type 0) (files peers : Option MirrorMap) (uri : Uri) → uri.scheme ≡ Http → IfSome peers (λ entries. P (answer_at entries uri)) → IfSome (joined files peers) (λ entries. P (answer_at entries uri))
told_http P None peers uri is told = tt
told_http P (Some files) None uri is told = tt
told_http P (Some files) (Some peers) uri is told = subst P (sym (http_answer files peers uri is)) told
