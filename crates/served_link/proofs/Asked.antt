-- What the written request asks for, and what it is answered.
use Rattle.std.proofs.Common.{◌≡◌, ℕ, ◌-◌, ◌<◌, ◌≤◌, ◌^◌, Bool, true, false, not, refl, sym, ap, ◌∙◌, subst, List, [], ◌∷◌, ◌++◌, length, take, drop, arith, length-append, codes, Option, Some, None}
use Rattle.std.specs.Prelude.{◌==◌, ◌&&◌, if◌then◌else◌, bytes_eq, nat_le, slice_get}
use Rattle.std.specs.Fmt.{decimal}
use Rattle.std.specs.List.{list_any}
use Rattle.std.specs.Str.Parse.{digits_value}
use Rattle.std.proofs.Math.Seq.{take-append_seam, drop-append_seam}
use Rattle.std.proofs.lemmas.Bool.Decides.{nat_tests}
use Rattle.std.proofs.lemmas.List.Folds.{list_any_none}
use Rattle.httparse.specs.Grammar.{trim_ows}
use Rattle.acq_base.specs.Uri.{IsHostCharacter, IsSound}
use Rattle.acq_base.specs.declared.uri.Scheme.TheVariants.{Http}
use Rattle.acq_base.specs.declared.uri.Uri.{Uri}
use Rattle.http_wire.specs.Fields.{is_digits, values}
use Rattle.http_requests.specs.Asked.{are_few_digits, are_hosts, fields_of, first_of, first_of_range, has_no_body, is_barred, is_proper, names_host, part_asked, path_of}
use Rattle.http_requests.specs.declared.request.Method.TheVariants.{Get}
use Rattle.acq_outside.specs.Tree.{TreeFiles}
use Rattle.tree_serve.specs.Answers.{answer_by, answer_to, is_below, of_size, size_at}
use Rattle.tree_serve.specs.declared.answer.Answer.TheVariants.{NotFound}
use Rattle.served_link.proofs.Texts.{decimal_is_digits, decimal_short, decimal_value, each, trimmed_is}
use Rattle.served_link.proofs.Requests.{head_of, host_of, host_plain, host_visible, range_text, range_visible}

-- ---- it is proper

-- no character of a host is barred in the Host field
free : (c : ℕ) → IsHostCharacter c → is_barred c ≡ false
free c h = let a = h.0 in let b = h.1 in let d = h.2 in let e = h.3 in let f = h.4 in grind (arith, nat_tests)

-- the head has one Host field
hosts_are : (uri : Uri) (from : ℕ) (b : Bool) → (from == 0) ≡ b → values (codes "host") (fields_of (head_of uri from)) ≡ trim_ows (32 ∷ host_of uri) ∷ []
unfolding values
hosts_are uri from true is = rw is refl
hosts_are uri from false is = rw is refl

-- it announces no body
bodiless : (uri : Uri) (from : ℕ) (b : Bool) → (from == 0) ≡ b → has_no_body (fields_of (head_of uri from)) ≡ true
unfolding has_no_body values
bodiless uri from true is = rw is refl
bodiless uri from false is = rw is refl

-- so it is one that can be answered
proper_is : (uri : Uri) (from : ℕ) → IsSound uri → uri.scheme ≡ Http → is_proper 1 (fields_of (head_of uri from)) ≡ true
unfolding is_proper names_host
proper_is uri from sound http =
    ap (λ b. b && names_host 1 (fields_of (head_of uri from))) (bodiless uri from (from == 0) refl)
    ∙ ap (are_hosts 1) (hosts_are uri from (from == 0) refl)
    ∙ ap (λ v. not (list_any is_barred v)) (trimmed_is (host_of uri) (host_visible uri sound http))
    ∙ ap not (list_any_none is_barred (host_of uri) (each IsHostCharacter (λ c. is_barred c ≡ false) (host_of uri) free (host_plain uri sound http)))

-- ---- it asks for the URI's path

-- a rooted path is a target in origin-form, and read as it is
pub path_is : (path : List ℕ) → slice_get path 0 ≡ Some 47 → path_of path ≡ path
unfolding path_of
path_is [] is = absurd cc
path_is (c ∷ path) is = let e : c ≡ 47 = cc in subst (λ d. path_of (d ∷ path) ≡ d ∷ path) (sym e) refl

-- ---- it asks for the part from a byte on, or for all

-- `first_of` of digits and of what follows them
abbrev first_by : List ℕ → List ℕ → List ℕ → Option ℕ
first_by text front end = if bytes_eq end (codes "-") && are_few_digits front then Some (digits_value 10 front) else None

-- digits and a hyphen are read as the number that they write
first_read : (ds : List ℕ) → is_digits ds ≡ true → length ds ≤ 20 → first_of (ds ++ codes "-") ≡ Some (digits_value 10 ds)
first_read ds digits short =
    let text = ds ++ codes "-" in
    let long : length text - 1 ≡ length ds = (let a = length-append ds (codes "-") in omega (arith, a)) in
    ap (λ n. first_by text (take n text) (drop n text)) long
    ∙ ap (λ d. first_by text (take (length ds) text) d) (drop-append_seam ds (codes "-"))
    ∙ ap (λ t. first_by text t (codes "-")) (take-append_seam ds (codes "-"))
    ∙ both (is_digits ds) (nat_le (length ds) 20) digits (fits (length ds) short)
  where
    both : (a b : Bool) → a ≡ true → b ≡ true → (if a && b then Some (digits_value 10 ds) else None) ≡ Some (digits_value 10 ds)
    both a b p q = rw (p, q) refl

    fits : (n : ℕ) → n ≤ 20 → nat_le n 20 ≡ true
    fits n h = grind (arith, nat_tests)

-- the range that is written is read as the byte that was asked for
range_read : (from : ℕ) → from < 2 ^ 64 → first_of_range (range_text from) ≡ Some from
range_read from small = first_read (decimal from) (decimal_is_digits from small) (decimal_short from small) ∙ ap (λ (n : ℕ). Some n) (decimal_value from small)

-- the part that is asked for, if not all is
abbrev pub part_from : ℕ → Option ℕ
part_from from = if from == 0 then None else Some from

-- the head asks for that part
part_is : (uri : Uri) (from : ℕ) (b : Bool) → from < 2 ^ 64 → (from == 0) ≡ b → part_asked Get (fields_of (head_of uri from)) ≡ (if b then None else Some from)
unfolding values
part_is uri from true small is = rw is refl
part_is uri from false small is = rw is (ap first_of_range (trimmed_is (range_text from) (range_visible from small)) ∙ range_read from small)

-- ---- so it is answered by the file at its path

-- the answer is by the file below the root at the URI's path
pub answer_is : (files : TreeFiles) (root : List ℕ) (uri : Uri) (from : ℕ) → IsSound uri → uri.scheme ≡ Http → from < 2 ^ 64
    → answer_to files root (head_of uri from) ≡ (if is_below uri.path then of_size (size_at files (root ++ uri.path)) (part_from from) else NotFound)
answer_is files root uri from sound http small =
    let part = part_asked Get (fields_of (head_of uri from)) in
    ap (λ p. answer_by (size_at files (root ++ p)) (is_proper 1 (fields_of (head_of uri from))) Get p part) (path_is uri.path sound.rooted)
    ∙ ap (λ b. answer_by (size_at files (root ++ uri.path)) b Get uri.path part) (proper_is uri from sound http)
    ∙ ap (λ o. answer_by (size_at files (root ++ uri.path)) true Get uri.path o) (part_is uri from (from == 0) small refl)
