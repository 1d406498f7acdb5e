-- From the spans of a head to what it asks for.
use Rattle.std.proofs.Common.{◌≡◌, ℕ, ◌<◌, ◌≤◌, min, Bool, true, false, arith, List, length, take, drop, map, All, ap, sym, ◌∙◌, refl}
use Rattle.std.specs.Prelude.{nat_lt}
use Rattle.std.proofs.lemmas.Bool.Decides.{nat_tests}
use Rattle.std.proofs.lemmas.List.{drop_all, take_min}
use Rattle.httparse.specs.declared.spans.HeaderSpan.{HeaderSpan}
use Rattle.httparse.specs.declared.spans.RequestSpans.{RequestSpans}
use Rattle.httparse.specs.Spans.{IsHeaderWithin, IsRequestWithin, header_bytes, span_bytes}
use Rattle.http_wire.proofs.Parsed.{all_within}
use Rattle.http_requests.specs.Asked.{request_by}
use Rattle.http_requests.specs.Reading.{IsHeadAt, IsRequestRead}
use Rattle.http_requests.specs.declared.request.Request.{Request}

pub spans_in_text : (text : List ℕ) (spans : List HeaderSpan) (head : RequestSpans) → IsRequestWithin text spans head → All (IsHeaderWithin (length text)) (take head.headers spans)
spans_in_text text spans head within = all_within head.len (length text) (take head.headers spans) within.section.len_fits within.section.headers_fit

pub asked_by_head : (text : List ℕ) (spans : List HeaderSpan) (head : RequestSpans) (request : Request) → IsHeadAt text spans head
    → request ≡ request_by (span_bytes text head.method) (span_bytes text head.path) head.version (map (header_bytes text) (take head.headers spans))
    → IsRequestRead text head.len request
asked_by_head text spans head request found is = record {
  head = found.is;
  whole = found.whole;
  within = found.within.section.len_fits;
  asks =
      is
      ∙ ap (λ m. request_by m (span_bytes text head.path) head.version (map (header_bytes text) (take head.headers spans))) found.at.method
      ∙ ap (λ t. request_by found.is.method t head.version (map (header_bytes text) (take head.headers spans))) found.at.path
      ∙ ap (λ n. request_by found.is.method found.is.target n (map (header_bytes text) (take head.headers spans))) found.at.version
      ∙ ap (λ f. request_by found.is.method found.is.target found.is.minor f) found.at.fields;
}

-- as many bytes as there are
pub take_front : (n : ℕ) (xs : List ℕ) → take (min n (length xs)) xs ≡ take n xs
take_front n xs = take_min n xs

pub drop_front : (n : ℕ) (xs : List ℕ) → drop (min n (length xs)) xs ≡ drop n xs
drop_front n xs = by (nat_lt n (length xs)) refl
  where
    by : (t : Bool) → nat_lt n (length xs) ≡ t → drop (min n (length xs)) xs ≡ drop n xs
    by true is = let inside : n < length xs = grind (arith, nat_tests) in ap (λ k. drop k xs) (let e : min n (length xs) ≡ n = omega (arith, inside) in e)
    by false is =
        let beyond : length xs ≤ n = grind (arith, nat_tests) in
        let e : min n (length xs) ≡ length xs = omega (arith, beyond) in
        ap (λ k. drop k xs) e ∙ drop_all (length xs) xs (omega arith) ∙ sym (drop_all n xs beyond)
