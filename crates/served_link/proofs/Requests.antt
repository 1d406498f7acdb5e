-- The request for a URI is one head of the grammar, within the limits.
use Rattle.std.proofs.Common.{◌≡◌, ℕ, ◌+◌, ◌<◌, ◌≤◌, ◌^◌, Bool, IsTrue, true, false, refl, sym, ap, ◌∙◌, subst, List, [], ◌∷◌, ◌++◌, length, All, arith, append_assoc, append-nil, length-append, codes, Some}
use Rattle.std.specs.Prelude.{◌==◌, ◌||◌, if◌then◌else◌, slice_get}
use Rattle.std.specs.Fmt.{decimal}
use Rattle.std.specs.List.{flat_map, list_any}
use Rattle.std.specs.Str.{IsAscii}
use Rattle.std.proofs.lemmas.Bool.Decides.{nat_tests}
use Rattle.std.proofs.lemmas.List.Elements.{All-cons, All-nil, All-head, All-tail, All-append}
use Rattle.std.proofs.lemmas.Str.{IsUtf8-from_ascii}
use Rattle.std.proofs.lemmas.Str.Ascii.{IsAscii-nil, IsAscii-cons}
use Rattle.httparse.specs.Ascii.{crlf_bytes}
use Rattle.httparse.specs.Grammar.{Field, IsField, IsRequestHead, RequestHead, crlf, is_uri_byte, print_field, print_request}
use Rattle.httparse.proofs.OnLiterals.{httparse_on_literals}
use Rattle.acq_base.specs.Uri.{IsAuthority, IsHostCharacter, IsHttpHost, IsSound, is_alphanumeric, is_uri_character, port_text, text_of_parts}
use Rattle.acq_base.specs.declared.uri.Scheme.TheVariants.{Http}
use Rattle.acq_base.specs.declared.uri.Uri.{Uri}
use Rattle.http_wire.specs.Forms.{Whole}
use Rattle.http_wire.specs.Request.{fixed_lines, host_line, range_line, request_line, request_text}
use Rattle.http_requests.specs.Heads.{request_form}
use Rattle.served_link.proofs.Texts.{Digit, Visible, decimal_all, decimal_short, decimal_visible, each, field, field_valid, seen, token, values_all}

-- ---- the head

-- the value of Host
abbrev pub host_of : Uri → List ℕ
host_of uri = uri.host ++ port_text uri.port

-- the value of Range
abbrev pub range_text : ℕ → List ℕ
range_text from = codes "bytes=" ++ decimal from ++ codes "-"

-- the field of `range_line`
abbrev pub range_fields : ℕ → List Field
range_fields from = if from == 0 then [] else field (codes "Range") (range_text from) ∷ []

-- the first of `fixed_lines`
abbrev pub agent_field : Field
agent_field = field (codes "User-Agent") (codes "acquire-engine/1")

-- the second of `fixed_lines`
abbrev pub encoding_field : Field
encoding_field = field (codes "Accept-Encoding") (codes "identity")

-- the head that is written for a URI, from a byte on
abbrev pub head_of : Uri → ℕ → RequestHead
head_of uri from = record {
  blank = [];
  method = codes "GET";
  target = uri.path;
  minor = 1;
  line_end = crlf;
  fields = field (codes "Host") (host_of uri) ∷ agent_field ∷ encoding_field ∷ range_fields from;
  last = crlf;
}

-- ---- its text

-- `range_line` prints its field
range_is : (from : ℕ) (b : Bool) → (from == 0) ≡ b → range_line from ≡ flat_map print_field (range_fields from)
range_is from true is = rw is refl
range_is from false is = rw is (sym (append-nil (print_field (field (codes "Range") (range_text from)))))

-- the lines behind the request line, grouped as a section prints them
regroup : (q h u a r e : List ℕ) → q ++ h ++ (u ++ a) ++ r ++ e ≡ q ++ ((h ++ (u ++ (a ++ r))) ++ e)
regroup q h u a r e = simp append_assoc

-- the request is the text of that head
text_is : (uri : Uri) (from : ℕ) → request_text uri from ≡ print_request (head_of uri from)
unfolding print_request request_line host_line fixed_lines
text_is uri from =
    regroup (request_line uri.path) (host_line uri.host uri.port) (print_field agent_field) (print_field encoding_field) (range_line from) crlf_bytes
    ∙ ap (λ r. request_line uri.path ++ ((host_line uri.host uri.port ++ (print_field agent_field ++ (print_field encoding_field ++ r))) ++ crlf_bytes)) (range_is from (from == 0) refl)

-- ---- the bytes of its parts

-- what is among visible bytes is visible
among_visible : (c : ℕ) (xs : List ℕ) → All Visible xs → list_any (λ d. c == d) xs ≡ true → Visible c
among_visible c [] all any = absurd cc
among_visible c (d ∷ xs) all any = by (among_visible c xs (All-tail Visible d xs all)) (All-head Visible d xs all) (c == d) refl any
  where
    by : (list_any (λ d. c == d) xs ≡ true → Visible c) → Visible d → (t : Bool) → (c == d) ≡ t → (t || list_any (λ d. c == d) xs) ≡ true → Visible c
    by later here true is any = let e : c ≡ d = grind (arith, nat_tests) in subst Visible (sym e) here
    by later here false is any = later any

-- each character of a URI is visible
uri_character_visible : (c : ℕ) → IsTrue (is_uri_character c) → Visible c
uri_character_visible c h = by (is_alphanumeric c) refl h
  where
    marks : List ℕ
    marks = codes "-._~:/?[]@!$&'()*+,;=%"

    by : (t : Bool) → is_alphanumeric c ≡ t → (t || list_any (λ d. c == d) marks) ≡ true → Visible c
    by true is any = grind (arith, nat_tests)
    by false is any = among_visible c marks (seen marks refl) any

-- so a path is
path_visible : (uri : Uri) → IsSound uri → All Visible uri.path
path_visible uri sound = each (λ c. IsTrue (is_uri_character c)) Visible uri.path uri_character_visible sound.path

-- a digit may stand in a host
digit_in_host : (c : ℕ) → Digit c → IsHostCharacter c
digit_in_host c h = (omega (arith, h.0), omega (arith, h.1), omega (arith, h.1), omega (arith, h.0), omega (arith, h.1))

-- and so the text of a port
port_plain : (port : ℕ) (b : Bool) → port < 2 ^ 64 → (port == 80) ≡ b → All IsHostCharacter (port_text port)
port_plain port true small is = rw is (All-nil IsHostCharacter)
port_plain port false small is = rw is (All-cons IsHostCharacter 58 (decimal port) (omega arith, omega arith, omega arith, omega arith, omega arith) (each Digit IsHostCharacter (decimal port) digit_in_host (decimal_all port small)))

-- the Host field has characters of a host alone
pub host_plain : (uri : Uri) → IsSound uri → uri.scheme ≡ Http → All IsHostCharacter (host_of uri)
host_plain uri sound http =
    let host : IsHttpHost uri.host = subst (λ s. IsAuthority s uri.host uri.port) http sound.authority in
    let port = sound.port in
    All-append IsHostCharacter uri.host (port_text uri.port) host.plain (port_plain uri.port (uri.port == 80) (omega (arith, port)) refl)

-- so the Host field is visible
pub host_visible : (uri : Uri) → IsSound uri → uri.scheme ≡ Http → All Visible (host_of uri)
host_visible uri sound http = each IsHostCharacter Visible (host_of uri) (λ c h. (h.3, h.4)) (host_plain uri sound http)

-- so is the Range field
pub range_visible : (from : ℕ) → from < 2 ^ 64 → All Visible (range_text from)
range_visible from small =
    All-append Visible (codes "bytes=" ++ decimal from) (codes "-")
    (All-append Visible (codes "bytes=") (decimal from) (seen (codes "bytes=") refl) (decimal_visible from small))
    (seen (codes "-") refl)

-- ---- it is valid

-- visible bytes are ASCII
ascii : (text : List ℕ) → All Visible text → IsAscii text
ascii [] all = IsAscii-nil
ascii (c ∷ cs) all = let here = All-head Visible c cs all in IsAscii-cons c cs (omega (arith, here.1)) (ascii cs (All-tail Visible c cs all))

-- a visible byte may stand in a target
uri_byte : (c : ℕ) → Visible c → IsTrue (is_uri_byte c)
uri_byte c h = let a = h.0 in let b = h.1 in grind (arith, nat_tests)

-- a rooted path isn't empty
some_path : (path : List ℕ) → slice_get path 0 ≡ Some 47 → 0 < length path
some_path [] is = absurd cc
some_path (c ∷ path) is = omega arith

-- the Range field is valid, where there is one
ranges_valid : (from : ℕ) (b : Bool) → from < 2 ^ 64 → (from == 0) ≡ b → All IsField (range_fields from)
unfolding httparse_on_literals
ranges_valid from true small is = rw is (All-nil IsField)
ranges_valid from false small is = rw is (All-cons IsField (field (codes "Range") (range_text from)) [] (field_valid (codes "Range") (range_text from) (token (codes "Range") refl refl) (values_all (range_text from) (range_visible from small))) (All-nil IsField))

-- so are all fields
fields_valid : (uri : Uri) (from : ℕ) → IsSound uri → uri.scheme ≡ Http → from < 2 ^ 64 → All IsField (head_of uri from).fields
unfolding httparse_on_literals
fields_valid uri from sound http small =
    All-cons IsField (field (codes "Host") (host_of uri)) (agent_field ∷ encoding_field ∷ range_fields from) (field_valid (codes "Host") (host_of uri) (token (codes "Host") refl refl) (values_all (host_of uri) (host_visible uri sound http)))
    (All-cons IsField agent_field (encoding_field ∷ range_fields from) (field_valid (codes "User-Agent") (codes "acquire-engine/1") (token (codes "User-Agent") refl refl) (values_all (codes "acquire-engine/1") (seen (codes "acquire-engine/1") refl)))
    (All-cons IsField encoding_field (range_fields from) (field_valid (codes "Accept-Encoding") (codes "identity") (token (codes "Accept-Encoding") refl refl) (values_all (codes "identity") (seen (codes "identity") refl)))
    (ranges_valid from (from == 0) small refl)))

-- and the head
head_valid : (uri : Uri) (from : ℕ) → IsSound uri → uri.scheme ≡ Http → from < 2 ^ 64 → IsRequestHead (head_of uri from)
unfolding httparse_on_literals
head_valid uri from sound http small = record {
  method = token (codes "GET") refl refl;
  target = (some_path uri.path sound.rooted, each Visible (λ b. IsTrue (is_uri_byte b)) uri.path uri_byte (path_visible uri sound));
  target_text = IsUtf8-from_ascii uri.path (ascii uri.path (path_visible uri sound));
  minor = omega arith;
  fields = fields_valid uri from sound http small;
}

-- ---- it is within the limits

-- one Range, or none
few_ranges : (from : ℕ) (b : Bool) → (from == 0) ≡ b → length (range_fields from) ≤ 1
few_ranges from true is = rw is (omega arith)
few_ranges from false is = rw is (omega arith)

-- few fields
few_fields : (uri : Uri) (from : ℕ) → length (head_of uri from).fields ≤ 128
few_fields uri from = let few = few_ranges from (from == 0) refl in omega (arith, few)

-- the Range line is short
range_short : (from : ℕ) (b : Bool) → from < 2 ^ 64 → (from == 0) ≡ b → length (range_line from) ≤ 40
range_short from true small is = rw is (omega arith)
range_short from false small is = rw is (
    let a = length-append (codes "Range: bytes=" ++ decimal from ++ codes "-") crlf_bytes in
    let b = length-append (codes "Range: bytes=" ++ decimal from) (codes "-") in
    let c = length-append (codes "Range: bytes=") (decimal from) in
    let d = decimal_short from small in
    omega (arith, a, b, c, d))

-- the parts of a sound URI are no longer than its text
uri_short : (uri : Uri) → IsSound uri → uri.scheme ≡ Http → length (host_of uri) + length uri.path ≤ 16384
unfolding text_of_parts
uri_short uri sound http =
    let short : length (text_of_parts Http uri.host uri.port uri.path) ≤ 16384 = subst (λ s. length (text_of_parts s uri.host uri.port uri.path) ≤ 16384) http sound.short in
    let a = length-append (codes "http://" ++ uri.host ++ port_text uri.port) uri.path in
    let b = length-append (codes "http://" ++ uri.host) (port_text uri.port) in
    let c = length-append (codes "http://") uri.host in
    let d = length-append uri.host (port_text uri.port) in
    omega (arith, short, a, b, c, d)

-- the request line is as long as the path and 15 bytes
line_short : (path : List ℕ) → length (request_line path) ≡ length path + 15
unfolding request_line
line_short path =
    let a = length-append (codes "GET " ++ path ++ codes " HTTP/1.1") crlf_bytes in
    let b = length-append (codes "GET " ++ path) (codes " HTTP/1.1") in
    let c = length-append (codes "GET ") path in
    omega (arith, a, b, c)

-- the Host line is as long as its value and 8 bytes
host_short : (uri : Uri) → length (host_line uri.host uri.port) ≡ length (host_of uri) + 8
unfolding host_line
host_short uri =
    let a = length-append (codes "Host: " ++ host_of uri) crlf_bytes in
    let b = length-append (codes "Host: ") (host_of uri) in
    omega (arith, a, b)

-- the fixed lines have 57 bytes
fixed_short : length fixed_lines ≡ 57
unfolding fixed_lines
fixed_short = refl

-- so the request is within the limit
request_short : (uri : Uri) (from : ℕ) → IsSound uri → uri.scheme ≡ Http → from < 2 ^ 64 → length (request_text uri from) ≤ 65536
request_short uri from sound http small =
    let q = request_line uri.path in
    let h = host_line uri.host uri.port in
    let r = range_line from in
    let a = length-append (q ++ h ++ fixed_lines ++ r) crlf_bytes in
    let b = length-append (q ++ h ++ fixed_lines) r in
    let c = length-append (q ++ h) fixed_lines in
    let d = length-append q h in
    let e = line_short uri.path in
    let f = host_short uri in
    let g = fixed_short in
    let i = uri_short uri sound http in
    let j = range_short from (from == 0) small refl in
    omega (arith, a, b, c, d, e, f, g, i, j)

-- the request is that head and nothing more
pub one_head : (uri : Uri) (from : ℕ) → IsSound uri → uri.scheme ≡ Http → from < 2 ^ 64 → Whole request_form (request_text uri from) (head_of uri from) []
one_head uri from sound http small = record {
  valid = head_valid uri from sound http small;
  fits = (few_fields uri from, subst (λ t. length t ≤ 65536) (text_is uri from) (request_short uri from sound http small));
  is = text_is uri from ∙ sym (append-nil (print_request (head_of uri from)));
}
