-- The head of a response is one of the grammar, within the limits.
use Rattle.std.proofs.Common.{◌≡◌, ℕ, ◌-◌, ◌<◌, ◌≤◌, ◌^◌, Bool, IsTrue, true, false, refl, ap, ◌∙◌, subst, List, [], ◌∷◌, ◌++◌, length, All, arith, append_assoc, length-append, codes, Some}
use Rattle.std.specs.Char.{is_ascii_digit}
use Rattle.std.specs.Fmt.{decimal}
use Rattle.std.specs.List.{flat_map, list_all}
use Rattle.std.proofs.lemmas.List.Elements.{All-cons, All-nil, All-append}
use Rattle.std.proofs.lemmas.List.Sums.{AllPass-from_list_all}
use Rattle.httparse.specs.Ascii.{crlf_bytes}
use Rattle.httparse.specs.Grammar.{AllPass, Field, IsField, IsResponseHead, ResponseHead, crlf, is_value_byte, print_field, print_response}
use Rattle.httparse.proofs.OnLiterals.{httparse_on_literals}
use Rattle.http_wire.specs.Forms.{Whole, head_form}
use Rattle.tree_serve.specs.Texts.{allow_line, body_length, close_line, closing_line, head_text, length_line, own_line, part_line, size_line, status_line}
use Rattle.tree_serve.specs.declared.answer.Answer.{Answer}
use Rattle.tree_serve.specs.declared.answer.Answer.TheVariants as replies
use Rattle.served_link.proofs.Texts.{decimal_short, decimal_visible, field, field_valid, token, values_all}

-- its numbers are below 2^64
abbrev pub HasSmallNumbers : Answer → Type 0
HasSmallNumbers replies.Bad = Unit {0}
HasSmallNumbers replies.NotAllowed = Unit {0}
HasSmallNumbers replies.NotFound = Unit {0}
HasSmallNumbers (replies.Part from size) = (from < size) × (size < 2 ^ 64)
HasSmallNumbers (replies.Beyond size) = size < 2 ^ 64
HasSmallNumbers (replies.Whole size) = size < 2 ^ 64

-- ---- the head

-- the value of Content-Range for a part
abbrev pub part_text : ℕ → ℕ → List ℕ
part_text from size = codes "bytes " ++ decimal from ++ codes "-" ++ decimal (size - 1) ++ codes "/" ++ decimal size

-- the value of Content-Range for what is no part
abbrev pub size_text : ℕ → List ℕ
size_text size = codes "bytes */" ++ decimal size

-- the fields of `own_line`
abbrev pub own_fields : Answer → List Field
own_fields replies.Bad = []
own_fields replies.NotAllowed = field (codes "Allow") (codes "GET, HEAD") ∷ []
own_fields replies.NotFound = []
own_fields (replies.Part from size) = field (codes "Content-Range") (part_text from size) ∷ []
own_fields (replies.Beyond size) = field (codes "Content-Range") (size_text size) ∷ []
own_fields (replies.Whole size) = []

-- the fields of `close_line`
abbrev pub close_fields : Bool → List Field
close_fields true = field (codes "Connection") (codes "close") ∷ []
close_fields false = []

-- the digits of `status_text`
abbrev pub digits_of : Answer → List ℕ
digits_of replies.Bad = codes "400"
digits_of replies.NotAllowed = codes "405"
digits_of replies.NotFound = codes "404"
digits_of (replies.Part from size) = codes "206"
digits_of (replies.Beyond size) = codes "416"
digits_of (replies.Whole size) = codes "200"

-- the reason of `status_text`
abbrev pub reason_of : Answer → List ℕ
reason_of replies.Bad = codes "Bad Request"
reason_of replies.NotAllowed = codes "Method Not Allowed"
reason_of replies.NotFound = codes "Not Found"
reason_of (replies.Part from size) = codes "Partial Content"
reason_of (replies.Beyond size) = codes "Range Not Satisfiable"
reason_of (replies.Whole size) = codes "OK"

-- the field of `length_line`
abbrev pub length_field : Answer → Field
length_field a = field (codes "Content-Length") (decimal (body_length a))

-- the head that is written for an answer, which closes the connection or doesn't
abbrev pub reply_head : Answer → Bool → ResponseHead
reply_head a last = record {
  blank = [];
  minor = 1;
  digits = digits_of a;
  reason = Some (reason_of a);
  line_end = crlf;
  fields = length_field a ∷ (own_fields a ++ close_fields last);
  last = crlf;
}

-- ---- its text

-- `close_line` prints its fields
close_is : (last : Bool) → close_line last ≡ flat_map print_field (close_fields last)
unfolding closing_line
close_is true = refl
close_is false = refl

-- so does `own_line`, with what follows it
own_is : (a : Answer) (last : Bool) → own_line a ++ close_line last ≡ flat_map print_field (own_fields a ++ close_fields last)
unfolding allow_line part_line size_line
own_is replies.Bad last = close_is last
own_is replies.NotAllowed last = ap (λ t. allow_line ++ t) (close_is last)
own_is replies.NotFound last = close_is last
own_is (replies.Part from size) last = ap (λ t. part_line from size ++ t) (close_is last)
own_is (replies.Beyond size) last = ap (λ t. size_line size ++ t) (close_is last)
own_is (replies.Whole size) last = close_is last

-- the status line prints its digits and reason
status_is : (a : Answer) → status_line a ≡ codes "HTTP/1.1" ++ (32 ∷ digits_of a) ++ (32 ∷ reason_of a) ++ crlf_bytes
unfolding status_line
status_is replies.Bad = refl
status_is replies.NotAllowed = refl
status_is replies.NotFound = refl
status_is (replies.Part from size) = refl
status_is (replies.Beyond size) = refl
status_is (replies.Whole size) = refl

-- the lines behind the status line, grouped as a section prints them
regroup : (s l o k e : List ℕ) → s ++ l ++ o ++ k ++ e ≡ s ++ ((l ++ (o ++ k)) ++ e)
regroup s l o k e = simp append_assoc

-- what is written is the text of that head
pub reply_is : (a : Answer) (last : Bool) → head_text a last ≡ print_response (reply_head a last)
unfolding head_text print_response length_line
reply_is a last =
    regroup (status_line a) (length_line a) (own_line a) (close_line last) crlf_bytes
    ∙ ap (λ t. status_line a ++ ((length_line a ++ t) ++ crlf_bytes)) (own_is a last)
    ∙ ap (λ s. s ++ ((length_line a ++ flat_map print_field (own_fields a ++ close_fields last)) ++ crlf_bytes)) (status_is a)

-- ---- it is valid

-- a text that is written out is seen to be a value by computing it
literal : (text : List ℕ) → list_all is_value_byte text ≡ true → AllPass is_value_byte text
literal text all = AllPass-from_list_all is_value_byte text all

-- a decimal may stand in a value
number : (n : ℕ) → n < 2 ^ 64 → AllPass is_value_byte (decimal n)
number n small = values_all (decimal n) (decimal_visible n small)

-- a value is made of values
join : (a b : List ℕ) → AllPass is_value_byte a → AllPass is_value_byte b → AllPass is_value_byte (a ++ b)
join a b = All-append (λ b. IsTrue (is_value_byte b)) a b

-- the range of a part is a value
part_valid : (from size : ℕ) → from < 2 ^ 64 → size < 2 ^ 64 → AllPass is_value_byte (part_text from size)
part_valid from size a b =
    join (codes "bytes " ++ decimal from ++ codes "-" ++ decimal (size - 1) ++ codes "/") (decimal size)
    (join (codes "bytes " ++ decimal from ++ codes "-" ++ decimal (size - 1)) (codes "/")
    (join (codes "bytes " ++ decimal from ++ codes "-") (decimal (size - 1))
    (join (codes "bytes " ++ decimal from) (codes "-")
    (join (codes "bytes ") (decimal from) (literal (codes "bytes ") refl) (number from a))
    (literal (codes "-") refl))
    (number (size - 1) (omega (arith, b))))
    (literal (codes "/") refl))
    (number size b)

-- a field alone
one_field : (name value : List ℕ) → IsField (field name value) → All IsField (field name value ∷ [])
one_field name value valid = All-cons IsField (field name value) [] valid (All-nil IsField)

-- an answer's own field is valid
own_valid : (a : Answer) → HasSmallNumbers a → All IsField (own_fields a)
unfolding httparse_on_literals
own_valid replies.Bad small = All-nil IsField
own_valid replies.NotAllowed small = one_field (codes "Allow") (codes "GET, HEAD") (field_valid (codes "Allow") (codes "GET, HEAD") (token (codes "Allow") refl refl) (literal (codes "GET, HEAD") refl))
own_valid replies.NotFound small = All-nil IsField
own_valid (replies.Part from size) small =
    one_field (codes "Content-Range") (part_text from size)
    (field_valid (codes "Content-Range") (part_text from size) (token (codes "Content-Range") refl refl) (part_valid from size (omega (arith, small.0, small.1)) small.1))
own_valid (replies.Beyond size) small =
    one_field (codes "Content-Range") (size_text size)
    (field_valid (codes "Content-Range") (size_text size) (token (codes "Content-Range") refl refl) (join (codes "bytes */") (decimal size) (literal (codes "bytes */") refl) (number size small)))
own_valid (replies.Whole size) small = All-nil IsField

-- so is the one that closes
close_valid : (last : Bool) → All IsField (close_fields last)
unfolding httparse_on_literals
close_valid true = one_field (codes "Connection") (codes "close") (field_valid (codes "Connection") (codes "close") (token (codes "Connection") refl refl) (literal (codes "close") refl))
close_valid false = All-nil IsField

-- the status has three digits
digits_valid : (a : Answer) → (length (digits_of a) ≡ 3) × AllPass is_ascii_digit (digits_of a)
digits_valid replies.Bad = (refl, AllPass-from_list_all is_ascii_digit (codes "400") refl)
digits_valid replies.NotAllowed = (refl, AllPass-from_list_all is_ascii_digit (codes "405") refl)
digits_valid replies.NotFound = (refl, AllPass-from_list_all is_ascii_digit (codes "404") refl)
digits_valid (replies.Part from size) = (refl, AllPass-from_list_all is_ascii_digit (codes "206") refl)
digits_valid (replies.Beyond size) = (refl, AllPass-from_list_all is_ascii_digit (codes "416") refl)
digits_valid (replies.Whole size) = (refl, AllPass-from_list_all is_ascii_digit (codes "200") refl)

-- the reason is a value
reason_valid : (a : Answer) → AllPass is_value_byte (reason_of a)
reason_valid replies.Bad = literal (codes "Bad Request") refl
reason_valid replies.NotAllowed = literal (codes "Method Not Allowed") refl
reason_valid replies.NotFound = literal (codes "Not Found") refl
reason_valid (replies.Part from size) = literal (codes "Partial Content") refl
reason_valid (replies.Beyond size) = literal (codes "Range Not Satisfiable") refl
reason_valid (replies.Whole size) = literal (codes "OK") refl

-- the length of the body is below 2^64
pub length_small : (a : Answer) → HasSmallNumbers a → body_length a < 2 ^ 64
length_small replies.Bad small = omega arith
length_small replies.NotAllowed small = omega arith
length_small replies.NotFound small = omega arith
length_small (replies.Part from size) small = let b = small.1 in omega (arith, b)
length_small (replies.Beyond size) small = omega arith
length_small (replies.Whole size) small = small

-- the head is valid
pub reply_valid : (a : Answer) (last : Bool) → HasSmallNumbers a → IsResponseHead (reply_head a last)
unfolding httparse_on_literals
reply_valid a last small = record {
  minor = omega arith;
  digits = digits_valid a;
  reason = reason_valid a;
  fields = All-cons IsField (length_field a) (own_fields a ++ close_fields last)
      (field_valid (codes "Content-Length") (decimal (body_length a)) (token (codes "Content-Length") refl refl) (number (body_length a) (length_small a small)))
      (All-append IsField (own_fields a) (close_fields last) (own_valid a small) (close_valid last));
}

-- ---- it is within the limits

-- an answer has one field of its own, or none
few_own : (a : Answer) → length (own_fields a) ≤ 1
few_own replies.Bad = omega arith
few_own replies.NotAllowed = omega arith
few_own replies.NotFound = omega arith
few_own (replies.Part from size) = omega arith
few_own (replies.Beyond size) = omega arith
few_own (replies.Whole size) = omega arith

-- one field closes, or none
few_close : (last : Bool) → length (close_fields last) ≤ 1
few_close true = omega arith
few_close false = omega arith

-- the status line is short
status_short : (a : Answer) → length (status_line a) ≤ 50
unfolding status_line
status_short replies.Bad = omega arith
status_short replies.NotAllowed = omega arith
status_short replies.NotFound = omega arith
status_short (replies.Part from size) = omega arith
status_short (replies.Beyond size) = omega arith
status_short (replies.Whole size) = omega arith

-- so is the one of the length
length_short : (a : Answer) → HasSmallNumbers a → length (length_line a) ≤ 40
unfolding length_line
length_short a small =
    let x = length-append (codes "Content-Length: " ++ decimal (body_length a)) crlf_bytes in
    let y = length-append (codes "Content-Length: ") (decimal (body_length a)) in
    let d = decimal_short (body_length a) (length_small a small) in
    omega (arith, x, y, d)

-- of the range
part_short : (from size : ℕ) → from < 2 ^ 64 → size < 2 ^ 64 → length (part_line from size) ≤ 100
unfolding part_line
part_short from size x y =
    let z = length-append (codes "Content-Range: " ++ part_text from size) crlf_bytes in
    let a = length-append (codes "Content-Range: bytes " ++ decimal from ++ codes "-" ++ decimal (size - 1) ++ codes "/") (decimal size) in
    let b = length-append (codes "Content-Range: bytes " ++ decimal from ++ codes "-" ++ decimal (size - 1)) (codes "/") in
    let c = length-append (codes "Content-Range: bytes " ++ decimal from ++ codes "-") (decimal (size - 1)) in
    let d = length-append (codes "Content-Range: bytes " ++ decimal from) (codes "-") in
    let e = length-append (codes "Content-Range: bytes ") (decimal from) in
    let f = decimal_short from x in
    let g = decimal_short (size - 1) (omega (arith, y)) in
    let h = decimal_short size y in
    omega (arith, z, a, b, c, d, e, f, g, h)

-- of the size
size_short : (size : ℕ) → size < 2 ^ 64 → length (size_line size) ≤ 100
unfolding size_line
size_short size small =
    let a = length-append (codes "Content-Range: bytes */" ++ decimal size) crlf_bytes in
    let b = length-append (codes "Content-Range: bytes */") (decimal size) in
    let c = decimal_short size small in
    omega (arith, a, b, c)

-- any own line
own_short : (a : Answer) → HasSmallNumbers a → length (own_line a) ≤ 100
unfolding allow_line
own_short replies.Bad small = omega arith
own_short replies.NotAllowed small = omega arith
own_short replies.NotFound small = omega arith
own_short (replies.Part from size) small = part_short from size (omega (arith, small.0, small.1)) small.1
own_short (replies.Beyond size) small = size_short size small
own_short (replies.Whole size) small = omega arith

-- and the one that closes
close_short : (last : Bool) → length (close_line last) ≤ 30
unfolding closing_line
close_short true = omega arith
close_short false = omega arith

-- so the head is, with all its lines
head_short : (a : Answer) (last : Bool) → HasSmallNumbers a → length (head_text a last) ≤ 65536
unfolding head_text
head_short a last small =
    let x = length-append (status_line a ++ length_line a ++ own_line a ++ close_line last) crlf_bytes in
    let y = length-append (status_line a ++ length_line a ++ own_line a) (close_line last) in
    let z = length-append (status_line a ++ length_line a) (own_line a) in
    let w = length-append (status_line a) (length_line a) in
    let s = status_short a in
    let l = length_short a small in
    let o = own_short a small in
    let c = close_short last in
    omega (arith, x, y, z, w, s, l, o, c)

-- the head is within the limits
pub reply_fits : (a : Answer) (last : Bool) → HasSmallNumbers a → head_form.fits (reply_head a last)
reply_fits a last small = (
  (let x = length-append (own_fields a) (close_fields last) in let o = few_own a in let c = few_close last in omega (arith, x, o, c)),
  subst (λ t. length t ≤ 65536) (reply_is a last) (head_short a last small),
)

-- a response begins with that head
pub reply_whole : (a : Answer) (last : Bool) (body : List ℕ) → HasSmallNumbers a → Whole head_form (head_text a last ++ body) (reply_head a last) body
reply_whole a last body small = record { valid = reply_valid a last small; fits = reply_fits a last small; is = ap (λ t. t ++ body) (reply_is a last) }
