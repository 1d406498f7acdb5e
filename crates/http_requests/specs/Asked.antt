-- What the head of a request asks for (RFC 9110, sections 7.2, 9.3 and 14.2; RFC 9112, sections 3, 6 and 9.3).
use Rattle.std.specs.Prelude.{ℕ, ◌-◌, ◌^◌, ◌==◌, ◌&&◌, ◌||◌, not, nat_le, min, Bool, false, if◌then◌else◌, List, [], ◌∷◌, length, take, drop, codes, map, bytes_eq, Option, Some, None, option_map}
use Rattle.std.specs.List.{list_all, list_any}
use Rattle.std.specs.Str.Parse.{digits_value}
use Rattle.httparse.specs.Grammar.{RequestHead}
use Rattle.httparse.specs.Spans.{name_and_value}
use Rattle.http_wire.specs.Fields.{Fields, values, same_word, is_digits, has_close}
use Rattle.http_requests.specs.declared.request.Method.{Method}
use Rattle.http_requests.specs.declared.request.Method.TheVariants.{Get, Head, Other}
use Rattle.http_requests.specs.declared.request.Request.{Request}

abbrev pub method_of : List ℕ → Method
method_of text = if bytes_eq text (codes "GET") then Get else if bytes_eq text (codes "HEAD") then Head else Other

-- ---- the target

-- the text from its first `/` on, or that alone where there is none
abbrev pub from_slash : List ℕ → List ℕ
from_slash [] = 47 ∷ []
from_slash (c ∷ text) = if c == 47 then c ∷ text else from_slash text

-- a target that begins with `http://`
abbrev pub is_absolute : List ℕ → Bool
is_absolute target = same_word (take 7 target) (codes "http://")

-- The path of a target: the target itself, or what follows the authority in a target that is a whole URI (RFC 9112, sections
-- 3.2.1 and 3.2.2).
unfoldable pub path_of : List ℕ → List ℕ
path_of target = if is_absolute target then from_slash (drop 7 target) else target

-- ---- whether it can be answered

-- `0`, and in no other writing
abbrev pub is_zero : List ℕ → Bool
is_zero size = bytes_eq size (codes "0")

-- no body follows its head (RFC 9112, section 6.3)
unfoldable pub has_no_body : Fields → Bool
has_no_body fields = (length (values (codes "transfer-encoding") fields) == 0) && list_all is_zero (values (codes "content-length") fields)

-- what no host has: a delimiter of another part of a URI, a blank or a control character
abbrev pub is_barred : ℕ → Bool
is_barred c = c == 47 || c == 64 || c == 63 || nat_le c 32 || c == 127

-- one host, which version 1.0 may leave out (RFC 9112, section 3.2)
abbrev pub are_hosts : ℕ → List (List ℕ) → Bool
are_hosts minor [] = not (minor == 1)
are_hosts minor (host ∷ []) = not (list_any is_barred host)
are_hosts minor (host ∷ another ∷ more) = false

unfoldable pub names_host : ℕ → Fields → Bool
names_host minor fields = are_hosts minor (values (codes "host") fields)

unfoldable pub is_proper : ℕ → Fields → Bool
is_proper minor fields = has_no_body fields && names_host minor fields

-- ---- its range

-- 1 to 20 digits
abbrev pub are_few_digits : List ℕ → Bool
are_few_digits text = is_digits text && nat_le (length text) 20

-- N of `N-`
abbrev pub first_of : List ℕ → Option ℕ
first_of text =
    if bytes_eq (drop (length text - 1) text) (codes "-") && are_few_digits (take (length text - 1) text)
    then Some (digits_value 10 (take (length text - 1) text))
    else None

-- N of `bytes=N-`
abbrev pub first_of_range : List ℕ → Option ℕ
first_of_range value = if bytes_eq (take 6 value) (codes "bytes=") then first_of (drop 6 value) else None

-- of one range alone
abbrev pub first_of_ranges : List (List ℕ) → Option ℕ
first_of_ranges [] = None
first_of_ranges (range ∷ []) = first_of_range range
first_of_ranges (range ∷ another ∷ more) = None

-- From which byte on a part of the file is asked for, if one is: only a GET asks for parts (RFC 9110, section 14.2), and of
-- all ranges this profile knows those without an end.
abbrev pub part_asked : Method → Fields → Option ℕ
part_asked Get fields = first_of_ranges (values (codes "range") fields)
part_asked Head fields = None
part_asked Other fields = None

-- ---- its end

-- no further request is expected behind it (RFC 9112, section 9.3)
unfoldable pub is_last : ℕ → Fields → Bool
is_last minor fields = minor == 0 || list_any has_close (values (codes "connection") fields)

-- ---- all of it

-- the greatest u64 stands for what is beyond it, since no file goes so far
abbrev pub capped : ℕ → ℕ
capped n = min n (2 ^ 64 - 1)

-- by method, target, minor version and fields
abbrev pub request_by : List ℕ → List ℕ → ℕ → Fields → Request
request_by method target minor fields =
    record {
      proper = is_proper minor fields;
      method = method_of method;
      path = path_of target;
      from = option_map capped (part_asked (method_of method) fields);
      last = is_last minor fields;
    }

-- names and values, in order
abbrev pub fields_of : RequestHead → Fields
fields_of h = map name_and_value h.fields

abbrev pub request_of : RequestHead → Request
request_of h = request_by h.method h.target h.minor (fields_of h)
