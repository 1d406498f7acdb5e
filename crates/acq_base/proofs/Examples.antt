-- Worked examples, computed by the definitions.
use Rattle.std.proofs.Common.{◌≡◌, [], ◌∷◌, refl, codes, Some, None}
use Rattle.std.specs.Fmt.{digits}
use Rattle.acq_base.specs.declared.uri.Scheme.TheVariants.{Http, File}
use Rattle.acq_base.specs.Digits.{number_of_digits}
use Rattle.acq_base.specs.Uri.{text_of_parts, uri_text, name_of_parts, list_name}
use Rattle.acq_base.specs.Words.{is_blank, is_blank_or_comma, trimmed, trimmed_end, words}

-- a port other than 80 stands in the text and in the list name
port_text : uri_text (record { scheme = Http; host = codes "m.example"; port = 8080; path = codes "/a_b/~c" }) ≡ codes "http://m.example:8080/a_b/~c"
unfolding text_of_parts digits
port_text = refl

port_name : list_name (record { scheme = Http; host = codes "m.example"; port = 8080; path = codes "/a_b/~c" }) ≡ codes "m.example:8080_a%5fb_%7ec"
unfolding name_of_parts digits
port_name = refl

-- 80 doesn't
plain_text : uri_text (record { scheme = Http; host = codes "m.example"; port = 80; path = codes "/d/dists/s/Release" }) ≡ codes "http://m.example/d/dists/s/Release"
unfolding text_of_parts
plain_text = refl

plain_name : list_name (record { scheme = Http; host = codes "deb.example.org"; port = 80; path = codes "/debian/dists/bookworm/main/i18n/Translation-en" }) ≡ codes "deb.example.org_debian_dists_bookworm_main_i18n_Translation-en"
unfolding name_of_parts
plain_name = refl

file_text : uri_text (record { scheme = File; host = []; port = 0; path = codes "/srv/x" }) ≡ codes "file:///srv/x"
unfolding text_of_parts
file_text = refl

file_name : list_name (record { scheme = File; host = []; port = 0; path = codes "/srv/x" }) ≡ codes "_srv_x"
unfolding name_of_parts
file_name = refl

-- numbers: leading zeros count as digits
zeros : number_of_digits (codes "00") ≡ Some 0
zeros = refl

greatest : number_of_digits (codes "18446744073709551615") ≡ Some 18446744073709551615
greatest = refl

beyond : number_of_digits (codes "18446744073709551616") ≡ None
beyond = refl

long : number_of_digits (codes "000000000000000000001") ≡ None
long = refl

empty : number_of_digits [] ≡ None
empty = refl

signed : number_of_digits (codes "+1") ≡ None
signed = refl

-- blanks are spaces and tabs, and no other white space
blanks : trimmed (codes " \t a b\r \t") ≡ codes "a b\r"
blanks = refl

blanks_at_end : trimmed_end (codes " a ") ≡ codes " a"
blanks_at_end = refl

only_blanks : trimmed (codes " \t ") ≡ []
only_blanks = refl

two_words : words is_blank (codes "  a,b \tc ") ≡ codes "a,b" ∷ codes "c" ∷ []
unfolding words
two_words = refl

listed : words is_blank_or_comma (codes ",amd64, ,i386 all,") ≡ codes "amd64" ∷ codes "i386" ∷ codes "all" ∷ []
unfolding words
listed = refl
