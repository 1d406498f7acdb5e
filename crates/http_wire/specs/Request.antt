-- What is sent for a file (RFC 9112, section 3; RFC 9110, sections 7.2 and 14.2).
use Rattle.std.specs.Prelude.{ℕ, ◌==◌, if◌then◌else◌, List, [], ◌++◌, codes}
use Rattle.std.specs.Fmt.{decimal}
use Rattle.httparse.specs.Ascii.{crlf_bytes}
use Rattle.acq_base.specs.declared.uri.Uri.{Uri}
use Rattle.acq_base.specs.Uri.{port_text}

unfoldable pub request_line : List ℕ → List ℕ
request_line path = codes "GET " ++ path ++ codes " HTTP/1.1" ++ crlf_bytes

unfoldable pub host_line : List ℕ → ℕ → List ℕ
host_line host port = codes "Host: " ++ host ++ port_text port ++ crlf_bytes

unfoldable pub fixed_lines : List ℕ
fixed_lines = codes "User-Agent: acquire-engine/1" ++ crlf_bytes ++ codes "Accept-Encoding: identity" ++ crlf_bytes

-- the file from a byte on, where that isn't its first
abbrev pub range_line : ℕ → List ℕ
range_line from = if from == 0 then [] else codes "Range: bytes=" ++ decimal from ++ codes "-" ++ crlf_bytes

abbrev pub request_text : Uri → ℕ → List ℕ
request_text uri from = request_line uri.path ++ host_line uri.host uri.port ++ fixed_lines ++ range_line from ++ crlf_bytes
