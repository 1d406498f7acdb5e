use Rattle.std.proofs.Common.{◌≡◌, ◌≤◌, ap, length, arith}
use Rattle.acq_base.specs.Uri.{uri_text}
use Rattle.deb_fetch.proofs.Names.{below_path}
use Rattle.deb_fetch.proofs.finding.file_of.Goals as goal

pub returns-clause-sound : goal.returns-clause-sound
returns-clause-sound c =
    let long : length c.in_ok-uri_text.field-0 ≡ length (uri_text c.in_ok-uri.uri) = ap length c.in_ok-uri_text.ensures in
    let short : length (uri_text c.in_ok-uri.uri) ≤ 16384 = omega (arith, long, c.len-2.ensures, c.if-len-gt-LONGEST_URI.false) in
    c.in_ok-uri.ensures.sound c.requires.0 (below_path c.as_bytes.result.now c.args.stanza.path c.as_bytes.ensures c.requires.1) short
