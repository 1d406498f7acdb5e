use Rattle.std.proofs.Common.{◌≡◌, take}
use Rattle.acq_base.specs.Uri.{IsSound}
use Rattle.deb_fetch.specs.Founds.{IsSoundFound, found_of}
use Rattle.deb_fetch.specs.Stanzas.{stanzas_of}
use Rattle.deb_fetch.proofs.listed.find_in_paragraphs.Given as goal

abbrev pub invariant-loop-paragraph : goal.invariant-loop-paragraph
invariant-loop-paragraph l = record {
  value : l.found ≡ found_of (stanzas_of l.base l.name l.version (take l.paragraph-index l.paragraphs));
  sound : IsSound l.base → IsSoundFound l.found;
}
