use Rattle.std.proofs.Common.{◌≤◌, ◌-◌, length, take}
use Rattle.deb_fetch.proofs.Cuts.{IsWhole}
use Rattle.deb_fetch.proofs.paragraphs.first_paragraph.Given as goal

-- what is passed so far are whole lines
abbrev pub invariant-loop-at : goal.invariant-loop-at
invariant-loop-at l = record {
  within : l.at ≤ length l.text;
  whole : IsWhole (take l.at l.text);
}

abbrev pub decreases-loop-at : goal.decreases-loop-at
decreases-loop-at l = length l.text - l.at
