-- What stays sound while entries are put together.
use Rattle.std.proofs.Common.{◌≡◌, List, ◌++◌, All, subst, sym}
use Rattle.std.proofs.lemmas.List.Elements.{All-append}
use Rattle.source_lists.specs.declared.entry.Entry.{Entry}
use Rattle.source_lists.specs.Sound.{IsSound}

pub more_sound : (before found after : List Entry) → after ≡ before ++ found → All IsSound before → All IsSound found → All IsSound after
more_sound before found after is first second = subst (All IsSound) (sym is) (All-append IsSound before found first second)
