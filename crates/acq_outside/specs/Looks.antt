-- The frame of a call, for any configuration folder.
use Rattle.std.specs.Prelude.{Result}
use Rattle.acq_outside.specs.Frame.{LooksCountingBy}
use Rattle.acq_outside.specs.declared.etc.Etc.{Ghosts}

-- errors of this kind alone are faults, and the files stay
abbrev pub LooksCounting : {O T E : Type 0} → E → Ghosts O → O → O → Result T E → Type 0
LooksCounting kind g old new result = LooksCountingBy kind g.faults g.files old new result
