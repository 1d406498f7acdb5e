-- The row of one lane among the jobs that are out.
use Rattle.std.proofs.Common.{◌≡◌, ℕ, ◌<◌, ◌≤◌, Bool, List, length, get_or, set, slice_get, Option, None, sym, ap}
use Rattle.board_model.specs.Slots.{joined}
use Rattle.host_queues.proofs.Changes.{changed-past, changed-set, get-past}
use Rattle.lane_jobs.specs.JobsOut.{with_row}
use Rattle.lane_jobs.specs.declared.transfers.Transfer.{Transfer}

pub row_set : (rows : List (Option Transfer)) (alone : Bool) (lane : ℕ) (was given row : Option Transfer) → lane < length rows → was ≡ get_or rows lane was → given ≡ row
    → record { rows = set rows lane given; alone = alone } ≡ with_row lane row (record { rows = rows; alone = alone })
row_set rows alone lane was given row within is same = ap (λ (l : List (Option Transfer)). record { rows = l; alone = alone }) (changed-set (λ (z : Option Transfer). row) rows lane was given within is same)

pub no_row : (rows : List (Option Transfer)) (alone : Bool) (lane : ℕ) (row : Option Transfer) → length rows ≤ lane
    → record { rows = rows; alone = alone } ≡ with_row lane row (record { rows = rows; alone = alone })
no_row rows alone lane row past = ap (λ (l : List (Option Transfer)). record { rows = l; alone = alone }) (sym (changed-past (λ (z : Option Transfer). row) rows lane past))

pub none_there : (rows : List (Option Transfer)) (lane : ℕ) → length rows ≤ lane → None ≡ joined (slice_get rows lane)
none_there rows lane past = sym (ap (λ (o : Option (Option Transfer)). joined o) (get-past rows lane past))
