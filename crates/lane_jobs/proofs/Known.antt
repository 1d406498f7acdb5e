-- What is known of boards.
use Rattle.board_bounds.proofs.Theorems.{asks_may_be_fetched, partial_names_are_others, planned_names_are_put_names}
use Rattle.board_model.proofs.ReadAnew.{absorbed-stands, anew-asker, anew-wanted, issued-stands, settled-stands, stands-alike, stands-first}
use Rattle.board_model.proofs.Theorems.{absorbed_boards_are_reached, absorbed_boards_want_parts, boards_stand, issued_boards_are_reached, read_anew_are_reached, staged_asks_are_wanted}
use Rattle.run_jobs.proofs.Lists.{ListLaws}
use Rattle.run_jobs.proofs.OneJob.{Laws}

pub lists_known : ListLaws
lists_known = record {
  others = partial_names_are_others;
  anew = read_anew_are_reached;
  asker = anew-asker;
  wanted = anew-wanted;
  at_first = stands-first;
  after_issued = issued-stands;
  after_absorbed = absorbed-stands;
  after_settled = settled-stands;
  alike = stands-alike;
}

pub known : Laws
known = record {
  stand = boards_stand;
  issued = issued_boards_are_reached;
  absorbed = absorbed_boards_are_reached;
  rest = absorbed_boards_want_parts;
  asks = staged_asks_are_wanted;
  fetched = asks_may_be_fetched;
  put = planned_names_are_put_names;
  lists = lists_known;
}
