use Rattle.std.proofs.Common.{rules, tests}
use Rattle.std.proofs.lemmas.Iterator.Search.{any_from_yields_List}
use Rattle.std.proofs.lemmas.Iterator.Splits.{YieldsList-from_slice_split}
use Rattle.uri_names.specs.Folder.{is_dot_dot, is_slash}
use Rattle.deb_fetch.specs.Filenames.{leads_up}
use Rattle.deb_fetch.proofs.filename.leads_up.Goals as goal

pub returns : goal.returns
unfolding leads_up
returns c =
    any_from_yields_List is_dot_dot _ _ _ c.any.ensures.ran
    (YieldsList-from_slice_split _ is_slash c.args.path.now c.split.ensures.rest c.split.ensures.done c.split.ensures.closure (λ x r q k. search (rules, tests)))
    (λ x b q k. search (rules, tests))
