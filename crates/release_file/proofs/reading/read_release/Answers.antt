use Rattle.release_file.proofs.Listings.{listing-read, listed-read, distinct-read}
use Rattle.release_file.proofs.reading.read_release.Goals as goal

pub returns-clause-listed : goal.returns-clause-listed
returns-clause-listed c =
    listed-read c.args.bytes.now c.release_from.result (listing-read c.args.bytes.now c.release_from.result c.release_from.ensures)

pub returns-clause-distinct : goal.returns-clause-distinct
returns-clause-distinct c =
    distinct-read c.args.bytes.now c.release_from.result (listing-read c.args.bytes.now c.release_from.result c.release_from.ensures)
