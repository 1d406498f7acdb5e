use Rattle.http_requests.proofs.Parsed.{one_head}
use Rattle.http_requests.proofs.laws.one_request.Goals as goal

pub returns-clause-head : goal.returns-clause-head
returns-clause-head c = one_head
