use Rattle.served_link.proofs.Law.{heard_as_served}
use Rattle.served_link.proofs.Mirrors.{all_http, mirror_answers}
use Rattle.served_link.proofs.laws.answers_are_heard.Goals as goal

pub returns-clause-heard : goal.returns-clause-heard
returns-clause-heard c = heard_as_served

pub returns-clause-map : goal.returns-clause-map
returns-clause-map c = mirror_answers

pub returns-clause-http : goal.returns-clause-http
returns-clause-http c = all_http
