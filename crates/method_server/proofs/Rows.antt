-- Texts that the definitions give, computed.
use Rattle.std.proofs.Common.{◌≡◌, refl, [], ◌∷◌, ◌++◌, Some, None, codes}
use Rattle.std.specs.Fmt.{digits}
use Rattle.acq_base.specs.declared.fetch.NotServed.TheVariants.{Absent}
use Rattle.acq_base.specs.declared.uri.Scheme.TheVariants.{File}
use Rattle.method_messages.specs.declared.message.Message.{Message}
use Rattle.method_messages.specs.Written.{written}
use Rattle.method_server.specs.Asked.{job_of, value_of, max_of, wanted_of}
use Rattle.method_server.specs.Answers.{general_failure, failure, not_served, start}
use Rattle.method_server.specs.Serving.{text_so_far}
use Rattle.method_server.specs.declared.wish.Wish.{Wish}

-- an input without bytes
capabilities_alone : text_so_far [] [] None ≡ codes "100 Capabilities" ++ 10 ∷ codes "Version: 1.0" ++ 10 ∷ 10 ∷ []
unfolding written
capabilities_alone = refl

-- an input of `60`
cut_off : general_failure 0 ≡ codes "401 General Failure" ++ 10 ∷ codes "Message: bad message 0" ++ 10 ∷ 10 ∷ []
unfolding general_failure written digits
cut_off = refl

asked_for_b : Wish
asked_for_b = record {
  text = codes "file:/srv/b";
  job = job_of (record { scheme = File; host = []; port = 0; path = codes "/srv/b" }) 18446744073709551615;
  wanted = None;
  name = codes "/srv/b";
}

-- a file that isn't there
no_file : not_served asked_for_b (Absent 404) ≡ codes "400 URI Failure" ++ 10 ∷ codes "URI: file:/srv/b" ++ 10 ∷ codes "Message: status 404" ++ 10 ∷ 10 ∷ []
unfolding asked_for_b failure written digits
no_file = refl

-- one that was served
served_first : start asked_for_b ≡ codes "200 URI Start" ++ 10 ∷ codes "URI: file:/srv/b" ++ 10 ∷ 10 ∷ []
unfolding asked_for_b start written
served_first = refl

-- names in another case, of which the first counts
request : Message
request = record { number = 600; text = codes "URI Acquire"; fields = (codes "uRI", codes "file:/srv/a") ∷ (codes "URI", codes "file:/srv/b") ∷ (codes "maximum-size", codes "03") ∷ [] }

first_name : value_of (codes "URI") request ≡ Some (codes "file:/srv/a")
unfolding request
first_name = refl

size_of_three : max_of request ≡ Some 3
unfolding request
size_of_three = refl

no_digest : wanted_of request ≡ Some None
unfolding request
no_digest = refl
