-- What was said on the connections that peers made, one after another: the latest first.
use Rattle.std.specs.Prelude.{◌≡◌, List, [], ◌∷◌, ◌++◌, ℕ, Option, option_map}
use Rattle.acq_net.specs.Talk.{Talk, adds, sends, silent}

-- one more connection, on which nothing was said yet
abbrev pub accepts : List Talk → List Talk
accepts talks = silent ∷ talks

-- something is done to the first one, if there is one
abbrev pub on_first : {A : Type 0} → (A → A) → List A → List A
on_first f [] = []
on_first f (first ∷ others) = f first ∷ others

-- on the latest connection a front of these bytes was sent
pub record SendsPartOfLatest (bytes : List ℕ) (before after : Option (List Talk)) : Type 0 where
  pub front : List ℕ
  pub rest : List ℕ
  pub is : bytes ≡ front ++ rest
  pub sent : after ≡ option_map (on_first (sends front)) before

-- what was received on the latest connection is what was received there before, and maybe more
pub record ReceivesPartOfLatest (before after : Option (List Talk)) : Type 0 where
  pub bytes : List ℕ
  pub received : after ≡ option_map (on_first (adds bytes)) before
