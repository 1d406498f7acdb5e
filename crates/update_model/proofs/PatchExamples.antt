-- Worked examples of patches, computed by the definitions. What the texts of an Index and of scripts say is a premise.
use Rattle.std.proofs.Common.{◌≡◌, ℕ, List, [], ◌∷◌, ◌++◌, Bool, true, false, Some, None, refl, codes, Ok, Err}
use Rattle.acq_base.specs.Mirror.{MirrorMap}
use Rattle.acq_base.specs.Sum.{sum_of}
use Rattle.acq_base.specs.declared.fetch.Answer.TheVariants as answers
use Rattle.acq_base.specs.declared.sum.Sum.{Sum}
use Rattle.acq_base.specs.declared.uri.Uri.{Uri}
use Rattle.by_hash.specs.Candidates.{by_hash_uri}
use Rattle.ed_apply.specs.Edits.{applied}
use Rattle.ed_apply.specs.declared.script.Script.{Script}
use Rattle.pdiff_index.specs.Chain.{links, links_from}
use Rattle.pdiff_index.specs.Index.{index_of}
use Rattle.pdiff_index.specs.declared.error.IndexError.{IndexError}
use Rattle.pdiff_index.specs.declared.error.NoChain.{NoChain}
use Rattle.pdiff_index.specs.declared.error.NoChain.TheVariants.{WrongCurrent, NoEntry, NoPatch, Limit}
use Rattle.pdiff_index.specs.declared.index.Index.{Index}
use Rattle.pdiff_index.specs.declared.index.Step.{Step}
use Rattle.release_file.specs.Release.{listed_sum, same_sum}
use Rattle.update_model.specs.Obtained.{obtain}
use Rattle.ed_apply.specs.Grammar.{script_of}
use Rattle.update_model.specs.Walks.{target_walk}
use Rattle.update_model.specs.Wanted.{want, index_path}
use Rattle.update_model.specs.declared.wanted.Wanted.{Wanted}
use Rattle.update_model.specs.declared.ask.Body.TheVariants.{Bytes}
use Rattle.update_model.specs.declared.end.End.TheVariants.{Got}
use Rattle.update_model.proofs.Sample.{at, target, source, settings, sum_as, release, list_path, asks, plain_from}

abbrev patch_at : List ℕ → Uri
patch_at name = at (codes "/d/dists/s/main/binary-amd64/Packages.diff/" ++ name)

-- an installed list of 6 bytes, and the wanted one of 12, whose Release also lists an Index of 7 bytes
abbrev have : Sum
have = sum_as 6 (6 ∷ [])

abbrev grown : Wanted
grown =
    want source (record (release false 12 (12 ∷ [])) {
      files =
          record { path = list_path; sum = sum_as 12 (12 ∷ []) }
          ∷ record { path = index_path list_path; sum = sum_as 7 (1 ∷ []) } ∷ [];
    })
    (record settings { size_limit = 200 }) target (sum_as 12 (12 ∷ []))

abbrev p1 : Step
p1 = record { name = codes "p1"; sum = sum_as 7 (21 ∷ []) }

abbrev p2 : Step
p2 = record { name = codes "p2"; sum = sum_as 11 (22 ∷ []) }

-- the history leads from the installed list by p1, and then by p2
abbrev history : Bool → Index
history merged = record {
  current = sum_as 12 (12 ∷ []);
  merged = merged;
  history = record { name = codes "p1"; sum = have } ∷ record { name = codes "p2"; sum = sum_as 8 (8 ∷ []) } ∷ [];
  patches = p1 ∷ p2 ∷ [];
}

one_by_one : links (history false) have grown.sum 100 200 ≡ Ok (p1 ∷ p2 ∷ [])
unfolding links links_from
one_by_one = refl

at_once : links (history true) have grown.sum 100 200 ≡ Ok (p1 ∷ [])
unfolding links links_from
at_once = refl

another_current : links (history false) have have 100 200 ≡ Err WrongCurrent
unfolding links links_from
another_current = refl

no_entry : links (history false) (sum_as 5 (5 ∷ [])) grown.sum 100 200 ≡ Err NoEntry
unfolding links links_from
no_entry = refl

no_patch : links (record (history false) { patches = p1 ∷ [] }) have grown.sum 100 200 ≡ Err (NoPatch (codes "p2"))
unfolding links links_from
no_patch = refl

-- 18 bytes are more than 12 times 100 percent
past_the_limit : links (history false) have grown.sum 100 100 ≡ Err Limit
unfolding links links_from
past_the_limit = refl

-- ---- what is asked

abbrev index_text : List ℕ
index_text = codes "1234567"

abbrev p1_text : List ℕ
p1_text = codes "7654321"

abbrev p2_text : List ℕ
p2_text = codes "12345654321"

abbrev mirror : MirrorMap
mirror =
    (patch_at (codes "Index"), answers.Served index_text)
    ∷ (patch_at (codes "p1"), answers.Served p1_text)
    ∷ (patch_at (codes "p2"), answers.Served p2_text) ∷ []

abbrev index_ask : List ℕ × ℕ
index_ask = ((patch_at (codes "Index")).path, 0)

abbrev p1_ask : List ℕ × ℕ
p1_ask = ((patch_at (codes "p1")).path, 0)

abbrev p2_ask : List ℕ × ℕ
p2_ask = ((patch_at (codes "p2")).path, 0)

-- the Index and both patches, where they lead to the list
patched_asks : (file middle last : List ℕ) (index : Index) (a b : Script)
    → same_sum (sum_of file) grown.sum ≡ false
    → same_sum (sum_of index_text) (sum_as 7 (1 ∷ [])) ≡ true
    → index_of index_text ≡ Ok index
    → links index (sum_of file) grown.sum 100 200 ≡ Ok (p1 ∷ p2 ∷ [])
    → same_sum (sum_of p1_text) p1.sum ≡ true
    → script_of p1_text ≡ Ok a → applied file a ≡ Some middle
    → same_sum (sum_of p2_text) p2.sum ≡ true
    → script_of p2_text ≡ Ok b → applied middle b ≡ Some last
    → same_sum (sum_of last) grown.sum ≡ true
    → asks mirror [] (target_walk (Some file) 0 grown) ≡ index_ask ∷ p1_ask ∷ p2_ask ∷ []
unfolding by_hash_uri listed_sum
patched_asks file middle last index a b h1 h2 h3 h4 h5 h6 h7 h8 h9 h10 h11 =
    rw h1 (rw h2 (rw h3 (rw h4 (rw h5 (rw h6 (rw h7 (rw h8 (rw h9 (rw h10 (rw h11 refl))))))))))

-- and the whole list behind them, where one byte of the second patch is wrong
wrong_patch_asks : (file middle : List ℕ) (index : Index) (a : Script)
    → same_sum (sum_of file) grown.sum ≡ false
    → same_sum (sum_of index_text) (sum_as 7 (1 ∷ [])) ≡ true
    → index_of index_text ≡ Ok index
    → links index (sum_of file) grown.sum 100 200 ≡ Ok (p1 ∷ p2 ∷ [])
    → same_sum (sum_of p1_text) p1.sum ≡ true
    → script_of p1_text ≡ Ok a → applied file a ≡ Some middle
    → same_sum (sum_of p2_text) p2.sum ≡ false
    → asks mirror [] (target_walk (Some file) 0 grown) ≡ index_ask ∷ p1_ask ∷ p2_ask ∷ plain_from 0 ∷ []
unfolding by_hash_uri listed_sum
wrong_patch_asks file middle index a h1 h2 h3 h4 h5 h6 h7 h8 = rw h1 (rw h2 (rw h3 (rw h4 (rw h5 (rw h6 (rw h7 (rw h8 refl)))))))

-- an Index that isn't there, or is none, costs itself alone, and so does one without a chain, whatever the cause
absent_index : (file : List ℕ) → same_sum (sum_of file) grown.sum ≡ false → asks [] [] (target_walk (Some file) 0 grown) ≡ index_ask ∷ plain_from 0 ∷ []
unfolding by_hash_uri listed_sum
absent_index file h1 = rw h1 refl

no_index : (file : List ℕ) (why : IndexError)
    → same_sum (sum_of file) grown.sum ≡ false
    → same_sum (sum_of index_text) (sum_as 7 (1 ∷ [])) ≡ true
    → index_of index_text ≡ Err why
    → asks mirror [] (target_walk (Some file) 0 grown) ≡ index_ask ∷ plain_from 0 ∷ []
unfolding by_hash_uri listed_sum
no_index file why h1 h2 h3 = rw h1 (rw h2 (rw h3 refl))

no_chain : (file : List ℕ) (index : Index) (why : NoChain)
    → same_sum (sum_of file) grown.sum ≡ false
    → same_sum (sum_of index_text) (sum_as 7 (1 ∷ [])) ≡ true
    → index_of index_text ≡ Ok index
    → links index (sum_of file) grown.sum 100 200 ≡ Err why
    → asks mirror [] (target_walk (Some file) 0 grown) ≡ index_ask ∷ plain_from 0 ∷ []
unfolding by_hash_uri listed_sum
no_chain file index why h1 h2 h3 h4 = rw h1 (rw h2 (rw h3 (rw h4 refl)))

-- a patch that doesn't apply is the last of them
outside_patch : (file : List ℕ) (index : Index) (a : Script)
    → same_sum (sum_of file) grown.sum ≡ false
    → same_sum (sum_of index_text) (sum_as 7 (1 ∷ [])) ≡ true
    → index_of index_text ≡ Ok index
    → links index (sum_of file) grown.sum 100 200 ≡ Ok (p1 ∷ p2 ∷ [])
    → same_sum (sum_of p1_text) p1.sum ≡ true
    → script_of p1_text ≡ Ok a → applied file a ≡ None
    → asks mirror [] (target_walk (Some file) 0 grown) ≡ index_ask ∷ p1_ask ∷ plain_from 0 ∷ []
unfolding by_hash_uri listed_sum
outside_patch file index a h1 h2 h3 h4 h5 h6 h7 = rw h1 (rw h2 (rw h3 (rw h4 (rw h5 (rw h6 (rw h7 refl))))))

-- where no list is installed, no Index is asked
not_installed : asks mirror [] (target_walk None 0 grown) ≡ plain_from 0 ∷ []
unfolding by_hash_uri listed_sum
not_installed = refl

-- merged patches: one leads to the list
merged_file : (file last : List ℕ) (index : Index) (a : Script)
    → same_sum (sum_of file) grown.sum ≡ false
    → same_sum (sum_of index_text) (sum_as 7 (1 ∷ [])) ≡ true
    → index_of index_text ≡ Ok index
    → links index (sum_of file) grown.sum 100 200 ≡ Ok (p1 ∷ [])
    → same_sum (sum_of p1_text) p1.sum ≡ true
    → script_of p1_text ≡ Ok a → applied file a ≡ Some last
    → same_sum (sum_of last) grown.sum ≡ true
    → obtain mirror (Some file) [] grown ≡ Got (Bytes last)
unfolding by_hash_uri listed_sum
merged_file file last index a h1 h2 h3 h4 h5 h6 h7 h8 = rw h1 (rw h2 (rw h3 (rw h4 (rw h5 (rw h6 (rw h7 (rw h8 (rw h8 refl))))))))
