-- What is said on one connection after another, where port and tree tell.
use Rattle.std.specs.Prelude.{◌≡◌, ◌⊎◌, ℕ, ◌≤◌, List, [], ◌∷◌, ◌++◌, length, Option, Some, IfSome}
use Rattle.acq_outside.specs.Count.{Rose}
use Rattle.acq_outside.specs.Tree.{TreeFiles}
use Rattle.acq_outside.specs.declared.tree.Tree.{Ghosts as TreeGhosts}
use Rattle.acq_net.specs.Talk.{Talk}
use Rattle.acq_net.specs.declared.port.Port.{Ghosts as PortGhosts}
use Rattle.tree_serve.specs.Talks.{IsCut, IsServed}

pub record IsServedSome (root : List ℕ) (files : TreeFiles) (talk : Talk) : Type 0 where
  pub count : ℕ
  pub served : IsServed root count files talk

-- it was served, or cut short, and then the port's count rose, or the tree's
abbrev pub IsServedOrCut : TreeFiles → List ℕ → ℕ → ℕ → Talk → ℕ → ℕ → Type 0
IsServedOrCut files root port tree talk port_after tree_after =
    IsServedSome root files talk ⊎ (IsCut root files talk × (Rose port port_after ⊎ Rose tree tree_after))

-- Each of these connections, the latest first, was served or cut short. Both counts run along, from the oldest to the latest.
abbrev pub AllServed : TreeFiles → List ℕ → ℕ → ℕ → List Talk → ℕ → ℕ → Type 0
AllServed files root port tree [] port_after tree_after = (port ≤ port_after) × (tree ≤ tree_after)
AllServed files root port tree (talk ∷ talks) port_after tree_after =
    (p : ℕ) × (t : ℕ) × AllServed files root port tree talks p t × (p ≤ port_after) × (t ≤ tree_after) × IsServedOrCut files root p t talk port_after tree_after

-- one more connection was accepted and served, or cut short
pub record ServesNext (files : TreeFiles) (root : List ℕ) (former : List Talk) (port tree : ℕ) (after : Option (List Talk)) (port_after tree_after : ℕ) : Type 0 where
  pub talk : Talk
  pub is : after ≡ Some (talk ∷ former)
  pub served : IsServedOrCut files root port tree talk port_after tree_after

-- so many more were
pub record ServesAll (files : TreeFiles) (root : List ℕ) (connections : ℕ) (former : List Talk) (port tree : ℕ) (after : Option (List Talk)) (port_after tree_after : ℕ) : Type 0 where
  pub latest : List Talk
  pub is : after ≡ Some (latest ++ former)
  pub long : length latest ≡ connections
  pub served : AllServed files root port tree latest port_after tree_after

-- In the words of a port and a tree.
abbrev pub HasServedNext : {P T : Type 0} → PortGhosts P → TreeGhosts T → List ℕ → P → P → T → T → Type 0
HasServedNext p t root port port_after tree tree_after =
    IfSome (t.files tree) (λ files. IfSome (p.talks port) (λ former. ServesNext files root former (p.faults port) (t.faults tree) (p.talks port_after) (p.faults port_after) (t.faults tree_after)))

abbrev pub HasServedAll : {P T : Type 0} → PortGhosts P → TreeGhosts T → List ℕ → ℕ → P → P → T → T → Type 0
HasServedAll p t root connections port port_after tree tree_after =
    IfSome (t.files tree) (λ files. IfSome (p.talks port) (λ former. ServesAll files root connections former (p.faults port) (t.faults tree) (p.talks port_after) (p.faults port_after) (t.faults tree_after)))
