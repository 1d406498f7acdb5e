-- Packages, sources and commands, one more at a time.
use Rattle.std.proofs.Common.{◌≡◌, refl, sym, ap, ◌∙◌, ℕ, zero, suc, ◌+◌, List, [], ◌∷◌, ◌++◌, append_assoc, arith}
use Rattle.acq_base.specs.Mirror.{MirrorMap}
use Rattle.mirror_maker.specs.Draws.{drawn, next}
use Rattle.mirror_maker.specs.Lists.{lists_of}
use Rattle.mirror_maker.specs.Packages.{after_source, behind, packages, packages_from}
use Rattle.mirror_maker.specs.Rows.{first_rows, second_rows}
use Rattle.mirror_maker.specs.Made.{first_before, second_before, state_of}
use Rattle.mirror_maker.specs.declared.packages.Package.{Package}

-- one package less is left, and stands behind the others
pub one_drawn : (left fewer state later : ℕ) (one : Package) (done more all : List Package) → left ≡ suc fewer → later ≡ next (next state)
    → one.version ≡ drawn state 1000 → one.size ≡ drawn (next state) 1000000 → more ≡ done ++ one ∷ [] → done ++ packages left state ≡ all → more ++ packages fewer later ≡ all
unfolding packages
one_drawn left fewer state later one done more all is goes version size grown were =
    let first : Package = record { version = drawn state 1000; size = drawn (next state) 1000000 } in
    let same : one ≡ first = ap (λ (v : ℕ). record { version = v; size = one.size }) version ∙ ap (λ (s : ℕ). record { version = drawn state 1000; size = s }) size in
    ap (λ (l : List Package). l ++ packages fewer later) grown ∙ append_assoc done (one ∷ []) (packages fewer later)
    ∙ ap (λ (o : Package). done ++ o ∷ packages fewer later) same ∙ ap (λ (s : ℕ). done ++ first ∷ packages fewer s) goes
    ∙ ap (λ (n : ℕ). done ++ packages n state) (sym is) ∙ were

pub one_behind : (left fewer state later all : ℕ) → left ≡ suc fewer → later ≡ next (next state) → behind left state ≡ all → behind fewer later ≡ all
unfolding behind
one_behind left fewer state later all is goes were = ap (behind fewer) goes ∙ ap (λ (n : ℕ). behind n state) (sym is) ∙ were

pub none_left : (state : ℕ) (done all : List Package) → done ++ packages zero state ≡ all → done ≡ all
unfolding packages
none_left state done all were = sym (none done) ∙ were
  where
    none : (l : List Package) → l ++ [] ≡ l
    none [] = refl
    none (x ∷ l) = ap (λ (m : List Package). x ∷ m) (none l)

pub none_behind : (state all : ℕ) → behind zero state ≡ all → state ≡ all
unfolding behind
none_behind state all were = were

-- one source more
pub state_more : (n source before later : ℕ) → before ≡ state_of n source → later ≡ after_source before → later ≡ state_of n (source + 1)
unfolding state_of
state_more n source before later was goes =
    let on : suc source ≡ source + 1 = omega arith in
    goes ∙ ap after_source was ∙ ap (state_of n) on

pub first_more : (n source state : ℕ) (done more : MirrorMap) → done ≡ first_before n source → state ≡ state_of n source
    → more ≡ done ++ first_rows source (lists_of (packages_from state)) → more ≡ first_before n (source + 1)
unfolding first_before
first_more n source state done more was at grown =
    let on : suc source ≡ source + 1 = omega arith in
    grown ∙ ap (λ (l : MirrorMap). l ++ first_rows source (lists_of (packages_from state))) was
    ∙ ap (λ (s : ℕ). first_before n source ++ first_rows source (lists_of (packages_from s))) at ∙ ap (first_before n) on

pub second_more : (n source state : ℕ) (done more : MirrorMap) → done ≡ second_before n source → state ≡ state_of n source
    → more ≡ done ++ second_rows source (lists_of (packages_from state)) → more ≡ second_before n (source + 1)
unfolding second_before
second_more n source state done more was at grown =
    let on : suc source ≡ source + 1 = omega arith in
    grown ∙ ap (λ (l : MirrorMap). l ++ second_rows source (lists_of (packages_from state))) was
    ∙ ap (λ (s : ℕ). second_before n source ++ second_rows source (lists_of (packages_from s))) at ∙ ap (second_before n) on
