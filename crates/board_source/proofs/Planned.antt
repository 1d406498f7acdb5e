-- The list names of a planned source are plain.
use Rattle.std.proofs.Common.{◌≡◌, ◌≤◌, ℕ, List, [], length, map, All, sym, subst, ap, arith}
use Rattle.std.proofs.lemmas.List.Elements.{All-cons, All-head, All-map, All-tail}
use Rattle.std.proofs.lemmas.List.{get_or-map, length-map}
use Rattle.std.proofs.Common.{get_or}
use Rattle.acq_base.specs.Plan.{IsPlanned, names_of}
use Rattle.acq_base.specs.Uri.{IsSound, list_name}
use Rattle.acq_base.specs.declared.plan.Source.{Source}
use Rattle.acq_base.specs.declared.plan.Target.{Target}
use Rattle.acq_base.specs.declared.uri.Uri.{Uri}
use Rattle.lists_dir.proofs.DiskNames.{list_name_ascii, list_name_some}
use Rattle.board_source.specs.Names.{HasDiskNames, IsAsciiName}

plain : (name : List ℕ) (uri : Uri) → IsSound uri → name ≡ list_name uri → length name ≤ 240 → IsAsciiName name
plain name uri sound is short = subst IsAsciiName (sym is) (record { ascii = list_name_ascii uri sound; nonempty = list_name_some uri sound; short = omega (arith, short, ap length is) })

targets-plain : (source : Source) → IsPlanned source → All (λ target. IsAsciiName target.name.0) source.targets
targets-plain source planned i d below =
    let target : Target = get_or source.targets i d in
    let sound = planned.sound.targets i d below in
    let name : get_or (map (λ target. target.name.0) source.targets) i [] ≡ target.name.0 = get_or-map (λ (t : Target). t.name.0) source.targets i d [] below in
    let within : length (get_or (map (λ target. target.name.0) source.targets) i []) ≤ 240 = All-tail (λ name. length name ≤ 240) source.release_name.0 (map (λ target. target.name.0) source.targets) planned.short i [] (omega (arith, below, length-map source.targets (λ (t : Target). t.name.0))) in
    plain target.name.0 target.uri sound.uri sound.named (omega (arith, within, ap length name))

pub planned-plain : (source : Source) → IsPlanned source → HasDiskNames source
planned-plain source planned =
    All-cons IsAsciiName source.release_name.0 (map (λ target. target.name.0) source.targets)
    (plain source.release_name.0 source.release planned.sound.release planned.sound.named (planned.short 0 [] (omega arith)))
    (All-map IsAsciiName (λ (t : Target). t.name.0) source.targets (targets-plain source planned))

pub all-plain : (sources : List Source) → All IsPlanned sources → All HasDiskNames sources
all-plain sources planned i d below = planned-plain (get_or sources i d) (planned i d below)
