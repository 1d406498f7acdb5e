use Rattle.std.proofs.Common.{◌≡◌, sym, subst, All, IsTrue}
use Rattle.acq_outside.specs.Disk.{IsName}
use Rattle.acq_outside.specs.History.{FileRows, names_differ}
use Rattle.acq_memory.proofs.mem_disk.MemDisk.takes.Goals as goal

pub returns-then-are_names : goal.returns-then-are_names
returns-then-are_names c =
    let P : FileRows → Type 0 = λ files. All (λ file. IsName file.0) files in
    let named : P c.args.files.now = subst P c.as_slice.ensures (c.are_names.ensures.0 c.if-are_names.true) in
    let same : c.names_differ.result ≡ names_differ c.args.files.now = cc in
    (λ differ. record { names = named; distinct = cc }, λ start. let distinct : IsTrue (names_differ c.args.files.now) = start.distinct in cc)

pub returns-else-are_names : goal.returns-else-are_names
returns-else-are_names c =
    let P : FileRows → Type 0 = λ files. All (λ file. IsName file.0) files in
    (λ none. absurd cc, λ start. c.are_names.ensures.1 (subst P (sym c.as_slice.ensures) start.names))
