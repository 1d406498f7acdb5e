use Rattle.std.proofs.Common.{◌≡◌, ◌<◌, ◌+◌, List, Option, None, length, get_or, refl, rules, arith}
use Rattle.std.specs.Prelude.{option_map}
use Rattle.std.proofs.Math.ListN.{set}
use Rattle.item_graph.specs.declared.item.Item.{Item}
use Rattle.board_model.specs.Slots.{item_after}
use Rattle.board_source.specs.Listed.{count_asking, is_asking, one_if}
use Rattle.board_source.proofs.Changes.{count-room, count-set, past-standings, put-count, put-standings, read-there, taken-count}
use Rattle.board_source.proofs.lists.Lists.answer.Goals as goal

pub returns-then-place-len : goal.returns-then-place-len
returns-then-place-len c =
    past-standings (option_map (item_after (record { lane = c.args.lane; closed = c.args.closed }))) c.args.self.now.items.items c.args.place (search (rules, arith))

pub without-self-requires : goal.without-self-requires
without-self-requires c =
    let xs : List (Option Item) = c.args.self.now.items.items in
    let d : Option Item = c.replace-old.result in
    let within : c.args.place < length xs = search (rules, arith) in
    let is : d ≡ get_or xs c.args.place d = read-there xs c.args.place d c.index_mut.result.now c.replace-old.ensures.value c.index_mut.ensures.value in
    let sum : count_asking (set xs c.args.place None) + one_if (is_asking d) ≡ count_asking xs + 0 = count-set xs c.args.place d None within is in
    omega (arith, sum, c.args.self.now.counted)

pub with-self-requires : goal.with-self-requires
with-self-requires c =
    let xs : List (Option Item) = c.args.self.now.items.items in
    let d : Option Item = c.replace-old.result in
    let within : c.args.place < length xs = search (rules, arith) in
    let few : length xs < 18446744073709551616 = search (rules, arith) in
    let is : d ≡ get_or xs c.args.place d = read-there xs c.args.place d c.index_mut.result.now c.replace-old.ensures.value c.index_mut.ensures.value in
    let less = taken-count xs c.args.place c.args.self.now.asking c.without-self.result d None within is refl c.args.self.now.counted c.without-self.ensures in
    let room = count-room xs c.args.place within in
    omega (arith, less, room, few)

pub invariant_of-self : goal.invariant_of-self
invariant_of-self c =
    let xs : List (Option Item) = c.args.self.now.items.items in
    let d : Option Item = c.replace-old.result in
    let within : c.args.place < length xs = search (rules, arith) in
    let is : d ≡ get_or xs c.args.place d = read-there xs c.args.place d c.index_mut.result.now c.replace-old.ensures.value c.index_mut.ensures.value in
    record { counted = taken-count xs c.args.place c.args.self.now.asking c.without-self.result d c.replace-old.new.dest within is c.replace-old.ensures.after c.args.self.now.counted c.without-self.ensures }

pub invariant_of-self-2 : goal.invariant_of-self-2
invariant_of-self-2 c =
    let xs : List (Option Item) = c.args.self.now.items.items in
    let d : Option Item = c.replace-old.result in
    let within : c.args.place < length xs = search (rules, arith) in
    let is : d ≡ get_or xs c.args.place d = read-there xs c.args.place d c.index_mut.result.now c.replace-old.ensures.value c.index_mut.ensures.value in
    record {
      counted = put-count xs c.args.place c.args.self.now.asking c.without-self.result c.with-self.result d c.replace-old.new.dest c.in_ok-new.new c.replace.new.dest within is c.replace.ensures.after
          c.args.self.now.counted c.without-self.ensures c.with-self.ensures;
    }

pub returns : goal.returns
returns c =
    let xs : List (Option Item) = c.args.self.now.items.items in
    let d : Option Item = c.replace-old.result in
    let within : c.args.place < length xs = search (rules, arith) in
    let is : d ≡ get_or xs c.args.place d = read-there xs c.args.place d c.index_mut.result.now c.replace-old.ensures.value c.index_mut.ensures.value in
    put-standings (option_map (item_after (record { lane = c.args.lane; closed = c.args.closed }))) xs c.args.place d c.replace-old.new.dest c.in_ok-new.new c.replace.new.dest within is c.replace.ensures.after c.in_ok-new.ensures
