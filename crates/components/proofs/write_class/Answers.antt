-- `components::write_class` meets its contract. Assumes nothing.
use native.Mathlib.Omega.{arith}
use lib.ListN.{length-set}
use Rattle.components.proofs.Blocks.{class-lent, class-written, class_same}
use Rattle.components.specs.Parts.{in_class}
use Rattle.layout.specs.Layout.{limit, read}
use Rattle.steps.specs.Matrices.{number_of}
use borrow.Author.Rules.{rules}
use Rattle.components.proofs.write_class.Goals as goal

pub slice_bounds-write_members-count : goal.slice_bounds-write_members-count
slice_bounds-write_members-count c = omega (arith, length-set c.args.part.now 0 c.class_size-size.result)

pub slice_bounds-write_members-start : goal.slice_bounds-write_members-start
slice_bounds-write_members-start c = omega (arith, length-set c.args.part.now 0 c.class_size-size.result)

pub write_members-requires : goal.write_members-requires
write_members-requires c = record { formed = search rules; n_value = (search rules, search class-lent) }

pub shape_of-part : goal.shape_of-part
shape_of-part c =
    let z = c.class_size-size in
    let w = c.write_members in
    class_same (number_of (read limit c.args.t.now)) (in_class c.args.ids.now c.args.k) c.args.n z.result z.ensures c.args.part.now (omega arith) w.new.part w.ensures

pub returns : goal.returns
returns c =
    let z = c.class_size-size in
    let w = c.write_members in
    class-written (number_of (read limit c.args.t.now)) (in_class c.args.ids.now c.args.k) c.args.n z.result z.ensures c.args.part.now (omega arith) w.new.part w.ensures
