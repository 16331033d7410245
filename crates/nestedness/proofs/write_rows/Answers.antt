-- `nestedness::write_rows` meets its contract. Assumes nothing.
use mathlib.Core.Path.{ap, ◌∙◌}
use mathlib.Core.List.{List}
use Prim.Native.Nat.{ℕ, ◌≤◌, ◌+◌}
use native.Mathlib.Omega.{arith}
use lib.ListN.{length}
use Rattle.lists.specs.Lists.{over}
use Rattle.layout.specs.Layout.{limit, read}
use Rattle.lookups.proofs.Laid.{laid_none, laid-room, laid-fits, laid_more, laid_end}
use Rattle.properties.specs.State.{row_if}
use Rattle.properties.proofs.Rows.{rows_are}
use borrow.Author.Rules.{rules}
use Rattle.nestedness.proofs.write_rows.Goals as goal

pub loop-s-init : goal.loop-s-init
loop-s-init c = (search rules, laid_none _ _ _)

pub offset_bounds-out-c : goal.offset_bounds-out-c
offset_bounds-out-c c = let room : c.loop-s.c + length (row_if (read limit c.args.t.now) c.loop-s.s) ≤ length c.loop-s.out = laid-room c.loop-s.invariant.1 (c.vertex_count-e.result + 1) (omega arith)
    (omega (arith, ap length (rows_are c.args.t.now (c.vertex_count-e.result + 1) (ap (λ (k : ℕ). k + 1) c.vertex_count-e.ensures)), c.requires.t_in_bounds)) in omega (arith, room)

pub slice_bounds-write_row-count : goal.slice_bounds-write_row-count
slice_bounds-write_row-count c = let room : c.loop-s.c + length (row_if (read limit c.args.t.now) c.loop-s.s) ≤ length c.loop-s.out = laid-room c.loop-s.invariant.1 (c.vertex_count-e.result + 1) (omega arith)
    (omega (arith, ap length (rows_are c.args.t.now (c.vertex_count-e.result + 1) (ap (λ (k : ℕ). k + 1) c.vertex_count-e.ensures)), c.requires.t_in_bounds)) in omega (arith, room)

pub slice_bounds-write_row-start : goal.slice_bounds-write_row-start
slice_bounds-write_row-start c = let room : c.loop-s.c + length (row_if (read limit c.args.t.now) c.loop-s.s) ≤ length c.loop-s.out = laid-room c.loop-s.invariant.1 (c.vertex_count-e.result + 1) (omega arith)
    (omega (arith, ap length (rows_are c.args.t.now (c.vertex_count-e.result + 1) (ap (λ (k : ℕ). k + 1) c.vertex_count-e.ensures)), c.requires.t_in_bounds)) in omega (arith, room)

pub write_row-w-requires : goal.write_row-w-requires
write_row-w-requires c = let room : c.loop-s.c + length (row_if (read limit c.args.t.now) c.loop-s.s) ≤ length c.loop-s.out = laid-room c.loop-s.invariant.1 (c.vertex_count-e.result + 1) (omega arith)
    (omega (arith, ap length (rows_are c.args.t.now (c.vertex_count-e.result + 1) (ap (λ (k : ℕ). k + 1) c.vertex_count-e.ensures)), c.requires.t_in_bounds)) in let c = c in let c = c in
    record { formed = c.requires.formed; classed = c.requires.classed; s_le_vertex_limit = (omega (arith, c.requires.formed.shape.vertices-le, c.vertex_count-e.ensures), laid-fits c.loop-s.invariant.1 _ (room)) }

pub overflow_add-c : goal.overflow_add-c
overflow_add-c c = let room : c.loop-s.c + length (row_if (read limit c.args.t.now) c.loop-s.s) ≤ length c.loop-s.out = laid-room c.loop-s.invariant.1 (c.vertex_count-e.result + 1) (omega arith)
    (omega (arith, ap length (rows_are c.args.t.now (c.vertex_count-e.result + 1) (ap (λ (k : ℕ). k + 1) c.vertex_count-e.ensures)), c.requires.t_in_bounds)) in omega (arith, room, c.write_row-w.ensures.words, c.loop-s.invariant.1.same)

pub loop-s-preserved : goal.loop-s-preserved
loop-s-preserved c = let room : c.loop-s.c + length (row_if (read limit c.args.t.now) c.loop-s.s) ≤ length c.loop-s.out = laid-room c.loop-s.invariant.1 (c.vertex_count-e.result + 1) (omega arith)
    (omega (arith, ap length (rows_are c.args.t.now (c.vertex_count-e.result + 1) (ap (λ (k : ℕ). k + 1) c.vertex_count-e.ensures)), c.requires.t_in_bounds)) in let w = c.write_row-w.ensures in
    (omega arith, laid_more c.loop-s.invariant.1 _ w.words (room) w.wrote)

pub shape_of-out : goal.shape_of-out
shape_of-out c = c.loop-s.invariant.1.same

pub returns : goal.returns
returns c =
    laid_end c.loop-s.invariant.1 _ (omega arith) (omega arith)
    ∙ ap (λ (xs : List ℕ). over xs c.args.out.now) (rows_are c.args.t.now (c.vertex_count-e.result + 1) (ap (λ (k : ℕ). k + 1) c.vertex_count-e.ensures))
