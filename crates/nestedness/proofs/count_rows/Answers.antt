-- `nestedness::count_rows` meets its contract. Assumes nothing.
use mathlib.Core.Path.{refl, ap, ◌∙◌}
use Prim.Native.Nat.{ℕ, ◌≤◌, ◌+◌}
use native.Mathlib.Omega.{arith}
use lib.ListN.{length}
use Rattle.layout.specs.Layout.{limit, read}
use Rattle.properties.proofs.Blocks.{totalled_none, totalled_more, totalled-end}
use Rattle.properties.proofs.Rows.{row-most, rows_are}
use borrow.Author.Rules.{rules}
use Rattle.nestedness.proofs.count_rows.Goals as goal

pub loop-s-init : goal.loop-s-init
loop-s-init c = (search rules, totalled_none _ _ _)

pub overflow_add-c : goal.overflow_add-c
overflow_add-c c = let most : c.row_length-c.result ≤ 3 = omega (arith, c.row_length-c.ensures, row-most (read limit c.args.t.now) c.loop-s.s) in omega (arith, most)

pub loop-s-preserved : goal.loop-s-preserved
loop-s-preserved c = let most : c.row_length-c.result ≤ 3 = omega (arith, c.row_length-c.ensures, row-most (read limit c.args.t.now) c.loop-s.s) in (omega arith, totalled_more c.loop-s.invariant.1 c.row_length-c.ensures (most) refl)

pub returns : goal.returns
returns c =
    totalled-end c.loop-s.invariant.1 _ (omega arith) (omega arith)
    ∙ ap length (rows_are c.args.t.now (c.vertex_count-e.result + 1) (ap (λ (k : ℕ). k + 1) c.vertex_count-e.ensures))
