-- `strip_vertex::strip_records` meets its contract: `Stripped` at each record. Assumes nothing.
use mathlib.Core.Path.{◌≡◌}
use native.Mathlib.Omega.{arith}
use borrow.Author.Rules.{rules}
use Rattle.layout.specs.Layout.{limit}
use Rattle.edits.proofs.Rewritten.{count_same}
use Rattle.edits.proofs.Stripped.{stripped-none, stripped-more}
use Rattle.strip_vertex.proofs.strip_records.Goals as goal

pub loop-j-init : goal.loop-j-init
loop-j-init c = (search rules, stripped-none _ _ _)

pub strip_record-c-requires : goal.strip_record-c-requires
strip_record-c-requires c = (
  search rules,
  (
    search rules,
    (
      search rules,
      count_same limit c.args.t.now _ c.loop-j.j c.loop-j.k c.loop-j.t c.requires.formed c.loop-j.invariant.1 (omega arith),
    ),
  ),
)

pub loop-j-preserved : goal.loop-j-preserved
loop-j-preserved c = (
  search rules,
  stripped-more limit c.args.v c.args.t.now c.loop-j.j c.loop-j.k c.loop-j.t c.requires.formed c.loop-j.invariant.1 (omega arith)
      c.strip_record-c.new.t c.strip_record-c.result c.next_place-k.result c.strip_record-c.ensures.0 c.strip_record-c.ensures.1 c.next_place-k.ensures,
)

pub shape_of-t : goal.shape_of-t
shape_of-t c = c.loop-j.invariant.1.same

pub returns : goal.returns
returns c =
    let e : c.loop-j.j ≡ c.args.m = omega arith in
    rw e at c.loop-j.invariant.1
