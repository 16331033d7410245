-- `mark_rows::word_of` meets its contract. Assumes nothing.
use native.Mathlib.Omega.{arith}
use Rattle.graph.specs.Reach.{matrix}
use Rattle.mark_rows.proofs.Rows.{made_none, made_more, made-end}
use Rattle.mark_rows.proofs.word_of.Goals as goal

pub word_end-end-requires : goal.word_end-end-requires
word_end-end-requires c = omega arith

pub loop-b-init : goal.loop-b-init
loop-b-init c = (omega (arith, c.word_end-end.ensures.begins), made_none (matrix c.args.m.now c.args.x) c.args.first)

pub overflow_mul-word : goal.overflow_mul-word
overflow_mul-word c = omega arith

pub overflow_add-word : goal.overflow_add-word
overflow_add-word c = omega arith

pub overflow_add-word-in-loop-b : goal.overflow_add-word-in-loop-b
overflow_add-word-in-loop-b c = omega arith

pub bounds-m-x : goal.bounds-m-x
bounds-m-x c = omega arith

pub overflow_cast-word : goal.overflow_cast-word
overflow_cast-word c = tt

pub overflow_shl-word : goal.overflow_shl-word
overflow_shl-word c = omega (arith, c.word_end-end.ensures.within)

pub loop-b-preserved : goal.loop-b-preserved
loop-b-preserved c =
    (omega arith, made_more (matrix c.args.m.now c.args.x) c.args.first c.loop-b.b c.loop-b.word (omega (arith, c.word_end-end.ensures.within)) c.loop-b.invariant.1)

pub returns : goal.returns
returns c = made-end _ _ _ _ _ _ _ c.word_end-end.ensures c.loop-b.invariant.1 c.loop-b.invariant.0 (omega arith)
