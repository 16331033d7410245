-- `full_entries::write_heads` meets its contract. Assumes nothing.
use mathlib.Core.Path.{sym, ◌∙◌}
use Prim.Native.Nat.{ℕ, ◌+◌, ◌≤◌, ◌<◌}
use native.Mathlib.Omega.{arith}
use lib.ListN.{length, get_or, length-replicate}
use Rattle.layout.specs.Layout.{limit, vertex_limit}
use Rattle.layout.proofs.Read.{live_at}
use Rattle.lookups.specs.State.{words_for}
use Rattle.lookups.proofs.Full.{start_none, start-more, start-within, headed-none, headed-more, headed-end}
use borrow.Author.Rules.{rules}
use Rattle.full_entries.proofs.write_heads.Goals as goal

pub loop-k-init : goal.loop-k-init
loop-k-init c = (search rules, (start_none _, headed-none _ _ _ _ (length-replicate {A = ℕ} vertex_limit 0)))

pub vertex_number-requires : goal.vertex_number-requires
vertex_number-requires c = let within : c.loop-k.k < vertex_limit = omega (arith, c.requires.formed.shape.vertices-le) in (search rules, within)

pub offset_bounds-counts-k : goal.offset_bounds-counts-k
offset_bounds-counts-k c = let within : c.loop-k.k < vertex_limit = omega (arith, c.requires.formed.shape.vertices-le) in omega (arith, within)

pub bounds-counts-k : goal.bounds-counts-k
bounds-counts-k c = let within : c.loop-k.k < vertex_limit = omega (arith, c.requires.formed.shape.vertices-le) in within

pub write_head-requires : goal.write_head-requires
write_head-requires c = let room : c.loop-k.c + words_for (get_or c.args.counts.now c.loop-k.k 0) ≤ length c.loop-k.out = omega (arith, c.loop-k.invariant.1.0, start-within c.args.counts.now c.args.n c.loop-k.k (omega arith) (omega (arith, c.requires.formed.shape.vertices-le)), c.loop-k.invariant.1.1.kept.same, c.requires.n_value.1.1.1) in record { count_le_listing_most = c.requires.n_value.1.1.0 c.loop-k.k c.loop-k-test.true; count_in_bounds = room }

pub offset_bounds-nexts-k : goal.offset_bounds-nexts-k
offset_bounds-nexts-k c = let within : c.loop-k.k < vertex_limit = omega (arith, c.requires.formed.shape.vertices-le) in omega (arith, within)

pub bounds-nexts-k : goal.bounds-nexts-k
bounds-nexts-k c = let within : c.loop-k.k < vertex_limit = omega (arith, c.requires.formed.shape.vertices-le) in omega (arith, within, c.loop-k.invariant.1.1.sized)

pub offset_bounds-counts-k-in-loop-k : goal.offset_bounds-counts-k-in-loop-k
offset_bounds-counts-k-in-loop-k c = let within : c.loop-k.k < vertex_limit = omega (arith, c.requires.formed.shape.vertices-le) in omega (arith, within)

pub bounds-counts-k-in-loop-k : goal.bounds-counts-k-in-loop-k
bounds-counts-k-in-loop-k c = let within : c.loop-k.k < vertex_limit = omega (arith, c.requires.formed.shape.vertices-le) in within

pub words_for-c-requires : goal.words_for-c-requires
words_for-c-requires c = c.requires.n_value.1.1.0 c.loop-k.k c.loop-k-test.true

pub overflow_add-c : goal.overflow_add-c
overflow_add-c c = let room : c.loop-k.c + words_for (get_or c.args.counts.now c.loop-k.k 0) ≤ length c.loop-k.out = omega (arith, c.loop-k.invariant.1.0, start-within c.args.counts.now c.args.n c.loop-k.k (omega arith) (omega (arith, c.requires.formed.shape.vertices-le)), c.loop-k.invariant.1.1.kept.same, c.requires.n_value.1.1.1) in omega (arith, room, c.words_for-c.ensures, c.loop-k.invariant.1.1.kept.same)

pub loop-k-preserved : goal.loop-k-preserved
loop-k-preserved c = let within : c.loop-k.k < vertex_limit = omega (arith, c.requires.formed.shape.vertices-le) in let room : c.loop-k.c + words_for (get_or c.args.counts.now c.loop-k.k 0) ≤ length c.loop-k.out = omega (arith, c.loop-k.invariant.1.0, start-within c.args.counts.now c.args.n c.loop-k.k (omega arith) (omega (arith, c.requires.formed.shape.vertices-le)), c.loop-k.invariant.1.1.kept.same, c.requires.n_value.1.1.1) in let c = c in
    let h : c.loop-k.k < length c.args.counts.now = omega (arith, within) in (
      omega arith,
      (
        start-more c.args.counts.now c.loop-k.k _ _ h c.loop-k.invariant.1.0 c.words_for-c.ensures,
        headed-more c.loop-k.invariant.1.1 _ c.loop-k.invariant.1.0 h c.requires.n_value.1.0 (room)
            (c.vertex_number.ensures ∙ sym (live_at limit c.args.t.now c.loop-k.k (omega arith))) c.write_head.ensures.value c.write_head.ensures.out_after,
      ),
    )

pub shape_of-out : goal.shape_of-out
shape_of-out c = c.loop-k.invariant.1.1.kept.same

pub returns : goal.returns
returns c = headed-end c.loop-k.invariant.1.1 c.loop-k.invariant.0 c.loop-k-test.false
