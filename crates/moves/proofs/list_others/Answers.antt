-- `moves::list_others` meets its contract. Assumes nothing.
use mathlib.Core.Path.{refl}
use Rattle.walk.proofs.Others.{members-fit, picked_none, picked-skip, picked-on, picked_all, picked-many}
use borrow.Author.Rules.{rules}
use Rattle.moves.proofs.list_others.Goals as goal
use Rattle.moves.proofs.list_others.Goals.{then-is_first_other, else-is_first_other}

pub loop-p-init : goal.loop-p-init
loop-p-init c = picked_none _ _ _ (search members-fit) (search rules)

pub is_first_other-requires : goal.is_first_other-requires
is_first_other-requires c = record { formed = search rules; j_bound = (search rules, search rules, search rules, search rules) }

pub loop-p-preserved : goal.loop-p-preserved
loop-p-preserved c = elim c.if-is_first_other.branch [
  | then-is_first_other w ↦ picked-on _ _ _ _ _ c.loop-p.invariant c.loop-p-test.true _ c.is_first_other.ensures
      w.if-is_first_other.true _ refl w.c-is w.found-is
  | else-is_first_other w ↦ picked-skip _ _ _ _ _ c.loop-p.invariant c.loop-p-test.true _ c.is_first_other.ensures w.if-is_first_other.false w.c-is w.found-is
]

pub returns : goal.returns
returns c = (search picked_all, search picked-many)
