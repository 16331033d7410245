-- `moves::lister` meets its contract. Assumes nothing.
use native.Mathlib.Omega.{arith}
use Rattle.walk.proofs.Entered.{lister-in, lister-is, lister-low}
use Rattle.moves.proofs.lister.Goals as goal

pub overflow_add-i : goal.overflow_add-i
overflow_add-i c = let p = c.requires in omega (arith, lister-in _ p.formed p.i_bound.2 _ p.i_bound.0 _ p.i_bound.1)

pub bounds-rows-i : goal.bounds-rows-i
bounds-rows-i c = search lister-in

pub returns : goal.returns
returns c = (search lister-is, search lister-low)
