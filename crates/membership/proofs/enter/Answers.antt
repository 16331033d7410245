-- `membership::enter` meets its contract. Assumes nothing.
use mathlib.Core.Path.{refl}
use native.Mathlib.Omega.{arith}
use Rattle.walk.proofs.FirstPlaces.{mark-within}
use Rattle.walk.proofs.Entered.{entering-again, enter-none, enter_one, enter-in, enter-room}
use borrow.Author.Rules.{rules}
use Rattle.membership.proofs.enter.Goals as goal

pub overflow_add-j : goal.overflow_add-j
overflow_add-j c = let p = c.requires in omega (arith, mark-within _ p.formed _ _ _ refl p.j_bound.0 p.j_bound.1)

pub bounds-firsts-j : goal.bounds-firsts-j
bounds-firsts-j c = search mark-within

pub returns-then-not-firsts-j : goal.returns-then-not-firsts-j
returns-then-not-firsts-j c = search entering-again

pub append-requires : goal.append-requires
append-requires c = record { i_lt_vertex_limit = (search enter-in, search rules); i_bound = search enter-room }

pub returns-in_default : goal.returns-in_default
returns-in_default c = search enter-none

pub returns-in-Some : goal.returns-in-Some
returns-in-Some c = search enter_one
