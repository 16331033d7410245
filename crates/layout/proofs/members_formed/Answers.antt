-- `layout::members_formed` meets its contract: a live record's count is within the limit. Assumes nothing.
use native.Mathlib.Omega.{arith}
use borrow.Author.Rules.{rules}
use Rattle.layout.proofs.members_formed.Goals as goal

pub members-requires : goal.members-requires
members-requires c = (search rules, (omega arith, c.requires.formed.counts _ c.requires.j_bound))
