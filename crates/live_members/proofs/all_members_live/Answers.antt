-- `live_members::all_members_live` meets its contract. Assumes nothing.
use mathlib.Core.Path.{refl}
use Rattle.lists.specs.Tests.{every}
use Rattle.lists.proofs.Every.{every-on, every-no, every-end}
use Rattle.layout.proofs.Shape.{count-le}
use borrow.Author.Rules.{rules}
use Rattle.live_members.proofs.all_members_live.Goals as goal

pub loop-j-init : goal.loop-j-init
unfolding every
loop-j-init c = (search rules, refl)

pub members_live-requires : goal.members_live-requires
members_live-requires c = record { t_len = search rules; j_bound = search count-le; ascending = search rules }

pub returns-then-not-members_live : goal.returns-then-not-members_live
returns-then-not-members_live c = search every-no

pub loop-j-preserved : goal.loop-j-preserved
loop-j-preserved c = (search rules, search every-on)

pub returns : goal.returns
returns c = search every-end
