-- `nestedness::is_included` meets its contract. Assumes nothing.
use mathlib.Core.Path.{refl}
use native.Mathlib.Omega.{arith}
use Rattle.properties.specs.Properties.{is_included}
use Rattle.properties.proofs.Rows.{some-on, some-here, some-none}
use borrow.Author.Rules.{rules}
use Rattle.nestedness.proofs.is_included.Goals as goal

pub loop-b-init : goal.loop-b-init
unfolding is_included
loop-b-init c = (search rules, refl)

pub strictly_within-requires : goal.strictly_within-requires
strictly_within-requires c = record { formed = c.requires.formed; sets = c.requires.sets; a_bound = (c.requires.a_bound, omega arith) }

pub returns-then-strictly_within : goal.returns-then-strictly_within
returns-then-strictly_within c = search some-here

pub loop-b-preserved : goal.loop-b-preserved
loop-b-preserved c = (search rules, search some-on)

pub returns : goal.returns
returns c = search some-none
