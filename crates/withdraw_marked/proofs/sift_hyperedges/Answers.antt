-- `withdraw_marked::sift_hyperedges` meets its contract. Assumes nothing.
use mathlib.Core.Path.{sym, ap, ◌∙◌}
use lib.ListN.{length, length-set}
use native.Mathlib.Omega.{arith}
use Rattle.withdraw_marked.proofs.Sifting.{hyperedges-none, hyperedges-done}
use borrow.Author.Rules.{rules}
use Rattle.withdraw_marked.proofs.sift_hyperedges.Goals as goal

pub loop-j-init : goal.loop-j-init
loop-j-init c = (search rules, search hyperedges-none)

pub sift_record-k-requires : goal.sift_record-k-requires
sift_record-k-requires c = record { formed = c.requires.formed; j_bound = omega arith; hyperedges_sifted = c.loop-j.invariant.1 }

pub loop-j-preserved : goal.loop-j-preserved
loop-j-preserved c = (search rules, c.sift_record-k.ensures)

pub shape_of-t : goal.shape_of-t
shape_of-t c =
    length-set c.clear_words.new.s 3 c.loop-j.k ∙ c.clear_words.auto.s ∙ c.loop-j.invariant.1.same ∙ sym (ap length c.requires.t_value)

pub returns : goal.returns
returns c = search hyperedges-done
