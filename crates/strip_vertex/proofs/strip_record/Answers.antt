-- `strip_vertex::strip_record` meets its contract. Assumes nothing.
use mathlib.Core.Path.{ap}
use Prim.Native.Nat.{ℕ, ◌+◌}
use lib.ListN.{take, drop}
use Rattle.lists.specs.Lists.{other_than, itself}
use Rattle.layout.specs.Layout.{limit, hyperedge_word}
use Rattle.edits.specs.Edits.{without}
use Rattle.edits.specs.Removing.{other_words}
use Rattle.edits.proofs.Sifted.{record-sifted}
use borrow.Author.Rules.{rules}
use Rattle.strip_vertex.proofs.strip_record.Goals as goal

pub returns : goal.returns
unfolding without
returns c =
    let v = c.args.v in let d = c.args.t.now in
    record-sifted (other_than itself v) d d c.args.j c.args.k c.keep_others-c.result _ c.keep_others-c.new.t c.end_record.new.t
    c.requires.0 (search rules) (search rules) (ap (λ (i : ℕ). other_words v (take i (drop (hyperedge_word limit c.args.j + 3) d))) c.member_count-n.ensures)
    c.keep_others-c.ensures.1.0 c.keep_others-c.ensures.1.1 c.end_record.ensures
