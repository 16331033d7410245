-- `strip_vertex::strip_vertex` meets its contract. Assumes nothing.
use mathlib.Core.Path.{◌∙◌}
use lib.ListN.{length-set}
use Rattle.edits.proofs.Stripped.{strip-done}
use Rattle.strip_vertex.proofs.strip_vertex.Goals as goal

pub shape_of-t : goal.shape_of-t
shape_of-t c =
    length-set c.clear_words.new.s 3 c.strip_records-k.result ∙ c.clear_words.auto.s ∙ c.strip_records-k.auto.t

pub returns : goal.returns
returns c = search strip-done
