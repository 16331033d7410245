-- `vertex_lines::vertices_from` meets its contract. Assumes nothing.
use Rattle.reader.proofs.Records.{vertex-framed, vertex-number-room}
use Rattle.reader.proofs.VertexLines.{vertices-none, vertices-stop, vertices-more, vertices-end}
use borrow.Author.Rules.{rules}
use Rattle.vertex_lines.proofs.vertices_from.Goals as goal

pub loop-i-init : goal.loop-i-init
loop-i-init c = search vertices-none

pub returns-then-end-at : goal.returns-then-end-at
returns-then-end-at c = search vertices-stop

pub number_at-low-requires : goal.number_at-low-requires
number_at-low-requires c = record { valued = search rules; at_in_bounds = search vertex-number-room }

pub put_vertex-to-requires : goal.put_vertex-to-requires
put_vertex-to-requires c = record { valued = search rules; sealed = (search vertex-framed, search rules) }

pub loop-i-preserved : goal.loop-i-preserved
loop-i-preserved c = search vertices-more

pub returns : goal.returns
returns c = search vertices-end
