-- `vertex_lines::read_vertices` meets its contract. Assumes nothing.
use Rattle.reader.proofs.VertexLines.{stored-due, stored-few, stored-given, stored_next, stored-within}
use borrow.Author.Rules.{rules}
use Rattle.vertex_lines.proofs.read_vertices.Goals as goal

pub vertices_from-requires : goal.vertices_from-requires
vertices_from-requires c = record { valued = search rules; place_value = (search rules, search stored-within); n_value = (search stored-due, search stored_next); n_le_next = (search stored-given, search stored-few); words_len = search rules }
