-- `hyperedge_lines::read_hyperedges` meets its contract. Assumes nothing.
use Rattle.reader.proofs.HyperedgeLines.{stored-due, stored_next, stored-few, stored-given}
use borrow.Author.Rules.{rules}
use Rattle.hyperedge_lines.proofs.read_hyperedges.Goals as goal

pub hyperedges_from-requires : goal.hyperedges_from-requires
hyperedges_from-requires c = record { valued = search rules; vertices_stored = search rules; place_value = search rules; m_value = (search stored-due, search stored_next); m_le_hyperedge_limit = (search stored-few, search stored-given) }
