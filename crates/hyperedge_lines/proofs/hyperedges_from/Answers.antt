-- `hyperedge_lines::hyperedges_from` meets its contract. Assumes nothing.
use Rattle.reader.proofs.HyperedgeLines.{read-room, hyperedges-none, hyperedges-word, hyperedges-stop, hyperedges-bad, hyperedges-more, hyperedges-all, hyperedges-over}
use borrow.Author.Rules.{rules}
use Rattle.hyperedge_lines.proofs.hyperedges_from.Goals as goal

pub loop-i-init : goal.loop-i-init
loop-i-init c = search hyperedges-none

pub read_hyperedge-end-requires : goal.read_hyperedge-end-requires
read_hyperedge-end-requires c = record { valued = search rules; live = search rules; at_in_bounds = (search rules, search hyperedges-word) }

pub returns-then-end-at : goal.returns-then-end-at
returns-then-end-at c = record { hyperedges_read = search hyperedges-stop; lines_value = λ l. search hyperedges-bad }

pub number_at-low-requires : goal.number_at-low-requires
number_at-low-requires c = record { valued = search rules; at_in_bounds = read-room c.read_hyperedge-end.ensures c.if-end-at.false c.loop-i.invariant.within }

pub loop-i-preserved : goal.loop-i-preserved
loop-i-preserved c = search hyperedges-more

pub returns : goal.returns
returns c = record { hyperedges_read = search hyperedges-all; lines_value = λ l. search hyperedges-over }
