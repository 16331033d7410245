-- `full_adjacent::list_full` meets its contract. Assumes nothing.
use Rattle.lookups.proofs.Full.{full-few, full-most, full-over, full-room, full-ready, full-done}
use borrow.Author.Rules.{rules}
use Rattle.full_adjacent.proofs.list_full.Goals as goal

pub words_needed-c-requires : goal.words_needed-c-requires
words_needed-c-requires c = record { n_le_vertex_limit = search full-few; counts_len = (search rules, search full-most) }

pub returns-then-out-c : goal.returns-then-out-c
returns-then-out-c c = search full-over

pub write_heads-nexts-requires : goal.write_heads-nexts-requires
write_heads-nexts-requires c = record { formed = search rules; n_value = (search rules, (search rules, (search full-most, search full-room))) }

pub fill-requires : goal.fill-requires
fill-requires c = record { formed = search rules; filling = full-ready c.args.dir c.args.v c.args.t.now c.requires _ c.vertex_count-n.ensures _ c.tally_places-counts.ensures _ c.words_needed-c.ensures _ _ _ c.if-out-c.false c.write_heads-nexts.ensures }

pub returns : goal.returns
returns c = search full-done
