-- `write_frames::put_text` meets its contract. Assumes nothing.
use Rattle.layout.specs.Layout.{limit}
use Rattle.frames.proofs.Text.{head-room, vertices-room, hyperedges-room, text-put}
use borrow.Author.Rules.{rules}
use Rattle.write_frames.proofs.put_text.Goals as goal

pub put_head-a-requires : goal.put_head-a-requires
put_head-a-requires c = search head-room

pub put_vertices-b-requires : goal.put_vertices-b-requires
put_vertices-b-requires c = record { pairs = search rules; t_len = search rules; vertex_length_in_bounds = search vertices-room }

pub put_hyperedges-requires : goal.put_hyperedges-requires
put_hyperedges-requires c = record {
  pairs = search rules;
  formed = search rules;
  m_value = search rules;
  m_in_bounds = hyperedges-room limit c.args.t.now _ _ c.vertex_count-n.ensures c.hyperedge_count-m.ensures _ c.requires.t_in_bounds
      _ _ _ c.put_head-a.ensures _ _ _ c.put_vertices-b.ensures;
}

pub returns : goal.returns
returns c = search text-put
