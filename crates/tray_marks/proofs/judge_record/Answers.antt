-- `tray_marks::judge_record` meets its contract. Assumes nothing.
use Rattle.tray_marks.proofs.Judging.{unformed-kept, faulty-kept, table-formed, vertex-judged, hyperedge-judged, other-judged}
use Rattle.tray_marks.proofs.judge_record.Goals as goal

pub returns-then-not-tray : goal.returns-then-not-tray
returns-then-not-tray c = search unformed-kept

pub returns-then-tray : goal.returns-then-tray
returns-then-tray c = search faulty-kept

pub mark_vertex-requires : goal.mark_vertex-requires
mark_vertex-requires c = search table-formed

pub returns-then-w-eq-VERTEX_KIND : goal.returns-then-w-eq-VERTEX_KIND
returns-then-w-eq-VERTEX_KIND c = search vertex-judged

pub mark_hyperedge-requires : goal.mark_hyperedge-requires
mark_hyperedge-requires c = search table-formed

pub returns-then-w-eq-HYPEREDGE_KIND : goal.returns-then-w-eq-HYPEREDGE_KIND
returns-then-w-eq-HYPEREDGE_KIND c = search hyperedge-judged

pub returns : goal.returns
returns c = search other-judged
