-- `replay_tables::by_kind` meets its contract. Assumes nothing.
use Rattle.replay.specs.Replayed.{record_at}
use Rattle.replay.proofs.Replayed.{cleared}
use Rattle.replay_tables.proofs.ByKind.{of-known, ended}
use Rattle.replay_tables.proofs.by_kind.Goals as goal

pub returns-in-AddVertex : goal.returns-in-AddVertex
unfolding record_at
returns-in-AddVertex c = search of-known

pub returns-in-AddHyperedge : goal.returns-in-AddHyperedge
unfolding record_at
returns-in-AddHyperedge c = search of-known

pub returns-in-UpdateHyperedgeVertices : goal.returns-in-UpdateHyperedgeVertices
unfolding record_at
returns-in-UpdateHyperedgeVertices c = search of-known

pub returns-in-RemoveVertex : goal.returns-in-RemoveVertex
unfolding record_at
returns-in-RemoveVertex c = search of-known

pub returns-in-RemoveHyperedge : goal.returns-in-RemoveHyperedge
unfolding record_at
returns-in-RemoveHyperedge c = search of-known

pub returns-in-Clear : goal.returns-in-Clear
unfolding record_at
returns-in-Clear c = search (of-known, cleared)

pub returns-in-Table : goal.returns-in-Table
unfolding record_at
returns-in-Table c = search of-known

pub returns-in-MergeVertices : goal.returns-in-MergeVertices
unfolding record_at
returns-in-MergeVertices c = search of-known

pub returns-in-End : goal.returns-in-End
returns-in-End c = search ended
