-- In a well-formed table, what is told of a live number is what its record has. Assumes nothing.
use Rattle.std.specs.Prelude.{Some}
use mathlib.Core.Path.{◌≡◌, refl, sym}
use mathlib.Core.List.{List}
use Prim.Native.Nat.{ℕ, ◌<◌}
use lib.ListN.{get_or}
use Rattle.lists.proofs.Tab.{length-tab, getD-tab}
use Rattle.layout.specs.Content.{live_vertices, live_hyperedges, position}
use Rattle.layout.specs.Layout.{limit, hyperedge_word, vertex_count, hyperedge_count, vertex_at, hyperedge_at, read}
use Rattle.layout.specs.Inner.{Formed}
use Rattle.layout.proofs.Position.{position_here}
use Rattle.layout.proofs.Read.{live-length, live_at, live-ascends, live-hyperedges}
use Rattle.edits.specs.Results.{members_of}
use Rattle.edits.proofs.UpdateHyperedge.{members-found}
use Rattle.reads.specs.Reads.{vertex_weight, hyperedge_weight}
use Rattle.reads.proofs.Told.{weight-here, cost-here}

module _ {ws : List ℕ} (f : Formed limit ws) where
  vertex-place : (i : ℕ) → i < vertex_count ws → position (vertex_at ws i).number (live_vertices (read limit ws)) ≡ Some i
  vertex-place i h = sym (position_here _ _ i (live-ascends limit ws f) (rw (live-length limit ws) h) (live_at limit ws i h))

  pub vertex-weight-is : (i : ℕ) → i < vertex_count ws → vertex_weight (vertex_at ws i).number (read limit ws) ≡ (vertex_at ws i).weight
  vertex-weight-is i h = sym (weight-here ws _ i _ refl (vertex-place i h))

  hyperedge-place : (j : ℕ) → j < hyperedge_count ws → position (hyperedge_at limit ws j).number (live_hyperedges (read limit ws)) ≡ Some j
  hyperedge-place j h =
      rw (live-hyperedges limit ws)
      (sym (position_here _ _ j f.hyperedges-ascend (rw length-tab h) (getD-tab (λ (i : ℕ). get_or ws (hyperedge_word limit i) 0) (hyperedge_count ws) j 0 h)))

  pub hyperedge-weight-is : (j : ℕ) → j < hyperedge_count ws → hyperedge_weight (hyperedge_at limit ws j).number (read limit ws) ≡ (hyperedge_at limit ws j).weight
  hyperedge-weight-is j h = sym (cost-here ws _ j _ refl (hyperedge-place j h))

  pub members-are : (j : ℕ) → j < hyperedge_count ws → members_of (hyperedge_at limit ws j).number (read limit ws).hyperedges ≡ (hyperedge_at limit ws j).members
  members-are j h = members-found limit ws _ j (hyperedge-place j h)
