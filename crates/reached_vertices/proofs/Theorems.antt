-- The listing has exactly the other vertices to which a walk leads in the direction. Assumes nothing.
use mathlib.Core.Path.{◌≡◌, sym, ap, ◌∙◌}
use mathlib.Core.Bool.{true, not}
use mathlib.Core.List.{List}
use Prim.Native.Nat.{ℕ}
use borrow.Author.Tests.{eq-eqb, ne_eqb}
use Rattle.lists.specs.Tests.{◌and◌}
use Rattle.lists.specs.Lists.{memb}
use Rattle.lists.proofs.Cases.{clash, and_left, and_right, and_both}
use Rattle.lists.proofs.Kept.{memb-filter}
use Rattle.layout.specs.Content.{live_vertices, is_live}
use Rattle.layout.specs.Layout.{limit, read}
use Rattle.layout.specs.Inner.{Formed}
use Rattle.lookups.specs.declared.Direction.{Direction}
use Rattle.reached_vertices.specs.Reached.{OtherReached, is_other_reached, reached_vertices}
use Rattle.reached_vertices.proofs.Walks.{reachable-leads, leads-reachable, led-live}

module _ {ws : List ℕ} (f : Formed limit ws) (dir : Direction) (v : ℕ) (l : is_live (live_vertices (read limit ws)) v ≡ true) (y : ℕ) where
  in_both : memb y (reached_vertices dir v (read limit ws)) ≡ (is_other_reached dir (read limit ws) v y and is_live (live_vertices (read limit ws)) y)
  unfolding reached_vertices
  in_both = memb-filter (is_other_reached dir (read limit ws) v) y (live_vertices (read limit ws))

  -- who is listed is another vertex, and a walk leads there
  pub listed-reached : memb y (reached_vertices dir v (read limit ws)) ≡ true → OtherReached dir (read limit ws) v y
  unfolding is_other_reached
  listed-reached e =
      let both : (is_other_reached dir (read limit ws) v y and is_live (live_vertices (read limit ws)) y) ≡ true = sym in_both ∙ e in
      let live = and_right _ _ both in
      let test = and_left _ _ both in
      record {
        other = λ q. clash (and_right _ _ test) (ap not (eq-eqb y v q));
        walk = reachable-leads f v y l live dir (and_left _ _ test);
      }

  -- another vertex to which a walk leads is listed
  pub reached-is-listed : OtherReached dir (read limit ws) v y → memb y (reached_vertices dir v (read limit ws)) ≡ true
  unfolding is_other_reached
  reached-is-listed r =
      let live = led-live f dir v y l r.walk in
      in_both ∙ and_both _ _ (and_both _ _ (leads-reachable f v y l live dir r.walk) (ap not (ne_eqb y v r.other))) live
