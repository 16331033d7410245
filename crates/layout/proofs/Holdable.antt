-- What a table can hold, taken apart: its limits, its numbers, its members. Assumes nothing.
use mathlib.Core.Path.{◌≡◌}
use mathlib.Core.Bool.{true}
use Prim.Native.Nat.{ℕ, ◌≤◌, ◌<◌}
use lib.ListN.{length, get_or}
use borrow.Author.Tests.{le-leb, ltb-true, leb-true}
use Rattle.lists.specs.Lists.{all}
use Rattle.lists.proofs.Cases.{and_left, and_right, and_both}
use Rattle.lists.proofs.All.{all-at}
use Rattle.layout.specs.Content.{Hyperedge, Table, live_vertices, live_hyperedges, numbered, members_live, valid}
use Rattle.layout.specs.Layout.{vertex_limit, hyperedge_limit}
use Rattle.layout.specs.WellFormed.{count_fits, holdable}

pub record Holdable (L : ℕ) (t : Table) : Type 0 where
  pub vertices-le : length t.vertices ≤ vertex_limit
  pub hyperedges-le : length t.hyperedges ≤ hyperedge_limit
  pub counts : all (count_fits L) t.hyperedges ≡ true
  pub vertices-numbered : numbered (live_vertices t) t.next_vertex ≡ true
  pub hyperedges-numbered : numbered (live_hyperedges t) t.next_hyperedge ≡ true
  pub members-live : all (members_live (live_vertices t)) t.hyperedges ≡ true

pub holdable-of : {L : ℕ} {t : Table} → holdable L t ≡ true → Holdable L t
unfolding holdable valid
holdable-of h =
    let a = and_right _ _ h in let b = and_right _ _ a in let v = and_right _ _ b in
    record {
      vertices-le = leb-true _ _ (and_left _ _ h);
      hyperedges-le = leb-true _ _ (and_left _ _ a);
      counts = and_left _ _ b;
      vertices-numbered = and_left _ _ v;
      hyperedges-numbered = and_left _ _ (and_right _ _ v);
      members-live = and_right _ _ (and_right _ _ v);
    }

pub holdable-by : {L : ℕ} {t : Table} → Holdable L t → holdable L t ≡ true
unfolding holdable valid
holdable-by p =
    and_both _ _ (le-leb _ _ p.vertices-le) (and_both _ _ (le-leb _ _ p.hyperedges-le) (and_both _ _ p.counts
    (and_both _ _ p.vertices-numbered (and_both _ _ p.hyperedges-numbered p.members-live))))

-- the members of hyperedge j: some, and no more than the limit
module _ {L : ℕ} {t : Table} (p : Holdable L t) (d : Hyperedge) (j : ℕ) (h : j < length t.hyperedges) where
  pub members-le : length (get_or t.hyperedges j d).members ≤ L
  unfolding count_fits
  members-le = leb-true _ _ (and_right _ _ (all-at (count_fits L) t.hyperedges j d p.counts h))

  pub members-pos : 0 < length (get_or t.hyperedges j d).members
  unfolding count_fits
  members-pos = ltb-true _ _ (and_left _ _ (all-at (count_fits L) t.hyperedges j d p.counts h))
