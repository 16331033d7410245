-- The test of a table's layout, taken apart and put together. Assumes nothing.
use mathlib.Core.Path.{◌≡◌}
use mathlib.Core.Bool.{true}
use mathlib.Core.List.{List}
use Prim.Native.Nat.{ℕ, ◌+◌, ◌-◌, ◌≤◌, ◌<◌}
use lib.ListN.{take, drop}
use borrow.Author.Tests.{le-leb, eq-eqb, ltb-true, leb-true, eqb-true}
use Rattle.lists.specs.Tests.{◌and◌, every}
use Rattle.lists.specs.Lists.{zeros}
use Rattle.lists.proofs.Cases.{and_left, and_right}
use Rattle.lists.proofs.Every.{every-at}
use Rattle.layout.specs.Layout.{hyperedge_word, count_at}
use Rattle.layout.specs.WellFormed.{record_shaped, shaped}
use Rattle.layout.specs.Inner.{Shaped}

pub shaped_of : (L : ℕ) (ws : List ℕ) → shaped L ws ≡ true → Shaped L ws
unfolding shaped
shaped_of L ws e =
    let a = and_right _ _ e in let b = and_right _ _ a in let c = and_right _ _ b in let d = and_right _ _ c in
    record {
      sized = eqb-true _ _ (and_left _ _ e);
      vertices-le = leb-true _ _ (and_left _ _ a);
      hyperedges-le = leb-true _ _ (and_left _ _ b);
      vertices-rest = and_left _ _ c;
      hyperedges-rest = and_left _ _ d;
      records = and_right _ _ d;
    }

pub shaped-by : (L : ℕ) (ws : List ℕ) → Shaped L ws → shaped L ws ≡ true
unfolding shaped ◌and◌
shaped-by L ws s =
    rw (eq-eqb _ _ s.sized, le-leb _ _ s.vertices-le, le-leb _ _ s.hyperedges-le, s.vertices-rest, s.hyperedges-rest) s.records

-- what the test of m records says of record j
module _ (L : ℕ) (ws : List ℕ) (m j : ℕ) (e : every (record_shaped L ws) m ≡ true) (h : j < m) where
  pub count-pos : 0 < count_at L ws j
  unfolding record_shaped
  count-pos = ltb-true _ _ (and_left _ _ (every-at (record_shaped L ws) m j e h))

  pub count-le : count_at L ws j ≤ L
  unfolding record_shaped
  count-le = leb-true _ _ (and_left _ _ (and_right _ _ (every-at (record_shaped L ws) m j e h)))

  pub count-rest : zeros (take (L - count_at L ws j) (drop (hyperedge_word L j + 3 + count_at L ws j) ws)) ≡ true
  unfolding record_shaped
  count-rest = and_right _ _ (and_right _ _ (every-at (record_shaped L ws) m j e h))
