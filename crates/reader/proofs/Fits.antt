-- Which tests of a line pass, from what the code found. Assumes nothing.
use mathlib.Core.Path.{◌≡◌}
use mathlib.Core.Bool.{true, false}
use Prim.Native.Nat.{ℕ, ◌≤◌, ◌<◌}
use lib.Dec.{leb, ltb}
use borrow.Author.Tests.{le-leb, lt-leb, eq-eqb, ne_eqb}
use Rattle.lists.specs.Tests.{◌and◌}
use Rattle.layout.specs.Layout.{vertex_limit, hyperedge_limit}
use Rattle.reader.specs.Lines.{counts_fit, number_fits}

module _ (n m x y : ℕ) where
  pub counts-many : vertex_limit < n → false ≡ counts_fit n m x y
  unfolding counts_fit ◌and◌
  counts-many h = rw (lt-leb n vertex_limit h)

  module _ (a : n ≤ vertex_limit) where
    pub counts-many-more : hyperedge_limit < m → false ≡ counts_fit n m x y
    unfolding counts_fit ◌and◌
    counts-many-more h = rw (le-leb n vertex_limit a, lt-leb m hyperedge_limit h)

    module _ (b : m ≤ hyperedge_limit) where
      pub counts-few : x < n → false ≡ counts_fit n m x y
      unfolding counts_fit ◌and◌
      counts-few h = rw (le-leb n vertex_limit a, le-leb m hyperedge_limit b, lt-leb n x h)

      module _ (c : n ≤ x) where
        pub counts-few-more : y < m → false ≡ counts_fit n m x y
        unfolding counts_fit ◌and◌
        counts-few-more h = rw (le-leb n vertex_limit a, le-leb m hyperedge_limit b, le-leb n x c, lt-leb m y h)

        module _ (d : m ≤ y) where
          pub counts-none : m ≡ 0 → true ≡ counts_fit n m x y
          unfolding counts_fit ◌and◌
          counts-none h = rw (le-leb n vertex_limit a, le-leb m hyperedge_limit b, le-leb n x c, le-leb m y d, eq-eqb m 0 h)

          pub counts_some : (m ≡ 0 → ⊥) → ltb 0 n ≡ counts_fit n m x y
          unfolding counts_fit ◌and◌
          counts_some h = rw (le-leb n vertex_limit a, le-leb m hyperedge_limit b, le-leb n x c, le-leb m y d, ne_eqb m 0 h)

module _ (x low high : ℕ) where
  pub number-low : x < low → false ≡ number_fits x low high
  unfolding number_fits ◌and◌
  number-low h = rw (lt-leb low x h)

  pub number-rest : low ≤ x → leb x high ≡ number_fits x low high
  unfolding number_fits ◌and◌
  number-rest h = rw (le-leb low x h)
