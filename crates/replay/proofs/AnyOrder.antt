-- Laws of lists in any order. Assumes nothing.
use Rattle.std.proofs.Common.{◌≡◌, ℕ, ◌+◌, ◌-◌, ◌%◌, ◌^◌, ◌≤◌, List, get_or, refl, add-one, arith, eq-eqb, ne_eqb}
use Rattle.replay.specs.declared.Rows.{Rows}
use Rattle.replay.specs.Judging.{mixed, sum_start, rows_of, closed, one_word, rows_after}

module _ (r : Rows) where
  pub still_open : (r.left ≡ 0 → ⊥) → r ≡ closed r
  unfolding closed
  still_open h = rw (ne_eqb r.left 0 h)

  pub now-closed : (x : ℕ) → r.left ≡ 0 → x ≡ (r.total + r.row) % 2 ^ 64 → rows_of 0 sum_start x ≡ closed r
  unfolding closed
  now-closed x h e = rw (e, eq-eqb r.left 0 h)

  module _ (word row : ℕ) (next : Rows) (e : row ≡ mixed r.row word) where
    pub a-length : r.left ≡ 0 → next ≡ closed (rows_of word row r.total) → next ≡ one_word r word
    unfolding one_word
    a-length h f = rw (f, e, eq-eqb r.left 0 h)

    pub a-member : (r.left ≡ 0 → ⊥) → next ≡ closed (rows_of (r.left - 1) row r.total) → next ≡ one_word r word
    unfolding one_word
    a-member h f = rw (f, e, ne_eqb r.left 0 h)

pub rows_none : (ws : List ℕ) → rows_of 0 sum_start 0 ≡ rows_after ws 0
unfolding rows_after
rows_none ws = refl

module _ (ws : List ℕ) (r : Rows) (k : ℕ) (e : r ≡ rows_after ws k) where
  pub rows_more : (x : ℕ) (next : Rows) → x ≡ get_or ws k 0 → next ≡ one_word r x → next ≡ rows_after ws (k + 1)
  unfolding rows_after
  rows_more x next f g = rw (g, f, e, add-one k)

  pub rows_all : (n : ℕ) → k ≤ n → n ≤ k → r.total ≡ (rows_after ws n).total
  rows_all n a b = let same : k ≡ n = omega arith in rw (e, same)
