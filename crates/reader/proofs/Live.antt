-- Which members are live, from what the code found in the words. Assumes nothing.
use mathlib.Core.Path.{◌≡◌, sym, ap, ◌∙◌}
use mathlib.Core.Bool.{Bool, true, false, not}
use mathlib.Core.List.{List}
use Prim.Native.Nat.{ℕ, ◌+◌, ◌*◌, ◌≤◌, ◌<◌}
use native.Mathlib.Omega.{arith}
use lib.Dec.{ltb}
use lib.ListN.{length, get_or, drop}
use Rattle.lists.specs.Lists.{all, memb, Ascending}
use Rattle.lists.proofs.All.{all-on, all-no, all_end}
use Rattle.lists.proofs.Memb.{memb-getD}
use Rattle.lists.proofs.Tab.{length-tab, getD-tab}
use Rattle.layout.specs.Content.{is_live}
use Rattle.layout.specs.Layout.{vertices_at, vertex_size, vertex_word, vertex_count, next_vertex_in}
use Rattle.layout.specs.Inner.{column, vertex_column}
use Rattle.layout.proofs.Position.{dense-live}
use Rattle.reader.specs.Passes.{Live}

module _ (ws : List ℕ) (n : ℕ) (l : Live ws) (e : n ≡ vertex_count ws) where
  pub live-ascends : Ascending (column ws vertices_at vertex_size n)
  live-ascends = rw e l.ascend

  pub live-dense : (x v w : ℕ) → v ≡ next_vertex_in ws → w ≡ v → w ≡ n → ltb x n ≡ is_live (vertex_column ws) x
  live-dense x v w f u g =
      let len : length (vertex_column ws) ≡ vertex_count ws = length-tab (λ i. get_or ws (vertices_at + i * vertex_size) 0) (vertex_count ws) in
      ap (ltb x) (e ∙ sym len)
      ∙ sym (dense-live x (vertex_column ws) l.ascend (λ i h.
      let k : i < vertex_count ws = omega arith in
      let b = l.below i k in
      rw (len, getD-tab (λ j. get_or ws (vertices_at + j * vertex_size) 0) (vertex_count ws) i 0 k) (omega arith)))

  pub live-near : (x p y w : ℕ) → p < n → y ≡ get_or ws (vertex_word p) 0 → w ≡ y → w ≡ x → true ≡ is_live (vertex_column ws) x
  live-near x p y w h f u g =
      let k : p < vertex_count ws = rw (← e) h in
      let z : get_or (vertex_column ws) p 0 ≡ x = getD-tab (λ j. get_or ws (vertices_at + j * vertex_size) 0) (vertex_count ws) p 0 k ∙ sym f ∙ sym u ∙ g in
      sym (ap (λ (i : ℕ). memb i (vertex_column ws)) (sym z) ∙ memb-getD (vertex_column ws) p (rw length-tab k))

  pub live-column : (x : ℕ) → is_live (column ws vertices_at vertex_size n) x ≡ is_live (vertex_column ws) x
  live-column x = ap (λ (k : ℕ). is_live (column ws vertices_at vertex_size k) x) e

-- ---- a list's members, one after the other: x is the one at i, and r what the code found of it

module _ (f : ℕ → Bool) (xs : List ℕ) (i : ℕ) (inv : all f (drop i xs) ≡ all f xs) where
  module _ (x : ℕ) (r : Bool) (e : x ≡ get_or xs i 0) (q : r ≡ f x) (h : i < length xs) where
    pub list_on : not r ≡ false → all f (drop (i + 1) xs) ≡ all f xs
    list_on n = all-on f xs i (all f xs) inv 0 r (q ∙ ap f e) h n

    pub list-no : not r ≡ true → false ≡ all f xs
    list-no n = all-no f xs i (all f xs) inv 0 r (q ∙ ap f e) h n

  pub list-end : length xs ≤ i → true ≡ all f xs
  list-end h = all_end f xs i (all f xs) inv h
