-- What both searches have in common: each lists exactly what is reached from its start, each once. Assumes nothing.
use mathlib.Core.Path.{◌≡◌}
use mathlib.Core.Bool.{Bool, true}
use Prim.Native.Nat.{ℕ, ◌≤◌, ◌<◌}
use Rattle.lists.specs.Lists.{memb, Distinct}
use Rattle.lists.specs.Inner.{Below}
use Rattle.lists.proofs.Memb.{below-memb}
use Rattle.walks.specs.Walks.{Reach, here, step}
use Rattle.graph.specs.Reach.{Edge}
use Rattle.graph.proofs.Bfs.{bfs-once, bfs-below, bfs-sound, bfs-complete}
use Rattle.depth.proofs.Pre.{preorder-once, preorder-below, preorder-sound, preorder-complete}
use Rattle.traversal.specs.declared.Order.{Order}
use Rattle.traversal.specs.declared.Order.TheVariants.{BreadthFirst, DepthFirst}
use Rattle.traversal.specs.Traversal.{search_of}
use Rattle.traversal.proofs.Ext.{bfs-ext, preorder-ext}

reach-below : {E : ℕ → ℕ → Bool} {n s y : ℕ} → s < n → Reach (Edge E n) s y → y < n
reach-below l here = l
reach-below l (step w e) = e.1

module _ (how : Order) (E : ℕ → ℕ → Bool) (n s : ℕ) (small : n ≤ 256) (l : s < n) where
  pub search-once : Distinct (search_of how E n s)
  search-once = once how
    where
      once : (how : Order) → Distinct (search_of how E n s)
      once BreadthFirst = bfs-once E n s l
      once DepthFirst = preorder-once E n small s l

  pub search-below : Below n (search_of how E n s)
  search-below = below how
    where
      below : (how : Order) → Below n (search_of how E n s)
      below BreadthFirst = bfs-below E n s l
      below DepthFirst = preorder-below E n small s l

  pub search-sound : (y : ℕ) → memb y (search_of how E n s) ≡ true → Reach (Edge E n) s y
  search-sound = sound how
    where
      sound : (how : Order) (y : ℕ) → memb y (search_of how E n s) ≡ true → Reach (Edge E n) s y
      sound BreadthFirst y e = bfs-sound E n s l y e
      sound DepthFirst y e = preorder-sound E n small s l y (below-memb n (search_of DepthFirst E n s) (preorder-below E n small s l) y e) e

  pub search-complete : (y : ℕ) → Reach (Edge E n) s y → memb y (search_of how E n s) ≡ true
  search-complete = complete how
    where
      complete : (how : Order) (y : ℕ) → Reach (Edge E n) s y → memb y (search_of how E n s) ≡ true
      complete BreadthFirst y w = bfs-complete E n s l y w
      complete DepthFirst y w = preorder-complete E n small s l y (reach-below l w) w

pub search-ext : (how : Order) (E F : ℕ → ℕ → Bool) (n : ℕ) → ((i j : ℕ) → i < n → j < n → E i j ≡ F i j) → (s : ℕ) → s < n → search_of how E n s ≡ search_of how F n s
search-ext BreadthFirst E F n h s l = bfs-ext E F n h s l
search-ext DepthFirst E F n h s l = preorder-ext E F n h s l
