-- Breadth first from a start, smallest neighbour first: a queue, in which a number stands once. Assumes nothing.
use Rattle.std.specs.Prelude.{Bool, ◌&&◌, not, cond, List, [], ◌∷◌, ◌++◌, ℕ, zero, suc, ltb, length, get_or}
use Rattle.lists.specs.Lists.{memb}

-- j joins the queue where there is a step to it from x, and it is not in it
unfoldable pub push : (ℕ → ℕ → Bool) → ℕ → List ℕ → ℕ → List ℕ
push E x q j = cond (E x j && not (memb j q)) (q ++ (j ∷ [])) q

-- the m numbers from j on, in order
unfoldable pub spread : (ℕ → ℕ → Bool) → ℕ → ℕ → ℕ → List ℕ → List ℕ
spread E x zero j q = q
spread E x (suc m) j q = spread E x m (suc j) (push E x q j)

-- serve the queue from place k on
unfoldable pub run : (ℕ → ℕ → Bool) → ℕ → ℕ → ℕ → List ℕ → List ℕ
run E n zero k q = q
run E n (suc f) k q = let r = run E n f (suc k) (spread E (get_or q k 0) n 0 q) in cond (ltb k (length q)) r q

-- the listing from s: the queue, served to its end
unfoldable pub bfs : (ℕ → ℕ → Bool) → ℕ → ℕ → List ℕ
bfs E n s = run E n n 0 (s ∷ [])
