-- A search sees of a relation what it says of the numbers below n. Assumes nothing.
use mathlib.Core.Path.{◌≡◌, refl, ap, ◌∙◌}
use mathlib.Core.Bool.{Bool, not, ◌&&◌, cond}
use mathlib.Core.List.{List, [], ◌∷◌, ◌++◌}
use Prim.Native.Nat.{ℕ, zero, suc, ◌+◌, ◌≤◌, ◌<◌}
use native.Mathlib.Omega.{arith}
use lib.Dec.{ltb}
use lib.ListN.{length, get_or}
use borrow.Author.Tests.{ltb-true}
use Rattle.lists.specs.Lists.{memb}
use Rattle.lists.specs.Inner.{Below}
use Rattle.lists.proofs.Cases.{on}
use Rattle.lists.proofs.Memb.{memb-getD, below-memb, below-snoc}
use Rattle.graph.specs.Bfs.{push, spread, run, bfs}
use Rattle.graph.proofs.Bfs.{spread-keeps}
use Rattle.depth.specs.Dfs.{Progress, tried}
use Rattle.depth.specs.Finish.{untouched}
use Rattle.depth.specs.Pre.{enter, climbs, walks, preorder}
use Rattle.depth.proofs.Dfs.{tried-ext}

module _ (E F : ℕ → ℕ → Bool) (n : ℕ) (h : (i j : ℕ) → i < n → j < n → E i j ≡ F i j) where
  spread-ext : (x : ℕ) → x < n → (m j : ℕ) (q : List ℕ) → j + m ≤ n → spread E x m j q ≡ spread F x m j q
  unfolding spread push
  spread-ext x hx zero j q b = refl
  spread-ext x hx (suc m) j q b =
      ap (λ (e : Bool). spread E x m (suc j) (cond (e && not (memb j q)) (q ++ (j ∷ [])) q)) (h x j hx (omega arith))
      ∙ spread-ext x hx m (suc j) (push F x q j) (omega arith)

  run-ext : (f k : ℕ) (q : List ℕ) → Below n q → run E n f k q ≡ run F n f k q
  unfolding run
  run-ext zero k q b = refl
  run-ext (suc f) k q b =
      on (ltb k (length q))
      (λ e.
      let hx : get_or q k 0 < n = below-memb n q b (get_or q k 0) (memb-getD q k (ltb-true k (length q) e)) in
      rw e (ap (run E n f (suc k)) (spread-ext (get_or q k 0) hx n 0 q (omega arith))
      ∙ run-ext f (suc k) (spread F (get_or q k 0) n 0 q) (spread-keeps F (Below n) n (get_or q k 0) (λ l j p _ _ c. below-snoc n l j c p) n 0 q (omega arith) b)))
      (λ e. rw e)

  pub bfs-ext : (s : ℕ) → s < n → bfs E n s ≡ bfs F n s
  unfolding bfs
  bfs-ext s l = run-ext n 0 (s ∷ []) (l, tt)

  climbs-ext : (v w : ℕ → Progress → Progress) → ((k : ℕ) (s : Progress) → k < n → v k s ≡ w k s) → (x : ℕ) → x < n → (m j : ℕ) (s : Progress) → j + m ≤ n → climbs E v x m j s ≡ climbs F w x m j s
  unfolding climbs
  climbs-ext v w g x lx zero j s b = refl
  climbs-ext v w g x lx (suc m) j s b =
      ap (climbs E v x m (suc j)) (tried-ext E F n h v w g x j s lx (omega arith)) ∙ climbs-ext v w g x lx m (suc j) (tried F w x j s) (omega arith)

  walks-ext : (f x : ℕ) (s : Progress) → x < n → walks E n f x s ≡ walks F n f x s
  unfolding walks
  walks-ext zero x s l = refl
  walks-ext (suc f) x s l = climbs-ext (walks E n f) (walks F n f) (λ k u b. walks-ext f k u b) x l n 0 (enter x s) (omega arith)

  pub preorder-ext : (s : ℕ) → s < n → preorder E n s ≡ preorder F n s
  unfolding preorder
  preorder-ext s l = ap (λ (t : Progress). t.out) (walks-ext n s untouched l)
