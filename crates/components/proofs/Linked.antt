-- Classes of what is reached where steps lead both ways, with ascending roots. Assumes nothing.
use mathlib.Core.Path.{◌≡◌, ◌∙◌, subst}
use mathlib.Core.Bool.{Bool, true}
use mathlib.Core.List.{List, [], ◌∷◌}
use Prim.Native.Nat.{ℕ, suc, ◌+◌, ◌≤◌, ◌<◌, suc-le-suc}
use native.Mathlib.Nat.{zero-lt-suc}
use native.Mathlib.Omega.{arith}
use lib.ListN.{length, get_or, drop, replicate, drop_of_length-le}
use Rattle.lists.specs.Lists.{memb, up_to}
use Rattle.lists.specs.Inner.{Below}
use Rattle.lists.proofs.Tab.{length-tab, getD-tab, drop-tab}
use Rattle.lists.proofs.Memb.{memb-getD}
use Rattle.walks.specs.Walks.{here}
use Rattle.walks.proofs.Walks.{reach-trans}
use Rattle.graph.specs.Reach.{Edge, Symmetric}
use Rattle.graph.proofs.Bfs.{bfs-sound, bfs-complete}
use Rattle.steps.proofs.Together.{reach-swap}
use Rattle.components.specs.Classes.{reached, roots_of}
use Rattle.components.specs.Parts.{Tried, Parting, Partition}
use Rattle.components.proofs.Roots.{Equivalence}
use Rattle.components.proofs.Parts.{parting-first, parting-room, parting-more, parting-end}

-- ---- the numbers below n

below_at : (n : ℕ) (l : List ℕ) → ((i : ℕ) → i < length l → get_or l i 0 < n) → Below n l
below_at n [] h = tt
below_at n (x ∷ l) h = (h 0 (zero-lt-suc (length l)), below_at n l (λ i k. h (suc i) (suc-le-suc k)))

pub upto-below : (n : ℕ) → Below n (up_to n)
upto-below n = below_at n (up_to n) (λ i l. let k : i < n = rw length-tab at l in rw (getD-tab (λ j. j) n i 0 k) k)

pub upto-memb : (n v : ℕ) → v < n → memb v (up_to n) ≡ true
upto-memb n v l = subst (λ (i : ℕ). memb i (up_to n) ≡ true) (getD-tab (λ j. j) n v 0 l) (memb-getD (up_to n) v (rw length-tab l))

-- ---- where steps lead both ways

module _ (E : ℕ → ℕ → Bool) (n : ℕ) (s : Symmetric E n) where
  edge-swap : (u v : ℕ) → Edge E n u v → Edge E n v u
  edge-swap u v e = (e.1, e.0, s v u e.1 e.0 ∙ e.2)

  pub reached-parts : Equivalence (reached E n) n
  reached-parts = record {
    alike = λ v l. bfs-complete E n v l v here;
    meet = λ a b v la lb lv p q. bfs-complete E n a la b (reach-trans (bfs-sound E n a la v p) (reach-swap edge-swap (bfs-sound E n b lb v q)));
  }

  module _ {ids : List ℕ} {c r : ℕ} (h : Parting (reached E n) n (roots_of (reached E n) (up_to n)) (drop r (up_to n)) ids c) where
    at-root : r < n → Parting (reached E n) n (roots_of (reached E n) (up_to n)) (r ∷ drop (r + 1) (up_to n)) ids c
    at-root l = subst (λ (k : List ℕ). Parting (reached E n) n (roots_of (reached E n) (up_to n)) k ids c) (drop-tab (λ i. i) n r l) h

    pub linked-room : n ≤ 256 → r < n → c < 256
    linked-room b l = parting-room (at-root l) b

    pub linked-more : r < n → {ids' : List ℕ} {c' : ℕ} → Tried (reached E n) n r ids c ids' c' → Parting (reached E n) n (roots_of (reached E n) (up_to n)) (drop (r + 1) (up_to n)) ids' c'
    linked-more l g = parting-more reached-parts (at-root l) l g

    pub linked-end : n ≤ r → Partition (reached E n) n (up_to n) ids c
    linked-end l =
        parting-end reached-parts (upto-below n) (upto-memb n)
        (subst (λ (k : List ℕ). Parting (reached E n) n (roots_of (reached E n) (up_to n)) k ids c) (drop_of_length-le (up_to n) {i = r} (rw length-tab l)) h)

pub linked-first : (E : ℕ → ℕ → Bool) (n : ℕ) → n ≤ 256 → Parting (reached E n) n (roots_of (reached E n) (up_to n)) (drop 0 (up_to n)) (replicate 256 0) 0
linked-first E n b = parting-first (reached E n) n (up_to n) b (rw length-tab (omega arith))
