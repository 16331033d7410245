-- What is reached and reaches: a relation whose classes part the numbers, found by two searches. Assumes nothing.
use mathlib.Core.Path.{◌≡◌, sym, ◌∙◌}
use mathlib.Core.Bool.{Bool, true}
use Prim.Native.Nat.{ℕ, ◌<◌}
use Rattle.lists.proofs.Cases.{and_left, and_right, and_both}
use Rattle.walks.specs.Walks.{Reach, here, step}
use Rattle.walks.proofs.Walks.{reach-trans}
use Rattle.graph.specs.Reach.{Edge}
use Rattle.graph.proofs.Bfs.{bfs-sound, bfs-complete}
use Rattle.components.specs.Classes.{reached}
use Rattle.components.proofs.Roots.{Equivalence}
use Rattle.strong.specs.Strong.{mutually_reached}
use Rattle.strong.specs.State.{Turned}

pub shared-both : (E : ℕ → ℕ → Bool) (n x y : ℕ) → reached E n x y ≡ true → reached E n y x ≡ true → mutually_reached E n x y ≡ true
unfolding mutually_reached
shared-both E n x y p q = and_both (reached E n x y) (reached E n y x) p q

pub shared-forth : (E : ℕ → ℕ → Bool) (n x y : ℕ) → mutually_reached E n x y ≡ true → reached E n x y ≡ true
unfolding mutually_reached
shared-forth E n x y e = and_left (reached E n x y) (reached E n y x) e

pub shared_back : (E : ℕ → ℕ → Bool) (n x y : ℕ) → mutually_reached E n x y ≡ true → reached E n y x ≡ true
unfolding mutually_reached
shared_back E n x y e = and_right (reached E n x y) (reached E n y x) e

reached-trans : (E : ℕ → ℕ → Bool) (n x y z : ℕ) → x < n → y < n → reached E n x y ≡ true → reached E n y z ≡ true → reached E n x z ≡ true
reached-trans E n x y z lx ly p q = bfs-complete E n x lx z (reach-trans (bfs-sound E n x lx y p) (bfs-sound E n y ly z q))

pub shared-parts : (E : ℕ → ℕ → Bool) (n : ℕ) → Equivalence (mutually_reached E n) n
shared-parts E n = record {
  alike = λ v l. let h = bfs-complete E n v l v here in shared-both E n v v h h;
  meet = λ a b v la lb lv p q.
      shared-both E n a b
      (reached-trans E n a v b la lv (shared-forth E n a v p) (shared_back E n b v q))
      (reached-trans E n b v a lb lv (shared-forth E n b v q) (shared_back E n a v p));
}

-- ---- by turned steps: F is E turned

module _ (E F : ℕ → ℕ → Bool) (n : ℕ) (t : Turned E F n) where
  pub reach-forth : {x y : ℕ} → Reach (Edge F n) x y → Reach (Edge E n) y x
  reach-forth here = here
  reach-forth (step {y = u} {z = v} a r) = reach-trans (step here (r.1, r.0, sym (t u v r.0 r.1) ∙ r.2)) (reach-forth a)

  pub reach-back : {x y : ℕ} → Reach (Edge E n) x y → Reach (Edge F n) y x
  reach-back here = here
  reach-back (step {y = u} {z = v} a r) = reach-trans (step here (r.1, r.0, t v u r.1 r.0 ∙ r.2)) (reach-back a)
