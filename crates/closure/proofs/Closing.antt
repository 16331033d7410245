-- The matrix of what is reached, row by row. Assumes nothing.
use mathlib.Core.Path.{◌≡◌, refl, sym, ap, ◌∙◌, subst}
use mathlib.Core.Bool.{Bool}
use mathlib.Core.List.{List}
use Prim.Native.Nat.{ℕ, ◌+◌, ◌*◌, ◌≤◌, ◌<◌}
use native.Mathlib.Nat.{lt_irrefl, not-suc-le-zero}
use native.Mathlib.Omega.{arith}
use lib.Dec.{eqb}
use lib.ListN.{length, get_or, set, length-set}
use lib.Seq.{get_or-set_same, get_or-set_other}
use Rattle.lists.specs.Tests.{bit}
use Rattle.lists.proofs.Cases.{on_same}
use Rattle.lists.proofs.Count.{bit-one}
use Rattle.graph.specs.Reach.{matrix}
use Rattle.graph.specs.Bfs.{bfs}
use Rattle.graph.specs.Held.{Marks}
use Rattle.components.specs.Classes.{reached}
use Rattle.closure.specs.State.{Copied, Closure}

pub copied-first : {x : ℕ} {marks c : List ℕ} → length c ≡ 65536 → Copied x 0 marks c c
copied-first e = record { long = e; row = λ i l. absurd (not-suc-le-zero l); above = λ i l. refl }

pub copied_more : {x v : ℕ} {marks c₀ c : List ℕ} → Copied x v marks c₀ c → x < 256 → v < 256 → Copied x (v + 1) marks c₀ (set c (x * 256 + v) (get_or marks v 0))
copied_more {x} {v} {marks} {c₀} {c} h lx lv = record {
  long = length-set c (x * 256 + v) (get_or marks v 0) ∙ h.long;
  row = λ i l. on_same i v
      (λ e. subst (λ (k : ℕ). get_or (set c (x * 256 + v) (get_or marks v 0)) (x * 256 + k) 0 ≡ get_or marks k 0) (sym e) (get_or-set_same c (x * 256 + v) (get_or marks v 0) 0 (omega (arith, h.long))))
      (λ ne. get_or-set_other c (x * 256 + v) (x * 256 + i) (get_or marks v 0) 0 (λ q. ne (omega arith)) ∙ h.row i (omega arith));
  above = λ i l. get_or-set_other c (x * 256 + v) i (get_or marks v 0) 0 (λ q. lt_irrefl i (omega arith)) ∙ h.above i l;
}

pub closure-first : {E : ℕ → ℕ → Bool} {n : ℕ} {c : List ℕ} → length c ≡ 65536 → Closure E n 0 c
closure-first e = record { long = e; is = λ u v l. absurd (not-suc-le-zero l) }

pub closure-more : {E : ℕ → ℕ → Bool} {n x : ℕ} {c c' m : List ℕ} → n ≤ 256 → Closure E n x c → Marks n m (bfs E n x) → Copied x n m c c' → Closure E n (x + 1) c'
closure-more {E} {n} {x} {c} {c'} {m} b h w k = record {
  long = k.long;
  is = λ u v lu lv. on_same u x
      (λ e. subst (λ (i : ℕ). get_or c' (i * 256 + v) 0 ≡ bit (reached E n i v)) (sym e) (k.row v lv ∙ w v lv))
      (λ ne. let l : u < x = omega arith in k.above (u * 256 + v) (omega arith) ∙ h.is u v l lv);
}

-- the matrix is the relation
pub closure-matrix : {E : ℕ → ℕ → Bool} {n : ℕ} {c : List ℕ} → Closure E n n c → (u v : ℕ) → u < n → v < n → matrix c u v ≡ reached E n u v
closure-matrix {E} {n} {c} h u v lu lv = ap (λ (k : ℕ). eqb k 1) (h.is u v lu lv) ∙ bit-one (reached E n u v)
