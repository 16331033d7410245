-- Words copied to a place one by one; words moved down and then cleared. Assumes nothing.
use mathlib.Core.Path.{◌≡◌, refl, sym, ap, ap₂, ◌∙◌}
use mathlib.Core.List.{List, ◌++◌, append_assoc, append-nil}
use Prim.Native.Nat.{ℕ, ◌+◌, ◌-◌, ◌≤◌, ◌<◌}
use native.Mathlib.Numerals.{add-one}
use native.Mathlib.Omega.{arith}
use lib.ListN.{length, get_or, set, take, drop, replicate, length-set, length-drop, length-replicate, drop_of_length-le}
use lib.Seq.{paste, paste-zero, paste-suc, drop-paste, take-paste, get_or-drop, take_all}
use Rattle.lists.specs.Inner.{shifted}

-- after j turns, the first j of src stand in d from a on
pub record Copied (d : List ℕ) (a : ℕ) (src : List ℕ) (j : ℕ) (s : List ℕ) : Type 0 where
  pub is : s ≡ paste d a src j
  pub same : length s ≡ length d

pub copied_none : (d : List ℕ) (a : ℕ) (src : List ℕ) → Copied d a src 0 d
copied_none d a src = record { is = paste-zero d a src; same = refl }

pub copied_more : {d : List ℕ} {a : ℕ} {src : List ℕ} {j : ℕ} {s : List ℕ} (x : ℕ) → Copied d a src j s → a + j < length d → j < length src → x ≡ get_or src j 0
    → Copied d a src (j + 1) (set s (a + j) x)
copied_more {d} {a} {src} {j} {s} x c h l e = record {
  is = ap₂ (λ (r : List ℕ) (y : ℕ). set r (a + j) y) c.is e ∙ paste-suc d a src j 0 h l ∙ ap (paste d a src) (sym (add-one j));
  same = length-set s (a + j) x ∙ c.same;
}

-- a word behind what was copied is still there
pub copied-read : {d : List ℕ} {a : ℕ} {src : List ℕ} {j : ℕ} {s : List ℕ} → Copied d a src j s → a ≤ length d → j ≤ length src → (k : ℕ) → get_or s (a + j + k) 0 ≡ get_or d (a + j + k) 0
copied-read {d} {a} {src} {j} {s} c h l k =
    sym (get_or-drop (a + j) s k 0) ∙ ap (λ (r : List ℕ). get_or r k 0) (ap (drop (a + j)) c.is ∙ drop-paste d a src j h l) ∙ get_or-drop (a + j) d k 0

-- the loop's end
pub copied_all : {d : List ℕ} {a : ℕ} {src : List ℕ} {j : ℕ} {s : List ℕ} (n : ℕ) → Copied d a src j s → j ≡ n → s ≡ paste d a src n
copied_all {d} {a} {src} n c e = c.is ∙ ap (paste d a src) e

-- moved down, then cleared
pub shift-done : (d : List ℕ) (a k : ℕ) (s s' : List ℕ) → a + k ≤ length d → s ≡ paste d a (drop (a + k) d) (length d - (a + k)) → length s ≡ length d
    → s' ≡ paste s (length s - k) (replicate k 0) k → s' ≡ shifted d a k
unfolding shifted
shift-done d a k s s' h p l q =
    let n : ℕ = length d - (a + k) in
    let src : List ℕ = drop (a + k) d in
    let e : length s - k ≡ a + n = omega arith in
    let f : length s ≤ length s - k + k = omega arith in
    let m : n ≤ length src = rw length-drop (omega arith) in
    q ∙ ap₂ ◌++◌ (ap₂ ◌++◌ (ap (λ (i : ℕ). take i s) e ∙ ap (take (a + n)) p ∙ take-paste d a src n (omega arith) m
    ∙ ap (λ (r : List ℕ). take a d ++ r) (take_all n src (rw length-drop (omega arith))))
    (take_all k (replicate k 0) (rw length-replicate (omega arith))))
    (drop_of_length-le s f) ∙ append-nil _
    ∙ append_assoc (take a d) src (replicate k 0)
