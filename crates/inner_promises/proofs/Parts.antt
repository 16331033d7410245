-- Parts that agree, put together. Assumes nothing.
use mathlib.Core.Path.{◌≡◌, sym, ap, ap₂, ◌∙◌}
use mathlib.Core.List.{List}
use Prim.Native.Nat.{ℕ, ◌*◌, ◌/◌, ◌%◌, ◌<◌}
use native.Mathlib.Nat.{div-add-mod', mod-lt}
use native.Mathlib.Omega.{arith}
use lib.ListN.{length}
use lib.Seq.{ext_get_or}
use Rattle.lists.specs.Lists.{word_at}
use Rattle.layout.specs.Layout.{vertex_limit}
use Rattle.steps.specs.Inner.{cell}

pub two : {A B : Type 0} {a c : A} {b d : B} → a ≡ c → b ≡ d → ◌≡◌ {A = A × B} (a, b) (c, d)
two {A} {B} p q = ap₂ {C = A × B} (λ (a : A) (b : B). (a, b)) p q

pub three : {A B C : Type 0} {a d : A} {b e : B} {c f : C} → a ≡ d → b ≡ e → c ≡ f → ◌≡◌ {A = A × B × C} (a, b, c) (d, e, f)
three {A} {B} {C} {d = d} {b} {c = c} p q r = ap {B = A × B × C} (λ (a : A). (a, b, c)) p ∙ ap₂ {C = A × B × C} (λ (b : B) (c : C). (d, b, c)) q r

-- a matrix is determined by its entries
pub matrix-one : {m p : List ℕ} → length m ≡ vertex_limit * vertex_limit → length p ≡ vertex_limit * vertex_limit
    → ((i j : ℕ) → i < vertex_limit → j < vertex_limit → word_at m (cell i j) ≡ word_at p (cell i j)) → m ≡ p
matrix-one {m} {p} v w entry =
    ext_get_or 0 m p (v ∙ sym w) (λ k h.
    let c : cell (k / vertex_limit) (k % vertex_limit) ≡ k = div-add-mod' k vertex_limit in
    let r : k % vertex_limit < vertex_limit = mod-lt k (omega arith) in
    let q : k / vertex_limit < vertex_limit = omega (arith, v) in
    ap (word_at m) (sym c) ∙ entry (k / vertex_limit) (k % vertex_limit) q r ∙ ap (word_at p) c)
