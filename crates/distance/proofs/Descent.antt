-- The code of the path. Assumes nothing.
use mathlib.Core.Path.{◌≡◌, refl, sym, ap, ◌∙◌, subst}
use mathlib.Core.Bool.{Bool, true, false}
use mathlib.Core.List.{List, [], ◌∷◌, ◌++◌, append-nil}
use Prim.Native.Nat.{ℕ, suc, ◌+◌, ◌-◌, ◌*◌, ◌/◌, ◌≤◌, ◌<◌}
use native.Mathlib.Nat.{sub-zero, add_comm}
use native.Mathlib.Numerals.{add-one}
use native.Mathlib.Omega.{arith}
use lib.Dec.{eqb}
use borrow.Author.Tests.{eq-eqb, ne_eqb}
use lib.ListN.{length, get_or, take, set, length-set}
use lib.Seq.{take-suc-set, append_snoc, length-take-le}
use Rattle.distance.proofs.Path.{path-none, path-more, path-lost, path-best, path-key, under}
use Rattle.distance.specs.Cost.{choice_in, step_in, cost_in, key_in, step_back, cost_back, key_back}
use Rattle.distance.specs.Labels.{Shortest}
use Rattle.distance.specs.Best.{total, Best}
use Rattle.distance.specs.Path.{is_tight, hop, path}
use Rattle.graph.specs.Reach.{Edge}
use Rattle.lists.proofs.Cases.{clash}
use Rattle.distance.specs.Descent.{Down, Descended, Pair}

-- ---- for `search`: q is the cost that `cost_of` found, k the key that `by` made of it

module _ (c w m d : List ℕ) (x v : ℕ) where
  pub tight-no-step : choice_in c v x ≡ 0 → false ≡ is_tight (step_back c) (key_back c w) m d x v
  unfolding is_tight
  tight-no-step e = rw (eq-eqb (choice_in c v x) 0 e)

  pub tight-no-mark : (choice_in c v x ≡ 0 → ⊥) → (get_or m v 0 ≡ 2 → ⊥) → false ≡ is_tight (step_back c) (key_back c w) m d x v
  unfolding is_tight
  tight-no-mark e f = rw (ne_eqb (choice_in c v x) 0 e, ne_eqb (get_or m v 0) 2 f)

  pub tight-key : (choice_in c v x ≡ 0 → ⊥) → get_or m v 0 ≡ 2 → (q : ℕ) → q ≡ cost_in c w v x → (k : ℕ) → (k ≡ get_or d v 0 + (q * 65536 + 1)) × (q * 65536 + 1 ≤ 281474976710656)
      → eqb (get_or d x 0) k ≡ is_tight (step_back c) (key_back c w) m d x v
  unfolding is_tight
  tight-key e f q eq k ek =
      rw (ne_eqb (choice_in c v x) 0 e, eq-eqb (get_or m v 0) 2 f)
      (ap (eqb (get_or d x 0)) (ek.0 ∙ ap (λ (i : ℕ). get_or d v 0 + (i * 65536 + 1)) eq ∙ add_comm (get_or d v 0) (key_back c w x v)))

module _ (E : ℕ → ℕ → Bool) (K : ℕ → ℕ → ℕ) (n : ℕ) (m d : List ℕ) (x : ℕ) where
  pub down-first : {o : List ℕ} → x < n → length o ≡ 256 → Down E K n m d x 0 x o
  down-first l e = record { within = omega arith; below = l; long = e; left = rw sub-zero }

  module _ {at u : ℕ} {o : List ℕ} (h : Down E K n m d x at u o) where
    over : path E K n m d (n - at) u ≡ [] → Descended E K n m d x at o
    over e = record { short = h.within; long = h.long; path = sym (append-nil (take at o)) ∙ ap (λ (r : List ℕ). take at o ++ r) (sym e) ∙ h.left }

    pub down-there : get_or d u 0 ≡ 0 → Descended E K n m d x at o
    down-there z = over (path-none E K n m d (n - at) u z)

    pub down-lost : (w : ℕ) → w ≡ hop E K n m d u → n ≤ w → Descended E K n m d x at o
    down-lost w e l = over (path-lost E K n m d (n - at) u (omega (arith, e)))

    pub down-short : n ≤ at → Descended E K n m d x n o
    unfolding path
    down-short l =
        let q : n - at ≡ 0 = omega (arith, h.within) in
        let s : at ≡ n = omega (arith, h.within) in
        subst (λ (k : ℕ). Descended E K n m d x k o) s (over (ap (λ (f : ℕ). path E K n m d f u) q))

    pub down-more : (w : ℕ) → n ≤ 256 → at < n → (get_or d u 0 ≡ 0 → ⊥) → w ≡ hop E K n m d u → w < n → Down E K n m d x (at + 1) w (set o at w)
    down-more w b l z e lw =
        let q : n - at ≡ suc (n - (at + 1)) = omega arith in
        let t : take (at + 1) (set o at w) ≡ take at o ++ (w ∷ []) = ap (λ (i : ℕ). take i (set o at w)) (add-one at) ∙ take-suc-set o at w (omega (arith, h.long)) in
        let p : path E K n m d (n - at) u ≡ w ∷ path E K n m d (n - (at + 1)) w =
        ap (λ (f : ℕ). path E K n m d f u) q ∙ path-more E K n m d (n - (at + 1)) u z (omega (arith, e)) ∙ ap (λ (i : ℕ). i ∷ path E K n m d (n - (at + 1)) i) (sym e) in
        record {
          within = omega arith;
          below = lw;
          long = length-set o at w ∙ h.long;
          left = ap (λ (r : List ℕ). r ++ path E K n m d (n - (at + 1)) w) t ∙ append_snoc (take at o) w (path E K n m d (n - (at + 1)) w) ∙ ap (λ (r : List ℕ). take at o ++ r) (sym p) ∙ h.left;
        }

-- ---- a search from y against the steps' direction, and the way down its keys

module _ (c w : List ℕ) (n x y : ℕ) (m d : List ℕ) (small : n ≤ 256) (lx : x < n) (h : Shortest (step_in c) (key_in c w) n y m d) where
  pub pair-no : (o : List ℕ) → length o ≡ 256 → (get_or m x 0 ≡ 2 → ⊥) → Pair (step_back c) (cost_back c w) n x y false 0 0 o
  pair-no o e f = record { short = omega arith; long = e; yes = λ t. clash refl (sym t); no = λ _ k v. f (under (step_back c) (cost_back c w) n y m d small h x k v).0 }

  pub pair-yes : (o : List ℕ) (k : ℕ) → get_or m x 0 ≡ 2 → Descended (step_back c) (key_back c w) n m d x k o → Pair (step_back c) (cost_back c w) n x y true (get_or d x 0 / 65536) k o
  pair-yes o k t e =
      let p : List ℕ = path (step_back c) (key_back c w) n m d n x in
      let len : length (take k o) ≡ k = length-take-le k o (omega (arith, e.short, e.long)) in
      let q : get_or d x 0 ≡ total (cost_back c w) x (take k o) * 65536 + length (take k o) =
      subst (λ (l : List ℕ). get_or d x 0 ≡ total (cost_back c w) x l * 65536 + length l) (sym e.path) (path-key (step_back c) (cost_back c w) n y m d small h x lx t) in
      record {
        short = e.short;
        long = e.long;
        yes = λ _. (
          subst (λ (l : List ℕ). Best (Edge (step_back c) n) (cost_back c w) x y l) (sym e.path) (path-best (step_back c) (cost_back c w) n y m d small h x lx t),
          omega (arith, q, len, e.short),
          sym len,
        );
        no = λ z. clash refl z;
      }
