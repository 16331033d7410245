-- Records written anew one after the other: a turn with a record, one without, and the words when what is behind them is cleared. Assumes nothing.
use mathlib.Core.Path.{◌≡◌, refl, sym, ap, ap₂, ◌∙◌}
use mathlib.Core.List.{List, [], ◌∷◌, ◌++◌, append_assoc, append-nil}
use Prim.Native.Nat.{ℕ, ◌+◌, ◌*◌, ◌-◌, ◌≤◌}
use native.Mathlib.Nat.{mul-le-mul_right, suc-mul, zero-mul}
use native.Mathlib.Numerals.{add-one}
use native.Mathlib.Omega.{arith}
use lib.ListN.{length, take, drop, replicate, length-append, length-replicate}
use lib.Seq.{paste, take-paste, drop-paste, length-paste, take_all, take_at, drop-drop, length-take-le}
use Rattle.lists.specs.Lists.{flat, pad}
use Rattle.lists.proofs.Flat.{flat-snoc}
use Rattle.edits.specs.Rewriting.{Relaid}

-- what lies before a paste is as it was
pub take-before : (d : List ℕ) (p : ℕ) (x : List ℕ) (n : ℕ) → p ≤ length d → take p (paste d p x n) ≡ take p d
take-before d p x n h = ap (take p) (append_assoc (take p d) (take n x) (drop (p + n) d)) ∙ take_at (take p d) (take n x ++ drop (p + n) d) p (length-take-le p d h)

-- what lies behind is the same further behind
drop-further : (b n : ℕ) (s ws : List ℕ) → b ≤ n → drop b s ≡ drop b ws → drop n s ≡ drop n ws
drop-further b n s ws h e =
    let p : b + (n - b) ≡ n = omega arith in
    ap (λ (i : ℕ). drop i s) (sym p) ∙ sym (drop-drop (n - b) b s) ∙ ap (drop (n - b)) e ∙ drop-drop (n - b) b ws ∙ ap (λ (i : ℕ). drop i ws) p

-- the place after record i
place_after : (a r i : ℕ) → a + (i + 1) * r ≡ a + i * r + r
place_after a r i = omega (arith, ap (λ (n : ℕ). n * r) (add-one i), suc-mul i r)

module _ {A : Type 0} (f : A → List ℕ) (a r : ℕ) (ws : List ℕ) where
  pub relaid-none : Relaid f a r ws [] 0 0 ws
  unfolding flat
  relaid-none = record {
    same = refl;
    behind = omega arith;
    count = refl;
    front = ap (λ (n : ℕ). take n ws) (let e : a + 0 * r ≡ a = omega (arith, zero-mul r) in e) ∙ sym (append-nil (take a ws));
    ahead = refl;
  }

  module _ (xs : List A) (j k : ℕ) (s : List ℕ) (st : Relaid f a r ws xs j k s) where
    -- the records that are written end where record j begins, or before
    before : a + k * r ≤ a + j * r
    before = omega (arith, mul-le-mul_right r st.behind)

    -- nothing is written for record j
    pub relaid-pass : Relaid f a r ws xs (j + 1) k s
    relaid-pass = record {
      same = st.same;
      behind = omega (arith, st.behind);
      count = st.count;
      front = st.front;
      ahead = drop-further (a + j * r) (a + (j + 1) * r) s ws (omega (arith, place_after a r j)) st.ahead;
    }

    -- x is written to record k's place
    module _ (h : a + j * r + r ≤ length ws) (x : A) (u : length (f x) ≡ r) (s' : List ℕ) (q : s' ≡ paste s (a + k * r) (f x) r) where
      kept-length : length s' ≡ length ws
      kept-length = ap length q ∙ length-paste s (a + k * r) (f x) r (omega (arith, before, st.same)) (omega arith) ∙ st.same

      still-ahead : drop (a + (j + 1) * r) s' ≡ drop (a + (j + 1) * r) ws
      still-ahead =
          let n : ℕ = a + (j + 1) * r in
          drop-further (a + k * r + r) n s' s (omega (arith, before, place_after a r j)) (ap (drop (a + k * r + r)) q ∙ drop-paste s (a + k * r) (f x) r (omega (arith, before, st.same)) (omega arith))
          ∙ drop-further (a + j * r) n s ws (omega (arith, place_after a r j)) st.ahead

      -- it counts, or the next record overwrites it
      pub relaid-more : Relaid f a r ws (xs ++ (x ∷ [])) (j + 1) (k + 1) s'
      relaid-more = record {
        same = kept-length;
        behind = omega (arith, st.behind);
        count = omega (arith, length-append xs (x ∷ []), st.count);
        front = ap₂ take (place_after a r k) q ∙ take-paste s (a + k * r) (f x) r (omega (arith, before, st.same)) (omega arith)
            ∙ ap₂ ◌++◌ st.front (take_all r (f x) (omega arith))
            ∙ append_assoc (take a ws) (flat f xs) (f x)
            ∙ ap (λ (l : List ℕ). take a ws ++ l) (sym (flat-snoc f xs x));
        ahead = still-ahead;
      }

      pub relaid-skip : Relaid f a r ws xs (j + 1) k s'
      relaid-skip = record {
        same = kept-length;
        behind = omega (arith, st.behind);
        count = st.count;
        front = ap (take (a + k * r)) q ∙ take-before s (a + k * r) (f x) r (omega (arith, before, st.same)) ∙ st.front;
        ahead = still-ahead;
      }

    -- 0 is stored behind the records that are written, up to n words from a on
    pub relaid-cleared : (n : ℕ) → j * r ≤ n → a + n ≤ length ws → (s₂ : List ℕ) → s₂ ≡ paste s (a + k * r) (replicate (n - k * r) 0) (n - k * r)
        → s₂ ≡ take a ws ++ (pad n (flat f xs) ++ drop (a + n) ws)
    relaid-cleared n h l s₂ e =
        let z : List ℕ = replicate (n - k * r) 0 in
        let g : a + k * r + (n - k * r) ≡ a + n = omega (arith, before) in
        let len : length (flat f xs) ≡ k * r =
        omega (arith, length-append (take a ws) (flat f xs), ap length st.front, length-take-le (a + k * r) s (omega (arith, before, st.same)), length-take-le a ws (omega arith)) in
        e ∙ ap₂ ◌++◌ (ap₂ ◌++◌ st.front (take_all (n - k * r) z (rw length-replicate (omega arith)) ∙ ap (λ (i : ℕ). replicate (n - i) 0) (sym len)))
        (ap (λ (i : ℕ). drop i s) g ∙ drop-further (a + j * r) (a + n) s ws (omega arith) st.ahead)
        ∙ ap (λ (m : List ℕ). m ++ drop (a + n) ws) (append_assoc (take a ws) (flat f xs) (replicate (n - length (flat f xs)) 0))
        ∙ append_assoc (take a ws) (pad n (flat f xs)) (drop (a + n) ws)
