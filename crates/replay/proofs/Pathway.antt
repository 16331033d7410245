-- Laws of what is recorded of a path. Assumes nothing.
use Rattle.std.proofs.Common.{◌≡◌, ℕ, ◌+◌, ◌*◌, ◌<◌, ◌≤◌, Bool, true, false, not, eqb, List, get_or, eq-eqb, ne_eqb, le-leb}
use borrow.Author.Tests.{lt-leb, not-true, not-false}
use Rattle.lists.specs.Tests.{◌and◌}
use Rattle.replay.specs.declared.Value.{Value}
use Rattle.replay.specs.declared.Recorded.{Recorded}
use Rattle.replay.specs.declared.Ends.{Ends}
use Rattle.replay.specs.Records.{word_read, after_words, word_number}
use Rattle.replay.specs.Judging.{counted_in, given_at, same_reply, after_count, counted_at, is_whole, same_cost, begins, same_ends, same_path, ends_at, path_at}
use Rattle.replay.proofs.Judging.{answer-judged}

module _ (number detail n : ℕ) where
  pub whole-then : (x : ℕ) → number ≡ 0 → x ≡ 3 + 2 * n → eqb detail x ≡ is_whole number detail n
  unfolding is_whole ◌and◌
  whole-then x h e = rw (e, eq-eqb number 0 h)

  pub whole-else : (number ≡ 0 → ⊥) → eqb number 0 ≡ is_whole number detail n
  unfolding is_whole ◌and◌
  whole-else h = rw (ne_eqb number 0 h)

module _ (e : Ends) (ws : List ℕ) where
  pub cost-then : (x y : ℕ) → x ≡ get_or ws 0 0 → y ≡ get_or ws 1 0 → x ≡ e.low → eqb y e.high ≡ same_cost e ws
  unfolding same_cost ◌and◌
  cost-then x y f g h = rw (g, ← f, eq-eqb x e.low h)

  pub cost-else : (x : ℕ) → x ≡ get_or ws 0 0 → (x ≡ e.low → ⊥) → eqb x e.low ≡ same_cost e ws
  unfolding same_cost ◌and◌
  cost-else x f h = rw (← f, ne_eqb x e.low h)

  pub begins-then : (x y : ℕ) → x ≡ get_or ws 3 0 → y ≡ get_or ws 4 0 → x ≡ e.from → eqb y 4294967295 ≡ begins e ws
  unfolding begins ◌and◌
  begins-then x y f g h = rw (g, ← f, eq-eqb x e.from h)

  pub begins-else : (x : ℕ) → x ≡ get_or ws 3 0 → (x ≡ e.from → ⊥) → eqb x e.from ≡ begins e ws
  unfolding begins ◌and◌
  begins-else x f h = rw (← f, ne_eqb x e.from h)

  module _ (n : ℕ) where
    pub no-entries : n ≡ 0 → eqb e.entries 0 ≡ same_ends e n ws
    unfolding same_ends
    no-entries h = rw (eq-eqb n 0 h)

    module _ (b : Bool) (some : n ≡ 0 → ⊥) (f : b ≡ begins e ws) where
      pub ends-then : (i x : ℕ) → b ≡ true → i ≡ 2 * n + 1 → x ≡ get_or ws i 0 → eqb x e.to ≡ same_ends e n ws
      unfolding same_ends ◌and◌
      ends-then i x h p q = rw (q, p, ne_eqb n 0 some, ← f, h)

      pub ends-else : b ≡ false → b ≡ same_ends e n ws
      unfolding same_ends ◌and◌
      ends-else h = rw (ne_eqb n 0 some, ← f, h)

    module _ (number detail : ℕ) (f : n ≡ get_or ws 2 0) where
      pub too_many_lem : e.entries < n → false ≡ same_path number detail e ws
      unfolding same_path ◌and◌
      too_many_lem h = rw (← f, lt-leb n e.entries h)

      module _ (w : Bool) (few : n ≤ e.entries) (g : w ≡ is_whole number detail n) where
        pub not-whole : not w ≡ true → false ≡ same_path number detail e ws
        unfolding same_path ◌and◌
        not-whole h = rw (← f, le-leb n e.entries few, ← g, not-true w h)

        module _ (h : not w ≡ false) (c : Bool) (k : c ≡ same_cost e ws) where
          pub path-then : (r : Bool) → c ≡ true → r ≡ same_ends e n ws → r ≡ same_path number detail e ws
          unfolding same_path ◌and◌
          path-then r t q = rw (q, ← f, le-leb n e.entries few, ← g, not-false w h, ← k, t)

          pub path-else : c ≡ false → c ≡ same_path number detail e ws
          unfolding same_path ◌and◌
          path-else t = rw (← f, le-leb n e.entries few, ← g, not-false w h, ← k, t)

-- g is what is recorded, and the answer's number and detail are r₀ and r₁
module _ (s : List ℕ) (p number detail f : ℕ) (ws : List ℕ) (from to : ℕ) (out : List ℕ) (g : Recorded) (e : g ≡ given_at s p) (r₀ r₁ : ℕ) (n : r₀ ≡ number) (d : r₁ ≡ detail)
  where
    pub path-judged : (low high : Value) (same : Bool) (left : List ℕ) → g.number ≡ 0 → low ≡ word_read s g.at → high ≡ word_read s low.at
        → same ≡ same_path r₀ r₁ (record { from = from; to = to; low = low.value; high = high.value; entries = g.detail }) out → left ≡ counted_in f same ws
        → after_count high.at left ≡ counted_at f (path_at s p number detail from to out) ws
    unfolding counted_at path_at ends_at after_words word_number
    path-judged low high same left z i j q l = rw (l, q, n, d, j, i, ← e, eq-eqb g.number 0 z)

    pub no-path-judged : (same : Bool) (left : List ℕ) → (g.number ≡ 0 → ⊥) → same ≡ same_reply r₀ r₁ g → left ≡ counted_in f same ws
        → after_count g.at left ≡ counted_at f (path_at s p number detail from to out) ws
    unfolding path_at
    no-path-judged same left z q l =
        rw (← e, ne_eqb g.number 0 z) (answer-judged s p number detail f ws g e r₀ r₁ n d same q left l)
