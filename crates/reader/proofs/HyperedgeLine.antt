-- The line of a hyperedge: what the tests say of what the writer gives. Assumes nothing.
use mathlib.Core.Path.{◌≡◌, refl, sym, ap, ap₂, ◌∙◌}
use mathlib.Core.Bool.{Bool, true, false, not, true≢false}
use mathlib.Core.List.{List, [], ◌∷◌, ◌++◌}
use Prim.Native.Nat.{ℕ, suc, ◌+◌, ◌*◌, ◌-◌, ◌≤◌, ◌<◌}
use native.Mathlib.Nat.{add-zero}
use native.Mathlib.Omega.{arith}
use lib.ListN.{length, get_or}
use borrow.Author.Tests.{le-leb, leb-true, lt-ltb, ltb-true, not-true, not-false}
use Rattle.lists.proofs.All.{all_join}
use Rattle.lists.specs.Tests.{◌and◌}
use Rattle.lists.specs.Lists.{all, is_below, tab, flat}
use Rattle.lists.proofs.Cases.{on, and_left, and_right, and_both}
use Rattle.lists.proofs.Tab.{length-tab}
use Rattle.layout.specs.Content.{is_live, members_live}
use Rattle.layout.specs.Layout.{limit}
use Rattle.layout.specs.WellFormed.{count_fits}
use Rattle.frames.specs.Frames.{byte_values, number_bytes, hyperedge_frame, hyperedge_line, hyperedge_length, sealed}
use Rattle.frames.specs.Reading.{byte_at, number_in, weight_in, count_in, member_in, hyperedge_from, stands_at}
use Rattle.frames.specs.Bytes.{bytes_at}
use Rattle.frames.proofs.Parse.{bytes-at, bytes-append, bytes-front, number-bytes, members-bytes, number-low}
use Rattle.frames.proofs.Text.{numbers-length}
use Rattle.reader.specs.Lines.{behind, sealed_at, Sealed, number_fits}
use Rattle.reader.specs.Hyperedges.{hyperedge_fits}
use Rattle.reader.proofs.Ends.{stays-failed, goes_by}
use Rattle.reader.proofs.Frame.{sealed-is, sealed-by}
use Rattle.reader.proofs.Records.{frame-sealed, frame-stands, within, first}

-- ---- the bytes of a hyperedge's frame

low-numbers : (ms : List ℕ) → all (is_below byte_values) (flat number_bytes ms) ≡ true
unfolding all flat
low-numbers [] = refl
low-numbers (x ∷ ms) = all_join (is_below byte_values) (number_bytes x) (flat number_bytes ms) (number-low x) (low-numbers ms)

-- the bytes that stand at a place, by the parts of such a frame
parts : (text : List ℕ) (p k : ℕ)
    → byte_at text p ∷ (bytes_at text (p + 2) 4 ++ (bytes_at text (p + 10) 4 ++ (byte_at text (p + 18) ∷ bytes_at text (p + 20) (k * 4)))) ≡ bytes_at text p (10 + k * 4)
parts text p k =
    let a : p + 2 + 4 * 2 ≡ p + 10 = omega arith in
    let b : p + 10 + 4 * 2 ≡ p + 18 = omega arith in
    let c : p + 18 + 2 ≡ p + 20 = omega arith in
    let d : suc (4 + (4 + suc (k * 4))) ≡ 10 + k * 4 = omega arith in
    let last : byte_at text (p + 18) ∷ bytes_at text (p + 20) (k * 4) ≡ bytes_at text (p + 18) (suc (k * 4)) = ap (λ (n : ℕ). byte_at text (p + 18) ∷ bytes_at text n (k * 4)) (sym c) ∙ first text (p + 18) (k * 4) in
    let weight : bytes_at text (p + 10) 4 ++ bytes_at text (p + 18) (suc (k * 4)) ≡ bytes_at text (p + 10) (4 + suc (k * 4)) = ap (λ (n : ℕ). bytes_at text (p + 10) 4 ++ bytes_at text n (suc (k * 4))) (sym b) ∙ sym (bytes-append text (p + 10) 4 (suc (k * 4))) in
    let number : bytes_at text (p + 2) 4 ++ bytes_at text (p + 10) (4 + suc (k * 4)) ≡ bytes_at text (p + 2) (4 + (4 + suc (k * 4))) = ap (λ (n : ℕ). bytes_at text (p + 2) 4 ++ bytes_at text n (4 + suc (k * 4))) (sym a) ∙ sym (bytes-append text (p + 2) 4 (4 + suc (k * 4))) in
    ap (λ (l : List ℕ). byte_at text p ∷ (bytes_at text (p + 2) 4 ++ (bytes_at text (p + 10) 4 ++ l))) last
    ∙ ap (λ (l : List ℕ). byte_at text p ∷ (bytes_at text (p + 2) 4 ++ l)) weight
    ∙ ap (λ (l : List ℕ). byte_at text p ∷ l) number
    ∙ first text p (4 + (4 + suc (k * 4)))
    ∙ ap (bytes_at text p) d

module _ (text : List ℕ) (p : ℕ) where
  low-at : (k : ℕ) → Sealed text p k → (i n : ℕ) → i + n ≤ k → all (is_below byte_values) (bytes_at text (p + i * 2) n) ≡ true
  low-at k s i n h =
      let e : i + (n + (k - (i + n))) ≡ k = omega arith in
      (bytes-front text (p + i * 2) n (k - (i + n)) (bytes-front text p i (n + (k - (i + n))) (rw (← e) at s).low).1).0

  hyperedge-bytes : List ℕ
  hyperedge-bytes = hyperedge_frame (hyperedge_from text p)

  hyperedge-low : count_in text p < byte_values → all (is_below byte_values) hyperedge-bytes ≡ true
  unfolding hyperedge-bytes hyperedge_frame all
  hyperedge-low h =
      let ms : List ℕ = tab (member_in text p) (count_in text p) in
      let few : length ms < byte_values = rw (length-tab (member_in text p) (count_in text p)) h in
      and_both _ _ refl (all_join (is_below byte_values) (number_bytes (number_in text p)) (number_bytes (weight_in text p) ++ (length ms ∷ flat number_bytes ms)) (number-low (number_in text p))
      (all_join (is_below byte_values) (number_bytes (weight_in text p)) (length ms ∷ flat number_bytes ms) (number-low (weight_in text p))
      (and_both _ _ (lt-ltb (length ms) byte_values few) (low-numbers ms))))

  hyperedge-size : length hyperedge-bytes ≡ 10 + count_in text p * 4
  unfolding hyperedge-bytes hyperedge_frame number_bytes
  hyperedge-size =
      let ms : List ℕ = tab (member_in text p) (count_in text p) in
      let n : length (flat number_bytes ms) ≡ count_in text p * 4 = numbers-length ms ∙ ap (λ (k : ℕ). k * 4) (length-tab (member_in text p) (count_in text p)) in
      omega arith

  hyperedge-sealed : p ≤ length text → count_in text p < byte_values → stands_at text p (hyperedge_line (hyperedge_from text p)) ≡ true
      → (sealed_at text p (11 + count_in text p * 4) ≡ true) × (byte_at text p ≡ 2)
  unfolding hyperedge_line hyperedge-bytes hyperedge_frame sealed
  hyperedge-sealed h l st =
      let q = frame-sealed text p hyperedge-bytes h (hyperedge-low l) st in
      let n : suc (length hyperedge-bytes) ≡ 11 + count_in text p * 4 = omega (arith, hyperedge-size) in (
        ap (sealed_at text p) (sym n) ∙ q.0,
        ap (byte_at text) (sym (add-zero p)) ∙ sym (bytes-at text p (suc (length hyperedge-bytes)) 0 (omega arith)) ∙ ap (λ (l : List ℕ). get_or l 0 0) q.1,
      )

  hyperedge-is : Sealed text p (11 + count_in text p * 4) → byte_at text p ≡ 2 → hyperedge-bytes ≡ bytes_at text p (10 + count_in text p * 4)
  unfolding hyperedge-bytes hyperedge_frame
  hyperedge-is s b =
      let k : ℕ = count_in text p in
      let number = number-bytes text (p + 2) (low-at (11 + k * 4) s 1 4 (omega arith)) in
      let weight = number-bytes text (p + 10) (low-at (11 + k * 4) s 5 4 (omega arith)) in
      let members = members-bytes text k (p + 20) (low-at (11 + k * 4) s 10 (k * 4) (omega arith)) in
      ap₂ (λ (x : ℕ) (l : List ℕ). x ∷ l) (sym b)
      (ap₂ (λ (x y : List ℕ). x ++ y) number (ap₂ (λ (x y : List ℕ). x ++ y) weight
      (ap₂ (λ (x : ℕ) (l : List ℕ). x ∷ l) (length-tab (member_in text p) k) members)))
      ∙ parts text p k

  hyperedge-stands : Sealed text p (11 + count_in text p * 4) → byte_at text p ≡ 2 → stands_at text p (hyperedge_line (hyperedge_from text p)) ≡ true
  unfolding hyperedge_line hyperedge-bytes
  hyperedge-stands s b =
      let n : 10 + count_in text p * 4 ≡ length hyperedge-bytes = omega (arith, hyperedge-size) in
      let m : suc (length hyperedge-bytes) ≡ 11 + count_in text p * 4 = omega arith in
      frame-stands text p hyperedge-bytes (ap (sealed_at text p) m ∙ s.is) (hyperedge-is s b ∙ ap (bytes_at text p) n)

-- ---- which lines fit, from what the code found

module _ (text : List ℕ) (p k r : ℕ) (q : r ≡ behind (sealed_at text p (11 + k * 4)) p ((11 + k * 4) * 2 + 1)) (n : r ≡ p → ⊥) where
  pub fits-seal : k ≡ count_in text p → (k ≡ 0 → ⊥) → k ≤ limit → Sealed text p (11 + k * 4) × ((k ≡ count_in text p) × ((0 < k) × (k ≤ limit)))
  fits-seal e z l = (sealed-by text p (11 + k * 4) r q n, (e, (omega arith, l)))

  pub frame-behind : r ≡ p + hyperedge_length k
  frame-behind = goes_by p ((11 + k * 4) * 2 + 1) (sealed_at text p (11 + k * 4)) r q n ∙ omega arith

module _ (text : List ℕ) (p low high : ℕ) (live : List ℕ) where
  abbrev line-is : Bool
  line-is = stands_at text p (hyperedge_line (hyperedge_from text p))

  fits-parts : hyperedge_fits text p low high live ≡ true → (line-is ≡ true) × (number_fits (number_in text p) low high ≡ true) × (count_fits limit (hyperedge_from text p) ≡ true)
  unfolding hyperedge_fits
  fits-parts f = (and_left _ _ f, and_left _ _ (and_right _ _ f), and_left _ _ (and_right _ _ (and_right _ _ f)))

  count_of : count_fits limit (hyperedge_from text p) ≡ true → (0 < count_in text p) × (count_in text p ≤ limit)
  unfolding count_fits
  count_of c =
      let n : length (tab (member_in text p) (count_in text p)) ≡ count_in text p = length-tab (member_in text p) (count_in text p) in
      let a : 0 < length (tab (member_in text p) (count_in text p)) = ltb-true _ _ (and_left _ _ c) in
      let b : length (tab (member_in text p) (count_in text p)) ≤ limit = leb-true _ _ (and_right _ _ c) in
      (omega arith, omega arith)

  counted-by : 0 < count_in text p → count_in text p ≤ limit → count_fits limit (hyperedge_from text p) ≡ true
  unfolding count_fits
  counted-by a b = rw (length-tab (member_in text p) (count_in text p)) (and_both _ _ (lt-ltb 0 (count_in text p) a) (le-leb (count_in text p) limit b))

  -- a line that fits is that of a frame, and its first byte is 2
  fits-sealed : p ≤ length text → hyperedge_fits text p low high live ≡ true → (sealed_at text p (11 + count_in text p * 4) ≡ true) × (byte_at text p ≡ 2)
  fits-sealed h f =
      let q = fits-parts f in
      hyperedge-sealed text p h (omega (arith, (count_of q.2).1)) q.0

  pub fits-framed : p ≤ length text → hyperedge_fits text p low high live ≡ true → Sealed text p (11 + count_in text p * 4)
  fits-framed h f = sealed-is text p (11 + count_in text p * 4) (fits-sealed h f).0

  pub fits-counted : hyperedge_fits text p low high live ≡ true → (0 < count_in text p) × (count_in text p ≤ limit)
  fits-counted f = count_of (fits-parts f).2

  unless : (hyperedge_fits text p low high live ≡ true → ⊥) → false ≡ hyperedge_fits text p low high live
  unless n = on (hyperedge_fits text p low high live) (λ f. absurd (n f)) (λ f. sym f)

  pub fits-short : p ≤ length text → length text - p < 23 → false ≡ hyperedge_fits text p low high live
  fits-short h l = unless (λ f. omega (arith, (fits-framed h f).room))

  module _ (k : ℕ) (e : k ≡ count_in text p) where
    pub fits-empty : k ≡ 0 → false ≡ hyperedge_fits text p low high live
    fits-empty z = unless (λ f. omega (arith, (fits-counted f).0))

    pub fits-many : limit < k → false ≡ hyperedge_fits text p low high live
    fits-many m = unless (λ f. omega (arith, (fits-counted f).1))

    pub fits-unsealed : (r : ℕ) → p ≤ length text → r ≡ behind (sealed_at text p (11 + k * 4)) p ((11 + k * 4) * 2 + 1) → r ≡ p
        → false ≡ hyperedge_fits text p low high live
    fits-unsealed r h q s = unless (λ f.
        true≢false (sym (fits-sealed h f).0 ∙ ap (λ (x : ℕ). sealed_at text p (11 + x * 4)) (sym e)
        ∙ stays-failed p ((11 + k * 4) * 2 + 1) (sealed_at text p (11 + k * 4)) r q (omega arith) s))

    module _ (s : Sealed text p (11 + k * 4)) where
      pub fits-other : (b : ℕ) → b ≡ byte_at text p → (b ≡ 2 → ⊥) → false ≡ hyperedge_fits text p low high live
      fits-other b q n = unless (λ f. n (q ∙ (fits-sealed (within s) f).1))

      pub fits-number : (x : ℕ) (r : Bool) → x ≡ number_in text p → r ≡ number_fits x low high → not r ≡ true → false ≡ hyperedge_fits text p low high live
      fits-number x r q o n = unless (λ f. true≢false (sym (fits-parts f).1 ∙ ap (λ (y : ℕ). number_fits y low high) (sym q) ∙ sym o ∙ not-true r n))

      pub fits-rest : (b x : ℕ) (r t : Bool) → 0 < k → k ≤ limit → b ≡ byte_at text p → b ≡ 2 → x ≡ number_in text p → r ≡ number_fits x low high → not r ≡ false
          → t ≡ all (is_live live) (tab (member_in text p) k) → t ≡ hyperedge_fits text p low high live
      unfolding hyperedge_fits members_live ◌and◌ count_fits
      fits-rest b x r t a l q two o f n u =
          rw (
            hyperedge-stands text p (rw e at s) (sym q ∙ two),
            ← o,
            ← f,
            not-false r n,
            counted-by (rw e at a) (rw e at l),
            ← e,
          ) u
