-- The lines of records: what the tests say of what the writer gives. Assumes nothing.
use mathlib.Core.Path.{◌≡◌, refl, sym, ap, ap₂, ◌∙◌}
use mathlib.Core.Bool.{Bool, true, false}
use mathlib.Core.List.{List, ◌∷◌, ◌++◌}
use Prim.Native.Nat.{ℕ, suc, ◌+◌, ◌*◌, ◌%◌, ◌≤◌}
use native.Mathlib.Nat.{add-zero}
use native.Mathlib.Omega.{arith}
use lib.ListN.{length, get_or}
use borrow.Author.Tests.{le-leb, leb-true, eq-eqb, eqb-true}
use Rattle.lists.proofs.All.{all_join}
use Rattle.lists.specs.Tests.{◌and◌}
use Rattle.lists.specs.Lists.{all, is_below}
use Rattle.lists.proofs.Cases.{on, clash, and_left, and_right, and_both}
use Rattle.layout.specs.Content.{vertex_of}
use Rattle.frames.specs.Frames.{byte_values, number_bytes, vertex_frame, byte_sum, sealed, line, vertex_line, vertex_length}
use Rattle.frames.specs.Reading.{byte_at, number_at, number_in, weight_in, stands_at}
use Rattle.frames.specs.Bytes.{bytes_at}
use Rattle.frames.proofs.Lines.{sealed-sum}
use Rattle.frames.proofs.Parse.{bytes-at, bytes-append, bytes-front, number-bytes, line-stands, line-parts, sealed-low, number-low}
use Rattle.reader.specs.Lines.{behind, sealed_at, Sealed, number_fits, vertex_fits}
use Rattle.reader.proofs.Ends.{behind-failed, stays-failed, goes-passed}
use Rattle.reader.proofs.Frame.{sealed-is}

-- a frame of bytes: its line stands exactly where the test of a frame passes, and its bytes are those
module _ (text : List ℕ) (p : ℕ) (fr : List ℕ) where
  pub frame-sealed : p ≤ length text → all (is_below byte_values) fr ≡ true → stands_at text p (line fr) ≡ true
      → (sealed_at text p (suc (length fr)) ≡ true) × (bytes_at text p (suc (length fr)) ≡ sealed fr)
  unfolding sealed_at
  frame-sealed h low st =
      let q = line-parts text p fr h low st in (
        and_both _ _ (le-leb _ _ q.2) (and_both _ _ (eq-eqb _ _ q.1)
            (and_both _ _ (ap (all (is_below byte_values)) q.0 ∙ sealed-low fr low) (eq-eqb _ _ (ap (λ (bs : List ℕ). byte_sum bs % byte_values) q.0 ∙ sealed-sum fr)))),
        q.0,
      )

  pub frame-stands : sealed_at text p (suc (length fr)) ≡ true → fr ≡ bytes_at text p (length fr) → stands_at text p (line fr) ≡ true
  unfolding sealed_at
  frame-stands s e =
      line-stands text p fr (leb-true _ _ (and_left _ _ s)) (eqb-true _ _ (and_left _ _ (and_right _ _ s)))
      (and_left _ _ (and_right _ _ (and_right _ _ s))) (eqb-true _ _ (and_right _ _ (and_right _ _ (and_right _ _ s)))) e

pub within : {text : List ℕ} {p k : ℕ} → Sealed text p k → p ≤ length text
within s = omega (arith, s.room)

pub first : (text : List ℕ) (p k : ℕ) → byte_at text p ∷ bytes_at text (p + 2) k ≡ bytes_at text p (suc k)
unfolding bytes_at
first text p k = refl

-- ---- vertices

module _ (text : List ℕ) (p low high : ℕ) where
  vertex-bytes : List ℕ
  vertex-bytes = vertex_frame (vertex_of (number_in text p) (weight_in text p))

  vertex-low : all (is_below byte_values) vertex-bytes ≡ true
  unfolding vertex-bytes vertex_frame all
  vertex-low = and_both _ _ refl (all_join (is_below byte_values) (number_bytes (number_in text p)) (number_bytes (weight_in text p)) (number-low (number_in text p)) (number-low (weight_in text p)))

  vertex-sealed : p ≤ length text → stands_at text p (vertex_line (vertex_of (number_in text p) (weight_in text p))) ≡ true → (sealed_at text p 10 ≡ true) × (byte_at text p ≡ 1)
  unfolding vertex_line vertex-bytes vertex_frame number_bytes sealed
  vertex-sealed h st =
      let q = frame-sealed text p vertex-bytes h vertex-low st in
      (q.0, ap (byte_at text) (sym (add-zero p)) ∙ sym (bytes-at text p 10 0 (omega arith)) ∙ ap (λ (l : List ℕ). get_or l 0 0) q.1)

  vertex-is : Sealed text p 10 → byte_at text p ≡ 1 → vertex-bytes ≡ bytes_at text p 9
  unfolding vertex-bytes vertex_frame
  vertex-is s e =
      let a = bytes-front text p 9 1 s.low in
      let b = bytes-front text p 1 8 a.0 in
      let c = bytes-front text (p + 2) 4 4 b.1 in
      ap₂ (λ (x : ℕ) (l : List ℕ). x ∷ l) (sym e)
      (ap₂ (λ (x y : List ℕ). x ++ y) (number-bytes text (p + 2) c.0) (ap (λ (n : ℕ). number_bytes (number_at text n)) (omega arith) ∙ number-bytes text (p + 2 + 4 * 2) c.1) ∙ sym (bytes-append text (p + 2) 4 4))
      ∙ first text p 8

  vertex-stands : Sealed text p 10 → byte_at text p ≡ 1 → stands_at text p (vertex_line (vertex_of (number_in text p) (weight_in text p))) ≡ true
  unfolding vertex_line vertex-bytes vertex_frame number_bytes
  vertex-stands s e = frame-stands text p vertex-bytes s.is (vertex-is s e)

  -- a vertex that fits has a frame
  fits-sealed : p ≤ length text → vertex_fits text p low high ≡ true → sealed_at text p 10 ≡ true
  unfolding vertex_fits
  fits-sealed h f = (vertex-sealed h (and_left _ _ f)).0

  pub vertex-unsealed : (r : ℕ) → p ≤ length text → r ≡ behind (sealed_at text p 10) p vertex_length → r ≡ p
      → p ≡ behind (vertex_fits text p low high) p vertex_length
  vertex-unsealed r h e q = on (vertex_fits text p low high)
      (λ f. clash (fits-sealed h f) (stays-failed p vertex_length (sealed_at text p 10) r e (omega arith) q))
      (λ f. behind-failed p vertex_length (vertex_fits text p low high) (sym f))

  pub vertex-other : (b : ℕ) → Sealed text p 10 → b ≡ byte_at text p → (b ≡ 1 → ⊥) → false ≡ vertex_fits text p low high
  unfolding vertex_fits ◌and◌
  vertex-other b s e n = on (stands_at text p (vertex_line (vertex_of (number_in text p) (weight_in text p))))
      (λ st. absurd (n (e ∙ (vertex-sealed (within s) st).1)))
      (λ st. rw st)

  pub vertex-rest : (b x : ℕ) (r : Bool) → Sealed text p 10 → b ≡ byte_at text p → b ≡ 1 → x ≡ number_in text p → r ≡ number_fits x low high → r ≡ vertex_fits text p low high
  unfolding vertex_fits ◌and◌
  vertex-rest b x r s e o q f = rw (vertex-stands s (sym e ∙ o)) (f ∙ ap (λ (y : ℕ). number_fits y low high) q)

  module _ (r : ℕ) (h : p ≤ length text) (e : r ≡ behind (vertex_fits text p low high) p vertex_length) (n : r ≡ p → ⊥) where
    pub vertex-framed : Sealed text p 10
    vertex-framed = sealed-is text p 10 (fits-sealed h (goes-passed p vertex_length (vertex_fits text p low high) r e n))

    pub vertex-number-room : p + 2 + 8 ≤ length text
    vertex-number-room = omega (arith, vertex-framed.room)
