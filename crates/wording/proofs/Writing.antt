-- Laws of what is written on a page: one text after another, what is left of a text, and where the page ends. Assumes nothing.
use mathlib.Core.Path.{◌≡◌, refl, sym, ap, ap₂, ◌∙◌}
use mathlib.Core.List.{List, [], ◌∷◌, ◌++◌, append-nil}
use Prim.Native.Nat.{ℕ, suc, ◌+◌, ◌≤◌, ◌<◌}
use native.Mathlib.Nat.{le_refl, le_of_eq, lt_irrefl, add-zero, zero-add}
use native.Mathlib.Numerals.{add-one}
use native.Mathlib.Omega.{arith}
use lib.Dec.{ltb}
use lib.ListN.{length, get_or, set, take, drop, length-set, drop_of_length-le, take-append-drop}
use lib.Seq.{drop-cons, drop-length, length-take-le, take_all, take-take, take-append_seam}
use borrow.Author.Tests.{lt-ltb, le-ltb}
use Rattle.lists.specs.Lists.{up_to, flat, over}
use Rattle.lists.specs.Inner.{over_at}
use Rattle.lists.proofs.Cases.{on, on_below}
use Rattle.lists.proofs.Tab.{length-tab, drop-tab}
use Rattle.lists.proofs.OverAt.{over-at-none, set-over-at, over-at-join}
use Rattle.wording.specs.Pages.{Page, page, write_byte, write}

-- ---- one byte

-- a byte fits, or the page is full
pub byte_fits : (bytes : List ℕ) (at x : ℕ) → at < length bytes → page (set bytes at x) (at + 1) ≡ write_byte x (page bytes at)
unfolding write_byte
byte_fits bytes at x h = rw (lt-ltb at (length bytes) h, add-one at)

pub byte_full : (bytes : List ℕ) (at x : ℕ) → length bytes ≤ at → page bytes at ≡ write_byte x (page bytes at)
unfolding write_byte
byte_full bytes at x h = rw (le-ltb at (length bytes) h)

pub one_byte : (x : ℕ) (p : Page) → write (x ∷ []) p ≡ write_byte x p
unfolding write
one_byte x p = refl

byte-length : (x : ℕ) (p : Page) → length (write_byte x p).bytes ≡ length p.bytes
unfolding write_byte
byte-length x p = on (ltb p.next (length p.bytes)) (λ e. rw (e, length-set)) (λ e. rw e)

-- ---- one text after another

pub write-append : (xs ys : List ℕ) (p : Page) → write (xs ++ ys) p ≡ write ys (write xs p)
unfolding write
write-append [] ys p = refl
write-append (x ∷ xs) ys p = write-append xs ys (write_byte x p)

pub nothing_written : (b : List ℕ) (at : ℕ) → page b at ≡ write [] (page b at)
unfolding write
nothing_written b at = refl

pub then : (p : Page) (b c xs ys : List ℕ) (r q : ℕ) → page b r ≡ write xs p → page c q ≡ write ys (page b r) → page c q ≡ write (xs ++ ys) p
then p b c xs ys r q e f = f ∙ ap (write ys) e ∙ sym (write-append xs ys p)

-- a page keeps its length
pub write-length : (xs : List ℕ) (p : Page) → length (write xs p).bytes ≡ length p.bytes
unfolding write
write-length [] p = refl
write-length (x ∷ xs) p = write-length xs (write_byte x p) ∙ byte-length x p

-- ---- a loop: what is left, written on the page as it is, gives the page w

module _ (w : Page) where
  -- xs is written, and ys is left
  pub left-more : (b c xs ys : List ℕ) (r q : ℕ) → write (xs ++ ys) (page b r) ≡ w → page c q ≡ write xs (page b r) → write ys (page c q) ≡ w
  left-more b c xs ys r q e f = rw f (sym (write-append xs ys (page b r)) ∙ e)

  -- byte i of a text is written
  pub left-byte : (xs b c : List ℕ) (i r q : ℕ) → i < length xs → write (drop i xs) (page b r) ≡ w
      → page c q ≡ write_byte (get_or xs i 0) (page b r) → write (drop (i + 1) xs) (page c q) ≡ w
  unfolding write
  left-byte xs b c i r q h e f = rw (f, add-one i) (rw (drop-cons xs i 0 h) at e)

  -- nothing is left of a text
  pub left-none : (xs b : List ℕ) (i r : ℕ) → length xs ≤ i → write (drop i xs) (page b r) ≡ w → page b r ≡ w
  unfolding write
  left-none xs b i r h e = rw (drop_of_length-le xs {i = i} h) at e

-- the texts of the xs from i on
module _ (w : Page) (f : ℕ → List ℕ) (xs b : List ℕ) (i r : ℕ) where
  pub left-text : (c : List ℕ) (q : ℕ) → i < length xs → write (flat f (drop i xs)) (page b r) ≡ w → page c q ≡ write (f (get_or xs i 0)) (page b r)
      → write (flat f (drop (i + 1) xs)) (page c q) ≡ w
  unfolding flat
  left-text c q h e g =
      rw (add-one i) (left-more w b c (f (get_or xs i 0)) (flat f (drop (suc i) xs)) r q (rw (drop-cons xs i 0 h) at e) g)

  pub left-no-text : length xs ≤ i → write (flat f (drop i xs)) (page b r) ≡ w → page b r ≡ w
  unfolding flat write
  left-no-text h e = rw (drop_of_length-le xs {i = i} h) at e

-- the texts of the numbers from i on, below n
module _ (w : Page) (f : ℕ → List ℕ) (n : ℕ) (b : List ℕ) (i r : ℕ) where
  pub left-number : (c : List ℕ) (q : ℕ) → i < n → write (flat f (drop i (up_to n))) (page b r) ≡ w → page c q ≡ write (f i) (page b r)
      → write (flat f (drop (i + 1) (up_to n))) (page c q) ≡ w
  unfolding flat
  left-number c q h e g = left-more w b c (f i) (flat f (drop (i + 1) (up_to n))) r q (rw (drop-tab (λ (j : ℕ). j) n i h) at e) g

  pub left-no-number : n ≤ i → write (flat f (drop i (up_to n))) (page b r) ≡ w → page b r ≡ w
  unfolding flat write
  left-no-number h e = rw (drop_of_length-le (up_to n) {i = i} (rw length-tab h)) at e

-- a page that is written to the same end has the same length
pub left-length : (xs ys b c : List ℕ) (r q : ℕ) → write xs (page b r) ≡ write ys (page c q) → length b ≡ length c
left-length xs ys b c r q e = sym (write-length xs (page b r)) ∙ ap (λ (p : Page). length p.bytes) e ∙ write-length ys (page c q)

-- ---- the end of the page

-- a page that is full stays as it is
pub write-end : (xs bytes : List ℕ) (at : ℕ) → length bytes ≤ at → write xs (page bytes at) ≡ page bytes at
unfolding write
write-end [] bytes at h = refl
write-end (x ∷ xs) bytes at h = ap (write xs) (sym (byte_full bytes at x h)) ∙ write-end xs bytes at h

-- a text that fits stands from its place on
pub write-at : (xs bytes : List ℕ) (at : ℕ) → at + length xs ≤ length bytes → write xs (page bytes at) ≡ page (over_at at xs bytes) (at + length xs)
unfolding write
write-at [] bytes at h = sym (ap (λ (b : List ℕ). page b (at + 0)) (over-at-none at bytes) ∙ rw add-zero)
write-at (x ∷ xs) bytes at h =
    let f : at + 1 ≤ length bytes = omega arith in
    let l : at < length bytes = omega arith in
    let e : at + 1 + length xs ≡ at + suc (length xs) = omega arith in
    ap (write xs) (sym (byte_fits bytes at x l)) ∙ write-at xs (set bytes at x) (at + 1) (rw length-set (omega arith))
    ∙ ap (λ (b : List ℕ). page (over_at (at + 1) xs b) (at + 1 + length xs)) (set-over-at bytes at x l)
    ∙ ap₂ page (over-at-join at (x ∷ []) bytes f xs) e

-- all of a text that fits, on a page from its front on
pub write-within : (xs bytes : List ℕ) → length xs ≤ length bytes → write xs (page bytes 0) ≡ page (xs ++ drop (length xs) bytes) (length xs)
unfolding over_at over
write-within xs bytes h = write-at xs bytes 0 (omega arith) ∙ rw zero-add

pub write-fits : (xs bytes : List ℕ) → length xs < length bytes → write xs (page bytes 0) ≡ page (xs ++ drop (length xs) bytes) (length xs)
write-fits xs bytes h = write-within xs bytes (omega arith)

-- the first bytes of one that does not
pub write-cut : (xs bytes : List ℕ) → length bytes ≤ length xs → write xs (page bytes 0) ≡ page (take (length bytes) xs) (length bytes)
write-cut xs bytes h =
    let front : List ℕ = take (length bytes) xs in
    let n : length front ≡ length bytes = length-take-le (length bytes) xs h in
    let whole : write front (page bytes 0) ≡ page front (length bytes) =
    write-within front bytes (le_of_eq n) ∙ rw (n, drop-length, append-nil) in
    ap (λ (l : List ℕ). write l (page bytes 0)) (sym (take-append-drop (length bytes) xs))
    ∙ write-append front (drop (length bytes) xs) (page bytes 0) ∙ ap (write (drop (length bytes) xs)) whole
    ∙ write-end (drop (length bytes) xs) front (length bytes) (le_of_eq n)

pub write-full : (xs bytes : List ℕ) → length bytes ≤ length xs → (write xs (page bytes 0)).next ≡ length bytes
write-full xs bytes h = ap (λ (p : Page). p.next) (write-cut xs bytes h)

-- the page e, written to place r, has as much of the text as the page b is long
pub front-written : (xs b e : List ℕ) (r : ℕ) → page e r ≡ write xs (page b 0) → take r e ≡ take (length b) xs
front-written xs b e r w =
    ap (λ (p : Page). take p.next p.bytes) w
    ∙ on_below (length b) (length xs)
    (λ l. let h : length b ≤ length xs = omega arith in
    ap (λ (p : Page). take p.next p.bytes) (write-cut xs b h) ∙ take-take (length b) (length b) xs (le_refl (length b)))
    (λ l. ap (λ (p : Page). take p.next p.bytes) (write-within xs b l) ∙ take-append_seam xs (drop (length xs) b) ∙ sym (take_all (length b) xs l))

-- and all of it, where the page is not full
pub whole-written : (xs b e : List ℕ) (r : ℕ) → page e r ≡ write xs (page b 0) → r < length b → take r e ≡ xs
whole-written xs b e r w h =
    on_below (length xs) (length b) (λ l. front-written xs b e r w ∙ take_all (length b) xs (omega arith))
    (λ l. absurd (lt_irrefl (length b) (omega (arith, ap (λ (p : Page). p.next) w ∙ write-full xs b l))))
