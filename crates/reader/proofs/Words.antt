-- Words stored one after the other. Assumes nothing.
use mathlib.Core.Path.{◌≡◌, refl, sym, ap, ◌∙◌}
use mathlib.Core.List.{List, [], ◌∷◌, ◌++◌}
use Prim.Native.Nat.{ℕ, zero, suc, ◌+◌, ◌-◌, ◌*◌, ◌≤◌, ◌<◌}
use native.Mathlib.Nat.{le_antisymm}
use native.Mathlib.Numerals.{add-one}
use native.Mathlib.Omega.{arith}
use lib.ListN.{length, set, take, drop, replicate}
use lib.Seq.{take_at}
use Rattle.lists.specs.Lists.{tab, pad, over}
use Rattle.lists.proofs.Flat.{length-pad}
use Rattle.lists.proofs.Tab.{tab-suc, length-tab}
use Rattle.layout.specs.Layout.{limit, record_size, vertex_words, hyperedge_words}
use Rattle.layout.specs.Content.{vertex_of}
use Rattle.lists.proofs.OverAt.{set-over-at}
use Rattle.frames.specs.Reading.{number_at, number_in, weight_in, count_in, member_in, hyperedge_from}
use Rattle.frames.specs.Put.{Put}
use Rattle.frames.proofs.Laws.{put-length, put-append, put_as, put-over}
use Rattle.frames.proofs.Lines.{put-none}
use Rattle.reader.specs.Lines.{Sealed}
use Rattle.reader.proofs.Frame.{number-word-at}

pub word-put : (to x : ℕ) (ws : List ℕ) → to < length ws → Put to 1 (x ∷ []) ws (set ws to x) (to + 1)
word-put to x ws h = record { sized = refl; fits = omega arith; reached = refl; wrote = set-over-at ws to x h }

-- k numbers by place: i of them
module _ (f : ℕ → ℕ) where
  pub numbers-none : (to : ℕ) (ws : List ℕ) → to ≤ length ws → Put to 0 (tab f 0) ws ws to
  unfolding tab
  numbers-none to ws h = put-none to ws h

  pub numbers_more : {to i p q x : ℕ} {a b c : List ℕ} → Put to i (tab f i) a b p → x ≡ f i → Put p 1 (x ∷ []) b c q → Put to (i + 1) (tab f (i + 1)) a c q
  numbers_more {i = i} g e h = put_as refl (ap (λ (y : ℕ). tab f i ++ (y ∷ [])) e ∙ sym (tab-suc f i) ∙ ap (tab f) (sym (add-one i))) (put-append g h)

  pub numbers-end : {to i k p : ℕ} {a b : List ℕ} → i ≤ k → k ≤ i → Put to i (tab f i) a b p → Put to k (tab f k) a b p
  numbers-end h l g = rw (← le_antisymm h l) g

pub member-word : (text : List ℕ) (p k i x : ℕ) → Sealed text p (11 + k * 4) → i < k → x ≡ member_in text p i → x < 4294967296
member-word text p k i x s h e =
    number-word-at text p (11 + k * 4) s (10 + i * 4) x (omega arith) (e ∙ ap (number_at text) (omega arith))

-- the number and the weight of a record's line
module _ (text : List ℕ) (p x : ℕ) where
  pub vertex-number-word : Sealed text p 10 → x ≡ number_in text p → x < 4294967296
  vertex-number-word s e = number-word-at text p 10 s 1 x (omega arith) e

  pub vertex-weight-word : Sealed text p 10 → x ≡ weight_in text p → x < 4294967296
  vertex-weight-word s e = number-word-at text p 10 s 5 x (omega arith) e

  pub hyperedge-number-word : (k : ℕ) → Sealed text p (11 + k * 4) → x ≡ number_in text p → x < 4294967296
  hyperedge-number-word k s e = number-word-at text p (11 + k * 4) s 1 x (omega arith) e

  pub hyperedge-weight-word : (k : ℕ) → Sealed text p (11 + k * 4) → x ≡ weight_in text p → x < 4294967296
  hyperedge-weight-word k s e = number-word-at text p (11 + k * 4) s 5 x (omega arith) e

-- ---- records

module _ (text : List ℕ) (p x w : ℕ) (ex : x ≡ number_in text p) (ew : w ≡ weight_in text p) where
  pub vertex-words-put : {to a b : ℕ} {q r s : List ℕ} → Put to 1 (x ∷ []) q r a → Put a 1 (w ∷ []) r s b
      → Put to 2 (vertex_words (vertex_of (number_in text p) (weight_in text p))) q s b
  vertex-words-put f g = put_as refl (rw (ex, ew)) (put-append f g)

  pub hyperedge-words-put : {to a b c k : ℕ} {q r s t : List ℕ} → k ≡ count_in text p
      → Put to 1 (x ∷ []) q r a → Put a 1 (w ∷ []) r s b → Put b (1 + limit) (k ∷ pad limit (tab (member_in text p) k)) s t c
      → Put to (record_size limit) (hyperedge_words limit (hyperedge_from text p)) q t c
  hyperedge-words-put {k = k} ek f g h =
      put_as refl
      (rw (ex, ew, ek, length-tab (member_in text p) (count_in text p)))
      (put-append f (put-append g h))

-- ---- a record of a list that was made first

drop-zeros : (k n : ℕ) → k ≤ n → drop k (replicate {A = ℕ} n 0) ≡ replicate (n - k) 0
drop-zeros zero n h = let e : n ≡ n - 0 = omega arith in ap (λ (j : ℕ). replicate {A = ℕ} j 0) e
drop-zeros (suc k) zero h = absurd (omega arith)
drop-zeros (suc k) (suc n) h =
    let e : suc n - suc k ≡ n - k = omega arith in
    drop-zeros k n (omega arith) ∙ ap (λ (j : ℕ). replicate {A = ℕ} j 0) (sym e)

pub list-made : {xs after : List ℕ} {k q : ℕ} → k ≤ limit → Put 0 k xs (replicate limit 0) after q → after ≡ pad limit xs
unfolding over
list-made {xs} {k = k} h f =
    put-over f ∙ ap (λ (l : List ℕ). xs ++ l) (drop-zeros (length xs) limit (omega (arith, f.sized)))

module _ (f : ℕ → ℕ) (k : ℕ) (list : List ℕ) (e : list ≡ pad limit (tab f k)) (h : k ≤ limit) where
  pub list_length : length list ≡ limit
  list_length = ap length e ∙ length-pad limit (tab f k) (rw (length-tab f k) h)

  pub list-covers : k ≤ length list
  list-covers = omega (arith, list_length)

  pub list-front : take k list ≡ tab f k
  list-front = ap (take k) e ∙ take_at (tab f k) (replicate (limit - length (tab f k)) 0) k (length-tab f k)

  pub record-room : {to a b c : ℕ} {xs ys zs q r s t : List ℕ} → to + record_size limit ≤ length q → Put to 1 xs q r a → Put a 1 ys r s b → Put b 1 zs s t c
      → c + length list ≤ length t
  record-room room u v w = omega (arith, list_length, u.reached, v.reached, w.reached, put-length u, put-length v, put-length w)

pub record-words-put : (text : List ℕ) (p x w k : ℕ) (list : List ℕ) {to a b c d : ℕ} {q r s t u : List ℕ}
    → list ≡ pad limit (tab (member_in text p) k) → k ≤ limit → x ≡ number_in text p → w ≡ weight_in text p → k ≡ count_in text p
    → Put to 1 (x ∷ []) q r a → Put a 1 (w ∷ []) r s b → Put b 1 (k ∷ []) s t c → Put c (length list) list t u d
    → Put to (record_size limit) (hyperedge_words limit (hyperedge_from text p)) q u d
record-words-put text p x w k list e h ex ew ek f g i j =
    hyperedge-words-put text p x w ex ew ek f g (put_as (ap (λ (n : ℕ). 1 + n) (list_length (member_in text p) k list e h)) (ap (λ (l : List ℕ). k ∷ l) e) (put-append i j))
