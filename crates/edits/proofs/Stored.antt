-- A list stored over the words from a place on, also word by word. Assumes nothing.
use mathlib.Core.Path.{◌≡◌, refl, sym, ap, ap₂, ◌∙◌}
use mathlib.Core.List.{List, [], ◌∷◌, append-nil}
use borrow.Rule.Slice.PartMut.{put_mid}
use Prim.Native.Nat.{ℕ, ◌+◌, ◌-◌, ◌≤◌, ◌<◌}
use native.Mathlib.Numerals.{add-one}
use native.Mathlib.Omega.{arith}
use lib.ListN.{length, get_or, set, take, replicate, length-set, length-replicate, drop_of_length-le}
use lib.Seq.{take-suc, take_all, length-take-le}
use Rattle.lists.specs.Lists.{over}
use Rattle.lists.specs.Inner.{over_at}
use Rattle.layout.specs.Layout.{limit, hyperedge_limit, size, hyperedge_word}
use Rattle.edits.specs.Records.{member_words}
use Rattle.lists.proofs.OverAt.{over-at-none, set-over-at, over-at-join, over-at-more}

-- after i turns the first i words of xs are stored from a on
pub record Stored (a : ℕ) (xs ws : List ℕ) (i : ℕ) (s : List ℕ) : Type 0 where
  pub is : s ≡ over_at a (take i xs) ws
  pub same : length s ≡ length ws

pub stored-none : (a : ℕ) (xs ws : List ℕ) → Stored a xs ws 0 ws
stored-none a xs ws = record { is = sym (over-at-none a ws); same = refl }

module _ {a : ℕ} {xs ws : List ℕ} {i : ℕ} {s : List ℕ} (st : Stored a xs ws i s) where
  pub stored_more : i < length xs → a + length xs ≤ length ws → Stored a xs ws (i + 1) (set s (a + i) (get_or xs i 0))
  stored_more h l =
      let e : length (take i xs) ≡ i = length-take-le i xs (omega arith) in
      record {
        is = ap₂ (λ (r : List ℕ) (k : ℕ). set r (a + k) (get_or xs i 0)) st.is (sym e)
            ∙ over-at-more a (take i xs) ws (omega arith) (get_or xs i 0) (omega arith)
            ∙ ap (λ (r : List ℕ). over_at a r ws) (sym (take-suc xs i 0 h) ∙ ap (λ (k : ℕ). take k xs) (sym (add-one i)));
        same = length-set s (a + i) (get_or xs i 0) ∙ st.same;
      }

  pub stored-end : length xs ≤ i → s ≡ over_at a xs ws
  stored-end h = st.is ∙ ap (λ (r : List ℕ). over_at a r ws) (take_all i xs h)

-- the part of n words from a on is xs
pub part-stored : (a n : ℕ) (xs ws part : List ℕ) → n ≡ length xs → part ≡ xs → put_mid a (a + n - a) ws part ≡ over_at a xs ws
unfolding over over_at
part-stored a n xs ws part e q =
    let d : a + n - a ≡ length xs = omega arith in rw (d, q)

-- over as many words
pub over-all : (xs ws : List ℕ) → length ws ≡ length xs → over_at 0 xs ws ≡ xs
unfolding over over_at
over-all xs ws e = rw (drop_of_length-le ws {i = length xs} (omega arith), append-nil)

-- n words of 0 over n words
pub zeros-all : (n : ℕ) (ws : List ℕ) → length ws ≡ n → over_at 0 (replicate n 0) ws ≡ replicate n 0
zeros-all n ws e = over-all (replicate n 0) ws (e ∙ sym (length-replicate n 0))

-- for `search`: the count, the members, and 0 in the words behind them
pub members-stored : (ms ws : List ℕ) (j : ℕ) (B exit : List ℕ) → length ws ≡ size limit → j < hyperedge_limit → length ms ≤ limit
    → B ≡ over_at (hyperedge_word limit j + 2 + 1) ms (set ws (hyperedge_word limit j + 2) (length ms))
    → exit ≡ over_at (hyperedge_word limit j + 2 + 1 + length ms) (replicate (limit - length ms) 0) B
    → exit ≡ over_at (hyperedge_word limit j + 2) (member_words limit ms) ws
members-stored ms ws j B exit len h le q r =
    let a : ℕ = hyperedge_word limit j + 2 in
    let e : a + 1 + length ms ≡ a + length (length ms ∷ ms) = omega arith in
    let b : B ≡ over_at a (length ms ∷ ms) ws =
    q ∙ ap (over_at (a + 1) ms) (set-over-at ws a (length ms) (omega arith)) ∙ over-at-join a (length ms ∷ []) ws (omega arith) ms in
    r ∙ ap₂ (λ (k : ℕ) (l : List ℕ). over_at k (replicate (limit - length ms) 0) l) e b
    ∙ over-at-join a (length ms ∷ ms) ws (omega arith) (replicate (limit - length ms) 0)
