-- Laws of parts of a slice, as lists. Assumes nothing.
use mathlib.Core.Path.{◌≡◌, sym, ◌∙◌}
use mathlib.Core.List.{List, ◌++◌, append-nil}
use Prim.Native.Nat.{ℕ, ◌+◌, ◌-◌, ◌≤◌, ◌<◌}
use native.Mathlib.Nat.{le_of_eq, add-sub_cancel_left}
use native.Mathlib.Omega.{arith}
use lib.ListN.{length, get_or, take, drop, length-drop, drop_of_length-le}
use Rattle.lists.specs.Lists.{tab}
use Rattle.lists.proofs.Tab.{length-tab, getD-tab}
use lib.Seq.{take_all, length-take-le, ext_get_or, get_or-take, get_or-drop}

-- `&s[a..]`
pub part-tail : {A : Type 0} (a : ℕ) (l : List A) → take (length l - a) (drop a l) ≡ drop a l
part-tail a l = take_all (length l - a) (drop a l) (le_of_eq (length-drop a l))

-- `&s[a..a + n]`
pub part_count : {A : Type 0} (a n : ℕ) (l : List A) → take (a + n - a) (drop a l) ≡ take n (drop a l)
part_count a n l = rw add-sub_cancel_left

-- two parts that agree word by word
pub part_ext : (E ws : List ℕ) (a b k : ℕ) → a + k ≤ length E → b + k ≤ length ws → ((r : ℕ) → r < k → get_or E (a + r) 0 ≡ get_or ws (b + r) 0) → take k (drop a E) ≡ take k (drop b ws)
part_ext E ws a b k ha hb h =
    let la : length (take k (drop a E)) ≡ k = length-take-le k (drop a E) (rw length-drop (omega arith)) in
    let lb : length (take k (drop b ws)) ≡ k = length-take-le k (drop b ws) (rw length-drop (omega arith)) in
    ext_get_or 0 (take k (drop a E)) (take k (drop b ws)) (la ∙ sym lb) (λ r l.
    let l' : r < k = rw la at l in
    rw (get_or-take k (drop a E) r 0 l', get_or-take k (drop b ws) r 0 l', get_or-drop a E r 0, get_or-drop b ws r 0) (h r l'))

-- a word of a part
pub part_at : (ws : List ℕ) (a k r : ℕ) → r < k → get_or (take k (drop a ws)) r 0 ≡ get_or ws (a + r) 0
part_at ws a k r h = get_or-take k (drop a ws) r 0 h ∙ get_or-drop a ws r 0

-- a part, written out word by word
pub part-words : (k a : ℕ) (ws : List ℕ) → a + k ≤ length ws → tab (λ i. get_or ws (a + i) 0) k ≡ take k (drop a ws)
part-words k a ws h =
    let n : length (take k (drop a ws)) ≡ k = length-take-le k (drop a ws) (rw length-drop (omega arith)) in
    ext_get_or 0 (tab (λ i. get_or ws (a + i) 0) k) (take k (drop a ws)) (length-tab _ k ∙ sym n) (λ i l.
    let l' : i < k = rw length-tab at l in
    getD-tab (λ (i : ℕ). get_or ws (a + i) 0) k i 0 l' ∙ sym (part_at ws a k i l'))

-- `&mut s[a..]`, come back with ys in it
pub back-tail : {A : Type 0} (a : ℕ) (xs ys : List A) → take a xs ++ (ys ++ drop (length xs - a) (drop a xs)) ≡ take a xs ++ ys
back-tail a xs ys = rw (drop_of_length-le (drop a xs) {i = length xs - a} (le_of_eq (length-drop a xs)), append-nil)
