-- Laws of words written from the front of a slice, and of blocks of words laid one after the other. Assumes nothing.
use mathlib.Core.Path.{◌≡◌, refl, sym, ap, ap₂, ◌∙◌}
use mathlib.Core.Bool.{Bool, true, false, not, ◌&&◌}
use mathlib.Core.List.{List, [], ◌∷◌, ◌++◌}
use Prim.Native.Nat.{ℕ, zero, suc, ◌+◌, ◌-◌, ◌≤◌, ◌<◌}
use native.Mathlib.Nat.{mul-le-mul_right, le_antisymm}
use native.Mathlib.Numerals.{add-one}
use native.Mathlib.Omega.{arith}
use lib.Dec.{eqb}
use lib.ListN.{length, get_or, take, drop, set, replicate, length-set, length-append, length-drop, length-replicate}
use lib.Seq.{drop-cons, take-suc, take_all, length-take-le}
use borrow.Author.Tests.{eq-eqb, ne_eqb, not-true, not-false}
use Rattle.lists.specs.Tests.{◌and◌}
use Rattle.lists.specs.Lists.{over, memb, flat, tab, sum_over}
use Rattle.lists.proofs.Cases.{on, on_same}
use Rattle.lists.proofs.Stride.{stride}
use Rattle.lists.proofs.Parts.{part_count, part-tail, back-tail}
use Rattle.lists.proofs.Flat.{flat-suc, flat-more}
use Rattle.lists.proofs.Chosen.{over_none, over-more, over-part, over-length}
use Rattle.layout.specs.Content.{Hyperedge}
use Rattle.layout.specs.Layout.{record_size, hyperedges_at, hyperedge_word, hyperedge_count, count_at, hyperedge_at, members_at}
use Rattle.layout.specs.Inner.{Formed, step_at}
use Rattle.layout.specs.Steps.{is_step}
use Rattle.layout.proofs.Read.{members-le}
use Rattle.lookups.specs.declared.Listing.{Listing}
use Rattle.lookups.specs.declared.Listing.TheVariants.{Connecting, Weighing, Holding}
use Rattle.lookups.specs.Lookups.{places, places_in, held, block}
use Rattle.lookups.specs.State.{block_length}
use Rattle.lookups.proofs.Places.{places-le}

-- ---- the step at place i: the code compared its first end with x, and then its second with y

pub step_is : (ms : List ℕ) (i x y : ℕ) → (eqb (get_or ms i 0) x && eqb (get_or ms (i + 1) 0) y) ≡ is_step x y (step_at ms i)
unfolding is_step ◌and◌
step_is ms i x y = on (eqb (get_or ms i 0) x) (λ e. rw e) (λ e. rw e)

-- ---- a loop over i that writes xs from the front of out₀, one word a turn

pub record Copied (xs out₀ : List ℕ) (i : ℕ) (out : List ℕ) : Type 0 where
  pub wrote : out ≡ over (take i xs) out₀
  pub same : length out ≡ length out₀

pub copied_none : (xs out₀ : List ℕ) → Copied xs out₀ 0 out₀
copied_none xs out₀ = record { wrote = sym (over_none out₀); same = refl }

module _ {xs out₀ out : List ℕ} {i : ℕ} (c : Copied xs out₀ i out) where
  pub copied_more : (x : ℕ) → x ≡ get_or xs i 0 → i < length xs → length xs ≤ length out₀ → Copied xs out₀ (i + 1) (set out i x)
  copied_more x e h l = record {
    wrote = rw (c.wrote, e, over-more (take i xs) out₀ (get_or xs i 0) i (length-take-le i xs (omega arith)) (omega arith), add-one i, take-suc xs i 0 h);
    same = length-set out i x ∙ c.same;
  }

  pub copied-end : length xs ≤ i → out ≡ over xs out₀
  copied-end h = c.wrote ∙ ap (λ (w : List ℕ). over w out₀) (take_all i xs h)

-- ---- a record's list, where it holds v: r is what `holds` found, and the code tested `!r`

module _ (L : ℕ) (ws ms : List ℕ) (j v : ℕ) (r : Bool) (e : ms ≡ members_at L ws j) (m : r ≡ memb v ms) where
  held-no : not r ≡ true → [] ≡ held v (members_at L ws j)
  unfolding held
  held-no h = rw (← e, ← m, not-true r h)

  pub held_none : not r ≡ true → 0 ≡ length (held v (members_at L ws j))
  held_none h = ap length (held-no h)

  pub held_kept : (out : List ℕ) → not r ≡ true → out ≡ over (held v (members_at L ws j)) out
  held_kept out h = sym (over_none out) ∙ ap (λ (w : List ℕ). over w out) (held-no h)

  -- xs is the record's length and members
  module _ (xs : List ℕ) (h : not r ≡ false) (q : xs ≡ length (members_at L ws j) ∷ members_at L ws j) where
    held-yes : xs ≡ held v (members_at L ws j)
    unfolding held
    held-yes = q ∙ rw (← e, ← m, not-false r h)

    pub held-length : length xs ≡ length (held v (members_at L ws j))
    held-length = ap length held-yes

    pub held_fits : (out : List ℕ) → length (held v (members_at L ws j)) ≤ length out → length xs ≤ length out
    held_fits out l = omega (arith, held-length)

    pub held-wrote : (out exit : List ℕ) → exit ≡ over xs out → exit ≡ over (held v (members_at L ws j)) out
    held-wrote out exit w = w ∙ ap (λ (y : List ℕ). over y out) held-yes

-- a record's length and members lie together: n is what `member_count` found
module _ (L : ℕ) (ws : List ℕ) (j n : ℕ) (f : Formed L ws) (h : j < hyperedge_count ws) (e : n ≡ count_at L ws j) where
  record-in : hyperedge_word L j + record_size L ≤ length ws
  record-in = stride hyperedges_at (record_size L) j (hyperedge_count ws) {len = length ws} h (omega (arith, f.shape.sized, mul-le-mul_right (record_size L) f.shape.hyperedges-le))

  pub counted-part : take (hyperedge_word L j + 2 + (n + 1) - (hyperedge_word L j + 2)) (drop (hyperedge_word L j + 2) ws) ≡ length (members_at L ws j) ∷ members_at L ws j
  counted-part =
      let a : ℕ = hyperedge_word L j + 2 in
      let s : suc a ≡ hyperedge_word L j + 3 = omega arith in
      let len : length (members_at L ws j) ≡ count_at L ws j = length-take-le (count_at L ws j) (drop (hyperedge_word L j + 3) ws) (rw length-drop (omega (arith, record-in, f.counts j h))) in
      part_count a (n + 1) ws ∙ ap (λ (k : ℕ). take k (drop a ws)) (add-one n)
      ∙ ap (take (suc n)) (drop-cons ws a 0 (omega (arith, record-in)))
      ∙ ap₂ ◌∷◌ (sym len) (ap₂ (λ (k b : ℕ). take k (drop b ws)) e s)

-- ---- the length of a block: ms is what `members_formed` returned, z what `hyperedge_weight` found

module _ (L : ℕ) (ws : List ℕ) (j : ℕ) (q : Listing) where
  pub connecting-length : (x y n : ℕ) (ms : List ℕ) → q ≡ Connecting x y → ms ≡ members_at L ws j → n ≡ places (is_step x y) ms → n ≡ block_length q (hyperedge_at L ws j)
  unfolding block_length block places_in
  connecting-length x y n ms h e p = p ∙ rw (h, e) (sym (length-replicate {A = ℕ} _ _))

  module _ (w z : ℕ) (h : q ≡ Weighing w) (e : z ≡ (hyperedge_at L ws j).weight) where
    pub weighing-none : (z ≡ w → ⊥) → 0 ≡ block_length q (hyperedge_at L ws j)
    unfolding block_length block
    weighing-none ne = rw (h, ← e, ne_eqb z w ne)

    pub weighing-one : z ≡ w → 1 ≡ block_length q (hyperedge_at L ws j)
    unfolding block_length block
    weighing-one s = rw (h, ← e, eq-eqb z w s)

  module _ (v : ℕ) (ms : List ℕ) (r : Bool) (h : q ≡ Holding v) (e : ms ≡ members_at L ws j) (m : r ≡ memb v ms) where
    pub holding-none : not r ≡ true → 0 ≡ block_length q (hyperedge_at L ws j)
    unfolding block_length block
    holding-none n = rw h (held_none L ws ms j v r e m n)

    pub holding-length : not r ≡ false → length ms + 1 ≡ block_length q (hyperedge_at L ws j)
    unfolding block_length block
    holding-length n = rw h (add-one (length ms) ∙ held-length L ws ms j v r e m (length ms ∷ ms) n (ap (λ (xs : List ℕ). length xs ∷ xs) e))

-- ---- what is written of a block: the record's number is num

module _ (L : ℕ) (ws : List ℕ) (j : ℕ) (q : Listing) (out : List ℕ) where
  module _ (x y n : ℕ) (ms : List ℕ) (h : q ≡ Connecting x y) (e : ms ≡ members_at L ws j) (p : n ≡ places (is_step x y) ms) where
    pub connecting-fits : block_length q (hyperedge_at L ws j) ≤ length out → n ≤ length out
    connecting-fits l = omega (arith, connecting-length L ws j q x y n ms h e p)

    pub connecting-wrote : (num : ℕ) (exit : List ℕ) → num ≡ (hyperedge_at L ws j).number → exit ≡ over (replicate n num) out → exit ≡ over (block q (hyperedge_at L ws j)) out
    unfolding block places_in
    connecting-wrote num exit m w = w ∙ ap₂ (λ (a b : ℕ). over (replicate a b) out) (p ∙ ap (places (is_step x y)) e) m ∙ rw h

  module _ (w z : ℕ) (h : q ≡ Weighing w) (e : z ≡ (hyperedge_at L ws j).weight) where
    pub weighing-kept : (z ≡ w → ⊥) → out ≡ over (block q (hyperedge_at L ws j)) out
    unfolding block
    weighing-kept ne = rw (h, ← e, ne_eqb z w ne) (sym (over_none out))

    pub weighing-room : z ≡ w → block_length q (hyperedge_at L ws j) ≤ length out → 0 < length out
    weighing-room s l = omega (arith, weighing-one L ws j q w z h e s)

    pub weighing-wrote : (num : ℕ) → z ≡ w → num ≡ (hyperedge_at L ws j).number → block_length q (hyperedge_at L ws j) ≤ length out → set out 0 num ≡ over (block q (hyperedge_at L ws j)) out
    unfolding block
    weighing-wrote num s m l =
        rw (h, ← e, eq-eqb z w s, ← m)
        (ap (λ (d : List ℕ). set d 0 num) (sym (over_none out)) ∙ over-more [] out num 0 refl (weighing-room s l))

  module _ (v : ℕ) (h : q ≡ Holding v) where
    pub holding-fits : block_length q (hyperedge_at L ws j) ≤ length out → length (held v (members_at L ws j)) ≤ length out
    unfolding block_length block
    holding-fits l = rw h at l

    pub holding-count : (n : ℕ) → n ≡ length (held v (members_at L ws j)) → n ≡ block_length q (hyperedge_at L ws j)
    unfolding block_length block
    holding-count n e = rw h e

    pub holding-wrote : (exit : List ℕ) → exit ≡ over (held v (members_at L ws j)) out → exit ≡ over (block q (hyperedge_at L ws j)) out
    unfolding block
    holding-wrote exit w = rw h w

-- a block is a record's number for each place, its number, or its length and members
pub block-most : (L : ℕ) (ws : List ℕ) (j : ℕ) (q : Listing) → Formed L ws → j < hyperedge_count ws → block_length q (hyperedge_at L ws j) ≤ suc L
unfolding block_length block places_in held
block-most L ws j (Connecting x y) f h =
    omega (arith, length-replicate {A = ℕ} (places (is_step x y) (members_at L ws j)) (hyperedge_at L ws j).number, places-le (is_step x y) (members_at L ws j), members-le L ws f j h)
block-most L ws j (Weighing w) f h = on (eqb (hyperedge_at L ws j).weight w) (λ e. rw e (omega arith)) (λ e. rw e (omega arith))
block-most L ws j (Holding v) f h = on (memb v (members_at L ws j)) (λ e. rw e (omega (arith, members-le L ws f j h))) (λ e. rw e (omega arith))

pub blocks-length : (q : Listing) (es : List Hyperedge) → sum_over (block_length q) es ≡ length (flat (block q) es)
unfolding sum_over flat block_length
blocks-length q [] = refl
blocks-length q (e ∷ es) = ap (λ (n : ℕ). length (block q e) + n) (blocks-length q es) ∙ sym (length-append (block q e) (flat (block q) es))

-- ---- a loop over j that lays the blocks of m records one after the other: c words so far

pub record Laid {A : Type 0} (f : A → List ℕ) (g : ℕ → A) (out₀ : List ℕ) (j c : ℕ) (out : List ℕ) : Type 0 where
  pub counted : c ≡ length (flat f (tab g j))
  pub wrote : out ≡ over (flat f (tab g j)) out₀
  pub same : length out ≡ length out₀

pub laid_none : {A : Type 0} (f : A → List ℕ) (g : ℕ → A) (out₀ : List ℕ) → Laid f g out₀ 0 0 out₀
unfolding flat tab
laid_none f g out₀ = record { counted = refl; wrote = sym (over_none out₀); same = refl }

module _ {A : Type 0} (f : A → List ℕ) (g : ℕ → A) where
  flat-upto : (n j : ℕ) → j ≤ n → length (flat f (tab g j)) ≤ length (flat f (tab g n))
  flat-upto zero j l = let e : j ≡ 0 = omega arith in omega (arith, ap (λ (k : ℕ). length (flat f (tab g k))) e)
  flat-upto (suc n) j l =
      on_same j (suc n)
      (λ s. omega (arith, ap (λ (k : ℕ). length (flat f (tab g k))) s))
      (λ ne. omega (arith, flat-upto n j (omega arith), flat-more f g n))

module _ {A : Type 0} {f : A → List ℕ} {g : ℕ → A} {out₀ out : List ℕ} {j c : ℕ} (d : Laid f g out₀ j c out) where
  -- while a record is ahead, there is room for its block
  pub laid-room : (m : ℕ) → j < m → length (flat f (tab g m)) ≤ length out₀ → c + length (f (g j)) ≤ length out
  laid-room m h l = omega (arith, d.counted, d.same, flat-more f g j, flat-upto f g m (suc j) h)

  pub laid-fits : (k : ℕ) → c + k ≤ length out → k ≤ length (take (length out - c) (drop c out))
  laid-fits k l = rw (part-tail, length-drop) (omega arith)

  -- the block was written into the part from c on, lent as exit
  pub laid_more : {k : ℕ} (exit : List ℕ) → k ≡ length (f (g j)) → c + length (f (g j)) ≤ length out → exit ≡ over (f (g j)) (take (length out - c) (drop c out))
      → Laid f g out₀ (j + 1) (c + k) (take c out ++ (exit ++ drop (length out - c) (drop c out)))
  laid_more {k} exit e l w =
      let next : take c out ++ (exit ++ drop (length out - c) (drop c out)) ≡ over (flat f (tab g (suc j))) out₀ =
      back-tail c out exit ∙ ap (λ (y : List ℕ). take c out ++ y) (w ∙ ap (over (f (g j))) (part-tail c out))
      ∙ ap (λ (y : List ℕ). take c y ++ over (f (g j)) (drop c y)) d.wrote
      ∙ over-part (flat f (tab g j)) (f (g j)) out₀ c (sym d.counted)
      ∙ ap (λ (y : List ℕ). over y out₀) (sym (flat-suc f g j)) in
      rw add-one (record {
        counted = omega (arith, d.counted, flat-more f g j);
        wrote = next;
        same = ap length next ∙ over-length (flat f (tab g (suc j))) out₀ (omega (arith, flat-more f g j, d.counted, d.same));
      })

  pub laid_end : (m : ℕ) → j ≤ m → m ≤ j → out ≡ over (flat f (tab g m)) out₀
  laid_end m a b = d.wrote ∙ ap (λ (k : ℕ). over (flat f (tab g k)) out₀) (le_antisymm a b)
