-- Laws of what the code of the sort holds. Assumes nothing.
use mathlib.Core.Path.{◌≡◌, refl, sym, ap, ◌∙◌, subst}
use mathlib.Core.Bool.{Bool, true, false, ◌&&◌, not, and-true, and-false}
use mathlib.Core.List.{List, [], ◌∷◌, ◌++◌, append-nil}
use Prim.Native.Nat.{ℕ, suc, ◌+◌, ◌-◌, ◌*◌, ◌≤◌, ◌<◌}
use native.Mathlib.Nat.{sub-zero, le_antisymm}
use native.Mathlib.Numerals.{add-one}
use native.Mathlib.Omega.{arith}
use lib.Dec.{eqb}
use lib.ListN.{length, get_or, take, set, length-set, length-append, replicate, length-replicate, get_or-replicate}
use lib.Seq.{append_snoc, take-suc-set, get_or-set_same, get_or-set_other}
use mir.Syntax.{w64}
use mir.Val.{Fits}
use borrow.Author.Tests.{eqb-true, eqb-false, ne_eqb, lt-ltb}
use Rattle.graph.specs.Reach.{Edge}
use Rattle.lists.proofs.Cases.{on, on_same}
use Rattle.lists.proofs.Chosen.{over_none, over-more}
use Rattle.lists.proofs.Count.{count-ext, count-flip, room}
use Rattle.lists.proofs.Memb.{memb-snoc-self, memb-snoc-other, distinct_snoc, below-snoc}
use Rattle.lists.specs.Lists.{memb, is_below, Distinct, over}
use Rattle.lists.specs.Inner.{Below, blank}
use Rattle.lists.specs.Tests.{count, bit}
use Rattle.order.proofs.Greedy.{avail-new, next-avail, rest_more, rest_end, greedy-short, greedy-sorts, greedy-fails}
use Rattle.order.proofs.Least.{least-ext, least-hit}
use Rattle.order.proofs.Smallest.{forward-open}
use Rattle.order.specs.Greedy.{waits, available, next, rest, greedy}
use Rattle.order.specs.Least.{least}
use Rattle.order.specs.Sort.{Smallest}
use Rattle.order.specs.Post.{Sorted}
use Rattle.order.specs.State.{Degrees, Row, Owed, is_free, placed_mark, Needs, Sorting}

-- ---- the counts, row by row

pub degrees-first : (E : ℕ → ℕ → Bool) (n : ℕ) → n ≤ 256 → Degrees E n 0 (replicate 256 0)
degrees-first E n b = record { long = length-replicate {A = ℕ} 256 0; is = λ v l. get_or-replicate {A = ℕ} 256 v 0 0 (omega arith) }

module _ {E : ℕ → ℕ → Bool} {n u : ℕ} {d : List ℕ} (h : Degrees E n u d) where
  pub degrees-more : {d' : List ℕ} → Row E n u d d' → Degrees E n (u + 1) d'
  degrees-more {d'} r = record {
    long = r.longer;
    is = λ v l. let s : count (λ x. E x v) (u + 1) ≡ bit (E u v) + count (λ x. E x v) u = rw (add-one u) in omega (arith, r.is v l, h.is v l, s);
  }

  pub degrees-end : u ≤ n → n ≤ u → Degrees E n n d
  degrees-end a b = subst (λ (k : ℕ). Degrees E n k d) (le_antisymm a b) h

-- ---- what each number waits for

needs-none : {E : ℕ → ℕ → Bool} {n : ℕ} {d : List ℕ} → Degrees E n n d → Needs E n d []
needs-none {E} {n} {d} h = record {
  long = h.long;
  is = λ v l. omega (arith, h.is v l, count-ext (λ u. E u v) (waits E [] v) n (λ u _. sym (and-true (E u v))));
}

-- a number is free where its count is 0 and it is not placed
free-test : (x c : ℕ) (b : Bool) → x ≡ c + bit b * placed_mark → eqb x 0 ≡ (not b && eqb c 0)
free-test x c true e = ne_eqb x 0 (λ z. let y : ◌≡◌ {A = ℕ} 0 1 = omega arith in no y)
  where
    no : ◌≡◌ {A = ℕ} 0 1 → ⊥
    no y = omega arith
free-test x c false e = ap (λ (y : ℕ). eqb y 0) (let q : x ≡ c = omega arith in q)

module _ {E : ℕ → ℕ → Bool} {n : ℕ} {d p : List ℕ} (g : Needs E n d p) where
  first-is : least (is_free d) n 0 ≡ next E n p
  unfolding next available
  first-is = least-ext (is_free d) (available E n p) n 0
      (λ i _ l. let li : i < n = omega arith in free-test (get_or d i 0) (count (waits E p i) n) (memb i p) (g.is i li))

  module _ {v : ℕ} (lv : v < n) (b : n ≤ 256) (new : memb v p ≡ false) (none : get_or d v 0 ≡ 0) where
    fewer : (w : ℕ) → count (waits E p w) n ≡ count (waits E (p ++ (v ∷ [])) w) n + bit (E v w)
    fewer w =
        let q : List ℕ = p ++ (v ∷ []) in
        let other : (y : ℕ) → (y ≡ v → ⊥) → waits E p w y ≡ waits E q w y = λ y ne. ap (λ (b : Bool). E y w && not b) (sym (memb-snoc-other y v p ne)) in
        on (E v w)
        (λ e. omega (
          arith,
          ap bit e,
          count-flip (waits E q w) (waits E p w) v n lv
              (rw (memb-snoc-self v p, and-false)) (rw (e, new)) other,
        ))
        (λ e. omega (
          arith,
          ap bit e,
          count-ext (waits E p w) (waits E q w) n
              (λ y _. on_same y v (λ s. subst (λ (z : ℕ). waits E p w z ≡ waits E q w z) (sym s) (rw e)) (other y)),
        ))

    here : get_or (set d v placed_mark) v 0 ≡ placed_mark
    here = get_or-set_same d v placed_mark 0 (omega (arith, g.long))

    owed : Owed E n v (set d v placed_mark)
    owed = record {
      long = length-set d v placed_mark ∙ g.long;
      is = λ w l e. on_same w v
          (λ s. omega (arith, ap (λ (z : ℕ). get_or (set d v placed_mark) z 0) s, here))
          (λ ne. omega (arith, get_or-set_other d v w placed_mark 0 ne, g.is w l, fewer w, ap bit e));
    }

    needs-more : {d' : List ℕ} → Row E n v d' (set d v placed_mark) → Needs E n d' (p ++ (v ∷ []))
    needs-more {d'} s = record {
      long = s.long;
      is = λ w l. on_same w v
          (λ q. subst (λ (z : ℕ). get_or d' z 0 ≡ count (waits E (p ++ (v ∷ [])) z) n + bit (memb z (p ++ (v ∷ []))) * placed_mark) (sym q)
          (omega (arith, s.is v lv, here, g.is v lv, fewer v, none, ap bit (memb-snoc-self v p))))
          (λ ne. omega (arith, s.is w l, get_or-set_other d v w placed_mark 0 ne, g.is w l, fewer w, ap bit (memb-snoc-other w v p ne)));
    }

-- ---- the sort's loop

blank-length : length (blank 256) ≡ 256
unfolding blank
blank-length = length-replicate {A = ℕ} 256 0

pub sorting-first : {E : ℕ → ℕ → Bool} {n : ℕ} {d : List ℕ} {v : ℕ} → n ≤ 256 → Degrees E n n d → v ≡ least (is_free d) n 0 → Sorting E n d (replicate 256 0) 0 v
unfolding greedy blank
sorting-first {E} {n} {d} {v} b h e =
    let g : Needs E n d [] = needs-none h in
    record { array = sym (over_none (replicate 256 0)); long = length-replicate {A = ℕ} 256 0; count = refl; once = tt; below = tt; needs = g; turn = e ∙ first-is g; left = rw sub-zero }

module _ {E : ℕ → ℕ → Bool} {n : ℕ} {d o : List ℕ} {t v : ℕ} (h : Sorting E n d o t v) where
  pub sorting-end : n ≤ v → Sorted E n (eqb t n) o
  sorting-end l =
      let p : List ℕ = take t o in
      let g : p ≡ greedy E n = sym (append-nil p) ∙ ap (λ (r : List ℕ). p ++ r) (sym (rest_end E n (n - t) p (omega (arith, h.turn)))) ∙ h.left in
      let len : t ≡ length (greedy E n) = h.count ∙ ap length g in
      record {
        done = λ e. let s : t ≡ n = eqb-true t n e in subst (λ (w : List ℕ). Smallest (is_below n) (Edge E n) w) (sym g ∙ ap (λ (k : ℕ). take k o) s) (greedy-sorts E n (sym len ∙ s));
        refused = λ e. let s : t ≡ n → ⊥ = eqb-false t n e in greedy-fails E n (subst (λ (k : ℕ). k < n) len (omega (arith, len, greedy-short E n)));
        array = h.array ∙ ap (λ (w : List ℕ). over w (blank 256)) g;
      }

  module _ (l : v < n) where
    nexts : next E n (take t o) < n
    nexts = omega (arith, h.turn)

    new : memb v (take t o) ≡ false
    new = subst (λ (x : ℕ). memb x (take t o) ≡ false) (sym h.turn) (avail-new E n (take t o) (next E n (take t o)) (next-avail E n (take t o) nexts))

    none : get_or d v 0 ≡ 0
    none = eqb-true (get_or d v 0) 0 (subst (λ (x : ℕ). is_free d x ≡ true) (first-is h.needs ∙ sym h.turn) (least-hit (is_free d) n 0 (omega (arith, first-is h.needs, nexts))))

    sorting-room : t < n
    sorting-room = omega (arith, h.count, room (take t o) n v h.once h.below l new)

    -- the code's index and measure
    pub sorting-fits : n ≤ 256 → t < 256
    sorting-fits b = omega (arith, sorting-room)

    pub sorting-word : n ≤ 256 → Fits w64 (t * 4)
    sorting-word b = omega (arith, sorting-room)

    pub sorting-next : n ≤ 256 → Fits w64 (t + 1)
    sorting-next b = omega (arith, sorting-room)

    pub sorting-less : n - (t + 1) < n - t
    sorting-less = omega (arith, sorting-room)

    pub sorting-owed : n ≤ 256 → Owed E n v (set d v placed_mark)
    sorting-owed b = owed h.needs l b new none

    pub sorting-more : {d' : List ℕ} {v' : ℕ} → n ≤ 256 → Row E n v d' (set d v placed_mark) → v' ≡ least (is_free d') n 0
        → Sorting E n d' (set o t v) (t + 1) v'
    sorting-more {d'} {v'} b s e =
        let p : List ℕ = take t o in
        let q : List ℕ = p ++ (v ∷ []) in
        let o' : List ℕ = set o t v in
        let g : Needs E n d' q = needs-more h.needs l b new none s in
        let r : take (t + 1) o' ≡ q = rw (add-one t) (take-suc-set o t v (omega (arith, sorting-room, h.long))) in
        let f : n - t ≡ suc (n - (t + 1)) = omega (arith, sorting-room) in
        let u : rest E n (n - t) p ≡ v ∷ rest E n (n - (t + 1)) q =
        ap (λ (i : ℕ). rest E n i p) f ∙ rest_more E n (n - (t + 1)) p nexts ∙ ap (λ (x : ℕ). x ∷ rest E n (n - (t + 1)) (p ++ (x ∷ []))) (sym h.turn) in
        record {
          array = ap (λ (w : List ℕ). set w t v) h.array ∙ over-more p (blank 256) v t (sym h.count) (omega (arith, sorting-room, blank-length)) ∙ ap (λ (w : List ℕ). over w (blank 256)) (sym r);
          long = length-set o t v ∙ h.long;
          count = omega (arith, ap length r, length-append p (v ∷ []), h.count);
          once = subst (λ (w : List ℕ). Distinct w) (sym r) (distinct_snoc p v h.once new);
          below = subst (λ (w : List ℕ). Below n w) (sym r) (below-snoc n p v h.below l);
          needs = subst (λ (w : List ℕ). Needs E n d' w) (sym r) g;
          turn = e ∙ first-is g ∙ ap (next E n) (sym r);
          left = ap (λ (w : List ℕ). w ++ rest E n (n - (t + 1)) w) r ∙ append_snoc p v (rest E n (n - (t + 1)) q) ∙ ap (λ (w : List ℕ). p ++ w) (sym u) ∙ h.left;
        }

-- any two results of the sort agree
pub sorted-agree : {E : ℕ → ℕ → Bool} {n : ℕ} {r s : Bool} {o p : List ℕ} → Sorted E n r o → Sorted E n s p → (r ≡ s) × (o ≡ p)
sorted-agree {E} {n} {r} {s} a b = (
  on r
      (λ e. on s (λ f. e ∙ sym f) (λ f. absurd (forward-open (edge-below E n) (a.done e).order (b.refused f))))
      (λ e. on s (λ f. absurd (forward-open (edge-below E n) (b.done f).order (a.refused e))) (λ f. e ∙ sym f)),
  a.array ∙ sym b.array,
)
  where
    edge-below : (E : ℕ → ℕ → Bool) (n x y : ℕ) → Edge E n x y → (is_below n x ≡ true) × (is_below n y ≡ true)
    edge-below E n x y e = (lt-ltb x n e.0, lt-ltb y n e.1)
