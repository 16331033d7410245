-- Laws of a full listing that is laid out by counts and filled in place by place. Assumes nothing.
use Rattle.std.specs.Prelude.{Option, Some, None, Ok, Err}
use mathlib.Core.Logic.{◌⊎◌, inl, inr, ⊎_elim}
use mathlib.Core.Path.{◌≡◌, refl, sym, ap, ap₂, ◌∙◌}
use mathlib.Core.Bool.{Bool, true, false, not, cond, ◌||◌}
use mathlib.Core.List.{List, [], ◌∷◌, ◌++◌}
use Prim.Native.Nat.{ℕ, zero, suc, ◌+◌, ◌*◌, ◌-◌, ◌≤◌, ◌<◌}
use native.Mathlib.Nat.{not-suc-le-zero, add-zero, le_antisymm}
use native.Mathlib.Numerals.{add-one}
use native.Mathlib.Omega.{arith}
use lib.Dec.{eqb}
use lib.ListN.{length, get_or, take, drop, set, replicate, length-set, length-append, length-replicate, get_or-append}
use lib.Seq.{take-suc, take-length, drop-drop, get_or-drop, get_or-append-add, get_or-set_same, get_or-set_other, ext_get_or}
use borrow.Author.Tests.{eq-eqb, ne_eqb, eqb-true}
use Rattle.lists.specs.Lists.{any, filter, flat, over, Ascending, sum_over}
use Rattle.lists.proofs.Cases.{on, on_same, on_below}
use Rattle.lists.proofs.Flat.{flat-snoc}
use Rattle.lists.proofs.Chosen.{over-length}
use Rattle.lists.proofs.Ascend.{ascending-apart}
use Rattle.layout.specs.declared.Refusal.TheVariants.{NoRoom}
use Rattle.layout.specs.Content.{Hyperedge, Table, live_vertices, position}
use Rattle.layout.specs.Layout.{limit, vertex_limit, vertex_count, read}
use Rattle.layout.specs.Inner.{Formed}
use Rattle.layout.specs.Answers.{result_of, listed}
use Rattle.layout.specs.Steps.{steps_of, is_step, makes_step}
use Rattle.layout.proofs.Answers.{listed-over, listed-fits}
use Rattle.layout.proofs.Position.{position-found, position-missing}
use Rattle.layout.proofs.Read.{live-length}
use Rattle.lookups.specs.declared.Direction.{Direction}
use Rattle.lookups.specs.declared.Direction.TheVariants.{From, To}
use Rattle.lookups.specs.declared.Relation.TheVariants.{Along}
use Rattle.lookups.specs.declared.Listing.TheVariants.{Connecting}
use Rattle.lookups.specs.Lookups.{relates, is_related, related, places, places_in, block, listing, connecting, adjacent_entry, full_adjacent}
use Rattle.lookups.specs.State.{listing_most, nothing, tallying, Tallied, words_for, head_for, start, heading, Beyond, Headed, full_words, offset, placing, Filling}
use Rattle.lookups.proofs.Shared.{live-fit}
use Rattle.lookups.proofs.Tally.{connecting-most, tallied-most}

-- ---- where the words of a record start, by the lists

module _ (live : List ℕ) (whole : ℕ → List ℕ) where
  flat-next : (k : ℕ) → k < length live → flat (full_words whole) (take (suc k) live) ≡ flat (full_words whole) (take k live) ++ full_words whole (get_or live k 0)
  flat-next k h = ap (flat (full_words whole)) (take-suc live k 0 h) ∙ flat-snoc (full_words whole) (take k live) (get_or live k 0)

  offset-suc : (k : ℕ) → k < length live → offset live whole (suc k) ≡ offset live whole k + length (full_words whole (get_or live k 0))
  unfolding offset
  offset-suc k h = ap length (flat-next k h) ∙ length-append (flat (full_words whole) (take k live)) (full_words whole (get_or live k 0))

  offset-upto : (n k : ℕ) → k ≤ n → n ≤ length live → offset live whole k ≤ offset live whole n
  offset-upto zero k l m = let e : k ≡ 0 = omega arith in omega (arith, ap (offset live whole) e)
  offset-upto (suc n) k l m =
      on_same k (suc n)
      (λ s. omega (arith, ap (offset live whole) s))
      (λ ne. omega (arith, offset-upto n k (omega arith) (omega arith), offset-suc n (omega arith)))

  offset-all : offset live whole (length live) ≡ length (flat (full_words whole) live)
  unfolding offset
  offset-all = ap (λ (xs : List ℕ). length (flat (full_words whole) xs)) (take-length live)

  -- each word of the records below n stands where it belongs
  words-at : (out : List ℕ) → ((k p : ℕ) → k < length live → offset live whole k ≤ p → p < offset live whole (suc k) → get_or out p 0 ≡ get_or (full_words whole (get_or live k 0)) (p - offset live whole k) 0)
      → (n : ℕ) → n ≤ length live → (p : ℕ) → p < offset live whole n → get_or out p 0 ≡ get_or (flat (full_words whole) (take n live)) p 0
  unfolding offset flat
  words-at out d zero m p h = absurd (not-suc-le-zero h)
  words-at out d (suc n) m p h =
      rw (flat-next n m)
      (on_below p (offset live whole n)
      (λ l. words-at out d n (omega arith) p l ∙ sym (get_or-append (flat (full_words whole) (take n live)) (full_words whole (get_or live n 0)) 0 p l))
      (λ l. let e : offset live whole n + (p - offset live whole n) ≡ p = omega arith in
      d n p m l h ∙ sym (get_or-append-add (flat (full_words whole) (take n live)) (full_words whole (get_or live n 0)) (p - offset live whole n) 0)
      ∙ ap (λ (q : ℕ). get_or (flat (full_words whole) (take n live) ++ full_words whole (get_or live n 0)) q 0) e))

-- ---- words that are kept

pub beyond-same : (total : ℕ) (out : List ℕ) → Beyond total out out
beyond-same total out = record { same = refl; rest = λ p h. refl }

pub beyond-then : {total : ℕ} {a b d : List ℕ} → Beyond total a b → Beyond total b d → Beyond total a d
beyond-then x y = record { same = y.same ∙ x.same; rest = λ p h. y.rest p h ∙ x.rest p h }

-- ---- filling in

drop_head : (xs : List ℕ) (i x : ℕ) (rest : List ℕ) → drop i xs ≡ x ∷ rest → get_or xs i 0 ≡ x
drop_head xs i x rest e = ap (λ (k : ℕ). get_or xs k 0) (sym (add-zero i)) ∙ sym (get_or-drop i xs 0 0) ∙ ap (λ (l : List ℕ). get_or l 0 0) e

drop-rest : (xs : List ℕ) (i x : ℕ) (rest : List ℕ) → drop i xs ≡ x ∷ rest → drop (i + 1) xs ≡ rest
drop-rest xs i x rest e = sym (drop-drop 1 i xs) ∙ ap (drop 1) e

module _ {live : List ℕ} {whole left : ℕ → List ℕ} {nexts out : List ℕ} (f : Filling live whole left nexts out) where
  pub filling-as : {left' : ℕ → List ℕ} {nexts' out' : List ℕ} → ((y : ℕ) → left y ≡ left' y) → nexts' ≡ nexts → out' ≡ out → Filling live whole left' nexts' out'
  filling-as {left'} s a b = rw (a, b) (record {
    sized = f.sized;
    fits = f.fits;
    low = f.low;
    room = λ k h. ap (λ (xs : List ℕ). get_or nexts k 0 + length xs) (sym (s (get_or live k 0))) ∙ f.room k h;
    todo = λ k h. f.todo k h ∙ s (get_or live k 0);
    done = f.done;
  })

  -- a word of record k ahead is none of another's that are written
  apart : (i k p : ℕ) → i < length live → k < length live → (k ≡ i → ⊥) → offset live whole k ≤ p → p < get_or nexts k 0 → get_or nexts i 0 < offset live whole (suc i) → p ≡ get_or nexts i 0 → ⊥
  apart i k p hi hk n a b d e =
      on_below k i
      (λ l. let z : ◌≡◌ {A = ℕ} 0 1 = omega (arith, offset-upto live whole i (suc k) l (omega arith), f.low i hi, f.room k hk) in omega arith)
      (λ l. let z : ◌≡◌ {A = ℕ} 0 1 = omega (arith, offset-upto live whole k (suc i) (omega arith) (omega arith)) in omega arith)

  -- x had the word e next
  module _ (x e : ℕ) (left' : ℕ → List ℕ) (asc : Ascending live) (fit : length live ≤ vertex_limit) (s : (y : ℕ) → left y ≡ cond (eqb y x) (e ∷ left' y) (left' y)) where
    skip : (y : ℕ) → (y ≡ x → ⊥) → left y ≡ left' y
    skip y n = s y ∙ rw (ne_eqb y x n)

    here : (y : ℕ) → y ≡ x → left y ≡ e ∷ left' y
    here y w = s y ∙ rw (eq-eqb y x w)

    -- its next word belongs to it
    inside : (i : ℕ) → i < length live → get_or live i 0 ≡ x → get_or nexts i 0 < offset live whole (suc i)
    inside i h w = omega (arith, f.room i h, ap length (here (get_or live i 0) w))

    pub filling-room : (i : ℕ) → position x live ≡ Some i → get_or nexts i 0 < length out
    filling-room i q = let r = position-found x live i q in omega (arith, inside i r.0 r.1, offset-upto live whole (length live) (suc i) r.0 (omega arith), f.fits)

    pub filling-one : {nexts' out' : List ℕ} → nexts' ≡ tallying (position x live) nexts → out' ≡ placing (position x live) nexts e out → Filling live whole left' nexts' out'
    filling-one {nexts'} {out'} a b = go (position x live) refl a b
      where
        go : (p : Option ℕ) → position x live ≡ p → nexts' ≡ tallying p nexts → out' ≡ placing p nexts e out → Filling live whole left' nexts' out'
        go None q a b = rw (a, b) (record {
          sized = f.sized;
          fits = f.fits;
          low = f.low;
          room = λ k h. ap (λ (xs : List ℕ). get_or nexts k 0 + length xs) (sym (skip (get_or live k 0) (position-missing x live q k h))) ∙ f.room k h;
          todo = λ k h. f.todo k h ∙ skip (get_or live k 0) (position-missing x live q k h);
          done = f.done;
        })
        go (Some i) q a b =
            let r = position-found x live i q in
            let at : ℕ = get_or nexts i 0 in
            let set_here : get_or (set nexts i (at + 1)) i 0 ≡ at + 1 = get_or-set_same nexts i (at + 1) 0 (omega (arith, f.sized, r.0)) in
            let other : (k : ℕ) → (k ≡ i → ⊥) → get_or (set nexts i (at + 1)) k 0 ≡ get_or nexts k 0 = λ k n. get_or-set_other nexts i k (at + 1) 0 n in
            let dead : (k : ℕ) → k < length live → (k ≡ i → ⊥) → left (get_or live k 0) ≡ left' (get_or live k 0) =
            λ k h n. skip (get_or live k 0) (λ w. ascending-apart live asc k i h r.0 n (w ∙ sym r.1)) in
            let ahead : left (get_or live i 0) ≡ e ∷ left' (get_or live i 0) = here (get_or live i 0) r.1 in
            let step : at + 1 - offset live whole i ≡ at - offset live whole i + 1 = omega (arith, f.low i r.0) in
            rw (a, b) (record {
              sized = length-set nexts i (at + 1) ∙ f.sized;
              fits = rw length-set f.fits;
              low = λ k h. on_same k i
                  (λ w. rw (w, set_here) (omega (arith, f.low i r.0)))
                  (λ n. rw (other k n) (f.low k h));
              room = λ k h. on_same k i
                  (λ w. rw (w, set_here) (omega (arith, f.room i r.0, ap length ahead)))
                  (λ n. rw (other k n) (ap (λ (xs : List ℕ). get_or nexts k 0 + length xs) (sym (dead k h n)) ∙ f.room k h));
              todo = λ k h. on_same k i
                  (λ w. rw (w, set_here, step) (drop-rest (full_words whole (get_or live i 0)) (at - offset live whole i) e (left' (get_or live i 0)) (f.todo i r.0 ∙ ahead)))
                  (λ n. rw (other k n) (f.todo k h ∙ dead k h n));
              done = λ k p h l m. on_same k i
                  (λ w. on_same p at
                  (λ v. rw (v, w) (get_or-set_same out at e 0 (filling-room i q) ∙ sym (drop_head (full_words whole (get_or live i 0)) (at - offset live whole i) e (left' (get_or live i 0)) (f.todo i r.0 ∙ ahead))))
                  (λ v. get_or-set_other out at p e 0 v ∙ f.done k p h l (rw w (omega (arith, ap (λ (k : ℕ). get_or (set nexts i (at + 1)) k 0) w, set_here)))))
                  (λ n. get_or-set_other out at p e 0 (apart i k p r.0 h n l (omega (arith, other k n)) (inside i r.0 r.1)) ∙ f.done k p h l (omega (arith, other k n)));
            })

    pub beyond-one : {out' : List ℕ} → out' ≡ placing (position x live) nexts e out → Beyond (offset live whole (length live)) out out'
    beyond-one {out'} b = go (position x live) refl b
      where
        go : (p : Option ℕ) → position x live ≡ p → out' ≡ placing p nexts e out → Beyond (offset live whole (length live)) out out'
        go None q b = rw b (beyond-same _ out)
        go (Some i) q b =
            let r = position-found x live i q in
            rw b (record {
              same = length-set out (get_or nexts i 0) e;
              rest = λ p h. get_or-set_other out (get_or nexts i 0) p e 0 (λ w. let z : ◌≡◌ {A = ℕ} 0 1 = omega (arith, inside i r.0 r.1, offset-upto live whole (length live) (suc i) r.0 (omega arith)) in omega arith);
            })

-- a turn of the loop: the words beyond the listing are kept, too
module _ {live : List ℕ} {whole left : ℕ → List ℕ} {nexts out old : List ℕ} (f : Filling live whole left nexts out) (b : Beyond (offset live whole (length live)) old out) where
  pub fill-yes : (x e : ℕ) {left' : ℕ → List ℕ} {nexts' out' : List ℕ} → Ascending live → length live ≤ vertex_limit → ((y : ℕ) → left y ≡ cond (eqb y x) (e ∷ left' y) (left' y))
      → nexts' ≡ tallying (position x live) nexts → out' ≡ placing (position x live) nexts e out
      → Filling live whole left' nexts' out' × Beyond (offset live whole (length live)) old out'
  fill-yes x e {left'} asc fit s a d = (filling-one f x e left' asc fit s a d, beyond-then b (beyond-one f x e left' asc fit s d))

  pub fill-no : {left' : ℕ → List ℕ} {nexts' out' : List ℕ} → ((y : ℕ) → left y ≡ left' y) → nexts' ≡ nexts → out' ≡ out
      → Filling live whole left' nexts' out' × Beyond (offset live whole (length live)) old out'
  fill-no s a d = (filling-as f s a d, rw d b)

-- the same for `search`: p is what `find_vertex` returned
module _ (L : ℕ) (ws : List ℕ) (x e : ℕ) (nexts out : List ℕ) (p : Option ℕ) (q : p ≡ position x (live_vertices (read L ws))) where
  pub put-none : p ≡ None → out ≡ placing (position x (live_vertices (read L ws))) nexts e out
  put-none h = rw (← q, h)

  pub put_one : (k : ℕ) → p ≡ Some k → set out (get_or nexts k 0) e ≡ placing (position x (live_vertices (read L ws))) nexts e out
  put_one k h = rw (← q, h)

  pub put_in : ((k : ℕ) → position x (live_vertices (read L ws)) ≡ Some k → get_or nexts k 0 < length out) → (k : ℕ) → p ≡ Some k → get_or nexts k 0 < length out
  put_in r k h = r k (sym q ∙ h)

-- with nothing left, the listing is written
pub filling-end : {live : List ℕ} {whole : ℕ → List ℕ} {nexts out old : List ℕ} → Filling live whole nothing nexts out → Beyond (offset live whole (length live)) old out
    → out ≡ over (flat (full_words whole) live) old
unfolding over
filling-end {live} {whole} {nexts} {out} {old} f b =
    let total : offset live whole (length live) ≡ length (flat (full_words whole) live) = offset-all live whole in
    let len : length (over (flat (full_words whole) live) old) ≡ length old = over-length (flat (full_words whole) live) old (omega (arith, f.fits, b.same)) in
    ext_get_or 0 out (over (flat (full_words whole) live) old) (b.same ∙ sym len) (λ p h.
    on_below p (length (flat (full_words whole) live))
    (λ l. words-at live whole out (λ k q hk a d. f.done k q hk a (omega (arith, f.room k hk))) (length live) (omega arith) p (omega arith)
    ∙ ap (λ (xs : List ℕ). get_or (flat (full_words whole) xs) p 0) (take-length live)
    ∙ sym (get_or-append (flat (full_words whole) live) (drop (length (flat (full_words whole) live)) old) 0 p l))
    (λ l. let w : List ℕ = flat (full_words whole) live in
    let e : length w + (p - length w) ≡ p = omega arith in
    b.rest p (omega arith) ∙ ap (λ (q : ℕ). get_or old q 0) (sym e) ∙ sym (get_or-drop (length w) old (p - length w) 0)
    ∙ sym (get_or-append-add w (drop (length w) old) (p - length w) 0) ∙ ap (λ (q : ℕ). get_or (w ++ drop (length w) old) q 0) e))

-- ---- the layout by the counts

-- the code tested the count
module _ (count : ℕ) where
  pub words-none : count ≡ 0 → 0 ≡ words_for count
  unfolding words_for
  words-none e = rw (eq-eqb count 0 e)

  pub words-some : (count ≡ 0 → ⊥) → count + 2 ≡ words_for count
  unfolding words_for
  words-some n = rw (ne_eqb count 0 n)

  pub head-none : (c : ℕ) → count ≡ 0 → c ≡ c + head_for count
  unfolding head_for
  head-none c e = rw (eq-eqb count 0 e) (omega arith)

  pub head-some : (c : ℕ) → (count ≡ 0 → ⊥) → c + 2 ≡ c + head_for count
  unfolding head_for
  head-some c n = rw (ne_eqb count 0 n)

  pub head-fits : (c : ℕ) (out : List ℕ) → (count ≡ 0 → ⊥) → c + words_for count ≤ length out → c + 2 ≤ length out
  head-fits c out n l = omega (arith, words-some n)

  pub heading-none : (c y : ℕ) (out : List ℕ) → count ≡ 0 → out ≡ heading c y count out
  unfolding heading
  heading-none c y out e = rw (eq-eqb count 0 e)

  pub heading-some : (c y : ℕ) (out : List ℕ) → (count ≡ 0 → ⊥) → set (set out c y) (c + 1) count ≡ heading c y count out
  unfolding heading
  heading-some c y out n = rw (ne_eqb count 0 n)

  words-le : words_for count ≤ count + 2
  words-le = on_same count 0 (λ e. omega (arith, words-none e)) (λ n. omega (arith, words-some n))

sum-snoc : {A : Type 0} (f : A → ℕ) (xs : List A) (x : A) → sum_over f (xs ++ (x ∷ [])) ≡ sum_over f xs + f x
unfolding sum_over
sum-snoc f [] x = omega arith
sum-snoc f (y ∷ ys) x = omega (arith, sum-snoc f ys x)

module _ (counts : List ℕ) where
  pub start_none : 0 ≡ start counts 0
  unfolding start sum_over
  start_none = refl

  pub start-suc : (k : ℕ) → k < length counts → start counts (suc k) ≡ start counts k + words_for (get_or counts k 0)
  unfolding start
  start-suc k h = ap (sum_over words_for) (take-suc counts k 0 h) ∙ sum-snoc words_for (take k counts) (get_or counts k 0)

  start-upto : (n k : ℕ) → k ≤ n → n ≤ length counts → start counts k ≤ start counts n
  start-upto zero k l m = let e : k ≡ 0 = omega arith in omega (arith, ap (start counts) e)
  start-upto (suc n) k l m =
      on_same k (suc n)
      (λ s. omega (arith, ap (start counts) s))
      (λ ne. omega (arith, start-upto n k (omega arith) (omega arith), start-suc n (omega arith)))

  -- c words so far, w for the next record
  pub start-more : (k c w : ℕ) → k < length counts → c ≡ start counts k → w ≡ words_for (get_or counts k 0) → c + w ≡ start counts (k + 1)
  start-more k c w h e q = rw (add-one k) (omega (arith, start-suc k h))

  pub start-end : (n k c : ℕ) → c ≡ start counts k → k ≤ n → n ≤ k → c ≡ start counts n
  start-end n k c e a b = e ∙ ap (start counts) (le_antisymm a b)

  pub start-within : (n k : ℕ) → k < n → n ≤ length counts → start counts k + words_for (get_or counts k 0) ≤ start counts n
  start-within n k h l = omega (arith, start-suc k (omega arith), start-upto n (suc k) h l)

  pub start-most : (most n : ℕ) → n ≤ length counts → ((k : ℕ) → k < n → get_or counts k 0 ≤ most) → (k : ℕ) → k ≤ n → start counts k ≤ k * (most + 2)
  unfolding start sum_over
  start-most most n l b zero h = omega arith
  start-most most n l b (suc k) h = omega (arith, start-suc k (omega arith), start-most most n l b k (omega arith), words-le (get_or counts k 0), b k (omega arith))

-- ---- vertex and count, as `write_head` left them

module _ (count c y : ℕ) (out out' : List ℕ) (b : out' ≡ heading c y count out) where
  kept-all : count ≡ 0 → out' ≡ out
  kept-all z = b ∙ sym (heading-none count c y out z)

  wrote : (count ≡ 0 → ⊥) → out' ≡ set (set out c y) (c + 1) count
  wrote n = b ∙ sym (heading-some count c y out n)

  head-length : length out' ≡ length out
  head-length = on_same count 0 (λ z. ap length (kept-all z)) (λ n. ap length (wrote n) ∙ length-set (set out c y) (c + 1) count ∙ length-set out c y)

  head-name : (count ≡ 0 → ⊥) → c + words_for count ≤ length out → get_or out' c 0 ≡ y
  head-name n l = rw (
    wrote n,
    get_or-set_other (set out c y) (c + 1) c count 0 (λ w. let z : ◌≡◌ {A = ℕ} 0 1 = omega arith in omega arith),
    get_or-set_same out c y 0 (omega (arith, head-fits count c out n l)),
  )

  head-count : (count ≡ 0 → ⊥) → c + words_for count ≤ length out → get_or out' (c + 1) 0 ≡ count
  head-count n l = rw (wrote n, get_or-set_same (set out c y) (c + 1) count 0 (rw length-set (omega (arith, head-fits count c out n l))))

  -- no other word changes
  head-other : (p : ℕ) → ((count ≡ 0 → ⊥) → (p < c) ⊎ (c + 2 ≤ p)) → get_or out' p 0 ≡ get_or out p 0
  head-other p h = on_same count 0
      (λ z. ap (λ (xs : List ℕ). get_or xs p 0) (kept-all z))
      (λ s. let o : (p < c) ⊎ (c + 2 ≤ p) = h s in
      rw (wrote s, get_or-set_other (set out c y) (c + 1) p count 0 (⊎_elim (λ m w. let z : ◌≡◌ {A = ℕ} 0 1 = omega arith in omega arith) (λ m w. let z : ◌≡◌ {A = ℕ} 0 1 = omega arith in omega arith) o))
      (get_or-set_other out c p y 0 (⊎_elim (λ m w. let z : ◌≡◌ {A = ℕ} 0 1 = omega arith in omega arith) (λ m w. let z : ◌≡◌ {A = ℕ} 0 1 = omega arith in omega arith) o)))

-- ---- the loop that writes vertex and count of each record

pub headed-none : (live counts old nexts : List ℕ) → length nexts ≡ vertex_limit → Headed live counts old 0 nexts old
headed-none live counts old nexts e = record {
  sized = e;
  each = λ k h. absurd (not-suc-le-zero h);
  named = λ k h. absurd (not-suc-le-zero h);
  counted = λ k h. absurd (not-suc-le-zero h);
  kept = beyond-same _ old;
}

module _ {live counts old : List ℕ} {k : ℕ} {nexts out : List ℕ} (d : Headed live counts old k nexts out) (c : ℕ) (e : c ≡ start counts k) where
  -- r and out' are what `write_head` left
  pub headed-more : {r y : ℕ} {out' : List ℕ} → k < length counts → length counts ≡ vertex_limit → c + words_for (get_or counts k 0) ≤ length out → y ≡ get_or live k 0
      → r ≡ c + head_for (get_or counts k 0) → out' ≡ heading c y (get_or counts k 0) out → Headed live counts old (k + 1) (set nexts k r) out'
  headed-more {r} {y} {out'} h l room q a b = rw (add-one k) (record {
    sized = length-set nexts k r ∙ d.sized;
    each = λ i m. on_same i k
        (λ w. rw (w, get_or-set_same nexts k r 0 (omega (arith, d.sized))) (omega arith))
        (λ n. get_or-set_other nexts k i r 0 n ∙ d.each i (omega arith));
    named = λ i m p. on_same i k
        (λ w. rw (w, ← e) (head-name (get_or counts k 0) c y out out' b (some i w p) room ∙ q))
        (λ n. before i (omega arith) p (start counts i) (omega arith) ∙ d.named i (omega arith) p);
    counted = λ i m p. on_same i k
        (λ w. rw (w, ← e) (head-count (get_or counts k 0) c y out out' b (some i w p) room))
        (λ n. before i (omega arith) p (start counts i + 1) (omega arith) ∙ d.counted i (omega arith) p);
    kept = record {
      same = head-length (get_or counts k 0) c y out out' b ∙ d.kept.same;
      rest = λ p m. head-other (get_or counts k 0) c y out out' b p (λ s. inr (omega (arith, start-suc counts k h, words-some (get_or counts k 0) s)))
          ∙ d.kept.rest p (omega (arith, start-suc counts k h));
    };
  })
    where
      some : (i : ℕ) → i ≡ k → 0 < get_or counts i 0 → get_or counts k 0 ≡ 0 → ⊥
      some i w p z = let s : get_or counts i 0 ≡ get_or counts k 0 = ap (λ (j : ℕ). get_or counts j 0) w in let z : ◌≡◌ {A = ℕ} 0 1 = omega arith in omega arith

      -- the words of a record before are kept
      before : (i : ℕ) → i < k → 0 < get_or counts i 0 → (p : ℕ) → p < start counts i + 2 → get_or out' p 0 ≡ get_or out p 0
      before i m s p u =
          head-other (get_or counts k 0) c y out out' b p (λ n. inl (omega (
            arith,
            start-within counts k i m (omega arith),
            words-some (get_or counts i 0) (λ z. let t : ◌≡◌ {A = ℕ} 0 1 = omega arith in omega arith),
          )))

pub headed-end : {live counts old : List ℕ} {k n : ℕ} {nexts out : List ℕ} → Headed live counts old k nexts out → k ≤ n → n ≤ k → Headed live counts old n nexts out
headed-end {live} {counts} {old} {k} {n} {nexts} {out} d a b = let e : n ≡ k = le_antisymm b a in rw e d

-- ---- from the layout to the filling in

module _ (whole : ℕ → List ℕ) (y : ℕ) where
  -- the words of y, by the length of its list
  full-length : length (full_words whole y) ≡ words_for (length (whole y))
  unfolding full_words words_for
  full-length = on (eqb (length (whole y)) 0) (λ e. rw e) (λ e. rw e (omega arith))

  full-rest : drop (head_for (length (whole y))) (full_words whole y) ≡ whole y
  unfolding full_words head_for
  full-rest = on (eqb (length (whole y)) 0) (λ e. rw e (sym (empty (whole y) (eqb-true (length (whole y)) 0 e)))) (λ e. rw e)
    where
      empty : (xs : List ℕ) → length xs ≡ 0 → xs ≡ []
      empty [] e = refl
      empty (x ∷ xs) e = absurd (let z : ◌≡◌ {A = ℕ} 0 1 = omega arith in omega arith)

  full-head : (i : ℕ) → i < head_for (length (whole y)) → (0 < length (whole y)) × ((i ≡ 0) ⊎ (i ≡ 1))
  unfolding head_for
  full-head i h = on_same (length (whole y)) 0
      (λ e. absurd (not-suc-le-zero (rw (eq-eqb (length (whole y)) 0 e) at h)))
      (λ n. let m : i < 2 = rw (ne_eqb (length (whole y)) 0 n) at h in (omega arith, on_same i 0 (λ e. inl e) (λ w. inr (omega arith))))

  full-name : 0 < length (whole y) → get_or (full_words whole y) 0 0 ≡ y
  unfolding full_words
  full-name h = rw (ne_eqb (length (whole y)) 0 (λ z. let t : ◌≡◌ {A = ℕ} 0 1 = omega arith in omega arith))

  full-count : 0 < length (whole y) → get_or (full_words whole y) 1 0 ≡ length (whole y)
  unfolding full_words
  full-count h = rw (ne_eqb (length (whole y)) 0 (λ z. let t : ◌≡◌ {A = ℕ} 0 1 = omega arith in omega arith))

module _ {live : List ℕ} {whole : ℕ → List ℕ} {counts : List ℕ} (t : Tallied live whole nothing counts) (fit : length live ≤ vertex_limit) where
  count-is : (k : ℕ) → k < length live → get_or counts k 0 ≡ length (whole (get_or live k 0))
  count-is k h = omega (arith, t.each k h)

  pub start_is : (k : ℕ) → k ≤ length live → start counts k ≡ offset live whole k
  unfolding start sum_over offset flat
  start_is zero h = refl
  start_is (suc k) h =
      omega (arith, start_is k (omega arith), start-suc counts k (omega (arith, t.sized)), offset-suc live whole k h, full-length whole (get_or live k 0), ap words_for (count-is k h))

  pub headed-filling : {old nexts out : List ℕ} → Headed live counts old (length live) nexts out → start counts (length live) ≤ length old → Filling live whole whole nexts out
  headed-filling {old} {nexts} {out} d l = record {
    sized = d.sized;
    fits = omega (arith, start_is (length live) (omega arith), d.kept.same);
    low = λ k h. omega (arith, next k h);
    room = λ k h. omega (arith, next k h, offset-suc live whole k h, full-length whole (get_or live k 0), halves (length (whole (get_or live k 0))));
    todo = λ k h. let e : get_or nexts k 0 - offset live whole k ≡ head_for (length (whole (get_or live k 0))) = omega (arith, next k h) in rw e (full-rest whole (get_or live k 0));
    done = λ k p h a b.
        let o : offset live whole k + (p - offset live whole k) ≡ p = omega arith in
        let r = full-head whole (get_or live k 0) (p - offset live whole k) (omega (arith, next k h)) in
        let s : start counts k ≡ offset live whole k = start_is k (omega arith) in
        let m : 0 < get_or counts k 0 = omega (arith, count-is k h, r.0) in
        ⊎_elim
        (λ z. let w : p ≡ start counts k = omega arith in
        ap (λ (q : ℕ). get_or out q 0) w ∙ d.named k h m ∙ sym (full-name whole (get_or live k 0) r.0) ∙ ap (λ (q : ℕ). get_or (full_words whole (get_or live k 0)) q 0) (sym z))
        (λ z. let w : p ≡ start counts k + 1 = omega arith in
        ap (λ (q : ℕ). get_or out q 0) w ∙ d.counted k h m ∙ count-is k h ∙ sym (full-count whole (get_or live k 0) r.0) ∙ ap (λ (q : ℕ). get_or (full_words whole (get_or live k 0)) q 0) (sym z))
        r.1;
  }
    where
      next : (k : ℕ) → k < length live → get_or nexts k 0 ≡ offset live whole k + head_for (length (whole (get_or live k 0)))
      next k h = omega (arith, d.each k h, start_is k (omega arith), ap head_for (count-is k h))

      halves : (n : ℕ) → head_for n + n ≡ words_for n
      halves n = on_same n 0 (λ e. omega (arith, words-none n e, head-none n 0 e)) (λ e. omega (arith, words-some n e, head-some n 0 e))

-- ---- the words of the live vertices are the full listing

pub any-places : {A : Type 0} (p : A → Bool) (xs : List A) → any p xs ≡ not (eqb (length (filter p xs)) 0)
unfolding any filter
any-places p [] = refl
any-places p (x ∷ xs) = on (p x)
    (λ e. rw e (sym (ap not (ne_eqb (suc (length (filter p xs))) 0 (λ z. let t : ◌≡◌ {A = ℕ} 0 1 = omega arith in omega arith)))))
    (λ e. rw e (any-places p xs))

some-either : (a b : ℕ) → not (eqb (a + b) 0) ≡ (not (eqb a 0) || not (eqb b 0))
some-either zero b = let e : 0 + b ≡ b = omega arith in rw e
some-either (suc a) b =
    rw (
      ne_eqb (suc a + b) 0 (λ z. let t : ◌≡◌ {A = ℕ} 0 1 = omega arith in omega arith),
      ne_eqb (suc a) 0 (λ z. let t : ◌≡◌ {A = ℕ} 0 1 = omega arith in omega arith),
    )

any-connecting : (x y : ℕ) (es : List Hyperedge) → any (makes_step x y) es ≡ not (eqb (length (flat (block (Connecting x y)) es)) 0)
unfolding any makes_step flat block places_in places
any-connecting x y [] = refl
any-connecting x y (e ∷ es) =
    let n : ℕ = length (filter (is_step x y) (steps_of e.members)) in
    ap₂ ◌||◌ (any-places (is_step x y) (steps_of e.members)) (any-connecting x y es)
    ∙ sym (some-either n (length (flat (block (Connecting x y)) es)))
    ∙ ap (λ (k : ℕ). not (eqb (k + length (flat (block (Connecting x y)) es)) 0)) (sym (length-replicate {A = ℕ} n e.number))
    ∙ ap (λ (k : ℕ). not (eqb k 0)) (sym (length-append (replicate n e.number) (flat (block (Connecting x y)) es)))

-- adjacent are the vertices that some hyperedge connects
adjacent-is : (dir : Direction) (t : Table) (v y : ℕ) → is_related (Along dir) t v y ≡ not (eqb (length (connecting dir t v y)) 0)
unfolding is_related relates connecting listing
adjacent-is From t v y = any-connecting v y t.hyperedges
adjacent-is To t v y = any-connecting y v t.hyperedges

flat-filter : (f g : ℕ → List ℕ) (p : ℕ → Bool) (xs : List ℕ) → ((x : ℕ) → g x ≡ cond (p x) (f x) []) → flat g xs ≡ flat f (filter p xs)
unfolding flat filter
flat-filter f g p [] h = refl
flat-filter f g p (x ∷ xs) h = on (p x)
    (λ e. rw (h x, e) (ap (λ (r : List ℕ). f x ++ r) (flat-filter f g p xs h)))
    (λ e. rw (h x, e) (flat-filter f g p xs h))

pub full_is : (dir : Direction) (t : Table) (v : ℕ) → flat (full_words (connecting dir t v)) (live_vertices t) ≡ full_adjacent dir v t
unfolding full_adjacent related full_words adjacent_entry
full_is dir t v = flat-filter (adjacent_entry dir t v) (full_words (connecting dir t v)) (is_related (Along dir) t v) (live_vertices t) each
  where
    turn : (b : Bool) (xs ys : List ℕ) → cond b xs ys ≡ cond (not b) ys xs
    turn true xs ys = refl
    turn false xs ys = refl

    each : (y : ℕ) → full_words (connecting dir t v) y ≡ cond (is_related (Along dir) t v y) (adjacent_entry dir t v y) []
    each y =
        turn (eqb (length (connecting dir t v y)) 0) [] (y ∷ length (connecting dir t v y) ∷ connecting dir t v y)
        ∙ ap (λ (b : Bool). cond b (y ∷ length (connecting dir t v y) ∷ connecting dir t v y) []) (sym (adjacent-is dir t v y))

-- ---- the listing: n is what `vertex_count` found, counts what `tally_places` left, c what `words_needed` found

module _ (dir : Direction) (v : ℕ) (ws : List ℕ) (f : Formed limit ws) (n : ℕ) (e : n ≡ vertex_count ws) (counts : List ℕ)
    (t : Tallied (live_vertices (read limit ws)) (connecting dir (read limit ws) v) nothing counts) where
  live-is : n ≡ length (live_vertices (read limit ws))
  live-is = e ∙ sym (live-length limit ws)

  pub full-few : n ≤ vertex_limit
  full-few = omega (arith, f.shape.vertices-le)

  pub full-most : (k : ℕ) → k < n → get_or counts k 0 ≤ listing_most
  full-most k h = tallied-most t listing_most (λ y. connecting-most ws dir v y f) k (omega (arith, live-is))

  full-words : start counts n ≡ length (full_adjacent dir v (read limit ws))
  full-words =
      ap (start counts) live-is ∙ start_is t (live-fit limit ws f) (length (live_vertices (read limit ws))) (omega arith)
      ∙ offset-all (live_vertices (read limit ws)) (connecting dir (read limit ws) v) ∙ ap length (full_is dir (read limit ws) v)

  module _ (c : ℕ) (q : c ≡ start counts n) (out : List ℕ) where
    pub full-over : length out < c → result_of (Err (NoRoom c)) out ≡ listed (full_adjacent dir v (read limit ws)) out
    full-over h = listed-over (full_adjacent dir v (read limit ws)) out c (q ∙ full-words) h

    pub full-room : c ≤ length out → start counts n ≤ length out
    full-room h = omega arith

    -- nexts and heads are what `write_heads` left, nexts' and exit what `fill` left
    pub full-ready : (nexts heads : List ℕ) → c ≤ length out → Headed (live_vertices (read limit ws)) counts out n nexts heads
        → Filling (live_vertices (read limit ws)) (connecting dir (read limit ws) v) (connecting dir (read limit ws) v) nexts heads
    full-ready nexts heads h d = headed-filling t (live-fit limit ws f) (rw live-is at d) (omega (arith, ap (start counts) live-is))

    pub full-done : (nexts heads nexts' exit : List ℕ) → c ≤ length out → Headed (live_vertices (read limit ws)) counts out n nexts heads
        → Filling (live_vertices (read limit ws)) (connecting dir (read limit ws) v) nothing nexts' exit
        → Beyond (offset (live_vertices (read limit ws)) (connecting dir (read limit ws) v) (length (live_vertices (read limit ws)))) heads exit
        → result_of (Ok c) exit ≡ listed (full_adjacent dir v (read limit ws)) out
    full-done nexts heads nexts' exit h d g b =
        let total : start counts n ≡ offset (live_vertices (read limit ws)) (connecting dir (read limit ws) v) (length (live_vertices (read limit ws))) =
        ap (start counts) live-is ∙ start_is t (live-fit limit ws f) (length (live_vertices (read limit ws))) (omega arith) in
        listed-fits (full_adjacent dir v (read limit ws)) out c (q ∙ full-words) exit h
        (filling-end g (beyond-then (rw total at d.kept) b) ∙ ap (λ (xs : List ℕ). over xs out) (full_is dir (read limit ws) v))
