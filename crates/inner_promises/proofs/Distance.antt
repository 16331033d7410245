-- Keys, labels, best walks and the choices of a table's steps: any two results that keep the promise on the same input agree, or agree in what is
-- given. Assumes nothing.
use mathlib.Core.Path.{◌≡◌, refl, sym, ap, ap₂, ◌∙◌}
use mathlib.Core.Logic.{◌⊎◌, ⊎_elim}
use mathlib.Core.Bool.{Bool}
use mathlib.Core.List.{List, [], ◌∷◌}
use Prim.Native.Nat.{ℕ, zero, suc, ◌≤◌, ◌<◌}
use native.Mathlib.Omega.{arith}
use lib.ListN.{length, get_or, take}
use lib.Seq.{ext_get_or}
use borrow.Author.Tests.{lt-ltb, le-ltb, ne_eqb}
use Rattle.lists.specs.Lists.{memb, word_at, tab}
use Rattle.lists.proofs.Cases.{on, on_same, on_below, test-ext}
use Rattle.lists.proofs.Memb.{memb-at, memb-getD}
use Rattle.lists.proofs.Tab.{length-tab, getD-tab, tab-ext}
use Rattle.layout.specs.Content.{Table}
use Rattle.distance.specs.Blocks.{Block, Blocks}
use Rattle.distance.specs.Labels.{Relaxed, Shortest, Nearest}
use Rattle.distance.specs.Cost.{step_in, step_count, Listed}
use Rattle.distance.specs.Best.{total}
use Rattle.distance.specs.Descent.{Pair}
use Rattle.distance.proofs.Best.{best-one}
use Rattle.paths.specs.Choices.{Weights, Values}
use Rattle.agreement.specs.Agreement.{Agrees, AgreesIn}
use Rattle.inner_promises.specs.Given.{firsts, row_firsts, near, block_keys, picked_key, key_of, listed_in, listed_all, walk_of}
use Rattle.inner_promises.proofs.Parts.{two, three, matrix-one}
use Rattle.distance.proofs.blocks.lesser.Kinds as lesser
use Rattle.distance.proofs.blocks.lesser.Reads as lesser-reads
use Rattle.distance.proofs.blocks.block_key.Kinds as block-key
use Rattle.distance.proofs.blocks.block_key.Reads as block-key-reads
use Rattle.distance.proofs.blocks.pick.Kinds as pick
use Rattle.distance.proofs.blocks.pick.Reads as pick-reads
use Rattle.relaxed.proofs.label.Kinds as label
use Rattle.relaxed.proofs.label.Reads as label-reads
use Rattle.relaxed.proofs.settle.Kinds as settle
use Rattle.relaxed.proofs.settle.Reads as settle-reads
use Rattle.relaxed.proofs.cost_of.Kinds as cost-of
use Rattle.relaxed.proofs.cost_of.Reads as cost-of-reads
use Rattle.relaxed.proofs.by.Kinds as by
use Rattle.relaxed.proofs.by.Reads as by-reads
use Rattle.relaxed.proofs.relax.Kinds as relax
use Rattle.relaxed.proofs.relax.Reads as relax-reads
use Rattle.dijkstra.proofs.dijkstra.Kinds as dijkstra
use Rattle.dijkstra.proofs.dijkstra.Reads as dijkstra-reads
use Rattle.dijkstra.proofs.best_walk.Kinds as best-walk
use Rattle.dijkstra.proofs.best_walk.Reads as best-walk-reads
use Rattle.choices.proofs.weights.Kinds as weights
use Rattle.choices.proofs.weights.Reads as weights-reads
use Rattle.choices.proofs.choices.Kinds as choices
use Rattle.choices.proofs.choices.Reads as choices-reads
use Rattle.paths.proofs.put_two.Kinds as put_two
use Rattle.paths.proofs.put_two.Reads as put-two-reads
use Rattle.paths.proofs.put_three.Kinds as put_three
use Rattle.paths.proofs.put_three.Reads as put-three-reads

-- ---- keys, and the nearest number

lesser-one : {a b r s : ℕ} → (r ≤ a) × (r ≤ b) × ((r ≡ a) ⊎ (r ≡ b)) → (s ≤ a) × (s ≤ b) × ((s ≡ a) ⊎ (s ≡ b)) → r ≡ s
lesser-one p q =
    ⊎_elim (λ h. ⊎_elim (λ k. h ∙ sym k) (λ k. omega (arith, p.1, q.0, h, k)) q.2)
    (λ h. ⊎_elim (λ k. omega (arith, p.0, q.1, h, k)) (λ k. h ∙ sym k) q.2) p.2

pub lesser-agrees : Agrees 0 lesser.ps lesser.r lesser-reads.Post (λ _ _. [])
lesser-agrees κs args a b x y p q = (lesser-one p q, refl)

-- two lists of marks and keys are the same below n
record Same (n : ℕ) (m d m' d' : List ℕ) : Type 0 where
  marks : (v : ℕ) → v < n → word_at m v ≡ word_at m' v
  keys : (v : ℕ) → v < n → word_at d v ≡ word_at d' v

same-all : {n : ℕ} {m d m' d' : List ℕ} → m ≡ m' → d ≡ d' → Same n m d m' d'
same-all p q = record { marks = λ v l. ap (λ (xs : List ℕ). word_at xs v) p; keys = λ v l. ap (λ (xs : List ℕ). word_at xs v) q }

same-turned : {n : ℕ} {m d m' d' : List ℕ} → Same n m d m' d' → Same n m' d' m d
same-turned same = record { marks = λ v l. sym (same.marks v l); keys = λ v l. sym (same.keys v l) }

block-le : {n j a b : ℕ} {m d m' d' : List ℕ} → Same n m d m' d' → Block n m d j a → Block n m' d' j b → a < 9223372036854775808 → b ≤ a
block-le same p q l =
    let w = p.some l in
    omega (arith, q.under w.0 w.1 w.2 (sym (same.marks w.0 w.1) ∙ w.3), same.keys w.0 w.1, w.4)

-- the least key of a block, where it is a key
block_one : {n j a b : ℕ} {m d m' d' : List ℕ} → Same n m d m' d' → Block n m d j a → Block n m' d' j b → near a ≡ near b
block_one {a = a} {b} same p q =
    on_below a 9223372036854775808
    (λ l.
    let h = block-le same p q l in
    let e : a ≡ b = omega (arith, h, block-le (same-turned same) q p (omega (arith, h, l))) in
    ap near e)
    (λ l. on_below b 9223372036854775808
    (λ k. absurd (omega (arith, l, k, block-le (same-turned same) q p k)))
    (λ k. rw (le-ltb a 9223372036854775808 l, le-ltb b 9223372036854775808 k)))

blocks-one : {n : ℕ} {m d m' d' b c : List ℕ} → Same n m d m' d' → Blocks n m d b → Blocks n m' d' c → block_keys b ≡ block_keys c
blocks-one same p q = tab-ext _ _ 16 (λ j l. block_one same (p.block j l) (q.block j l))

pub block-key-agrees : AgreesIn 2 block-key.ps block-key.r block-key-reads.Pre block-key-reads.Post (λ κs args a x. near a)
block-key-agrees κs args a b x y pre p q = block_one (same-all refl refl) p q

-- the key that is picked, or that there is none
nearest-one : {n a b : ℕ} {m d : List ℕ} → Nearest n m d a → Nearest n m d b → picked_key n d a ≡ picked_key n d b
nearest-one {n} {a} {b} p q =
    on_below a n
    (λ l. on_below b n
    (λ h. rw (lt-ltb a n l, lt-ltb b n h) (ap suc (omega (arith, p.least l b h (q.some h), q.least h a l (p.some l)))))
    (λ h. absurd (q.none h a l (p.some l))))
    (λ l. on_below b n (λ h. absurd (p.none l b h (q.some h))) (λ h. rw (le-ltb a n l, le-ltb b n h)))

pub pick-agrees : AgreesIn 3 pick.ps pick.r pick-reads.Pre pick-reads.Post (λ κs args a x. picked_key args.0 args.1.1.0.now a)
pick-agrees κs args a b x y pre p q = nearest-one p q

-- ---- labels

pub label-agrees : AgreesIn {A = List ℕ × List ℕ × List ℕ} 3 label.ps label.r label-reads.Pre label-reads.Post
    (λ κs args a x. (x.1.1.1.0.now, x.1.1.1.1.0.now, block_keys x.1.1.1.1.1.0.now))
label-agrees κs args a b x y pre p q =
    let m = p.0 ∙ sym q.0 in
    let d = p.1 ∙ sym q.1 in
    three m d (blocks-one (same-all m d) p.2 q.2)

pub settle-agrees : AgreesIn {A = List ℕ × List ℕ} 3 settle.ps settle.r settle-reads.Pre settle-reads.Post
    (λ κs args a x. (x.1.1.0.now, block_keys x.1.1.1.1.0.now))
settle-agrees κs args a b x y pre p q =
    let m = p.0 ∙ sym q.0 in
    two m (blocks-one (same-all m refl) p.1 q.1)

pub cost-of-agrees : Agrees 1 cost-of.ps cost-of.r cost-of-reads.Post (λ _ _. [])
cost-of-agrees κs args a b x y p q = (p ∙ sym q, refl)

pub by_agrees : Agrees 0 by.ps by.r by-reads.Post (λ _ _. [])
by_agrees κs args a b x y p q = (p.0 ∙ sym q.0, refl)

relaxed-one : {E : ℕ → ℕ → Bool} {W : ℕ → ℕ → ℕ} {B n u : ℕ} {m d m' d' m'' d'' : List ℕ} → Relaxed E W B n u m d m' d'
    → Relaxed E W B n u m d m'' d'' → Same n m' d' m'' d''
relaxed-one p q = record { marks = λ v l. p.marks v l ∙ sym (q.marks v l); keys = λ v l. p.keys v l ∙ sym (q.keys v l) }

pub relax-agrees : AgreesIn {A = List ℕ × List ℕ × List ℕ} 7 relax.ps relax.r relax-reads.Pre relax-reads.Post
    (λ κs args a x. (
      firsts args.1.1.1.1.0 x.1.1.1.1.1.1.0.now,
      firsts args.1.1.1.1.0 x.1.1.1.1.1.1.1.0.now,
      block_keys x.1.1.1.1.1.1.1.1.0.now,
    ))
relax-agrees κs args a b x y pre p q =
    let s = relaxed-one p.0 q.0 in
    three (tab-ext _ _ _ s.marks) (tab-ext _ _ _ s.keys) (blocks-one s p.1 q.1)

-- ---- least costs and best walks

shortest-one : (E : ℕ → ℕ → Bool) (W : ℕ → ℕ → ℕ) (n s : ℕ) (m d m' d' : List ℕ) → Shortest E W n s m d
    → Shortest E W n s m' d' → tab (key_of m d) n ≡ tab (key_of m' d') n
shortest-one E W n s m d m' d' p q =
    tab-ext _ _ n (λ v l.
    on_same (get_or m v 0) 2
    (λ e.
    let w = p.way v l e in
    let r = q.least v (get_or d v 0) w.0 w.2 in
    let w' = q.way v l r.0 in
    let r' = p.least v (get_or d' v 0) w'.0 w'.2 in
    rw (e, r.0) (ap suc (omega (arith, r.1, r'.1))))
    (λ ne. on_same (get_or m' v 0) 2
    (λ e. let w = q.way v l e in absurd (ne (p.least v (get_or d' v 0) w.0 w.2).0))
    (λ ne'. rw (ne_eqb (get_or m v 0) 2 ne, ne_eqb (get_or m' v 0) 2 ne'))))

pub dijkstra-agrees : AgreesIn 6 dijkstra.ps dijkstra.r dijkstra-reads.Pre dijkstra-reads.Post
    (λ κs args a x. tab (key_of x.1.1.1.1.1.1.0.now x.1.1.1.1.1.1.1.0.now) args.1.1.1.1.0)
dijkstra-agrees κs args a b x y pre p q = shortest-one _ _ args.1.1.1.1.0 _ _ _ _ _ p q

pair_one : {E : ℕ → ℕ → Bool} {W : ℕ → ℕ → ℕ} {n x y : ℕ} (f g : Bool) (c d k l : ℕ) (o z : List ℕ) → Pair E W n x y f c k o → Pair E W n x y g d l z
    → walk_of f c k o ≡ walk_of g d l z
pair_one {W = W} {x = x} f g c d k l o z p q =
    on f
    (λ e. on g
    (λ h.
    let w = best-one (p.yes e).0 (q.yes h).0 in
    rw (e, h) (ap₂ ◌∷◌ ((p.yes e).1 ∙ ap (total W x) w ∙ sym (q.yes h).1) (ap₂ ◌∷◌ ((p.yes e).2 ∙ ap length w ∙ sym (q.yes h).2) w)))
    (λ h. absurd (q.no h (take k o) (p.yes e).0.walk)))
    (λ e. on g (λ h. absurd (p.no e (take l z) (q.yes h).0.walk)) (λ h. rw (e, h)))

pub best-walk-agrees : AgreesIn 5 best-walk.ps best-walk.r best-walk-reads.Pre best-walk-reads.Post
    (λ κs args a x. walk_of a.ok a.cost a.steps x.1.1.1.1.1.1.1.0.now)
best-walk-agrees κs args a b x y pre p q = pair_one a.ok b.ok a.cost b.cost a.steps b.steps _ _ p q

-- ---- the choices of a table's steps

weights-one : {t : Table} {k : ℕ} {w z : List ℕ} → Weights t k w → Weights t k z → w ≡ z
weights-one {t} {k} {w} {z} p q = ext_get_or 0 w z (p.sized ∙ sym q.sized) same
  where
    same : (i : ℕ) → i < length w → get_or w i 0 ≡ get_or z i 0
    same zero h = p.none ∙ sym q.none
    same (suc i) h = on_below i k (λ l. p.first i l ∙ sym (q.first i l)) (λ l. p.rest i l ∙ sym (q.rest i l))

pub weights-agrees : Agrees 2 weights.ps weights.r weights-reads.Post (λ _ x. x.1.0.now)
weights-agrees κs args a b x y p q = (refl, weights-one p q)

values_one : {f : ℕ → ℕ → ℕ} {n : ℕ} {c e : List ℕ} → Values f n c → Values f n e → c ≡ e
values_one p q = matrix-one p.sized q.sized (λ i j hi hj. p.entry i j hi hj ∙ sym (q.entry i j hi hj))

-- how many steps each has
counts-one : {c e lists ends counts sums : List ℕ} → c ≡ e → Listed c lists counts → Listed e ends sums → counts ≡ sums
counts-one {counts = counts} {sums} s p q =
    ext_get_or 0 counts sums (p.rows ∙ sym q.rows) (λ u h.
    let l : u < 256 = omega (arith, h, p.rows) in
    p.counted u l ∙ ap (λ (m : List ℕ). step_count m u) s ∙ sym (q.counted u l))

-- a number stands in a list where there is a step to it
listed-is : {c lists counts : List ℕ} → Listed c lists counts → (u v : ℕ) → u < 256 → v < 256 → listed_in lists counts u v ≡ step_in c u v
listed-is {c} {lists} {counts} p u v hu hv =
    let n : ℕ = word_at counts u in
    let row : List ℕ = row_firsts n u lists in
    let long : length row ≡ n = length-tab _ n in
    test-ext _ _
    (λ e. let w = memb-at v row e in
    let l : w.0 < n = omega (arith, w.1, long) in
    let s = sym (getD-tab _ n w.0 0 l) ∙ w.2 in
    ap (step_in c u) (sym s) ∙ (p.each u w.0 hu l).1)
    (λ e. let w = p.all u v hu hv e in
    let s = getD-tab _ n w.0 0 w.1 ∙ w.2 in
    ap (λ (x : ℕ). memb x row) (sym s) ∙ memb-getD row w.0 (omega (arith, w.1, long)))

-- the choices, how many steps each has, and which; in what order they are listed is left open
pub choices_agrees : AgreesIn {A = List ℕ × List ℕ × List (List Bool)} 5 choices.ps choices.r choices-reads.Pre choices-reads.Post
    (λ κs args a x. (x.1.1.1.0.now, x.1.1.1.1.1.0.now, listed_all x.1.1.1.1.0.now x.1.1.1.1.1.0.now))
choices_agrees κs args a b x y pre p q =
    let s = values_one p.0 q.0 in
    three s (counts-one s p.1 q.1) (tab-ext _ _ _ (λ u hu. tab-ext _ _ _ (λ v hv.
    listed-is p.1 u v hu hv ∙ ap (λ (m : List ℕ). step_in m u v) s ∙ sym (listed-is q.1 u v hu hv))))

-- ---- words at a place

pub put-two-agrees : Agrees 1 put_two.ps put_two.r put-two-reads.Post (λ _ x. x.1.1.1.0.now)
put-two-agrees κs args a b x y p q = (refl, p ∙ sym q)

pub put-three-agrees : Agrees 1 put_three.ps put_three.r put-three-reads.Post (λ _ x. x.1.1.1.1.0.now)
put-three-agrees κs args a b x y p q = (refl, p ∙ sym q)
