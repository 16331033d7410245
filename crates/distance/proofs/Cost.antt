-- A step's key: its cost, and in the low 16 bits one step. Assumes nothing.
use mathlib.Core.Path.{◌≡◌, refl, sym, ap, ap₂, ◌∙◌, subst}
use mathlib.Core.Bool.{Bool, true, false, ◌&&◌, ◌||◌, cond}
use mathlib.Core.Logic.{◌⊎◌, inl, inr, ⊎_elim}
use mathlib.Core.List.{List}
use Prim.Native.Nat.{ℕ, suc, ◌+◌, ◌-◌, ◌*◌, ◌≤◌, ◌<◌}
use native.Mathlib.Nat.{not-suc-le-zero, lt_irrefl}
use native.Mathlib.Omega.{arith}
use borrow.Author.Count.{below_more}
use lib.ListN.{length, get_or, set, length-set}
use lib.Seq.{get_or-set_same, get_or-set_other, set-get_or}
use lib.Dec.{eqb, ltb}
use borrow.Author.Tests.{eq-eqb, ne_eqb, lt-ltb, le-ltb}
use Rattle.distance.proofs.Labels.{live-le, live_more, labels-first, labels-more, shortest}
use Rattle.distance.specs.Labels.{relaxed_mark, relaxed_key, Relaxed, Labels, unsettled, Nearest, Shortest}
use Rattle.lists.proofs.Cases.{on, on_same, clash, and-true-left}
use Rattle.lists.proofs.Count.{count-le}
use Rattle.distance.specs.Cost.{choice_in, step_in, cost_in, key_in, RelaxedAt, step_count, Listed, Within, Search}

module _ (E : ℕ → ℕ → Bool) (W : ℕ → ℕ → ℕ) (u v base : ℕ) (m d : List ℕ) where
  one_none : E u v ≡ false → RelaxedAt E W u v base m d m d
  one_none e = record { bounded = λ t. clash t e; marks = rw e (sym (set-get_or m v 0)); keys = rw e (sym (set-get_or d v 0)) }

  module _ (t : E u v ≡ true) (small : W u v ≤ 281474976710656) (c : ℕ) (is : c ≡ base + W u v) where
    one-fresh : get_or m v 0 ≡ 0 → RelaxedAt E W u v base m d (set m v 1) (set d v c)
    one-fresh z =
        let q = eq-eqb (get_or m v 0) 0 z in
        record { bounded = λ _. small; marks = rw (t, q); keys = rw (t, q, ← is) }

    one-settled : (get_or m v 0 ≡ 0 → ⊥) → (get_or m v 0 ≡ 1 → ⊥) → RelaxedAt E W u v base m d m d
    one-settled z o =
        let q = ne_eqb (get_or m v 0) 0 z in
        let r = ne_eqb (get_or m v 0) 1 o in
        record { bounded = λ _. small; marks = rw (t, q) (sym (set-get_or m v 0)); keys = rw (t, q, r) (sym (set-get_or d v 0)) }

    one-shorter : (get_or m v 0 ≡ 0 → ⊥) → get_or m v 0 ≡ 1 → c < get_or d v 0 → RelaxedAt E W u v base m d (set m v 1) (set d v c)
    one-shorter z o l =
        let q = ne_eqb (get_or m v 0) 0 z in
        let r = eq-eqb (get_or m v 0) 1 o in
        let k = lt-ltb c (get_or d v 0) l in
        record { bounded = λ _. small; marks = rw (t, q, o); keys = rw (← is, t, q, r, k) }

    one_kept : (get_or m v 0 ≡ 0 → ⊥) → get_or m v 0 ≡ 1 → get_or d v 0 ≤ c → RelaxedAt E W u v base m d m d
    one_kept z o l =
        let q = ne_eqb (get_or m v 0) 0 z in
        let r = eq-eqb (get_or m v 0) 1 o in
        let k = le-ltb c (get_or d v 0) l in
        record { bounded = λ _. small; marks = rw (t, q) (sym (set-get_or m v 0)); keys = rw (← is, t, q, r, k) (sym (set-get_or d v 0)) }

-- ---- for `search`: q is the cost that `cost_of` found, k the key that `by` made of it

module _ (c w : List ℕ) (u v base : ℕ) (m d : List ℕ) where
  pub relax-none : choice_in c u v ≡ 0 → RelaxedAt (step_in c) (key_in c w) u v base m d m d
  relax-none e = one_none (step_in c) (key_in c w) u v base m d (rw (eq-eqb (choice_in c u v) 0 e))

  module _ (some : choice_in c u v ≡ 0 → ⊥) (q : ℕ) (eq : q ≡ cost_in c w u v) (k : ℕ) (ek : (k ≡ base + (q * 65536 + 1)) × (q * 65536 + 1 ≤ 281474976710656)) where
    there : step_in c u v ≡ true
    there = rw (ne_eqb (choice_in c u v) 0 some)

    small : key_in c w u v ≤ 281474976710656
    small = omega (arith, eq, ek.1)

    sums : k ≡ base + key_in c w u v
    sums = ek.0 ∙ ap (λ (i : ℕ). base + (i * 65536 + 1)) eq

    pub relax-fresh : get_or m v 0 ≡ 0 → (m' d' : List ℕ) → m' ≡ set m v 1 → d' ≡ set d v k → RelaxedAt (step_in c) (key_in c w) u v base m d m' d'
    relax-fresh z m' d' em ed = rw (em, ed) (one-fresh (step_in c) (key_in c w) u v base m d there small k sums z)

    pub relax-settled : (get_or m v 0 ≡ 0 → ⊥) → (get_or m v 0 ≡ 1 → ⊥) → RelaxedAt (step_in c) (key_in c w) u v base m d m d
    relax-settled z o = one-settled (step_in c) (key_in c w) u v base m d there small k sums z o

    pub relax-shorter : (get_or m v 0 ≡ 0 → ⊥) → get_or m v 0 ≡ 1 → k < get_or d v 0 → (m' d' : List ℕ) → m' ≡ set m v 1 → d' ≡ set d v k → RelaxedAt (step_in c) (key_in c w) u v base m d m' d'
    relax-shorter z o l m' d' em ed = rw (em, ed) (one-shorter (step_in c) (key_in c w) u v base m d there small k sums z o l)

    pub relax-kept : (get_or m v 0 ≡ 0 → ⊥) → get_or m v 0 ≡ 1 → get_or d v 0 ≤ k → RelaxedAt (step_in c) (key_in c w) u v base m d m d
    relax-kept z o l = one_kept (step_in c) (key_in c w) u v base m d there small k sums z o l

-- ---- the list of u, gone through

-- a step that is done again changes nothing
mark-again : (e : Bool) (m : ℕ) → relaxed_mark e (relaxed_mark e m) ≡ relaxed_mark e m
mark-again e m = on (e && eqb m 0) (λ t. rw t (step e (and-true-left e (eqb m 0) t))) (λ t. rw (t, t))
  where
    step : (e : Bool) → e ≡ true → relaxed_mark e 1 ≡ 1
    step e t = rw t

key-again : (e : Bool) (m d c : ℕ) → relaxed_key e (relaxed_mark e m) (relaxed_key e m d c) c ≡ relaxed_key e m d c
key-again e m d c =
    on (e && (eqb m 0 || (eqb m 1 && ltb c d)))
    (λ t. rw t (either (e && (eqb (relaxed_mark e m) 0 || (eqb (relaxed_mark e m) 1 && ltb c c))) c))
    (λ t. rw t (ap (λ (x : ℕ). relaxed_key e x d c) (as_it_was e m d c t) ∙ rw t))
  where
    either : (b : Bool) (x : ℕ) → cond b x x ≡ x
    either true x = refl
    either false x = refl

    as_it_was : (e : Bool) (m d c : ℕ) → (e && (eqb m 0 || (eqb m 1 && ltb c d))) ≡ false → relaxed_mark e m ≡ m
    as_it_was true m d c t = on (eqb m 0) (λ q. clash (rw q) t) (λ q. rw q)
    as_it_was false m d c t = refl

-- the step to v is done
pub record Done (E : ℕ → ℕ → Bool) (W : ℕ → ℕ → ℕ) (u : ℕ) (m₀ d₀ m d : List ℕ) (v : ℕ) : Type 0 where
  pub bounded : E u v ≡ true → W u v ≤ 281474976710656
  pub mark : get_or m v 0 ≡ relaxed_mark (E u v) (get_or m₀ v 0)
  pub key : get_or d v 0 ≡ relaxed_key (E u v) (get_or m₀ v 0) (get_or d₀ v 0) (get_or d₀ u 0 + W u v)

-- nothing was done to v
abbrev Same : List ℕ → List ℕ → List ℕ → List ℕ → ℕ → Type 0
Same m₀ d₀ m d v = (get_or m v 0 ≡ get_or m₀ v 0) × (get_or d v 0 ≡ get_or d₀ v 0)

-- the steps in the first i places of the list of u are done
pub record Part (E : ℕ → ℕ → Bool) (W : ℕ → ℕ → ℕ) (n u : ℕ) (lists m₀ d₀ : List ℕ) (i : ℕ) (m d : List ℕ) : Type 0 where
  pub wide : length m ≡ 256
  pub long : length d ≡ 256
  pub state : (v : ℕ) → v < n → Done E W u m₀ d₀ m d v ⊎ Same m₀ d₀ m d v
  pub done : (j : ℕ) → j < i → Done E W u m₀ d₀ m d (get_or lists (u * 256 + j) 0)

pub part-first : {E : ℕ → ℕ → Bool} {W : ℕ → ℕ → ℕ} {n u : ℕ} {lists m d : List ℕ} → length m ≡ 256 → length d ≡ 256 → Part E W n u lists m d 0 m d
part-first a b = record { wide = a; long = b; state = λ v l. inr (refl, refl); done = λ j l. absurd (not-suc-le-zero l) }

-- a step changes no other number
module _ {E : ℕ → ℕ → Bool} {W : ℕ → ℕ → ℕ} {u v base : ℕ} {m d m' d' : List ℕ} (o : RelaxedAt E W u v base m d m' d') where
  mark-other : (x : ℕ) → (x ≡ v → ⊥) → get_or m' x 0 ≡ get_or m x 0
  mark-other x ne = ap (λ (l : List ℕ). get_or l x 0) o.marks ∙ get_or-set_other m v x (relaxed_mark (E u v) (get_or m v 0)) 0 ne

  key-other : (x : ℕ) → (x ≡ v → ⊥) → get_or d' x 0 ≡ get_or d x 0
  key-other x ne = ap (λ (l : List ℕ). get_or l x 0) o.keys ∙ get_or-set_other d v x (relaxed_key (E u v) (get_or m v 0) (get_or d v 0) (base + W u v)) 0 ne

module _ {E : ℕ → ℕ → Bool} {W : ℕ → ℕ → ℕ} {u v : ℕ} {m₀ d₀ m d m' d' : List ℕ} (o : RelaxedAt E W u v (get_or d₀ u 0) m d m' d') where
  -- the number that the step leads to
  one-done : v < length m → v < length d → Done E W u m₀ d₀ m d v ⊎ Same m₀ d₀ m d v → Done E W u m₀ d₀ m' d' v
  one-done lm ld p = record {
    bounded = o.bounded;
    mark = here ∙ ⊎_elim
        (λ (q : Done E W u m₀ d₀ m d v). ap (relaxed_mark (E u v)) q.mark ∙ mark-again (E u v) (get_or m₀ v 0))
        (λ (q : Same m₀ d₀ m d v). ap (relaxed_mark (E u v)) q.0)
        p;
    key = there ∙ ⊎_elim
        (λ (q : Done E W u m₀ d₀ m d v). ap₂ (λ (x y : ℕ). relaxed_key (E u v) x y c) q.mark q.key ∙ key-again (E u v) (get_or m₀ v 0) (get_or d₀ v 0) c)
        (λ (q : Same m₀ d₀ m d v). ap₂ (λ (x y : ℕ). relaxed_key (E u v) x y c) q.0 q.1)
        p;
  }
    where
      c : ℕ
      c = get_or d₀ u 0 + W u v

      here : get_or m' v 0 ≡ relaxed_mark (E u v) (get_or m v 0)
      here = ap (λ (l : List ℕ). get_or l v 0) o.marks ∙ get_or-set_same m v (relaxed_mark (E u v) (get_or m v 0)) 0 lm

      there : get_or d' v 0 ≡ relaxed_key (E u v) (get_or m v 0) (get_or d v 0) c
      there = ap (λ (l : List ℕ). get_or l v 0) o.keys ∙ get_or-set_same d v (relaxed_key (E u v) (get_or m v 0) (get_or d v 0) c) 0 ld

  done-other : (x : ℕ) → (x ≡ v → ⊥) → Done E W u m₀ d₀ m d x → Done E W u m₀ d₀ m' d' x
  done-other x ne q = record { bounded = q.bounded; mark = mark-other o x ne ∙ q.mark; key = key-other o x ne ∙ q.key }

module _ {E : ℕ → ℕ → Bool} {W : ℕ → ℕ → ℕ} {n u : ℕ} {lists m₀ d₀ : List ℕ} {i : ℕ} {m d : List ℕ} (h : Part E W n u lists m₀ d₀ i m d) (small : n ≤ 256) where
  pub part-more : {m' d' : List ℕ} → get_or lists (u * 256 + i) 0 < n → RelaxedAt E W u (get_or lists (u * 256 + i) 0) (get_or d₀ u 0) m d m' d' → Part E W n u lists m₀ d₀ (i + 1) m' d'
  part-more {m'} {d'} l o = record {
    wide = ap length o.marks ∙ length-set m v (relaxed_mark (E u v) (get_or m v 0)) ∙ h.wide;
    long = ap length o.keys ∙ length-set d v (relaxed_key (E u v) (get_or m v 0) (get_or d v 0) (get_or d₀ u 0 + W u v)) ∙ h.long;
    state = λ x lx. on_same x v
        (λ e. inl (subst (Done E W u m₀ d₀ m' d') (sym e) own))
        (λ ne. ⊎_elim
        (λ (q : Done E W u m₀ d₀ m d x). inl (done-other o x ne q))
        (λ (q : Same m₀ d₀ m d x). inr (mark-other o x ne ∙ q.0, key-other o x ne ∙ q.1))
        (h.state x lx));
    done = below_more (λ j. Done E W u m₀ d₀ m' d' (get_or lists (u * 256 + j) 0)) i
        (λ j lj. on_same (get_or lists (u * 256 + j) 0) v
        (λ e. subst (Done E W u m₀ d₀ m' d') (sym e) own)
        (λ ne. done-other o (get_or lists (u * 256 + j) 0) ne (h.done j lj)))
        own;
  }
    where
      v : ℕ
      v = get_or lists (u * 256 + i) 0

      own : Done E W u m₀ d₀ m' d' v
      own = one-done o (omega (arith, h.wide)) (omega (arith, h.long)) (h.state v l)

pub count_small : (c : List ℕ) (u : ℕ) → step_count c u ≤ 256
unfolding step_count
count_small c u = count-le (step_in c u) 256

-- e is the count of u
module _ {c lists counts : List ℕ} (g : Listed c lists counts) (n u e : ℕ) (small : n ≤ 256) (lu : u < n) (q : e ≡ get_or counts u 0) where
  pub listed-short : e ≤ 256
  listed-short = omega (arith, q, g.counted u (omega arith), count_small c u)

  pub listed_below : Within n c → (i : ℕ) → i < e → get_or lists (u * 256 + i) 0 < n
  listed_below w i l = let r = g.each u i (omega arith) (omega (arith, q)) in w u (get_or lists (u * 256 + i) 0) lu r.0 r.1

-- all places of the list
module _ {c : List ℕ} (w : List ℕ) {n u : ℕ} {lists counts m₀ d₀ : List ℕ} {i : ℕ} {m d : List ℕ} (h : Part (step_in c) (key_in c w) n u lists m₀ d₀ i m d) (small : n ≤ 256) (lu : u < n) (g : Listed c lists counts) where
  pub part_end : (e : ℕ) → e ≡ get_or counts u 0 → e ≤ i → Relaxed (step_in c) (key_in c w) 281474976710656 n u m₀ d₀ m d
  part_end e q l = record {
    wide = h.wide;
    long = h.long;
    bounded = λ v lv t. (there v lv t).bounded t;
    marks = λ v lv. on (step_in c u v)
        (λ t. (there v lv t).mark)
        (λ t. ⊎_elim (λ (p : Done (step_in c) (key_in c w) u m₀ d₀ m d v). p.mark) (λ (p : Same m₀ d₀ m d v). rw t p.0) (h.state v lv));
    keys = λ v lv. on (step_in c u v)
        (λ t. (there v lv t).key)
        (λ t. ⊎_elim (λ (p : Done (step_in c) (key_in c w) u m₀ d₀ m d v). p.key) (λ (p : Same m₀ d₀ m d v). rw t p.1) (h.state v lv));
  }
    where
      there : (v : ℕ) → v < n → step_in c u v ≡ true → Done (step_in c) (key_in c w) u m₀ d₀ m d v
      there v lv t =
          let r = g.all u v (omega arith) (omega arith) t in
          subst (Done (step_in c) (key_in c w) u m₀ d₀ m d) r.2 (h.done r.0 (omega (arith, r.1, q)))

-- ---- the search: m' and d' are what `label` made at the start

module _ (E : ℕ → ℕ → Bool) (W : ℕ → ℕ → ℕ) {n s : ℕ} (m d : List ℕ) {m' d' : List ℕ} (small : n ≤ 256) (ls : s < n) (wide : length m ≡ 256) (long : length d ≡ 256)
    (none : (v : ℕ) → v < n → get_or m v 0 ≡ 0) (em : m' ≡ set m s 1) (ed : d' ≡ set d s 0) where
  labels-start : {b r : ℕ} → Labels E W n s b r m' d'
  labels-start = rw (em, ed) (labels-first m d small ls wide long none)

  pub first_under : (v : ℕ) → v < n → get_or m' v 0 ≡ 1 → get_or d' v 0 < 9223372036854775808
  first_under v l o = omega (arith, (labels-start {b = 0} {r = 0}).bound v l (λ z. lt_irrefl 0 (omega (arith, z, o))))

  pub search-first : {u : ℕ} → Nearest n m' d' u → Search E W n s m' d' u
  search-first b = (labels-start, b)

module _ {E : ℕ → ℕ → Bool} {W : ℕ → ℕ → ℕ} {n s : ℕ} {m d : List ℕ} {u : ℕ} (h : Search E W n s m d u) (small : n ≤ 256) (ls : s < n) where
  pub search-end : n ≤ u → Shortest E W n s m d
  search-end l = shortest h.0 (omega arith) (omega arith) ls (h.1.none l)

  module _ (lu : u < n) where
    labelled : get_or m u 0 ≡ 0 → ⊥
    labelled z = lt_irrefl 0 (omega (arith, h.1.some lu))

    pub search-fits : get_or d u 0 ≤ 144115188075855872
    search-fits = omega (arith, h.0.bound u lu labelled)

    pub settled-wide : (m₁ : List ℕ) → m₁ ≡ set m u 2 → length m₁ ≡ 256
    settled-wide m₁ e = ap length e ∙ length-set m u 2 ∙ h.0.wide

    -- m₁ is what `settle` made, m' and d' what `relax` made
    module _ {m₁ m' d' : List ℕ} (e₁ : m₁ ≡ set m u 2) (x₁ : Relaxed E W 281474976710656 n u m₁ d m' d') where
      x : Relaxed E W 281474976710656 n u (set m u 2) d m' d'
      x = subst (λ (l : List ℕ). Relaxed E W 281474976710656 n u l d m' d') e₁ x₁

      fewer : unsettled n m ≡ suc (unsettled n m')
      fewer = live_more h.0 small ls lu (h.1.some lu) (h.1.least lu) x

      pub search-less : unsettled n m' < unsettled n m
      search-less = omega (arith, fewer)

      -- every label is under the bound of `pick`
      pub search-under : (v : ℕ) → v < n → get_or m' v 0 ≡ 1 → get_or d' v 0 < 9223372036854775808
      search-under v l o = omega (arith, (labels-more h.0 small ls lu (h.1.some lu) (h.1.least lu) x).bound v l (λ z. lt_irrefl 0 (omega (arith, z, o))))

      pub search-more : {u' : ℕ} → Nearest n m' d' u' → Search E W n s m' d' u'
      search-more b =
          let e : (n - unsettled n m) * 281474976710656 + 281474976710656 ≡ (n - unsettled n m') * 281474976710656 = omega (arith, fewer, live-le n m) in
          let f : suc (n - unsettled n m) ≡ n - unsettled n m' = omega (arith, fewer, live-le n m) in
          (subst (λ (i : ℕ). Labels E W n s ((n - unsettled n m') * 281474976710656) i m' d') f (subst (λ (k : ℕ). Labels E W n s k (suc (n - unsettled n m)) m' d') e (labels-more h.0 small ls lu (h.1.some lu) (h.1.least lu) x)), b)
