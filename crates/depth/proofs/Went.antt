-- What a call of the search does to the marks m, the listing in the first t places of o, and t. Assumes nothing.
use mathlib.Core.Path.{◌≡◌, refl, sym, ap, ◌∙◌, subst}
use mathlib.Core.Bool.{Bool}
use mathlib.Core.List.{List}
use Prim.Native.Nat.{ℕ, zero, suc, ◌+◌, ◌-◌, ◌*◌, ◌≤◌, ◌<◌}
use native.Mathlib.Nat.{lt_irrefl}
use native.Mathlib.Numerals.{add-one}
use native.Mathlib.Omega.{arith}
use lib.ListN.{length, get_or, take, set, replicate, length-set, length-replicate}
use lib.Seq.{take-suc-set, length-take-le}
use Rattle.depth.proofs.Dfs.{free-mark, tried-marked, tries-step, tries-end, visits-more}
use Rattle.depth.proofs.Pre.{climbs-step, climbs-end, walks_more}
use Rattle.depth.specs.Dfs.{Progress, unmarked, enlist, tried, tries, visits}
use Rattle.depth.specs.Went.{free, progress, Untried, Fit, Went, Going}
use Rattle.depth.specs.Pre.{climbs, walks, preorder}
use Rattle.lists.proofs.Cases.{on, on_below}
use Rattle.lists.proofs.Count.{count-below, count-le}

pub free-le : (n : ℕ) (m : List ℕ) → free n m ≤ n
unfolding free
free-le n m = count-le (unmarked m) n

-- before the search: no mark, nothing listed
pub fit-blank : (n : ℕ) → n ≤ 256 → Fit n (replicate 256 0) (replicate 256 0) 0 0
fit-blank n b = record { small = b; wide = length-replicate {A = ℕ} 256 0; long = length-replicate {A = ℕ} 256 0; room = omega (arith, free-le n (replicate 256 0)) }

-- nothing is done
pub went-none : {spec : ℕ → Progress → Progress} {n : ℕ} {m o : List ℕ} {t d : ℕ} → Fit n m o t d → ((f : ℕ) → spec f (progress m o t) ≡ progress m o t) → Went spec n m o t m o t
went-none h e = record { is = λ f _. e f; grew = omega arith; same = refl; wide = h.wide; long = h.long }

-- what is done is the same thing by another name
pub went-as : {a b : ℕ → Progress → Progress} {n : ℕ} {m o m' o' : List ℕ} {t t' : ℕ} → Went a n m o t m' o' t' → ((f : ℕ) → b f (progress m o t) ≡ a f (progress m o t)) → Went b n m o t m' o' t'
went-as h e = record { is = λ f l. e f ∙ h.is f l; grew = h.grew; same = h.same; wide = h.wide; long = h.long }

pub untried-less : {n k c r : ℕ} → Untried n k c r → 0 < k → r < k
untried-less {n} {k} {c} u l = on_below c n (λ b. omega (arith, u.rest b)) (λ b. omega (arith, u.none b))

-- ---- every number is marked: to try a step does nothing

module _ (E : ℕ → ℕ → Bool) (v : ℕ → Progress → Progress) (n x : ℕ) (s : Progress) (none : free n s.marks ≡ 0) where
  tried-full : (k : ℕ) → k < n → tried E v x k s ≡ s
  unfolding free
  tried-full k l =
      tried-marked E v x k s
      (on (unmarked s.marks k) (λ e. absurd (lt_irrefl 0 (omega (arith, none, count-below (unmarked s.marks) n k l e)))) (λ e. e))

  tries-full : (k : ℕ) → k ≤ n → tries E v x k s ≡ s
  unfolding tries
  tries-full zero l = refl
  tries-full (suc k) l = ap (tries E v x k) (tried-full k (omega arith)) ∙ tries-full k (omega arith)

  climbs-full : (m j : ℕ) → j + m ≤ n → climbs E v x m j s ≡ s
  unfolding climbs
  climbs-full zero j l = refl
  climbs-full (suc m) j l = ap (climbs E v x m (suc j)) (tried-full j (omega arith)) ∙ climbs-full m (suc j) (omega arith)

-- ---- a number that was not marked

module _ {n x : ℕ} {m o : List ℕ} {t d : ℕ} (h : Fit n m o t d) (l : x < n) (z : get_or m x 0 ≡ 0) where
  pub fit-marked : free n m ≡ suc (free n (set m x 1))
  fit-marked = free-mark n x m l (omega (arith, h.small, h.wide)) z

  pub fit-place : t < n
  fit-place = omega (arith, h.room, fit-marked)

  pub fit-mark : Fit n (set m x 1) o t (d + 1)
  fit-mark = record { small = h.small; wide = length-set m x 1 ∙ h.wide; long = h.long; room = omega (arith, h.room, fit-marked) }

  pub fit-enter : Fit n (set m x 1) (set o t x) (t + 1) d
  fit-enter = record { small = h.small; wide = length-set m x 1 ∙ h.wide; long = length-set o t x ∙ h.long; room = omega (arith, h.room, fit-marked) }

-- x after the listing
listed : (o : List ℕ) (t x : ℕ) (m : List ℕ) → t < length o → enlist x (progress m o t) ≡ progress m (set o t x) (t + 1)
listed o t x m l = ap (λ (w : List ℕ). record { marks = m; out = w }) (sym (ap (λ (i : ℕ). take i (set o t x)) (add-one t) ∙ take-suc-set o t x l))

-- ---- while steps are tried

module _ {todo : ℕ → ℕ → Progress → Progress} {n : ℕ} {m₁ o₁ : List ℕ} {t d : ℕ} (h : Fit n m₁ o₁ t d) where
  pub going-first : Going todo n m₁ o₁ t m₁ o₁ t n
  going-first = record { left = omega arith; is = λ f l. refl; grew = omega arith; same = refl; wide = h.wide; long = h.long }

  pub going-fit : {m o : List ℕ} {e k : ℕ} → Going todo n m₁ o₁ t m o e k → Fit n m o e d
  going-fit g = record { small = h.small; wide = g.wide; long = g.long; room = omega (arith, g.same, h.room) }

  -- the measure of the search: numbers that are not marked, then neighbours that are not tried
  pub going-falls : (m₀ : List ℕ) {m o : List ℕ} {e k : ℕ} → free n m₀ ≡ suc (free n m₁) → Going todo n m₁ o₁ t m o e k → free n m * 257 + k < free n m₀ * 257
  going-falls m₀ a g = omega (arith, g.same, g.grew, g.left, a, h.small)

  pub going-small : {m o m' o' : List ℕ} {e e' k : ℕ} {try : ℕ → Progress → Progress} → Going todo n m₁ o₁ t m o e k → Went try n m o e m' o' e' → e' + d ≤ 256
  going-small g w = omega (arith, h.room, h.small, g.same, w.same)

  -- one step is tried; c numbers are marked then, and r are left to try
  going_more : {m o m' o' : List ℕ} {e e' k c r : ℕ} → Going todo n m₁ o₁ t m o e k → 0 < k → (try : ℕ → Progress → Progress) → Went try n m o e m' o' e'
      → ((f : ℕ) (s : Progress) → todo f k s ≡ todo f (k - 1) (try f s)) → ((f : ℕ) → free n m' ≡ 0 → todo f (k - 1) (progress m' o' e') ≡ todo f 0 (progress m' o' e'))
      → c ≡ e' + d → Untried n k c r → Going todo n m₁ o₁ t m' o' e' r
  going_more {m} {o} {m'} {o'} {e} {e'} {k} {c} {r} g l try w turn stop ec u =
      let is : (f : ℕ) → free n m₁ ≤ f → todo f (k - 1) (progress m' o' e') ≡ todo f n (progress m₁ o₁ t) =
      λ f a. ap (todo f (k - 1)) (sym (w.is f (omega (arith, g.same, g.grew)))) ∙ sym (turn f (progress m o e)) ∙ g.is f a in
      let sum : e' + free n m' ≡ t + free n m₁ = w.same ∙ g.same in
      let made : (i : ℕ) → i ≤ n → ((f : ℕ) → free n m₁ ≤ f → todo f i (progress m' o' e') ≡ todo f n (progress m₁ o₁ t)) → Going todo n m₁ o₁ t m' o' e' i =
      λ i b q. record { left = b; is = q; grew = omega (arith, g.grew, w.grew); same = sum; wide = w.wide; long = w.long } in
      on_below c n
      (λ b. subst (λ (i : ℕ). Going todo n m₁ o₁ t m' o' e' i) (sym (u.rest b)) (made (k - 1) (omega (arith, g.left)) is))
      (λ b. subst (λ (i : ℕ). Going todo n m₁ o₁ t m' o' e' i) (sym (u.none b)) (made 0 (omega arith) (λ f a. sym (stop f (omega (arith, h.room))) ∙ is f a)))

module _ (E : ℕ → ℕ → Bool) (n x : ℕ) where
  -- what is left of a visit, where k steps are untried
  abbrev pub visiting : ℕ → ℕ → Progress → Progress
  visiting f k s = tries E (visits E n f) x k s

  abbrev pub entering : ℕ → ℕ → Progress → Progress
  entering f k s = climbs E (walks E n f) x k (n - k) s

module _ (E : ℕ → ℕ → Bool) (x : ℕ) {n : ℕ} {m₁ o₁ : List ℕ} {t d : ℕ} (h : Fit n m₁ o₁ t d) {m o m' o' : List ℕ} {e e' k c r : ℕ} where
  pub visiting-more : Going (visiting E n x) n m₁ o₁ t m o e k → 0 < k → Went (λ f. tried E (visits E n f) x (k - 1)) n m o e m' o' e'
      → c ≡ e' + d → Untried n k c r → Going (visiting E n x) n m₁ o₁ t m' o' e' r
  visiting-more g l w =
      going_more h g l (λ f. tried E (visits E n f) x (k - 1)) w
      (λ f s. tries-step E (visits E n f) x k s l)
      (λ f z. tries-full E (visits E n f) n x (progress m' o' e') z (k - 1) (omega (arith, g.left)) ∙ sym (tries-end E (visits E n f) x (progress m' o' e')))

  pub entering-more : Going (entering E n x) n m₁ o₁ t m o e k → 0 < k → Went (λ f. tried E (walks E n f) x (n - k)) n m o e m' o' e'
      → c ≡ e' + d → Untried n k c r → Going (entering E n x) n m₁ o₁ t m' o' e' r
  entering-more g l w =
      going_more h g l (λ f. tried E (walks E n f) x (n - k)) w
      (λ f s. climbs-step E (walks E n f) n x k s l g.left)
      (λ f z. climbs-full E (walks E n f) n x (progress m' o' e') z (k - 1) (n - (k - 1)) (omega (arith, g.left)) ∙ sym (climbs-end E (walks E n f) x (n - 0) (progress m' o' e')))

module _ (E : ℕ → ℕ → Bool) {n x : ℕ} {m o : List ℕ} {t d : ℕ} (h : Fit n m o t d) (l : x < n) (z : get_or m x 0 ≡ 0) {m' o' : List ℕ} {e k : ℕ} where
  pub visiting-room : Going (visiting E n x) n (set m x 1) o t m' o' e k → e < n
  visiting-room g = omega (arith, g.same, h.room, fit-marked h l z)

  -- no step is left: x is listed
  pub visiting-end : Going (visiting E n x) n (set m x 1) o t m' o' e k → k ≤ 0 → Went (λ f. visits E n f x) n m o t m' (set o' e x) (e + 1)
  visiting-end g none = record {
    is = λ f b.
        let a : 0 < f = omega (arith, fit-marked h l z) in
        let q : k ≡ 0 = omega arith in
        visits-more E n f x (progress m o t) a
        ∙ ap (enlist x) (sym (g.is (f - 1) (omega (arith, fit-marked h l z))) ∙ ap (λ (i : ℕ). tries E (visits E n (f - 1)) x i (progress m' o' e)) q ∙ tries-end E (visits E n (f - 1)) x (progress m' o' e))
        ∙ listed o' e x m' (omega (arith, visiting-room g, h.small, g.long));
    grew = omega (arith, g.grew);
    same = omega (arith, g.same, fit-marked h l z);
    wide = g.wide;
    long = length-set o' e x ∙ g.long;
  }

  -- no step is left of a number that was listed when it was entered
  pub entering-end : Going (entering E n x) n (set m x 1) (set o t x) (t + 1) m' o' e k → k ≤ 0 → Went (λ f. walks E n f x) n m o t m' o' e
  entering-end g none = record {
    is = λ f b.
        let a : 0 < f = omega (arith, fit-marked h l z) in
        let q : k ≡ 0 = omega arith in
        walks_more E n f x (progress m o t) a
        ∙ ap (climbs E (walks E n (f - 1)) x n (n - n)) (listed o t x (set m x 1) (omega (arith, fit-place h l z, h.small, h.long)))
        ∙ sym (g.is (f - 1) (omega (arith, fit-marked h l z)))
        ∙ ap (λ (i : ℕ). climbs E (walks E n (f - 1)) x i (n - i) (progress m' o' e)) q ∙ climbs-end E (walks E n (f - 1)) x (n - 0) (progress m' o' e);
    grew = omega (arith, g.grew);
    same = omega (arith, g.same, fit-marked h l z);
    wide = g.wide;
    long = g.long;
  }

-- a search of its own, in preorder
pub entered : (E : ℕ → ℕ → Bool) (x : ℕ) {n : ℕ} {m o : List ℕ} {r : ℕ} → n ≤ 256 → Went (λ f. walks E n f x) n (replicate 256 0) (replicate 256 0) 0 m o r
    → (take r o ≡ preorder E n x) × (r ≡ length (preorder E n x))
unfolding preorder
entered E x {n} {m} {o} {r} b w =
    let is : take r o ≡ preorder E n x = sym (ap (λ (s : Progress). s.out) (w.is n (free-le n (replicate 256 0)))) in
    (is, sym (length-take-le r o (omega (arith, w.same, w.long, free-le n (replicate 256 0)))) ∙ ap length is)
