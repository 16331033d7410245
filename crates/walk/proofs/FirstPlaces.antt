-- Laws of the marks of the members' first places. Assumes nothing.
use Rattle.std.proofs.Common.{◌≡◌, ℕ, ◌+◌, ◌*◌, ◌<◌, ◌≤◌, Bool, true, false, not, List, length, get_or, take, set, replicate, sym, ap, ◌∙◌, subst, not-suc-le-zero, add-one, arith, length-set, take_all, get_or-set_other, take-suc, get_or-set_same, below_more}
use lib.ListN.{length-replicate}
use Rattle.lists.specs.Lists.{memb}
use Rattle.lists.proofs.Cases.{on_below}
use Rattle.lists.proofs.Memb.{memb-snoc-self, memb-snoc-other}
use Rattle.layout.specs.Layout.{limit, vertex_limit, hyperedge_count, members_at}
use Rattle.layout.specs.Inner.{Formed}
use Rattle.layout.proofs.Read.{members-le}
use Rattle.steps.specs.Inner.{cell}
use Rattle.walk.specs.Passes.{is_first, FirstsMarked, Firsts}

-- ---- a loop over a list that looks for v: found says whether v is among the first i

module _ (ms : List ℕ) (v i : ℕ) (found : Bool) (inv : found ≡ memb v (take i ms)) where
  pub seen_here : i < length ms → get_or ms i 0 ≡ v → true ≡ memb v (take (i + 1) ms)
  seen_here h e = rw (add-one, take-suc ms i 0 h, e) (sym (memb-snoc-self v (take i ms)))

  pub seen-on : i < length ms → (get_or ms i 0 ≡ v → ⊥) → found ≡ memb v (take (i + 1) ms)
  seen-on h n = inv ∙ rw (add-one, take-suc ms i 0 h) (sym (memb-snoc-other v (get_or ms i 0) (take i ms) (λ q. n (sym q))))

  pub seen_end : length ms ≤ i → found ≡ memb v ms
  seen_end h = inv ∙ ap (memb v) (take_all i ms h)

pub first-is : (ms : List ℕ) (p x : ℕ) (r : Bool) → x ≡ get_or ms p 0 → r ≡ memb x (take p ms) → not r ≡ is_first ms p
unfolding is_first
first-is ms p x r e q = rw (q, e)

-- ---- the marks

pub judged-none : (ws : List ℕ) → FirstsMarked ws 0 0 (replicate (vertex_limit * vertex_limit) false)
judged-none ws = record {
  sized = length-replicate {A = Bool} (vertex_limit * vertex_limit) false;
  before = λ j q h l. absurd (not-suc-le-zero h);
  here = λ q h. absurd (not-suc-le-zero h);
}

-- b says whether place p of record k is a first place
pub judged-more : (ws : List ℕ) → Formed limit ws → (k p : ℕ) {firsts : List Bool} → FirstsMarked ws k p firsts → k < hyperedge_count ws
    → (ms : List ℕ) → ms ≡ members_at limit ws k → p < length ms → (b : Bool) → b ≡ is_first ms p → (next : List Bool) → next ≡ set firsts (cell k p) b → FirstsMarked ws k (p + 1) next
judged-more ws f k p {firsts} inv lk ms em h b eb next e = subst (FirstsMarked ws k (p + 1)) (sym e) more
  where
    few : (j q : ℕ) → j < hyperedge_count ws → q < length (members_at limit ws j) → q < vertex_limit
    few j q lj lq = omega (arith, members-le limit ws f j lj)

    lp : p < vertex_limit
    lp = few k p lk (subst (λ (xs : List ℕ). p < length xs) em h)

    more : FirstsMarked ws k (p + 1) (set firsts (cell k p) b)
    more = record {
      sized = length-set firsts (cell k p) b ∙ inv.sized;
      before = λ j q lj lq.
          let s : q < vertex_limit = few j q (omega arith) lq in
          get_or-set_other firsts (cell k p) (cell j q) b false (λ (c : cell j q ≡ cell k p). omega (arith, lp)) ∙ inv.before j q lj lq;
      here =
          below_more (λ (q : ℕ). get_or (set firsts (cell k p) b) (cell k q) false ≡ is_first (members_at limit ws k) q) p
          (λ q l. get_or-set_other firsts (cell k p) (cell k q) b false (λ (c : cell k q ≡ cell k p). omega arith) ∙ inv.here q l)
          (get_or-set_same firsts (cell k p) b false (omega (arith, lp, inv.sized, f.shape.hyperedges-le)) ∙ eb ∙ ap (λ (xs : List ℕ). is_first xs p) em);
    }

pub judged-next : (ws : List ℕ) (k p : ℕ) {firsts : List Bool} → FirstsMarked ws k p firsts → (ms : List ℕ) → ms ≡ members_at limit ws k → length ms ≤ p → FirstsMarked ws (k + 1) 0 firsts
judged-next ws k p {firsts} inv ms em h = record { sized = inv.sized; before = before; here = λ q l. absurd (not-suc-le-zero l) }
  where
    before : (j q : ℕ) → j < k + 1 → q < length (members_at limit ws j) → get_or firsts (cell j q) false ≡ is_first (members_at limit ws j) q
    before j q lj lq =
        on_below j k
        (λ l. inv.before j q l lq)
        (λ l. let e : j ≡ k = omega arith in
        rw e (inv.here q (omega (arith, h, ap length em, ap (λ (i : ℕ). length (members_at limit ws i)) e))))

pub judged-all : (ws : List ℕ) (j k : ℕ) → k ≡ hyperedge_count ws → j ≤ k → k ≤ j → {firsts : List Bool} → FirstsMarked ws j 0 firsts → Firsts ws firsts
judged-all ws j k e a b {firsts} w = let q : j ≡ hyperedge_count ws = omega arith in subst (λ (z : ℕ). FirstsMarked ws z 0 firsts) q w

-- what the code reads: the mark of place p of record j
pub first-mark : (ws : List ℕ) {firsts : List Bool} → Firsts ws firsts → (j p : ℕ) (ms : List ℕ) → ms ≡ members_at limit ws j → j < hyperedge_count ws → p < length ms
    → get_or firsts (cell j p) false ≡ is_first ms p
first-mark ws w j p ms e lj lp = w.before j p lj (subst (λ (xs : List ℕ). p < length xs) e lp) ∙ ap (λ (xs : List ℕ). is_first xs p) (sym e)

-- ms are the members of record j
module _ (ws : List ℕ) (f : Formed limit ws) (j p : ℕ) (ms : List ℕ) (e : ms ≡ members_at limit ws j) (lj : j < hyperedge_count ws) (lp : p < length ms) where
  pub place-within : p < vertex_limit
  place-within = omega (arith, members-le limit ws f j lj, ap length e)

  pub mark-within : cell j p < vertex_limit * vertex_limit
  mark-within = omega (arith, place-within, f.shape.hyperedges-le)
