-- What the code's arrays hold while the queue is served: marks m, one for each number, and the queue itself in the first t places of o. Assumes nothing.
use mathlib.Core.Path.{◌≡◌, refl, sym, ap, ◌∙◌, subst}
use mathlib.Core.Bool.{Bool, true, false, cond}
use mathlib.Core.List.{List, [], ◌∷◌, ◌++◌}
use Prim.Native.Nat.{ℕ, ◌+◌, ◌≤◌, ◌<◌}
use native.Mathlib.Nat.{add-zero}
use native.Mathlib.Numerals.{add-one}
use native.Mathlib.Omega.{arith}
use lib.ListN.{get_or, take, set, length-set, length-append, replicate, length-replicate, get_or-replicate}
use mir.Val.{bool_byte}
use lib.Seq.{take-suc-set, take-set-le, get_or-set_same, get_or-set_other, get_or-take}
use Rattle.lists.proofs.Cases.{on, on_same}
use Rattle.lists.proofs.Count.{room, pigeon}
use Rattle.lists.proofs.Memb.{memb-snoc-self, memb-snoc-other, distinct_snoc, below-snoc, below-memb, memb-getD}
use Rattle.lists.specs.Lists.{memb}
use Rattle.lists.specs.Tests.{bit}
use Rattle.graph.specs.Held.{Held, Queued}

module _ {n : ℕ} {m o : List ℕ} {t : ℕ} {q : List ℕ} (h : Held n m o t q) where
  pub held-as : {q' : List ℕ} → q' ≡ q → Held n m o t q'
  held-as {q'} e = subst (λ (l : List ℕ). Held n m o t l) (sym e) h

  module _ {j : ℕ} (l : j < n) where
    pub held_new : get_or m j 0 ≡ 0 → memb j q ≡ false
    held_new z = on (memb j q) (λ e. absurd (no_one (sym z ∙ h.marks j l ∙ ap bit e))) (λ e. e)
      where
        no_one : ◌≡◌ {A = ℕ} 0 1 → ⊥
        no_one e = omega arith

    pub held-room : get_or m j 0 ≡ 0 → t < n
    held-room z = omega (arith, h.count, room q n j h.once h.below l (held_new z))

    pub held_more : n ≤ 256 → get_or m j 0 ≡ 0 → Held n (set m j 1) (set o t j) (t + 1) (q ++ (j ∷ []))
    held_more s z = record {
      wide = length-set m j 1 ∙ h.wide;
      long = length-set o t j ∙ h.long;
      queue = rw (add-one t) (take-suc-set o t j (omega (arith, held-room z, h.long)) ∙ ap (λ (w : List ℕ). w ++ (j ∷ [])) h.queue);
      count = omega (arith, h.count, length-append q (j ∷ []));
      marks = λ i li. on_same i j
          (λ e. subst (λ (k : ℕ). get_or (set m j 1) k 0 ≡ bit (memb k (q ++ (j ∷ [])))) (sym e)
          (get_or-set_same m j 1 0 (omega (arith, h.wide)) ∙ sym (ap bit (memb-snoc-self j q))))
          (λ ne. get_or-set_other m j i 1 0 ne ∙ h.marks i li ∙ sym (ap bit (memb-snoc-other i j q ne)));
      once = distinct_snoc q j h.once (held_new z);
      below = below-snoc n q j h.below l;
    }

    -- where b, j joins; else what was stored beside the queue and the mark say nothing
    pub held-put : n ≤ 256 → get_or m j 0 ≡ 0 → (b : Bool) → Held n (set m j (bool_byte b)) (set o t j) (t + bool_byte b) (cond b (q ++ (j ∷ [])) q)
    held-put s z true = held_more s z
    held-put s z false = rw (add-zero t) record {
      wide = length-set m j 0 ∙ h.wide;
      long = length-set o t j ∙ h.long;
      queue = take-set-le t o t j (omega arith) ∙ h.queue;
      count = h.count;
      marks = λ i li. on_same i j
          (λ e. subst (λ (k : ℕ). get_or (set m j 0) k 0 ≡ bit (memb k q)) (sym e) (get_or-set_same m j 0 0 (omega (arith, h.wide)) ∙ sym z ∙ h.marks j l))
          (λ ne. get_or-set_other m j i 0 0 ne ∙ h.marks i li);
      once = h.once;
      below = h.below;
    }

-- before the first number: no mark
pub held_first : {n : ℕ} {m o : List ℕ} {s : ℕ} → Held n m o 0 [] → s < n → n ≤ 256 → Held n (set m s 1) (set o 0 s) 1 (s ∷ [])
held_first h l b = held_more h l b (h.marks _ l)

-- what stands at a place of the queue
pub held_at : {n : ℕ} {m o : List ℕ} {t : ℕ} → Held n m o t (take t o) → (k : ℕ) → k < t → get_or o k 0 < n
held_at {n} {m} {o} {t} h k l =
    subst (λ (x : ℕ). x < n) (get_or-take t o k 0 l)
    (below-memb n (take t o) h.below (get_or (take t o) k 0) (memb-getD (take t o) k (omega (arith, h.count))))

pub held-short : {n : ℕ} {m o : List ℕ} {t : ℕ} {q : List ℕ} → Held n m o t q → t ≤ n
held-short {n} {m} {o} {t} {q} h = omega (arith, h.count, pigeon q n h.once h.below)

-- before the search: zeros
pub held_none : (n : ℕ) → n ≤ 256 → Held n (replicate 256 0) (replicate 256 0) 0 []
held_none n b = record {
  wide = length-replicate {A = ℕ} 256 0;
  long = length-replicate {A = ℕ} 256 0;
  queue = refl;
  count = refl;
  marks = λ j l. get_or-replicate {A = ℕ} 256 j 0 0 (omega arith);
  once = tt;
  below = tt;
}

pub queued-as : {n : ℕ} {m o r : List ℕ} {t : ℕ} {q : List ℕ} → Queued n m o r t q → {q' : List ℕ} → q' ≡ q → Queued n m o r t q'
queued-as {n} {m} {o} {r} {t} h e = subst (λ (l : List ℕ). Queued n m o r t l) (sym e) h
