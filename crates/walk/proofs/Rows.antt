-- Laws of rows of numbers and their counts. Assumes nothing.
use Rattle.std.proofs.Common.{◌≡◌, ℕ, ◌+◌, ◌*◌, ◌<◌, ◌≤◌, List, [], ◌∷◌, ◌++◌, length, get_or, set, replicate, sym, ap, ◌∙◌, subst, not-suc-le-zero, arith, length-append, length-set, get_or-set_other, get_or-take, get_or-set_same}
use lib.ListN.{length-replicate, get_or-replicate}
use lib.Seq.{take-append_seam, get_or_at}
use Rattle.lists.proofs.Cases.{on_same, on_below}
use Rattle.layout.specs.Layout.{vertex_limit}
use Rattle.steps.specs.Inner.{cell}
use Rattle.walk.specs.Passes.{Rows}

pub rows_none : (n : ℕ) (R : ℕ → List ℕ) → n ≤ vertex_limit → ((i : ℕ) → R i ≡ []) → Rows n R (replicate (vertex_limit * vertex_limit) 0) (replicate vertex_limit 0)
rows_none n R h e = record {
  sized = length-replicate {A = ℕ} (vertex_limit * vertex_limit) 0;
  counted = length-replicate {A = ℕ} vertex_limit 0;
  fits = λ i l. omega (arith, ap length (e i));
  many = λ i l. get_or-replicate {A = ℕ} vertex_limit i 0 0 (omega arith) ∙ sym (ap length (e i));
  entry = λ i q l lq. absurd (not-suc-le-zero (subst (λ (xs : List ℕ). q < length xs) (e i) lq));
}

get_d_front : (xs ys : List ℕ) (q : ℕ) → q < length xs → get_or (xs ++ ys) q 0 ≡ get_or xs q 0
get_d_front xs ys q h = sym (get_or-take (length xs) (xs ++ ys) q 0 h) ∙ ap (λ (zs : List ℕ). get_or zs q 0) (take-append_seam xs ys)

module _ {n : ℕ} {R : ℕ → List ℕ} {rows counts : List ℕ} (w : Rows n R rows counts) (R' : ℕ → List ℕ) where
  pub rows_ext : ((i : ℕ) → i < n → R' i ≡ R i) → Rows n R' rows counts
  rows_ext h = record {
    sized = w.sized;
    counted = w.counted;
    fits = λ i l. omega (arith, w.fits i l, ap length (h i l));
    many = λ i l. w.many i l ∙ sym (ap length (h i l));
    entry = λ i q l lq. w.entry i q l (omega (arith, ap length (h i l))) ∙ sym (ap (λ (xs : List ℕ). get_or xs q 0) (h i l));
  }

  -- one number more in row a
  module _ (a x : ℕ) (ln : n ≤ vertex_limit) (la : a < n) (room : length (R a) < vertex_limit) (here : R' a ≡ R a ++ (x ∷ [])) (other : (i : ℕ) → i < n → (i ≡ a → ⊥) → R' i ≡ R i) where
    longer : length (R' a) ≡ length (R a) + 1
    longer = ap length here ∙ length-append (R a) (x ∷ [])

    full : (i : ℕ) → i < n → length (R' i) ≤ vertex_limit
    full i l = on_same i a (λ e. rw e (omega (arith, longer))) (λ ne. omega (arith, w.fits i l, ap length (other i l ne)))

    many_more : (i : ℕ) → i < n → get_or (set counts a (length (R a) + 1)) i 0 ≡ length (R' i)
    many_more i l =
        on_same i a
        (λ e. rw e (get_or-set_same counts a (length (R a) + 1) 0 (omega (arith, w.counted)) ∙ sym longer))
        (λ ne. get_or-set_other counts a i (length (R a) + 1) 0 ne ∙ w.many i l ∙ sym (ap length (other i l ne)))

    at_row : (q : ℕ) → q < length (R' a) → get_or (set rows (cell a (length (R a))) x) (cell a q) 0 ≡ get_or (R' a) q 0
    at_row q lq =
        on_below q (length (R a))
        (λ l. get_or-set_other rows (cell a (length (R a))) (cell a q) x 0 (λ (c : cell a q ≡ cell a (length (R a))). omega arith)
        ∙ w.entry a q la l ∙ sym (get_d_front (R a) (x ∷ []) q l) ∙ sym (ap (λ (xs : List ℕ). get_or xs q 0) here))
        (λ l. let e : q ≡ length (R a) = omega (arith, longer) in
        rw e (get_or-set_same rows (cell a (length (R a))) x 0 (omega (arith, w.sized)))
        ∙ sym (ap (λ (xs : List ℕ). get_or xs q 0) here ∙ get_or_at (R a) x [] 0 q (sym e)))

    at_other : (i q : ℕ) → i < n → (i ≡ a → ⊥) → q < length (R' i) → get_or (set rows (cell a (length (R a))) x) (cell i q) 0 ≡ get_or (R' i) q 0
    at_other i q l ne lq =
        let s : q < vertex_limit = omega (arith, full i l) in
        get_or-set_other rows (cell a (length (R a))) (cell i q) x 0 (λ (c : cell i q ≡ cell a (length (R a))). let e : i ≡ a = omega arith in ne e)
        ∙ w.entry i q l (omega (arith, ap length (other i l ne))) ∙ sym (ap (λ (xs : List ℕ). get_or xs q 0) (other i l ne))

    pub rows_append : Rows n R' (set rows (cell a (length (R a))) x) (set counts a (length (R a) + 1))
    rows_append = record {
      sized = length-set rows (cell a (length (R a))) x ∙ w.sized;
      counted = length-set counts a (length (R a) + 1) ∙ w.counted;
      fits = full;
      many = many_more;
      entry = λ i q l lq. on_same i a (λ e. rw e (at_row q (rw e at lq))) (λ ne. at_other i q l ne lq);
    }
