-- Of whole lists the total is the sum of their own sums. Assumes nothing.
use Rattle.std.proofs.Common.{◌≡◌, ℕ, zero, suc, ◌+◌, ◌-◌, ◌%◌, ◌^◌, List, [], ◌∷◌, ◌++◌, length, get_or, sym, refl, ap, ◌∙◌, add-zero, add_assoc, zero-add, suc-ne-zero, arith, ne_eqb}
use native.Mathlib.Nat.{mod-add-mod}
use Rattle.lists.specs.Lists.{flat, counted}
use Rattle.replay.specs.declared.Rows.{Rows}
use Rattle.replay.specs.Judging.{mixed, sum_start, sum_of, rows_of, closed, one_word, rows_after, own_sums}

-- f along the words, from a on
abbrev folded : {A : Type 0} → (A → ℕ → A) → A → List ℕ → A
folded f a [] = a
folded f a (w ∷ ws) = folded f (f a w) ws

folded-append : {A : Type 0} (f : A → ℕ → A) (a : A) (ws vs : List ℕ) → folded f a (ws ++ vs) ≡ folded f (folded f a ws) vs
folded-append f a [] vs = refl
folded-append f a (w ∷ ws) vs = folded-append f (f a w) ws vs

-- what goes from word to word by places goes along the words
by-places : {A : Type 0} (f : A → ℕ → A) (a : A) (g : ℕ → A) (ws : List ℕ) → g zero ≡ a → ((k : ℕ) → g (suc k) ≡ f (g k) (get_or ws k 0)) → g (length ws) ≡ folded f a ws
by-places f a g [] e h = e
by-places {A} f a g (w ∷ ws) e h = by-places f (f a w) (λ k. g (suc k)) ws (h zero ∙ ap (λ (x : A). f x w) e) (λ k. h (suc k))

sum_folded : (ws : List ℕ) → sum_of ws (length ws) ≡ folded mixed sum_start ws
unfolding sum_of
sum_folded ws = by-places mixed sum_start (sum_of ws) ws refl (λ k. refl)

rows-folded : (ws : List ℕ) → rows_after ws (length ws) ≡ folded one_word (rows_of 0 sum_start 0) ws
unfolding rows_after
rows-folded ws = by-places one_word (rows_of 0 sum_start 0) (rows_after ws) ws refl (λ k. refl)

-- ---- one list

length-read : (n row total : ℕ) → one_word (rows_of 0 row total) (suc n) ≡ rows_of (suc n) (mixed row (suc n)) total
unfolding one_word closed
length-read n row total = rw (ne_eqb (suc n) 0 (suc-ne-zero n))

member-read : (n row total w : ℕ) → one_word (rows_of (suc (suc n)) row total) w ≡ rows_of (suc n) (mixed row w) total
unfolding one_word closed
member-read n row total w =
    let less : suc (suc n) - 1 ≡ suc n = omega arith in
    rw (ne_eqb (suc (suc n)) 0 (suc-ne-zero (suc n)), less, ne_eqb (suc n) 0 (suc-ne-zero n))

-- the sum so far and the lists' total before
members-read : (w : ℕ) (l : List ℕ) (row total : ℕ) → folded one_word (rows_of (length (w ∷ l)) row total) (w ∷ l) ≡ rows_of 0 sum_start ((total + folded mixed row (w ∷ l)) % 2 ^ 64)
unfolding one_word closed
members-read w [] row total = refl
members-read w (v ∷ l) row total =
    ap (λ (r : Rows). folded one_word r (v ∷ l)) (member-read (length l) row total w) ∙ members-read v l (mixed row w) total

list_read : (l : List ℕ) (total : ℕ) → folded one_word (rows_of 0 sum_start total) (counted l) ≡ rows_of 0 sum_start ((total + folded mixed sum_start (counted l)) % 2 ^ 64)
unfolding one_word closed
list_read [] total = refl
list_read (w ∷ l) total =
    ap (λ (r : Rows). folded one_word r (w ∷ l)) (length-read (length l) sum_start total)
    ∙ members-read w l (mixed sum_start (length (w ∷ l))) total

-- ---- all lists

lists-read : (ls : List (List ℕ)) (x : ℕ) → folded one_word (rows_of 0 sum_start (x % 2 ^ 64)) (flat counted ls) ≡ rows_of 0 sum_start ((x + own_sums ls) % 2 ^ 64)
unfolding flat own_sums
lists-read [] x = rw (add-zero x)
lists-read (l ∷ ls) x =
    let s = folded mixed sum_start (counted l) in
    folded-append one_word (rows_of 0 sum_start (x % 2 ^ 64)) (counted l) (flat counted ls)
    ∙ ap (λ (r : Rows). folded one_word r (flat counted ls)) (list_read l (x % 2 ^ 64) ∙ ap (rows_of 0 sum_start) (mod-add-mod x (2 ^ 64) s))
    ∙ lists-read ls (x + s)
    ∙ ap (λ (n : ℕ). rows_of 0 sum_start (n % 2 ^ 64)) (add_assoc x s (own_sums ls) ∙ ap (λ (n : ℕ). x + (n + own_sums ls)) (sym (sum_folded (counted l))))

pub lists-summed : (ls : List (List ℕ)) → (rows_after (flat counted ls) (length (flat counted ls))).total ≡ own_sums ls % 2 ^ 64
lists-summed ls =
    ap (λ (r : Rows). r.total) (rows-folded (flat counted ls) ∙ lists-read ls 0)
    ∙ ap (λ (n : ℕ). n % 2 ^ 64) (zero-add (own_sums ls))
