-- Lists: what every other definition is written with. Assumes nothing.
use Rattle.std.specs.Prelude.{◌≡◌, Bool, true, false, cond, not, ◌||◌, List, [], ◌∷◌, ◌++◌, ℕ, zero, suc, ◌+◌, ◌-◌, ◌<◌, eqb, ltb, length, get_or, drop, replicate}
use Rattle.lists.specs.Tests.{◌and◌}

-- the test passes at every element
unfoldable pub all : {A : Type 0} → (A → Bool) → List A → Bool
all f [] = true
all f (x ∷ xs) = f x and all f xs

-- the test passes at some element
unfoldable pub any : {A : Type 0} → (A → Bool) → List A → Bool
any f [] = false
any f (x ∷ xs) = f x || any f xs

-- the two lists are the same, element by element
unfoldable pub same_list : List ℕ → List ℕ → Bool
same_list [] [] = true
same_list [] (y ∷ ys) = false
same_list (x ∷ xs) [] = false
same_list (x ∷ xs) (y ∷ ys) = eqb x y and same_list xs ys

-- every word is 0
unfoldable pub zeros : List ℕ → Bool
zeros xs = all (eqb 0) xs

-- x is below the bound
abbrev pub is_below : ℕ → ℕ → Bool
is_below high x = ltb x high

-- x stands in the list
abbrev pub memb : ℕ → List ℕ → Bool
memb x [] = false
memb x (y ∷ ys) = eqb x y || memb x ys

-- those that pass the test, in their order
unfoldable pub filter : {A : Type 0} → (A → Bool) → List A → List A
filter p [] = []
filter p (x ∷ xs) = cond (p x) (x ∷ filter p xs) (filter p xs)

-- what is not k by the key f
unfoldable pub other_than : {A : Type 0} → (A → ℕ) → ℕ → A → Bool
other_than f k x = not (eqb (f x) k)

-- a number, by itself
abbrev pub itself : ℕ → ℕ
itself x = x

-- a relation, or whatever is given for two numbers, with the two turned round
abbrev pub turned : {A : Type 0} → (ℕ → ℕ → A) → ℕ → ℕ → A
turned f x y = f y x

-- as it stands, or turned where back
abbrev pub facing : {A : Type 0} → Bool → (ℕ → ℕ → A) → ℕ → ℕ → A
facing false f x y = f x y
facing true f x y = f y x

-- the word at place i
abbrev pub word_at : List ℕ → ℕ → ℕ
word_at xs i = get_or xs i 0

-- what f gives, summed over a list
unfoldable pub sum_over : {A : Type 0} → (A → ℕ) → List A → ℕ
sum_over f [] = 0
sum_over f (x ∷ xs) = f x + sum_over f xs

-- strictly ascending: each is below all that come after it
unfoldable pub ascending : List ℕ → Bool
ascending [] = true
ascending (x ∷ xs) = all (ltb x) xs and ascending xs

-- the same, by places
abbrev pub Ascending : List ℕ → Type 0
Ascending xs = (i j : ℕ) → i < j → j < length xs → get_or xs i 0 < get_or xs j 0

-- no number twice
abbrev pub Distinct : List ℕ → Type 0
Distinct [] = Unit {0}
Distinct (x ∷ xs) = (memb x xs ≡ false) × Distinct xs

-- f 0, f 1, .., f (n - 1)
unfoldable pub tab : {A : Type 0} → (ℕ → A) → ℕ → List A
tab f zero = []
tab f (suc n) = let h = f zero in h ∷ tab (λ i. f (suc i)) n

-- the numbers below n, ascending
abbrev pub up_to : ℕ → List ℕ
up_to n = tab (λ i. i) n

-- records laid one after the other
unfoldable pub flat : {A : Type 0} → (A → List ℕ) → List A → List ℕ
flat f [] = []
flat f (x ∷ xs) = f x ++ flat f xs

-- a list, its count before it
abbrev pub counted : List ℕ → List ℕ
counted xs = length xs ∷ xs

-- 0 after xs, up to n words
abbrev pub pad : ℕ → List ℕ → List ℕ
pad n xs = xs ++ replicate (n - length xs) 0

-- w written from the front of d, which keeps the rest
unfoldable pub over : List ℕ → List ℕ → List ℕ
over w d = w ++ drop (length w) d
