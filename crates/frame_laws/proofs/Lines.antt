-- The lines of a text: what is written as a line is one, and the lines in a row are the text. Assumes nothing.
use mathlib.Core.Path.{◌≡◌, refl, ap, ◌∙◌}
use mathlib.Core.Bool.{true, false}
use mathlib.Core.List.{List, [], ◌∷◌, ◌++◌, append_assoc}
use Prim.Native.Nat.{ℕ, ◌+◌, ◌/◌, ◌%◌, ◌≤◌}
use native.Mathlib.Omega.{arith}
use lib.Dec.{eqb}
use borrow.Author.Tests.{lt-ltb, le-ltb, ne_eqb}
use Rattle.lists.specs.Lists.{memb, flat}
use Rattle.lists.proofs.Cases.{on, on_below}
use Rattle.lists.proofs.Memb.{memb-snoc-self}
use Rattle.frames.specs.Frames.{digit, byte_digits, digits, sealed, line}
use Rattle.frames.specs.Faulty.{onto, lines_of}

-- no digit is a line feed
digit-high : (k : ℕ) → 48 ≤ digit k
unfolding digit
digit-high k = on_below k 10 (λ h. rw (lt-ltb k 10 h) (omega arith)) (λ h. rw (le-ltb k 10 h) (omega arith))

digit-on : (k : ℕ) → eqb (digit k) 10 ≡ false
digit-on k = ne_eqb (digit k) 10 (λ e. absurd (omega (arith, digit-high k)))

digits-line : (bs rest : List ℕ) → lines_of (digits bs ++ (10 ∷ rest)) ≡ (digits bs ++ (10 ∷ [])) ∷ lines_of rest
unfolding digits flat byte_digits lines_of onto
digits-line [] rest = refl
digits-line (b ∷ bs) rest = rw (digit-on (b / 16), digit-on (b % 16), digits-line bs rest)

-- a written line is a line
pub line_first : (fr rest : List ℕ) → lines_of (line fr ++ rest) ≡ line fr ∷ lines_of rest
unfolding line
line_first fr rest = ap lines_of (append_assoc (digits (sealed fr)) (10 ∷ []) rest) ∙ digits-line (sealed fr) rest

-- which ends with a line feed
pub line-ended : (fr : List ℕ) → memb 10 (line fr) ≡ true
unfolding line
line-ended fr = memb-snoc-self 10 (digits (sealed fr))

-- the lines one after the other
abbrev pub joined : List (List ℕ) → List ℕ
joined ls = flat (λ l. l) ls

joined-onto : (b : ℕ) (ls : List (List ℕ)) → joined (onto b ls) ≡ b ∷ joined ls
unfolding flat onto
joined-onto b [] = refl
joined-onto b (l ∷ ls) = refl

pub lines-joined : (text : List ℕ) → joined (lines_of text) ≡ text
unfolding lines_of flat
lines-joined [] = refl
lines-joined (b ∷ text) =
    on (eqb b 10)
    (λ e. rw e (ap (λ (l : List ℕ). b ∷ l) (lines-joined text)))
    (λ e. rw e (joined-onto b (lines_of text) ∙ ap (λ (l : List ℕ). b ∷ l) (lines-joined text)))
