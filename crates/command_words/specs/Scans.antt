-- What is read of the words of a line. Assumes nothing.
use Rattle.std.specs.Prelude.{◌≡◌, cond, List, [], ◌∷◌, ℕ, suc, eqb, ltb, length, set, take}
use Rattle.lists.specs.Lists.{all, over}
use Rattle.commands.specs.Words.{blank, largest, value_of, is_number, leading}
use Rattle.commands.specs.Commands.{most_numbers}
use Rattle.command_words.specs.declared.Scanned.{Scanned}

-- the bytes before the first blank
unfoldable pub first_word : List ℕ → List ℕ
first_word [] = []
first_word (c ∷ cs) = cond (eqb c blank) [] (c ∷ first_word cs)

-- the value of a word that is a number, else one more than the largest
unfoldable pub worth : List ℕ → ℕ
worth w = cond (is_number w) (value_of w) (suc largest)

-- x stored as number i, where a line may have so many
unfoldable pub stored : List ℕ → ℕ → ℕ → List ℕ
stored xs i x = cond (ltb i most_numbers) (set xs i x) xs

-- the place of the first word that is no number, from 1; 0 where every word is one
unfoldable pub fault_in : List (List ℕ) → ℕ
fault_in ws = cond (all is_number ws) 0 (suc (length (leading ws)))

-- the words were read: how many numbers stand before the first that is none, its place, and as many numbers stored as a line may have
pub record Scanning (ws : List (List ℕ)) (lent : List ℕ) (r : Scanned) (exit : List ℕ) : Type 0 where
  pub seen : r.seen ≡ length (leading ws)
  pub fault : r.fault ≡ fault_in ws
  pub numbers : exit ≡ over (take most_numbers (leading ws)) lent
