-- What a call of the search does to the marks m, the listing in the first t places of o, and t. Assumes nothing.
use Rattle.std.specs.Prelude.{◌≡◌, List, ℕ, ◌+◌, ◌-◌, ◌≤◌, ◌<◌, length, take}
use Rattle.depth.specs.Dfs.{Progress, unmarked}
use Rattle.lists.specs.Tests.{count}

-- marks and listing as the arrays hold them
abbrev pub progress : List ℕ → List ℕ → ℕ → Progress
progress m o t = record { marks = m; out = take t o }

-- after one of k neighbours is tried, where so many of n numbers are marked
pub record Untried (n k marked r : ℕ) : Type 0 where
  pub none : n ≤ marked → r ≡ 0
  pub rest : marked < n → r ≡ k - 1

-- how many of the numbers below n are not marked
unfoldable pub free : ℕ → List ℕ → ℕ
free n m = count (unmarked m) n

-- there is room for every number that is not marked, and for the d that are being visited
pub record Fit (n : ℕ) (m o : List ℕ) (t d : ℕ) : Type 0 where
  pub small : n ≤ 256
  pub wide : length m ≡ 256
  pub long : length o ≡ 256
  pub room : t + d + free n m ≤ n

-- spec, with any number of turns that suffices, makes of the state before the state after
pub record Went (spec : ℕ → Progress → Progress) (n : ℕ) (m o : List ℕ) (t : ℕ) (m' o' : List ℕ) (t' : ℕ) : Type 0 where
  pub is : (f : ℕ) → free n m ≤ f → spec f (progress m o t) ≡ progress m' o' t'
  pub grew : t ≤ t'
  pub same : t' + free n m' ≡ t + free n m
  pub wide : length m' ≡ 256
  pub long : length o' ≡ 256

-- while steps are tried: k are untried, and to try them makes what to try all n would have made at the start, of the marks m₁
pub record Going (todo : ℕ → ℕ → Progress → Progress) (n : ℕ) (m₁ o₁ : List ℕ) (t : ℕ) (m o : List ℕ) (e k : ℕ) : Type 0 where
  pub left : k ≤ n
  pub is : (f : ℕ) → free n m₁ ≤ f → todo f k (progress m o e) ≡ todo f n (progress m₁ o₁ t)
  pub grew : t ≤ e
  pub same : e + free n m ≡ t + free n m₁
  pub wide : length m ≡ 256
  pub long : length o ≡ 256
