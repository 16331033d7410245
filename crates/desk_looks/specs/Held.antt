-- What inner functions are stated with: the records that are in a state, held, or free to be released. Assumes nothing.
use Rattle.std.specs.Prelude.{◌≡◌, Bool, not, ◌||◌, List, ℕ, ◌<◌, eqb, length}
use Rattle.lists.specs.Tests.{◌and◌}
use Rattle.lists.specs.Lists.{any, up_to, word_at}
use Rattle.layout.specs.Layout.{vertex_limit}
use Rattle.marks.specs.Marks.{is_marked}
use Rattle.desk.specs.States.{reviewed, released}

-- of the first n records those that pass the test are marked, and no other
pub record MarkedWhere (p : ℕ → Bool) (n : ℕ) (marks : List Bool) : Type 0 where
  pub sized : length marks ≡ vertex_limit
  pub each : (k : ℕ) → k < n → is_marked marks k ≡ p k

-- record k is in state x
unfoldable pub record_in : List ℕ → ℕ → ℕ → Bool
record_in ss x k = eqb (word_at ss k) x

-- record u holds record k: it has a step to it, and is not released
unfoldable pub holds_record : (ℕ → ℕ → Bool) → List ℕ → ℕ → ℕ → Bool
holds_record E ss k u = E u k and not (eqb (word_at ss u) released)

-- the records that one of the first u holds are marked, and no other
pub record Held (E : ℕ → ℕ → Bool) (ss : List ℕ) (u : ℕ) (held : List Bool) : Type 0 where
  pub sized : length held ≡ vertex_limit
  pub each : (k : ℕ) → k < vertex_limit → is_marked held k ≡ any (holds_record E ss k) (up_to u)

-- record k is reviewed, and not held
unfoldable pub record_free : List ℕ → List Bool → ℕ → Bool
record_free ss held k = eqb (word_at ss k) reviewed and not (is_marked held k)

-- what was marked still is, and besides each of the first n records that passes the test
pub record Joined (p : ℕ → Bool) (n : ℕ) (old new : List Bool) : Type 0 where
  pub sized : length new ≡ length old
  pub each : (k : ℕ) → k < n → is_marked new k ≡ (is_marked old k || p k)
