-- Several numbers at the desk in one call, all or none. Assumes nothing.
use Rattle.std.specs.Prelude.{cond, List, [], ◌∷◌, ℕ, eqb, Ok}
use Rattle.layout.specs.Content.{Table}
use Rattle.layout.specs.Answers.{Result, result_of}
use Rattle.trays.specs.declared.Withdrawal.{Withdrawal}
use Rattle.desk.specs.Releases.{release_result}

-- the record of a tray that names n, of the kind
unfoldable pub of_kind : ℕ → ℕ → Withdrawal
of_kind kind n = record { kind = kind; number = n }

-- each is released in turn, up to the first that is refused
unfoldable pub in_turn : List ℕ → List ℕ → Table → Result
in_turn [] ss t = result_of (Ok 0) ss
in_turn (v ∷ vs) ss t = let r = release_result v ss t in cond (eqb r.number 0) (in_turn vs r.lent t) r

-- a refusal leaves what was lent
unfoldable pub all_or_none : List ℕ → Result → Result
all_or_none lent r = cond (eqb r.number 0) r (record { number = r.number; detail = r.detail; lent = lent })

-- desk_release_numbers: 1, then the first refusal of a release
unfoldable pub release_numbers_result : List ℕ → List ℕ → Table → Result
release_numbers_result vs ss t = all_or_none ss (in_turn vs ss t)
