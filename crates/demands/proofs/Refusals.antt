-- A refused call changes no lent word. Assumes nothing.
use mathlib.Core.Path.{◌≡◌}
use mathlib.Core.List.{List}
use Prim.Native.Nat.{ℕ, suc}
use Rattle.layout.specs.Answers.{Result}
use Rattle.promises.specs.Refusals.{Ground, Judged}
use Rattle.promises.proofs.Refusals.{refusal-keeps as keeps}

-- of every call that is judged by its grounds, as the call of each entry point is (`promises/proofs/Calls.antt`)
pub refusal-keeps : (gs : List Ground) (lent : List ℕ) (r : Result) → Judged gs lent r → (n : ℕ) → r.number ≡ suc n → r.lent ≡ lent
refusal-keeps gs lent r j n e = keeps j n e
