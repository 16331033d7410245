-- `frames::put_byte` meets its contract. Assumes nothing.
use native.Mathlib.Omega.{arith}
use lib.ListN.{length-set}
use Rattle.frames.proofs.Bytes.{byte_put}
use borrow.Author.Rules.{rules}
use Rattle.frames.proofs.put_byte.Goals as goal

pub bounds-text-at-2 : goal.bounds-text-at-2
bounds-text-at-2 c = simp length-set (omega arith)

pub returns : goal.returns
returns c = search (byte_put, rules)
