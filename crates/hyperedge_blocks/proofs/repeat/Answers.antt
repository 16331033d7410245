-- `hyperedge_blocks::repeat` meets its contract. Assumes nothing.
use mathlib.Core.Path.{◌≡◌, ap, ◌∙◌}
use Prim.Native.Nat.{ℕ}
use lib.ListN.{length, take, replicate, length-replicate}
use lib.Seq.{length-take-le}
use Rattle.lists.specs.Lists.{over}
use Rattle.hyperedge_blocks.proofs.repeat.Goals as goal

pub returns : goal.returns
unfolding over
returns c =
    let room : length (take c.args.k c.args.out.now) ≡ c.args.k = length-take-le c.args.k c.args.out.now c.requires in
    let filled : c.fill.new.self ≡ replicate c.args.k c.args.x = c.fill.ensures.after (λ y e. e) ∙ ap (λ (n : ℕ). replicate n c.args.x) room in
    rw (filled, length-replicate {A = ℕ} c.args.k c.args.x)
