-- `withdraw_marked::withdraw_marked` meets its contract. Assumes nothing.
use Prim.Native.Nat.{ℕ}
use lib.ListN.{length-replicate}
use Rattle.layout.specs.Layout.{limit, size}
use Rattle.withdraw_marked.proofs.Sifting.{copied, marked-withdrawn}
use borrow.Author.Rules.{rules}
use Rattle.withdraw_marked.proofs.withdraw_marked.Goals as goal

pub sift_hyperedges-requires : goal.sift_hyperedges-requires
sift_hyperedges-requires c =
    let both = copied c.args.t.now _ _ c.requires (length-replicate {A = ℕ} (size limit) 0) c.store.ensures in
    record { formed = both.0; t_value = both.1 }

pub sift_vertices-requires : goal.sift_vertices-requires
sift_vertices-requires c = let f = (copied c.args.t.now _ _ c.requires (length-replicate {A = ℕ} (size limit) 0) c.store.ensures).0 in
    record { t_len = (search rules, f.shape.sized); bound = f.shape.vertices-le }

pub returns : goal.returns
returns c =
    let same = (copied c.args.t.now _ _ c.requires (length-replicate {A = ℕ} (size limit) 0) c.store.ensures).1 in
    marked-withdrawn _ _ c.args.t.now _ _ _ c.requires same c.sift_hyperedges.ensures c.sift_vertices.ensures
