-- `hyperedge_lines::read_hyperedge` meets its contract. Assumes nothing.
use Rattle.reader.proofs.HyperedgeLine.{frame-behind, fits-short, fits-empty, fits-many, fits-unsealed, fits-seal}
use Rattle.reader.proofs.HyperedgeLines.{line-unfit}
use Rattle.reader.proofs.Words.{list-made}
use borrow.Author.Rules.{rules}
use Rattle.hyperedge_lines.proofs.read_hyperedge.Goals as goal

pub returns-then-text-at-lt-HYPEREDGE_LENGTH : goal.returns-then-text-at-lt-HYPEREDGE_LENGTH
returns-then-text-at-lt-HYPEREDGE_LENGTH c = line-unfit _ _ _ _ _ _ (search fits-short)

pub returns-then-k-eq0 : goal.returns-then-k-eq0
returns-then-k-eq0 c = line-unfit _ _ _ _ _ _ (search fits-empty)

pub returns-then-k-gt-MEMBER_LIMIT : goal.returns-then-k-gt-MEMBER_LIMIT
returns-then-k-gt-MEMBER_LIMIT c = line-unfit _ _ _ _ _ _ (search fits-many)

pub returns-then-end-at : goal.returns-then-end-at
returns-then-end-at c = line-unfit _ _ _ _ _ _ (search fits-unsealed)

pub put_members-requires : goal.put_members-requires
put_members-requires c = let sealed = fits-seal _ _ _ _ c.frame_end-end.ensures c.if-end-at.false c.byte_at-k.ensures.0 c.if-k-eq0.false c.if-k-gt-MEMBER_LIMIT.false in
    record { valued = search rules; sealed = (sealed.0, search rules) }

pub put_fitting-requires : goal.put_fitting-requires
put_fitting-requires c = let sealed = fits-seal _ _ _ _ c.frame_end-end.ensures c.if-end-at.false c.byte_at-k.ensures.0 c.if-k-eq0.false c.if-k-gt-MEMBER_LIMIT.false in
    let listed = list-made c.if-k-gt-MEMBER_LIMIT.false c.put_members.ensures in
    record { valued = c.requires.valued; live = c.requires.live; sealed = sealed; list_value = listed; limit_in_bounds = (c.requires.at_in_bounds.1, frame-behind _ _ _ _ c.frame_end-end.ensures c.if-end-at.false) }
