-- `read_frames::read_text` meets its contract. Assumes nothing.
use Rattle.reader.proofs.HeadLine.{head-framed}
use Rattle.reader.proofs.Texts.{blank-sized, text-headless, text-head-place, text-head-stored, text-head-made}
use borrow.Author.Rules.{rules}
use Rattle.read_frames.proofs.read_text.Goals as goal

pub returns-then-end-eq0 : goal.returns-then-end-eq0
returns-then-end-eq0 c = search text-headless

pub put_head-requires : goal.put_head-requires
put_head-requires c = record { valued = search rules; sealed = search head-framed; words_len = search blank-sized }

pub read_records-requires : goal.read_records-requires
read_records-requires c = let head = text-head-stored _ _ c.head_end-end.ensures c.if-end-eq0.false c.put_head.ensures c.requires in
    record { valued = search rules; head_stored = head; head_made = (text-head-made _ c.put_head.ensures c.requires, search text-head-place) }
