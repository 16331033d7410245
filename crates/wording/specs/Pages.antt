-- A page: a lent slice of bytes that is written from the front on, as far as it goes. Assumes nothing.
use Rattle.std.specs.Prelude.{cond, List, [], ◌∷◌, ℕ, suc, ltb, length, set}

-- the bytes of the slice, and the place where the next one goes
pub record Page : Type 0 where
  pub bytes : List ℕ
  pub next : ℕ

abbrev pub page : List ℕ → ℕ → Page
page bytes next = record { bytes = bytes; next = next }

-- one byte more; a page that is full stays as it is
unfoldable pub write_byte : ℕ → Page → Page
write_byte x p = cond (ltb p.next (length p.bytes)) (page (set p.bytes p.next x) (suc p.next)) p

-- all of them, one after the other
unfoldable pub write : List ℕ → Page → Page
write [] p = p
write (x ∷ xs) p = write xs (write_byte x p)
