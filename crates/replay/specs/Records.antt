-- What stands in the bytes of the records. A read is a number and the place after it. Assumes nothing.
use Rattle.std.specs.Prelude.{ℕ, zero, suc, ◌+◌, ◌*◌, cond, List, length, ◌==◌, nat_le, nat_lt, slice_index}
use Rattle.lists.specs.Lists.{tab}
use Rattle.replay.specs.declared.Value.{Value}
use Rattle.replay.specs.declared.LongValue.{LongValue}
use Rattle.replay.specs.declared.Extent.{Extent}

-- the place after a record that is not whole, and the place after the last one
abbrev pub lost : ℕ
lost = 18446744073709551615

abbrev pub whole : ℕ
whole = 18446744073709551614

-- a number and the place after it
abbrev pub value_of : ℕ → ℕ → Value
value_of n p = record { value = n; at = p }

-- the byte at place p; 0 and lost where the bytes end before it
unfoldable pub byte_read : List ℕ → ℕ → Value
byte_read s p = cond (nat_lt p (length s)) (value_of (slice_index s p) (p + 1)) (value_of 0 lost)

-- two bytes, then four, then eight, the lowest first
unfoldable pub two_read : List ℕ → ℕ → Value
two_read s p = value_of ((byte_read s p).value + 256 * (byte_read s (byte_read s p).at).value) (byte_read s (byte_read s p).at).at

unfoldable pub four_read : List ℕ → ℕ → Value
four_read s p = value_of ((two_read s p).value + 65536 * (two_read s (two_read s p).at).value) (two_read s (two_read s p).at).at

unfoldable pub eight_read : List ℕ → ℕ → LongValue
eight_read s p = record {
  value = (four_read s p).value + 4294967296 * (four_read s (four_read s p).at).value;
  at = (four_read s (four_read s p).at).at;
}

-- a word: a byte below 254; or 254 and two bytes; or 255 and four
unfoldable pub word_read : List ℕ → ℕ → Value
word_read s p =
    cond (nat_lt (byte_read s p).value 254) (byte_read s p)
    (cond ((byte_read s p).value == 254) (two_read s (byte_read s p).at) (four_read s (byte_read s p).at))

-- the place after n words
unfoldable pub after_words : List ℕ → ℕ → ℕ → ℕ
after_words s p zero = p
after_words s p (suc n) = (word_read s (after_words s p n)).at

-- word k of those that stand from place p on
unfoldable pub word_number : List ℕ → ℕ → ℕ → ℕ
word_number s p k = (word_read s (after_words s p k)).value

-- a list: its length in a byte, then its words; a longer one than the room is not read
unfoldable pub extent_at : List ℕ → ℕ → ℕ → Extent
extent_at s p room =
    cond (nat_le (byte_read s p).value room)
    (record { count = (byte_read s p).value; at = after_words s (byte_read s p).at (byte_read s p).value })
    (record { count = 0; at = lost })

-- the words of the list
unfoldable pub list_at : List ℕ → ℕ → ℕ → List ℕ
list_at s p room = tab (word_number s (byte_read s p).at) (extent_at s p room).count
