-- What is recorded of an answer, whether an answer is the recorded one, and how that is counted. Assumes nothing.
use Rattle.std.specs.Prelude.{ℕ, zero, suc, ◌+◌, ◌-◌, ◌*◌, ◌/◌, ◌%◌, ◌^◌, min, Bool, cond, List, [], ◌∷◌, length, ◌==◌, nat_eq, nat_le, nat_lt, slice_index, slice_set}
use Rattle.lists.specs.Tests.{◌and◌, every}
use Rattle.lists.specs.Lists.{counted}
use Rattle.walk.specs.Walk.{xorshift}
use Rattle.replay.specs.declared.Recorded.{Recorded}
use Rattle.replay.specs.declared.Held.{Held}
use Rattle.replay.specs.declared.Rows.{Rows}
use Rattle.replay.specs.declared.Ends.{Ends}
use Rattle.replay.specs.Records.{byte_read, eight_read, word_read, after_words, word_number}

-- ---- the tally

-- one more at place i, high bits dropped; beyond the end nothing
unfoldable pub one_more : ℕ → List ℕ → List ℕ
one_more i tally = slice_set tally i ((slice_index tally i + 1) % 2 ^ 32)

-- an answer of the function of place f is counted in the first half of the tally, and one that differs in the second as well
unfoldable pub counted_in : ℕ → Bool → List ℕ → List ℕ
counted_in f same tally =
    cond (nat_lt f (length tally / 2))
    (cond same (one_more f tally) (one_more (length tally / 2 + f) (one_more f tally)))
    tally

-- the sum of the first n counts, high bits dropped
unfoldable pub total_count : List ℕ → ℕ → ℕ
total_count counts zero = 0
total_count counts (suc n) = (total_count counts n + slice_index counts n) % 2 ^ 32

-- all that were compared: the first half
abbrev pub compared_in : List ℕ → ℕ
compared_in tally = total_count tally (length tally / 2)

-- ---- an answer

-- a recorded answer, and the place after it
abbrev pub recorded : ℕ → ℕ → ℕ → Recorded
recorded number detail at = record { number = number; detail = detail; at = at }

-- a byte below 240 is answer 0 with that detail; another one is 240 more than the answer's number, and the detail follows as a word
unfoldable pub given_at : List ℕ → ℕ → Recorded
given_at s p =
    cond (nat_lt (byte_read s p).value 240)
    (recorded 0 (byte_read s p).value (byte_read s p).at)
    (recorded ((byte_read s p).value - 240) (word_read s (byte_read s p).at).value (word_read s (byte_read s p).at).at)

-- the number and the detail are the recorded ones
unfoldable pub same_reply : ℕ → ℕ → Recorded → Bool
same_reply number detail g = nat_eq number g.number and nat_eq detail g.detail

-- whether what is recorded is what is there, and the place after it
abbrev pub held_as : Bool → ℕ → Held
held_as same at = record { same = same; at = at }

-- an answer without a listing
unfoldable pub answer_at : List ℕ → ℕ → ℕ → ℕ → Held
answer_at s p number detail = held_as (same_reply number detail (given_at s p)) (given_at s p).at

-- what a comparison leaves: the place after what is recorded, and the tally
pub record AfterCount : Type 0 where
  pub at : ℕ
  pub tally : List ℕ

-- a place and a tally
abbrev pub after_count : ℕ → List ℕ → AfterCount
after_count at tally = record { at = at; tally = tally }

-- a comparison for the function of place f, counted
unfoldable pub counted_at : ℕ → Held → List ℕ → AfterCount
counted_at f h tally = after_count h.at (counted_in f h.same tally)

-- ---- sums of words

-- the sum before the first word
abbrev pub sum_start : ℕ
sum_start = 11400714819323198485

-- the sum after one word more: the word is added, high bits dropped, and the sum goes through `xorshift64`
unfoldable pub mixed : ℕ → ℕ → ℕ
mixed sum word = xorshift ((sum + word) % 2 ^ 64)

-- the sum of the first n words; 0 stands past the end
unfoldable pub sum_of : List ℕ → ℕ → ℕ
sum_of ws zero = sum_start
sum_of ws (suc n) = mixed (sum_of ws n) (slice_index ws n)

-- eight bytes are the sum
unfoldable pub summed_at : List ℕ → ℕ → ℕ → Held
summed_at s p sum = held_as ((eight_read s p).value == sum) (eight_read s p).at

-- ---- a listing

-- word k of those recorded from place p on is word k of ws
unfoldable pub same_word : List ℕ → ℕ → List ℕ → ℕ → Bool
same_word s p ws k = word_number s p k == slice_index ws k

-- the n words are the first of ws
unfoldable pub words_at : List ℕ → ℕ → List ℕ → ℕ → Held
words_at s p ws n = held_as (every (same_word s p ws) n) (after_words s p n)

-- n words of a listing, by their sum where there are more than 16
unfoldable pub listed_at : List ℕ → ℕ → List ℕ → ℕ → Held
listed_at s p ws n = cond (nat_lt 16 n) (summed_at s p (sum_of ws (min n (length ws)))) (words_at s p ws n)

-- an answer, and with answer 0 what follows it
unfoldable pub with_answer : List ℕ → ℕ → ℕ → ℕ → Held → Held
with_answer s p number detail h =
    cond ((given_at s p).number == 0)
    (held_as (same_reply number detail (given_at s p) and h.same) h.at)
    (answer_at s p number detail)

-- an answer with a listing: the detail that is recorded with answer 0 is how many words follow
unfoldable pub listing_at : List ℕ → ℕ → ℕ → ℕ → List ℕ → Held
listing_at s p number detail ws =
    with_answer s p number detail (listed_at s (given_at s p).at ws (given_at s p).detail)

-- ---- lists in any order

-- how many members of the list at hand are to come, its sum so far, and the sum of the lists before it
abbrev pub rows_of : ℕ → ℕ → ℕ → Rows
rows_of left row total = record { left = left; row = row; total = total }

-- a list that has all its members is added to the sum of those before it
unfoldable pub closed : Rows → Rows
closed r = cond (r.left == 0) (rows_of 0 sum_start ((r.total + r.row) % 2 ^ 64)) r

-- one word more: the length of a list, or a member of the list at hand
unfoldable pub one_word : Rows → ℕ → Rows
one_word r word = closed (rows_of (cond (r.left == 0) word (r.left - 1)) (mixed r.row word) r.total)

-- after the first n words
unfoldable pub rows_after : List ℕ → ℕ → Rows
rows_after ws zero = rows_of 0 sum_start 0
rows_after ws (suc n) = one_word (rows_after ws n) (slice_index ws n)

-- the lists' own sums, added: of whole lists the total is this, high bits dropped, whatever their order
unfoldable pub own_sums : List (List ℕ) → ℕ
own_sums [] = 0
own_sums (l ∷ ls) = sum_of (counted l) (length (counted l)) + own_sums ls

-- an answer with lists: the detail that is recorded with answer 0 is how many words they have, and their sum follows
unfoldable pub lists_read : List ℕ → ℕ → ℕ → ℕ → List ℕ → Held
lists_read s p number detail ws =
    with_answer s p number detail
    (summed_at s (given_at s p).at (rows_after ws (min (given_at s p).detail (length ws))).total)

-- ---- a path

-- the path's words: the cost's low and high, the count of the entries, and for each entry a vertex and a hyperedge
abbrev pub entries_in : List ℕ → ℕ
entries_in ws = slice_index ws 2

-- answer 0 with all words of n entries
unfoldable pub is_whole : ℕ → ℕ → ℕ → Bool
is_whole number detail n = nat_eq number 0 and nat_eq detail (3 + 2 * n)

-- the cost is the recorded one
unfoldable pub same_cost : Ends → List ℕ → Bool
same_cost e ws = nat_eq (slice_index ws 0) e.low and nat_eq (slice_index ws 1) e.high

-- the first entry is the first vertex, with no hyperedge
unfoldable pub begins : Ends → List ℕ → Bool
begins e ws = nat_eq (slice_index ws 3) e.from and nat_eq (slice_index ws 4) 4294967295

-- the last of n entries is the second vertex; no entry where none is recorded
unfoldable pub same_ends : Ends → ℕ → List ℕ → Bool
same_ends e n ws = cond (n == 0) (e.entries == 0) (begins e ws and nat_eq (slice_index ws (2 * n + 1)) e.to)

-- no more entries than the recorded path has, all words, the same cost, and the right ends
unfoldable pub same_path : ℕ → ℕ → Ends → List ℕ → Bool
same_path number detail e ws =
    nat_le (entries_in ws) e.entries
    and (is_whole number detail (entries_in ws) and (same_cost e ws and same_ends e (entries_in ws) ws))

-- what is recorded of a path from a vertex to a vertex: the detail is the count of its entries, and the cost's low and high word follow
unfoldable pub ends_at : List ℕ → ℕ → ℕ → ℕ → Ends
ends_at s p from to = record {
  from = from;
  to = to;
  low = word_number s (given_at s p).at 0;
  high = word_number s (given_at s p).at 1;
  entries = (given_at s p).detail;
}

-- an answer with a path
unfoldable pub path_at : List ℕ → ℕ → ℕ → ℕ → ℕ → ℕ → List ℕ → Held
path_at s p number detail from to ws =
    cond ((given_at s p).number == 0)
    (held_as (same_path number detail (ends_at s p from to) ws) (after_words s (given_at s p).at 2))
    (answer_at s p number detail)
