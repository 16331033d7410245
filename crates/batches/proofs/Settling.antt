-- From what the calls promise to what is said of one line. Assumes nothing.
use Rattle.std.specs.Prelude.{Ok, Err}
use mathlib.Core.Path.{◌≡◌, refl, sym, ap, ◌∙◌}
use mathlib.Core.Bool.{Bool, true, false}
use mathlib.Core.List.{List, [], ◌∷◌}
use Prim.Native.Nat.{ℕ, ◌≤◌, ◌<◌}
use native.Mathlib.Omega.{arith}
use lib.ListN.{length, take, drop, length-drop, length-take, length-append}
use lib.Seq.{take-append_seam}
use borrow.Author.Tests.{eq-eqb, ne_eqb, lt-ltb, le-ltb}
use Rattle.lists.specs.Lists.{over}
use Rattle.layout.specs.Answers.{Answer}
use Rattle.layout.specs.declared.Refusal.TheVariants.{NoRoom}
use Rattle.layout.specs.Answers.{number, detail, Result, result_of, on_formed}
use Rattle.desk.specs.Desk.{Desk, desk_of}
use Rattle.desk.specs.States.{all_waiting}
use Rattle.wording.specs.Pages.{Page, page, write}
use Rattle.commands.specs.declared.Command.{Command}
use Rattle.commands.specs.declared.Parsed.{Parsed}
use Rattle.commands.specs.Commands.{command_on, numbers_on, most_numbers, named, words_by, Parsing}
use Rattle.commands.specs.Words.{leading}
use Rattle.changes.specs.Changes.{Told, told}
use Rattle.messages.specs.Messages.{refusal_text}
use Rattle.misuses.specs.Misuses.{misuse_text}
use Rattle.closed_walk.specs.Named.{closed_walk_result}
use Rattle.command_sheets.specs.declared.Manner.{Manner}
use Rattle.command_sheets.specs.Commanded.{list_in, command_told, is_misused}
use Rattle.batches.specs.declared.Ending.TheVariants.{Done, Refused, Misused}
use Rattle.batches.specs.Batches.{Said, said, walk_on, refused, settled, Ended, ended, answered, commanded, line_end}

-- ---- the closed walk

pub no_walk : (number : ℕ) (ws lent : List ℕ) → (number ≡ 9 → ⊥) → take 0 lent ≡ walk_on number ws lent
unfolding walk_on
no_walk number ws lent ne = rw (ne_eqb number 9 ne)

pub a-walk : (number : ℕ) (ws lent exit : List ℕ) (a : Answer) (n : ℕ) → number ≡ 9 → result_of a exit ≡ on_formed ws lent (closed_walk_result lent) → n ≡ detail a → take n exit ≡ walk_on number ws lent
unfolding walk_on
a-walk number ws lent exit a n h e m = rw (eq-eqb number 9 h, m) (ap (λ (x : Result). take x.detail x.lent) e)

-- ---- a refusal

pub refused-with : (p x : Page) (single : Bool) (i m k : ℕ) (c : Command) (a : Answer) (ns list name ws w w₀ f : List ℕ)
    → list ≡ list_in c ns → f ≡ take k w → take k w ≡ walk_on m ws w₀ → m ≡ number a
    → x ≡ write (refusal_text single i c list name f (number a) (detail a)) p
    → x ≡ write (refusal_text single i c (list_in c ns) name (walk_on (number a) ws w₀) (number a) (detail a)) p
refused-with p x single i m k c a ns list name ws w w₀ f l g h n e = e ∙ rw (l, g, h, n)

-- in what follows a line is the i-th, and says the command c with the numbers ns; ws is the table
module _ (how : Manner) (name : List ℕ) (i : ℕ) (c : Command) (ns ws : List ℕ) where
  pub refused-said : (a : Answer) (b e : List ℕ) (n : ℕ)
      → page e n ≡ write (refusal_text how.single i c (list_in c ns) name (walk_on (number a) ws all_waiting) (number a) (detail a)) (page b 0)
      → said Refused (page e n) ≡ refused how name i c ns ws (result_of a b)
  unfolding refused
  refused-said a b e n h = ap (said Refused) h

  -- ---- done or refused

  pub settled-done : (b : List ℕ) (next : ℕ) → next < length b → said Done (page b next) ≡ settled how name i c ns ws (result_of (Ok next) b)
  unfolding settled
  settled-done b next h = rw (lt-ltb next (length b) h)

  pub settled-full : (b : List ℕ) (next : ℕ) (x : Said) → length b ≤ next → x ≡ refused how name i c ns ws (result_of (Err (NoRoom 0)) b) → x ≡ settled how name i c ns ws (result_of (Ok next) b)
  unfolding settled
  settled-full b next x h e = e ∙ rw (le-ltb next (length b) h)

  pub settled-refused : (a : Answer) (b : List ℕ) (m : ℕ) (x : Said) → m ≡ number a → (m ≡ 0 → ⊥) → x ≡ refused how name i c ns ws (result_of a b) → x ≡ settled how name i c ns ws (result_of a b)
  unfolding settled
  settled-refused a b m x e ne h = h ∙ rw (ne_eqb (number a) 0 (λ z. ne (e ∙ z)))

  -- a done answer, by its detail
  pub settled-by : (a : Answer) (b : List ℕ) (m next : ℕ) (x : Said) → m ≡ number a → m ≡ 0 → next ≡ detail a → x ≡ settled how name i c ns ws (result_of (Ok next) b) → x ≡ settled how name i c ns ws (result_of a b)
  settled-by a b m next x e z d h =
      let same : result_of (Ok (detail a)) b ≡ result_of a b =
      ap (λ (k : ℕ). record { number = k; detail = detail a; lent = b }) (sym z ∙ e) in
      h ∙ ap (λ (k : ℕ). settled how name i c ns ws (result_of (Ok k) b)) d ∙ ap (settled how name i c ns ws) same

module _ (how : Manner) (name : List ℕ) (i : ℕ) (line : List ℕ) (c : Command) (ns : List ℕ) (d : Desk) (p : Page) (m : Bool) (f : m ≡ is_misused how i c) where
  pub line-misused : (e : List ℕ) (n : ℕ) → m ≡ true → page e n ≡ write (misuse_text how.single i c line) (page p.bytes 0)
      → ended d (said Misused (page e n)) ≡ commanded how name i line c ns d p
  unfolding commanded
  line-misused e n h q = rw (← f, h) (ap (λ (x : Page). ended d (said Misused x)) q)

  pub line-settled : (a : Answer) (ts ss b : List ℕ) (x : Said) → m ≡ false → told a (desk_of ts ss) b ≡ command_told how name c ns d p
      → x ≡ settled how name i c ns ts (result_of a b) → ended (desk_of ts ss) x ≡ commanded how name i line c ns d p
  unfolding commanded
  line-settled a ts ss b x h e q =
      rw (← f, h)
      (ap (ended (desk_of ts ss)) q
      ∙ ap (λ (y : Told). ended y.desk (settled how name i c ns y.desk.table (answered y))) e)

-- ---- a line

pub no_line : (how : Manner) (name : List ℕ) (i : ℕ) (d : Desk) (p : Page) (line : List ℕ) → length line ≡ 0 → ended d (said Done p) ≡ line_end how name i line d p
unfolding line_end
no_line how name i d p [] h = refl
no_line how name i d p (b ∷ bs) h = absurd (omega (arith, h))

-- the numbers that were read stand at the front
pub numbers-read : (line lent exit : List ℕ) (r : Parsed) → Parsing line lent r exit → take r.count exit ≡ numbers_on line
unfolding over
numbers-read line lent exit r q = rw (q.count, q.numbers) (take-append_seam (numbers_on line) (drop (length (numbers_on line)) lent))

pub some-line : (how : Manner) (name : List ℕ) (i : ℕ) (d : Desk) (p : Page) (x : Ended) (line lent exit f : List ℕ) (r : Parsed)
    → (length line ≡ 0 → ⊥) → Parsing line lent r exit → f ≡ take r.count exit
    → x ≡ commanded how name i line r.command f d p → x ≡ line_end how name i line d p
unfolding line_end
some-line how name i d p x [] lent exit f r ne q g h = absurd (ne refl)
some-line how name i d p x (b ∷ bs) lent exit f r ne q g h =
    h ∙ rw (q.command, g, numbers-read (b ∷ bs) lent exit r q)

-- no more numbers than a line may have
few-numbers : (line : List ℕ) → length (numbers_on line) ≤ most_numbers
unfolding numbers_on
few-numbers line =
    let l : List ℕ = leading (words_by line (named line)) in
    omega (arith, length-take most_numbers l)

-- as many words as before
pub read_length : (line lent exit : List ℕ) (r : Parsed) → Parsing line lent r exit → length lent ≡ most_numbers → most_numbers ≡ length exit
unfolding over
read_length line lent exit r q h =
    let few : length (numbers_on line) ≤ most_numbers = few-numbers line in
    sym (ap length q.numbers
    ∙ length-append (numbers_on line) (drop (length (numbers_on line)) lent)
    ∙ omega (arith, few, h, length-drop (length (numbers_on line)) lent))
