-- The first numbers of a line; the first fault of what was read, or what it asks for; help. Assumes nothing.
use Rattle.std.specs.Prelude.{Option, Some, None}
use mathlib.Core.Path.{◌≡◌, refl, sym, ap, ◌∙◌}
use mathlib.Core.Bool.{Bool, true, false, not}
use mathlib.Core.List.{List, [], ◌∷◌}
use Prim.Native.Nat.{ℕ, ◌-◌, ◌≤◌, ◌<◌}
use native.Mathlib.Omega.{arith}
use lib.ListN.{length, take, drop, get_or, length-take, get_or-eq_default}
use lib.Seq.{get_or-take}
use borrow.Author.Tests.{not-true, not-false, lt-ltb, le-ltb, eq-eqb, ne_eqb}
use Rattle.lists.specs.Lists.{same_list, word_at}
use Rattle.lists.proofs.Parts.{part-tail}
use Rattle.edits.specs.Results.{first_passing}
use Rattle.commands.specs.declared.Command.{Command}
use Rattle.commands.specs.declared.Command.TheVariants.{Help, HelpOn, Unknown, NotNumber, WrongCount, TooMany}
use Rattle.command_words.specs.declared.Scanned.{Scanned}
use Rattle.commands.specs.Commands.{most_numbers, names, form_at, takes, help_by, help_on}
use Rattle.parse_line.specs.Lines.{judged_by}

-- ---- the first numbers

module _ (numbers : List ℕ) (count i : ℕ) where
  pub number_in : i < count → get_or numbers i 0 ≡ word_at (take count numbers) i
  number_in h = sym (get_or-take count numbers i 0 h)

  pub number_past : count ≤ i → 0 ≡ word_at (take count numbers) i
  number_past h = sym (get_or-eq_default (take count numbers) 0 {n = i} (omega (arith, length-take count numbers)))

-- ---- what was read

module _ (k : ℕ) (s : Scanned) (numbers : List ℕ) where
  pub judged-fault : (s.fault ≡ 0 → ⊥) → NotNumber s.fault ≡ judged_by k s numbers
  unfolding judged_by
  judged-fault ne = rw (ne_eqb s.fault 0 ne)

  module _ (sound : s.fault ≡ 0) where
    pub judged-many : most_numbers < s.seen → TooMany ≡ judged_by k s numbers
    unfolding judged_by
    judged-many h = rw (eq-eqb s.fault 0 sound, lt-ltb most_numbers s.seen h)

    module _ (h : s.seen ≤ most_numbers) (r : Bool) (e : r ≡ takes k s.seen) where
      pub judged-wrong : not r ≡ true → WrongCount k ≡ judged_by k s numbers
      unfolding judged_by
      judged-wrong q = rw (eq-eqb s.fault 0 sound, le-ltb most_numbers s.seen h, ← e, not-true r q)

      pub judged-asks : (a b c : ℕ) (command : Command) → not r ≡ false → a ≡ word_at (take s.seen numbers) 0 → b ≡ word_at (take s.seen numbers) 1 → c ≡ word_at (take s.seen numbers) 2
          → command ≡ (form_at k).asks a b c → command ≡ judged_by k s numbers
      unfolding judged_by
      judged-asks a b c command q ea eb ec f =
          rw (eq-eqb s.fault 0 sound, le-ltb most_numbers s.seen h, ← e, not-false r q, ← ea, ← eb, ← ec) f

-- ---- help

pub help-alone : (rest : List ℕ) → length rest ≡ 0 → Help ≡ help_on rest
unfolding help_on
help-alone [] e = refl
help-alone (x ∷ xs) e = absurd (omega arith)

help-on : (rest : List ℕ) (f : Option ℕ) → (length rest ≡ 0 → ⊥) → f ≡ first_passing (same_list (drop 1 rest)) names → help_by f ≡ help_on rest
unfolding help_on
help-on [] f ne e = absurd (ne refl)
help-on (x ∷ xs) f ne e = ap help_by e

module _ (rest : List ℕ) (f : Option ℕ) (ne : length rest ≡ 0 → ⊥) (e : f ≡ first_passing (same_list (take (length rest - 1) (drop 1 rest))) names) where
  help-found : help_by f ≡ help_on rest
  help-found = help-on rest f ne (e ∙ ap (λ (l : List ℕ). first_passing (same_list l) names) (part-tail 1 rest))

  pub help-at : (k : ℕ) → f ≡ Some k → HelpOn k ≡ help_on rest
  unfolding help_by
  help-at k q = ap help_by (sym q) ∙ help-found

  pub help-none : f ≡ None → Unknown ≡ help_on rest
  unfolding help_by
  help-none q = ap help_by (sym q) ∙ help-found
