-- From the case of a command to what is said of it. Assumes nothing.
use Rattle.std.specs.Prelude.{Ok}
use mathlib.Core.Path.{◌≡◌, refl, sym, ap, ◌∙◌}
use mathlib.Core.Bool.{Bool, true, false, not}
use mathlib.Core.List.{List, [], ◌∷◌}
use Prim.Native.Nat.{ℕ, ◌<◌}
use native.Mathlib.Omega.{arith}
use lib.Dec.{eqb}
use lib.ListN.{length, drop}
use borrow.Author.Tests.{not-true, not-false}
use Rattle.lists.specs.Tests.{◌and◌}
use Rattle.layout.specs.Answers.{Answer}
use Rattle.layout.specs.Answers.{Result, result_of}
use Rattle.desk.specs.Desk.{Desk}
use Rattle.wording.specs.Pages.{Page, page}
use Rattle.saying.specs.Saying.{paged}
use Rattle.commands.specs.declared.Command.{Command}
use Rattle.commands.specs.declared.Command.TheVariants.{Init, Make}
use Rattle.commands.specs.declared.Change.{Change}
use Rattle.changes.specs.Changes.{Told, told, change_told}
use Rattle.command_sheets.specs.declared.Manner.{Manner}
use Rattle.command_sheets.specs.Commanded.{told_of, list_of, list_in, command_told, is_misused}

-- c is the change k, and xs is the list of k
pub list-as : (ns xs : List ℕ) (c k : Change) → c ≡ k → xs ≡ list_of k ns → xs ≡ list_of c ns
list-as ns xs c k e p = p ∙ ap (λ (x : Change). list_of x ns) (sym e)

-- the same of a command
pub list-in-as : (ns xs : List ℕ) (c k : Command) → c ≡ k → xs ≡ list_in k ns → xs ≡ list_in c ns
list-in-as ns xs c k e p = p ∙ ap (λ (x : Command). list_in x ns) (sym e)

pub misused-as : (how : Manner) (i : ℕ) (r : Bool) (c k : Command) → c ≡ k → r ≡ is_misused how i k → r ≡ is_misused how i c
misused-as how i r c k e p = p ∙ ap (λ (x : Command). is_misused how i x) (sym e)

pub told-as : (how : Manner) (name ns : List ℕ) (d : Desk) (p : Page) (x : Told) (c k : Command) → c ≡ k → x ≡ command_told how name k ns d p → x ≡ command_told how name c ns d p
told-as how name ns d p x c k e q = q ∙ ap (λ (y : Command). command_told how name y ns d p) (sym e)

-- a change, with its list
pub make-told : (how : Manner) (name ns list : List ℕ) (d : Desk) (p : Page) (x : Told) (c : Command) (m : Change) → c ≡ Make m → list ≡ list_of m ns
    → x ≡ change_told how.plain m list d p → x ≡ command_told how name c ns d p
unfolding command_told
make-told how name ns list d p x c m e l q = q ∙ rw (e, l)

-- a list without a number has none behind the first
pub none-behind : (ns : List ℕ) → length ns < 1 → ns ≡ drop 1 ns
none-behind [] h = refl
none-behind (n ∷ ns) h = absurd (omega (arith, h))

-- the file is not made, or the line is the first
pub not_made : (how : Manner) (i : ℕ) → not how.makes ≡ true → false ≡ (how.makes and eqb i 1)
unfolding ◌and◌
not_made how i h = rw (not-true how.makes h)

pub made : (how : Manner) (i : ℕ) (r : Bool) → not how.makes ≡ false → r ≡ eqb i 1 → r ≡ (how.makes and eqb i 1)
unfolding ◌and◌
made how i r h e = e ∙ rw (not-false how.makes h)

-- `init` is misused where it does not stand first for a file that is made
pub init-misused : (how : Manner) (i : ℕ) (b : Bool) (c : Command) → c ≡ Init → b ≡ (how.makes and eqb i 1) → not b ≡ is_misused how i c
unfolding is_misused
init-misused how i b c e f = ap not f ∙ sym (ap (λ (x : Command). is_misused how i x) e)

-- ---- what is told of a call that leaves the desk as it was

pub said-told : (d : Desk) (a : Answer) (b : List ℕ) (x : Result) → result_of a b ≡ x → told a d b ≡ told_of d x
said-told d a b x e = ap (told_of d) e

pub page-told : (d : Desk) (b : List ℕ) (r : ℕ) (p : Page) → page b r ≡ p → told (Ok r) d b ≡ told_of d (paged p)
page-told d b r p e = ap (λ (x : Page). told_of d (paged x)) e
