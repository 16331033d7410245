-- Laws of causes: the line among them, its numbers, and a closed walk. Assumes nothing.
use mathlib.Core.Path.{◌≡◌, refl}
use mathlib.Core.Bool.{Bool, true, false}
use mathlib.Core.List.{List, [], ◌∷◌, ◌++◌}
use Prim.Native.Nat.{ℕ, ◌+◌, ◌-◌, ◌/◌, ◌%◌}
use native.Mathlib.Nat.{mod-add-mod}
use native.Mathlib.Numerals.{add-one}
use native.Mathlib.Omega.{arith}
use lib.ListN.{length, take, drop}
use borrow.Author.Tests.{eq-eqb, ne_eqb}
use Rattle.lists.specs.Lists.{word_at}
use Rattle.wording.specs.Texts.{text}
use Rattle.wording.specs.Pages.{Page, page, write}
use Rattle.wording.specs.Forms.{filled, joined}
use Rattle.wording.proofs.Writing.{nothing_written, then}
use Rattle.text_lines.specs.Lines.{line_at, Ends, Stands}
use Rattle.text_lines.proofs.Lines.{line-part}
use Rattle.commands.specs.declared.Command.{Command}
use Rattle.commands.specs.declared.Command.TheVariants.{Init, Ask, View, Make, Help, HelpOn, Version, Unknown, NotNumber, WrongCount, TooMany}
use Rattle.commands.specs.declared.Change.{Change}
use Rattle.commands.specs.declared.Change.TheVariants.{Tube, Transfer, Relist, WithdrawTubes, WithdrawTransfers, Merge, Review, Release}
use Rattle.causes.specs.Causes.{causes, named, cause, is_change, transfer_tray, cause_number, walk_text, no_order, cause_text}

-- ---- a tray of transfers

pub is-tray : (m : Change) → m ≡ WithdrawTransfers → true ≡ transfer_tray m
unfolding transfer_tray
is-tray m e = rw e

-- any change but that
pub is-no-tray : (m : Change) → (m ≡ WithdrawTransfers → ⊥) → false ≡ transfer_tray m
unfolding transfer_tray
is-no-tray (Tube w) k = refl
is-no-tray (Transfer w) k = refl
is-no-tray (Relist e) k = refl
is-no-tray WithdrawTubes k = refl
is-no-tray WithdrawTransfers k = absurd (k refl)
is-no-tray (Merge v w) k = refl
is-no-tray (Review v) k = refl
is-no-tray Release k = refl

module _ (p : Change → Bool) (c : Command) where
  pub a-change : (m : Change) (b : Bool) → c ≡ Make m → b ≡ p m → b ≡ is_change p c
  unfolding is_change
  a-change m b e f = rw e f

-- any command but a change
pub no_change : (p : Change → Bool) (c : Command) → ((m : Change) → c ≡ Make m → ⊥) → false ≡ is_change p c
unfolding is_change
no_change p Init k = refl
no_change p (Ask q) k = refl
no_change p (View l) k = refl
no_change p (Make m) k = absurd (k m refl)
no_change p Help k = refl
no_change p (HelpOn n) k = refl
no_change p Version k = refl
no_change p Unknown k = refl
no_change p (NotNumber i) k = refl
no_change p (WrongCount n) k = refl
no_change p TooMany k = refl

-- ---- the line of a refusal

module _ (c : Command) (count number detail : ℕ) where
  pub tray-line : (b : Bool) → b ≡ is_change transfer_tray c → number ≡ 15 → b ≡ true → 21 ≡ cause_number c count number detail
  unfolding cause_number
  tray-line b e h t = rw (eq-eqb number 15 h, ← e, t)

  pub tube-line : (b : Bool) → b ≡ is_change transfer_tray c → number ≡ 15 → b ≡ false → 15 ≡ cause_number c count number detail
  unfolding cause_number
  tube-line b e h t = rw (eq-eqb number 15 h, ← e, t)

  pub short-line : (number ≡ 15 → ⊥) → number ≡ 19 → detail ≡ count → 22 ≡ cause_number c count number detail
  unfolding cause_number
  short-line ne h l = rw (ne_eqb number 15 ne, eq-eqb number 19 h, eq-eqb detail count l)

  pub order-line : (number ≡ 15 → ⊥) → number ≡ 19 → (detail ≡ count → ⊥) → 19 ≡ cause_number c count number detail
  unfolding cause_number
  order-line ne h l = rw (ne_eqb number 15 ne, eq-eqb number 19 h, ne_eqb detail count l)

  pub own_line : (number ≡ 15 → ⊥) → (number ≡ 19 → ⊥) → number ≡ cause_number c count number detail
  unfolding cause_number
  own_line ne nf = rw (ne_eqb number 15 ne, ne_eqb number 19 nf)

-- ---- what is written

pub named-are : (detail w : ℕ) (list : List ℕ) → w ≡ word_at list detail
    → detail % 4294967296 ∷ detail / 4294967296 ∷ w ∷ (detail % 4294967296 + 1) % 4294967296 ∷ [] ≡ named detail list
unfolding named
named-are detail w list e = rw (e, mod-add-mod, add-one detail)

module _ (p e : Page) where
  pub form_of : (table : List ℕ) (k from end : ℕ) (ns name : List ℕ) → Stands table k from → Ends table from end
      → e ≡ write (filled (take (end - from) (drop from table)) ns name) p → e ≡ write (filled (line_at k table) ns name) p
  form_of table k from end ns name s l w = rw (line-part table k from end s l) at w

  pub cause-put : (k detail : ℕ) (list name ns : List ℕ) → ns ≡ named detail list → e ≡ write (filled (line_at k causes) ns name) p
      → e ≡ write (cause k detail list name) p
  unfolding cause
  cause-put k detail list name ns n w = rw n at w

  pub walk-one : (walk : List ℕ) → length walk ≡ 1 → e ≡ write (filled (text ": tube A leads back to itself") walk []) p → e ≡ write (walk_text walk) p
  unfolding walk_text
  walk-one [] h w = absurd (omega arith)
  walk-one (v ∷ []) h w = w
  walk-one (v ∷ u ∷ vs) h w = absurd (omega arith)

  module _ (c : Command) (list name walk : List ℕ) (number detail : ℕ) where
    pub why-walk : number ≡ 9 → e ≡ write (no_order walk) p → e ≡ write (cause_text c list name walk number detail) p
    unfolding cause_text
    why-walk h w = rw (eq-eqb number 9 h) w

    pub why-cause : (k : ℕ) → (number ≡ 9 → ⊥) → k ≡ cause_number c (length list) number detail → e ≡ write (cause k detail list name) p
        → e ≡ write (cause_text c list name walk number detail) p
    unfolding cause_text
    why-cause k ne h w = rw (ne_eqb number 9 ne, ← h) w

-- ---- a closed walk

pub walk_none : (walk b : List ℕ) (at : ℕ) → length walk ≡ 0 → page b at ≡ write (walk_text walk) (page b at)
unfolding walk_text
walk_none [] b at h = nothing_written b at
walk_none (v ∷ vs) b at h = absurd (omega arith)

long : (walk : List ℕ) → (length walk ≡ 0 → ⊥) → (length walk ≡ 1 → ⊥)
    → walk_text walk ≡ text ": tubes " ++ (joined walk ++ filled (text " lead back to A") walk [])
unfolding walk_text
long [] ne nf = absurd (ne refl)
long (v ∷ []) ne nf = absurd (nf refl)
long (v ∷ w ∷ vs) ne nf = refl

module _ (p : Page) (walk b c d : List ℕ) (r q s : ℕ) where
  pub walk_more : (length walk ≡ 0 → ⊥) → (length walk ≡ 1 → ⊥) → page b r ≡ write (text ": tubes ") p → page c q ≡ write (joined walk) (page b r)
      → page d s ≡ write (filled (text " lead back to A") walk []) (page c q) → page d s ≡ write (walk_text walk) p
  walk_more ne nf e f g = rw (long walk ne nf) (then p b d (text ": tubes ") _ r s e (then (page b r) c d (joined walk) _ q s f g))

  pub order-put : page b r ≡ write (text "no order") p → page c q ≡ write (walk_text walk) (page b r) → page d s ≡ write (text " (9)") (page c q)
      → page d s ≡ write (no_order walk) p
  unfolding no_order
  order-put e f g = then p b d (text "no order") _ r s e (then (page b r) c d (walk_text walk) (text " (9)") q s f g)
