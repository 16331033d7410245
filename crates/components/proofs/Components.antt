-- The classes of the roots of an order are the components, in the order of their roots. Assumes nothing.
use mathlib.Core.Path.{◌≡◌, sym, subst}
use mathlib.Core.Bool.{Bool, true}
use mathlib.Core.List.{List, []}
use Prim.Native.Nat.{ℕ, ◌<◌}
use native.Mathlib.Omega.{arith}
use lib.ListN.{length, get_or}
use borrow.Author.Tests.{lt-ltb, ltb-true}
use Rattle.lists.specs.Lists.{memb, Ascending, is_below}
use Rattle.lists.specs.Inner.{Below}
use Rattle.lists.proofs.Maps.{map-length}
use Rattle.lists.proofs.Memb.{memb-getD, memb-at}
use Rattle.components.specs.Classes.{class, roots_of, classes}
use Rattle.components.specs.Components.{First, Components}
use Rattle.components.proofs.Roots.{Equivalence}
use Rattle.components.proofs.Ranked.{Ranked, roots-led}
use Rattle.components.proofs.Members.{chosen-passes, chosen-has, chosen-ascends, get_d_map, root_in, class-some, class-only, class-joined, class-whole}

-- R is P, of the numbers below n
module _ {P : ℕ → ℕ → Bool} {n : ℕ} (q : Equivalence P n) (order : List ℕ) (b : Below n order) (all : (v : ℕ) → v < n → memb v order ≡ true)
    (R : ℕ → ℕ → Type 0) (there : (i j : ℕ) → i < n → j < n → P i j ≡ true → R i j) (back : (i j : ℕ) → i < n → j < n → R i j → P i j ≡ true)
    (Before : ℕ → ℕ → Type 0) (ranked : Ranked Before order) where
  abbrev root : ℕ → ℕ
  root k = get_or (roots_of P order) k 0

  long : length (classes P n order) ≡ length (roots_of P order)
  unfolding classes
  long = map-length (class P n) (roots_of P order)

  module _ (k : ℕ) (l : k < length (classes P n order)) where
    rooted-at : k < length (roots_of P order)
    rooted-at = rw long at l

    at : get_or (classes P n order) k [] ≡ class P n (root k)
    unfolding classes
    at = get_d_map (class P n) (roots_of P order) k 0 [] rooted-at

    below : root k < n
    below = root_in q order b k rooted-at

    -- a member is joined with the root
    joined : (x : ℕ) → memb x (get_or (classes P n order) k []) ≡ true → (x < n) × (P (root k) x ≡ true)
    joined x e = chosen-passes (P (root k)) n x (rw at at e)

    member : (x : ℕ) → x < n → P (root k) x ≡ true → memb x (get_or (classes P n order) k []) ≡ true
    member x lx p = rw at (chosen-has (P (root k)) n x lx p)

    root-member : memb (root k) (get_or (classes P n order) k []) ≡ true
    root-member = member (root k) below (q.alike (root k) below)

    root-first : First Before (get_or (classes P n order) k []) (root k)
    root-first = record {
      member = root-member;
      before = λ y e ne.
          let j = joined y e in
          (roots-led q Before order b ranked).first (root k) y (memb-getD (roots_of P order) k rooted-at) (all y j.0) j.1 ne;
    }

  pub classes-components : Components (is_below n) R Before (classes P n order)
  classes-components = record {
    some = λ x e.
        let l : x < n = ltb-true x n e in
        let k = class-some q order b all x l in
        let lk : k.0 < length (classes P n order) = rw long k.1 in
        (k.0, lk, member k.0 lk x l k.2);
    only = λ j k x lj lk mj mk.
        let u = joined j lj x mj in
        class-only q order b j k x (rooted-at j lj) (rooted-at k lk) u.0 u.1 (joined k lk x mk).1;
    alive = λ k x l m. lt-ltb x n (joined k l x m).0;
    related = λ k x y l mx my.
        let u = joined k l x mx in
        let v = joined k l y my in
        there x y u.0 v.0 (class-joined q order b k x y (rooted-at k l) u.0 v.0 u.1 v.1);
    whole = λ k x y l mx e r.
        let u = joined k l x mx in
        let ly : y < n = ltb-true y n e in
        member k l y ly (class-whole q order b k x y (rooted-at k l) u.0 ly u.1 (back x y u.0 ly r));
    inhabited = λ k l. let i = memb-at (root k) (get_or (classes P n order) k []) (root-member k l) in omega (arith, i.1);
    sorted = λ k l. subst Ascending (sym (at k l)) (chosen-ascends (P (root k)) n);
    ordered = λ j k l lk.
        let lj : j < length (classes P n order) = omega arith in
        record {
          one = root j;
          other = root k;
          one-first = root-first j lj;
          other-first = root-first k lk;
          before = (roots-led q Before order b ranked).ranked j k l (rooted-at k lk);
        };
  }
