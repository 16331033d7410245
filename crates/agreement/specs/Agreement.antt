-- What it is for a promise to determine a call's result. Assumes nothing.
use Rattle.std.specs.Prelude.{◌≡◌, List, ℕ}
use seplogic.Ra.Ura.{Ura}
use base.Logic.{emp}
use contract.Lifetimes.{Lfts}
use contract.Monad.{fact}
use borrow.Fn.Kinds.{ParamKind, ResultKind, Dens, res_t, ended_of, Out}
use denote.Triple.Entry.{Args, Res}
use denote.Triple.Clauses.{Ended, AtExit, Clauses}

-- any two results satisfying the promise on the same arguments agree: in the answer, and in what is lent, at exit
abbrev pub AgreesOn : {A : Type 0} (n : ℕ) (ps : List (ParamKind n)) (r : ResultKind n) → Out n ps r → ((κs : Lfts n) → AtExit (ended_of n ps r) κs → A) → Type 0
AgreesOn n ps r Post lent =
    (κs : Lfts n) (args : Dens κs ps) (a b : (res_t r κs).Denot) (x y : AtExit (ended_of n ps r) κs) →
    Post κs args a x → Post κs args b y → (a ≡ b) × (lent κs x ≡ lent κs y)

-- what is lent being the words of the slice that the call may write
abbrev pub Agrees : (n : ℕ) (ps : List (ParamKind n)) (r : ResultKind n) → Out n ps r → ((κs : Lfts n) → AtExit (ended_of n ps r) κs → List ℕ) → Type 0
Agrees n ps r Post lent = AgreesOn {A = List ℕ} n ps r Post lent

-- where the call may be made, any two results satisfying the promise agree in what is given: a part of the answer and of the words at exit
abbrev pub AgreesIn : {A : Type 0} (n : ℕ) (ps : List (ParamKind n)) (r : ResultKind n) → ((κs : Lfts n) → Dens κs ps → Type 0) → Out n ps r
    → ((κs : Lfts n) → Dens κs ps → (res_t r κs).Denot → AtExit (ended_of n ps r) κs → A) → Type 0
AgreesIn n ps r Pre Post given =
    (κs : Lfts n) (args : Dens κs ps) (a b : (res_t r κs).Denot) (x y : AtExit (ended_of n ps r) κs) →
    Pre κs args → Post κs args a x → Post κs args b y → given κs args a x ≡ given κs args b y

-- ---- the check makes no reading of the contract of a function that takes a slice of structs: its promise is written out, and shown to be the contract

-- a promise: of the arguments, the answer and the parameters at exit
abbrev pub Promise : Ended → Type 1
Promise T = (κs : Lfts T.signature.lifetimes) → Args T.signature κs → Res T.signature κs → AtExit T κs → Type 0

-- the contract asks nothing, and ensures just that promise
abbrev pub IsContract : {M : Type 1} (𝓤 : Ura M) (T : Ended) → Clauses 𝓤 T → Promise T → Type 2
IsContract 𝓤 T clauses promise =
    (κs : Lfts T.signature.lifetimes) (args : Args T.signature κs) →
    clauses κs args ≡ record { ghost = Unit {0}; requires = λ _. emp 𝓤; ensures = λ _ r x. fact 𝓤 (promise κs args r x) }

-- any two results satisfying the promise on the same arguments agree, as above
abbrev pub AgreesBy : {A : Type 0} (T : Ended) → Promise T → ((κs : Lfts T.signature.lifetimes) → AtExit T κs → A) → Type 0
AgreesBy T promise lent =
    (κs : Lfts T.signature.lifetimes) (args : Args T.signature κs) (a b : Res T.signature κs) (x y : AtExit T κs) →
    promise κs args a x → promise κs args b y → (a ≡ b) × (lent κs x ≡ lent κs y)
