-- A test of one thing that is a test of another, and a test of each row that is one of them all.
use Rattle.std.proofs.Common.{◌≡◌, ℕ, ◌<◌, Bool, true, false, MatchBool, List, [], ◌∷◌, length, Option, arith}
use Rattle.std.specs.Fn.{Called}
use Rattle.std.specs.Iterator.{YieldsThen}
use Rattle.std.specs.List.{AllByRecursion, AllWithin, FoldsTo, HoldsAt}
use Rattle.std.specs.Option.{MatchOption}
use Rattle.std.proofs.lemmas.Iterator.{YieldsList, cases_from_all}
use Rattle.std.proofs.lemmas.List.Elements.{All-from_recursion, recursion_from_All}
use denote.Param.Members.{Mut}

pub when_like : {P Q : Type 0} (b : Bool) → (P → Q) → (Q → P) → MatchBool b P (P → ⊥) → MatchBool b Q (Q → ⊥)
when_like true f g h = f h
when_like false f g h = λ q. h (g q)

pub when_through : {P Q R : Type 0} (b : Bool) → (P → Q) → ((P → ⊥) → R → ⊥) → MatchBool b P (P → ⊥) → MatchBool b Q (R → ⊥)
when_through true f g h = f h
when_through false f g h = g h

-- what `cases_from_all` says, where a test tells of a row whether it has P
pub each : {B : Type 0} (P : B → Type 0) (xs : List B) (r : Bool) → MatchBool r (AllWithin P xs 0 (length xs)) ((k : ℕ) × (k < length xs) × HoldsAt (λ x. P x → ⊥) xs k) → MatchBool r (AllByRecursion P xs) (AllByRecursion P xs → ⊥)
each P xs true h = recursion_from_All P xs (λ k d l. h k d (omega arith) l)
each P [] false h = λ a. absurd (let l = h.1 in omega arith)
each P (x ∷ xs) false h = λ a. h.2 x (All-from_recursion P (x ∷ xs) a h.0 x h.1)

-- `all` over rows, where its closure is a test of P
pub all_tells : {S A B F : Type 0} {steps : S → Option A → S → Type 0} {v : A → B} {g : Mut F (A × Unit {0}) Bool} {s : S} (xs : List B) (P : B → Type 0) (u : S) (f : F) (r : Bool) → (zs : List A) × (o : Option A) × (j : F) × YieldsThen steps s zs o u × FoldsTo (λ p x q. Called g p (x, tt) true q) f zs j × MatchOption o (r ≡ true) (λ x. (r ≡ false) × ((h : F) × Called g j (x, tt) false h)) → YieldsList steps v s xs → ((x : A) (b : Bool) (q : F) → Called g f (x, tt) b q → (q ≡ f) × MatchBool b (P (v x)) (P (v x) → ⊥)) → MatchBool r (AllByRecursion P xs) (AllByRecursion P xs → ⊥)
all_tells xs P u f r ran from k = each P xs r (cases_from_all u f r P (λ x. P x → ⊥) ran from (λ x q c. k x true q c) (λ x q c. (k x false q c).1))
