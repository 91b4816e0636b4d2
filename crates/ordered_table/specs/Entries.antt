-- Lists of entries. `e` tells whether two keys are the same.
use Rattle.std.specs.Prelude.{◌≡◌, Bool, false, cond, List, [], ◌∷◌, ◌++◌, map, Some, None, Option}
use Rattle.rules.specs.Lists.{any}
use Rattle.ordered_table.specs.declared.Entry.{Entry}

-- a value under a key: a key that is there keeps its position and takes the value, a new one goes to the end
abbrev pub put : {K V : Type 0} → (K → K → Bool) → List (Entry K V) → K → V → List (Entry K V)
put e [] k v = record { key = k; value = v } ∷ []
put e (x ∷ xs) k v = cond (e x.key k) (record { key = x.key; value = v } ∷ xs) (x ∷ put e xs k v)

-- the value under a key
abbrev pub look : {K V : Type 0} → (K → K → Bool) → List (Entry K V) → K → Option V
look e [] k = None
look e (x ∷ xs) k = cond (e x.key k) (Some x.value) (look e xs k)

-- the keys, in order
abbrev pub keys : {K V : Type 0} → List (Entry K V) → List K
keys xs = map (λ x. x.key) xs

-- is the key one of these?
abbrev pub among : {K : Type 0} → (K → K → Bool) → List K → K → Bool
among e ks k = any (λ q. e q k) ks

-- Runs of insertions.

-- the entries after these are inserted in turn
abbrev pub put_all : {K V : Type 0} → (K → K → Bool) → List (Entry K V) → List (Entry K V) → List (Entry K V)
put_all e xs [] = xs
put_all e xs (p ∷ ps) = put_all e (put e xs p.key p.value) ps

-- the keys that are the same as none before them; `seen` came before them all
abbrev pub firsts : {K : Type 0} → (K → K → Bool) → List K → List K → List K
firsts e seen [] = []
firsts e seen (k ∷ ks) = cond (among e seen k) (firsts e seen ks) (k ∷ firsts e (seen ++ (k ∷ [])) ks)

-- the value that was given last under a key; `o` is what it had before
abbrev pub given_last : {K V : Type 0} → (K → K → Bool) → Option V → List (Entry K V) → K → Option V
given_last e o [] q = o
given_last e o (p ∷ ps) q = given_last e (cond (e p.key q) (Some p.value) o) ps q

-- no two keys are the same
abbrev pub Distinct : {K : Type 0} → (K → K → Bool) → List K → Type 0
Distinct e [] = Unit {0}
Distinct e (k ∷ ks) = (any (e k) ks ≡ false) × Distinct e ks

-- The laws of the table.

-- a key is found with the value that it took last, and every other key as before
abbrev pub FindsLatest : (K V : Type 0) → (K → K → Bool) → Type 0
FindsLatest K V e = (xs : List (Entry K V)) (k : K) (v : V) → (look e (put e xs k v) k ≡ Some v) × ((q : K) → e k q ≡ false → look e (put e xs k v) q ≡ look e xs q)

-- distinct keys stay distinct
abbrev pub StaysDistinct : (K V : Type 0) → (K → K → Bool) → Type 0
StaysDistinct K V e = (xs : List (Entry K V)) (k : K) (v : V) → Distinct e (keys xs) → Distinct e (keys (put e xs k v))

-- After insertions into an empty table the keys are distinct and in the order of their first insertion, and each has the value that
-- was given last.
pub record InsertedInOrder {K V : Type 0} (e : K → K → Bool) (ps : List (Entry K V)) : Type 0 where
  pub order : keys (put_all e [] ps) ≡ firsts e [] (keys ps)
  pub values : (q : K) → look e (put_all e [] ps) q ≡ given_last e None ps q
  pub distinct : Distinct e (keys (put_all e [] ps))

pub record Ordered (K V : Type 0) (e : K → K → Bool) : Type 0 where
  pub finds : FindsLatest K V e
  pub stays : StaysDistinct K V e
  pub runs : (ps : List (Entry K V)) → InsertedInOrder e ps
