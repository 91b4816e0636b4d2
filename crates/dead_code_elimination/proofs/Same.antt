-- Nothing changes: lists that stay, and the store with them.
use Rattle.std.proofs.Common.{◌≡◌, ℕ, zero, suc, List, [], ◌∷◌, get_or, refl, ap}
use Rattle.rules.specs.Lists.{changed}
use Rattle.rules.specs.Views.{BlockV, FunctionV, Hir, function_at, no_function, with_functions, with_blocks}
use Rattle.rules.specs.Eliminations.{eliminated, keep, lists, listing}
use Rattle.hir.specs.declared.rows.Store.{Store}
use Rattle.hir.specs.Tables.{Tables, Held}
use Rattle.dead_code_elimination.specs.Elimination.{OnlyLists}

listing_lists : (bs : List BlockV) → listing bs (lists bs) ≡ bs
listing_lists [] = refl
listing_lists (b ∷ bs) = ap (λ (l : List BlockV). b ∷ l) (listing_lists bs)

-- an element changed into itself
pub changed_same : {A : Type 0} (F : A → A) (f : ℕ) (xs : List A) (d : A) → F (get_or xs f d) ≡ get_or xs f d → changed F f xs ≡ xs
changed_same F f [] d h = refl
changed_same F zero (x ∷ xs) d h = ap (λ y. y ∷ xs) h
changed_same F (suc f) (x ∷ xs) d h = ap (λ l. x ∷ l) (changed_same F f xs d h)

pub eliminated_keep : (h : Hir) (f : ℕ) → eliminated keep h f ≡ h
eliminated_keep h f = ap (with_functions h) (changed_same (λ (g : FunctionV). with_blocks g (listing g.blocks (keep h f))) f h.functions no_function (ap (with_blocks (function_at h f)) (listing_lists (function_at h f).blocks)))

pub only_same : (t : Tables) (f : ℕ) → OnlyLists t t f
only_same t f = record { counts = refl; text = refl; identifiers = refl; places = refl; instructions = refl; functions = refl; numbers_long = refl; numbers = λ n h. refl; blocks_long = refl; blocks = λ n. refl; other_blocks = λ n h. refl }

pub held_same : (s : Store) → Held s s
held_same s = record { text = refl; identifiers = refl; places = refl; instructions = refl; numbers = refl; blocks = refl; functions = refl; text_length = refl; identifiers_length = refl; places_length = refl; instructions_length = refl; numbers_length = refl; blocks_length = refl; functions_length = refl }
