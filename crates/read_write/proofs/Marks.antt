-- Identifiers marked one after another.
use Rattle.std.proofs.Common.{◌≡◌, ℕ, ◌<◌, ◌≤◌, false, ◌⊎◌, List, [], ◌++◌, get_or, refl, ◌∙◌, inl, inr, arith}
use Rattle.std.proofs.lemmas.Bool.{both_ways, cases_Bool}
use Rattle.rules.specs.Lists.{within}
use Rattle.rules.proofs.Membership.{In, Out, in_out, in_cases, in_left, in_right, out_if, out_parts, distinct_left, distinct_right, distinct_apart}
use Rattle.refusals.proofs.Distinct.{distinct_join}
use Rattle.read_write.specs.Written.{Markable, Marked}

-- nothing is marked
pub none : (base low turn : ℕ) (ms : List ℕ) → Marked base low turn [] ms ms
none base low turn ms = record { able = record { once = tt; free = λ x i. absurd (both_ways false refl i) }; marked = λ x i. absurd (both_ways false refl i); others = λ x o. refl }

-- Some, and then others; the later ones stand before or after them.
module _ (base low turn turn' : ℕ) (above : base < low) (later : turn ≤ turn') (ws vs ms ns os : List ℕ) (p : Marked base low turn ws ms ns) (q : Marked base low turn' vs ns os) where
  apart : (x : ℕ) → In x ws → In x vs → ⊥
  apart x i j = let a = (p.marked x i).0 in let b = q.able.free x j in omega arith

  free_all : (x : ℕ) → In x ws ⊎ In x vs → get_or ms x 0 ≤ base
  free_all x (inl i) = p.able.free x i
  free_all x (inr j) = elim (cases_Bool (within x ws)) [ inl i ↦ absurd (apart x i j) | inr o ↦ let e = p.others x o in let b = q.able.free x j in omega arith ]

  marked_all : (x : ℕ) → In x ws ⊎ In x vs → (low ≤ get_or os x 0) × (get_or os x 0 ≤ turn')
  marked_all x (inl i) = elim (cases_Bool (within x vs)) [ inl j ↦ absurd (apart x i j) | inr o ↦ let e = q.others x o in let a = (p.marked x i).0 in let b = (p.marked x i).1 in (omega arith, omega arith) ]
  marked_all x (inr j) = q.marked x j

  others_all : (x : ℕ) → Out x ws → Out x vs → get_or os x 0 ≡ get_or ms x 0
  others_all x o n = q.others x n ∙ p.others x o

  pub then_after : Marked base low turn' (ws ++ vs) ms os
  then_after = record {
    able = record { once = distinct_join ws vs p.able.once q.able.once apart; free = λ x i. free_all x (in_cases x ws vs i) };
    marked = λ x i. marked_all x (in_cases x ws vs i);
    others = λ x o. let h = out_parts x ws vs o in others_all x h.0 h.1;
  }

  swap : (x : ℕ) → In x vs ⊎ In x ws → In x ws ⊎ In x vs
  swap x (inl i) = inr i
  swap x (inr i) = inl i

  pub then_before : Marked base low turn' (vs ++ ws) ms os
  then_before = record {
    able = record { once = distinct_join vs ws q.able.once p.able.once (λ x i j. apart x j i); free = λ x i. free_all x (swap x (in_cases x vs ws i)) };
    marked = λ x i. marked_all x (swap x (in_cases x vs ws i));
    others = λ x o. let h = out_parts x vs ws o in others_all x h.1 h.0;
  }

-- Of those that can be marked, the others can be marked after some.

pub able_left : (base : ℕ) (ws vs ms : List ℕ) → Markable base (ws ++ vs) ms → Markable base ws ms
able_left base ws vs ms m = record { once = distinct_left ws vs m.once; free = λ x i. m.free x (in_left x ws vs i) }

pub able_right : (base : ℕ) (ws vs ms : List ℕ) → Markable base (ws ++ vs) ms → Markable base vs ms
able_right base ws vs ms m = record { once = distinct_right ws vs m.once; free = λ x i. m.free x (in_right x ws vs i) }

pub able_after : (base low turn : ℕ) (ws vs ms ns : List ℕ) → Marked base low turn ws ms ns → Markable base (ws ++ vs) ms → Markable base vs ns
able_after base low turn ws vs ms ns p m = record {
  once = distinct_right ws vs m.once;
  free = λ x i. let o = out_if x ws (λ j. in_out x vs i (distinct_apart x ws vs m.once j)) in let e = p.others x o in let f = m.free x (in_right x ws vs i) in omega arith;
}

pub able_before : (base low turn : ℕ) (ws vs ms ns : List ℕ) → Marked base low turn ws ms ns → Markable base (vs ++ ws) ms → Markable base vs ns
able_before base low turn ws vs ms ns p m = record {
  once = distinct_left vs ws m.once;
  free = λ x i. let o = distinct_apart x vs ws m.once i in let e = p.others x o in let f = m.free x (in_left x vs ws i) in omega arith;
}

-- weaker bounds
pub wider : (base low low' turn turn' : ℕ) (ws ms ns : List ℕ) → low' ≤ low → turn ≤ turn' → Marked base low turn ws ms ns → Marked base low' turn' ws ms ns
wider base low low' turn turn' ws ms ns l t p = record { able = p.able; marked = λ x i. let a = (p.marked x i).0 in let b = (p.marked x i).1 in (omega arith, omega arith); others = p.others }
