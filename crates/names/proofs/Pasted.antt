-- Bytes written into a text.
use Rattle.std.proofs.Common.{◌≡◌, ℕ, ◌+◌, ◌-◌, ◌≤◌, List, ◌++◌, length, take, drop, sym, refl, ap, ◌∙◌, arith}
use Rattle.std.proofs.Math.Seq.{take-length}
use lib.Seq.{paste}
use borrow.Rule.Slice.PartMut.{put_mid}
use Rattle.std.proofs.lemmas.Slice.{put_mid-paste}
use Rattle.hir.proofs.Runs.{pasted_both}

pub copied : (at : ℕ) (text ys xs : List ℕ) → ys ≡ xs → put_mid at (at + length xs - at) text ys ≡ paste text at xs (length xs)
copied at text ys xs e = put_mid-paste at (at + length xs - at) text ys xs (length xs) e (omega arith) refl

-- a prefix, and what is written after it
pub copied_before : (at : ℕ) (text ys xs rest new : List ℕ) → ys ≡ xs → at ≤ length text
    → new ≡ paste (put_mid at (at + length xs - at) text ys) (at + length xs) rest (length rest) → new ≡ paste text at (xs ++ rest) (length (xs ++ rest))
copied_before at text ys xs rest new e h written =
    written ∙ ap (λ (l : List ℕ). paste l (at + length xs) rest (length rest)) (copied at text ys xs e) ∙ pasted_both text at (length xs) xs rest refl h

-- bytes of the text itself, copied to another place
pub moved : (text : List ℕ) (from to : ℕ) (own : List ℕ) → own ≡ take (length own) (drop from text) → paste text to (drop from text) (from + length own - from) ≡ paste text to own (length own)
moved text from to own e =
    let n : from + length own - from ≡ length own = omega arith in
    simp (n, sym e, take-length own)
