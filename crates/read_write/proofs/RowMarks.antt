-- Rows marked one after another, from the last to the first.
use Rattle.std.proofs.Common.{◌≡◌, ℕ, ◌<◌, false, eqb, List, [], ◌∷◌, ◌++◌, map, get_or, sym, ap, ◌∙◌, subst, inl, inr, append_assoc, arith}
use Rattle.std.proofs.lemmas.List.{map-append}
use Rattle.rules.specs.Kinds.{phi_kind}
use Rattle.rules.specs.Lists.{select, gathered}
use Rattle.rules.specs.Views.{Bytes, InstructionV, reads, writes, identifiers_of, is_read, is_written}
use Rattle.rules.proofs.Membership.{In, Out, in_out, out_if, in_cases, out_parts, gathered-++}
use Rattle.rules.proofs.Sublists.{ordered_right}
use Rattle.hir.specs.declared.rows.Place.{Place}
use Rattle.hir.specs.declared.rows.Instruction.{Instruction}
use Rattle.hir.specs.View.{Rows, instruction_at, instruction_view, instructions_at, place_view}
use Rattle.refusals.specs.Walked.{is_phi}
use Rattle.read_write.specs.Written.{written_in, read_in, Markable, Marked, Unnumbered, RowSound, RowDone, RowsSound, RowsDone}
use Rattle.read_write.proofs.PlaceMarks.{writes_are, reads_are}
use Rattle.read_write.proofs.Marks.{then_after, then_before, able_left, able_right, able_after, able_before}

-- a row and its places, as they are seen
pub record RowSeen (r : Rows) (text : Bytes) (i : InstructionV) (x : Instruction) (ps : List Place) : Type 0 where
  pub row : i ≡ instruction_view r x
  pub places : map (place_view text) ps ≡ i.places

module _ {r : Rows} {text : Bytes} {i : InstructionV} {x : Instruction} {ps : List Place} (seen : RowSeen r text i x ps) where
  abbrev written : List ℕ
  written = x.result.identifier.0 ∷ written_in ps

  writes_of : writes i ≡ written
  writes_of =
      ap (λ n. n ∷ identifiers_of (select is_written i.places)) (ap (λ (v : InstructionV). v.result.identifier) seen.row)
      ∙ ap (λ qs. x.result.identifier.0 ∷ identifiers_of (select is_written qs)) (sym seen.places)
      ∙ ap (λ zs. x.result.identifier.0 ∷ zs) (writes_are text ps)

  reads_of : reads i ≡ read_in ps
  reads_of = ap (λ qs. identifiers_of (select is_read qs)) (sym seen.places) ∙ reads_are text ps

  pub phi_is : is_phi i ≡ eqb x.kind phi_kind
  phi_is = ap is_phi seen.row

  -- what it writes can be marked, the result before the places
  module _ {base turn : ℕ} {ms : List ℕ} (s : RowSound base turn i ms) where
    able_written : Markable base written ms
    able_written = subst (λ zs. Markable base zs ms) writes_of s.able

    pub result_able : Markable base (x.result.identifier.0 ∷ []) ms
    result_able = able_left base (x.result.identifier.0 ∷ []) (written_in ps) ms able_written

    pub places_able : {ns : List ℕ} → Marked base turn turn (x.result.identifier.0 ∷ []) ms ns → Markable base (written_in ps) ns
    places_able {ns} p = able_after base turn turn (x.result.identifier.0 ∷ []) (written_in ps) ms ns p able_written

  -- all that it writes is marked
  module _ {base turn : ℕ} {ms ns os : List ℕ} (above : base < turn) (p : Marked base turn turn (x.result.identifier.0 ∷ []) ms ns) (q : Marked base turn turn (written_in ps) ns os) where
    all_writes : Marked base turn turn (writes i) ms os
    all_writes = subst (λ zs. Marked base turn turn zs ms os) (sym writes_of) (then_after base turn turn turn above (omega arith) (x.result.identifier.0 ∷ []) (written_in ps) ms ns os p q)

    pub reads_sound : is_phi i ≡ false → RowSound base turn i ms → Unnumbered turn (read_in ps) os
    reads_sound f s y j =
        let e = s.early f y (subst (λ zs. In y zs) (sym reads_of) j) in
        let o = all_writes.others y e.0 in
        λ t. e.1 (sym o ∙ t)

    pub row_done : (is_phi i ≡ false → Unnumbered turn (read_in ps) os) → RowDone base turn i ms os
    row_done u = record {
      sound = record {
        able = all_writes.able;
        early = λ f y j.
            let n = u f y (subst (λ zs. In y zs) reads_of j) in
            let o : Out y (writes i) = out_if y (writes i) (λ k. let b = (all_writes.marked y k).0 in let c = (all_writes.marked y k).1 in n (omega arith)) in
            (o, λ t. n (all_writes.others y o ∙ t));
      };
      marked = all_writes;
    }

-- a row before those that are done
row_more : (base turn : ℕ) (i : InstructionV) (is : List InstructionV) (ms ns os : List ℕ) → base < turn → RowsDone base turn is ms ns → RowDone base turn i ns os → RowsDone base turn (i ∷ is) ms os
row_more base turn i is ms ns os l d r = record {
  marked = then_before base turn turn turn l (omega arith) (gathered writes is) (writes i) ms ns os d.marked r.marked;
  ordered = (
    λ f x j.
        let e = r.sound.early f x j in
        out_if x (writes i ++ gathered writes is) (λ k. elim (in_cases x (writes i) (gathered writes is) k) [
          | inl a ↦ in_out x (writes i) a e.0
          | inr b ↦ let c = (d.marked.marked x b).0 in let g = (d.marked.marked x b).1 in e.1 (omega arith)
        ]),
    d.ordered,
  );
}

row_refused : (base turn : ℕ) (i : InstructionV) (before : List InstructionV) (is : List InstructionV) (ms ns : List ℕ) → ((x : ℕ) → get_or ms x 0 < turn) → RowsDone base turn is ms ns → (RowSound base turn i ns → ⊥) → RowsSound base (before ++ (i ∷ is)) ms → ⊥
row_refused base turn i before is ms ns low d u s =
    let m = able_right base (gathered writes before) (writes i ++ gathered writes is) ms (subst (λ zs. Markable base zs ms) (gathered-++ writes before (i ∷ is)) s.able) in
    let o = ordered_right before (i ∷ is) s.ordered in
    u (record {
      able = able_before base turn turn (gathered writes is) (writes i) ms ns d.marked m;
      early = λ f x j.
          let h = out_parts x (writes i) (gathered writes is) (o.0 f x j) in
          let e = d.marked.others x h.1 in
          let z = low x in
          (h.0, λ t. omega arith);
    })

-- The end of a list is marked, these are left.
pub record RowsMarked (base turn : ℕ) (r : Rows) (whole left before now : List ℕ) : Type 0 where
  pub gone : List ℕ
  pub split : whole ≡ left ++ gone
  pub done : RowsDone base turn (instructions_at r gone) before now

-- the last of those that are left is next
module _ {base turn : ℕ} {r : Rows} {whole left before now : List ℕ} (left' : List ℕ) (n : ℕ) (next : left ≡ left' ++ (n ∷ [])) (s : RowsMarked base turn r whole left before now) where
  around : whole ≡ left' ++ (n ∷ s.gone)
  around = s.split ∙ ap (λ zs. zs ++ s.gone) next ∙ append_assoc left' (n ∷ []) s.gone

  pub rows_more : {after : List ℕ} → base < turn → RowDone base turn (instruction_at r n) now after → RowsMarked base turn r whole left' before after
  rows_more {after} l d = record { gone = n ∷ s.gone; split = around; done = row_more base turn (instruction_at r n) (instructions_at r s.gone) before now after l s.done d }

  pub rows_refused : ((x : ℕ) → get_or before x 0 < turn) → (RowSound base turn (instruction_at r n) now → ⊥) → RowsSound base (instructions_at r whole) before → ⊥
  rows_refused low u h =
      row_refused base turn (instruction_at r n) (instructions_at r left') (instructions_at r s.gone) before now low s.done u
      (subst (λ is. RowsSound base is before) (ap (instructions_at r) around ∙ map-append (instruction_at r) left' (n ∷ s.gone)) h)
