use Rattle.std.proofs.Common.{◌≡◌, ℕ, ◌+◌, ◌<◌, ◌≤◌, Bool, List, [], ◌∷◌, ◌++◌, length, get_or, set, sym, ap, ◌∙◌, subst, arith, length-set}
use Rattle.std.proofs.lemmas.List.{length_push}
use lib.Seq.{paste}
use Rattle.rules.specs.Views.{InstructionV}
use Rattle.hir.specs.declared.rows.Run.{Run}
use Rattle.hir.specs.Tables.{Tables, tables, hold_numbers, Held}
use Rattle.hir.specs.View.{rows, instruction_at}
use Rattle.hir.specs.WellFormed.{Readable}
use Rattle.thin.specs.Kept.{rewritten}
use Rattle.thin.proofs.Front.{so_far, row_read, row_used, stays_more, goes_more, written_more, readable_still}
use Rattle.thin.proofs.gather_kept.Goals as goal
use Rattle.thin.proofs.gather_kept.Goals.{then-keeps, else-keeps}

pub keeps-requires : goal.keeps-requires
keeps-requires g c =
    let t : Tables = tables c.args.store.now in
    let p : InstructionV → Bool = g.K.Keeps.test c.args.keep.now in
    let run : Run = c.args.run in
    let i : ℕ = c.loop-i.i in
    let e = c.loop-i.invariant.writes in
    let from : run.first ≤ i = omega arith in
    let h : i < run.first + run.count = omega arith in
    record {
      readable = subst Readable (sym e) (readable_still p t run c.requires.fits i from h c.requires.readable);
      used =
          subst (λ (u : Tables). get_or u.numbers i 0 < u.counts.instructions) (sym e)
          (subst (λ m. m < t.counts.instructions) (sym (row_read p t run c.requires.fits i from h)) (row_used p t run c.requires.fits i from h (λ m. m < t.counts.instructions) c.requires.listed));
      ready = subst (λ (u : Tables). g.K.Keeps.ready c.args.keep.now u.counts) (sym e) c.requires.ready;
    }

pub loop-i-preserved : goal.loop-i-preserved
loop-i-preserved g c =
    let t : Tables = tables c.args.store.now in
    let u : Tables = tables c.loop-i.store in
    let p : InstructionV → Bool = g.K.Keeps.test c.args.keep.now in
    let run : Run = c.args.run in
    let fits = c.requires.fits in
    let i : ℕ = c.loop-i.i in
    let from : run.first ≤ i = omega arith in
    let h : i < run.first + run.count = omega arith in
    let n : ℕ = get_or t.numbers i 0 in
    let xs : List ℕ = so_far p t run i in
    let read = row_read p t run fits i from h in
    let before = c.loop-i.invariant in
    -- the test, of the row as it was listed at first
    let tested : c.keeps.result ≡ p (instruction_at (rows t) n) =
    c.keeps.ensures ∙ ap (λ (v : Tables). p (instruction_at (rows v) (get_or v.numbers i 0))) before.writes ∙ ap (λ m. p (instruction_at (rows t) m)) read in
    elim c.if-keeps.branch [
      | then-keeps w ↦
          let stays = stays_more p t run fits i from h (sym tested ∙ w.if-keeps.true) in
          record {
            writes =
                ap tables w.store-is
                ∙ ap (λ (v : Tables). hold_numbers v v.counts (set v.numbers c.loop-i.end (get_or v.numbers i 0))) before.writes
                ∙ (λ k. hold_numbers t t.counts (set (paste t.numbers run.first xs (length xs)) (before.end k) (read k)))
                ∙ ap (hold_numbers t t.counts) (written_more p t run fits i from h)
                ∙ ap (rewritten t run.first) (sym stays);
            end = (let l = length_push xs n in let e : c.loop-i.end + 1 ≡ run.first + length (xs ++ n ∷ []) = omega (arith, before.end) in w.end-is ∙ e) ∙ ap (λ (l : List ℕ). run.first + length l) (sym stays);
            behind = omega (arith, w.end-is, before.behind);
            held = (let b = before.held in subst (λ s. Held s c.args.store.now) (sym w.store-is) (record { text = b.text; identifiers = b.identifiers; places = b.places; instructions = b.instructions; numbers = b.numbers; blocks = b.blocks; functions = b.functions; text_length = b.text_length; identifiers_length = b.identifiers_length; places_length = b.places_length; instructions_length = b.instructions_length; numbers_length = length-set u.numbers c.loop-i.end (get_or u.numbers i 0) ∙ b.numbers_length; blocks_length = b.blocks_length; functions_length = b.functions_length }));
          }
      | else-keeps w ↦
          let goes = goes_more p t run fits i from h (sym tested ∙ w.if-keeps.false) in
          record {
            writes = ap tables w.store-is ∙ before.writes ∙ ap (rewritten t run.first) (sym goes);
            end = w.end-is ∙ before.end ∙ ap (λ (l : List ℕ). run.first + length l) (sym goes);
            behind = omega (arith, w.end-is, before.behind);
            held = subst (λ s. Held s c.args.store.now) (sym w.store-is) before.held;
          }
    ]
