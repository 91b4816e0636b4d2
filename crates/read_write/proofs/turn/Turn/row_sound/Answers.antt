use Rattle.std.proofs.Common.{MatchBool, sym, ◌∙◌, subst}
use Rattle.std.proofs.lemmas.Bool.{both_ways}
use Rattle.hir.specs.Tables.{tables}
use Rattle.hir.specs.View.{rows, view, instruction_at}
use Rattle.refusals.specs.Walked.{is_phi}
use Rattle.refusals.proofs.Tests.{when_through}
use Rattle.read_write.specs.Written.{RowDone, RowSound}
use Rattle.read_write.proofs.RowMarks.{RowSeen, phi_is, places_able, result_able, reads_sound, row_done}
use Rattle.read_write.proofs.turn.Turn.row_sound.Goals as goal
use Rattle.read_write.proofs.turn.Turn.row_sound.Goals.{then-not-mark-via-then-not-mark, then-not-mark-via-else-not-mark+then-not-mark_places}

pub returns-then-not-mark : goal.returns-then-not-mark
returns-then-not-mark c =
    let t = tables c.args.list.store.now in
    let seen : RowSeen (rows t) (view t).text (instruction_at (rows t) c.args.number) c.row-row.result c.places-places.result.now = record { row = c.row-row.ensures.seen; places = c.places-places.ensures.seen } in
    λ s. elim c.then-not-mark.branch [
      | then-not-mark-via-then-not-mark w ↦ w.if-not-mark.ensures (result_able seen s)
      | then-not-mark-via-else-not-mark+then-not-mark_places w ↦ w.if-not-mark_places.ensures (places_able seen s w.if-not-mark.ensures)
    ]

pub returns-then-has_kind : goal.returns-then-has_kind
returns-then-has_kind c =
    let t = tables c.args.list.store.now in
    let i = instruction_at (rows t) c.args.number in
    let seen : RowSeen (rows t) (view t).text i c.row-row.result c.places-places.result.now = record { row = c.row-row.ensures.seen; places = c.places-places.ensures.seen } in
    subst (λ b. MatchBool b (RowDone c.args.self.base c.args.self.own i c.args.marks.now c.mark_places.new.marks) (RowSound c.args.self.base c.args.self.own i c.args.marks.now → ⊥)) (sym c.if-has_kind.true)
    (row_done seen c.args.self.above c.if-not-mark.ensures c.if-not-mark_places.ensures (λ f. absurd (both_ways (is_phi i) f (phi_is seen ∙ sym c.has_kind.ensures ∙ c.if-has_kind.true))))

pub returns-else-has_kind : goal.returns-else-has_kind
returns-else-has_kind c =
    let t = tables c.args.list.store.now in
    let seen : RowSeen (rows t) (view t).text (instruction_at (rows t) c.args.number) c.row-row.result c.places-places.result.now = record { row = c.row-row.ensures.seen; places = c.places-places.ensures.seen } in
    when_through c.reads_in_time.result
    (λ u. row_done seen c.args.self.above c.if-not-mark.ensures c.if-not-mark_places.ensures (λ _. u))
    (λ u s. u (reads_sound seen c.args.self.above c.if-not-mark.ensures c.if-not-mark_places.ensures (phi_is seen ∙ sym c.has_kind.ensures ∙ c.if-has_kind.false) s))
    c.reads_in_time.ensures
