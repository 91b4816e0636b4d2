use Rattle.std.proofs.Common.{◌≡◌, ℕ, sym, ap, ◌∙◌, subst, rules}
use Rattle.rules.specs.Views.{Bytes, write}
use Rattle.rules.specs.Names.{tag_name, next_tag}
use Rattle.hir.specs.declared.rows.Counts.{Counts}
use Rattle.hir.specs.Tables.{Tables, tables, hold_text, with_text, with_tag}
use Rattle.hir.specs.View.{view}
use Rattle.hir.specs.WellFormed.{WellFormed}
use Rattle.hir.specs.Frame.{Kept}
use Rattle.hir.proofs.Calls.{becomes}
use Rattle.hir.proofs.Laws.{well_tag}
use Rattle.hir.proofs.Frames.{kept_then, kept_tag}
use Rattle.tags.proofs.Spelling.{view_tag}
use Rattle.tags.proofs.take.generate_globally_unique_identifier_name.Goals as goal

pub returns-clause-does : goal.returns-clause-does
returns-clause-does c =
    let s = c.args.store.now in
    let t : Tables = tables s in
    let n : ℕ = next_tag (view t) in
    let is_n = c.next_tag_number-number.ensures.number in
    let made : Bytes = tag_name n in
    let spelt : c.as_bytes.result.now ≡ made = c.as_bytes.ensures.value ∙ c.as_str.ensures.value ∙ c.spell_tag.ensures ∙ ap tag_name is_n in
    let e = c.append_text-name.ensures.does in
    let u : Tables = tables c.append_text-name.new.store in
    let taken = rw c.store.view_is at c.take_tag.ensures.counts in
    let wrote : u ≡ with_text t made = e.writes ∙ ap (with_text t) spelt in
    let writes = ap (λ (k : Counts). hold_text u k u.text) taken ∙ (λ i. with_tag (wrote i) (is_n i)) in
    let held = e.held in
    let seen = subst (λ (x : Bytes). view (with_text t x) ≡ write (view t) x) spelt (sym (ap view e.writes) ∙ e.seen) in
    rw c.store.view_is (becomes s _ _ _ writes (search rules) (view_tag t seen) (well_tag (with_text t made) (subst WellFormed wrote e.well) n) (kept_then (subst (Kept t) wrote e.kept) (kept_tag (with_text t made) n)))

pub invariant_of-store : goal.invariant_of-store
invariant_of-store c = (returns-clause-does c).well
