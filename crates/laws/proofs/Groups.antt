-- A relation between stores that each single change of a group keeps holds of the whole group.
use Rattle.std.proofs.Common.{ℕ, true, false, List, [], ◌∷◌, length, Some, None, Option}
use Rattle.rules.specs.Lists.{gathered}
use Rattle.rules.specs.Views.{Bytes, PlaceV, InstructionV, FunctionV, NameV, absent, named, promoted, Hir, results, write}
use Rattle.rules.specs.Names.{same_bytes, spell, t_name, temporary, tag_temporary, generate_name}
use Rattle.rules.specs.Props.{OutlinedJsxAttribute, Gathering, write_changed, enter_attribute, promote, enter_child, gather_place, gather, start_gathering, collect_props, fresh, Mapping, bind_entries, create_old_to_new_props_mapping}
use Rattle.rules.specs.Emit.{take_tag, outline_function, Prepared, prepare, emit_load_globals, tag_places, emit_outlined_fn, outcome, emit, process_jsx_group}
use Rattle.laws.proofs.Ways.{gather_ways, bind_ways, bound_next, close_ways}

-- Gathering writes names and promotes.
module _ (R : Hir → Hir → Type 0)
    (same : (h : Hir) → R h h)
    (then : (a b c : Hir) → R a b → R b c → R a c)
    (writes : (h : Hir) (made : Bytes) → R h (write h made))
    (promotes : (h : Hir) (x : ℕ) → R h (promote h x)) where
  changed_on : (h : Hir) (old new : Bytes) → R h (write_changed h old new)
  changed_on h old new = elim (same_bytes old new) as (λ t. R h (elim t [ true ↦ h | false ↦ write h new ])) [ true ↦ same h | false ↦ writes h new ]

  place_on : (h₀ : Hir) (members : List ℕ) (g : Gathering) (p : PlaceV) → R h₀ g.hir → R h₀ (gather_place members g p).hir
  place_on h₀ members g p r = gather_ways (λ g'. R h₀ g'.hir) members g p (λ _. r)
      (λ _ _. then h₀ g.hir (enter_attribute g p).hir r (changed_on g.hir (spell p.name) (generate_name g.seen (spell p.name) g.counter).name))
      (λ _ _ _. r)
      (λ _ _ _ _. then h₀ (promote g.hir p.identifier) (enter_child g p).hir (then h₀ g.hir (promote g.hir p.identifier) r (promotes g.hir p.identifier)) (writes (promote g.hir p.identifier) (generate_name g.seen t_name g.counter).name))
      (λ _ _ _ _. r)

  gather_on : (h₀ : Hir) (members : List ℕ) (g : Gathering) (ps : List PlaceV) → R h₀ g.hir → R h₀ (gather members g ps).hir
  gather_on h₀ members g [] r = r
  gather_on h₀ members g (p ∷ ps) r = gather_on h₀ members (gather_place members g p) ps (place_on h₀ members g p r)

  pub collect_on : (h : Hir) (ms : List InstructionV) → R h (collect_props h ms).hir
  collect_on h ms = gather_on h (results ms) (start_gathering h) (gathered (λ (m : InstructionV). m.places) ms) (same h)

-- Binding takes fresh identifiers.
module _ (R : Hir → Hir → Type 0)
    (then : (a b c : Hir) → R a b → R b c → R a c)
    (freshens : (h : Hir) (n : NameV) → R h (fresh h n)) where
  pub bind_on : (h₀ : Hir) (m : Mapping) (es : List OutlinedJsxAttribute) → R h₀ m.hir → R h₀ (bind_entries m es).hir
  bind_on h₀ m [] r = r
  bind_on h₀ m (e ∷ es) r = bind_ways (λ m'. R h₀ m'.hir) m e es (λ _. bind_on h₀ m es r) (λ _. bind_on h₀ (bound_next m e) es (then h₀ m.hir (bound_next m e).hir r (freshens m.hir (named e.new_name))))

-- the identifiers before the return place, after the tag
module _ (R : Hir → Hir → Type 0)
    (then : (a b c : Hir) → R a b → R b c → R a c)
    (writes : (h : Hir) (made : Bytes) → R h (write h made))
    (freshens : (h : Hir) (n : NameV) → R h (fresh h n)) where
  pub named_on : (h : Hir) (n : NameV) (made : Bytes) → R h (write (fresh h n) made)
  named_on h n made = then h (fresh h n) (write (fresh h n) made) (freshens h n) (writes (fresh h n) made)

  pub prepared_on : (h : Hir) (es : List OutlinedJsxAttribute) → R (take_tag h) (prepare h es).hir
  prepared_on h es =
      let h₀ : Hir = take_tag h in
      let load : ℕ = length h.identifiers in
      let h₁ : Hir = write (fresh h₀ (promoted (tag_temporary load))) (tag_temporary load) in
      let bound : Mapping = create_old_to_new_props_mapping h₁ es in
      let param : ℕ = length bound.hir.identifiers in
      let h₃ : Hir = write (fresh bound.hir (promoted (temporary param))) (temporary param) in
      then h₀ h₃ (fresh h₃ absent)
      (then h₀ bound.hir h₃
      (bind_on R then freshens h₀ (record { hir = h₁; table = [] }) es (named_on h₀ (promoted (tag_temporary load)) (tag_temporary load)))
      (named_on bound.hir (promoted (temporary param)) (temporary param)))
      (freshens h₃ absent)

-- The whole group.
module _ (R : Hir → Hir → Type 0)
    (same : (h : Hir) → R h h)
    (then : (a b c : Hir) → R a b → R b c → R a c)
    (writes : (h : Hir) (made : Bytes) → R h (write h made))
    (promotes : (h : Hir) (x : ℕ) → R h (promote h x))
    (tags : (h : Hir) → R h (take_tag h))
    (freshens : (h : Hir) (n : NameV) → R h (fresh h n))
    (appends : (h : Hir) (f : FunctionV) (tag : Bytes) → R h (outline_function h f tag)) where
  prepare_on : (h : Hir) (es : List OutlinedJsxAttribute) → R h (prepare h es).hir
  prepare_on h es = then h (take_tag h) (prepare h es).hir (tags h) (prepared_on R then writes freshens h es)

  outcome_on : (h : Hir) (t : Prepared) (es : List OutlinedJsxAttribute) (m : InstructionV) (ms : List InstructionV) (o : Option (List InstructionV)) → R h t.hir → R h (outcome t es m ms o).hir
  outcome_on h t es m ms None r = r
  outcome_on h t es m ms (Some loads) r =
      let h₁ : Hir = fresh t.hir absent in
      then h h₁ (outline_function h₁ (emit_outlined_fn t m ms loads) t.tag) (then h t.hir h₁ r (freshens t.hir absent)) (appends h₁ (emit_outlined_fn t m ms loads) t.tag)

  pub emit_on : (gs : List InstructionV) (m : InstructionV) (ms : List InstructionV) (h : Hir) (es : List OutlinedJsxAttribute) → R h (emit gs m ms h es).hir
  emit_on gs m ms h es = outcome_on h (prepare h es) es m ms (emit_load_globals gs (tag_places (m ∷ ms))) (prepare_on h es)

  pub close_on : (type : ℕ) (gs ms : List InstructionV) (h : Hir) → R h (process_jsx_group type gs ms h).hir
  close_on type gs [] h = same h
  close_on type gs (m ∷ []) h = same h
  close_on type gs (m ∷ n ∷ ms) h = close_ways (λ o. R h o.hir) type gs m n ms h (λ _. same h) (λ _ _. collect_on R same then writes promotes h (m ∷ n ∷ ms))
      (λ _ _. let g : Gathering = collect_props h (m ∷ n ∷ ms) in then h g.hir (emit gs m (n ∷ ms) g.hir g.entries).hir (collect_on R same then writes promotes h (m ∷ n ∷ ms)) (emit_on gs m (n ∷ ms) g.hir g.entries))
