-- Rows and places as the tables have them, and as they are seen.
use Rattle.std.proofs.Common.{◌≡◌, ℕ, zero, suc, ◌+◌, ◌-◌, ◌<◌, ◌≤◌, Bool, true, false, eqb, leb, List, [], ◌∷◌, map, length, get_or, take, drop, sym, refl, ap, ◌∙◌, subst, inl, inr, arith, get_or-take}
use lib.ListN.{length-map}
use Rattle.std.proofs.lemmas.List.{at_drop_more, get_or-map}
use Rattle.std.specs.List.{AllByRecursion}
use Rattle.std.proofs.ByRecursion.{All-get_or, All-weaker, All-take, All-drop}
use Rattle.rules.specs.Lists.{any, select, within, Lists}
use Rattle.rules.proofs.Membership.{In, in_cases, lists_none, lists_head, lists_split}
use Rattle.rules.proofs.Positions.{map_lists}
use Rattle.std.proofs.lemmas.Bool.{or_cases, both_ways, eqb-true}
use Rattle.rules.specs.Kinds.{acts}
use Rattle.rules.specs.Views.{Bytes, PlaceV, InstructionV, BlockV, FunctionV, identifiers_of, is_read, is_written, reads, rows_of, block_rows, writes, function_at}
use Rattle.rules.specs.Eliminations.{sweep_keeps, terminal_reads}
use Rattle.hir.specs.declared.rows.Run.{Run}
use Rattle.hir.specs.declared.rows.Counts.{Counts}
use Rattle.hir.specs.declared.rows.Place.{Place}
use Rattle.hir.specs.declared.rows.Instruction.{Instruction}
use Rattle.hir.specs.declared.rows.BasicBlock.{BasicBlock}
use Rattle.hir.specs.Used.{in_run}
use Rattle.hir.specs.Tables.{Tables}
use Rattle.hir.specs.View.{rows, view, null_instruction, null_block, null_function, place_view, instruction_at, block_view, function_view}
use Rattle.hir.specs.WellFormed.{RunFits, PlaceFits, Readable}
use Rattle.hir.specs.Legible.{BlockLegible, Legible}
use Rattle.hir.proofs.Runs.{length_run, getD_run, covered}
use Rattle.hir.proofs.Growth.{sizes_are}
use Rattle.hir.proofs.Seen.{row_seen, places_read, places_fit, slice_run, function_is, function_fits}
use Rattle.sweep.specs.Marks.{is_marked, ids, ids_read, ids_written, IdsFit, kept_by, row_kept, passed, all_passed, round_passed, terminal_at, terminals_marked, with_marks, TerminalsFit}
use Rattle.rules.proofs.Steps.{pick_true}
use Rattle.sweep.proofs.Settling.{InRange}

module _ (text : Bytes) where
  ids_seen : (ps : List Place) → identifiers_of (map (place_view text) ps) ≡ ids ps
  ids_seen [] = refl
  ids_seen (p ∷ ps) = ap (λ (l : List ℕ). p.identifier.0 ∷ l) (ids_seen ps)

  read_seen : (ps : List Place) → identifiers_of (select is_read (map (place_view text) ps)) ≡ ids_read ps
  read_seen [] = refl
  read_seen (p ∷ ps) = elim (leb p.role 4) as (λ b. identifiers_of (elim b as (λ _. List PlaceV) [ true ↦ place_view text p ∷ select is_read (map (place_view text) ps) | false ↦ select is_read (map (place_view text) ps) ]) ≡ ids (elim b as (λ _. List Place) [ true ↦ p ∷ select (λ (q : Place). leb q.role 4) ps | false ↦ select (λ (q : Place). leb q.role 4) ps ])) [
    | true ↦ ap (λ (l : List ℕ). p.identifier.0 ∷ l) (read_seen ps)
    | false ↦ read_seen ps
  ]

  written_seen : (ps : List Place) → identifiers_of (select is_written (map (place_view text) ps)) ≡ ids_written ps
  written_seen [] = refl
  written_seen (p ∷ ps) = elim (eqb p.role 5) as (λ b. identifiers_of (elim b as (λ _. List PlaceV) [ true ↦ place_view text p ∷ select is_written (map (place_view text) ps) | false ↦ select is_written (map (place_view text) ps) ]) ≡ ids (elim b as (λ _. List Place) [ true ↦ p ∷ select (λ (q : Place). eqb q.role 5) ps | false ↦ select (λ (q : Place). eqb q.role 5) ps ])) [
    | true ↦ ap (λ (l : List ℕ). p.identifier.0 ∷ l) (written_seen ps)
    | false ↦ written_seen ps
  ]

-- identifiers of places that all have a mark byte
in_below : (n : ℕ) (test : Place → Bool) (ps : List Place) → AllByRecursion (λ (p : Place). p.identifier.0 < n) ps → (x : ℕ) → In x (ids (select test ps)) → x < n
in_below n test [] a x h = absurd (both_ways false refl h)
in_below n test (p ∷ ps) a x h =
    (elim (test p) as (λ b. In x (ids (elim b as (λ _. List Place) [ true ↦ p ∷ select test ps | false ↦ select test ps ])) → x < n) [
      | true ↦ λ q. elim (or_cases (eqb x p.identifier.0) (within x (ids (select test ps))) q) [ inl e ↦ omega (arith, eqb-true x p.identifier.0 e, a.0) | inr m ↦ in_below n test ps a.1 x m ]
      | false ↦ λ q. in_below n test ps a.1 x q
    ]) h

all_ids_below : (n : ℕ) (ps : List Place) → AllByRecursion (λ (p : Place). p.identifier.0 < n) ps → (x : ℕ) → In x (ids ps) → x < n
all_ids_below n [] a x h = absurd (both_ways false refl h)
all_ids_below n (p ∷ ps) a x h = elim (or_cases (eqb x p.identifier.0) (within x (ids ps)) h) [ inl e ↦ omega (arith, eqb-true x p.identifier.0 e, a.0) | inr m ↦ all_ids_below n ps a.1 x m ]

all_lists : {A : Type 0} (P : A → Type 0) (xs : List A) (x : A) → AllByRecursion P xs → Lists xs x → P x
all_lists P [] x a l = lists_none l
all_lists P (y ∷ xs) x a l = elim (lists_head l) [ inl e ↦ subst P (sym e) a.0 | inr m ↦ all_lists P xs x a.1 m ]

-- a row that can be read, with its places as the code has them
module _ (t : Tables) (w : Readable t) (n : ℕ) (used : n < t.counts.instructions) where
  abbrev row : Instruction
  row = get_or t.instructions n null_instruction

  abbrev i : InstructionV
  i = instruction_at (rows t) n

  module _ (ps : List Place) (seen : map (place_view (view t).text) ps ≡ i.places) where
    pub reads_are : reads i ≡ ids_read ps
    reads_are = ap (λ (l : List PlaceV). identifiers_of (select is_read l)) (sym seen) ∙ read_seen (view t).text ps

    writes_are : writes i ≡ row.result.identifier.0 ∷ ids_written ps
    writes_are =
        ap (λ (l : List PlaceV). i.result.identifier ∷ identifiers_of (select is_written l)) (sym seen)
        ∙ ap (λ (l : List ℕ). i.result.identifier ∷ l) (written_seen (view t).text ps)
        ∙ ap (λ (x : InstructionV). x.result.identifier ∷ ids_written ps) (sym (row_seen t w n used))

    pub kept_are : (marks : List ℕ) → row_kept marks row ps ≡ kept_by (is_marked marks) i
    unfolding kept_by
    kept_are marks =
        ap (λ (l : List ℕ). sweep_keeps (acts row.kind) (any (is_marked marks) l)) (sym writes_are)
        ∙ ap (λ (x : InstructionV). sweep_keeps (acts x.kind) (any (is_marked marks) (writes i))) (row_seen t w n used)

  pub passed_kept : (marks : List ℕ) → true ≡ kept_by (is_marked marks) i → with_marks marks (reads i) ≡ passed marks i
  passed_kept marks e = sym (pick_true (kept_by (is_marked marks) i) (with_marks marks (reads i)) marks (sym e))

pub places_fit_marks : (marks : List ℕ) (c : Counts) → c.identifiers ≤ length marks → (ps : List Place) → AllByRecursion (PlaceFits c) ps → IdsFit marks ps
places_fit_marks marks c wide ps a = All-weaker (PlaceFits c) (λ (p : Place). p.identifier.0 < length marks) (λ p f. omega (arith, f.identifier)) ps a

row_range : (t : Tables) (w : Readable t) (marks : List ℕ) → t.counts.identifiers ≤ length marks → (n : ℕ) → n < t.counts.instructions → InRange marks (reads (instruction_at (rows t) n))
row_range t w marks wide n used x q =
    in_below (length marks) (λ (p : Place). leb p.role 4) _ (places_fit_marks marks t.counts wide _ (places_fit t w n used)) x (subst (λ (l : List ℕ). In x l) (reads_are t w n used _ (places_read t w n used)) q)

-- what is left of a list, one element sooner
back : {X Y : Type 0} (F : List X → Y) (xs : List X) (d : X) (j : ℕ) → 0 < j → j ≤ length xs → F (drop (j - 1) xs) ≡ F (get_or xs (j - 1) d ∷ drop j xs)
back F xs d j h l =
    let e : j - 1 + 1 ≡ j = omega arith in
    at_drop_more F xs (j - 1) d (omega arith) ∙ ap (λ k. F (get_or xs (j - 1) d ∷ drop k xs)) e

-- the lists of blocks, and what their terminals read, from the last to the first
abbrev no_block : BlockV
no_block = record { kind = 0; terminal = 0; detail = 0; places = []; rows = []; preds = [] }

block_rows_are : (bs : List BlockV) (k : ℕ) (d : BlockV) → k < length bs → block_rows bs k ≡ (get_or bs k d).rows
block_rows_are [] k d h = absurd (omega arith)
block_rows_are (b ∷ bs) zero d h = refl
block_rows_are (b ∷ bs) (suc k) d h = block_rows_are bs k d (omega arith)

terminal_is : (bs : List BlockV) (k : ℕ) (d : BlockV) → k < length bs → terminal_at bs k ≡ (get_or bs k d).places
terminal_is [] k d h = absurd (omega arith)
terminal_is (b ∷ bs) zero d h = refl
terminal_is (b ∷ bs) (suc k) d h = terminal_is bs k d (omega arith)

pub round_more : (marks : List ℕ) (bs : List BlockV) (k : ℕ) → 0 < k → k ≤ length bs → all_passed (round_passed marks (drop k bs)) (block_rows bs (k - 1)) ≡ round_passed marks (drop (k - 1) bs)
round_more marks bs k h l = ap (all_passed (round_passed marks (drop k bs))) (block_rows_are bs (k - 1) no_block (omega arith)) ∙ sym (back (round_passed marks) bs no_block k h l)

pub terminals_more : (marks : List ℕ) (bs : List BlockV) (k : ℕ) → 0 < k → k ≤ length bs → with_marks (terminals_marked marks (drop k bs)) (identifiers_of (terminal_at bs (k - 1))) ≡ terminals_marked marks (drop (k - 1) bs)
terminals_more marks bs k h l = ap (λ ps. with_marks (terminals_marked marks (drop k bs)) (identifiers_of ps)) (terminal_is bs (k - 1) no_block (omega arith)) ∙ sym (back (terminals_marked marks) bs no_block k h l)

module _ (t : Tables) (w : Legible t) where
  blocks_size : length (rows t).blocks ≡ t.counts.blocks
  blocks_size = ap (λ (c : Counts). c.blocks) (sizes_are t w.readable.counted)

  run_places_fit : (run : Run) → AllByRecursion (PlaceFits t.counts) (in_run (rows t).places run)
  run_places_fit run = All-take (PlaceFits t.counts) run.count _ (All-drop (PlaceFits t.counts) run.first (rows t).places w.readable.places)

  -- what blocks list and their terminals read, in any list of used blocks
  module _ (marks : List ℕ) (wide : t.counts.identifiers ≤ length marks) where
    rows_range : (bs : List BasicBlock) → AllByRecursion (BlockLegible t.counts (rows t).numbers) bs → (i : InstructionV) → Lists (rows_of (map (block_view (rows t)) bs)) i → InRange marks (reads i)
    rows_range [] a i l = lists_none l
    rows_range (b ∷ bs) a i l = elim (lists_split (block_view (rows t) b).rows l) [
      | inl m ↦
          let u = map_lists (instruction_at (rows t)) (in_run (rows t).numbers b.instructions) i m in
          let used = all_lists (λ n. n < t.counts.instructions) (in_run (rows t).numbers b.instructions) u.0 a.0.listed u.1 in
          subst (λ (j : InstructionV). InRange marks (reads j)) (sym u.2) (row_range t w.readable marks wide u.0 used)
      | inr m ↦ rows_range bs a.1 i m
    ]

    terminals_range : (bs : List BasicBlock) → InRange marks (terminal_reads (map (block_view (rows t)) bs))
    terminals_range [] x h = absurd (both_ways false refl h)
    terminals_range (b ∷ bs) x h = elim (in_cases x (identifiers_of (block_view (rows t) b).places) (terminal_reads (map (block_view (rows t)) bs)) h) [
      | inl q ↦ all_ids_below (length marks) (in_run (rows t).places b.places) (places_fit_marks marks t.counts wide _ (run_places_fit b.places)) x (subst (λ (l : List ℕ). In x l) (ids_seen (rows t).text (in_run (rows t).places b.places)) q)
      | inr q ↦ terminals_range bs x q
    ]

  pub functions_seen : length (view t).functions ≡ t.counts.functions
  functions_seen = length-map (rows t).functions (function_view (rows t)) ∙ ap (λ (c : Counts). c.functions) (sizes_are t w.readable.counted)

  -- the blocks of a used function
  module _ (f : ℕ) (used : f < t.counts.functions) where
    abbrev blocks_run : Run
    blocks_run = (get_or t.functions f null_function).blocks

    abbrev blocks : List BlockV
    blocks = map (block_view (rows t)) (in_run (rows t).blocks blocks_run)

    blocks_are : (function_at (view t) f).blocks ≡ blocks
    blocks_are = ap (λ (g : FunctionV). g.blocks) (function_is t w f used)

    pub blocks_fit : RunFits blocks_run t.counts.blocks
    blocks_fit = (function_fits t w f used).blocks

    blocks_long : length blocks ≡ blocks_run.count
    blocks_long = length-map (in_run (rows t).blocks blocks_run) (block_view (rows t)) ∙ length_run blocks_run (rows t).blocks (omega (arith, blocks_size, blocks_fit))

    -- what its rows read has mark bytes
    pub function_rows_range : (marks : List ℕ) → t.counts.identifiers ≤ length marks → (i : InstructionV) → Lists (rows_of (function_at (view t) f).blocks) i → InRange marks (reads i)
    function_rows_range marks wide i l =
        rows_range marks wide (in_run (rows t).blocks blocks_run) (All-take (BlockLegible t.counts (rows t).numbers) blocks_run.count _ (All-drop (BlockLegible t.counts (rows t).numbers) blocks_run.first (rows t).blocks w.blocks)) i
        (subst (λ (bs : List BlockV). Lists (rows_of bs) i) blocks_are l)

    -- and so has what its terminals read
    pub function_terminals_range : (marks : List ℕ) → t.counts.identifiers ≤ length marks → InRange marks (terminal_reads (function_at (view t) f).blocks)
    function_terminals_range marks wide = subst (λ (bs : List BlockV). InRange marks (terminal_reads bs)) (sym blocks_are) (terminals_range marks wide (in_run (rows t).blocks blocks_run))

    -- its k-th block, and the places of its terminal as the code reads them
    module _ (terminals : TerminalsFit t) (k : ℕ) (inside : k < blocks_run.count) where
      abbrev block : BasicBlock
      block = get_or t.blocks (blocks_run.first + k) null_block

      block_is : get_or (rows t).blocks (blocks_run.first + k) null_block ≡ block
      block_is = get_or-take t.counts.blocks t.blocks (blocks_run.first + k) null_block (omega (arith, blocks_fit))

      block_at : get_or blocks k (block_view (rows t) null_block) ≡ block_view (rows t) block
      block_at =
          get_or-map (block_view (rows t)) (in_run (rows t).blocks blocks_run) k null_block (block_view (rows t) null_block) (covered blocks_run (rows t).blocks k inside (omega (arith, blocks_size, blocks_fit)))
          ∙ ap (block_view (rows t)) (getD_run blocks_run (rows t).blocks k null_block inside ∙ block_is)

      places_in : RunFits block.places t.counts.places
      places_in = subst (λ (b : BasicBlock). RunFits b.places t.counts.places) block_is (All-get_or (λ (b : BasicBlock). RunFits b.places t.counts.places) (rows t).blocks (blocks_run.first + k) null_block (omega (arith, blocks_size, blocks_fit)) terminals)

      pub terminal_in_table : RunFits block.places (length t.places)
      terminal_in_table = omega (arith, places_in, w.readable.counted.places.in_table)

      abbrev pub terminal : List Place
      terminal = take (block.places.first + block.places.count - block.places.first) (drop block.places.first t.places)

      read : terminal ≡ in_run (rows t).places block.places
      read = slice_run block.places t.counts.places t.places (omega (arith, w.readable.counted.places.in_table)) places_in

      pub terminal_fit : AllByRecursion (PlaceFits t.counts) terminal
      terminal_fit = subst (AllByRecursion (PlaceFits t.counts)) (sym read) (run_places_fit block.places)

      pub terminal_seen : ids terminal ≡ identifiers_of (terminal_at (function_at (view t) f).blocks k)
      terminal_seen =
          ap ids read
          ∙ sym (ids_seen (rows t).text (in_run (rows t).places block.places))
          ∙ ap (λ (b : BlockV). identifiers_of b.places) (sym block_at)
          ∙ ap identifiers_of (sym (terminal_is blocks k (block_view (rows t) null_block) (omega (arith, inside, blocks_long))))
          ∙ ap (λ bs. identifiers_of (terminal_at bs k)) (sym blocks_are)
