-- The tables after a block is appended with its list, given a new list, or its list made shorter.
use Rattle.std.proofs.Common.{◌≡◌, ℕ, ◌+◌, ◌<◌, ◌≤◌, ◌≢◌, List, ◌++◌, length, get_or, take, set, sym, refl, ap, ◌∙◌, subst, inl, inr, arith, length-set, length-take-le, get_or-take}
use lib.Seq.{paste, length-paste, take-set-lt}
use Rattle.std.specs.List.{AllByRecursion}
use Rattle.std.proofs.ByRecursion.{All-get_or, All-from_get_or}
use Rattle.std.proofs.lemmas.Bool.{cases_eq}
use Rattle.rules.specs.Views.{with_list}
use Rattle.hir.specs.declared.rows.Run.{Run}
use Rattle.hir.specs.declared.rows.Counts.{Counts}
use Rattle.hir.specs.declared.rows.BasicBlock.{BasicBlock}
use Rattle.hir.specs.declared.rows.HirFunction.{HirFunction}
use Rattle.hir.specs.Used.{in_run}
use Rattle.hir.specs.Tables.{Tables, hold_numbers, with_numbers, over_block}
use Rattle.hir.specs.View.{Rows, rows, put_numbers, put_blocks, null_run, null_block, null_function, instructions_at, seen, view}
use Rattle.hir.specs.WellFormed.{Room, numbers_limit, blocks_limit, RunFits, Clear, Pairwise, Unlike, BlockFits, FunctionFits, BlocksApart, Sound, Counted, WellFormed}
use Rattle.hir.specs.Lists.{listing_run, next_run, with_listed_block, ListFits, BlockFitsIn, block_number, block_of, with_new_list, HasBlock, UnlistedBut, thinned_run, with_thinned_list}
use Rattle.hir.specs.Frame.{Kept}
use Rattle.hir.proofs.Runs.{run_last, run_more, run_used, run_clear, run_written, clear_past, clear_shorter, clear_other_way}
use Rattle.hir.proofs.Frames.{kept_then, kept_numbers, kept_block, kept_over_block, kept_rewritten}
use Rattle.hir.proofs.Growth.{More, sizes_are}
use Rattle.hir.proofs.Laws.{rows_numbers, view_numbers, well_numbers, view_block, well_block}
use Rattle.hir.proofs.Relisting.{relisted, relisted_seen, relisted_sound}

-- A block appended with its list.
module _ (t : Tables) (w : WellFormed t) (b : BasicBlock) (xs : List ℕ) (numbers : Room t.counts.numbers (length xs) (length t.numbers) numbers_limit)
    (blocks : Room t.counts.blocks 1 (length t.blocks) blocks_limit) (fit : BlockFitsIn t b xs) where
  abbrev t₁ : Tables
  t₁ = with_numbers t xs

  w₁ : WellFormed t₁
  w₁ = well_numbers t w xs numbers

  abbrev x : BasicBlock
  x = listing_run b (next_run t xs)

  numbers_size : length (rows t).numbers ≡ t.counts.numbers
  numbers_size = length-take-le t.counts.numbers t.numbers (omega (arith, numbers.in_table))

  numbers_are : (rows t₁).numbers ≡ (rows t).numbers ++ xs
  numbers_are = ap (λ (s : Rows). s.numbers) (rows_numbers t w xs numbers)

  list_is : in_run (rows t₁).numbers (next_run t xs) ≡ xs
  list_is = ap (λ (l : List ℕ). in_run l (next_run t xs)) numbers_are ∙ run_last t.counts.numbers (length xs) (rows t).numbers xs (sym numbers_size) refl

  empty_fits : (n : ℕ) (run : Run) → run ≡ null_run → RunFits run n
  empty_fits n run e = subst (λ (v : Run). RunFits v n) (sym e) (omega arith)

  empty_clear : (a run : Run) → run ≡ null_run → Clear a run
  empty_clear a run e = subst (Clear a) (sym e) (inr (inl refl))

  block_fits : BlockFits t₁.counts (rows t₁).numbers x
  block_fits = record {
    places = fit.places;
    instructions = omega arith;
    preds = empty_fits t₁.counts.numbers b.preds fit.preds;
    listed = subst (AllByRecursion (λ n. n < t.counts.instructions)) (sym list_is) fit.list.listed;
    named = subst (λ (v : Run). AllByRecursion (λ n. n < t.counts.blocks) (in_run (rows t₁).numbers v)) (sym fit.preds) tt;
    once = subst (λ (l : List ℕ). Pairwise ◌≢◌ l) (sym list_is) fit.list.once;
    own = empty_clear (next_run t xs) b.preds fit.preds;
  }

  block_apart : AllByRecursion (λ c. BlocksApart (rows t₁).numbers c x) (rows t₁).blocks
  block_apart = All-from_get_or (λ c. BlocksApart (rows t₁).numbers c x) (rows t).blocks null_block (λ i h.
      let c : BasicBlock = get_or (rows t).blocks i null_block in
      let o = All-get_or (BlockFits t.counts (rows t).numbers) (rows t).blocks i null_block h w.sound.blocks in
      let u = All-get_or (λ (c : BasicBlock). Unlike (in_run (rows t).numbers c.instructions) xs) (rows t).blocks i null_block h fit.unlisted in
      let e : in_run (rows t).numbers c.instructions ≡ in_run (rows t₁).numbers c.instructions = sym (ap (λ (l : List ℕ). in_run l c.instructions) numbers_are ∙ run_more c.instructions (rows t).numbers xs (omega (arith, o.instructions, numbers_size))) in
      record {
        lists = clear_past c.instructions t.counts.numbers (length xs) o.instructions;
        list_preds = empty_clear c.instructions b.preds fit.preds;
        preds_list = clear_past c.preds t.counts.numbers (length xs) o.preds;
        preds = empty_clear c.preds b.preds fit.preds;
        rows = subst (λ (l : List ℕ). Unlike l (in_run (rows t₁).numbers (next_run t xs))) e (subst (λ (l : List ℕ). Unlike (in_run (rows t).numbers c.instructions) l) (sym list_is) u);
      })

  pub view_listed_block : view (with_listed_block t b xs) ≡ view t
  view_listed_block = view_block t₁ w₁ x blocks ∙ view_numbers t w xs numbers

  pub well_listed_block : WellFormed (with_listed_block t b xs)
  well_listed_block = well_block t₁ w₁ x blocks block_fits block_apart

  pub kept_listed_block : Kept t (with_listed_block t b xs)
  kept_listed_block = kept_then (kept_numbers t xs numbers.in_table) (kept_block t₁ x)

-- The k-th block of function f, among the used rows.
module _ (t : Tables) (w : WellFormed t) (f k : ℕ) (has : HasBlock t f k) where
  abbrev r : Rows
  r = rows t

  abbrev n : ℕ
  n = block_number t f k

  functions_size : length r.functions ≡ t.counts.functions
  functions_size = ap (λ (c : Counts). c.functions) (sizes_are t w.counted)

  blocks_size : length r.blocks ≡ t.counts.blocks
  blocks_size = ap (λ (c : Counts). c.blocks) (sizes_are t w.counted)

  pub numbers_sized : length r.numbers ≡ t.counts.numbers
  numbers_sized = ap (λ (c : Counts). c.numbers) (sizes_are t w.counted)

  function_in : f < length r.functions
  function_in = omega (arith, functions_size, has.function)

  function_is : get_or r.functions f null_function ≡ get_or t.functions f null_function
  function_is = get_or-take t.counts.functions t.functions f null_function has.function

  k_in : k < (get_or r.functions f null_function).blocks.count
  k_in = subst (λ (g : HirFunction). k < g.blocks.count) (sym function_is) has.block

  is_n : (get_or r.functions f null_function).blocks.first + k ≡ n
  is_n = ap (λ (g : HirFunction). g.blocks.first + k) function_is

  block_in : n < length r.blocks
  block_in =
      let o = All-get_or (FunctionFits t.counts) r.functions f null_function function_in w.sound.functions in
      omega (arith, o.blocks, blocks_size, k_in, is_n)

  pub block_used : n < t.counts.blocks
  block_used = omega (arith, block_in, blocks_size)

  -- the used row is the row
  pub block_is : (i : ℕ) → i < t.counts.blocks → get_or r.blocks i null_block ≡ get_or t.blocks i null_block
  block_is i h = get_or-take t.counts.blocks t.blocks i null_block h

  fits_at : (i : ℕ) → i < length r.blocks → BlockFits t.counts r.numbers (get_or r.blocks i null_block)
  fits_at i h = All-get_or (BlockFits t.counts r.numbers) r.blocks i null_block h w.sound.blocks

  pub block_fits_at : BlockFits t.counts r.numbers (block_of t f k)
  block_fits_at = subst (BlockFits t.counts r.numbers) (block_is n block_used) (fits_at n block_in)

  rows_over : (u : Tables) (x : BasicBlock) → u.counts.blocks ≡ t.counts.blocks → u.blocks ≡ t.blocks → (rows (over_block u n x)).blocks ≡ set r.blocks n x
  rows_over u x e g = (λ i. take (e i) (set (g i) n x)) ∙ take-set-lt t.counts.blocks t.blocks n x block_used

  -- a new list
  module _ (xs : List ℕ) (room : Room t.counts.numbers (length xs) (length t.numbers) numbers_limit) where
    abbrev longer : List ℕ
    longer = r.numbers ++ xs

    abbrev new_run : Run
    new_run = next_run t xs

    numbers_now : (rows (with_numbers t xs)).numbers ≡ longer
    numbers_now = ap (λ (s : Rows). s.numbers) (rows_numbers t w xs room)

    new_here : in_run longer new_run ≡ xs
    new_here = run_last t.counts.numbers (length xs) r.numbers xs (sym numbers_sized) refl

    new_lists : (i : ℕ) → i < length r.blocks → i ≢ n → in_run longer (get_or r.blocks i null_block).instructions ≡ in_run r.numbers (get_or r.blocks i null_block).instructions
    new_lists i h ne = let o = fits_at i h in run_more (get_or r.blocks i null_block).instructions r.numbers xs (omega (arith, o.instructions, numbers_sized))

    new_preds : (i : ℕ) → i < length r.blocks → in_run longer (get_or r.blocks i null_block).preds ≡ in_run r.numbers (get_or r.blocks i null_block).preds
    new_preds i h = let o = fits_at i h in run_more (get_or r.blocks i null_block).preds r.numbers xs (omega (arith, o.preds, numbers_sized))

    rows_new_list : rows (with_new_list t f k xs) ≡ relisted r longer n new_run xs block_in new_lists new_preds new_here
    rows_new_list =
        (λ i. put_blocks (put_numbers r (numbers_now i)) (rows_over (with_numbers t xs) (listing_run (block_of t f k) new_run) refl refl i))
        ∙ ap (λ c. put_blocks (put_numbers r longer) (set r.blocks n (listing_run c new_run))) (sym (block_is n block_used))

    pub view_new_list : view (with_new_list t f k xs) ≡ with_list (view t) f k (instructions_at (rows t) xs)
    view_new_list = ap seen rows_new_list ∙ relisted_seen r longer n new_run xs block_in new_lists new_preds new_here f k w.sound.functions_apart function_in k_in is_n

    counted_new_list : Counted (with_new_list t f k xs)
    counted_new_list = let c = (well_numbers t w xs room).counted in record { text = c.text; identifiers = c.identifiers; places = c.places; instructions = c.instructions; numbers = c.numbers; blocks = record { in_table = simp length-set c.blocks.in_table; in_limit = c.blocks.in_limit }; functions = c.functions }

    new_alike : More t.counts (with_new_list t f k xs).counts
    new_alike = record { text = omega arith; identifiers = omega arith; places = omega arith; instructions = omega arith; numbers = omega arith; blocks = omega arith; functions = omega arith }

    pub well_new_list : ListFits t xs → UnlistedBut t n xs → WellFormed (with_new_list t f k xs)
    well_new_list fit unlisted = record {
      counted = counted_new_list;
      sound = subst (Sound (with_new_list t f k xs).counts) (sym rows_new_list) (relisted_sound r longer n new_run xs block_in new_lists new_preds new_here t.counts (with_new_list t f k xs).counts w.sound new_alike (omega arith) fit.listed fit.once
          (let o = fits_at n block_in in clear_other_way (get_or r.blocks n null_block).preds new_run (clear_past (get_or r.blocks n null_block).preds t.counts.numbers (length xs) o.preds))
          (λ i h ne. let o = fits_at i h in (clear_past (get_or r.blocks i null_block).instructions t.counts.numbers (length xs) o.instructions, clear_past (get_or r.blocks i null_block).preds t.counts.numbers (length xs) o.preds))
          (λ i h ne. let l : i < t.counts.blocks = omega (arith, blocks_size) in subst (λ (c : BasicBlock). Unlike (in_run r.numbers c.instructions) xs) (sym (block_is i l)) (unlisted i l ne)));
    }

    pub kept_new_list : Kept t (with_new_list t f k xs)
    kept_new_list = kept_then (kept_numbers t xs room.in_table) (kept_over_block (with_numbers t xs) n (listing_run (block_of t f k) new_run) block_used (omega (arith, w.counted.blocks.in_table)) refl)

  -- a list made shorter
  module _ (xs : List ℕ) (short : length xs ≤ (block_of t f k).instructions.count) where
    abbrev first : ℕ
    first = (block_of t f k).instructions.first

    abbrev written : List ℕ
    written = paste t.numbers first xs (length xs)

    abbrev ms : List ℕ
    ms = take t.counts.numbers written

    abbrev run : Run
    run = thinned_run t f k xs

    fits_in : first + length xs ≤ t.counts.numbers
    fits_in = omega (arith, block_fits_at.instructions, short)

    long : length written ≡ length t.numbers
    long = length-paste t.numbers first xs (length xs) (omega (arith, fits_in, w.counted.numbers.in_table)) (omega arith)

    ms_size : length ms ≡ t.counts.numbers
    ms_size = length-take-le t.counts.numbers written (omega (arith, long, w.counted.numbers.in_table))

    clear_run : (a : Run) → RunFits a t.counts.numbers → Clear a (block_of t f k).instructions → in_run ms a ≡ in_run r.numbers a
    clear_run a h c =
        run_used a t.counts.numbers written (omega (arith, ms_size))
        ∙ run_clear a (block_of t f k).instructions t.numbers xs c short (omega (arith, block_fits_at.instructions, w.counted.numbers.in_table))
        ∙ sym (run_used a t.counts.numbers t.numbers (omega (arith, numbers_sized)))

    here : in_run ms run ≡ xs
    here = run_used run t.counts.numbers written (omega (arith, ms_size, fits_in)) ∙ run_written first t.numbers xs (omega (arith, fits_in, w.counted.numbers.in_table))

    -- what lies clear of the old list
    clear_list : (i : ℕ) → i < length r.blocks → i ≢ n → Clear (get_or r.blocks i null_block).instructions (block_of t f k).instructions
    clear_list i h ne = subst (λ (c : BasicBlock). Clear (get_or r.blocks i null_block).instructions c.instructions) (block_is n block_used) (w.sound.blocks_apart i n null_block h block_in ne).lists

    clear_preds : (i : ℕ) → i < length r.blocks → i ≢ n → Clear (get_or r.blocks i null_block).preds (block_of t f k).instructions
    clear_preds i h ne = subst (λ (c : BasicBlock). Clear (get_or r.blocks i null_block).preds c.instructions) (block_is n block_used) (w.sound.blocks_apart i n null_block h block_in ne).preds_list

    lists : (i : ℕ) → i < length r.blocks → i ≢ n → in_run ms (get_or r.blocks i null_block).instructions ≡ in_run r.numbers (get_or r.blocks i null_block).instructions
    lists i h ne = clear_run (get_or r.blocks i null_block).instructions (fits_at i h).instructions (clear_list i h ne)

    own_clear : Clear (block_of t f k).preds (block_of t f k).instructions
    own_clear = clear_other_way (block_of t f k).instructions (block_of t f k).preds block_fits_at.own

    preds : (i : ℕ) → i < length r.blocks → in_run ms (get_or r.blocks i null_block).preds ≡ in_run r.numbers (get_or r.blocks i null_block).preds
    preds i h = elim (cases_eq i n) [
      | inl e ↦ clear_run (get_or r.blocks i null_block).preds (fits_at i h).preds (subst (λ (c : BasicBlock). Clear c.preds (block_of t f k).instructions) (sym (ap (λ v. get_or r.blocks v null_block) e ∙ block_is n block_used)) own_clear)
      | inr ne ↦ clear_run (get_or r.blocks i null_block).preds (fits_at i h).preds (clear_preds i h ne)
    ]

    rows_thinned : rows (with_thinned_list t f k xs) ≡ relisted r ms n run xs block_in lists preds here
    rows_thinned =
        (λ i. put_blocks (put_numbers r ms) (rows_over (hold_numbers t t.counts written) (listing_run (block_of t f k) run) refl refl i))
        ∙ ap (λ c. put_blocks (put_numbers r ms) (set r.blocks n (listing_run c run))) (sym (block_is n block_used))

    pub view_thinned : view (with_thinned_list t f k xs) ≡ with_list (view t) f k (instructions_at (rows t) xs)
    view_thinned = ap seen rows_thinned ∙ relisted_seen r ms n run xs block_in lists preds here f k w.sound.functions_apart function_in k_in is_n

    counted_thinned : Counted (with_thinned_list t f k xs)
    counted_thinned = let c = w.counted in record { text = c.text; identifiers = c.identifiers; places = c.places; instructions = c.instructions; numbers = record { in_table = omega (arith, long, c.numbers.in_table); in_limit = c.numbers.in_limit }; blocks = record { in_table = simp length-set c.blocks.in_table; in_limit = c.blocks.in_limit }; functions = c.functions }

    alike : More t.counts t.counts
    alike = record { text = omega arith; identifiers = omega arith; places = omega arith; instructions = omega arith; numbers = omega arith; blocks = omega arith; functions = omega arith }

    pub well_thinned : ListFits t xs → UnlistedBut t n xs → WellFormed (with_thinned_list t f k xs)
    well_thinned fit unlisted = record {
      counted = counted_thinned;
      sound = subst (Sound t.counts) (sym rows_thinned) (relisted_sound r ms n run xs block_in lists preds here t.counts t.counts w.sound alike fits_in fit.listed fit.once
          (clear_other_way (get_or r.blocks n null_block).preds run (clear_shorter (get_or r.blocks n null_block).preds (block_of t f k).instructions (length xs) (subst (λ (c : BasicBlock). Clear c.preds (block_of t f k).instructions) (sym (block_is n block_used)) own_clear) short))
          (λ i h ne. (clear_shorter (get_or r.blocks i null_block).instructions (block_of t f k).instructions (length xs) (clear_list i h ne) short, clear_shorter (get_or r.blocks i null_block).preds (block_of t f k).instructions (length xs) (clear_preds i h ne) short))
          (λ i h ne. let l : i < t.counts.blocks = omega (arith, blocks_size) in subst (λ (c : BasicBlock). Unlike (in_run r.numbers c.instructions) xs) (sym (block_is i l)) (unlisted i l ne)));
    }

    pub kept_thinned : Kept t (with_thinned_list t f k xs)
    kept_thinned = kept_then (kept_rewritten t first xs fits_in (omega (arith, w.counted.numbers.in_table))) (kept_over_block (hold_numbers t t.counts written) n (listing_run (block_of t f k) run) block_used (omega (arith, w.counted.blocks.in_table)) refl)
