-- A block is given another list, and the list table changes with it: what the view becomes, and that the store stays sound.
use Rattle.std.proofs.Common.{◌≡◌, ℕ, zero, suc, ◌+◌, ◌<◌, ◌≢◌, List, [], ◌∷◌, map, length, get_or, set, sym, refl, ap, ◌∙◌, subst, arith}
use Rattle.std.specs.List.{AllByRecursion}
use Rattle.std.proofs.ByRecursion.{All-get_or, All-weaker}
use Rattle.rules.specs.Lists.{changed}
use Rattle.rules.specs.Views.{InstructionV, with_rows, with_blocks, with_list}
use Rattle.hir.specs.declared.rows.Run.{Run}
use Rattle.hir.specs.declared.rows.Counts.{Counts}
use Rattle.hir.specs.declared.rows.BasicBlock.{BasicBlock}
use Rattle.hir.specs.Used.{in_run}
use Rattle.hir.specs.View.{Rows, put_numbers, put_blocks, null_block, null_function, places_view, instructions_at, block_view, function_view, seen}
use Rattle.hir.specs.WellFormed.{RunFits, Clear, Pairwise, Unlike, IdentifierFits, PlaceFits, InstructionFits, BlockFits, FunctionFits, BlocksApart, FunctionsApart, Sound}
use Rattle.hir.specs.Lists.{listing_run}
use Rattle.hir.proofs.Runs.{run_set_clear, run_set_inside, getD_run, covers, covered, clear_unlike}
use Rattle.hir.proofs.Pairs.{pairwise_set, all_but_set}
use Rattle.hir.proofs.Growth.{More, identifier_grows, place_grows, instruction_grows, function_grows, apart_other_way}

-- maps that agree but at one position
map_all_same : {A B : Type 0} (f g : A → B) (xs : List A) (d : A) → ((j : ℕ) → j < length xs → g (get_or xs j d) ≡ f (get_or xs j d)) → map g xs ≡ map f xs
map_all_same f g [] d h = refl
map_all_same f g (x ∷ xs) d h = λ i. h 0 (omega arith) i ∷ map_all_same f g xs d (λ j l. h (suc j) (omega arith)) i

map_changed : {A B : Type 0} (f g : A → B) (c : B → B) (xs : List A) (n : ℕ) (d : A) → n < length xs
    → ((j : ℕ) → j < length xs → j ≢ n → g (get_or xs j d) ≡ f (get_or xs j d)) → g (get_or xs n d) ≡ c (f (get_or xs n d)) → map g xs ≡ changed c n (map f xs)
map_changed f g c [] n d h others here = refl
map_changed f g c (x ∷ xs) zero d h others here = λ i. here i ∷ map_all_same f g xs d (λ j l. others (suc j) (omega arith) (λ e. omega arith)) i
map_changed f g c (x ∷ xs) (suc n) d h others here = λ i. others 0 (omega arith) (λ e. omega arith) i ∷ map_changed f g c xs n d (omega arith) (λ j l ne. others (suc j) (omega arith) (λ e. omega arith)) here i

map_changed_set : {A B : Type 0} (f g : A → B) (c : B → B) (xs : List A) (k : ℕ) (d y : A) → k < length xs
    → ((j : ℕ) → j < length xs → j ≢ k → g (get_or xs j d) ≡ f (get_or xs j d)) → g y ≡ c (f (get_or xs k d)) → map g (set xs k y) ≡ changed c k (map f xs)
map_changed_set f g c [] k d y h others here = refl
map_changed_set f g c (x ∷ xs) zero d y h others here = λ i. here i ∷ map_all_same f g xs d (λ j l. others (suc j) (omega arith) (λ e. omega arith)) i
map_changed_set f g c (x ∷ xs) (suc k) d y h others here = λ i. others 0 (omega arith) (λ e. omega arith) i ∷ map_changed_set f g c xs k d y (omega arith) (λ j l ne. others (suc j) (omega arith) (λ e. omega arith)) here i

-- Block n now lists what `run` covers in the numbers ms, which are ns. The other runs cover in ms what they covered before.
module _ (r : Rows) (ms : List ℕ) (n : ℕ) (run : Run) (ns : List ℕ) (inside : n < length r.blocks)
    (lists : (i : ℕ) → i < length r.blocks → i ≢ n → in_run ms (get_or r.blocks i null_block).instructions ≡ in_run r.numbers (get_or r.blocks i null_block).instructions)
    (preds : (i : ℕ) → i < length r.blocks → in_run ms (get_or r.blocks i null_block).preds ≡ in_run r.numbers (get_or r.blocks i null_block).preds)
    (here : in_run ms run ≡ ns) where
  abbrev b : ℕ → BasicBlock
  b i = get_or r.blocks i null_block

  abbrev new : BasicBlock
  new = listing_run (b n) run

  abbrev pub relisted : Rows
  relisted = put_blocks (put_numbers r ms) (set r.blocks n new)

  abbrev ls : List InstructionV
  ls = instructions_at r ns

  other_block : (i : ℕ) → i < length r.blocks → i ≢ n → block_view relisted (b i) ≡ block_view r (b i)
  other_block i h ne = λ v. record {
    kind = (b i).kind;
    terminal = (b i).terminal;
    detail = (b i).detail;
    places = places_view r (b i).places;
    rows = instructions_at r (lists i h ne v);
    preds = preds i h v;
  }

  this_block : block_view relisted new ≡ with_rows (block_view r (b n)) ls
  this_block = λ v. record {
    kind = (b n).kind;
    terminal = (b n).terminal;
    detail = (b n).detail;
    places = places_view r (b n).places;
    rows = instructions_at r (here v);
    preds = preds n inside v;
  }

  -- block n is the k-th of function f, and of no other
  module _ (f k : ℕ) (apart : Pairwise FunctionsApart r.functions) (hf : f < length r.functions)
      (hk : k < (get_or r.functions f null_function).blocks.count) (is_n : (get_or r.functions f null_function).blocks.first + k ≡ n) where
    abbrev run_at : ℕ → Run
    run_at j = (get_or r.functions j null_function).blocks

    other_function : (j : ℕ) → j < length r.functions → j ≢ f → function_view relisted (get_or r.functions j null_function) ≡ function_view r (get_or r.functions j null_function)
    other_function j hj ne =
        let clear : Clear (run_at j) (run_at f) = apart j f null_function hj hf ne in
        ap (λ bs. with_blocks (function_view r (get_or r.functions j null_function)) bs)
        (ap (λ m. map (block_view relisted) (in_run (set r.blocks m new) (run_at j))) (sym is_n)
        ∙ ap (map (block_view relisted)) (run_set_clear (run_at j) (run_at f) k r.blocks new clear hk)
        ∙ map_all_same (block_view r) (block_view relisted) (in_run r.blocks (run_at j)) null_block (λ m h.
        let v = covers (run_at j) r.blocks m h in
        let e = getD_run (run_at j) r.blocks m null_block v.0 in
        ap (block_view relisted) e ∙ other_block ((run_at j).first + m) v.1 (λ q. clear_unlike (run_at j) (run_at f) m k clear v.0 hk (q ∙ sym is_n)) ∙ ap (block_view r) (sym e)))

    this_function : function_view relisted (get_or r.functions f null_function) ≡ with_blocks (function_view r (get_or r.functions f null_function)) (changed (λ c. with_rows c ls) k (function_view r (get_or r.functions f null_function)).blocks)
    this_function =
        let e = getD_run (run_at f) r.blocks k null_block hk in
        ap (λ bs. with_blocks (function_view r (get_or r.functions f null_function)) bs)
        (ap (λ m. map (block_view relisted) (in_run (set r.blocks m new) (run_at f))) (sym is_n)
        ∙ ap (map (block_view relisted)) (run_set_inside (run_at f) k r.blocks new hk)
        ∙ map_changed_set (block_view r) (block_view relisted) (λ c. with_rows c ls) (in_run r.blocks (run_at f)) k null_block new (covered (run_at f) r.blocks k hk (omega (arith, is_n)))
        (λ m h ne.
        let v = covers (run_at f) r.blocks m h in
        let g = getD_run (run_at f) r.blocks m null_block v.0 in
        ap (block_view relisted) g ∙ other_block ((run_at f).first + m) v.1 (λ q. ne (omega (arith, q, is_n))) ∙ ap (block_view r) (sym g))
        (this_block ∙ ap (λ m. with_rows (block_view r (b m)) ls) (sym is_n) ∙ ap (λ x. with_rows (block_view r x) ls) (sym e)))

    pub relisted_seen : seen relisted ≡ with_list (seen r) f k (instructions_at r ns)
    relisted_seen = λ i. record {
      identifiers = (seen r).identifiers;
      functions = map_changed (function_view r) (function_view relisted) (λ g. with_blocks g (changed (λ c. with_rows c ls) k g.blocks)) r.functions f null_function hf other_function this_function i;
      bears = (seen r).bears;
      used_rows = (seen r).used_rows;
      counter = r.counter;
      mark = r.mark;
      text = r.text;
    }

  -- d are the counts after it; only that of the numbers may differ from c
  module _ (c d : Counts) (w : Sound c r) (alike : More c d) (run_fits : RunFits run d.numbers) (fit : AllByRecursion (λ m. m < d.instructions) ns) (once : Pairwise ◌≢◌ ns)
      (own : Clear run (b n).preds)
      (clear : (i : ℕ) → i < length r.blocks → i ≢ n → Clear (b i).instructions run × Clear (b i).preds run)
      (unlike : (i : ℕ) → i < length r.blocks → i ≢ n → Unlike (in_run r.numbers (b i).instructions) ns) where
    old_fits : (i : ℕ) → i < length r.blocks → BlockFits c r.numbers (b i)
    old_fits i h = All-get_or (BlockFits c r.numbers) r.blocks i null_block h w.blocks

    named_still : (i : ℕ) → i < length r.blocks → AllByRecursion (λ m. m < d.blocks) (in_run ms (b i).preds)
    named_still i h = subst (AllByRecursion (λ m. m < d.blocks)) (sym (preds i h)) (All-weaker (λ m. m < c.blocks) (λ m. m < d.blocks) (λ m l. omega (arith, alike.blocks)) (in_run r.numbers (b i).preds) (old_fits i h).named)

    other_fits : (i : ℕ) → i < length r.blocks → i ≢ n → BlockFits d ms (b i)
    other_fits i h ne = let o = old_fits i h in record {
      places = omega (arith, o.places, alike.places);
      instructions = omega (arith, o.instructions, alike.numbers);
      preds = omega (arith, o.preds, alike.numbers);
      listed = subst (AllByRecursion (λ m. m < d.instructions)) (sym (lists i h ne)) (All-weaker (λ m. m < c.instructions) (λ m. m < d.instructions) (λ m l. omega (arith, alike.instructions)) (in_run r.numbers (b i).instructions) o.listed);
      named = named_still i h;
      once = subst (λ (l : List ℕ). Pairwise ◌≢◌ l) (sym (lists i h ne)) o.once;
      own = o.own;
    }

    this_fits : BlockFits d ms new
    this_fits = let o = old_fits n inside in record {
      places = omega (arith, o.places, alike.places);
      instructions = run_fits;
      preds = omega (arith, o.preds, alike.numbers);
      listed = subst (AllByRecursion (λ m. m < d.instructions)) (sym here) fit;
      named = named_still n inside;
      once = subst (λ (l : List ℕ). Pairwise ◌≢◌ l) (sym here) once;
      own = own;
    }

    others_apart : (i j : ℕ) → i < length r.blocks → j < length r.blocks → i ≢ j → i ≢ n → j ≢ n → BlocksApart ms (b i) (b j)
    others_apart i j hi hj ne ni nj = let a = w.blocks_apart i j null_block hi hj ne in record {
      lists = a.lists;
      list_preds = a.list_preds;
      preds_list = a.preds_list;
      preds = a.preds;
      rows = subst (λ (l : List ℕ). Unlike l (in_run ms (b j).instructions)) (sym (lists i hi ni)) (subst (λ (l : List ℕ). Unlike (in_run r.numbers (b i).instructions) l) (sym (lists j hj nj)) a.rows);
    }

    this_apart : (i : ℕ) → i < length r.blocks → i ≢ n → BlocksApart ms (b i) new
    this_apart i h ne = let a = w.blocks_apart i n null_block h inside ne in record {
      lists = (clear i h ne).0;
      list_preds = a.list_preds;
      preds_list = (clear i h ne).1;
      preds = a.preds;
      rows = subst (λ (l : List ℕ). Unlike l (in_run ms run)) (sym (lists i h ne)) (subst (λ (l : List ℕ). Unlike (in_run r.numbers (b i).instructions) l) (sym here) (unlike i h ne));
    }

    pub relisted_sound : Sound d relisted
    relisted_sound = record {
      identifiers = All-weaker (IdentifierFits c) (IdentifierFits d) (λ x. identifier_grows c d alike x x.name) r.identifiers w.identifiers;
      places = All-weaker (PlaceFits c) (PlaceFits d) (place_grows c d alike) r.places w.places;
      instructions = All-weaker (InstructionFits c) (InstructionFits d) (instruction_grows c d alike) r.instructions w.instructions;
      blocks = all_but_set (BlockFits d ms) r.blocks n new null_block inside other_fits this_fits;
      functions = All-weaker (FunctionFits c) (FunctionFits d) (function_grows c d alike) r.functions w.functions;
      blocks_apart = pairwise_set (BlocksApart ms) r.blocks n new null_block inside others_apart (λ i h ne. let a = this_apart i h ne in (a, apart_other_way ms (b i) new a));
      functions_apart = w.functions_apart;
    }
