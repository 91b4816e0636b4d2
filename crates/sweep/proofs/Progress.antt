-- The lists of a function, from its first block on, made shorter in place.
use Rattle.std.proofs.Common.{◌≡◌, ℕ, ◌+◌, ◌<◌, ◌≤◌, Bool, ◌≢◌, List, [], map, length, get_or, take, set, sym, refl, ap, ◌∙◌, subst, inl, inr, arith, length-set, length-take-le, get_or-set_other, get_or-set_same}
use lib.ListN.{length-map}
use lib.Seq.{length-paste}
use Rattle.std.proofs.lemmas.List.{take_all, map_more}
use Rattle.std.proofs.lemmas.Bool.{cases_eq}
use Rattle.rules.specs.Lists.{select}
use Rattle.rules.specs.Views.{InstructionV, BlockV, Hir, function_at, block_rows, rows_at, with_list}
use Rattle.rules.specs.Eliminations.{lists}
use Rattle.hir.specs.declared.rows.Run.{Run}
use Rattle.hir.specs.declared.rows.Counts.{Counts}
use Rattle.hir.specs.declared.rows.BasicBlock.{BasicBlock}
use Rattle.hir.specs.declared.rows.HirFunction.{HirFunction}
use Rattle.hir.specs.declared.rows.Store.{Store}
use Rattle.hir.specs.Tables.{Tables, tables, Held}
use Rattle.hir.specs.View.{view, null_block, null_function}
use Rattle.hir.specs.WellFormed.{RunFits, WellFormed}
use Rattle.hir.specs.Lists.{block_number, block_of, listing_run, thinned_run, with_thinned_list, HasBlock}
use Rattle.hir.specs.Frame.{Becomes, Kept, without_list}
use Rattle.hir.proofs.Frames.{kept_same, kept_then}
use Rattle.hir.proofs.Listed.{block_used, block_fits_at}
use Rattle.thin.specs.Kept.{kept_numbers}
use Rattle.thin.proofs.Thinned.{thinned_short}
use Rattle.dead_code_elimination.specs.Elimination.{Outside, OnlyLists, Eliminates}
use Rattle.dead_code_elimination.proofs.Same.{only_same}
use Rattle.sweep.specs.Marks.{is_marked, kept_by, by_marks}
use Rattle.hir.proofs.Seen.{legible, blocks_counted}
use Rattle.sweep.proofs.Reading.{functions_seen}
use Rattle.sweep.proofs.Thinning.{lists_long, lists_at, listing_past, relisted, relisted_more, relisted_none, relisted_blocks, paste_outside}

-- the first k lists are done; the blocks from k on are as they were
pub record Progress (t : Tables) (marks : List ℕ) (f k : ℕ) (u : Tables) : Type 0 where
  pub seen : view u ≡ relisted (view t) f (map (select (kept_by (is_marked marks))) (take k (lists (function_at (view t) f).blocks)))
  pub well : WellFormed u
  pub kept : Kept t u
  pub only : OnlyLists t u f
  pub later : (j : ℕ) → k ≤ j → get_or u.blocks (block_number t f j) null_block ≡ block_of t f j

module _ (t : Tables) (w : WellFormed t) (f : ℕ) (used : f < t.counts.functions) (marks : List ℕ) (wide : t.counts.identifiers ≤ length marks) where
  abbrev q : InstructionV → Bool
  q = kept_by (is_marked marks)

  abbrev bs : List BlockV
  bs = (function_at (view t) f).blocks

  abbrev count : ℕ
  count = (get_or t.functions f null_function).blocks.count

  bs_long : length bs ≡ count
  bs_long = blocks_counted t (legible t w) f used

  pub start : Progress t marks f 0 t
  start = record { seen = relisted_none (view t) f; well = w; kept = kept_same t; only = only_same t f; later = λ j h. refl }

  module _ (k : ℕ) (h : k < count) (u : Tables) (g : Progress t marks f k u) where
    abbrev wu : WellFormed u
    wu = g.well

    used_u : f < u.counts.functions
    used_u = subst (λ (c : Counts). f < c.functions) (sym g.only.counts) used

    pub wide_u : u.counts.identifiers ≤ length marks
    wide_u = subst (λ (c : Counts). c.identifiers ≤ length marks) (sym g.only.counts) wide

    block_in : k < (get_or u.functions f null_function).blocks.count
    block_in = subst (λ (fs : List HirFunction). k < (get_or fs f null_function).blocks.count) (sym g.only.functions) h

    pub has : HasBlock u f k
    has = record { function = used_u; block = block_in }

    abbrev at : ℕ
    at = block_number u f k

    at_is : (j : ℕ) → block_number u f j ≡ block_number t f j
    at_is j = ap (λ (fs : List HirFunction). (get_or fs f null_function).blocks.first + j) g.only.functions

    at_used : at < u.counts.blocks
    at_used = block_used u wu f k has

    at_in : at < length u.blocks
    at_in = omega (arith, at_used, wu.counted.blocks.in_table)

    this_is : block_of u f k ≡ block_of t f k
    this_is = ap (λ n. get_or u.blocks n null_block) (at_is k) ∙ g.later k (omega arith)

    abbrev run : Run
    run = (block_of u f k).instructions

    run_fits : RunFits run (length u.numbers)
    run_fits = omega (arith, (block_fits_at u wu f k has).instructions, wu.counted.numbers.in_table)

    abbrev xs : List ℕ
    xs = kept_numbers q u f k

    short : length xs ≤ run.count
    short = thinned_short q u wu f k has

    -- what block k listed
    abbrev ls : List (List InstructionV)
    ls = map (select q) (take k (lists bs))

    ls_long : length ls ≡ k
    ls_long = length-map (take k (lists bs)) (select q) ∙ length-take-le k (lists bs) (omega (arith, lists_long bs, bs_long))

    listed_was : rows_at (view u) f k ≡ get_or (lists bs) k []
    listed_was =
        ap (λ (x : Hir). rows_at x f k) g.seen
        ∙ ap (λ (cs : List BlockV). block_rows cs k) (relisted_blocks (view t) f ls (omega (arith, functions_seen t (legible t w))))
        ∙ listing_past bs ls k (omega (arith, ls_long))
        ∙ lists_at bs k

    seen_now : with_list (view u) f k (select q (rows_at (view u) f k)) ≡ relisted (view t) f (map (select q) (take (k + 1) (lists bs)))
    seen_now =
        ap (λ (l : List InstructionV). with_list (view u) f k (select q l)) listed_was
        ∙ ap (λ (x : Hir). with_list x f k (select q (get_or (lists bs) k []))) g.seen
        ∙ ap (λ n. with_list (relisted (view t) f ls) f n (select q (get_or (lists bs) k []))) (sym ls_long)
        ∙ relisted_more (view t) f ls (select q (get_or (lists bs) k []))
        ∙ ap (relisted (view t) f) (sym (map_more (select q) (lists bs) k [] (omega (arith, lists_long bs, bs_long))))

    -- nothing but this list
    abbrev new : BasicBlock
    new = listing_run (block_of u f k) (thinned_run u f k xs)

    abbrev v : Tables
    v = with_thinned_list u f k xs

    not_at : (n : ℕ) → Outside (get_or t.functions f null_function).blocks n → n ≢ at
    not_at n (inl l) e = omega (arith, e, at_is k)
    not_at n (inr l) e = omega (arith, e, at_is k)

    only_now : OnlyLists t v f
    only_now = let o = g.only in record {
      counts = o.counts;
      text = o.text;
      identifiers = o.identifiers;
      places = o.places;
      instructions = o.instructions;
      functions = o.functions;
      numbers_long = length-paste u.numbers run.first xs (length xs) (omega (arith, run_fits, short)) (omega arith) ∙ o.numbers_long;
      numbers = λ n out. paste_outside u.numbers run xs n run_fits short (subst (λ (b : BasicBlock). Outside b.instructions n) (sym this_is) (out k h)) ∙ o.numbers n out;
      blocks_long = length-set u.blocks at new ∙ o.blocks_long;
      blocks = λ n. elim (cases_eq n at) [
        | inl e ↦ ap (λ m. without_list (get_or (set u.blocks at new) m null_block)) e ∙ ap without_list (get_or-set_same u.blocks at new null_block at_in) ∙ ap (λ m. without_list (get_or u.blocks m null_block)) (sym e) ∙ o.blocks n
        | inr ne ↦ ap without_list (get_or-set_other u.blocks at n new null_block ne) ∙ o.blocks n
      ];
      other_blocks = λ n out. get_or-set_other u.blocks at n new null_block (not_at n out) ∙ o.other_blocks n out;
    }

    pub step : (before after : Store) → tables before ≡ u → Becomes before after v (with_list (view u) f k (select q (rows_at (view u) f k))) → Progress t marks f (k + 1) (tables after)
    step before after e b = record {
      seen = b.seen ∙ seen_now;
      well = b.well;
      kept = kept_then g.kept (subst (λ (s : Tables). Kept s (tables after)) e b.kept);
      only = subst (λ (s : Tables). OnlyLists t s f) (sym b.writes) only_now;
      later = λ j l. ap (λ (s : Tables). get_or s.blocks (block_number t f j) null_block) b.writes ∙ get_or-set_other u.blocks at (block_number t f j) new null_block (λ z. omega (arith, z, at_is k)) ∙ g.later j (omega arith);
    }

  -- all of them
  pub all_seen : (u : Tables) → Progress t marks f count u → view u ≡ relisted (view t) f (by_marks marks (view t) f)
  all_seen u g = g.seen ∙ ap (λ (l : List (List InstructionV)). relisted (view t) f (map (select q) l)) (take_all count (lists bs) (omega (arith, lists_long bs, bs_long)))

pub all_done : (before after : Store) (w : WellFormed (tables before)) (f : ℕ) (used : f < (tables before).counts.functions) (marks : List ℕ) (wide : (tables before).counts.identifiers ≤ length marks)
    → Progress (tables before) marks f (get_or (tables before).functions f null_function).blocks.count (tables after) → Held after before → Eliminates (by_marks marks) before after f
all_done before after w f used marks wide g held = record { seen = all_seen (tables before) w f used marks wide (tables after) g; well = g.well; kept = g.kept; only = g.only; held = held }
