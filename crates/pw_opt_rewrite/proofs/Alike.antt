-- Rows that have of shared temporaries what the least solution has make the same of a function.
use Rattle.std.specs.Prelude.{ℕ, suc, ◌≡◌, ◌<◌, Bool, Some, List, [], ◌∷◌, All, length, slice_get, slice_index_or}
use Rattle.std.proofs.Common.{refl, sym, ap, ◌∙◌, arith, inl, inr}
use Rattle.std.proofs.lemmas.List.{get_or-map, get_or_past, length-map}
use Rattle.std.proofs.lemmas.List.Elements.{All-map, All-weaker}
use Rattle.std.proofs.lemmas.Option.{slice_get_within}
use Rattle.pw_flow.specs.declared.flow.Block.{Block}
use Rattle.pw_flow.specs.declared.flow.FlowFn.{FlowFn}
use Rattle.pw_opt_rules.specs.declared.flat.Flat.{Flat}
use Rattle.pw_opt_rules.specs.declared.flat.Flat.TheVariants.{Many}
use Rattle.pw_opt_rules.specs.Rows.{known, front}
use Rattle.pw_opt_rules.specs.Rewriting.{Rewriting, rewritten_block, rewritten_blocks, with_blocks}
use Rattle.pw_opt_order.specs.Rises.{Rises}
use Rattle.pw_opt_order.specs.Reads.{ReadsOperands, block_alike}
use Rattle.pw_opt_places.specs.declared.places.Places.{Places}
use Rattle.pw_opt_places.specs.Places.{ArePlacesOf}
use Rattle.pw_opt_rows.specs.Joins.{HasWhatMay}
use Rattle.pw_opt_rows.specs.Seeing.{rested, IsOwn}
use Rattle.pw_opt_rows.specs.Outflows.{all_rested, AreFronts}
use Rattle.pw_opt_rows.specs.RowLaws.{rested_long, own_may}
use Rattle.pw_opt_rewrite.specs.Within.{IsRewrittenWithin}

blocks_alike : (w : Rewriting) (xs ys : List (List Flat)) (bs : List Block) → length xs ≡ length bs → length ys ≡ length bs
    → ((k : ℕ) (b : Block) → slice_get bs k ≡ Some b → rewritten_block w (front xs k) b ≡ rewritten_block w (front ys k) b) → rewritten_blocks w xs bs ≡ rewritten_blocks w ys bs
blocks_alike w xs ys [] e f same = refl
blocks_alike w [] ys (b ∷ bs) e f same = absurd (omega (arith, e))
blocks_alike w (x ∷ xs) [] (b ∷ bs) e f same = absurd (omega (arith, f))
blocks_alike w (x ∷ xs) (y ∷ ys) (b ∷ bs) e f same =
    ap (λ (new : Block). new ∷ rewritten_blocks w xs bs) (same 0 b refl)
    ∙ ap (λ (rest : List Block). rewritten_block w y b ∷ rest) (blocks_alike w xs ys bs (omega (arith, e)) (omega (arith, f)) (λ k c at. same (suc k) c at))

module _ (w : Rewriting) (r : Rises w.transfer) (reads : ReadsOperands w) (may : ℕ → ℕ → Bool) (ps : Places) (f : FlowFn) (of : ArePlacesOf f ps.places.items) (fronts : List (List Flat × List Flat))
    (are : AreFronts w.transfer ps f fronts) where
  abbrev rests : List (List Flat)
  rests = all_rested ps fronts

  rests_long : length rests ≡ length f.blocks
  rests_long = length-map fronts (λ (row : List Flat × List Flat). rested ps.places.items row.0) ∙ are.each_block

  rest_long : (k : ℕ) → k < length f.blocks → length (front rests k) ≡ f.temps
  rest_long k lt =
      ap (λ (row : List Flat). length row)
      (get_or-map (λ (row : List Flat × List Flat). rested ps.places.items row.0) fronts k ([], []) [] (let each = are.each_block in omega (arith, lt, each)))
      ∙ rested_long ps.places.items (slice_index_or fronts k ([], [])).0 ∙ of.each

  same_block : (k : ℕ) (b : Block) → slice_get f.blocks k ≡ Some b → rewritten_block w (front rests k) b ≡ rewritten_block w (front are.least k) b
  same_block k b at =
      let lt : k < length f.blocks = slice_get_within f.blocks k b at in
      let long : length (front rests k) ≡ f.temps = rest_long k lt in
      let other : length (front are.least k) ≡ f.temps = are.known_least.solution.each_temp k lt in
      block_alike w r reads b (front rests k) (front are.least k) (long ∙ sym other) (λ t first. elim (of.first k b t at first) [
        | inl past ↦ get_or_past (front rests k) t Many (omega (arith, past, long)) ∙ sym (get_or_past (front are.least k) t Many (omega (arith, past, other)))
        | inr shared ↦ are.same k t lt shared
      ])

  pub rewritten_within : (g : FlowFn) → All (IsOwn ps may) fronts → g ≡ with_blocks f (rewritten_blocks w (all_rested ps fronts) f.blocks) → IsRewrittenWithin w may f g
  rewritten_within g own is = record {
    rewritten = record {
      rows = are.least;
      known = are.known_least;
      is = is ∙ ap (with_blocks f) (blocks_alike w rests are.least f.blocks rests_long are.known_least.solution.each_block same_block);
    };
    rows = rests;
    own = All-map (HasWhatMay may) (λ (row : List Flat × List Flat). rested ps.places.items row.0) fronts
        (All-weaker (IsOwn ps may) (λ (row : List Flat × List Flat). HasWhatMay may (rested ps.places.items row.0)) (λ row o. own_may ps may row o) fronts own);
    is = is;
  }
