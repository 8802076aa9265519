-- Where constants take the place of operations, temporaries keep their places: blocks define the same, and read no more.
use Rattle.std.specs.Prelude.{ℕ, zero, suc, ◌≡◌, ◌<◌, Bool, Some, List, [], ◌∷◌, slice_get, All, Contains}
use Rattle.std.proofs.Common.{refl, sym, subst, ◌∙◌, arith, inl, inr}
use Rattle.std.proofs.lemmas.Option.{same_Some, slice_get_within}
use Rattle.pw_flow.specs.declared.flow.Op.{Op}
use Rattle.pw_flow.specs.declared.flow.End.{End}
use Rattle.pw_flow.specs.declared.flow.End.TheVariants.{Jump, Branch, Return}
use Rattle.pw_flow.specs.declared.flow.Block.{Block}
use Rattle.pw_flow.specs.declared.flow.FlowFn.{FlowFn}
use Rattle.pw_flow.specs.Uses.{op_uses, op_defines, end_uses}
use Rattle.pw_opt_rules.specs.declared.flat.Flat.{Flat}
use Rattle.pw_opt_rules.specs.declared.flat.Flat.TheVariants.{Bottom, One, Many}
use Rattle.pw_opt_rules.specs.Rows.{known, behind}
use Rattle.pw_opt_rules.specs.Rewriting.{rewritten_ops, rewritten_block, rewritten_blocks}
use Rattle.pw_opt_rules.specs.Constants.{constant_op, constant_transfer, jump_or, constant_end, constants}
use Rattle.pw_opt_rules.proofs.Folding.{folded_holds}
use Rattle.pw_opt_order.specs.Reads.{ReadsFirst}
use Rattle.pw_opt_places.specs.declared.places.Place.{Place}
use Rattle.pw_opt_places.specs.Places.{DefinesAtHome, ArePlacesOf}
use Rattle.pw_opt_rewrite.specs.Within.{IsRewrittenWithin}

-- ---- operations and ends

defines_stay : (row : List Flat) (o : Op) → op_defines (constant_op row o) ≡ op_defines o
defines_stay row o = folded_holds (λ (x : Op). op_defines x ≡ op_defines o) row o refl (λ t n defines calls. sym defines)

fewer_uses : (row : List Flat) (o : Op) (u : ℕ) → Contains (op_uses (constant_op row o)) u → Contains (op_uses o) u
fewer_uses row o u =
    folded_holds (λ (x : Op). Contains (op_uses x) u → Contains (op_uses o) u) row o (λ c. c) (λ t n defines calls c. absurd (let lt : c.0 < 0 = c.1 in omega (arith, lt)))

jump_uses : (x : Flat) (a b c u : ℕ) → Contains (end_uses (jump_or x a b c)) u → Contains (a ∷ []) u
jump_uses Bottom a b c u k = k
jump_uses (One zero) a b c u k = absurd (let lt : k.0 < 0 = k.1 in omega (arith, lt))
jump_uses (One (suc n)) a b c u k = absurd (let lt : k.0 < 0 = k.1 in omega (arith, lt))
jump_uses Many a b c u k = k

fewer_end_uses : (row : List Flat) (e : End) (u : ℕ) → Contains (end_uses (constant_end row e)) u → Contains (end_uses e) u
fewer_end_uses row (Jump b) u k = k
fewer_end_uses row (Branch a b c) u k = jump_uses (known row a) a b c u k
fewer_end_uses row (Return t) u k = k

-- ---- blocks

reads_first : (row : List Flat) (ops : List Op) (uses fewer : List ℕ) (t : ℕ) → (Contains fewer t → Contains uses t) → ReadsFirst t (rewritten_ops constants row ops) fewer → ReadsFirst t ops uses
reads_first row [] uses fewer t f r = f r
reads_first row (o ∷ ops) uses fewer t f (inl c) = inl (fewer_uses row o t c)
reads_first row (o ∷ ops) uses fewer t f (inr r) = inr ((λ e. r.0 (defines_stay row o ∙ e)), reads_first (constant_transfer row o) ops uses fewer t f r.1)

block_reads : (row : List Flat) (b : Block) (t : ℕ) → ReadsFirst t (rewritten_block constants row b).ops (end_uses (rewritten_block constants row b).end) → ReadsFirst t b.ops (end_uses b.end)
block_reads row b t r =
    reads_first row b.ops (end_uses b.end) (end_uses (constant_end (behind constant_transfer row b.ops) b.end)) t (λ k. fewer_end_uses (behind constant_transfer row b.ops) b.end t k) r

ops_home : (places : List Place) (b : ℕ) (row : List Flat) (ops : List Op) → All (DefinesAtHome places b) ops → All (DefinesAtHome places b) (rewritten_ops constants row ops)
ops_home places b row [] all k d lt = absurd (omega (arith, lt))
ops_home places b row (o ∷ ops) all zero d lt = λ t e. all 0 o (omega arith) t (sym (defines_stay row o) ∙ e)
ops_home places b row (o ∷ ops) all (suc k) d lt = ops_home places b (constant_transfer row o) ops (λ i x low. all (suc i) x (omega (arith, low))) k d (omega (arith, lt))

block_of : (rows : List (List Flat)) (bs : List Block) (k : ℕ) (new : Block) → slice_get (rewritten_blocks constants rows bs) k ≡ Some new
    → (row : List Flat) × (b : Block) × (slice_get bs k ≡ Some b) × (new ≡ rewritten_block constants row b)
block_of rows [] k new e = absurd (let lt : k < 0 = slice_get_within [] k new e in omega (arith, lt))
block_of [] (b ∷ bs) zero new e = ([], b, refl, same_Some new (rewritten_block constants [] b) (sym e))
block_of [] (b ∷ bs) (suc k) new e = block_of [] bs k new e
block_of (row ∷ rows) (b ∷ bs) zero new e = (row, b, refl, same_Some new (rewritten_block constants row b) (sym e))
block_of (row ∷ rows) (b ∷ bs) (suc k) new e = block_of rows bs k new e

-- ---- functions

pub places_stay : (may : ℕ → ℕ → Bool) (f g : FlowFn) (places : List Place) → ArePlacesOf f places → IsRewrittenWithin constants may f g → ArePlacesOf g places
places_stay may f g places are r = subst (λ (h : FlowFn). ArePlacesOf h places) (sym r.is) (record {
  each = are.each;
  home = λ b new at.
      let from = block_of r.rows f.blocks b new at in
      subst (λ (x : Block). All (DefinesAtHome places b) x.ops) (sym from.3) (ops_home places b from.0 from.1.ops (are.home b from.1 from.2));
  first = λ b new t at reads.
      let from = block_of r.rows f.blocks b new at in
      are.first b from.1 t from.2 (block_reads from.0 from.1 t (subst (λ (x : Block). ReadsFirst t x.ops (end_uses x.end)) from.3 reads));
})
