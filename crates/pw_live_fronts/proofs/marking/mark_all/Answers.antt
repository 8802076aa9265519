use Rattle.std.proofs.Common.{◌≡◌, ◌-◌, ◌<◌, ◌≤◌, ◌∙◌, ℕ, List, ap, arith, length, refl, subst, sym, vec_len}
use Rattle.std.specs.Prelude.{Some, slice_get}
use Rattle.std.proofs.lemmas.Option.{slice_get_read}
use Rattle.pw_fix.specs.Table.{HoldsAt}
use Rattle.pw_flow.specs.Outline.{Stretch}
use Rattle.pw_live_fronts.specs.Blocks.{IsStretch}
use Rattle.pw_live_fronts.specs.Exposing.{IsUsedFirst, IsDefined}
use Rattle.pw_live_fronts.specs.Flowing.{node_of}
use Rattle.pw_live_fronts.proofs.Rows.{stretch_at}
use Rattle.pw_live_fronts.proofs.MarkSteps.{no_blocks, one_more_block, still_empty, each_block}
use Rattle.pw_live_fronts.proofs.marking.mark_all.Goals as goal

pub loop-place-init : goal.loop-place-init
loop-place-init c =
    let f = c.args.f.now in
    let e = c.args.exposed.now in
    let nodes : length c.blocks-blocks.result.now ≡ length f.blocks = ap (λ (bs : List Stretch). length bs) c.blocks-blocks.ensures in
    let names = e.names.ok.0 in
    record {
      uses_count = c.in_ok-uses.ensures.count ∙ nodes;
      uses_len = omega (arith, c.in_ok-uses.ensures.length, names);
      defines_count = c.in_ok-defines.ensures.count ∙ nodes;
      defines_len = omega (arith, c.in_ok-defines.ensures.length, names);
      used = no_blocks f (IsUsedFirst e) (HoldsAt c.in_ok-uses.uses) c.in_ok-uses.ensures.empty;
      defined = no_blocks f (IsDefined e) (HoldsAt c.in_ok-defines.defines) c.in_ok-defines.ensures.empty;
    }

pub mark_block-requires : goal.mark_block-requires
mark_block-requires c =
    let f = c.args.f.now in
    let e = c.args.exposed.now in
    let place = c.loop-place.place in
    let s = c.index-blocks-place.result in
    let nodes : length c.blocks-blocks.result.now ≡ length f.blocks = ap (λ (bs : List Stretch). length bs) c.blocks-blocks.ensures in
    let there : slice_get f.blocks place ≡ Some s =
    subst (λ (bs : List Stretch). slice_get bs place ≡ Some s) c.blocks-blocks.ensures (slice_get_read c.blocks-blocks.result.now (length c.blocks-blocks.result.now) place s refl c.loop-place-test.true c.index-blocks-place.is) in
    let node = length c.blocks-blocks.result.now - 1 - place in
    let which : node ≡ node_of f place = ap (λ (n : ℕ). n - 1 - place) nodes in
    let lt : place < length f.blocks = subst (λ (n : ℕ). place < n) nodes c.loop-place-test.true in
    let inv = c.loop-place.invariant in
    let stretch = stretch_at f c.requires.outline place s there in
    record {
      node = omega (arith, inv.uses_count, which, lt);
      count = inv.defines_count ∙ sym inv.uses_count;
      uses_len = inv.uses_len;
      defines_len = inv.defines_len;
      block = subst (λ (n : ℕ). IsStretch (vec_len e.numbers) n s) (sym nodes) (subst (λ (n : ℕ). IsStretch n (length f.blocks) s) (sym c.requires.temps) stretch);
      empty = still_empty f place node s (IsDefined e) (HoldsAt c.loop-place.defines) there which inv.defined;
    }

pub loop-place-preserved : goal.loop-place-preserved
loop-place-preserved c =
    let f = c.args.f.now in
    let e = c.args.exposed.now in
    let place = c.loop-place.place in
    let s = c.index-blocks-place.result in
    let nodes : length c.blocks-blocks.result.now ≡ length f.blocks = ap (λ (bs : List Stretch). length bs) c.blocks-blocks.ensures in
    let there : slice_get f.blocks place ≡ Some s =
    subst (λ (bs : List Stretch). slice_get bs place ≡ Some s) c.blocks-blocks.ensures (slice_get_read c.blocks-blocks.result.now (length c.blocks-blocks.result.now) place s refl c.loop-place-test.true c.index-blocks-place.is) in
    let node = length c.blocks-blocks.result.now - 1 - place in
    let which : node ≡ node_of f place = ap (λ (n : ℕ). n - 1 - place) nodes in
    let inv = c.loop-place.invariant in
    record {
      uses_count = c.mark_block.ensures.uses_count ∙ inv.uses_count;
      uses_len = c.mark_block.ensures.uses_len ∙ inv.uses_len;
      defines_count = c.mark_block.ensures.defines_count ∙ inv.defines_count;
      defines_len = c.mark_block.ensures.defines_len ∙ inv.defines_len;
      used = one_more_block f place node s (IsUsedFirst e) (HoldsAt c.mark_block.new.uses) (HoldsAt c.loop-place.uses) there which c.mark_block.ensures.used inv.used;
      defined = one_more_block f place node s (IsDefined e) (HoldsAt c.mark_block.new.defines) (HoldsAt c.loop-place.defines) there which c.mark_block.ensures.defined inv.defined;
    }

pub returns-clause-uses : goal.returns-clause-uses
returns-clause-uses c =
    let f = c.args.f.now in
    each_block f c.loop-place.place (IsUsedFirst c.args.exposed.now) (HoldsAt c.loop-place.uses) (subst (λ (bs : List Stretch). length bs ≤ c.loop-place.place) c.blocks-blocks.ensures c.loop-place-test.false) c.loop-place.invariant.used

pub returns-clause-defines : goal.returns-clause-defines
returns-clause-defines c =
    let f = c.args.f.now in
    each_block f c.loop-place.place (IsDefined c.args.exposed.now) (HoldsAt c.loop-place.defines) (subst (λ (bs : List Stretch). length bs ≤ c.loop-place.place) c.blocks-blocks.ensures c.loop-place-test.false) c.loop-place.invariant.defined
