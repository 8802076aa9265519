use Rattle.std.proofs.Common.{◌≡◌, ◌∙◌, ℕ, List, All, length, refl, sym, ap, subst}
use Rattle.std.specs.Prelude.{Some, slice_get}
use Rattle.std.proofs.lemmas.Option.{slice_get_read}
use Rattle.pw_flow.specs.declared.flow.Op.{Op}
use Rattle.pw_flow.specs.declared.flow.Block.{Block}
use Rattle.pw_opt_rules.specs.declared.flat.Flat.{Flat}
use Rattle.pw_opt_rules.specs.Rows.{behind}
use Rattle.pw_opt_places.specs.Places.{DefinesAtHome}
use Rattle.pw_opt_rows.specs.Joins.{HasWhatMay}
use Rattle.pw_opt_rows.specs.Seeing.{rested, taken, may_at}
use Rattle.pw_opt_rows.specs.Outflows.{entered, outflow_by}
use Rattle.pw_opt_rows.specs.RowLaws.{entered_long, rested_may, taken_may}
use Rattle.pw_opt_rows.proofs.Entering.{entered_may}
use Rattle.pw_opt_rows.proofs.Viewing.{seen_taken}
use Rattle.pw_opt_rows.proofs.Away.{all_home}
use Rattle.pw_opt_rows.proofs.fronts.BlocksProblem.step.Goals as goal

-- the pair that a row is
both : (x y : List Flat × List Flat) → x ≡ y → (x.0 ≡ y.0) × (x.1 ≡ y.1)
both x y e = (ap (λ (row : List Flat × List Flat). row.0) e, ap (λ (row : List Flat × List Flat). row.1) e)

entered_first : (row old : List Flat × List Flat) (count n : ℕ) (inflow : List Flat) → row ≡ (entered (length old.0) n inflow, old.1) → length old.0 ≡ count → row.0 ≡ entered count n inflow
entered_first row old count n inflow e long = (both row (entered (length old.0) n inflow, old.1) e).0 ∙ ap (λ (k : ℕ). entered k n inflow) long

pub renew-requires : goal.renew-requires
renew-requires g c =
    let names = c.args.self.now.rows.places.now.names.items in
    let row = c.enter.new.row in
    let front = entered_first row c.args.out.now (length names) c.args.node c.args.inflow.now.0 c.enter.ensures c.requires.out.0.0 in (
      ap (λ (x : List Flat). length x) front ∙ entered_long (length names) c.args.node c.args.inflow.now.0 c.requires.inflow.0.0,
      ap (λ (x : List Flat × List Flat). length x.1) c.enter.ensures ∙ c.requires.out.1,
    )

pub follow_all-requires-clause-home : goal.follow_all-requires-clause-home
follow_all-requires-clause-home g c =
    let p = c.args.self.now in
    let block = c.index-self-node.result in
    let there : slice_get p.blocks.now c.args.node ≡ Some block = slice_get_read p.blocks.now (length p.blocks.now) c.args.node block refl c.requires.node c.index-self-node.is in
    let ops : c.as_slice.result.now ≡ block.ops = c.as_slice.ensures ∙ ap (λ (b : Block). b.ops) (sym c.index-self-node.is) in
    subst (All (DefinesAtHome p.rows.places.now.places.items c.args.node)) (sym ops) (all_home p.rows.places.now.places.items c.args.node block.ops (p.home c.args.node block there))

pub follow_all-requires-clause-may : goal.follow_all-requires-clause-may
follow_all-requires-clause-may g c =
    let p = c.args.self.now in
    let ps = p.rows.places.now in
    let may = g.R.Rewriting.may p.rows.rewriting.now in
    let row = c.enter.new.row in
    let front = entered_first row c.args.out.now (length ps.names.items) c.args.node c.args.inflow.now.0 c.enter.ensures c.requires.out.0.0 in
    subst (HasWhatMay may) (sym c.renew.ensures.seen)
    (rested_may ps may row.0 (subst (HasWhatMay (may_at ps.names.items may)) (sym front) (entered_may (may_at ps.names.items may) (length ps.names.items) c.args.node c.args.inflow.now.0 c.requires.inflow.0.1)))

pub returns-clause-own : goal.returns-clause-own
returns-clause-own g c =
    let p = c.args.self.now in
    let ps = p.rows.places.now in
    let may = g.R.Rewriting.may p.rows.rewriting.now in
    let transfer = (g.R.Rewriting.rewriting p.rows.rewriting.now).transfer in
    let out = c.follow_all.new.row in
    let row = c.follow_all.ensures.row in
    let full : List Flat = behind transfer (rested ps.places.items c.enter.new.row.0) c.as_slice.result.now in
    let is = c.follow_all.ensures.behind ∙ ap (λ (x : List Flat). behind transfer x c.as_slice.result.now) c.renew.ensures.seen in
    let shared : out.0 ≡ taken ps.names.items full = seen_taken ps c.args.node out full row.0 is in
    ((row.0, subst (HasWhatMay (may_at ps.names.items may)) (sym shared) (taken_may ps.names.items may full (subst (HasWhatMay may) is c.follow_all.ensures.may))), row.1)

pub returns-clause-outflow : goal.returns-clause-outflow
returns-clause-outflow g c =
    let p = c.args.self.now in
    let ps = p.rows.places.now in
    let blocks = p.blocks.now in
    let transfer = (g.R.Rewriting.rewriting p.rows.rewriting.now).transfer in
    let block = c.index-self-node.result in
    let front = entered (length ps.names.items) c.args.node c.args.inflow.now.0 in
    let start : c.enter.new.row.0 ≡ front = entered_first c.enter.new.row c.args.out.now (length ps.names.items) c.args.node c.args.inflow.now.0 c.enter.ensures c.requires.out.0.0 in
    let there : slice_get blocks c.args.node ≡ Some block = slice_get_read blocks (length blocks) c.args.node block refl c.requires.node c.index-self-node.is in
    let own : c.as_slice.result.now ≡ block.ops = c.as_slice.ensures ∙ ap (λ (b : Block). b.ops) (sym c.index-self-node.is) in
    seen_taken ps c.args.node c.follow_all.new.row (behind transfer (rested ps.places.items front) block.ops) c.follow_all.ensures.row.0
    (c.follow_all.ensures.behind
    ∙ ap (λ (row : List Flat). behind transfer row c.as_slice.result.now) (c.renew.ensures.seen ∙ ap (rested ps.places.items) start)
    ∙ ap (λ (ops : List Op). behind transfer (rested ps.places.items front) ops) own)
    ∙ sym (ap (outflow_by transfer ps front) there)
