use Rattle.std.proofs.Common.{◌≡◌, ◌∙◌, sym, ap, subst, refl, arith, ◌≤◌, ℕ, List, length, All}
use Rattle.pw_value.specs.Limits.{shape_limit}
use Rattle.pw_types.specs.TypeTrees.{MemberValue, type_of}
use Rattle.pw_types.specs.Views.{view_member, view_members}
use Rattle.pw_types.specs.Records.{IsObjectType, layouts_of}
use Rattle.pw_types.specs.Measures.{offsets_by}
use Rattle.pw_types.specs.Shapes.{record_shape, member_shapes}
use Rattle.std.proofs.lemmas.List.{length-map}
use Rattle.pw_types.proofs.ContentLemmas as lemmas
use Rattle.pw_types.proofs.contents.record_content.Goals as goal

pub measured-requires : goal.measured-requires
measured-requires c =
    subst (λ ms. All (λ (x : MemberValue). IsObjectType c.args.types.now (type_of x.ty)) ms) (sym (ap view_members c.deref.ensures.value)) c.requires

pub record_size-size-requires : goal.record_size-size-requires
record_size-size-requires c = (
  lemmas.aligned-by_measures (layouts_of c.args.types.now (view_members c.deref.result.now)) c.in_ok-measure.measure c.in_ok-measure.ensures,
  c.in_ok-measure.ensures.small,
)

pub returns-then-size-from-clause-refused : goal.returns-then-size-from-clause-refused
returns-then-size-from-clause-refused c =
    lemmas.Refuses-size
    c.args.types.now c.args.kind (view_members c.args.members.items) c.record_size-size.result c.cap.result
    (lemmas.size-by_members
    c.args.types.now c.args.kind (view_members c.args.members.items) c.in_ok-measure.measure c.record_size-size.result
    (lemmas.Measures-of c.args.types.now (view_members c.args.members.items) (view_members c.deref.result.now) c.in_ok-measure.measure (ap view_members c.deref.ensures.value) c.in_ok-measure.ensures)
    c.record_size-size.ensures)
    (omega arith)
    c.cap.ensures

pub returns-then-len-gt-SHAPE_LIMIT-clause-refused :
    goal.returns-then-len-gt-SHAPE_LIMIT-clause-refused
returns-then-len-gt-SHAPE_LIMIT-clause-refused c =
    let is = lemmas.Measures-of c.args.types.now (view_members c.args.members.items) (view_members c.deref.result.now) c.in_ok-measure.measure (ap view_members c.deref.ensures.value) c.in_ok-measure.ensures in
    let size = lemmas.size-by_members c.args.types.now c.args.kind (view_members c.args.members.items) c.in_ok-measure.measure c.record_size-size.result is c.record_size-size.ensures in
    lemmas.Refuses-shape
    c.args.types.now c.args.kind (view_members c.args.members.items) c.record_size-size.result c.len-then-len-gt-SHAPE_LIMIT.result c.in_ok-text.text.items
    size
    (omega arith)
    (lemmas.shape-by_members c.args.types.now c.args.kind (view_members c.args.members.items) (view_members c.deref-2.result.now) c.record_size-size.result c.in_ok-text.text.items (ap view_members c.deref-2.ensures.value) size c.in_ok-text.ensures)
    (omega (arith, c.in_ok-text.text.ok.0))
    (omega arith)

pub returns-then-depth-gt-DEPTH_LIMIT-clause-refused :
    goal.returns-then-depth-gt-DEPTH_LIMIT-clause-refused
returns-then-depth-gt-DEPTH_LIMIT-clause-refused c =
    let is = lemmas.Measures-of c.args.types.now (view_members c.args.members.items) (view_members c.deref.result.now) c.in_ok-measure.measure (ap view_members c.deref.ensures.value) c.in_ok-measure.ensures in
    let size = lemmas.size-by_members c.args.types.now c.args.kind (view_members c.args.members.items) c.in_ok-measure.measure c.record_size-size.result is c.record_size-size.ensures in
    lemmas.Refuses-depth
    c.args.types.now c.args.kind (view_members c.args.members.items) c.record_size-size.result c.saturating_add-depth.result c.in_ok-text.text.items
    size
    (omega arith)
    (lemmas.shape-by_members c.args.types.now c.args.kind (view_members c.args.members.items) (view_members c.deref-2.result.now) c.record_size-size.result c.in_ok-text.text.items (ap view_members c.deref-2.ensures.value) size c.in_ok-text.ensures)
    (omega (arith, c.in_ok-text.text.ok.0))
    (lemmas.depth-by_members c.args.types.now (view_members c.args.members.items) (view_members c.deref-3.result.now) c.deepest.result c.saturating_add-depth.result (ap view_members c.deref-3.ensures.value) c.deepest.ensures c.saturating_add-depth.ensures)
    (omega arith)

pub returns-clause-ok : goal.returns-clause-ok
returns-clause-ok c =
    let is = lemmas.Measures-of c.args.types.now (view_members c.args.members.items) (view_members c.deref.result.now) c.in_ok-measure.measure (ap view_members c.deref.ensures.value) c.in_ok-measure.ensures in
    let count : c.len-2.result ≡ length (view_members c.args.members.items) = omega (arith, c.args.members.ok.0, length-map c.args.members.items view_member) in
    let short : length c.in_ok-text.text.items ≤ shape_limit = omega (arith, c.in_ok-text.text.ok.0) in
    lemmas.Defines-by_measures
    c.args.types.now c.args.kind (view_members c.args.members.items) c.in_ok-measure.measure
    (record {
      members = view_members c.args.members.items;
      offsets = c.in_ok-offsets.offsets.items;
      layout = record { size = c.record_size-size.result; align = c.in_ok-measure.measure.align };
      shape = c.new.result;
      depth = c.saturating_add-depth.result;
    })
    c.records-laid.ensures.laid
    c.requires
    is
    refl
    (c.in_ok-offsets.ensures ∙ ap (offsets_by c.args.kind c.in_ok-measure.measure.offsets.items) count)
    c.record_size-size.ensures
    refl
    (c.new.ensures ∙ c.in_ok-text.ensures ∙ ap (λ ms. record_shape c.args.kind c.record_size-size.result (member_shapes c.args.types.now ms)) (ap view_members c.deref-2.ensures.value))
    (lemmas.depth-by_members c.args.types.now (view_members c.args.members.items) (view_members c.deref-3.result.now) c.deepest.result c.saturating_add-depth.result (ap view_members c.deref-3.ensures.value) c.deepest.ensures c.saturating_add-depth.ensures)
    (omega arith)
    (subst (λ (t : List ℕ). length t ≤ shape_limit) (sym c.new.ensures) short)
    (omega arith)
