use Rattle.pw_types.specs.Views.{view_type}
use Rattle.pw_types.proofs.RecordLemmas.{aligned-by_laid, layout_of-object_type}
use Rattle.pw_types.proofs.contents.member_layout.Goals as goal

pub returns-clause-value : goal.returns-clause-value
returns-clause-value c =
    layout_of-object_type
    c.args.types.now (view_type c.args.member.now.ty.ty) c.unwrap.result c.layout.result
    c.requires c.layout.ensures.exact c.unwrap.ensures

pub returns-clause-aligned : goal.returns-clause-aligned
returns-clause-aligned c =
    aligned-by_laid
    c.args.types.now c.records-laid.ensures.laid (view_type c.args.member.now.ty.ty) c.unwrap.result
    (layout_of-object_type
    c.args.types.now (view_type c.args.member.now.ty.ty) c.unwrap.result c.layout.result
    c.requires c.layout.ensures.exact c.unwrap.ensures)
