use Rattle.std.proofs.Common.{rules, refl}
use Rattle.pw_check_state.specs.StateViews.{view_state}
use Rattle.pw_tree.specs.Views.{view_decl}
use Rattle.pw_check_walk.proofs.CallLaws.{step_ok, step_err}
use Rattle.pw_check_init_parts.proofs.WalkLemmas.{same_walk, done_with}
use Rattle.pw_check_decl.specs.Views.{view_made}
use Rattle.pw_check_decl.proofs.DeclLemmas.{decl_joined}
use Rattle.pw_check_decl.proofs.decls.decl_behind.Goals as goal

pub returns-in_err-more : goal.returns-in_err-more
returns-in_err-more g c = same_walk (decl_joined (view_decl c.args.decl.now) (view_made c.args.made) (view_state c.args.state.now)) (step_err _ c.decl_rule.ensures c.in_err-more.was (search rules))

pub returns : goal.returns
returns g c = same_walk (decl_joined (view_decl c.args.decl.now) (view_made c.args.made) (view_state c.args.state.now)) (step_ok _ c.decl_rule.ensures c.in_ok-more.was (done_with refl c.in_ok-joined.ensures refl))
