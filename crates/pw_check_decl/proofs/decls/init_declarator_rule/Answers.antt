use Rattle.std.proofs.Common.{◌≡◌, rules, sym, ap, ◌∙◌}
use Rattle.pw_check_state.specs.PhraseViews.{view_specified}
use Rattle.pw_check_state.specs.StateViews.{view_state}
use Rattle.pw_tree.specs.Views.{view_init_declarator, view_initializer}
use Rattle.pw_types.specs.Views.{view_qtype}
use Rattle.pw_check_walk.proofs.CallLaws.{step_ok, step_err}
use Rattle.pw_check_init_parts.proofs.WalkLemmas.{same_walk}
use Rattle.std.specs.Prelude.{unwrap_or, is_some, []}
use Rattle.pw_check_state.specs.PhraseViews.{view_name}
use Rattle.pw_check_decl.specs.Parts.{named_rule, nobody}
use Rattle.pw_check_decl.proofs.DeclLemmas.{init_joined, initializer_shown}
use Rattle.pw_check_decl.proofs.decls.init_declarator_rule.Goals as goal

pub returns-in_err-declared : goal.returns-in_err-declared
returns-in_err-declared g c = same_walk (init_joined (view_specified c.args.specified.now) (view_init_declarator c.args.d.now) (view_state c.args.state.now)) (step_err _ c.declarator.ensures c.in_err-declared.was (search rules))

pub returns-in_err-q : goal.returns-in_err-q
returns-in_err-q g c = same_walk (init_joined (view_specified c.args.specified.now) (view_init_declarator c.args.d.now) (view_state c.args.state.now)) (step_ok _ c.declarator.ensures c.in_ok-declared.was (step_err _ (same_walk (cc (c.spot_of-spot.ensures)) c.type_built.ensures) c.in_err-q.was (search rules)))

-- without a name it is the name without bytes
pub returns : goal.returns
returns g c =
    let spot = sym c.spot_of-spot.ensures in
    let name = ap (λ o. unwrap_or (view_name o) nobody) c.in-None.is in
    let i : is_some (view_initializer c.args.d.now.initializer) ≡ c.is_some-initialised.result = initializer_shown c.args.d.now.initializer ∙ sym c.is_some-initialised.ensures in
    same_walk (init_joined (view_specified c.args.specified.now) (view_init_declarator c.args.d.now) (view_state c.args.state.now)) (step_ok _ c.declarator.ensures c.in_ok-declared.was (step_ok _ (same_walk (cc (c.spot_of-spot.ensures)) c.type_built.ensures) c.in_ok-q.was
    (same_walk (λ j. named_rule (view_specified c.args.specified.now) (spot j) (name j) (view_qtype c.in_ok-q.q) (view_initializer c.args.d.now.initializer) (view_state c.declarator.new.state)) (c.nameless_rule.ensures (view_initializer c.args.d.now.initializer) i))))

pub returns-in-Some : goal.returns-in-Some
returns-in-Some g c =
    let spot = sym c.spot_of-spot.ensures in
    let name = ap (λ o. unwrap_or (view_name o) (record { token = 0; text = [] })) c.in-Some.is in
    same_walk (init_joined (view_specified c.args.specified.now) (view_init_declarator c.args.d.now) (view_state c.args.state.now)) (step_ok _ c.declarator.ensures c.in_ok-declared.was (step_ok _ (same_walk (cc (c.spot_of-spot.ensures)) c.type_built.ensures) c.in_ok-q.was
    (same_walk (λ j. named_rule (view_specified c.args.specified.now) (spot j) (name j) (view_qtype c.in_ok-q.q) (view_initializer c.args.d.now.initializer) (view_state c.declarator.new.state)) c.named_rule.ensures)))
