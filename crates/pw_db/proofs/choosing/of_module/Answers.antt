use Rattle.std.proofs.Common.{◌≡◌, List, ℕ, ◌∷◌, [], ◌++◌, All, length, map, take, arith, sym, subst, ap, ◌∙◌}
use Rattle.std.proofs.Math.Seq.{take-length}
use Rattle.std.proofs.lemmas.List.Elements.{All-push}
use Rattle.std.proofs.lemmas.List.{map_push, take_more}
use Rattle.pw_value.specs.declared.name.Name.{Name}
use Rattle.pw_files.specs.Rising.{IsRising}
use Rattle.pw_db.specs.declared.database.Directives.{Directives}
use Rattle.pw_db.specs.Database.{HasDirectives}
use Rattle.pw_db.proofs.StoringLaws.{module_stored}
use Rattle.pw_db.proofs.choosing.of_module.Goals as goal

pub directives_of-requires : goal.directives_of-requires
directives_of-requires c = subst (λ (fs : List (Name × Directives)). IsRising (map (λ f. f.0) fs)) (sym c.as_slice.ensures) c.requires.functions

pub loop-name-preserved : goal.loop-name-preserved
loop-name-preserved c =
    let fs = c.args.db.now.functions in
    let new : Name × Directives = (c.in_ok-copy.field-0, c.in_ok-directives.directives) in
    let has = subst (λ (gs : List (Name × Directives)). HasDirectives gs (c.name-item.result, c.in_ok-directives.directives)) c.as_slice.ensures c.in_ok-directives.ensures in
    let named = subst (λ (n : List ℕ). HasDirectives fs (n, c.in_ok-directives.directives)) (sym c.in_ok-copy.ensures) has in
    record {
      names = ap (λ (gs : List (Name × Directives)). map (λ f. f.0) gs) c.in_ok-push.ensures.items ∙ map_push (λ (f : Name × Directives). f.0) c.loop-name.all.items new
          ∙ ap (λ (ns : List (List ℕ)). ns ++ c.in_ok-copy.field-0 ∷ []) c.loop-name.invariant.names
          ∙ ap (λ (n : List ℕ). take c.loop-name.name-index c.args.functions.now ++ n ∷ []) (c.in_ok-copy.ensures ∙ c.name-item.is)
          ∙ sym (take_more c.args.functions.now c.loop-name.name-index c.name-item.result c.loop-name-test.true);
      directives = subst (λ (gs : List (Name × Directives)). All (λ f. HasDirectives fs f) gs) (sym c.in_ok-push.ensures.items) (All-push (λ f. HasDirectives fs f) c.loop-name.all.items new c.loop-name.invariant.directives named);
    }

pub returns-clause-can_be_stored : goal.returns-clause-can_be_stored
returns-clause-can_be_stored c =
    let names : List (List ℕ) = c.args.functions.now in
    let end : c.loop-name.name-index ≡ length names = omega (arith, c.loop-name-test.false, c.loop-name.auto.name-index-end) in
    let named : map (λ f. f.0) c.loop-name.all.items ≡ names = c.loop-name.invariant.names ∙ ap (λ n. take n names) end ∙ take-length names in
    module_stored c.args.db.now.functions names c.loop-name.all.items c.requires named c.loop-name.invariant.directives
