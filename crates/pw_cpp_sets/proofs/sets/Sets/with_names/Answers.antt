use Rattle.std.proofs.Common.{◌≡◌, ◌∙◌, ◌++◌, [], ap, map, refl, sym}
use Rattle.std.proofs.lemmas.List.{nil_from_length}
use Rattle.pw_cpp_sets.specs.Sets.{set_at}
use Rattle.pw_cpp_sets.proofs.Nodes.{keeps-more, keeps-same, names-front, said}
use Rattle.pw_cpp_sets.proofs.sets.Sets.with_names.Goals as goal

pub loop-name-init : goal.loop-name-init
loop-name-init c = (keeps-same c.args.self.now, c.requires, refl)

pub loop-name-preserved : goal.loop-name-preserved
loop-name-preserved c =
    let before = c.in-Some.ensures.items in
    let made = c.in_ok-number.ensures.number in (
      keeps-more _ _ _ c.loop-name.invariant.0 c.in_ok-number.ensures.keeps,
      made.0,
      ap (λ x. map said c.pop.new.self.items ++ x) made.1
          ∙ sym (names-front c.pop.new.self.items c.in-Some.name (set_at c.loop-name.self c.loop-name.number))
          ∙ ap (λ x. map said x ++ set_at c.loop-name.self c.loop-name.number) (sym before)
          ∙ c.loop-name.invariant.2,
    )

pub returns : goal.returns
returns c =
    let none : c.loop-name.names.items ≡ [] = nil_from_length c.loop-name.names.items (sym c.loop-name.names.ok.0 ∙ c.in_default.ensures.cases.0) in
    record {
      keeps = c.loop-name.invariant.0;
      number = (
        c.loop-name.invariant.1,
        ap (λ x. map said x ++ set_at c.loop-name.self c.loop-name.number) (sym none) ∙ c.loop-name.invariant.2,
      );
    }
