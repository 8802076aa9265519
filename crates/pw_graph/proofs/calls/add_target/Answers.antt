use Rattle.std.proofs.Common.{◌∙◌, ◌++◌, List, ℕ, [], map, ap, sym, refl}
use Rattle.pw_graph.specs.Making.{home, target}
use Rattle.std.proofs.lemmas.List.{append-nil}
use Rattle.pw_graph.proofs.Steps.{target_in, target_out, view_push}
use Rattle.pw_graph.proofs.calls.add_target.Goals as goal

pub returns-in_ok-push : goal.returns-in_ok-push
returns-in_ok-push c =
    let before = map target c.args.found.now.items in
    view_push target c.args.found.now.items c.push.new.self.items _ ((home c.args.home.now).1, c.args.place) before [] c.in_ok-push.ensures.items refl (sym (append-nil before))
    ∙ ap (λ (ts : List (List ℕ × ℕ)). before ++ ts) (sym (target_in c.args.taken.now c.args.place (home c.args.home.now) (sym c.is_among.ensures ∙ c.if-is_among.true)))

pub returns-else-is_among : goal.returns-else-is_among
returns-else-is_among c =
    sym (append-nil (map target c.args.found.now.items)) ∙ ap (λ (ts : List (List ℕ × ℕ)). map target c.args.found.now.items ++ ts) (sym (target_out c.args.taken.now c.args.place (home c.args.home.now) (sym c.is_among.ensures ∙ c.if-is_among.false)))
