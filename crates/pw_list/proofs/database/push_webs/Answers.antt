use Rattle.std.proofs.Common.{◌≡◌, ◌+◌, ◌++◌, ◌∷◌, List, ℕ, length, map, drop, ap, subst, ◌∙◌, arith, rules, Bor}
use Rattle.std.specs.BTreeMap as tree
use Rattle.std.proofs.lemmas.Map.Iter.{rest_more}
use Rattle.pw_db.specs.declared.database.Web.{Web}
use Rattle.pw_list.specs.Gathering.{lines_from, use_view}
use Rattle.pw_list.proofs.Gathered.{line_more, used_here, values_now}
use Rattle.pw_list.proofs.database.push_webs.Goals as goal

pub loop-web-init : goal.loop-web-init
loop-web-init c =
    let start : c.into_iter-web-iterator.result ≡ tree.values c.args.webs = search rules in
    let seen : map (λ w. w.now) c.into_iter-web-iterator.result ≡ map (λ e. e.1.now) c.args.webs.entries = ap (map (λ (w : Bor Web). w.now)) start ∙ values_now c.args.webs.entries in
    record {
      entries = omega arith;
      members = omega arith;
      written = ap (λ (ws : List Web). c.args.out.now.items ++ lines_from ws (map use_view c.args.uses.now.entries.items) (map use_view c.args.uses.now.members.items)) seen;
    }

pub loop-web-preserved : goal.loop-web-preserved
loop-web-preserved c =
    let es = map use_view c.args.uses.now.entries.items in
    let ms = map use_view c.args.uses.now.members.items in
    let a = c.loop-web.first_entry in
    let b = c.loop-web.first_member in
    let w = c.in-Some.web.now in
    let total = c.args.out.now.items ++ lines_from (map (λ e. e.1.now) c.args.webs.entries) es ms in
    let rest : c.loop-web.web-iterator ≡ c.in-Some.web ∷ c.next.new.self = rest_more (λ x. x) c.loop-web.web-iterator c.next.new.self c.next.result c.in-Some.web c.in-Some.is c.next.ensures.steps in
    let so_far : c.loop-web.out.items ++ lines_from (w ∷ map (λ v. v.now) c.next.new.self) (drop a es) (drop b ms) ≡ total =
    subst (λ (ws : List (Bor Web)). c.loop-web.out.items ++ lines_from (map (λ v. v.now) ws) (drop a es) (drop b ms) ≡ total) rest c.loop-web.invariant.written in
    let one = used_here c.args.uses.now.entries.items c.deref.result.now c.uses_at-entries.result.now w.id a c.loop-web.invariant.entries c.deref.ensures.value c.uses_at-entries.ensures in
    let two = used_here c.args.uses.now.members.items c.deref-in-loop-web.result.now c.uses_at-members.result.now w.id b c.loop-web.invariant.members c.deref-in-loop-web.ensures.value c.uses_at-members.ensures in
    record {
      entries = one.within;
      members = two.within;
      written = ap (λ (xs : List ℕ). xs ++ lines_from (map (λ v. v.now) c.next.new.self) (drop (a + length c.uses_at-entries.result.now) es) (drop (b + length c.uses_at-members.result.now) ms)) c.in_ok-push_web.ensures
          ∙ line_more w (map (λ v. v.now) c.next.new.self) es ms a b (length c.uses_at-entries.result.now) (length c.uses_at-members.result.now) c.loop-web.out.items total
          (map (λ u. u.function.now) c.uses_at-entries.result.now) (map (λ u. u.function.now) c.uses_at-members.result.now) so_far one.count two.count one.names two.names;
    }
