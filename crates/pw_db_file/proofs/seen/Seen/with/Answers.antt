use Rattle.std.proofs.Common.{arith, ◌≡◌, ℕ, List, length, map, cond, nat_cmp, sym, ap, ◌∙◌}
use Rattle.std.specs.Prelude.{Option, Some}
use Rattle.std.specs.Ordering.{is_eq}
use Rattle.std.specs.BTreeMap.{BTreeMap, get}
use Rattle.std.proofs.lemmas.List.{length-map}
use Rattle.pw_db.specs.declared.database.Web.{Web}
use Rattle.pw_db_file.specs.Seen.{known_web, place_with}
use Rattle.pw_db_file.proofs.SeenLaws.{new_place, old_place, nowhere, somewhere, known_pushed}
use Rattle.pw_db_file.proofs.seen.Seen.with.Goals.{then-is_none+in_ok-insert, else-is_none}
use Rattle.pw_db_file.proofs.seen.Seen.with.Goals as goal

pub invariant_of-result : goal.invariant_of-result
invariant_of-result c =
    let webs = map known_web c.args.self.webs.items in
    let web = known_web c.args.web in
    let pushed = known_pushed known_web c.args.self.webs.items c.push.new.self.items c.args.web c.in_ok-push.ensures.items in
    let behind = λ (q : ℕ). ap (λ (ws : List Web). place_with q ws) (sym pushed) in
    record {
      indexed = λ q. elim c.if-is_none.branch [
        | then-is_none+in_ok-insert w ↦ ap (λ (m : BTreeMap ℕ ℕ). get nat_cmp m q) w.places-is ∙ w.in_ok-insert.ensures.updates.0 q
            ∙ ap (λ (n : ℕ). cond (is_eq (nat_cmp web.id q)) (Some n) (get nat_cmp c.args.self.places q)) (let ok = c.args.self.webs.ok in let n : w.len.result ≡ length webs = omega (arith, w.len.ensures, length-map c.args.self.webs.items known_web) in n)
            ∙ ap (λ (o : Option ℕ). cond (is_eq (nat_cmp web.id q)) (Some (length webs)) o) (c.args.self.indexed q)
            ∙ new_place webs web q (nowhere c.get.result c.is_none.result (place_with web.id webs) c.is_none.ensures w.if-is_none.true (c.get.ensures.value ∙ c.args.self.indexed web.id))
            ∙ behind q
        | else-is_none w ↦ let at = somewhere c.get.result c.is_none.result (place_with web.id webs) c.is_none.ensures w.if-is_none.false (c.get.ensures.value ∙ c.args.self.indexed web.id) in
            ap (λ (m : BTreeMap ℕ ℕ). get nat_cmp m q) w.places-is ∙ c.args.self.indexed q ∙ old_place webs web q at.0 at.1 ∙ behind q
      ];
    }
