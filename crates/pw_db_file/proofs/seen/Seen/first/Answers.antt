use Rattle.std.proofs.Common.{List, map, sym, ap, ◌∙◌}
use Rattle.std.specs.Prelude.{option_map, slice_get}
use Rattle.pw_db_file.specs.declared.seen.Known.{Known}
use Rattle.pw_db_file.specs.Seen.{known_web}
use Rattle.pw_db_file.proofs.SeenLaws.{first_none, first_some, got}
use Rattle.pw_db_file.proofs.seen.Seen.first.Goals as goal

pub returns-in-None : goal.returns-in-None
returns-in-None c = sym (first_none c.args.id (map known_web c.args.self.now.webs.items) (sym (c.args.self.now.indexed c.args.id) ∙ sym c.in-None.ensures.value))

pub returns-in-Some : goal.returns-in-Some
returns-in-Some c =
    let there = got c.deref.result.now c.in-Some.place.now c.get-in-Some.result c.get-in-Some.ensures.lookup.3 in
    ap (option_map known_web) (c.copied.ensures ∙ there ∙ ap (λ (xs : List Known). slice_get xs c.in-Some.place.now) c.deref.ensures.value)
    ∙ first_some known_web c.args.self.now.webs.items c.args.id c.in-Some.place.now (sym (c.args.self.now.indexed c.args.id) ∙ sym c.in-Some.ensures.value)
