use Rattle.std.proofs.Common.{List, Bor, map, nat_cmp, rules, sym, subst}
use Rattle.std.specs.Prelude.{IfOk}
use Rattle.std.specs.Ordering.{is_lt}
use Rattle.std.specs.Cmp.Lexicographic.{slice_cmp}
use Rattle.std.proofs.lemmas.Cmp.{nat_list_cmp_total}
use Rattle.std.proofs.lemmas.Fn.{always_returns_same}
use Rattle.std.proofs.lemmas.List.Sorted.{ranks_by}
use Rattle.pw_value.specs.declared.name.Name.{Name}
use Rattle.pw_db.specs.declared.database.Directives.{Directives}
use Rattle.pw_db.specs.Database.{IsDatabase}
use Rattle.pw_db.proofs.StoringLaws.{is_stored}
use Rattle.pw_db_file.specs.Spelling.{IsPayload}
use Rattle.pw_db_file.proofs.WritingLemmas.{stored_payload}
use Rattle.pw_db_file.proofs.storing.payload.Goals as goal

pub write_payload-requires : goal.write_payload-requires
write_payload-requires c =
    let up = c.sort_unstable_by.ensures.sorted (λ a b. is_lt (slice_cmp nat_cmp a.now.0 b.now.0)) (ranks_by nat_list_cmp_total (λ (f : Bor (Name × Directives)). f.now.0)) (always_returns_same _ _ _ (λ a r f h. (search rules, search rules))) in
    let both = is_stored (λ (f : Bor (Name × Directives)). f.now) c.args.functions.now c.in_ok-stored.stored.items c.sort_unstable_by.new.self.items c.requires c.in_ok-stored.ensures c.sort_unstable_by.ensures.permutation up in
    subst (λ (rs : List (Bor (Name × Directives))). IsDatabase (map (λ f. f.now) rs)) (sym c.deref.ensures.value) both.1

pub returns : goal.returns
returns c =
    let up = c.sort_unstable_by.ensures.sorted (λ a b. is_lt (slice_cmp nat_cmp a.now.0 b.now.0)) (ranks_by nat_list_cmp_total (λ (f : Bor (Name × Directives)). f.now.0)) (always_returns_same _ _ _ (λ a r f h. (search rules, search rules))) in
    let both = is_stored (λ (f : Bor (Name × Directives)). f.now) c.args.functions.now c.in_ok-stored.stored.items c.sort_unstable_by.new.self.items c.requires c.in_ok-stored.ensures c.sort_unstable_by.ensures.permutation up in
    stored_payload c.args.functions.now (map (λ f. f.now) c.sort_unstable_by.new.self.items) c.write_payload.result both.0
    (subst (λ (rs : List (Bor (Name × Directives))). IfOk c.write_payload.result (λ v. IsPayload v.items (map (λ f. f.now) rs))) c.deref.ensures.value c.write_payload.ensures)
