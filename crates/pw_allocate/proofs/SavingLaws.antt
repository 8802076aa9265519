-- One more register.
use Rattle.std.proofs.Common.{◌≡◌, ℕ, suc, ◌+◌, ◌-◌, ◌≤◌, Bool, true, false, cond, List, ◌∷◌, ap, ◌∙◌, arith}
use Rattle.std.specs.Prelude.{Option}
use Rattle.std.specs.List.{filter, range_with_len}
use Rattle.pw_db.specs.Limits.{last_register}
use Rattle.pw_db.specs.declared.database.Directives.{Directives}
use Rattle.pw_alloc_temps.specs.Temporaries.{is_saved}
use Rattle.pw_allocate.specs.Saving.{saved_from}

one_more : (r : ℕ) → r ≤ last_register → range_with_len r (last_register + 1 - r) ≡ r ∷ range_with_len (r + 1) (last_register + 1 - (r + 1))
one_more r h =
    let e : last_register + 1 - r ≡ suc (last_register + 1 - (r + 1)) = omega arith in
    ap (range_with_len r) e

next : (d : Directives) (registers : List (Option ℕ)) (r : ℕ) (b : Bool) → r ≤ last_register → is_saved d registers r ≡ b
    → saved_from d registers r (last_register + 1 - r) ≡ cond b (r ∷ saved_from d registers (r + 1) (last_register + 1 - (r + 1))) (saved_from d registers (r + 1) (last_register + 1 - (r + 1)))
next d registers r b h e =
    ap (filter (is_saved d registers)) (one_more r h)
    ∙ ap (λ (t : Bool). cond t (r ∷ saved_from d registers (r + 1) (last_register + 1 - (r + 1))) (saved_from d registers (r + 1) (last_register + 1 - (r + 1)))) e

pub saved_here : (d : Directives) (registers : List (Option ℕ)) (r : ℕ) → r ≤ last_register → is_saved d registers r ≡ true
    → saved_from d registers r (last_register + 1 - r) ≡ r ∷ saved_from d registers (r + 1) (last_register + 1 - (r + 1))
saved_here d registers r h e = next d registers r true h e

pub saved_not : (d : Directives) (registers : List (Option ℕ)) (r : ℕ) → r ≤ last_register → is_saved d registers r ≡ false
    → saved_from d registers r (last_register + 1 - r) ≡ saved_from d registers (r + 1) (last_register + 1 - (r + 1))
saved_not d registers r h e = next d registers r false h e
