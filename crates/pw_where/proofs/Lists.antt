-- Lists, and lines that are told of them.
use Rattle.std.proofs.Common.{◌≡◌, ℕ, ◌-◌, ◌<◌, ◌≤◌, List, [], ◌∷◌, ◌++◌, length, take, drop, get_or, Option, Some, None, Result, Ok, Err, refl, sym, ap, arith, append_assoc, append-nil}
use Rattle.std.specs.Prelude.{IfSome}
use Rattle.std.specs.Cmp.{IsStrictWeakOrder}
use Rattle.std.proofs.lemmas.Cmp.{nat_list_cmp_total}
use Rattle.std.proofs.lemmas.List.{take_all}
use Rattle.std.proofs.lemmas.List.Sorted.{ranks_by}
use Rattle.pw_where.specs.declared.shown.Shown.{Shown}
use Rattle.pw_where.specs.Shown.{is_before}
use Rattle.pw_where.specs.Looks.{behind}

-- a list's first item, and the rest
pub front_and_rest : {X : Type 0} (xs : List X) (x : X) → 1 ≤ length xs → x ≡ get_or xs 0 x → xs ≡ x ∷ take (length xs - 1) (drop 1 xs)
front_and_rest [] x some e = absurd (omega (arith, some))
front_and_rest (y ∷ ys) x some e =
    let all : take (length (y ∷ ys) - 1) ys ≡ ys = take_all (length (y ∷ ys) - 1) ys (omega arith) in
    λ i. sym e i ∷ sym all i

pub no_item : {X : Type 0} (xs : List X) → length xs < 1 → xs ≡ []
no_item [] few = refl
no_item (x ∷ xs) few = absurd (omega (arith, few))

pub by_name_ranks : IsStrictWeakOrder is_before
by_name_ranks = ranks_by nat_list_cmp_total (λ (g : Shown). g.object.name)

-- lines go behind lines
pub behind_more : (text line : List ℕ) (lines : Result (List ℕ) ℕ) → behind (text ++ line) lines ≡ behind text (behind line lines)
behind_more text line (Ok lines) = ap Ok (append_assoc text line lines)
behind_more text line (Err address) = refl

pub behind_none : (text : List ℕ) → behind text (Ok []) ≡ Ok text
behind_none text = ap Ok (append-nil text)

-- what holds of what is told, by another fact
pub some_map : {X : Type 0} (P Q : X → Type 0) (o : Option X) → ((x : X) → P x → Q x) → IfSome o P → IfSome o Q
some_map P Q None f h = tt
some_map P Q (Some x) f h = f x h
