-- Tests on the tokens ahead in two texts that are one up to a place.
use Rattle.std.proofs.Common.{◌≡◌, ℕ, ◌≤◌, Bool, true, false, not, ◌&&◌, ◌||◌, if◌then◌else◌, ◌⊎◌, inl, inr, List, ◌∷◌, length, Option, Some, None, refl, sym, ap}
use Rattle.pw_tree.specs.Symbols.{Symbol, Reserved, Sign, Identifier}
use Rattle.pw_token.specs.declared.symbol.Mark.TheVariants as m
use Rattle.pw_parse_grammar.specs.Declarators.{may_be_enclosed, may_be_enclosed_by}
use Rattle.pw_parse_grammar.specs.Input.{Binding, Parser, ahead, step, same_mark, is_mark, sees, is_typedef_name}
use Rattle.pw_parse_grammar.specs.Modules.{goes_on_as_declaration}
use Rattle.pw_parse_grammar.specs.Tests.{symbol_begins_specifier, begins_specifier, is_name, opens_label, begins_declaration, opens_type_name, opens_parameters}
use Rattle.pw_parse_grammar.specs.declared.place.Place.{Place}
use Rattle.pw_parse_grammar.proofs.Trees.Base.{true_is_not_false}
use Rattle.pw_parse_grammar.proofs.Progress.Base.{Left, Forward, left-parser-if}
use Rattle.pw_parse_grammar.proofs.Local.Base.{input, Near, Agree, Steady, SteadyOnTwo, asked-two}

begins-same : (storage : Bool) (names : List Binding) (n : ℕ) (a b : List (Option Symbol)) (s : Option Symbol) → symbol_begins_specifier storage (input names a n) s ≡ symbol_begins_specifier storage (input names b n) s
unfolding is_typedef_name
begins-same storage names n a b (Some (Reserved w)) = refl
begins-same storage names n a b (Some (Identifier x)) = refl
begins-same storage names n a b None = refl
begins-same storage names n a b (Some _) = refl

pub begins_specifier-steady : (storage : Bool) → Steady (begins_specifier storage)
unfolding begins_specifier ahead
begins_specifier-steady storage names n s t t' = begins-same storage names n (s ∷ t) (s ∷ t') s

-- where no statement may stand
pub begins_declaration-steady : Steady (begins_declaration false)
unfolding begins_declaration
begins_declaration-steady names n s t t' = ap (λ b. b && true) (begins_specifier-steady true names n s t t')

-- where one may
pub begins_declaration-steady_on_two : SteadyOnTwo (begins_declaration true)
unfolding begins_declaration begins_specifier opens_label sees ahead step
begins_declaration-steady_on_two names n s s' t t' = ap (λ b. b && not (is_name s && is_mark m.Colon s')) (begins-same true names n (s ∷ s' ∷ t) (s ∷ s' ∷ t') s)

-- a token that is no name decides by itself
pub begins_declaration-one : (names : List Binding) (n : ℕ) (s : Option Symbol) (t t' : List (Option Symbol)) → is_name s ≡ false → begins_declaration true (input names (s ∷ t) n) ≡ begins_declaration true (input names (s ∷ t') n)
unfolding begins_declaration begins_specifier opens_label ahead
begins_declaration-one names n (Some (Identifier x)) t t' h = true_is_not_false (sym h)
begins_declaration-one names n None t t' h = refl
begins_declaration-one names n (Some _) t t' h = refl

opens_type_name-steady : SteadyOnTwo opens_type_name
unfolding opens_type_name sees ahead step
opens_type_name-steady names n s s' t t' = ap (λ b. is_mark m.OpenParen s && b) (begins-same false names n (s ∷ s' ∷ t) (s ∷ s' ∷ t') s')

pub opens_parameters-steady : SteadyOnTwo opens_parameters
unfolding opens_parameters sees ahead step
opens_parameters-steady names n s s' t t' = ap (λ b. is_mark m.CloseParen s' || b) (begins-same true names n (s ∷ s' ∷ t) (s ∷ s' ∷ t') s')

pub may_be_enclosed-steady : (place : Place) (typed : Bool) → Steady (may_be_enclosed place typed)
unfolding may_be_enclosed ahead is_typedef_name
may_be_enclosed-steady place typed names n s t t' = by s
  where
    by : (x : Option Symbol) → may_be_enclosed_by place typed (input names (s ∷ t) n) x ≡ may_be_enclosed_by place typed (input names (s ∷ t') n) x
    by (Some (Sign m.Star)) = refl
    by (Some (Sign m.OpenParen)) = refl
    by (Some (Sign m.OpenBracket)) = refl
    by (Some (Identifier x)) = refl
    by None = refl
    by (Some _) = refl

pub goes_on_as_declaration-steady : Steady goes_on_as_declaration
unfolding goes_on_as_declaration sees ahead
goes_on_as_declaration-steady names n s t t' = refl

opens-one : (r w : List (Option Symbol)) {A : Type 0} (p q : Parser A) (names : List Binding) (n : ℕ) → Left (length r) (p (input names (Some (Sign m.OpenParen) ∷ r) n)) → Left (length r) (q (input names (Some (Sign m.OpenParen) ∷ r) n)) → (s : Option Symbol)
    → Left (length r) ((if opens_type_name (input names (s ∷ r) n) then p else q) (input names (s ∷ r) n)) ⊎ (opens_type_name (input names (s ∷ r) n) ≡ opens_type_name (input names (s ∷ w) n))
unfolding opens_type_name sees ahead same_mark
opens-one r w p q names n paren paren' (Some (Sign m.OpenParen)) = inl (left-parser-if (opens_type_name (input names (Some (Sign m.OpenParen) ∷ r) n)) p q (input names (Some (Sign m.OpenParen) ∷ r) n) paren paren')
opens-one r w p q names n paren paren' None = inr refl
opens-one r w p q names n paren paren' (Some (Sign _)) = inr refl
opens-one r w p q names n paren paren' (Some _) = inr refl

-- where a `(` stands next and what is behind it decides
pub asked-type_name : (r w : List (Option Symbol)) (d : ℕ) {A : Type 0} {c : A → ℕ} (p q p' q' : Parser A) (names : List Binding) (n : ℕ) (t t' : List (Option Symbol)) → Near r w d t t'
    → (1 ≤ d → Left (length r) (p (input names (Some (Sign m.OpenParen) ∷ r) n))) → (1 ≤ d → Left (length r) (q (input names (Some (Sign m.OpenParen) ∷ r) n)))
    → Forward (λ i. (if opens_type_name i then p else q) i) → Agree r w c (p (input names t n)) (p' (input names t' n)) → Agree r w c (q (input names t n)) (q' (input names t' n))
    → Agree r w c ((if opens_type_name (input names t n) then p else q) (input names t n)) ((if opens_type_name (input names t' n) then p' else q') (input names t' n))
asked-type_name r w d p q p' q' names n t t' h paren paren' left g g' = asked-two r w d opens_type_name opens_type_name-steady p q p' q' names n t t' h (λ pos. opens-one r w p q names n (paren pos) (paren' pos)) left g g'
