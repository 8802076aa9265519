-- Declarators that are read are trees (6.5.4, 6.5.5).
use Rattle.std.proofs.Common.{◌≡◌, ℕ, Bool, true, false, not, List, [], ◌∷◌, map, Option, Some, None, ◌++◌, ◌||◌, arith, refl, sym, ap, ◌∙◌, subst}
use Rattle.pw_tree.specs.Numbering.{Numbered, NumberedDeclarator, NumberedCore, NumberedSuffixes}
use Rattle.pw_tree.specs.Scopes.{is_typedef_name, name_in, after_expr, after_declarator, after_core, Env}
use Rattle.pw_tree.specs.Spelling.{spell_expr, spell_declarator, spell_core, spell_suffixes}
use Rattle.pw_tree.specs.Symbols as symbol
use Rattle.pw_tree.specs.Symbols.{Symbol, Reserved, Sign, unary_symbol, binary_mark, assign_mark, access_mark, step_mark}
use Rattle.pw_tree.specs.Trees.{Word, Pointer, Declarator, Declaring, Absent, Name, Enclosed, NoSuffix, Array, OpenArray, Prototype, Variadic, Identifiers}
use Rattle.pw_tree.specs.WellFormed.{IsSomething, begins_with_typedef, MayEnclose, WellFormed, WellFormedDeclarator, WellFormedCore, WellFormedSuffixes}
use Rattle.pw_token.specs.declared.symbol.Mark.TheVariants as m
use Rattle.pw_parse_grammar.specs.declared.place.Place.{Place}
use Rattle.pw_parse_grammar.specs.declared.place.Place.TheVariants.{Named, Nameless, Either}
use Rattle.pw_parse_grammar.specs.Input.{Input, first_of_rest, ahead, is_none_left, at_end, step_to, step, same_mark, same_keyword, is_mark, is_keyword, sees, sees_keyword, or_false, Outcome, Parser, and_then, ◌>>=◌, ◌>>◌, pure, ◌<$>◌, fault, asks, peek, here, skip, take_number, word, past, past_keyword, eat, eat_keyword, expect, expect_keyword, identifier_by, ordinary_by, ordinary, declare_all, leave, since, turns, go_on, repeat, list_of, turn_of, while_some, turn_with, one_or_more, unless_comma, Binding}
use Rattle.pw_parse_grammar.specs.Input as input
use Rattle.pw_scope.specs.Visible.{visible}
use Rattle.pw_parse_grammar.specs.Parts.{Parts, Declared}
use Rattle.std.specs.Option.{option_or}
use Rattle.std.specs.Prelude.{is_some}
use Rattle.pw_scope.specs.Visible.{visible}
use Rattle.pw_parse_grammar.specs.Input as input
use Rattle.pw_parse_grammar.specs.Declarators.{Behind, Cored, needs_name, spells_name, may_be_enclosed_by, may_be_enclosed, absent, name_core, may_be_absent, pointers, suffixes, enclosed, core_by, core, declarator_of}
use Rattle.pw_parse_grammar.specs.Tests.{opens_parameters, symbol_begins_specifier}
use Rattle.pw_parse_grammar.proofs.Trees.Base.{names_of, names_are, true_is_not_false}
use Rattle.pw_parse_grammar.proofs.Written.Knows as knows
use Rattle.pw_parse_grammar.proofs.Written.Knows.{place_of, declared, text_of, behind_suffixes, behind_of}
use Rattle.pw_parse_grammar.proofs.Written.Declarators.{core-named}
use Rattle.pw_parse_grammar.proofs.Sound.Base.{Post, bind, choose_parser, Reads, nothing, both, token, expected}
use Rattle.pw_parse_grammar.proofs.Sound.Parts.{IsDeclarator, SoundDeclarator, Sound}
use Rattle.pw_parse_grammar.proofs.Sound.Pointers.{IsPointers, pointers-sound}
use Rattle.pw_parse_grammar.proofs.Sound.Suffixes.{IsSuffixes, suffixes-sound}

-- a core from i to j
pub record IsCore (place : Place) (typed : Bool) (env : Env) (i : Input) (c : Cored) (j : Input) : Type 0 where
  pub reads : Reads i j (after_core env c.core) (spell_core c.core)
  pub holds : WellFormedCore env typed (place_of place) c.core
  pub numbered : NumberedCore i.next c.core
  pub name : c.name ≡ text_of (name_in c.core)
  pub behind : c.behind ≡ knows.behind_core c.core

pub typedef_is : (env : Env) (i : Input) (x : List ℕ) → i.names ≡ names_of env → input.is_typedef_name i x ≡ is_typedef_name env x
unfolding input.is_typedef_name
typedef_is env i x names = ap (λ v. or_false (visible v x)) names ∙ names_are env x

-- ---- names

absent-core : (place : Place) (typed : Bool) (env : Env) (i : Input) → i.names ≡ names_of env → Post (IsCore place typed env i) (may_be_absent place i)
unfolding spell_expr after_expr WellFormed Numbered
absent-core Named typed env i names = tt
absent-core Nameless typed env i names = record { reads = nothing i env names; holds = tt; numbered = tt; name = refl; behind = refl }
absent-core Either typed env i names = record { reads = nothing i env names; holds = tt; numbered = tt; name = refl; behind = refl }

may_declare : (place : Place) (typed : Bool) (env : Env) (i : Input) (w : Word) → i.names ≡ names_of env → spells_name place typed i w.text ≡ true → WellFormedCore env typed (place_of place) (Name w)
unfolding WellFormed
may_declare Named typed env i w names h = subst (λ v. (typed || not v) ≡ true) (typedef_is env i w.text names) h
may_declare Nameless typed env i w names h = true_is_not_false h
may_declare Either typed env i w names h = subst (λ v. (typed || not v) ≡ true) (typedef_is env i w.text names) h

name-core : (place : Place) (typed : Bool) (env : Env) (i : Input) (x : List ℕ) → ahead i ≡ Some (symbol.Identifier x) → i.names ≡ names_of env → spells_name place typed i x ≡ true → IsCore place typed env i (name_core (record { token = i.next; text = x })) (step i)
unfolding spell_expr after_expr Numbered
name-core place typed env i x h names may = record {
  reads = token i env (symbol.Identifier x) h names;
  holds = may_declare place typed env i (record { token = i.next; text = x }) names may;
  numbered = refl;
  name = refl;
  behind = refl;
}

-- ---- declarators in parentheses

-- what stands ahead, where these tokens do
first_is : (i j : Input) (env : Env) (s : Symbol) (put : List Symbol → List Symbol) (more : List Symbol) → Reads i j env put → put [] ≡ s ∷ more → ahead i ≡ Some s
unfolding ahead
first_is i j env s put more r e = ap first_of_rest (r.text ∙ ap (λ v. map Some v ++ j.rest) e)

-- an empty declarator can not be enclosed
something : (place : Place) (typed : Bool) (env : Env) (i j k : Input) (x : Declarator) (other : Env) → Reads i j (after_declarator env x) (spell_declarator x) → Reads j k other (λ z. Sign m.CloseParen ∷ z)
    → WellFormedDeclarator env typed (place_of place) x → may_be_enclosed place typed i ≡ true → IsSomething x
unfolding spell_expr WellFormed may_be_enclosed
something place typed env i j k (Declaring [] Absent NoSuffix) other r c w h =
    by place w (sym (ap (may_be_enclosed_by place typed i) (first_is i k other (Sign m.CloseParen) (λ z. Sign m.CloseParen ∷ z) [] (both r c) refl)) ∙ h)
  where
    by : (place : Place) → WellFormedDeclarator env typed (place_of place) (Declaring [] Absent NoSuffix) → needs_name place ≡ true → ⊥
    by Named w h = w.0
    by Nameless w h = true_is_not_false h
    by Either w h = true_is_not_false h
something place typed env i j k (Declaring (p ∷ ps) c fs) other r closing w h = tt
something place typed env i j k (Declaring [] (Name n) fs) other r closing w h = tt
something place typed env i j k (Declaring [] (Enclosed t x) fs) other r closing w h = tt
something place typed env i j k (Declaring [] Absent (Array t e fs)) other r closing w h = tt
something place typed env i j k (Declaring [] Absent (OpenArray t fs)) other r closing w h = tt
something place typed env i j k (Declaring [] Absent (Prototype t ps fs)) other r closing w h = tt
something place typed env i j k (Declaring [] Absent (Variadic t ps fs)) other r closing w h = tt
something place typed env i j k (Declaring [] Absent (Identifiers t ws fs)) other r closing w h = tt

-- in a parameter a typedef name does not begin what is enclosed
no_typedef : (env : Env) (before i j : Input) (x : Declarator) → Reads i j (after_declarator env x) (spell_declarator x) → before.names ≡ names_of env → symbol_begins_specifier true before (ahead i) ≡ false → begins_with_typedef env x ≡ false
unfolding spell_expr
no_typedef env before i j (Declaring [] (Name w) fs) r names h =
    sym (typedef_is env before w.text names) ∙ sym (ap (symbol_begins_specifier true before) (first_is i j (after_declarator env (Declaring [] (Name w) fs)) (symbol.Identifier w.text) (spell_declarator (Declaring [] (Name w) fs)) (spell_suffixes fs []) r refl)) ∙ h
no_typedef env before i j (Declaring (p ∷ ps) c fs) r names h = refl
no_typedef env before i j (Declaring [] Absent fs) r names h = refl
no_typedef env before i j (Declaring [] (Enclosed t x) fs) r names h = refl

module _ (parts : Parts) (sound : Sound parts) where
  enclosed-core : (place : Place) (typed : Bool) (env : Env) (i j k : Input) (d : Declared) → Reads i (step i) env (λ z. Sign m.OpenParen ∷ z) → IsDeclarator place typed env (step i) d j → Reads j k (after_declarator env d.tree) (λ z. Sign m.CloseParen ∷ z)
      → may_be_enclosed place typed (step i) ≡ true → MayEnclose env (place_of place) d.tree → IsCore place typed env i (record { core = Enclosed i.next d.tree; name = d.name; behind = d.behind }) k
  unfolding spell_expr after_expr WellFormed Numbered
  enclosed-core place typed env i j k d t q c begins may = record {
    reads = both t (both q.reads c);
    holds = (something place typed env (step i) j k d.tree (after_declarator env d.tree) q.reads c q.holds begins, may, q.holds);
    numbered = (refl, subst (λ v. NumberedDeclarator v d.tree) t.next q.numbered);
    name = ap (λ v. v.name) q.same;
    behind = ap (λ v. v.behind) q.same;
  }

  enclosed-sound : (place : Place) (typed : Bool) (env : Env) (i : Input) → ahead i ≡ Some (Sign m.OpenParen) → i.names ≡ names_of env → ((j : Input) (x : Declarator) → Reads (step i) j (after_declarator env x) (spell_declarator x) → MayEnclose env (place_of place) x)
      → Post (IsCore place typed env i) (enclosed parts place typed i)
  unfolding enclosed
  enclosed-sound place typed env i h names may =
      let t = token i env (Sign m.OpenParen) h names in
      choose_parser _ (may_be_enclosed place typed (step i)) (parts.declarator place typed >>= λ d. expect m.CloseParen >> pure (record { core = Enclosed i.next d.tree; name = d.name; behind = d.behind })) fault (step i)
      (λ begins. bind _ (parts.declarator place typed (step i)) (λ d. expect m.CloseParen >> pure (record { core = Enclosed i.next d.tree; name = d.name; behind = d.behind })) (sound.declarator place typed env (step i) t.names) (λ d j q.
      expected _ j (after_declarator env d.tree) m.CloseParen (pure (record { core = Enclosed i.next d.tree; name = d.name; behind = d.behind })) q.reads.names (λ k c.
      enclosed-core place typed env i j k d t q c begins (may j d.tree q.reads))))
      (λ _. tt)

  -- `(` in a declarator that may have no name
  absent_here : (place : Place) (typed : Bool) (env : Env) (i : Input) → needs_name place ≡ false → i.names ≡ names_of env → IsCore place typed env i absent i
  unfolding spell_expr after_expr WellFormed Numbered
  absent_here Named typed env i h names = true_is_not_false (sym h)
  absent_here Nameless typed env i h names = record { reads = nothing i env names; holds = tt; numbered = tt; name = refl; behind = refl }
  absent_here Either typed env i h names = record { reads = nothing i env names; holds = tt; numbered = tt; name = refl; behind = refl }

  pub or_right : (a b : Bool) → (a || b) ≡ false → b ≡ false
  or_right true b h = true_is_not_false (sym h)
  or_right false b h = h

  paren-core : (place : Place) (typed : Bool) (env : Env) (i : Input) → ahead i ≡ Some (Sign m.OpenParen) → i.names ≡ names_of env → Post (IsCore place typed env i) (core_by parts place typed (Some (Sign m.OpenParen)) i)
  unfolding opens_parameters
  paren-core Named typed env i h names = enclosed-sound Named typed env i h names (λ j x r. tt)
  paren-core Nameless typed env i h names = choose_parser _ (opens_parameters i) (pure absent) (enclosed parts Nameless typed) i
      (λ _. absent_here Nameless typed env i refl names)
      (λ _. enclosed-sound Nameless typed env i h names (λ j x r. tt))
  paren-core Either typed env i h names = choose_parser _ (opens_parameters i) (pure absent) (enclosed parts Either typed) i
      (λ _. absent_here Either typed env i refl names)
      (λ none. enclosed-sound Either typed env i h names (λ j x r.
      no_typedef env i (step i) j x r names (or_right (sees m.CloseParen (step i)) (symbol_begins_specifier true i (ahead (step i))) none)))

  core-by : (place : Place) (typed : Bool) (env : Env) (i : Input) → i.names ≡ names_of env → (s : Option Symbol) → ahead i ≡ s → Post (IsCore place typed env i) (core_by parts place typed s i)
  core-by place typed env i names (Some (symbol.Identifier x)) h = choose_parser _ (spells_name place typed i x) (name_core <$> word x) (may_be_absent place) i
      (λ may. name-core place typed env i x h names may)
      (λ _. absent-core place typed env i names)
  core-by place typed env i names (Some (Sign m.OpenParen)) h = paren-core place typed env i h names
  core-by place typed env i names None h = absent-core place typed env i names
  core-by place typed env i names (Some _) h = absent-core place typed env i names

  pub core-sound : (place : Place) (typed : Bool) (env : Env) (i : Input) → i.names ≡ names_of env → Post (IsCore place typed env i) (core parts place typed i)
  unfolding core
  core-sound place typed env i names = core-by place typed env i names (ahead i) refl

  whole-declarator : (place : Place) (typed : Bool) (env : Env) (i x y j : Input) (ps : List Pointer) (c : Cored) (fs : Behind) → IsPointers env i ps x → IsCore place typed env x c y → IsSuffixes (is_some c.name) (after_core env c.core) y fs j
      → IsDeclarator place typed env i (record { tree = Declaring ps c.core fs.0; name = c.name; behind = option_or c.behind fs.1 }) j
  unfolding spell_expr after_expr WellFormed Numbered
  whole-declarator place typed env i x y j ps c fs q r s = record {
    reads = both q.reads (both r.reads s.reads);
    holds = (r.holds, subst (λ v. WellFormedSuffixes (after_core env c.core) v fs.0) (ap is_some r.name ∙ core-named c.core) s.holds);
    numbered = (q.numbered, subst (λ v. NumberedCore v c.core) q.reads.next r.numbered, subst (λ v. NumberedSuffixes v fs.0) (omega (arith, q.reads.next, r.reads.next)) s.numbered);
    same = ap (λ v. record { tree = Declaring ps c.core fs.0; name = v; behind = option_or c.behind fs.1 }) r.name
        ∙ ap (λ v. record { tree = Declaring ps c.core fs.0; name = text_of (name_in c.core); behind = option_or v fs.1 }) r.behind
        ∙ ap (λ v. record { tree = Declaring ps c.core fs.0; name = text_of (name_in c.core); behind = option_or (knows.behind_core c.core) v }) s.declares;
  }

  pub declarator_of-sound : (place : Place) (typed : Bool) → SoundDeclarator place typed (declarator_of parts place typed)
  unfolding declarator_of
  declarator_of-sound place typed env i names =
      bind _ (pointers i) (λ ps. core parts place typed >>= λ c. suffixes parts (is_some c.name) >>= λ fs. pure (record { tree = Declaring ps c.core fs.0; name = c.name; behind = option_or c.behind fs.1 })) (pointers-sound env i names) (λ ps x q.
      bind _ (core parts place typed x) (λ c. suffixes parts (is_some c.name) >>= λ fs. pure (record { tree = Declaring ps c.core fs.0; name = c.name; behind = option_or c.behind fs.1 })) (core-sound place typed env x q.reads.names) (λ c y r.
      bind _ (suffixes parts (is_some c.name) y) (λ fs. pure (record { tree = Declaring ps c.core fs.0; name = c.name; behind = option_or c.behind fs.1 })) (suffixes-sound parts sound (is_some c.name) (after_core env c.core) y r.reads.names) (λ fs j s.
      whole-declarator place typed env i x y j ps c fs q r s)))
