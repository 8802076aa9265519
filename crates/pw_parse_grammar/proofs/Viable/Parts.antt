-- Faults in the parts that hold one another.
use Rattle.std.proofs.Common.{◌≡◌, ℕ, ◌+◌, ◌<◌, ◌≤◌, Bool, true, false, not, ◌||◌, if◌then◌else◌, List, [], ◌∷◌, length, arith, refl, ap}
use Rattle.std.specs.Str.{bytes_eq}
use Rattle.std.proofs.lemmas.Slice.Eq.{bytes_eq-Decides}
use Rattle.pw_tree.specs.Levels.{level}
use Rattle.pw_tree.specs.Scopes.{Env, is_typedef_name}
use Rattle.pw_tree.specs.Spelling.{spell_expr, spell_specifiers, spell_declarator}
use Rattle.pw_tree.specs.Trees.{Word, Expr, Number, Specifiers, NoSpecifier, Basic, Declarator, Declaring, Absent, Name, NoSuffix}
use Rattle.pw_tree.specs.WellFormed.{HasSpecifier, NotTypedef, MayDeclare, WellFormed, WellFormedSpecifiers, WellFormedDeclarator}
use Rattle.pw_tree.specs.declared.expr.BasicType.TheVariants as basic
use Rattle.pw_parse_grammar.specs.declared.place.Place.{Place}
use Rattle.pw_parse_grammar.specs.declared.place.Place.TheVariants.{Named, Nameless, Either}
use Rattle.pw_parse_grammar.specs.Input.{Input, Parser}
use Rattle.pw_parse_grammar.specs.Parts.{Parts, Declared}
use Rattle.pw_parse_grammar.proofs.Trees.Base.{names_of}
use Rattle.pw_parse_grammar.proofs.Written.Knows.{MayHold, place_of}
use Rattle.pw_parse_grammar.proofs.Viable.Base.{Fails, Form, Viable}

-- ---- a name that is none of a typedef

abbrev letters : List ℕ → List ℕ → List ℕ
letters [] rest = rest
letters (c ∷ name) rest = 97 ∷ letters name rest

-- longer than each name that is visible
abbrev pub fresh_name : Env → List ℕ
fresh_name [] = 97 ∷ []
fresh_name (b ∷ env) = letters b.name (fresh_name env)

letters_count : (name rest : List ℕ) → length (letters name rest) ≡ length name + length rest
letters_count [] rest = omega arith
letters_count (c ∷ name) rest = omega (arith, letters_count name rest)

fresh_count : (env : Env) → 0 < length (fresh_name env)
fresh_count [] = omega arith
fresh_count (b ∷ env) = omega (arith, letters_count b.name (fresh_name env), fresh_count env)

longer_is_none : (env : Env) (x : List ℕ) → length (fresh_name env) ≤ length x → is_typedef_name env x ≡ false
longer_is_none [] x h = refl
longer_is_none (b ∷ env) x h = by (bytes_eq b.name x) refl (longer_is_none env x (omega (arith, h, letters_count b.name (fresh_name env))))
  where
    other : b.name ≡ x → ⊥
    other e = omega (arith, h, letters_count b.name (fresh_name env), fresh_count env, ap length e)

    by : (c : Bool) → bytes_eq b.name x ≡ c → is_typedef_name env x ≡ false → (if c then b.is_typedef else is_typedef_name env x) ≡ false
    by true e f = absurd (other ((bytes_eq-Decides b.name x).0 e))
    by false e f = f

abbrev pub fresh : Env → Word
fresh env = record { token = 0; text = fresh_name env }

pub fresh_is_none : (env : Env) → NotTypedef env (fresh env)
fresh_is_none env = longer_is_none env (fresh_name env) (omega arith)

pub fresh_may : (env : Env) (typed : Bool) → MayDeclare env typed (fresh env)
fresh_may env typed = by typed (is_typedef_name env (fresh_name env)) (fresh_is_none env)
  where
    by : (typed b : Bool) → b ≡ false → (typed || not b) ≡ true
    by true b h = refl
    by false b h = ap not h

-- ---- parts that may stand anywhere

-- `0`
abbrev pub zero_expr : Expr
zero_expr = Number (record { token = 0; text = 48 ∷ [] })

-- `int`
abbrev pub int : Specifiers
int = Basic 0 basic.Int NoSpecifier

-- a name where one is needed, and nothing elsewhere
abbrev pub some_declarator : Place → Env → Declarator
some_declarator Named env = Declaring [] (Name (fresh env)) NoSuffix
some_declarator Nameless env = Declaring [] Absent NoSuffix
some_declarator Either env = Declaring [] Absent NoSuffix

pub some_declarator-holds : (place : Place) (typed : Bool) (env : Env) → WellFormedDeclarator env typed (place_of place) (some_declarator place env)
unfolding WellFormed
some_declarator-holds Named typed env = (fresh_may env typed, tt)
some_declarator-holds Nameless typed env = (tt, tt)
some_declarator-holds Either typed env = (tt, tt)

-- ---- the forms of the parts

-- expressions of level k or below
abbrev pub exprs : ℕ → Form Expr
exprs k = record { holds = λ env e. WellFormed env e × (level e ≤ k); put = spell_expr }

-- lists of specifiers, one or more, behind others
abbrev pub specifier_lists : Bool → Bool → Form Specifiers
specifier_lists storage typed = record { holds = λ env ss. WellFormedSpecifiers env typed ss × MayHold storage ss × HasSpecifier ss; put = spell_specifiers }

abbrev pub declarators : Place → Bool → Form Declarator
declarators place typed = record { holds = λ env d. WellFormedDeclarator env typed (place_of place) d; put = spell_declarator }

-- Where fewer tokens than d are ahead, the tokens before a fault begin an expression of level k.
abbrev pub ViableExpr : ℕ → ℕ → Parser Expr → Type 0
ViableExpr d k p = (env : Env) (i : Input) → i.names ≡ names_of env → length i.rest < d → Fails (Viable (exprs k) env i) (p i)

abbrev pub ViableSpecifiers : ℕ → Bool → Parser Specifiers → Type 0
ViableSpecifiers d storage p = (env : Env) (i : Input) → i.names ≡ names_of env → length i.rest < d → Fails (Viable (specifier_lists storage false) env i) (p i)

abbrev pub ViableDeclarator : ℕ → Place → Bool → Parser Declared → Type 0
ViableDeclarator d place typed p = (env : Env) (i : Input) → i.names ≡ names_of env → length i.rest < d → Fails (Viable (declarators place typed) env i) (p i)

pub record ViableParts (d : ℕ) (parts : Parts) : Type 0 where
  pub expr : (k : ℕ) → 2 ≤ k → ViableExpr d k (parts.expr k)
  pub specifiers : (storage : Bool) → ViableSpecifiers d storage (parts.specifiers storage)
  pub declarator : (place : Place) (typed : Bool) → ViableDeclarator d place typed (parts.declarator place typed)
