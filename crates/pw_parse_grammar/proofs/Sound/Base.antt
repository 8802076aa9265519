-- What holds of parsers' answers, and of the tokens between two inputs.
use Rattle.std.proofs.Common.{◌≡◌, ◌+◌, Bool, true, false, if◌then◌else◌, List, [], ◌∷◌, ◌++◌, append_assoc, length, map, Option, Some, None, Ok, Err, arith, rules, refl, sym, ap, ◌∙◌}
use Rattle.std.proofs.lemmas.List.{length-append, map-append}
use denote.Enum.Bare.{same_true}
use Rattle.pw_tree.specs.Scopes.{Env}
use Rattle.pw_tree.specs.Symbols.{Symbol, Reserved, Sign}
use Rattle.pw_token.specs.contracts.symbol.Keyword.{the_type as the_keywords}
use Rattle.pw_token.specs.contracts.symbol.Mark.{the_type as the_marks}
use Rattle.pw_token.specs.declared.symbol.Keyword.{Keyword}
use Rattle.pw_token.specs.declared.symbol.Mark.{Mark}
use Rattle.pw_parse_grammar.specs.Input.{Input, Outcome, Parser, and_then, first_of_rest, ahead, step_to, step, same_mark, same_keyword, is_mark, is_keyword, sees, sees_keyword, past, past_keyword, eat, eat_keyword, expect, expect_keyword}
use Rattle.pw_parse_grammar.proofs.Trees.Base.{names_of}

-- ---- answers

-- what holds of an answer and the input behind it; nothing is said of a fault
abbrev pub Post : {A : Type 0} → (A → Input → Type 0) → Outcome A → Type 0
Post Q (Ok p) = Q p.0 p.1
Post Q (Err i) = Unit {0}

pub bind : {A B : Type 0} {Q : A → Input → Type 0} (R : B → Input → Type 0) (o : Outcome A) (f : A → Parser B) → Post Q o → ((x : A) (j : Input) → Q x j → Post R (f x j)) → Post R (and_then o f)
bind R (Ok p) f h g = g p.0 p.1 h
bind R (Err i) f h g = tt

pub weaken : {A : Type 0} {Q : A → Input → Type 0} (R : A → Input → Type 0) (o : Outcome A) → Post Q o → ((x : A) (j : Input) → Q x j → R x j) → Post R o
weaken R (Ok p) h g = g p.0 p.1 h
weaken R (Err i) h g = tt

pub choose : {A : Type 0} (R : A → Input → Type 0) (b : Bool) (x y : Outcome A) → (b ≡ true → Post R x) → (b ≡ false → Post R y) → Post R (if b then x else y)
choose R true x y f g = f refl
choose R false x y f g = g refl

pub choose_parser : {A : Type 0} (R : A → Input → Type 0) (b : Bool) (p q : Parser A) (i : Input) → (b ≡ true → Post R (p i)) → (b ≡ false → Post R (q i)) → Post R ((if b then p else q) i)
choose_parser R true p q i f g = f refl
choose_parser R false p q i f g = g refl

-- ---- tokens

-- From i to j these tokens are read: `put` writes them before those behind. These names are visible at j.
pub record Reads (i j : Input) (env : Env) (put : List Symbol → List Symbol) : Type 0 where
  pub text : i.rest ≡ map Some (put []) ++ j.rest
  pub next : j.next ≡ i.next + length (put [])
  pub names : j.names ≡ names_of env
  pub plain : (z : List Symbol) → put z ≡ put [] ++ z

pub nothing : (i : Input) (env : Env) → i.names ≡ names_of env → Reads i i env (λ z. z)
nothing i env h = record { text = refl; next = omega arith; names = h; plain = λ z. refl }

-- one part and another behind it
pub both : {i j k : Input} {env inner : Env} {p q : List Symbol → List Symbol} → Reads i j inner p → Reads j k env q → Reads i k env (λ z. p (q z))
both {k = k} {p = p} {q = q} a b = record {
  text = a.text ∙ ap (λ v. map Some (p []) ++ v) b.text ∙ sym (append_assoc (map Some (p [])) (map Some (q [])) k.rest) ∙ ap (λ v. v ++ k.rest) (sym (map-append Some (p []) (q []))) ∙ ap (λ v. map Some v ++ k.rest) (sym (a.plain (q [])));
  next = omega (arith, a.next, b.next, ap length (a.plain (q [])), length-append (p []) (q []));
  names = b.names;
  plain = λ z. a.plain (q z) ∙ ap (λ v. p [] ++ v) (b.plain z) ∙ sym (append_assoc (p []) (q []) z) ∙ ap (λ v. v ++ z) (sym (a.plain (q [])));
}

pub token : (i : Input) (env : Env) (s : Symbol) → ahead i ≡ Some s → i.names ≡ names_of env → Reads i (step i) env (λ z. s ∷ z)
unfolding ahead step
token i env s h names = by i.rest refl h
  where
    none : {A : Type 0} → ◌≡◌ {A = Option Symbol} None (Some s) → A
    none e = cc

    by : (rest : List (Option Symbol)) → i.rest ≡ rest → first_of_rest rest ≡ Some s → Reads i (step_to i rest) env (λ z. s ∷ z)
    by [] e f = none f
    by (x ∷ rest) e f = record {
      text = e ∙ ap (λ v. v ∷ rest) f;
      next = refl;
      names = names;
      plain = λ z. refl;
    }

-- ---- marks and keywords

pub marked : (mark : Mark) (s : Option Symbol) → is_mark mark s ≡ true → s ≡ Some (Sign mark)
unfolding same_mark
marked mark (Some (Sign other)) h = ap (λ v. Some (Sign v)) (same_true the_marks (search rules) other mark h)
marked mark None h = cc
marked mark (Some _) h = cc

pub reserved : (word : Keyword) (s : Option Symbol) → is_keyword word s ≡ true → s ≡ Some (Reserved word)
unfolding same_keyword
reserved word (Some (Reserved other)) h = ap (λ v. Some (Reserved v)) (same_true the_keywords (search rules) other word h)
reserved word None h = cc
reserved word (Some _) h = cc

-- a mark that stands next
pub sign : (i : Input) (env : Env) (mark : Mark) → sees mark i ≡ true → i.names ≡ names_of env → Reads i (step i) env (λ z. Sign mark ∷ z)
unfolding sees
sign i env mark h names = token i env (Sign mark) (marked mark (ahead i) h) names

pub expected : {A : Type 0} (R : A → Input → Type 0) (i : Input) (env : Env) (mark : Mark) (p : Parser A) → i.names ≡ names_of env → ((j : Input) → Reads i j env (λ z. Sign mark ∷ z) → Post R (p j)) → Post R (and_then (expect mark i) (λ _. p))
unfolding expect
expected R i env mark p names f = by (sees mark i) refl
  where
    by : (b : Bool) → sees mark i ≡ b → Post R (and_then (if b then Ok (tt {0}, step i) else Err i) (λ _. p))
    by true h = f (step i) (sign i env mark h names)
    by false h = tt

-- a mark that may stand next
pub eaten : {A : Type 0} (R : A → Input → Type 0) (i : Input) (env : Env) (mark : Mark) (p q : Parser A) → i.names ≡ names_of env → ((j : Input) → Reads i j env (λ z. Sign mark ∷ z) → Post R (p j)) → (sees mark i ≡ false → Post R (q i))
    → Post R (and_then (eat mark i) (λ b. if b then p else q))
unfolding past
eaten R i env mark p q names f g = by (sees mark i) refl
  where
    by : (b : Bool) → sees mark i ≡ b → Post R ((if b then p else q) (if b then step i else i))
    by true h = f (step i) (sign i env mark h names)
    by false h = g h

-- other names for those that are visible behind the tokens
pub renamed : {i j : Input} {env other : Env} {p : List Symbol → List Symbol} → Reads i j env p → j.names ≡ names_of other → Reads i j other p
renamed r h = record { text = r.text; next = r.next; names = h; plain = r.plain }

-- a keyword that stands next
pub word_sign : (i : Input) (env : Env) (word : Keyword) → sees_keyword word i ≡ true → i.names ≡ names_of env → Reads i (step i) env (λ z. Reserved word ∷ z)
unfolding sees_keyword
word_sign i env word h names = token i env (Reserved word) (reserved word (ahead i) h) names

pub expected_keyword : {A : Type 0} (R : A → Input → Type 0) (i : Input) (env : Env) (word : Keyword) (p : Parser A) → i.names ≡ names_of env → ((j : Input) → Reads i j env (λ z. Reserved word ∷ z) → Post R (p j)) → Post R (and_then (expect_keyword word i) (λ _. p))
unfolding expect_keyword
expected_keyword R i env word p names f = by (sees_keyword word i) refl
  where
    by : (b : Bool) → sees_keyword word i ≡ b → Post R (and_then (if b then Ok (tt {0}, step i) else Err i) (λ _. p))
    by true h = f (step i) (word_sign i env word h names)
    by false h = tt

-- a keyword that may stand next
pub eaten_keyword : {A : Type 0} (R : A → Input → Type 0) (i : Input) (env : Env) (word : Keyword) (p q : Parser A) → i.names ≡ names_of env → ((j : Input) → Reads i j env (λ z. Reserved word ∷ z) → sees_keyword word i ≡ true → Post R (p j))
    → (sees_keyword word i ≡ false → Post R (q i)) → Post R (and_then (eat_keyword word i) (λ b. if b then p else q))
unfolding past_keyword
eaten_keyword R i env word p q names f g = by (sees_keyword word i) refl
  where
    by : (b : Bool) → sees_keyword word i ≡ b → Post R ((if b then p else q) (if b then step i else i))
    by true h = f (step i) (word_sign i env word h names) h
    by false h = g h
