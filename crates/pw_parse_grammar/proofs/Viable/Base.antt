-- The tokens before a fault begin a tree.
use Rattle.std.proofs.Common.{◌≡◌, ◌+◌, ◌≤◌, Bool, true, false, if◌then◌else◌, List, [], ◌∷◌, ◌++◌, append_assoc, length, map, Some, Ok, Err, arith, refl, sym, ap, ◌∙◌}
use Rattle.std.proofs.lemmas.List.{length-append, length-map, map-append}
use Rattle.pw_tree.specs.Scopes.{Env}
use Rattle.pw_tree.specs.Symbols.{Symbol, Reserved, Sign}
use Rattle.pw_token.specs.declared.symbol.Keyword.{Keyword}
use Rattle.pw_token.specs.declared.symbol.Mark.{Mark}
use Rattle.pw_parse_grammar.specs.Input.{Input, Outcome, Parser, and_then, pure, step, sees, sees_keyword, past, past_keyword, eat, eat_keyword, expect, expect_keyword}
use Rattle.pw_parse_grammar.proofs.Trees.Base.{names_of}
use Rattle.pw_parse_grammar.proofs.Sound.Base.{Post, Reads, sign, word_sign}

-- ---- answers

-- what holds of an answer and the input behind it, and what holds of a fault
abbrev pub Does : {A : Type 0} → (A → Input → Type 0) → (Input → Type 0) → Outcome A → Type 0
Does Q V (Ok p) = Q p.0 p.1
Does Q V (Err e) = V e

-- what holds of a fault; nothing is said of an answer
abbrev pub Fails : {A : Type 0} → (Input → Type 0) → Outcome A → Type 0
Fails V o = Does (λ x j. Unit {0}) V o

pub bind-fails : {A B : Type 0} {Q : A → Input → Type 0} {W : Input → Type 0} (R : B → Input → Type 0) (V : Input → Type 0) (o : Outcome A) (f : A → Parser B) → Post Q o → Fails W o → ((e : Input) → W e → V e)
    → ((x : A) (j : Input) → Q x j → Does R V (f x j)) → Does R V (and_then o f)
bind-fails R V (Ok p) f h w g k = k p.0 p.1 h
bind-fails R V (Err e) f h w g k = g e w

-- the same behind a parser of which both are said at once
pub bind-does : {A B : Type 0} {Q : A → Input → Type 0} {W : Input → Type 0} (R : B → Input → Type 0) (V : Input → Type 0) (o : Outcome A) (f : A → Parser B) → Does Q W o → ((e : Input) → W e → V e)
    → ((x : A) (j : Input) → Q x j → Does R V (f x j)) → Does R V (and_then o f)
bind-does R V (Ok p) f h g k = k p.0 p.1 h
bind-does R V (Err e) f h g k = g e h

pub both_hold : {A : Type 0} (Q : A → Input → Type 0) (V : Input → Type 0) (o : Outcome A) → Post Q o → Fails V o → Does Q V o
both_hold Q V (Ok p) h v = h
both_hold Q V (Err e) h v = v

pub weaken-does : {A : Type 0} {Q : A → Input → Type 0} {W : Input → Type 0} (R : A → Input → Type 0) (V : Input → Type 0) (o : Outcome A) → Does Q W o → ((e : Input) → W e → V e) → ((x : A) (j : Input) → Q x j → R x j) → Does R V o
weaken-does R V (Ok p) h g k = k p.0 p.1 h
weaken-does R V (Err e) h g k = g e h

pub weaken-fails : {A : Type 0} {W : Input → Type 0} (V : Input → Type 0) (o : Outcome A) → Fails W o → ((e : Input) → W e → V e) → Fails V o
weaken-fails V (Ok p) h g = tt
weaken-fails V (Err e) h g = g e h

-- an answer that is put into another thing
pub map-fails : {A B : Type 0} (V : Input → Type 0) (f : A → B) (o : Outcome A) → Fails V o → Fails V (and_then o (λ x. pure (f x)))
map-fails V f (Ok p) h = tt
map-fails V f (Err e) h = h

pub choose-fails : {A : Type 0} (R : A → Input → Type 0) (V : Input → Type 0) (b : Bool) (p q : Parser A) (i : Input) → (b ≡ true → Does R V (p i)) → (b ≡ false → Does R V (q i)) → Does R V ((if b then p else q) i)
choose-fails R V true p q i f g = f refl
choose-fails R V false p q i f g = g refl

-- ---- forms

-- a form of things: which hold where names are visible, and their tokens before those behind
pub record Form (A : Type 0) : Type 1 where
  pub holds : Env → A → Type 0
  pub put : A → List Symbol → List Symbol

-- whatever is to stand behind these tokens, a thing of the form is spelled by them and more
pub record Begins {A : Type 0} (F : Form A) (env : Env) (front : List Symbol → List Symbol) : Type 0 where
  pub thing : A
  pub holds : F.holds env thing
  pub spells : (z : List Symbol) → (w : List Symbol) × (F.put thing z ≡ front w)

-- From i to the fault at e these tokens stand, and a thing of the form begins with them.
pub record Viable {A : Type 0} (F : Form A) (env : Env) (i e : Input) : Type 0 where
  pub front : List Symbol → List Symbol
  pub text : i.rest ≡ map Some (front []) ++ e.rest
  pub next : e.next ≡ i.next + length (front [])
  pub plain : (z : List Symbol) → front z ≡ front [] ++ z
  pub begins : Begins F env front

-- a token is missing behind what was read
pub missing : {A : Type 0} {F : Form A} {env inner : Env} {i j : Input} {put : List Symbol → List Symbol} → Reads i j inner put → Begins F env put → Viable F env i j
missing {put = put} r b = record { front = put; text = r.text; next = r.next; plain = r.plain; begins = b }

-- a fault in a part that stands behind what was read
pub embed : {A B : Type 0} {P : Form A} {F : Form B} {env inner : Env} {i j e : Input} {put : List Symbol → List Symbol} → Reads i j inner put → Viable P inner j e
    → ((x : A) → P.holds inner x → Begins F env (λ z. put (P.put x z))) → Viable F env i e
embed {P = P} {F = F} {env = env} {i = i} {e = e} {put = put} r v f = record {
  front = λ z. put (v.front z);
  text = r.text ∙ ap (λ u. map Some (put []) ++ u) v.text ∙ sym (append_assoc (map Some (put [])) (map Some (v.front [])) e.rest) ∙ ap (λ u. u ++ e.rest) (sym (map-append Some (put []) (v.front []))) ∙ ap (λ u. map Some u ++ e.rest) (sym (r.plain (v.front [])));
  next = omega (arith, r.next, v.next, ap length (r.plain (v.front [])), length-append (put []) (v.front []));
  plain = λ z. r.plain (v.front z) ∙ ap (λ u. put [] ++ u) (v.plain z) ∙ sym (append_assoc (put []) (v.front []) z) ∙ ap (λ u. u ++ z) (sym (r.plain (v.front [])));
  begins = by (f v.begins.thing v.begins.holds);
}
  where
    by : Begins F env (λ z. put (P.put v.begins.thing z)) → Begins F env (λ z. put (v.front z))
    by b = record {
      thing = b.thing;
      holds = b.holds;
      spells = λ z. ((v.begins.spells (b.spells z).0).0, (b.spells z).1 ∙ ap put (v.begins.spells (b.spells z).0).1);
    }

-- the same where nothing was read
pub as_part : {A B : Type 0} {P : Form A} {F : Form B} {env inner : Env} {i e : Input} → Viable P inner i e → ((x : A) → P.holds inner x → Begins F env (P.put x)) → Viable F env i e
as_part {P = P} {F = F} {env = env} v f = record { front = v.front; text = v.text; next = v.next; plain = v.plain; begins = by (f v.begins.thing v.begins.holds) }
  where
    by : Begins F env (P.put v.begins.thing) → Begins F env v.front
    by b = record {
      thing = b.thing;
      holds = b.holds;
      spells = λ z. ((v.begins.spells (b.spells z).0).0, (b.spells z).1 ∙ (v.begins.spells (b.spells z).0).1);
    }

-- nothing was read: some thing of the form is enough
pub absent : {A : Type 0} (F : Form A) {env : Env} (i : Input) (x : A) → F.holds env x → Viable F env i i
absent F i x h = record {
  front = λ z. z;
  text = refl;
  next = omega arith;
  plain = λ z. refl;
  begins = record { thing = x; holds = h; spells = λ z. (F.put x z, refl) };
}

-- ---- lengths

-- what is read is no longer ahead
pub counted : {i j : Input} {env : Env} {put : List Symbol → List Symbol} → Reads i j env put → length (put []) + length j.rest ≡ length i.rest
counted {j = j} {put = put} r = omega (arith, ap length r.text, length-append (map Some (put [])) j.rest, length-map (put []) Some)

pub no_longer : {i j : Input} {env : Env} {put : List Symbol → List Symbol} → Reads i j env put → length j.rest ≤ length i.rest
no_longer r = omega (arith, counted r)

-- ---- marks and keywords

-- a mark that has to stand next
pub expected-fails : {A : Type 0} (R : A → Input → Type 0) (V : Input → Type 0) (i : Input) (env : Env) (mark : Mark) (p : Parser A) → i.names ≡ names_of env → V i → ((j : Input) → Reads i j env (λ z. Sign mark ∷ z) → Does R V (p j))
    → Does R V (and_then (expect mark i) (λ _. p))
unfolding expect
expected-fails R V i env mark p names v f = by (sees mark i) refl
  where
    by : (b : Bool) → sees mark i ≡ b → Does R V (and_then (if b then Ok (tt {0}, step i) else Err i) (λ _. p))
    by true h = f (step i) (sign i env mark h names)
    by false h = v

-- a mark that may stand next
pub eaten-fails : {A : Type 0} (R : A → Input → Type 0) (V : Input → Type 0) (i : Input) (env : Env) (mark : Mark) (p q : Parser A) → i.names ≡ names_of env → ((j : Input) → Reads i j env (λ z. Sign mark ∷ z) → Does R V (p j)) → (sees mark i ≡ false → Does R V (q i))
    → Does R V (and_then (eat mark i) (λ b. if b then p else q))
unfolding past
eaten-fails R V i env mark p q names f g = by (sees mark i) refl
  where
    by : (b : Bool) → sees mark i ≡ b → Does R V ((if b then p else q) (if b then step i else i))
    by true h = f (step i) (sign i env mark h names)
    by false h = g h

-- a keyword that has to stand next
pub expected_keyword-fails : {A : Type 0} (R : A → Input → Type 0) (V : Input → Type 0) (i : Input) (env : Env) (word : Keyword) (p : Parser A) → i.names ≡ names_of env → V i → ((j : Input) → Reads i j env (λ z. Reserved word ∷ z) → Does R V (p j))
    → Does R V (and_then (expect_keyword word i) (λ _. p))
unfolding expect_keyword
expected_keyword-fails R V i env word p names v f = by (sees_keyword word i) refl
  where
    by : (b : Bool) → sees_keyword word i ≡ b → Does R V (and_then (if b then Ok (tt {0}, step i) else Err i) (λ _. p))
    by true h = f (step i) (word_sign i env word h names)
    by false h = v

-- a keyword that may stand next
pub eaten_keyword-fails : {A : Type 0} (R : A → Input → Type 0) (V : Input → Type 0) (i : Input) (env : Env) (word : Keyword) (p q : Parser A) → i.names ≡ names_of env → ((j : Input) → Reads i j env (λ z. Reserved word ∷ z) → Does R V (p j))
    → (sees_keyword word i ≡ false → Does R V (q i)) → Does R V (and_then (eat_keyword word i) (λ b. if b then p else q))
unfolding past_keyword
eaten_keyword-fails R V i env word p q names f g = by (sees_keyword word i) refl
  where
    by : (b : Bool) → sees_keyword word i ≡ b → Does R V ((if b then p else q) (if b then step i else i))
    by true h = f (step i) (word_sign i env word h names)
    by false h = g h
