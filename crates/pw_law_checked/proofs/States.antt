-- How the state of checking grows within expressions and types: it forgets nothing, and the names that are entered stand in the
-- scope that is read.
use Rattle.pw_law_checked.proofs.Sound.{Sound, IsPlain}
use Rattle.pw_law_checked.proofs.Settled.{IsString}
use Rattle.pw_check_rules.specs.declared.names.Slot.{Slot}
use Rattle.std.specs.Prelude.{ℕ, ◌≡◌, ◌⊎◌, true, Some, List, [], ◌++◌, slice_get, refl, Option}
use Rattle.std.specs.Option.{option_map_or}
use Rattle.std.proofs.Common.{arith, ap, sym, subst, ◌∙◌, inl, inr, append_assoc, append-nil}
use Rattle.pw_types.specs.TypeTrees.{type_of}
use Rattle.pw_types.specs.TypedTrees.{External, LocalValue, ModuleValue, Expression, type_at, form_of}
use Rattle.pw_types.specs.WellTyped.{IsTyped, IsLvalue, IsDesignator, IsFunctionType}
use Rattle.pw_check_walk.specs.Walks.{Walk, bind}
use Rattle.pw_check_rules.specs.Linkage.{symbol_at, symbol_of_linked}
use Rattle.pw_check_rules.specs.Operands.{Operand}
use Rattle.pw_check_rules.specs.States.{State, Entity, TypeName, EnumerationConstant, LocalObject, StaticObject, Linked, HiddenObject, entry_here}
use Rattle.pw_check_rules.specs.declared.names.Entry.{Entry}
use Rattle.pw_law_checked.specs.Lawful.{IsLawful, IsLawfulType, Extends, Denotes, StandsFor, IsNamed, AreWords}
use Rattle.pw_law_checked.proofs.Walking.{Post, post_bind, post_weaken}
use Rattle.pw_law_checked.proofs.Lists.{Longer, get_append, get_either}
use Rattle.pw_law_checked.proofs.Types.{extends_trans, extends_same}

-- what an enumeration enters
abbrev pub IsConstant : Entity → Type 0
IsConstant (EnumerationConstant n) = Unit {0}
IsConstant _ = ⊥

constant_plain : (x : Entity) → IsConstant x → IsPlain x
constant_plain (EnumerationConstant n) h = tt
constant_plain (TypeName q) h = absurd h
constant_plain (LocalObject k q register) h = absurd h
constant_plain (StaticObject k q) h = absurd h
constant_plain (Linked k q) h = absurd h

-- an entity of this sort stands at the place
abbrev pub HasEntity : (Entity → Type 0) → State → ℕ → Type 0
HasEntity P t place = (x : Entity) × (slice_get t.scopes.entities place ≡ Some x) × P x

-- names of this sort are entered, and objects without a name of that sort made
pub record GrowsBy (P : Entity → Type 0) (H : HiddenObject → Type 0) (s t : State) : Type 0 where
  pub extends : Extends s.types.records t.types.records
  pub begun : (n : ℕ) → slice_get s.types.opened n ≡ Some true
      → (slice_get t.types.opened n ≡ Some true) × (slice_get t.types.records n ≡ slice_get s.types.records n)
  pub linked : t.types.linked ≡ s.types.linked
  pub entities : Longer s.scopes.entities t.scopes.entities
  pub depth : t.scopes.depth ≡ s.scopes.depth
  pub more : List (List ℕ × Entry)
  pub ordinary : t.scopes.ordinary ≡ s.scopes.ordinary ++ more
  pub deep : (i : ℕ) (e : List ℕ × Entry) → slice_get more i ≡ Some e → e.1.depth ≡ s.scopes.depth
  pub entered : (i : ℕ) (e : List ℕ × Entry) → slice_get more i ≡ Some e → HasEntity P t e.1.place
  pub hidden : Longer s.made.hidden t.made.hidden
  pub objects : (k : ℕ) (h : HiddenObject) → slice_get t.made.hidden k ≡ Some h → (slice_get s.made.hidden k ≡ Some h) ⊎ H h
  pub counting : t.made.counting ≡ s.made.counting
  pub body : t.body ≡ s.body
  pub functions : t.made.functions ≡ s.made.functions
  -- a name that is declared in the scope stays so declared
  pub here : (name : List ℕ) (e : Entry) → entry_here s name ≡ Some e → entry_here t name ≡ Some e
  pub sound : (pending : Option Slot) → Sound pending s → Sound pending t

-- within expressions and types, where the names that are entered are those of enumerations, and the objects strings
abbrev pub Grows : State → State → Type 0
Grows s t = GrowsBy IsConstant IsString s t

-- in a list of parameters, whose names are entered too
abbrev pub Widens : State → State → Type 0
Widens s t = GrowsBy IsPlain IsString s t

pub grows_same : (s : State) → Grows s s
grows_same s = record {
  extends = extends_same s.types.records;
  begun = λ n e. (e, refl);
  linked = refl;
  entities = λ i x e. e;
  depth = refl;
  more = [];
  ordinary = sym (append-nil s.scopes.ordinary);
  deep = λ i e h. (grind arith);
  entered = λ i e h. (grind arith);
  hidden = λ i x e. e;
  objects = λ k h e. inl e;
  counting = refl;
  body = refl;
  functions = refl;
  here = λ name e h. h;
  sound = λ pending h. h;
}

pub grows_trans : {P : Entity → Type 0} {H : HiddenObject → Type 0} {s t u : State} → GrowsBy P H s t → GrowsBy P H t u → GrowsBy P H s u
grows_trans {P} {H} {s} {t} {u} a b = record {
  extends = extends_trans a.extends b.extends;
  begun = λ n e. let x = a.begun n e in let y = b.begun n x.0 in (y.0, y.1 ∙ x.1);
  linked = b.linked ∙ a.linked;
  entities = λ i x e. b.entities i x (a.entities i x e);
  depth = b.depth ∙ a.depth;
  more = a.more ++ b.more;
  ordinary = b.ordinary ∙ (ap (λ xs. xs ++ b.more) a.ordinary ∙ append_assoc s.scopes.ordinary a.more b.more);
  deep = λ i e h. by_place i e (get_either a.more b.more i e h);
  entered = λ i e h. by_entity i e (get_either a.more b.more i e h);
  hidden = λ i x e. b.hidden i x (a.hidden i x e);
  objects = λ k h e. by_object k h (b.objects k h e);
  counting = b.counting ∙ a.counting;
  body = b.body ∙ a.body;
  functions = b.functions ∙ a.functions;
  here = λ name e h. b.here name e (a.here name e h);
  sound = λ pending h. b.sound pending (a.sound pending h);
}
  where
    by_object : (k : ℕ) (h : HiddenObject) → (slice_get t.made.hidden k ≡ Some h) ⊎ H h → (slice_get s.made.hidden k ≡ Some h) ⊎ H h
    by_object k h (inl e) = a.objects k h e
    by_object k h (inr x) = inr x

    by_place : (i : ℕ) (e : List ℕ × Entry) → (slice_get a.more i ≡ Some e) ⊎ ((j : ℕ) × (slice_get b.more j ≡ Some e)) → e.1.depth ≡ s.scopes.depth
    by_place i e (inl h) = a.deep i e h
    by_place i e (inr h) = b.deep h.0 e h.1 ∙ a.depth

    by_entity : (i : ℕ) (e : List ℕ × Entry) → (slice_get a.more i ≡ Some e) ⊎ ((j : ℕ) × (slice_get b.more j ≡ Some e)) → HasEntity P u e.1.place
    by_entity i e (inl h) = let x = a.entered i e h in (x.0, b.entities e.1.place x.0 x.1, x.2)
    by_entity i e (inr h) = b.entered h.0 e h.1

-- in the initialisers of locals, which are made too
abbrev pub IsAny : HiddenObject → Type 0
IsAny h = Unit {0}

abbrev pub Raises : State → State → Type 0
Raises s t = GrowsBy IsConstant IsAny s t

pub raises_so : {s t : State} → Grows s t → Raises s t
raises_so {s} {t} g = record {
  extends = g.extends;
  begun = g.begun;
  linked = g.linked;
  entities = g.entities;
  depth = g.depth;
  more = g.more;
  ordinary = g.ordinary;
  deep = g.deep;
  entered = g.entered;
  hidden = g.hidden;
  objects = λ k h e. by k h (g.objects k h e);
  counting = g.counting;
  body = g.body;
  functions = g.functions;
  here = g.here;
  sound = g.sound;
}
  where
    by : (k : ℕ) (h : HiddenObject) → (slice_get s.made.hidden k ≡ Some h) ⊎ IsString h → (slice_get s.made.hidden k ≡ Some h) ⊎ Unit {0}
    by k h (inl e) = inl e
    by k h (inr x) = inr tt

pub widens_so : {s t : State} → Grows s t → Widens s t
widens_so {s} {t} g = record {
  extends = g.extends;
  begun = g.begun;
  linked = g.linked;
  entities = g.entities;
  depth = g.depth;
  more = g.more;
  ordinary = g.ordinary;
  deep = g.deep;
  entered = λ i e h. let x = g.entered i e h in (x.0, x.1, constant_plain x.0 x.2);
  hidden = g.hidden;
  objects = g.objects;
  counting = g.counting;
  body = g.body;
  functions = g.functions;
  here = g.here;
  sound = g.sound;
}

symbols_same : (s t : State) → t.types.linked ≡ s.types.linked → (n : ℕ) → symbol_at t n ≡ symbol_at s n
symbols_same s t e n = ap (λ l. option_map_or symbol_of_linked (slice_get l n) (External [])) e

pub stands_back : (s t : State) (m : ModuleValue) → t.types.linked ≡ s.types.linked → (e : Entity) → StandsFor t m e → StandsFor s m e
stands_back s t m same (TypeName q) h = tt
stands_back s t m same (EnumerationConstant n) h = tt
stands_back s t m same (LocalObject k q register) h = tt
stands_back s t m same (StaticObject k q) h = h
stands_back s t m same (Linked n q) h = subst (λ x. IsNamed m x q) (symbols_same s t same n) h

-- what the later state denotes, the earlier one denotes
pub denotes_back : {s t : State} {m : ModuleValue} {locals : List LocalValue} → Grows s t → Denotes t m locals → Denotes s m locals
denotes_back {s} {t} {m} {locals} g d = record {
  counting = sym g.counting ∙ d.counting;
  records = extends_trans g.extends d.records;
  strings = λ k h e. d.strings k h (g.hidden k h e);
  entities = λ k e h. stands_back s t m g.linked e (d.entities k e (g.entities k e h));
  locals_are = λ i e k q register h f.
      d.locals_are i e k q register
      (subst (λ xs. slice_get xs i ≡ Some e) (sym g.ordinary) (get_append s.scopes.ordinary g.more i e h))
      (g.entities e.1.place (LocalObject k q register) f);
}

-- ---- what operands and values are in a module and among locals

pub record GoodOperand (m : ModuleValue) (locals : List LocalValue) (a : Operand) : Type 0 where
  pub typed : IsTyped m locals a.node
  pub lawful : IsLawfulType m.records (type_of (type_at a.node))
  pub lvalue : a.lvalue ≡ true → IsLvalue a.node
  pub designates : IsFunctionType (type_of (type_at a.node)) → IsDesignator (form_of a.node)

pub record GoodValue (m : ModuleValue) (locals : List LocalValue) (e : Expression) : Type 0 where
  pub typed : IsTyped m locals e
  pub lawful : IsLawfulType m.records (type_of (type_at e))
  pub object : IsFunctionType (type_of (type_at e)) → ⊥

abbrev pub Fine : State → Operand → Type 0
Fine s a = (m : ModuleValue) (locals : List LocalValue) → Denotes s m locals → AreWords a.node → GoodOperand m locals a

abbrev pub FineValue : State → Expression → Type 0
FineValue s e = (m : ModuleValue) (locals : List LocalValue) → Denotes s m locals → AreWords e → GoodValue m locals e

pub fine_later : {s t : State} {a : Operand} → Grows s t → Fine s a → Fine t a
fine_later g f = λ m locals d w. f m locals (denotes_back g d) w

pub value_later : {s t : State} {e : Expression} → Grows s t → FineValue s e → FineValue t e
value_later g f = λ m locals d w. f m locals (denotes_back g d) w

-- ---- rules that keep the state lawful

abbrev pub Runs : {A : Type 0} → State → Walk (A × State) → (State → A → Type 0) → Type 0
Runs s w Good = Post w (λ r. IsLawful r.1 × Grows s r.1 × Good r.1 r.0)

pub goes_on : {A B : Type 0} {s : State} (w : Walk (A × State)) (next : A × State → Walk (B × State))
    (Good : State → A → Type 0) (Best : State → B → Type 0) → Runs s w Good
    → ((r : A × State) → IsLawful r.1 → Grows s r.1 → Good r.1 r.0 → Runs r.1 (next r) Best) → Runs s (bind w next) Best
goes_on {A} {B} {s} w next Good Best h k =
    post_bind w next (λ r. IsLawful r.1 × Grows s r.1 × Good r.1 r.0) (λ r. IsLawful r.1 × Grows s r.1 × Best r.1 r.0) h
    (λ r g. post_weaken (next r) (λ u. IsLawful u.1 × Grows r.1 u.1 × Best u.1 u.0) (λ u. IsLawful u.1 × Grows s u.1 × Best u.1 u.0)
    (k r g.0 g.1 g.2) (λ u f. (f.0, grows_trans g.1 f.1, f.2)))

-- the same in a list of parameters
abbrev pub Widely : {A : Type 0} → State → Walk (A × State) → (State → A → Type 0) → Type 0
Widely s w Good = Post w (λ r. IsLawful r.1 × Widens s r.1 × Good r.1 r.0)

pub widely : {A : Type 0} (s : State) (w : Walk (A × State)) (Good : State → A → Type 0) → Runs s w Good → Widely s w Good
widely {A} s w Good h =
    post_weaken w (λ r. IsLawful r.1 × Grows s r.1 × Good r.1 r.0) (λ r. IsLawful r.1 × Widens s r.1 × Good r.1 r.0) h (λ r g. (g.0, widens_so g.1, g.2))

pub goes_widely : {A B : Type 0} {s : State} (w : Walk (A × State)) (next : A × State → Walk (B × State))
    (Good : State → A → Type 0) (Best : State → B → Type 0) → Widely s w Good
    → ((r : A × State) → IsLawful r.1 → Widens s r.1 → Good r.1 r.0 → Widely r.1 (next r) Best) → Widely s (bind w next) Best
goes_widely {A} {B} {s} w next Good Best h k =
    post_bind w next (λ r. IsLawful r.1 × Widens s r.1 × Good r.1 r.0) (λ r. IsLawful r.1 × Widens s r.1 × Best r.1 r.0) h
    (λ r g. post_weaken (next r) (λ u. IsLawful u.1 × Widens r.1 u.1 × Best u.1 u.0) (λ u. IsLawful u.1 × Widens s u.1 × Best u.1 u.0)
    (k r g.0 g.1 g.2) (λ u f. (f.0, grows_trans g.1 f.1, f.2)))

-- a rule of expressions and types, and then one of parameters
pub then_widely : {A B : Type 0} {s : State} (w : Walk (A × State)) (next : A × State → Walk (B × State))
    (Good : State → A → Type 0) (Best : State → B → Type 0) → Runs s w Good
    → ((r : A × State) → IsLawful r.1 → Grows s r.1 → Good r.1 r.0 → Widely r.1 (next r) Best) → Widely s (bind w next) Best
then_widely {A} {B} {s} w next Good Best h k =
    post_bind w next (λ r. IsLawful r.1 × Grows s r.1 × Good r.1 r.0) (λ r. IsLawful r.1 × Widens s r.1 × Best r.1 r.0) h
    (λ r g. post_weaken (next r) (λ u. IsLawful u.1 × Widens r.1 u.1 × Best u.1 u.0) (λ u. IsLawful u.1 × Widens s u.1 × Best u.1 u.0)
    (k r g.0 g.1 g.2) (λ u f. (f.0, grows_trans (widens_so g.1) f.1, f.2)))
