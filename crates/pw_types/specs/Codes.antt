-- How the plain data of types is written as a list, by which proofs tell its values apart: a type in the order in
-- which a machine with a stack makes it again.
use Rattle.std.specs.Prelude.{ℕ, zero, suc, ◌≡◌, ◌⊎◌, Bool, false, Option, List, [], ◌∷◌}
use Rattle.std.specs.Coded.{Coded, code_by, coded×, coded⊎, coded_ℕ, coded_bool, coded_list, coded_option}
use mathlib.Core.Logic.{inl, inr}
use mathlib.Core.Path.{refl, ap, ◌∙◌}
use Rattle.pw_types.specs.TypeTrees.{CType, Void, Int, Pointer, Array, Function, Record, QType, Qualified, QTypes, NoType, OneType, type_of, MemberValue, ContentValue, RecordValue}
use Rattle.pw_types.specs.contracts.kind.IntKind as int_kind
use Rattle.pw_types.specs.contracts.record.RecordKind as record_kind
use Rattle.pw_types.specs.declared.kind.IntKind.{IntKind}
use Rattle.pw_types.specs.declared.record.RecordKind.{RecordKind}
use Rattle.pw_types.specs.declared.record.Layout.{Layout}

-- an integer type; a record; qualifiers; an array; and by number void, a pointer, no type, one type more, a function
abbrev Step : Type 0
Step = IntKind ⊎ (ℕ ⊎ ((Bool × Bool) ⊎ (Option ℕ ⊎ ℕ)))

abbrev numbered : ℕ → Step
numbered n = inr (inr (inr (inr n)))

abbrev mutual
  type_steps : CType → List Step → List Step
  type_steps Void rest = numbered 0 ∷ rest
  type_steps (Int kind) rest = inl kind ∷ rest
  type_steps (Pointer target) rest = qtype_steps target (numbered 1 ∷ rest)
  type_steps (Array element count) rest = qtype_steps element (inr (inr (inr (inl count))) ∷ rest)
  type_steps (Function result params) rest = qtype_steps result (types_steps params (numbered 4 ∷ rest))
  type_steps (Record number) rest = inr (inl number) ∷ rest

  qtype_steps : QType → List Step → List Step
  qtype_steps (Qualified ty constant volatile) rest = type_steps ty (inr (inr (inl (constant, volatile))) ∷ rest)

  types_steps : QTypes → List Step → List Step
  types_steps NoType rest = numbered 2 ∷ rest
  types_steps (OneType q others) rest = qtype_steps q (types_steps others (numbered 3 ∷ rest))

-- a type alone on the stack
abbrev one : CType → QTypes
one ty = OneType (Qualified ty false false) NoType

abbrev first : QTypes → QType
first NoType = Qualified Void false false
first (OneType q rest) = q

abbrev top : List QTypes → QTypes
top [] = NoType
top (all ∷ rest) = all

abbrev below : List QTypes → List QTypes
below [] = []
below (all ∷ rest) = rest

abbrev taken : Step → List QTypes → List QTypes
taken (inl kind) stack = one (Int kind) ∷ stack
taken (inr (inl number)) stack = one (Record number) ∷ stack
taken (inr (inr (inl both))) stack = OneType (Qualified (type_of (first (top stack))) both.0 both.1) NoType ∷ below stack
taken (inr (inr (inr (inl count)))) stack = one (Array (first (top stack)) count) ∷ below stack
taken (inr (inr (inr (inr zero)))) stack = one Void ∷ stack
taken (inr (inr (inr (inr (suc zero))))) stack = one (Pointer (first (top stack))) ∷ below stack
taken (inr (inr (inr (inr (suc (suc zero)))))) stack = NoType ∷ stack
taken (inr (inr (inr (inr (suc (suc (suc zero))))))) stack =
    OneType (first (top (below stack))) (top stack) ∷ below (below stack)
taken (inr (inr (inr (inr (suc (suc (suc (suc more)))))))) stack =
    one (Function (first (top (below stack))) (top stack)) ∷ below (below stack)

abbrev made : List Step → List QTypes → List QTypes
made [] stack = stack
made (step ∷ rest) stack = made rest (taken step stack)

mutual
  made-type : (ty : CType) (rest : List Step) (stack : List QTypes) → made (type_steps ty rest) stack ≡ made rest (one ty ∷ stack)
  made-type Void rest stack = refl
  made-type (Int kind) rest stack = refl
  made-type (Pointer target) rest stack = made-qtype target (numbered 1 ∷ rest) stack
  made-type (Array element count) rest stack = made-qtype element (inr (inr (inr (inl count))) ∷ rest) stack
  made-type (Function result params) rest stack =
      made-qtype result (types_steps params (numbered 4 ∷ rest)) stack
      ∙ made-types params (numbered 4 ∷ rest) (OneType result NoType ∷ stack)
  made-type (Record number) rest stack = refl

  made-qtype : (q : QType) (rest : List Step) (stack : List QTypes) → made (qtype_steps q rest) stack ≡ made rest (OneType q NoType ∷ stack)
  made-qtype (Qualified ty constant volatile) rest stack = made-type ty (inr (inr (inl (constant, volatile))) ∷ rest) stack

  made-types : (all : QTypes) (rest : List Step) (stack : List QTypes) → made (types_steps all rest) stack ≡ made rest (all ∷ stack)
  made-types NoType rest stack = refl
  made-types (OneType q others) rest stack =
      made-qtype q (types_steps others (numbered 3 ∷ rest)) stack
      ∙ made-types others (numbered 3 ∷ rest) (OneType q NoType ∷ stack)

abbrev type_from : List Step → CType
type_from steps = type_of (first (top (made steps [])))

pub type_from-steps : (ty : CType) → type_from (type_steps ty []) ≡ ty
type_from-steps ty = ap (λ stack. type_of (first (top stack))) (made-type ty [] [])

abbrev pub type_code : Coded CType
type_code =
    code_by (List Step)
    (coded_list (coded⊎ int_kind.the_row.coded (coded⊎ coded_ℕ (coded⊎ (coded× coded_bool coded_bool) (coded⊎ (coded_option coded_ℕ) coded_ℕ)))))
    (λ ty. type_steps ty []) type_from type_from-steps

abbrev qtype_from : CType × (Bool × Bool) → QType
qtype_from p = Qualified p.0 p.1.0 p.1.1

abbrev qtype_parts : QType → CType × (Bool × Bool)
qtype_parts (Qualified ty constant volatile) = (ty, (constant, volatile))

pub qtype_from-parts : (q : QType) → qtype_from (qtype_parts q) ≡ q
qtype_from-parts (Qualified ty constant volatile) = refl

abbrev pub qtype_code : Coded QType
qtype_code = code_by (CType × (Bool × Bool)) (coded× type_code (coded× coded_bool coded_bool)) qtype_parts qtype_from qtype_from-parts

abbrev member_code : Coded MemberValue
member_code = code_by (List ℕ × QType) (coded× (coded_list coded_ℕ) qtype_code) (λ m. (m.name, m.ty)) (λ p. record { name = p.0; ty = p.1 }) (λ _. refl)

abbrev layout_code : Coded Layout
layout_code = code_by (ℕ × ℕ) (coded× coded_ℕ coded_ℕ) (λ l. (l.size, l.align)) (λ p. record { size = p.0; align = p.1 }) (λ _. refl)

abbrev content_code : Coded ContentValue
content_code =
    code_by ((List MemberValue × List ℕ) × (Layout × (List ℕ × ℕ)))
    (coded× (coded× (coded_list member_code) (coded_list coded_ℕ)) (coded× layout_code (coded× (coded_list coded_ℕ) coded_ℕ)))
    (λ c. ((c.members, c.offsets), (c.layout, (c.shape, c.depth))))
    (λ p. record { members = p.0.0; offsets = p.0.1; layout = p.1.0; shape = p.1.1.0; depth = p.1.1.1 })
    (λ _. refl)

abbrev record_code : Coded RecordValue
record_code =
    code_by (RecordKind × Option ContentValue) (coded× record_kind.the_row.coded (coded_option content_code))
    (λ r. (r.kind, r.content)) (λ p. record { kind = p.0; content = p.1 }) (λ _. refl)

abbrev pub records_code : Coded (List RecordValue)
records_code = coded_list record_code
