-- A specifier more in a list is one qualifier more at most.
use Rattle.std.proofs.Common.{◌≡◌, ℕ, ◌+◌, ◌≤◌, None, Result, Ok, Err, sym, subst, arith}
use Rattle.pw_tree.specs.Trees as S
use Rattle.pw_tree.specs.declared.expr.BasicType.TheVariants as W
use Rattle.pw_tree.specs.declared.expr.Qualifier.TheVariants as Q
use Rattle.pw_check_walk.specs.declared.constraints.CheckFault.{CheckFault}
use Rattle.pw_check_walk.specs.Walks.{Walk, Done, bind, outcome}
use Rattle.pw_check_walk.proofs.BindLaws.{behind, outcome-bind}
use Rattle.pw_check_rules.specs.Kinds.{int_type}
use Rattle.pw_check_rules.specs.Leaves.{enumeration_rule, record_kind, record_spot, reference_rule}
use Rattle.pw_check_rules.specs.Phrases.{typedef_rule}
use Rattle.pw_check_rules.specs.SpecifierLists.{Gathered, gather_type}
use Rattle.pw_check_rules.specs.States.{State}
use Rattle.pw_check_specifier_facts.specs.Rows.{AreAtMost}
use Rattle.pw_check_specifier_lists.specs.Specifying.{basic_rule, enumeration_list_rule, enumeration_tag_rule, first_specifier, listed_enumeration, record_list_rule, record_rule, record_tag_rule, typedef_name_rule}

module _ (g : Gathered) where
  abbrev HasOneMore : Gathered → Type 0
  HasOneMore h = (h.constants ≤ g.constants + 1) × (h.volatiles ≤ g.volatiles + 1)

  abbrev MakesOneMore : Result (Gathered × State) CheckFault → Type 0
  MakesOneMore (Ok made) = HasOneMore made.0
  MakesOneMore (Err fault) = Unit {0}

  -- what is gathered of what a rule made
  abbrev gathered_of : {A : Type 0} → (A → Gathered) → A × State → Walk (Gathered × State)
  gathered_of f t = Done (f t.0, t.1)

  behind_more : {A : Type 0} (f : A → Gathered) → ((a : A) → HasOneMore (f a)) → (x : Result (A × State) CheckFault) → MakesOneMore (behind x (gathered_of f))
  unfolding outcome
  behind_more f more (Ok a) = more a.0
  behind_more f more (Err fault) = tt

  bind_more : {A : Type 0} (w : Walk (A × State)) (f : A → Gathered) → ((a : A) → HasOneMore (f a)) → MakesOneMore (outcome (bind w (gathered_of f)))
  bind_more w f more = subst MakesOneMore (sym (outcome-bind w (gathered_of f))) (behind_more f more (outcome w))

  specifier_more : (x : S.Specifiers) (first : ℕ) (s : State) → MakesOneMore (outcome (first_specifier x first g s))
  unfolding first_specifier basic_rule typedef_name_rule record_tag_rule record_list_rule enumeration_tag_rule enumeration_list_rule outcome
  specifier_more S.NoSpecifier first s = (omega arith, omega arith)
  specifier_more (S.Storage t storage rest) first s = (omega arith, omega arith)
  specifier_more (S.Qualified t Q.Const rest) first s = (omega arith, omega arith)
  specifier_more (S.Qualified t Q.Volatile rest) first s = (omega arith, omega arith)
  specifier_more (S.Basic t W.Float rest) first s = tt
  specifier_more (S.Basic t W.Double rest) first s = tt
  specifier_more (S.Basic t W.Void rest) first s = (omega arith, omega arith)
  specifier_more (S.Basic t W.Char rest) first s = (omega arith, omega arith)
  specifier_more (S.Basic t W.Short rest) first s = (omega arith, omega arith)
  specifier_more (S.Basic t W.Int rest) first s = (omega arith, omega arith)
  specifier_more (S.Basic t W.Long rest) first s = (omega arith, omega arith)
  specifier_more (S.Basic t W.Signed rest) first s = (omega arith, omega arith)
  specifier_more (S.Basic t W.Unsigned rest) first s = (omega arith, omega arith)
  specifier_more (S.TypedefName w rest) first s = bind_more (typedef_rule w s) (λ q. gather_type q None g) (λ q. (omega arith, omega arith))
  specifier_more (S.RecordTag t kind w rest) first s = bind_more (reference_rule (record_kind kind) w s) (λ r. gather_type r.0 r.1 g) (λ r. (omega arith, omega arith))
  specifier_more (S.Record t kind w members rest) first s =
      bind_more (record_rule (record_kind kind) (record_spot w first) w members s) (λ q. gather_type q None g) (λ q. (omega arith, omega arith))
  specifier_more (S.EnumTag t w rest) first s = bind_more (enumeration_rule w s) (λ q. gather_type q None g) (λ q. (omega arith, omega arith))
  specifier_more (S.Enum t w enumerators rest) first s = bind_more (listed_enumeration w enumerators s) (λ u. gather_type int_type None g) (λ u. (omega arith, omega arith))

pub one-more : (g h : Gathered) (x : S.Specifiers) (first : ℕ) (s mid : State) (n : ℕ) → outcome (first_specifier x first g s) ≡ Ok (h, mid) → AreAtMost n g → AreAtMost (n + 1) h
one-more g h x first s mid n e l = let more : HasOneMore g h = subst (MakesOneMore g) e (specifier_more g x first s) in (omega (arith, more.0, l.0), omega (arith, more.1, l.1))
