-- What an operation asks for: it may read other temporaries in place of its own, and what it does goes to the temporary that
-- it defines.
use Rattle.std.specs.Prelude.{ℕ, ◌≡◌, Option, Some, None, option_map, List, [], Contains}
use Rattle.std.proofs.Common.{refl, sym, ap}
use Rattle.std.proofs.lemmas.Option.{same_Some}
use Rattle.pw_value.specs.declared.value.Value.{Value}
use Rattle.pw_value.specs.Objects.{Object}
use Rattle.pw_flow.specs.declared.flow.Op.{Op}
use Rattle.pw_flow.specs.declared.flow.Op.TheVariants as op
use Rattle.pw_flow.specs.declared.flow.End.{End}
use Rattle.pw_flow.specs.declared.flow.End.TheVariants.{Jump, Branch, Return}
use Rattle.pw_flow.specs.Uses.{op_defines, op_calls, end_uses}
use Rattle.pw_run_languages.specs.Values.{binary}
use Rattle.pw_run_languages.specs.Memory.{look, poke, copy}
use Rattle.pw_run_languages.specs.Programs.{Program}
use Rattle.pw_run_languages.specs.Commands as asks
use Rattle.pw_run_languages.specs.Commands.{Command, command}
use Rattle.pw_run_languages.specs.FlowRun.{get_global, put_global}
use Rattle.pw_opt_rules.specs.Copies.{with_operands, with_end_operand}
use Rattle.pw_law_operations.specs.Laws.{HasResult}
use Rattle.pw_law_operations.proofs.Asking.{results_stand}
use Rattle.pw_law_opt.specs.Deeds.{Deed, Gets, Changes, deed, Back, branch_way, way}
use Rattle.pw_law_opt.proofs.Lists.{first_there, map_twice}

-- ---- what is read

-- other operands ask for what their values ask for
pub operands_ask : (p : Program) (base : ℕ) (h : ℕ → ℕ) (o : Op) (v : ℕ → Value) → command p base (with_operands h o) v ≡ command p base o (λ t. v (h t))
unfolding command
operands_ask p base h (op.Call t f args) v = ap (λ vs. asks.Enter t f vs) (map_twice v h args)
operands_ask p base h (op.CallInd t x shape args) v = ap (λ vs. asks.enter_value p t (v (h x)) shape vs) (map_twice v h args)
operands_ask p base h o v = refl

pub operands_call : (h : ℕ → ℕ) (o : Op) → op_calls (with_operands h o) ≡ op_calls o
operands_call h (op.Const t n) = refl
operands_call h o = refl

pub ways_rest_on_uses : (objects : List Object) (e : End) (a b : ℕ → Value) → ((t : ℕ) → Contains (end_uses e) t → a t ≡ b t) → way objects e a ≡ way objects e b
ways_rest_on_uses objects (Jump n) a b same = refl
ways_rest_on_uses objects (Branch x n m) a b same = ap (λ v. branch_way objects v n m) (same x (first_there x []))
ways_rest_on_uses objects (Return None) a b same = refl
ways_rest_on_uses objects (Return (Some x)) a b same = ap (λ v. Some (Back v)) (same x (first_there x []))

pub operand_ways : (objects : List Object) (h : ℕ → ℕ) (e : End) (v : ℕ → Value) → way objects (with_end_operand h e) v ≡ way objects e (λ t. v (h t))
operand_ways objects h (Jump n) v = refl
operand_ways objects h (Branch x n m) v = refl
operand_ways objects h (Return None) v = refl
operand_ways objects h (Return (Some x)) v = refl

-- ---- what is done

-- a deed that gives a value to the temporary that may be defined, or none where none is
pub data Defines (t : Option ℕ) (d : Deed) : Type 0 where
  gets : (u : ℕ) (v : Value) → t ≡ Some u → d ≡ Gets u v → Defines t d
  changes : (objects : List Object) → t ≡ None → d ≡ Changes objects → Defines t d

pub given : (p : Program) (objects : List Object) (t : ℕ) (o : Option Value) (d : Deed) → deed p objects (asks.give t o) ≡ Some d → (v : Value) × (o ≡ Some v) × (d ≡ Gets t v)
given p objects t None d e = absurd cc
given p objects t (Some v) d e = (v, refl, sym (same_Some (Gets t v) d e))

pub mapped : (t : ℕ) (o : Option Value) (d : Deed) → option_map (Gets t) o ≡ Some d → (v : Value) × (o ≡ Some v) × (d ≡ Gets t v)
mapped t None d e = absurd cc
mapped t (Some v) d e = (v, refl, sym (same_Some (Gets t v) d e))

changed : (o : Option (List Object)) (d : Deed) → option_map Changes o ≡ Some d → (objects : List Object) × (d ≡ Changes objects)
changed None d e = absurd cc
changed (Some objects) d e = (objects, sym (same_Some (Changes objects) d e))

by_mapped : (t : Option ℕ) (u : ℕ) (o : Option Value) (d : Deed) → t ≡ Some u → option_map (Gets u) o ≡ Some d → Defines t d
by_mapped t u o d is e = let r = mapped u o d e in gets u r.0 is r.2

by_changed : (t : Option ℕ) (o : Option (List Object)) (d : Deed) → t ≡ None → option_map Changes o ≡ Some d → Defines t d
by_changed t o d is e = let r = changed o d e in changes r.0 is r.1

by_command : (p : Program) (objects : List Object) (t : Option ℕ) (c : Command) (d : Deed) → HasResult t c → deed p objects c ≡ Some d → Defines t d
by_command p objects t (asks.Give u v) d is e = gets u v is (sym (same_Some (Gets u v) d e))
by_command p objects t (asks.Combine k u v w) d is e = by_mapped t u (binary objects k v w) d is e
by_command p objects t (asks.Look k u a) d is e = by_mapped t u (look k a objects) d is e
by_command p objects t (asks.Poke k a v) d is e = by_changed t (poke k a v objects) d is e
by_command p objects t (asks.Copied to from size unit) d is e = by_changed t (copy to from size unit objects) d is e
by_command p objects t (asks.GetGlobal u g k) d is e = by_mapped t u (get_global p g k objects) d is e
by_command p objects t (asks.PutGlobal g k v) d is e = by_changed t (put_global p g k v objects) d is e
by_command p objects t _ d is e = absurd cc

pub deeds_define : (p : Program) (base : ℕ) (objects : List Object) (o : Op) (v : ℕ → Value) (d : Deed) → deed p objects (command p base o v) ≡ Some d → Defines (op_defines o) d
deeds_define p base objects o v d e = by_command p objects (op_defines o) (command p base o v) d (results_stand p base o v) e
