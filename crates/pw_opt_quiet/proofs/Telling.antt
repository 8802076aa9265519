-- Names and what they tell, from the last one to the first.
use Rattle.std.proofs.Common.{◌≡◌, ◌∙◌, ℕ, suc, ◌+◌, ◌-◌, ◌<◌, ◌≤◌, Bool, true, false, cond, List, [], ◌∷◌, ◌++◌, length, get_or, drop, refl, sym, ap, arith}
use Rattle.std.specs.Prelude.{Option, None, Some, find, option_map, unwrap_or, bytes_eq, if◌then◌else◌}
use Rattle.std.specs.Option.{option_or}
use Rattle.std.proofs.Math.Seq.{drop-cons}
use Rattle.std.proofs.lemmas.Cmp.{nat_list_eq_equiv}
use Rattle.pw_flow.specs.declared.flow.FlowGlobal.{FlowGlobal}
use Rattle.pw_flow.specs.declared.flow.FlowModule.{FlowModule}
use Rattle.pw_opt_rules.specs.Dead.{shape_in, is_quiet}
use Rattle.pw_scope.specs.Visible.{visible}
use Rattle.pw_opt_quiet.specs.Marks.{unmarked, declared_mark, defined_mark, TellsQuiet}

-- ---- one more name

or_assoc : {T : Type 0} (a b c : Option T) → option_or (option_or a b) c ≡ option_or a (option_or b c)
or_assoc None b c = refl
or_assoc (Some x) b c = refl

empty_last : {T : Type 0} (x : Option T) → option_or None x ≡ option_or x None
empty_last None = refl
empty_last (Some y) = refl

visible_behind : {T : Type 0} (scope : List (List ℕ × T)) (e : List ℕ × T) (name : List ℕ)
    → visible (scope ++ e ∷ []) name ≡ option_or (if bytes_eq name e.0 then Some e.1 else None) (visible scope name)
visible_behind [] e name = empty_last (if bytes_eq name e.0 then Some e.1 else None)
visible_behind (first ∷ scope) e name =
    ap (λ x. option_or x (if bytes_eq name first.0 then Some first.1 else None)) (visible_behind scope e name)
    ∙ or_assoc (if bytes_eq name e.0 then Some e.1 else None) (visible scope name) (if bytes_eq name first.0 then Some first.1 else None)

-- ---- the first of a name, in any list

module _ {X : Type 0} (name_of : X → List ℕ) (mark : X → Bool) where
  abbrev pub first_mark : List X → List ℕ → Option Bool
  first_mark xs name = option_map mark (find (λ x. bytes_eq (name_of x) name) xs)

  one_first : (x : X) (rest : Option X) (b : Bool) → option_map mark (cond b (Some x) rest) ≡ option_or (if b then Some (mark x) else None) (option_map mark rest)
  one_first x rest true = refl
  one_first x rest false = refl

  first_cons : (x : X) (xs : List X) (name : List ℕ) → first_mark (x ∷ xs) name ≡ option_or (if bytes_eq name (name_of x) then Some (mark x) else None) (first_mark xs name)
  first_cons x xs name =
      one_first x (find (λ y. bytes_eq (name_of y) name) xs) (bytes_eq (name_of x) name)
      ∙ ap (λ b. option_or (if b then Some (mark x) else None) (first_mark xs name)) (nat_list_eq_equiv.symm (name_of x) name)

  -- names that have been told from the last one on
  abbrev pub Told : List X → ℕ → List (List ℕ × Bool) → List (List ℕ × Bool) → Type 0
  Told xs back old now = (name : List ℕ) → visible now name ≡ option_or (first_mark (drop (length xs - back) xs) name) (visible old name)

  dropped : (ys : List X) → drop (length ys) ys ≡ []
  dropped [] = refl
  dropped (y ∷ ys) = dropped ys

  pub told_none : (xs : List X) (old : List (List ℕ × Bool)) → Told xs 0 old old
  told_none xs old name =
      let all : length xs - 0 ≡ length xs = omega arith in
      ap (λ (ys : List X). option_or (first_mark ys name) (visible old name)) (sym (ap (λ (k : ℕ). drop k xs) all ∙ dropped xs))

  told_more : (xs : List X) (back : ℕ) (old now new : List (List ℕ × Bool)) (x : X) → back < length xs → x ≡ get_or xs (length xs - 1 - back) x → new ≡ now ++ (name_of x, mark x) ∷ []
      → Told xs back old now → Told xs (back + 1) old new
  told_more xs back old now new x lt is pushed told name =
      let place : ℕ = length xs - 1 - back in
      let low : place < length xs = omega (arith, lt) in
      let here : drop place xs ≡ x ∷ drop (suc place) xs = drop-cons xs place x low ∙ ap (λ (y : X). y ∷ drop (suc place) xs) (sym is) in
      let next : suc place ≡ length xs - back = omega (arith, lt) in
      let same : length xs - (back + 1) ≡ place = omega (arith, lt) in
      let front : Option Bool = if bytes_eq name (name_of x) then Some (mark x) else None in
      ap (λ (scope : List (List ℕ × Bool)). visible scope name) pushed
      ∙ visible_behind now (name_of x, mark x) name
      ∙ ap (option_or front) (told name)
      ∙ sym (or_assoc front (first_mark (drop (length xs - back) xs) name) (visible old name))
      ∙ ap (λ (k : ℕ). option_or (option_or front (first_mark (drop k xs) name)) (visible old name)) (sym next)
      ∙ ap (λ (m : Option Bool). option_or m (visible old name)) (sym (first_cons x (drop (suc place) xs) name))
      ∙ ap (λ (ys : List X). option_or (first_mark ys name) (visible old name)) (sym here)
      ∙ ap (λ (k : ℕ). option_or (first_mark (drop k xs) name) (visible old name)) (sym same)

  pub told_step : (xs : List X) (back : ℕ) (old now new : List (List ℕ × Bool)) (x : X) (n : List ℕ) (k : Bool) → back < length xs → x ≡ get_or xs (length xs - 1 - back) x → n ≡ name_of x → k ≡ mark x
      → new ≡ now ++ (n, k) ∷ [] → Told xs back old now → Told xs (back + 1) old new
  told_step xs back old now new x n k lt is named marked pushed told =
      told_more xs back old now new x lt is
      (pushed ∙ ap (λ (a : List ℕ). now ++ (a, k) ∷ []) named ∙ ap (λ (b : Bool). now ++ (name_of x, b) ∷ []) marked) told

  pub told_all : (xs : List X) (back : ℕ) (old now : List (List ℕ × Bool)) → length xs ≤ back → Told xs back old now → (name : List ℕ) → visible now name ≡ option_or (first_mark xs name) (visible old name)
  told_all xs back old now le told name =
      let none : length xs - back ≡ 0 = omega (arith, le) in
      told name ∙ ap (λ (k : ℕ). option_or (first_mark (drop k xs) name) (visible old name)) none

-- ---- what a module says of a name

module _ (m : FlowModule) (name : List ℕ) where
  defined_shape : (g : FlowGlobal) → find (λ (x : FlowGlobal). bytes_eq x.name name) m.globals ≡ Some g → is_quiet (shape_in m name) ≡ unmarked g.shape
  defined_shape g e = rw e refl

  declared_shape : (d : List ℕ × List ℕ) → find (λ (x : FlowGlobal). bytes_eq x.name name) m.globals ≡ None → find (λ (d : List ℕ × List ℕ). bytes_eq d.0 name) m.declared ≡ Some d → is_quiet (shape_in m name) ≡ unmarked d.1
  declared_shape d e f = rw (e, f) refl

  no_shape : find (λ (x : FlowGlobal). bytes_eq x.name name) m.globals ≡ None → find (λ (d : List ℕ × List ℕ). bytes_eq d.0 name) m.declared ≡ None → is_quiet (shape_in m name) ≡ false
  no_shape e f = rw (e, f) refl

  quiet_by : (a : Option FlowGlobal) (b : Option (List ℕ × List ℕ)) → find (λ (x : FlowGlobal). bytes_eq x.name name) m.globals ≡ a → find (λ (d : List ℕ × List ℕ). bytes_eq d.0 name) m.declared ≡ b
      → unwrap_or (option_or (option_map (λ (g : FlowGlobal). unmarked g.shape) a) (option_or (option_map (λ (d : List ℕ × List ℕ). unmarked d.1) b) None)) false ≡ is_quiet (shape_in m name)
  quiet_by (Some g) b e f = sym (defined_shape g e)
  quiet_by None (Some d) e f = sym (declared_shape d e f)
  quiet_by None None e f = sym (no_shape e f)

pub tells_quiet : (m : FlowModule) (first all : List (List ℕ × Bool)) → ((name : List ℕ) → visible first name ≡ option_or (declared_mark m.declared name) None)
    → ((name : List ℕ) → visible all name ≡ option_or (defined_mark m.globals name) (visible first name)) → TellsQuiet m all
tells_quiet m first all declared defined name =
    ap (λ x. unwrap_or x false) (defined name ∙ ap (option_or (defined_mark m.globals name)) (declared name))
    ∙ quiet_by m name (find (λ (x : FlowGlobal). bytes_eq x.name name) m.globals) (find (λ (d : List ℕ × List ℕ). bytes_eq d.0 name) m.declared) refl refl
