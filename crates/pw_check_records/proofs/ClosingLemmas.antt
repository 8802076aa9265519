-- What a definition of a structure or union comes to, and the limit that it passes.
use Rattle.std.proofs.Common.{◌≡◌, ◌⊎◌, ℕ, ◌≤◌, ◌<◌, nat_lt, Bool, true, false, Option, None, Some, List, length, refl, ap, sym, subst, ◌∙◌, arith}
use mathlib.Core.Logic.{inl, inr}
use Rattle.pw_value.specs.Limits.{depth_limit, shape_limit, size_limit}
use Rattle.pw_value.specs.Caps.{capped}
use Rattle.pw_types.specs.Layouts.{record_layout, record_offsets}
use Rattle.pw_types.specs.Measures.{Defines, Refuses, layout_by_members, shape_by_members, depth_by_members}
use Rattle.pw_types.specs.Records.{layouts_of}
use Rattle.pw_types.specs.Shapes.{record_shape, member_shapes}
use Rattle.pw_types.specs.TypeTrees.{ContentValue, MemberValue, RecordValue}
use Rattle.pw_types.specs.declared.contents.RecordFault.{RecordFault}
use Rattle.pw_types.specs.declared.contents.RecordFault.TheVariants.{TooLarge, ShapeTooLong, TooDeep, NoMemory as WithoutMemory}
use Rattle.pw_types.specs.declared.record.Layout.{Layout}
use Rattle.pw_types.specs.declared.record.RecordKind.{RecordKind}
use Rattle.pw_check_walk.specs.declared.constraints.CheckFault.{CheckFault}
use Rattle.pw_check_walk.specs.declared.constraints.CheckKind.TheVariants.{Limit, NoMemory}
use Rattle.pw_check_walk.specs.declared.constraints.Which.{Which}
use Rattle.pw_check_walk.specs.declared.constraints.Which.TheVariants.{ObjectSize, ShapeLength, TypeDepth}
use Rattle.pw_check_walk.specs.Found.{found, with_cause}
use Rattle.pw_check_rules.specs.Leaves.{content_by, content_point}
use Rattle.pw_check_records.specs.Parts.{fault_of_record, told_limit}

-- what is found of the three limits, by whether each is passed
module _ (token size count depth : ℕ) where
  abbrev limits : Bool → Bool → Bool → Option CheckFault
  limits a b c =
      with_cause (with_cause (with_cause None a (record { kind = Limit ObjectSize size; token = token }))
      b (record { kind = Limit ShapeLength count; token = token }))
      c (record { kind = Limit TypeDepth depth; token = token })

  of_size : (b c : Bool) → limits true b c ≡ Some (record { kind = Limit ObjectSize size; token = token })
  of_size true true = refl
  of_size true false = refl
  of_size false true = refl
  of_size false false = refl

  of_shape : (c : Bool) → limits false true c ≡ Some (record { kind = Limit ShapeLength count; token = token })
  of_shape true = refl
  of_shape false = refl

within : (most n : ℕ) → n ≤ most → nat_lt most n ≡ false
within most n less = grind arith

past : (most n : ℕ) → most < n → nat_lt most n ≡ true
past most n more = grind arith

told_twice : (n : ℕ) → capped (capped n) ≡ capped n
told_twice n = grind arith

-- a count that passes a limit is told as far as 64 bits can tell it
told_real : (limit : Which) (n real token : ℕ) (f : Option CheckFault) → n ≡ real → f ≡ Some (record { kind = Limit limit (capped real); token = token })
    → f ≡ Some (told_limit limit n token)
told_real limit n real token f e is = is ∙ ap (λ k. Some (told_limit limit k token)) (sym e)

-- the same where the count that is told is no greater already
told_by : (limit : Which) (n real token : ℕ) (f : Option CheckFault) → n ≡ capped real → f ≡ Some (record { kind = Limit limit (capped real); token = token })
    → f ≡ Some (told_limit limit n token)
told_by limit n real token f e is =
    is ∙ ap (λ k. Some (record { kind = Limit limit k; token = token })) (sym (told_twice real) ∙ ap capped (sym e))

-- what is said of records and members, of the same ones
pub of_members : (P : List RecordValue → List MemberValue → Type 0) (rs qs : List RecordValue) (ms ns : List MemberValue) → rs ≡ qs → ms ≡ ns → P rs ms → P qs ns
of_members P rs qs ms ns e f p = subst (λ ys. P qs ys) f (subst (λ xs. P xs ms) e p)

-- ---- a definition by its parts

abbrev content : List MemberValue → List ℕ → Layout → List ℕ → ℕ → ContentValue
content members offsets layout shape depth =
    record { members = members; offsets = offsets; layout = layout; shape = shape; depth = depth }

same_parts : (m n : List MemberValue) (o p : List ℕ) (l k : Layout) (s t : List ℕ) (d e : ℕ) → m ≡ n → o ≡ p → l ≡ k → s ≡ t → d ≡ e
    → content m o l s d ≡ content n p k t e
same_parts m n o p l k s t d e ms os ls ss ds =
    ap (λ x. content x o l s d) ms ∙ ap (λ x. content n x l s d) os ∙ ap (λ x. content n p x s d) ls
    ∙ ap (λ x. content n p k x d) ss ∙ ap (content n p k t) ds

module _ (records : List RecordValue) (kind : RecordKind) (members : List MemberValue) (token : ℕ) where
  -- what is defined is what the members come to
  pub content_is : (c : ContentValue) → Defines records kind members c → c ≡ content_by records kind members
  content_is c d =
      let laid : c.layout ≡ record_layout kind (layouts_of records members) =
      d.follows.laid ∙ ap (λ ms. record_layout kind (layouts_of records ms)) d.members_kept in
      let placed : c.offsets ≡ record_offsets kind (layouts_of records members) =
      d.follows.placed ∙ ap (λ ms. record_offsets kind (layouts_of records ms)) d.members_kept in
      let shaped : c.shape ≡ record_shape kind c.layout.size (member_shapes records members) =
      d.follows.shaped ∙ ap (λ ms. record_shape kind c.layout.size (member_shapes records ms)) d.members_kept in
      same_parts
      c.members members c.offsets _ c.layout (record_layout kind (layouts_of records members)) c.shape _ c.depth _
      d.members_kept placed laid (shaped ∙ ap (λ (l : Layout). record_shape kind l.size (member_shapes records members)) laid) d.depth

  -- and it keeps the limits
  pub content_met : (c : ContentValue) → Defines records kind members c → found (content_point token (content_by records kind members)) ≡ None
  content_met c d =
      ap (λ v. found (content_point token v)) (sym (content_is c d))
      ∙ rw (within size_limit c.layout.size d.follows.within, within shape_limit (length c.shape) d.follows.short, within depth_limit c.depth d.follows.shallow) refl

  -- what is refused passes a limit
  pub content_told : (r : RecordFault) → Refuses records kind members r
      → ((fault_of_record r token).kind ≡ NoMemory) ⊎ (found (content_point token (content_by records kind members)) ≡ Some (fault_of_record r token))
  content_told (TooLarge n) h =
      inr (told_by ObjectSize n (layout_by_members records kind members).size token _ h.1
      (rw (past size_limit (layout_by_members records kind members).size h.0)
      (of_size token (capped (layout_by_members records kind members).size) (capped (length (shape_by_members records kind members))) (capped (depth_by_members records members)) _ _)))
  content_told (ShapeTooLong n) h =
      inr (told_real ShapeLength n (length (shape_by_members records kind members)) token _ h.2
      (rw (within size_limit (layout_by_members records kind members).size h.0, past shape_limit (length (shape_by_members records kind members)) h.1)
      (of_shape token (capped (layout_by_members records kind members).size) (capped (length (shape_by_members records kind members))) (capped (depth_by_members records members)) _)))
  content_told (TooDeep n) h =
      inr (told_by TypeDepth n (depth_by_members records members) token _ h.3
      (rw (within size_limit (layout_by_members records kind members).size h.0, within shape_limit (length (shape_by_members records kind members)) h.1, past depth_limit (depth_by_members records members) h.2) refl))
  content_told WithoutMemory h = inl refl
