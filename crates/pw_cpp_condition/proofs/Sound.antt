-- What is read is an expression, and it comes to what was read.
use Rattle.std.proofs.Common.{◌≡◌, ℕ, ◌+◌, ◌<◌, ◌≤◌, Bool, true, false, List, [], ◌∷◌, ◌++◌, Option, Some, None, refl, sym, ap, ◌∙◌, subst, append_assoc, arith}
use Rattle.std.proofs.lemmas.Bool.{le-leb, leb-true, leb-false}
use Rattle.std.proofs.lemmas.List.{append-nil}
use Rattle.std.specs.Prelude.{nat_le, option_map, option_and_then}
use Rattle.pw_token.specs.declared.symbol.Mark.{Mark}
use Rattle.pw_token.specs.declared.symbol.Mark.TheVariants as m
use Rattle.pw_types.specs.declared.tree.UnaryOperator.{UnaryOperator}
use Rattle.pw_cpp_values.specs.declared.arithmetic.Number.{Number}
use Rattle.pw_cpp_condition.specs.Grammar.{IsAt, Means, Tree, Operand, Group, Prefix, Between, Choice, spell, value}
use Rattle.pw_cpp_condition.specs.Machine.{Held, State, applied, binds, followed, follow_level, follow_of, following, lead_of, parted, closed, reduced, run, step, waiting_in, whole}
use Rattle.pw_cpp_condition.specs.Words.{infix_of, level, prefix_of}
use Rattle.pw_cpp_condition.specs.declared.frame.Follow.{Follow}
use Rattle.pw_cpp_condition.specs.declared.frame.Follow.TheVariants.{Goes, Asks, Parts, Closes}
use Rattle.pw_cpp_condition.specs.declared.frame.Frame.{Frame}
use Rattle.pw_cpp_condition.specs.declared.frame.Frame.TheVariants as frame
use Rattle.pw_cpp_condition.specs.declared.word.Infix.{Infix}
use Rattle.pw_cpp_condition.specs.declared.word.Item.{Item}
use Rattle.pw_cpp_condition.specs.declared.word.Item.TheVariants as item
use Rattle.pw_cpp_condition.proofs.Marks.{Continues, LeadsBy, FollowsBy, led-by, followed-by, level-range, follow-small, none_some, some_same}

-- ---- what waits, with the expressions that were read

pub data Waiting : Type 0 where
  InGroup : Waiting
  InPrefix : Mark → UnaryOperator → Waiting
  InBetween : Mark → Infix → Tree → Waiting
  InQuestion : Tree → Waiting
  InColon : Tree → Tree → Waiting

abbrev pub frame_of : Waiting → Frame
frame_of InGroup = frame.Group
frame_of (InPrefix mark op) = frame.Prefix op
frame_of (InBetween mark op a) = frame.Between op (value a)
frame_of (InQuestion c) = frame.Question (value c)
frame_of (InColon c a) = frame.Colon (value c) (value a)

abbrev pub frames_of : List Waiting → List Frame
frames_of [] = []
frames_of (w ∷ ws) = frame_of w ∷ frames_of ws

abbrev pub spell_waiting : Waiting → List Item
spell_waiting InGroup = item.Mark m.OpenParen ∷ []
spell_waiting (InPrefix mark op) = item.Mark mark ∷ []
spell_waiting (InBetween mark op a) = spell a ++ item.Mark mark ∷ []
spell_waiting (InQuestion c) = spell c ++ item.Mark m.Question ∷ []
spell_waiting (InColon c a) = spell c ++ item.Mark m.Question ∷ (spell a ++ item.Mark m.Colon ∷ [])

abbrev pub spell_all : List Waiting → List Item
spell_all [] = []
spell_all (w ∷ ws) = spell_all ws ++ spell_waiting w

-- the level of what the innermost wants
abbrev pub bound : List Waiting → ℕ
bound [] = 0
bound (InGroup ∷ ws) = 0
bound (InPrefix mark op ∷ ws) = 11
bound (InBetween mark op a ∷ ws) = level op + 1
bound (InQuestion c ∷ ws) = 0
bound (InColon c a ∷ ws) = 0

abbrev pub Formed : List Waiting → Type 0
Formed [] = Unit {0}
Formed (InGroup ∷ ws) = Formed ws
Formed (InPrefix mark op ∷ ws) = (prefix_of mark ≡ Some op) × Formed ws
Formed (InBetween mark op a ∷ ws) = (infix_of mark ≡ Some op) × IsAt (level op) a × (bound ws ≤ level op) × Formed ws
Formed (InQuestion c ∷ ws) = IsAt 1 c × (bound ws ≡ 0) × Formed ws
Formed (InColon c a ∷ ws) = IsAt 1 c × IsAt 0 a × (bound ws ≡ 0) × Formed ws

bound-small : (ws : List Waiting) → bound ws ≤ 11
bound-small [] = omega arith
bound-small (InGroup ∷ ws) = omega arith
bound-small (InPrefix mark op ∷ ws) = omega arith
bound-small (InBetween mark op a ∷ ws) = omega (arith, (level-range op).1)
bound-small (InQuestion c ∷ ws) = omega arith
bound-small (InColon c a ∷ ws) = omega arith

bound-low : (ws : List Waiting) → bound ws ≤ 1 → bound ws ≡ 0
bound-low [] h = refl
bound-low (InGroup ∷ ws) h = refl
bound-low (InPrefix mark op ∷ ws) h = absurd (omega (arith, h))
bound-low (InBetween mark op a ∷ ws) h = absurd (omega (arith, h, (level-range op).0))
bound-low (InQuestion c ∷ ws) h = refl
bound-low (InColon c a ∷ ws) h = refl

-- ---- an operand goes to what waits for it

record Reduction (k : ℕ) (t : Tree) (ws : List Waiting) : Type 0 where
  tree : Tree
  left : List Waiting
  same : reduced k (value t) (frames_of ws) ≡ (value tree, frames_of left)
  spelled : spell_all ws ++ spell t ≡ spell_all left ++ spell tree
  formed : Formed left
  fits : IsAt (bound left) tree
  there : IsAt k tree
  low : bound left ≤ k

stopped : (k : ℕ) (t : Tree) (w : Waiting) (ws : List Waiting) → binds k (frame_of w) ≡ false → Formed (w ∷ ws) → IsAt (bound (w ∷ ws)) t → IsAt k t → bound (w ∷ ws) ≤ k → Reduction k t (w ∷ ws)
stopped k t w ws e f h a l = record { tree = t; left = w ∷ ws; same = rw e refl; spelled = refl; formed = f; fits = h; there = a; low = l }

went_on : (k : ℕ) (t u : Tree) (w : Waiting) (ws : List Waiting) → binds k (frame_of w) ≡ true → applied (frame_of w) (value t) ≡ value u → spell_waiting w ++ spell t ≡ spell u
    → Reduction k u ws → Reduction k t (w ∷ ws)
went_on k t u w ws e v s r = record {
  tree = r.tree;
  left = r.left;
  same = more ∙ ap (λ x. reduced k x (frames_of ws)) v ∙ r.same;
  spelled = append_assoc (spell_all ws) (spell_waiting w) (spell t) ∙ ap (λ x. spell_all ws ++ x) s ∙ r.spelled;
  formed = r.formed;
  fits = r.fits;
  there = r.there;
  low = r.low;
}
  where
    more : reduced k (value t) (frames_of (w ∷ ws)) ≡ reduced k (applied (frame_of w) (value t)) (frames_of ws)
    more = rw e refl

-- an operator takes its right operand where it binds at the level, and waits where it does not
with_between : (k : ℕ) (t : Tree) (mark : Mark) (op : Infix) (a : Tree) (ws : List Waiting) (b : Bool) → nat_le k (level op) ≡ b
    → Formed (InBetween mark op a ∷ ws) → IsAt (level op + 1) t → IsAt k t
    → (Formed ws → IsAt (bound ws) (Between mark op a t) → IsAt k (Between mark op a t) → Reduction k (Between mark op a t) ws)
    → Reduction k t (InBetween mark op a ∷ ws)
with_between k t mark op a ws true e f h at next =
    went_on k t (Between mark op a t) (InBetween mark op a) ws e refl (append_assoc (spell a) (item.Mark mark ∷ []) (spell t))
    (next f.3 (f.0, f.2, f.1, h) (f.0, leb-true k (level op) e, f.1, h))
with_between k t mark op a ws false e f h at next = stopped k t (InBetween mark op a) ws e f h at (omega (arith, leb-false k (level op) e))

-- and `?:` its third
with_colon : (k : ℕ) (t c a : Tree) (ws : List Waiting) (b : Bool) → nat_le k 0 ≡ b → Formed (InColon c a ∷ ws) → IsAt 0 t → IsAt k t
    → (Formed ws → IsAt (bound ws) (Choice c a t) → IsAt k (Choice c a t) → Reduction k (Choice c a t) ws)
    → Reduction k t (InColon c a ∷ ws)
with_colon k t c a ws true e f h at next =
    went_on k t (Choice c a t) (InColon c a) ws e refl
    (append_assoc (spell c) (item.Mark m.Question ∷ (spell a ++ item.Mark m.Colon ∷ [])) (spell t) ∙ ap (λ x. spell c ++ item.Mark m.Question ∷ x) (append_assoc (spell a) (item.Mark m.Colon ∷ []) (spell t)))
    (next f.3 (f.2, f.0, f.1, h) (omega (arith, leb-true k 0 e), f.0, f.1, h))
with_colon k t c a ws false e f h at next = stopped k t (InColon c a) ws e f h at (omega arith)

reduce_all : (k : ℕ) → k ≤ 10 → (ws : List Waiting) (t : Tree) → Formed ws → IsAt (bound ws) t → IsAt k t → Reduction k t ws
reduce_all k small [] t f h a = record { tree = t; left = []; same = refl; spelled = refl; formed = tt; fits = h; there = a; low = omega arith }
reduce_all k small (InGroup ∷ ws) t f h a = stopped k t InGroup ws refl f h a (omega arith)
reduce_all k small (InPrefix mark op ∷ ws) t f h a =
    went_on k t (Prefix mark op t) (InPrefix mark op) ws (le-leb k 11 (omega (arith, small))) refl refl
    (reduce_all k small ws (Prefix mark op t) f.1 (f.0, bound-small ws, h) (f.0, omega (arith, small), h))
reduce_all k small (InBetween mark op a ∷ ws) t f h at =
    with_between k t mark op a ws (nat_le k (level op)) refl f h at (λ g i j. reduce_all k small ws (Between mark op a t) g i j)
reduce_all k small (InQuestion c ∷ ws) t f h a = stopped k t (InQuestion c) ws refl f h a (omega arith)
reduce_all k small (InColon c a ∷ ws) t f h at = with_colon k t c a ws (nat_le k 0) refl f h at (λ g i j. reduce_all k small ws (Choice c a t) g i j)

-- ---- items

abbrev IsHeld : Option Tree → Type 0
IsHeld None = Unit {0}
IsHeld (Some t) = (n : ℕ) → IsAt n t

abbrev operand_held : Option Tree → Option Number
operand_held None = None
operand_held (Some t) = Some (value t)

abbrev spell_held : Option Tree → List Waiting → List Item
spell_held None ws = spell_all ws
spell_held (Some t) ws = spell_all ws ++ spell t

-- behind what was read the items spell an expression that comes to the number
abbrev Reads : List Item → List Item → Number → Type 0
Reads before items number = (tree : Tree) × IsAt 0 tree × (before ++ items ≡ spell tree) × (number ≡ value tree)

abbrev Sound : List Item → Type 0
Sound items = (held : Option Tree) (ws : List Waiting) (number : Number) → Formed ws → IsHeld held → run (operand_held held) (frames_of ws) items ≡ Some number
    → Reads (spell_held held ws) items number

reads_as : (one other items : List Item) (i : Item) (number : Number) → one ≡ other ++ i ∷ [] → Reads one items number → Reads other (i ∷ items) number
reads_as one other items i number e r =
    (r.0, r.1, sym (append_assoc other (i ∷ []) items) ∙ ap (λ x. x ++ items) (sym e) ∙ r.2, r.3)

at_end : (t : Tree) (ws : List Waiting) (number : Number) → Reduction 0 t ws → run (Some (value t)) (frames_of ws) [] ≡ Some number → Reads (spell_all ws ++ spell t) [] number
at_end t ws number r e = by r.left refl
  where
    by : (left : List Waiting) → r.left ≡ left → Reads (spell_all ws ++ spell t) [] number
    by [] l = (
      r.tree,
      r.there,
      append-nil (spell_all ws ++ spell t) ∙ r.spelled ∙ ap (λ x. spell_all x ++ spell r.tree) l,
      some_same (sym e ∙ ap (λ (held : Held). whole held.0 held.1) r.same ∙ ap (λ x. whole (value r.tree) (frames_of x)) l),
    )
    by (w ∷ ws') l = absurd (none_some (sym (ap (λ (held : Held). whole held.0 held.1) r.same ∙ ap (λ x. whole (value r.tree) (frames_of x)) l) ∙ e))

behind_lead : (mark : Mark) (f : Frame) (items : List Item) (ws : List Waiting) (number : Number) → Sound items → Formed ws → LeadsBy mark f
    → run None (f ∷ frames_of ws) items ≡ Some number → Reads (spell_all ws) (item.Mark mark ∷ items) number
behind_lead mark frame.Group items ws number next f by e =
    reads_as (spell_all (InGroup ∷ ws)) (spell_all ws) items (item.Mark mark) number (ap (λ x. spell_all ws ++ item.Mark x ∷ []) (sym by)) (next None (InGroup ∷ ws) number f tt e)
behind_lead mark (frame.Prefix op) items ws number next f by e =
    reads_as (spell_all (InPrefix mark op ∷ ws)) (spell_all ws) items (item.Mark mark) number refl (next None (InPrefix mark op ∷ ws) number (by, f) tt e)
behind_lead mark (frame.Between op a) items ws number next f by e = absurd by
behind_lead mark (frame.Question c) items ws number next f by e = absurd by
behind_lead mark (frame.Colon c a) items ws number next f by e = absurd by

-- what was read, with the expression that an operand made
joined : (t : Tree) (ws : List Waiting) (k : ℕ) (r : Reduction k t ws) (i : Item) → spell_all r.left ++ (spell r.tree ++ i ∷ []) ≡ (spell_all ws ++ spell t) ++ i ∷ []
joined t ws k r i = sym (append_assoc (spell_all r.left) (spell r.tree) (i ∷ [])) ∙ ap (λ x. x ++ i ∷ []) (sym r.spelled)

behind_operand : (mark : Mark) (follow : Follow) (items : List Item) (t : Tree) (ws : List Waiting) (number : Number) → Sound items → (r : Reduction (follow_level follow) t ws) → FollowsBy mark follow
    → Continues items (followed follow (value r.tree) (frames_of r.left)) ≡ Some number → Reads (spell_all ws ++ spell t) (item.Mark mark ∷ items) number
behind_operand mark (Goes op) items t ws number next r by e =
    reads_as (spell_all (InBetween mark op r.tree ∷ r.left)) (spell_all ws ++ spell t) items (item.Mark mark) number (joined t ws (level op) r (item.Mark mark))
    (next None (InBetween mark op r.tree ∷ r.left) number (by, r.there, r.low, r.formed) tt e)
behind_operand mark Asks items t ws number next r by e =
    reads_as (spell_all (InQuestion r.tree ∷ r.left)) (spell_all ws ++ spell t) items (item.Mark mark) number
    (joined t ws 1 r (item.Mark m.Question) ∙ ap (λ x. (spell_all ws ++ spell t) ++ item.Mark x ∷ []) (sym by))
    (next None (InQuestion r.tree ∷ r.left) number (r.there, bound-low r.left r.low, r.formed) tt e)
behind_operand mark Parts items t ws number next r by e = with_left r.left refl
  where
    nothing : (left : List Waiting) → r.left ≡ left → parted (value r.tree) (frames_of left) ≡ None → ⊥
    nothing left l p = none_some (sym (ap (Continues items) (ap (λ x. parted (value r.tree) (frames_of x)) l ∙ p)) ∙ e)

    parts : (c : Tree) (ws' : List Waiting) → r.left ≡ InQuestion c ∷ ws' → spell_all (InColon c r.tree ∷ ws') ≡ (spell_all ws ++ spell t) ++ item.Mark mark ∷ []
    parts c ws' l =
        ap (λ x. spell_all ws' ++ x) (sym (append_assoc (spell c) (item.Mark m.Question ∷ []) (spell r.tree ++ item.Mark m.Colon ∷ [])))
        ∙ sym (append_assoc (spell_all ws') (spell c ++ item.Mark m.Question ∷ []) (spell r.tree ++ item.Mark m.Colon ∷ []))
        ∙ ap (λ x. spell_all x ++ (spell r.tree ++ item.Mark m.Colon ∷ [])) (sym l)
        ∙ joined t ws 0 r (item.Mark m.Colon)
        ∙ ap (λ x. (spell_all ws ++ spell t) ++ item.Mark x ∷ []) (sym by)

    with_left : (left : List Waiting) → r.left ≡ left → Reads (spell_all ws ++ spell t) (item.Mark mark ∷ items) number
    with_left (InQuestion c ∷ ws') l =
        let P : List Waiting → Type 0 = λ x. Formed x in
        let f : Formed (InQuestion c ∷ ws') = subst P l r.formed in
        let Q : List Waiting → Type 0 = λ x. Continues items (parted (value r.tree) (frames_of x)) ≡ Some number in
        reads_as (spell_all (InColon c r.tree ∷ ws')) (spell_all ws ++ spell t) items (item.Mark mark) number (parts c ws' l)
        (next None (InColon c r.tree ∷ ws') number (f.0, r.there, f.1, f.2) tt (subst Q l e))
    with_left [] l = absurd (nothing [] l refl)
    with_left (InGroup ∷ ws') l = absurd (nothing (InGroup ∷ ws') l refl)
    with_left (InPrefix mk op ∷ ws') l = absurd (nothing (InPrefix mk op ∷ ws') l refl)
    with_left (InBetween mk op a ∷ ws') l = absurd (nothing (InBetween mk op a ∷ ws') l refl)
    with_left (InColon c a ∷ ws') l = absurd (nothing (InColon c a ∷ ws') l refl)
behind_operand mark Closes items t ws number next r by e = with_left r.left refl
  where
    nothing : (left : List Waiting) → r.left ≡ left → closed (value r.tree) (frames_of left) ≡ None → ⊥
    nothing left l p = none_some (sym (ap (Continues items) (ap (λ x. closed (value r.tree) (frames_of x)) l ∙ p)) ∙ e)

    with_left : (left : List Waiting) → r.left ≡ left → Reads (spell_all ws ++ spell t) (item.Mark mark ∷ items) number
    with_left (InGroup ∷ ws') l =
        let P : List Waiting → Type 0 = λ x. Formed x in
        let Q : List Waiting → Type 0 = λ x. Continues items (closed (value r.tree) (frames_of x)) ≡ Some number in
        reads_as (spell_all ws' ++ spell (Group r.tree)) (spell_all ws ++ spell t) items (item.Mark mark) number closes
        (next (Some (Group r.tree)) ws' number (subst P l r.formed) (λ n. r.there) (subst Q l e))
      where
        closes : spell_all ws' ++ spell (Group r.tree) ≡ (spell_all ws ++ spell t) ++ item.Mark mark ∷ []
        closes =
            sym (append_assoc (spell_all ws') (item.Mark m.OpenParen ∷ []) (spell r.tree ++ item.Mark m.CloseParen ∷ []))
            ∙ ap (λ x. spell_all x ++ (spell r.tree ++ item.Mark m.CloseParen ∷ [])) (sym l)
            ∙ joined t ws 0 r (item.Mark m.CloseParen)
            ∙ ap (λ x. (spell_all ws ++ spell t) ++ item.Mark x ∷ []) (sym by)
    with_left [] l = absurd (nothing [] l refl)
    with_left (InPrefix mk op ∷ ws') l = absurd (nothing (InPrefix mk op ∷ ws') l refl)
    with_left (InBetween mk op a ∷ ws') l = absurd (nothing (InBetween mk op a ∷ ws') l refl)
    with_left (InQuestion c ∷ ws') l = absurd (nothing (InQuestion c ∷ ws') l refl)
    with_left (InColon c a ∷ ws') l = absurd (nothing (InColon c a ∷ ws') l refl)

sound : (items : List Item) → Sound items
sound [] None ws number f h e = absurd (none_some e)
sound [] (Some t) ws number f h e = at_end t ws number (reduce_all 0 (omega arith) ws t f (h (bound ws)) (h 0)) e
sound (item.Operand n ∷ items) None ws number f h e =
    reads_as (spell_all ws ++ item.Operand n ∷ []) (spell_all ws) items (item.Operand n) number refl (sound items (Some (Operand n)) ws number f (λ k. tt) e)
sound (item.Operand n ∷ items) (Some t) ws number f h e = absurd (none_some e)
sound (item.Mark mark ∷ items) None ws number f h e = by (lead_of mark) refl (sound items)
  where
    by : (p : Option Frame) → lead_of mark ≡ p → Sound items → Reads (spell_all ws) (item.Mark mark ∷ items) number
    by None l next = absurd (none_some (sym (ap (λ x. Continues items (option_map (waiting_in (frames_of ws)) x)) l) ∙ e))
    by (Some g) l next =
        behind_lead mark g items ws number next f (led-by mark g l) (sym (ap (λ x. Continues items (option_map (waiting_in (frames_of ws)) x)) l) ∙ e)
sound (item.Mark mark ∷ items) (Some t) ws number f h e = by (follow_of mark) refl (sound items)
  where
    by : (p : Option Follow) → follow_of mark ≡ p → Sound items → Reads (spell_all ws ++ spell t) (item.Mark mark ∷ items) number
    by None l next = absurd (none_some (sym (ap (λ x. Continues items (option_and_then (following (value t) (frames_of ws)) x)) l) ∙ e))
    by (Some follow) l next =
        let r = reduce_all (follow_level follow) (follow-small follow) ws t f (h (bound ws)) (h (follow_level follow)) in
        behind_operand mark follow items t ws number next r (followed-by mark follow l)
        (sym (ap (λ x. Continues items (option_and_then (following (value t) (frames_of ws)) x)) l ∙ ap (λ (held : Held). Continues items (followed follow held.0 held.1)) r.same) ∙ e)

-- what is read is what the items mean
pub run-means : (items : List Item) (number : Number) → run None [] items ≡ Some number → Means items number
run-means items number e =
    let r = sound items None [] number tt tt e in
    record { tree = r.0; formed = r.1; spelled = r.2; value_is = r.3 }
