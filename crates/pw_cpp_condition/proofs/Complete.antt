-- An expression is read as what it comes to.
use Rattle.std.proofs.Common.{◌≡◌, ℕ, ◌+◌, ◌<◌, ◌≤◌, Bool, true, false, List, [], ◌∷◌, ◌++◌, Option, Some, None, refl, sym, ap, ◌∙◌, subst, append_assoc, arith}
use Rattle.std.proofs.lemmas.Bool.{lt-leb, le-leb}
use Rattle.std.proofs.lemmas.List.{append-nil}
use Rattle.std.specs.Prelude.{nat_le, option_map, option_and_then}
use Rattle.pw_token.specs.declared.symbol.Mark.{Mark}
use Rattle.pw_token.specs.declared.symbol.Mark.TheVariants as m
use Rattle.pw_types.specs.declared.tree.UnaryOperator.{UnaryOperator}
use Rattle.pw_cpp_values.specs.Arithmetic.{unary}
use Rattle.pw_cpp_values.specs.declared.arithmetic.Number.{Number}
use Rattle.pw_cpp_condition.specs.Grammar.{IsAt, Means, Tree, Operand, Group, Prefix, Between, Choice, spell, value}
use Rattle.pw_cpp_condition.specs.Machine.{Held, State, applied, binds, followed, follow_level, follow_of, following, lead_of, reduced, run, step, waiting_in, whole}
use Rattle.pw_cpp_condition.specs.Words.{infix_of, level, prefix_of}
use Rattle.pw_cpp_condition.specs.declared.frame.Follow.{Follow}
use Rattle.pw_cpp_condition.specs.declared.frame.Follow.TheVariants.{Goes, Asks, Parts, Closes}
use Rattle.pw_cpp_condition.specs.declared.frame.Frame.{Frame}
use Rattle.pw_cpp_condition.specs.declared.frame.Frame.TheVariants as frame
use Rattle.pw_cpp_condition.specs.declared.word.Infix.{Infix}
use Rattle.pw_cpp_condition.specs.declared.word.Item.{Item}
use Rattle.pw_cpp_condition.specs.declared.word.Item.TheVariants as item
use Rattle.pw_cpp_condition.proofs.Marks.{Continues, goes, leads, level-range, follow-small, some_same}

-- the levels at which what comes next may reduce: at the end, at that of `?:`
abbrev pub Reduces : List Item → ℕ → Type 0
Reduces [] n = n ≡ 0
Reduces (item.Operand number ∷ rest) n = ⊥
Reduces (item.Mark mark ∷ rest) n = (follow : Follow) × (follow_of mark ≡ Some follow) × (n ≡ follow_level follow)

-- what comes next reduces at no level above this one
abbrev Below : ℕ → List Item → Type 0
Below n rest = (k : ℕ) → Reduces rest k → k ≤ n

-- no operand goes to these frames at the levels of operators from this one on
abbrev Stays : ℕ → List Frame → Type 0
Stays n frames = (k : ℕ) → n ≤ k → 1 ≤ k → k ≤ 10 → (v : Number) → reduced k v frames ≡ (v, frames)

-- ---- a frame takes its operand before what comes next

reduced-more : (k : ℕ) (v : Number) (f : Frame) (frames : List Frame) → binds k f ≡ true → reduced k v (f ∷ frames) ≡ reduced k (applied f v) frames
reduced-more k v f frames e = rw e refl

reduced-less : (k : ℕ) (v : Number) (f : Frame) (frames : List Frame) → binds k f ≡ false → reduced k v (f ∷ frames) ≡ (v, f ∷ frames)
reduced-less k v f frames e = rw e refl

take_in : (f : Frame) (v : Number) (frames : List Frame) (rest : List Item) → ((k : ℕ) → Reduces rest k → binds k f ≡ true)
    → run (Some v) (f ∷ frames) rest ≡ run (Some (applied f v)) frames rest
take_in f v frames [] h = ap (λ (held : Held). whole held.0 held.1) (reduced-more 0 v f frames (h 0 refl))
take_in f v frames (item.Operand number ∷ rest) h = refl
take_in f v frames (item.Mark mark ∷ rest) h = by (follow_of mark) refl
  where
    by : (p : Option Follow) → follow_of mark ≡ p
        → Continues rest (option_and_then (following v (f ∷ frames)) p) ≡ Continues rest (option_and_then (following (applied f v) frames) p)
    by None e = refl
    by (Some follow) e =
        ap (λ (held : Held). Continues rest (followed follow held.0 held.1))
        (reduced-more (follow_level follow) v f frames (h (follow_level follow) (follow, e, refl)))

-- ---- steps

at_lead : (mark : Mark) (f : Frame) (frames : List Frame) (rest : List Item) → lead_of mark ≡ Some f → run None frames (item.Mark mark ∷ rest) ≡ run None (f ∷ frames) rest
at_lead mark f frames rest e = ap (λ p. Continues rest (option_map (waiting_in frames) p)) e

at_follow : (mark : Mark) (follow : Follow) (v : Number) (frames : List Frame) (rest : List Item) → follow_of mark ≡ Some follow → reduced (follow_level follow) v frames ≡ (v, frames)
    → run (Some v) frames (item.Mark mark ∷ rest) ≡ Continues rest (followed follow v frames)
at_follow mark follow v frames rest e r =
    ap (λ p. Continues rest (option_and_then (following v frames) p)) e ∙ ap (λ (held : Held). Continues rest (followed follow held.0 held.1)) r

-- ---- bounds

below_close : (rest : List Item) (n : ℕ) → Below n (item.Mark m.CloseParen ∷ rest)
below_close rest n k h = let same : Closes ≡ h.0 = some_same h.1 in omega (arith, h.2, ap follow_level same)

below_colon : (rest : List Item) (n : ℕ) → Below n (item.Mark m.Colon ∷ rest)
below_colon rest n k h = let same : Parts ≡ h.0 = some_same h.1 in omega (arith, h.2, ap follow_level same)

below_question : (rest : List Item) → Below 1 (item.Mark m.Question ∷ rest)
below_question rest k h = let same : Asks ≡ h.0 = some_same h.1 in omega (arith, h.2, ap follow_level same)

below_infix : (mark : Mark) (op : Infix) (rest : List Item) → infix_of mark ≡ Some op → Below (level op) (item.Mark mark ∷ rest)
below_infix mark op rest e k h =
    let same : Goes op ≡ h.0 = some_same (sym (goes mark op e) ∙ h.1) in
    omega (arith, h.2, ap follow_level same)

reduces_small : (rest : List Item) (k : ℕ) → Reduces rest k → k ≤ 10
reduces_small [] k h = omega (arith, h)
reduces_small (item.Operand number ∷ rest) k h = absurd h
reduces_small (item.Mark mark ∷ rest) k h = omega (arith, h.2, follow-small h.0)

-- ---- all of it

pub complete : (n : ℕ) (t : Tree) (frames : List Frame) (rest : List Item) → IsAt n t → Stays n frames → Below n rest
    → run None frames (spell t ++ rest) ≡ run (Some (value t)) frames rest
complete n (Operand number) frames rest h s b = refl
complete n (Group e) frames rest h s b =
    ap (run None (frame.Group ∷ frames)) (append_assoc (spell e) (item.Mark m.CloseParen ∷ []) rest)
    ∙ complete 0 e (frame.Group ∷ frames) (item.Mark m.CloseParen ∷ rest) h (λ k a c d v. refl) (below_close rest 0)
complete n (Prefix mark op a) frames rest h s b =
    at_lead mark (frame.Prefix op) frames (spell a ++ rest) (leads mark op h.0)
    ∙ complete 11 a (frame.Prefix op ∷ frames) rest h.2 (λ k l c d v. absurd (omega (arith, l, d))) (λ k r. omega (arith, reduces_small rest k r))
    ∙ take_in (frame.Prefix op) (value a) frames rest (λ k r. le-leb k 11 (omega (arith, reduces_small rest k r)))
complete n (Between mark op a b) frames rest h s below =
    let range = level-range op in
    ap (run None frames) (append_assoc (spell a) (item.Mark mark ∷ spell b) rest)
    ∙ complete (level op) a frames (item.Mark mark ∷ (spell b ++ rest)) h.2 (λ k l c d v. s k (omega (arith, l, h.1)) c d v) (below_infix mark op (spell b ++ rest) h.0)
    ∙ at_follow mark (Goes op) (value a) frames (spell b ++ rest) (goes mark op h.0) (s (level op) h.1 range.0 range.1 (value a))
    ∙ complete (level op + 1) b (frame.Between op (value a) ∷ frames) rest h.3
    (λ k l c d v. reduced-less k v (frame.Between op (value a)) frames (lt-leb k (level op) (omega (arith, l))))
    (λ k r. omega (arith, below k r, h.1))
    ∙ take_in (frame.Between op (value a)) (value b) frames rest (λ k r. le-leb k (level op) (omega (arith, below k r, h.1)))
complete n (Choice c a b) frames rest h s below =
    ap (run None frames) (append_assoc (spell c) (item.Mark m.Question ∷ (spell a ++ item.Mark m.Colon ∷ spell b)) rest ∙ ap (λ x. spell c ++ item.Mark m.Question ∷ x) (append_assoc (spell a) (item.Mark m.Colon ∷ spell b) rest))
    ∙ complete 1 c frames (item.Mark m.Question ∷ (spell a ++ item.Mark m.Colon ∷ (spell b ++ rest))) h.1 (λ k l x d v. s k (omega (arith, h.0)) x d v) (below_question (spell a ++ item.Mark m.Colon ∷ (spell b ++ rest)))
    ∙ at_follow m.Question Asks (value c) frames (spell a ++ item.Mark m.Colon ∷ (spell b ++ rest)) refl (s 1 (omega (arith, h.0)) (omega arith) (omega arith) (value c))
    ∙ complete 0 a (frame.Question (value c) ∷ frames) (item.Mark m.Colon ∷ (spell b ++ rest)) h.2 (λ k l x d v. refl) (below_colon (spell b ++ rest) 0)
    ∙ complete 0 b (frame.Colon (value c) (value a) ∷ frames) rest h.3
    (λ k l x d v. reduced-less k v (frame.Colon (value c) (value a)) frames (lt-leb k 0 (omega (arith, x))))
    (λ k r. omega (arith, below k r, h.0))
    ∙ take_in (frame.Colon (value c) (value a)) (value b) frames rest (λ k r. le-leb k 0 (omega (arith, below k r, h.0)))

-- what the items mean is what is read
pub means-run : (items : List Item) (number : Number) → Means items number → run None [] items ≡ Some number
means-run items number h =
    ap (run None []) (h.spelled ∙ sym (append-nil (spell h.tree)))
    ∙ complete 0 h.tree [] [] h.formed (λ k l x d v. refl) (λ k r. omega (arith, r))
    ∙ ap Some (sym h.value_is)
