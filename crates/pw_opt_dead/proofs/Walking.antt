-- Operations of a block from the last one to the first, and blocks of a function.
use Rattle.std.proofs.Common.{◌≡◌, ◌∙◌, ◌||◌, ◌&&◌, ℕ, ◌<◌, Bool, true, false, not, List, [], ◌∷◌, ◌++◌, length, get_or, map, reverse, refl, sym, ap, subst, arith, append_assoc}
use Rattle.std.specs.Prelude.{Option, None, Some, if◌then◌else◌}
use Rattle.std.proofs.lemmas.List.{append-nil, reverse-append, reverse-reverse}
use Rattle.pw_flow.specs.declared.flow.Op.{Op}
use Rattle.pw_flow.specs.declared.flow.Block.{Block}
use Rattle.pw_flow.specs.declared.flow.FlowModule.{FlowModule}
use Rattle.pw_flow.specs.Outline.{Act, Stretch, Outline, act_of, stretch_of}
use Rattle.pw_flow.specs.Uses.{op_defines}
use Rattle.pw_live.specs.Liveness.{has, is_that}
use Rattle.pw_opt_rules.specs.Dead.{only_defines, is_needed, is_dead, live_ops, live_block}
use Rattle.pw_opt_dead.specs.Marks.{is_marked, is_needed_by, MarksLive}

-- ---- the last of a list

split_more : {X : Type 0} (all left shorter rest : List X) (x : X) → left ++ rest ≡ all → left ≡ shorter ++ x ∷ [] → shorter ++ x ∷ rest ≡ all
split_more all left shorter rest x split popped = sym (append_assoc shorter (x ∷ []) rest) ∙ ap (λ xs. xs ++ rest) (sym popped) ∙ split

reverse_cons : {X : Type 0} (x : X) (xs : List X) → reverse (x ∷ xs) ≡ reverse xs ++ x ∷ []
reverse_cons x xs = reverse-append (x ∷ []) xs

-- what a function makes of it
at_last : {X Y : Type 0} (h : X → Y) (shorter rest : List X) (x : X) (d : Y) → get_or (map h (shorter ++ x ∷ rest)) (length shorter) d ≡ h x
at_last h [] rest x d = refl
at_last h (y ∷ shorter) rest x d = at_last h shorter rest x d

last_within : {X Y : Type 0} (h : X → Y) (shorter rest : List X) (x : X) → length shorter < length (map h (shorter ++ x ∷ rest))
last_within h [] rest x = omega arith
last_within h (y ∷ shorter) rest x = let lt = last_within h shorter rest x in omega (arith, lt)

-- ---- operations

-- from the end of a block to before the operations that are left
pub record Walk (m : FlowModule) (all left : List Op) (first live : List Bool) (kept : List Op) : Type 0 where
  pub rest : List Op
  pub split : left ++ rest ≡ all
  pub kept_is : (f : Outline) (b : Block) → MarksLive f b [] first → kept ≡ reverse (live_ops m f b rest)
  pub live_is : (f : Outline) (b : Block) → MarksLive f b [] first → MarksLive f b rest live

pub walk_none : (m : FlowModule) (all : List Op) (first : List Bool) → Walk m all all first first []
walk_none m all first = record { rest = []; split = append-nil all; kept_is = λ f b is. refl; live_is = λ f b is. is }

pub act_last : (m : FlowModule) (all left shorter : List Op) (first live : List Bool) (kept : List Op) (op : Op) (acts : List Act) (act : Act) → Walk m all left first live kept → left ≡ shorter ++ op ∷ [] → acts ≡ map act_of all
    → act ≡ get_or acts (length shorter) act → act ≡ act_of op
act_last m all left shorter first live kept op acts act w popped are is =
    is ∙ ap (λ (xs : List Act). get_or xs (length shorter) act) (are ∙ ap (map act_of) (sym (split_more all left shorter w.rest op w.split popped))) ∙ at_last act_of shorter w.rest op act

pub act_within : (m : FlowModule) (all left shorter : List Op) (first live : List Bool) (kept : List Op) (op : Op) (acts : List Act) → Walk m all left first live kept → left ≡ shorter ++ op ∷ [] → acts ≡ map act_of all
    → length shorter < length acts
act_within m all left shorter first live kept op acts w popped are =
    subst (λ (xs : List Act). length shorter < length xs) (ap (map act_of) (split_more all left shorter w.rest op w.split popped) ∙ sym are) (last_within act_of shorter w.rest op)

needed_is : (f : Outline) (b : Block) (rest : List Op) (live : List Bool) (d : Option ℕ) → MarksLive f b rest live → is_needed_by live d ≡ is_needed f b d rest
needed_is f b rest live None is = refl
needed_is f b rest live (Some t) is = is t

not_not : (a : Bool) → not a ≡ true → a ≡ false
not_not true e = absurd cc
not_not false e = refl

not_no : (a : Bool) → not a ≡ false → a ≡ true
not_no true e = refl
not_no false e = absurd cc

module _ (m : FlowModule) (all left shorter : List Op) (first live now : List Bool) (kept : List Op) (op : Op) (w : Walk m all left first live kept) (popped : left ≡ shorter ++ op ∷ []) (act : Act) (is_act : act ≡ act_of op)
    (stepped : (t : ℕ) → is_marked now t ≡ (has t act.uses || (not (is_that act.defines t) && is_marked live t))) where
  dead_is : (f : Outline) (b : Block) → MarksLive f b [] first → is_dead m f b op w.rest ≡ (only_defines m op && not (is_needed_by live (op_defines op)))
  dead_is f b is = ap (λ (x : Bool). only_defines m op && not x) (sym (needed_is f b w.rest live (op_defines op) (w.live_is f b is)))

  live_now : (f : Outline) (b : Block) → MarksLive f b [] first → MarksLive f b (op ∷ w.rest) now
  live_now f b is t =
      stepped t ∙ ap (λ (a : Act). has t a.uses || (not (is_that a.defines t) && is_marked live t)) is_act
      ∙ ap (λ (x : Bool). has t (act_of op).uses || (not (is_that (act_of op).defines t) && x)) (w.live_is f b is t)

  walk_stays : not (only_defines m op && not (is_needed_by live (op_defines op))) ≡ true → (new : List Op) → new ≡ kept ++ op ∷ [] → Walk m all shorter first now new
  walk_stays stays new pushed = record {
    rest = op ∷ w.rest;
    split = split_more all left shorter w.rest op w.split popped;
    kept_is = λ f b is.
        let alive : is_dead m f b op w.rest ≡ false = dead_is f b is ∙ not_not (only_defines m op && not (is_needed_by live (op_defines op))) stays in
        pushed ∙ ap (λ (xs : List Op). xs ++ op ∷ []) (w.kept_is f b is) ∙ sym (reverse_cons op (live_ops m f b w.rest))
        ∙ ap (λ (c : Bool). reverse (if c then live_ops m f b w.rest else op ∷ live_ops m f b w.rest)) (sym alive);
    live_is = live_now;
  }

  walk_goes : not (only_defines m op && not (is_needed_by live (op_defines op))) ≡ false → Walk m all shorter first now kept
  walk_goes goes = record {
    rest = op ∷ w.rest;
    split = split_more all left shorter w.rest op w.split popped;
    kept_is = λ f b is.
        let dead : is_dead m f b op w.rest ≡ true = dead_is f b is ∙ not_no (only_defines m op && not (is_needed_by live (op_defines op))) goes in
        w.kept_is f b is ∙ ap (λ (c : Bool). reverse (if c then live_ops m f b w.rest else op ∷ live_ops m f b w.rest)) (sym dead);
    live_is = live_now;
  }

  pub walk_next : (stay : Bool) → stay ≡ not (only_defines m op && not (is_needed_by live (op_defines op))) → (new : List Op) → new ≡ (if stay then kept ++ op ∷ [] else kept) → Walk m all shorter first now new
  walk_next true e new pushed = walk_stays (sym e) new pushed
  walk_next false e new pushed = subst (Walk m all shorter first now) (sym pushed) (walk_goes (sym e))

-- where none are left
pub walk_all : (m : FlowModule) (all left : List Op) (first live : List Bool) (kept : List Op) → Walk m all left first live kept → left ≡ [] → (f : Outline) (b : Block) → MarksLive f b [] first → kept ≡ reverse (live_ops m f b all)
walk_all m all left first live kept w none f b is =
    w.kept_is f b is ∙ ap (λ (ops : List Op). reverse (live_ops m f b ops)) (ap (λ (xs : List Op). xs ++ w.rest) (sym none) ∙ w.split)

pub walk_live : (m : FlowModule) (all left : List Op) (first live : List Bool) (kept : List Op) → Walk m all left first live kept → left ≡ [] → (f : Outline) (b : Block) → MarksLive f b [] first → MarksLive f b all live
walk_live m all left first live kept w none f b is = subst (λ (ops : List Op). MarksLive f b ops live) (ap (λ (xs : List Op). xs ++ w.rest) (sym none) ∙ w.split) (w.live_is f b is)

-- ---- blocks

pub record BlockWalk (m : FlowModule) (o : Outline) (all left new : List Block) : Type 0 where
  pub rest : List Block
  pub split : left ++ rest ≡ all
  pub new_is : new ≡ reverse (map (live_block m o) rest)

pub blocks_none : (m : FlowModule) (o : Outline) (all : List Block) → BlockWalk m o all all []
blocks_none m o all = record { rest = []; split = append-nil all; new_is = refl }

pub stretch_last : (m : FlowModule) (o : Outline) (all left shorter new : List Block) (b : Block) (ss : List Stretch) (s : Stretch) → BlockWalk m o all left new → left ≡ shorter ++ b ∷ [] → ss ≡ map stretch_of all
    → s ≡ get_or ss (length shorter) s → s ≡ stretch_of b
stretch_last m o all left shorter new b ss s w popped are is =
    is ∙ ap (λ (xs : List Stretch). get_or xs (length shorter) s) (are ∙ ap (map stretch_of) (sym (split_more all left shorter w.rest b w.split popped))) ∙ at_last stretch_of shorter w.rest b s

pub stretch_within : (m : FlowModule) (o : Outline) (all left shorter new : List Block) (b : Block) (ss : List Stretch) → BlockWalk m o all left new → left ≡ shorter ++ b ∷ [] → ss ≡ map stretch_of all → length shorter < length ss
stretch_within m o all left shorter new b ss w popped are =
    subst (λ (xs : List Stretch). length shorter < length xs) (ap (map stretch_of) (split_more all left shorter w.rest b w.split popped) ∙ sym are) (last_within stretch_of shorter w.rest b)

pub blocks_more : (m : FlowModule) (o : Outline) (all left shorter new now : List Block) (b c : Block) → BlockWalk m o all left new → left ≡ shorter ++ b ∷ [] → c ≡ live_block m o b → now ≡ new ++ c ∷ [] → BlockWalk m o all shorter now
blocks_more m o all left shorter new now b c w popped is pushed = record {
  rest = b ∷ w.rest;
  split = split_more all left shorter w.rest b w.split popped;
  new_is = pushed ∙ ap (λ (x : Block). new ++ x ∷ []) is ∙ ap (λ (xs : List Block). xs ++ live_block m o b ∷ []) w.new_is ∙ sym (reverse_cons (live_block m o b) (map (live_block m o) w.rest));
}

pub blocks_all : (m : FlowModule) (o : Outline) (all left new : List Block) → BlockWalk m o all left new → left ≡ [] → reverse new ≡ map (live_block m o) all
blocks_all m o all left new w none =
    ap (λ (xs : List Block). reverse xs) w.new_is ∙ reverse-reverse (map (live_block m o) w.rest) ∙ ap (map (live_block m o)) (ap (λ (xs : List Block). xs ++ w.rest) (sym none) ∙ w.split)
