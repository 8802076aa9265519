-- What several steps of a walk do together, and which temporaries they speak of.
use Rattle.std.proofs.Common.{◌≡◌, ◌≢◌, ◌⊎◌, ℕ, zero, suc, ◌+◌, ◌<◌, ◌≤◌, ◌==◌, true, List, [], ◌∷◌, ◌++◌, length, get_or, take, refl, sym, ap, subst, ◌∙◌, arith, inl, inr}
use Rattle.std.specs.Prelude.{Option, None, Some, slice_get, Contains, All, ◌↔◌}
use Rattle.std.specs.List.{AllByRecursion, list_any}
use Rattle.std.proofs.lemmas.Bool.{or_cases, or_left, or_right, eqb-true, eq-eqb}
use Rattle.std.proofs.lemmas.List.{take_more, take_all, get_or_default}
use Rattle.std.proofs.lemmas.List.Elements.{Contains-get_or, Contains-append_left, Contains-push, Contains-push_cases}
use Rattle.std.proofs.lemmas.Option.{same_Some, slice_get_within}
use Rattle.pw_flow.specs.Outline.{Act, Stretch, Outline}
use Rattle.pw_live.specs.Liveness.{has, is_live, is_live_in}
use Rattle.pw_live_fronts.specs.Blocks.{IsAct, IsStretch, IsOutline}
use Rattle.pw_live_fronts.specs.LiveFronts.{IsLiveAt, AreFronts}
use Rattle.pw_live_fronts.specs.declared.fronts.Fronts.{Fronts}
use Rattle.pw_live_spans.specs.LivePoints.{IsLiveAtOne, IsLiveBefore}

-- ---- a prefix that is one longer

pub first_more : {X : Type 0} (xs : List X) (k : ℕ) (x y : X) → k < length xs → get_or xs k x ≡ x → Contains (take (k + 1) xs) y ↔ (Contains (take k xs) y ⊎ (y ≡ x))
first_more {X} xs k x y lt is =
    let whole : take (k + 1) xs ≡ take k xs ++ x ∷ [] = take_more xs k x lt ∙ ap (λ (z : X). take k xs ++ z ∷ []) is in (
      λ h. elim (Contains-push_cases (take k xs) x y (subst (λ (zs : List X). Contains zs y) whole h)) [ inl c ↦ inl c | inr e ↦ inr (sym e) ],
      λ h. subst (λ (zs : List X). Contains zs y) (sym whole) (elim h [
        | inl c ↦ Contains-append_left (take k xs) (x ∷ []) y c
        | inr e ↦ subst (λ (z : X). Contains (take k xs ++ x ∷ []) z) (sym e) (Contains-push (take k xs) x)
      ]),
    )

pub first_none : {X : Type 0} (xs : List X) (y : X) → ¬ Contains (take 0 xs) y
first_none [] y c = let lt : c.0 < 0 = c.1 in omega (arith, lt)
first_none (x ∷ xs) y c = let lt : c.0 < 0 = c.1 in omega (arith, lt)

pub first_all : {X : Type 0} (xs : List X) (k : ℕ) (y : X) → length xs ≤ k → Contains (take k xs) y ↔ Contains xs y
first_all {X} xs k y le = let whole = take_all k xs le in (λ h. subst (λ (zs : List X). Contains zs y) whole h, λ h. subst (λ (zs : List X). Contains zs y) (sym whole) h)

-- what stands at a place, whatever stands for what is past the end
pub item_at : {X : Type 0} (xs : List X) (i : ℕ) (d : X) → i < length xs → get_or xs i (get_or xs i d) ≡ get_or xs i d
item_at xs i d lt = get_or_default xs i (get_or xs i d) d lt

-- ---- temporaries that are live from a point on

pub marks_more : (New Cur Old : ℕ → ℕ → Type 0) (Now Before After : ℕ → Type 0) (place here : ℕ) → here ≡ place
    → ((u : ℕ) → After u ↔ (Before u ⊎ Now u))
    → ((u q : ℕ) → New u q ↔ (Cur u q ⊎ (Now u × (q ≡ here))))
    → ((u q : ℕ) → Cur u q ↔ (Old u q ⊎ (Before u × (q ≡ place))))
    → (u q : ℕ) → New u q ↔ (Old u q ⊎ (After u × (q ≡ place)))
marks_more New Cur Old Now Before After place here same all now before u q = (
  λ h. elim ((now u q).0 h) [
    | inl c ↦ elim ((before u q).0 c) [ inl o ↦ inl o | inr b ↦ inr ((all u).1 (inl b.0), b.1) ]
    | inr n ↦ inr ((all u).1 (inr n.0), n.1 ∙ same)
  ],
  λ h. elim h [
    | inl o ↦ (now u q).1 (inl ((before u q).1 (inl o)))
    | inr a ↦ elim ((all u).0 a.0) [
      | inl b ↦ (now u q).1 (inl ((before u q).1 (inr (b, a.1))))
      | inr n ↦ (now u q).1 (inr (n, a.1 ∙ sym same))
    ]
  ],
)

pub opens_more : (New Cur Old Now Before After : ℕ → Type 0)
    → ((u : ℕ) → After u ↔ (Before u ⊎ Now u))
    → ((u : ℕ) → New u ↔ (Cur u ⊎ Now u))
    → ((u : ℕ) → Cur u ↔ (Old u ⊎ Before u))
    → (u : ℕ) → New u ↔ (Old u ⊎ After u)
opens_more New Cur Old Now Before After all now before u = (
  λ h. elim ((now u).0 h) [
    | inl c ↦ elim ((before u).0 c) [ inl o ↦ inl o | inr b ↦ inr ((all u).1 (inl b)) ]
    | inr n ↦ inr ((all u).1 (inr n))
  ],
  λ h. elim h [
    | inl o ↦ (now u).1 (inl ((before u).1 (inl o)))
    | inr a ↦ elim ((all u).0 a) [ inl b ↦ (now u).1 (inl ((before u).1 (inr b))) | inr n ↦ (now u).1 (inr n) ]
  ],
)

-- and none so far
pub marks_none : (Old : ℕ → ℕ → Type 0) (Nothing : ℕ → Type 0) (place : ℕ) → ((u : ℕ) → ¬ Nothing u) → (u q : ℕ) → Old u q ↔ (Old u q ⊎ (Nothing u × (q ≡ place)))
marks_none Old Nothing place none u q = (λ h. inl h, λ h. elim h [ inl k ↦ k | inr k ↦ absurd (none u k.0) ])

pub opens_none : (Old Nothing : ℕ → Type 0) → ((u : ℕ) → ¬ Nothing u) → (u : ℕ) → Old u ↔ (Old u ⊎ Nothing u)
opens_none Old Nothing none u = (λ h. inl h, λ h. elim h [ inl k ↦ k | inr k ↦ absurd (none u k) ])

-- and all
pub marks_all : (New Old : ℕ → ℕ → Type 0) (Part Whole : ℕ → Type 0) (place : ℕ) → ((u : ℕ) → Part u ↔ Whole u)
    → ((u q : ℕ) → New u q ↔ (Old u q ⊎ (Part u × (q ≡ place)))) → (u q : ℕ) → New u q ↔ (Old u q ⊎ (Whole u × (q ≡ place)))
marks_all New Old Part Whole place same now u q = (
  λ h. elim ((now u q).0 h) [ inl k ↦ inl k | inr k ↦ inr ((same u).0 k.0, k.1) ],
  λ h. (now u q).1 (elim h [ inl k ↦ inl k | inr k ↦ inr ((same u).1 k.0, k.1) ]),
)

pub opens_all : (New Old Part Whole : ℕ → Type 0) → ((u : ℕ) → Part u ↔ Whole u) → ((u : ℕ) → New u ↔ (Old u ⊎ Part u)) → (u : ℕ) → New u ↔ (Old u ⊎ Whole u)
opens_all New Old Part Whole same now u = (
  λ h. elim ((now u).0 h) [ inl k ↦ inl k | inr k ↦ inr ((same u).0 k) ],
  λ h. (now u).1 (elim h [ inl k ↦ inl k | inr k ↦ inr ((same u).1 k) ]),
)

-- ---- temporaries that are not live before a point

pub shuts_more : (New Cur Old Before After : ℕ → Type 0) (t : ℕ)
    → ((u : ℕ) → After u ↔ (Before u ⊎ (u ≡ t)))
    → ((u : ℕ) → New u ↔ (Cur u × (u ≢ t)))
    → ((u : ℕ) → Cur u ↔ (Old u × ¬ Before u))
    → (u : ℕ) → New u ↔ (Old u × ¬ After u)
shuts_more New Cur Old Before After t all now before u = (
  λ h.
      let n = (now u).0 h in
      let c = (before u).0 n.0 in
      (c.0, λ a. elim ((all u).0 a) [ inl b ↦ c.1 b | inr e ↦ n.1 e ]),
  λ h. (now u).1 ((before u).1 (h.0, λ b. h.1 ((all u).1 (inl b))), λ e. h.1 ((all u).1 (inr e))),
)

pub shuts_none : (Old Nothing : ℕ → Type 0) → ((u : ℕ) → ¬ Nothing u) → (u : ℕ) → Old u ↔ (Old u × ¬ Nothing u)
shuts_none Old Nothing none u = (λ h. (h, none u), λ h. h.0)

pub shuts_all : (New Old Part Whole : ℕ → Type 0) → ((u : ℕ) → Part u ↔ Whole u) → ((u : ℕ) → New u ↔ (Old u × ¬ Part u)) → (u : ℕ) → New u ↔ (Old u × ¬ Whole u)
shuts_all New Old Part Whole same now u = (
  λ h. let k = (now u).0 h in (k.0, λ a. k.1 ((same u).1 a)),
  λ h. (now u).1 (h.0, λ s. h.1 ((same u).0 s)),
)

pub marks_same : (New Cur Old : ℕ → ℕ → Type 0) → ((u q : ℕ) → New u q ↔ Cur u q) → ((u q : ℕ) → Cur u q ↔ Old u q) → (u q : ℕ) → New u q ↔ Old u q
marks_same New Cur Old now before u q = (λ h. (before u q).0 ((now u q).0 h), λ h. (now u q).1 ((before u q).1 h))

-- ---- an operation

pub defined_here : (o : Option ℕ) (t : ℕ) (New Old : ℕ → Type 0) → o ≡ Some t → ((u : ℕ) → New u ↔ (Old u × (u ≢ t))) → (u : ℕ) → New u ↔ (Old u × (o ≢ Some u))
defined_here o t New Old is now u = (
  λ h. let k = (now u).0 h in (k.0, λ e. k.1 (same_Some u t (sym e ∙ is))),
  λ h. (now u).1 (h.0, λ same. h.1 (is ∙ ap Some (sym same))),
)

pub defined_none : (o : Option ℕ) (Old : ℕ → Type 0) → o ≡ None → (u : ℕ) → Old u ↔ (Old u × (o ≢ Some u))
defined_none o Old is u = (λ h. (h, λ e. let clash : Some u ≡ None = sym e ∙ is in cc), λ h. h.0)

pub act_marks : (a : Act) (Last Back Shut Old : ℕ → ℕ → Type 0) (Still Open : ℕ → Type 0) (here : ℕ)
    → ((u : ℕ) → Still u ↔ (Open u × (a.defines ≢ Some u)))
    → ((u q : ℕ) → Shut u q ↔ Old u q)
    → ((u q : ℕ) → Back u q ↔ (Shut u q ⊎ (Still u × (q ≡ here))))
    → ((u q : ℕ) → Last u q ↔ (Back u q ⊎ (Contains a.uses u × (q ≡ here))))
    → (u q : ℕ) → Last u q ↔ (Old u q ⊎ (IsLiveBefore a Open u × (q ≡ here)))
act_marks a Last Back Shut Old Still Open here still shut back last u q = (
  λ h. elim ((last u q).0 h) [
    | inl b ↦ elim ((back u q).0 b) [
      | inl s ↦ inl ((shut u q).0 s)
      | inr s ↦ inr (inr ((still u).0 s.0), s.1)
    ]
    | inr c ↦ inr (inl c.0, c.1)
  ],
  λ h. elim h [
    | inl o ↦ (last u q).1 (inl ((back u q).1 (inl ((shut u q).1 o))))
    | inr l ↦ elim l.0 [
      | inl c ↦ (last u q).1 (inr (c, l.1))
      | inr b ↦ (last u q).1 (inl ((back u q).1 (inr ((still u).1 b, l.1))))
    ]
  ],
)

pub act_opens : (a : Act) (Last Back Still Open : ℕ → Type 0)
    → ((u : ℕ) → Still u ↔ (Open u × (a.defines ≢ Some u)))
    → ((u : ℕ) → Back u ↔ Still u)
    → ((u : ℕ) → Last u ↔ (Back u ⊎ Contains a.uses u))
    → (u : ℕ) → Last u ↔ IsLiveBefore a Open u
act_opens a Last Back Still Open still back last u = (
  λ h. elim ((last u).0 h) [ inl b ↦ inr ((still u).0 ((back u).0 b)) | inr c ↦ inl c ],
  λ h. (last u).1 (elim h [ inl c ↦ inr c | inr b ↦ inl ((back u).1 ((still u).1 b)) ]),
)

-- ---- the end of a block

listed : (t : ℕ) (ts : List ℕ) → Contains ts t → has t ts ≡ true
listed t ts h = at ts h.0 h.1 h.2
  where
    at : (us : List ℕ) (k : ℕ) → k < length us → get_or us k t ≡ t → has t us ≡ true
    at [] k lt e = absurd (omega (arith, lt))
    at (u ∷ us) zero lt e = or_left (u == t) (has t us) (eq-eqb u t e)
    at (u ∷ us) (suc k) lt e = or_right (u == t) (has t us) (at us k (omega (arith, lt)) e)

stands : (t : ℕ) (ts : List ℕ) → has t ts ≡ true → Contains ts t
stands t [] e = absurd cc
stands t (u ∷ us) e = elim (or_cases (u == t) (has t us) e) [
  | inl h ↦ (0, omega arith, eqb-true u t h)
  | inr h ↦ let k = stands t us h in (suc k.0, (let lt = k.1 in omega (arith, lt)), k.2)
]

at_one : (f : Outline) (t : ℕ) (next : List ℕ) → list_any (is_live_in f t) next ≡ true → IsLiveAtOne f t next
at_one f t [] e = absurd cc
at_one f t (b ∷ rest) e = elim (or_cases (is_live_in f t b) (list_any (is_live_in f t) rest) e) [
  | inl h ↦ (b, (0, omega arith, refl), h)
  | inr h ↦ let r = at_one f t rest h in (r.0, (suc r.1.0, (let lt = r.1.1 in omega (arith, lt)), r.1.2), r.2)
]

one_at : (f : Outline) (t : ℕ) (next : List ℕ) → IsLiveAtOne f t next → list_any (is_live_in f t) next ≡ true
one_at f t next h = at next h.1.0 h.1.1 h.1.2
  where
    at : (bs : List ℕ) (k : ℕ) → k < length bs → get_or bs k h.0 ≡ h.0 → list_any (is_live_in f t) bs ≡ true
    at [] k lt e = absurd (omega (arith, lt))
    at (b ∷ bs) zero lt e = or_left (is_live_in f t b) (list_any (is_live_in f t) bs) (ap (is_live_in f t) e ∙ h.2)
    at (b ∷ bs) (suc k) lt e = or_right (is_live_in f t b) (list_any (is_live_in f t) bs) (at bs k (omega (arith, lt)) e)

at_end : (f : Outline) (t : ℕ) (uses next : List ℕ) → (is_live f t [] uses next ≡ true) ↔ (Contains uses t ⊎ IsLiveAtOne f t next)
at_end f t uses next = (
  λ e. elim (or_cases (has t uses) (list_any (is_live_in f t) next) e) [ inl h ↦ inl (stands t uses h) | inr h ↦ inr (at_one f t next h) ],
  λ h. elim h [
    | inl c ↦ or_left (has t uses) (list_any (is_live_in f t) next) (listed t uses c)
    | inr l ↦ or_right (has t uses) (list_any (is_live_in f t) next) (one_at f t next l)
  ],
)

pub end_marks : (f : Outline) (uses next : List ℕ) (Last Used Back Old : ℕ → ℕ → Type 0) (Open : ℕ → Type 0) (here : ℕ)
    → ((u : ℕ) → ¬ Open u)
    → ((u q : ℕ) → Back u q ↔ (Old u q ⊎ (Open u × (q ≡ here))))
    → ((u q : ℕ) → Used u q ↔ (Back u q ⊎ (Contains uses u × (q ≡ here))))
    → ((u q : ℕ) → Last u q ↔ (Used u q ⊎ (IsLiveAtOne f u next × (q ≡ here))))
    → (u q : ℕ) → Last u q ↔ (Old u q ⊎ ((is_live f u [] uses next ≡ true) × (q ≡ here)))
end_marks f uses next Last Used Back Old Open here shut back used last u q = (
  λ h. elim ((last u q).0 h) [
    | inl c ↦ elim ((used u q).0 c) [
      | inl b ↦ elim ((back u q).0 b) [ inl o ↦ inl o | inr o ↦ absurd (shut u o.0) ]
      | inr b ↦ inr ((at_end f u uses next).1 (inl b.0), b.1)
    ]
    | inr c ↦ inr ((at_end f u uses next).1 (inr c.0), c.1)
  ],
  λ h. elim h [
    | inl o ↦ (last u q).1 (inl ((used u q).1 (inl ((back u q).1 (inl o)))))
    | inr l ↦ elim ((at_end f u uses next).0 l.0) [
      | inl c ↦ (last u q).1 (inl ((used u q).1 (inr (c, l.1))))
      | inr c ↦ (last u q).1 (inr (c, l.1))
    ]
  ],
)

pub end_opens : (f : Outline) (uses next : List ℕ) (Last Used Back Open : ℕ → Type 0)
    → ((u : ℕ) → ¬ Open u)
    → ((u : ℕ) → Back u ↔ Open u)
    → ((u : ℕ) → Used u ↔ (Back u ⊎ Contains uses u))
    → ((u : ℕ) → Last u ↔ (Used u ⊎ IsLiveAtOne f u next))
    → (u : ℕ) → Last u ↔ (is_live f u [] uses next ≡ true)
end_opens f uses next Last Used Back Open shut back used last u = (
  λ h. (at_end f u uses next).1 (elim ((last u).0 h) [
    | inl c ↦ elim ((used u).0 c) [ inl b ↦ absurd (shut u ((back u).0 b)) | inr b ↦ inl b ]
    | inr c ↦ inr c
  ]),
  λ e. (last u).1 (elim ((at_end f u uses next).0 e) [ inl c ↦ inl ((used u).1 (inr c)) | inr c ↦ inr c ]),
)

-- ---- fronts of blocks

pub fronts_more : (f : Outline) (v : Fronts) (next live : List ℕ) (k b u : ℕ) → AreFronts f v → k < length next → get_or next k b ≡ b → b < length f.blocks
    → (Contains live u ↔ IsLiveAt v b u)
    → IsLiveAtOne f u (take (k + 1) next) ↔ (IsLiveAtOne f u (take k next) ⊎ Contains live u)
fronts_more f v next live k b u fronts lt is within lives =
    let one = fronts.live b u within in (
      λ h. elim ((first_more next k b h.0 lt is).0 h.1) [
        | inl c ↦ inl (h.0, c, h.2)
        | inr same ↦ inr (lives.1 (one.1 (ap (is_live_in f u) (sym same) ∙ h.2)))
      ],
      λ h. elim h [
        | inl o ↦ (o.0, (first_more next k b o.0 lt is).1 (inl o.1), o.2)
        | inr c ↦ (b, (first_more next k b b lt is).1 (inr refl), one.0 (lives.0 c))
      ],
    )

pub fronts_none : (f : Outline) (next : List ℕ) (u : ℕ) → ¬ IsLiveAtOne f u (take 0 next)
fronts_none f next u h = first_none next h.0 h.1

pub fronts_all : (f : Outline) (next : List ℕ) (k u : ℕ) → length next ≤ k → IsLiveAtOne f u (take k next) ↔ IsLiveAtOne f u next
fronts_all f next k u le = (λ h. (h.0, (first_all next k h.0 le).0 h.1, h.2), λ h. (h.0, (first_all next k h.0 le).1 h.1, h.2))

-- what is live at a front is a temporary of the function
pub live_within : (f : Outline) (v : Fronts) (live : List ℕ) (b n : ℕ) → AreFronts f v → n ≡ f.temps → ((t : ℕ) → Contains live t ↔ IsLiveAt v b t) → All (λ t. t < n) live
live_within f v live b n fronts same lives = λ k d lt.
    let t = get_or live k d in
    let at = (lives t).0 (Contains-get_or live k d lt) in
    let low = slice_get_within v.exposed.numbers.items t (Some at.number) at.is in
    let long = fronts.temps in
    let size = v.exposed.numbers.ok.0 in
    omega (arith, low, long, size, same)

-- ---- lawful outlines

each_at : {X : Type 0} (P : X → Type 0) (xs : List X) (k : ℕ) (x : X) → AllByRecursion P xs → slice_get xs k ≡ Some x → P x
each_at P [] k x all e = absurd cc
each_at P (y ∷ ys) zero x all e = subst P (same_Some y x e) all.0
each_at P (y ∷ ys) (suc k) x all e = each_at P ys k x all.1 e

pub stretch_at : (f : Outline) → IsOutline f → (b : ℕ) (s : Stretch) → slice_get f.blocks b ≡ Some s → IsStretch f.temps (length f.blocks) s
stretch_at f lawful b s is = each_at (IsStretch f.temps (length f.blocks)) f.blocks b s lawful.blocks is

pub act_at : (f : Outline) (s : Stretch) (n k : ℕ) (a : Act) → IsStretch f.temps (length f.blocks) s → n ≡ f.temps → slice_get s.acts k ≡ Some a → IsAct n a
act_at f s n k a lawful same is = subst (λ (temps : ℕ). IsAct temps a) (sym same) (each_at (IsAct f.temps) s.acts k a lawful.acts is)

-- what is live at the front of a block is live before all that stands in it
pub front_lives : (f : Outline) (v : Fronts) (live : List ℕ) (b u : ℕ) (s : Stretch) → AreFronts f v → b < length f.blocks → is_live_in f u b ≡ is_live f u s.acts s.uses s.next
    → (Contains live u ↔ IsLiveAt v b u) → Contains live u ↔ (is_live f u s.acts s.uses s.next ≡ true)
front_lives f v live b u s fronts lt point lives =
    let one = fronts.live b u lt in
    (λ h. sym point ∙ one.0 (lives.0 h), λ e. lives.1 (one.1 (point ∙ e)))
