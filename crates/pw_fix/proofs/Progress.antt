-- What the solver keeps true from one node to the next, as lemmas over lists.
use Rattle.std.proofs.Common.{◌≡◌, ℕ, ◌<◌, List, length, Some, sym, ap, subst, inl, inr, ◌⊎◌, set, ◌∙◌, refl}
use Rattle.std.specs.Prelude.{slice_get}
use Rattle.std.proofs.lemmas.Bool.{cases_eq}
use Rattle.std.proofs.lemmas.Option.{slice_get_within, same_Some}
use Rattle.std.proofs.Math.ListN.{length-set}
use Rattle.pw_fix.specs.Order.{IsPreorder, IsLeast, IsJoin}
use Rattle.pw_fix.specs.Solution.{IsStep, HasEdge, IsAbovePredecessors, IsSolution, IsLeastSolution, into, value_of, Derivable, least, flows, steps, joins}
use Rattle.pw_fix.specs.Spread.{IsSpread}
use Rattle.pw_fix.proofs.Places.{at_index, set_cases}
use Rattle.pw_fix.proofs.Derivations.{IsMonotone, derivable_own, derivable_bounded, derivable_at_most}

module _ {E : Type 0} (is_own : E → Type 0) (is_below : E → E → Type 0) (gives : ℕ → E → E → Type 0) (edges : List (ℕ × ℕ)) (nodes : ℕ) where
  -- x is at least the step of something that is as high as y
  pub record IsSettled (n : ℕ) (y x : E) : Type 0 where
    pub inflow : E
    pub outflow : E
    pub own_inflow : is_own inflow
    pub own_outflow : is_own outflow
    pub up : is_below y inflow
    pub down : is_below inflow y
    pub given : gives n inflow outflow
    pub at_least : is_below outflow x

  -- what holds between two nodes: what flowed into each node is the join of its predecessors' values, and what does not
  -- wait is settled
  pub record IsProgress (values inflows : List E) (waits : ℕ → Type 0) : Type 0 where
    pub each_value : length values ≡ nodes
    pub each_inflow : length inflows ≡ nodes
    pub value_derivable : (n : ℕ) (x : E) → slice_get values n ≡ Some x → Derivable is_own is_below gives edges (value_of n) x
    pub inflow_derivable : (n : ℕ) (y : E) → slice_get inflows n ≡ Some y → Derivable is_own is_below gives edges (into n) y
    pub covers : (m n : ℕ) (x y : E) → HasEdge edges m n → slice_get values m ≡ Some x → slice_get inflows n ≡ Some y → is_below x y
    pub lowest : (n : ℕ) (y z : E) → slice_get inflows n ≡ Some y → is_own z → IsAbovePredecessors is_below edges values n z → is_below y z
    pub settled : (n : ℕ) (x y : E) → slice_get values n ≡ Some x → slice_get inflows n ≡ Some y → waits n ⊎ IsSettled n y x

module _ {E : Type 0} (is_own : E → Type 0) (is_below : E → E → Type 0) (gives : ℕ → E → E → Type 0) (edges : List (ℕ × ℕ)) (nodes : ℕ) (order : IsPreorder is_own is_below) where
  -- at the start each node has the least element, and waits
  pub starts : (values inflows : List E) (waits : ℕ → Type 0) → length values ≡ nodes → length inflows ≡ nodes
      → ((n : ℕ) (x : E) → slice_get values n ≡ Some x → IsLeast is_own is_below x)
      → ((n : ℕ) (x : E) → slice_get inflows n ≡ Some x → IsLeast is_own is_below x)
      → ((n : ℕ) → n < nodes → waits n) → IsProgress is_own is_below gives edges nodes values inflows waits
  starts values inflows waits vs is lv li all = record {
    each_value = vs;
    each_inflow = is;
    value_derivable = λ n x e. least (value_of n) x (lv n x e);
    inflow_derivable = λ n y e. least (into n) y (li n y e);
    covers = λ m n x y _ ex ey. (lv m x ex).least y (li n y ey).own;
    lowest = λ n y z e o _. (li n y e).least z o;
    settled = λ n x y ex _. inl (all n (let here : n < length values = slice_get_within values n x ex in rw vs at here));
  }

  module _ (values inflows : List E) (waits : ℕ → Type 0) (p : IsProgress is_own is_below gives edges nodes values inflows waits)
      (n : ℕ) (x y out x' : E) (ex : slice_get values n ≡ Some x) (ey : slice_get inflows n ≡ Some y) (own_out : is_own out) (given : gives n y out) (joined : IsJoin is_own is_below x out x') where
    own_x : is_own x
    own_x = derivable_own is_own is_below gives edges (p.value_derivable n x ex)

    own_y : is_own y
    own_y = derivable_own is_own is_below gives edges (p.inflow_derivable n y ey)

    -- the new value of n is derived too
    derived : Derivable is_own is_below gives edges (value_of n) x'
    derived = joins (value_of n) x out x' (p.value_derivable n x ex) (steps n y out (p.inflow_derivable n y ey) own_out given) joined

    new_derivable : (m : ℕ) (v : E) → slice_get (set values n x') m ≡ Some v → Derivable is_own is_below gives edges (value_of m) v
    new_derivable m v e = elim (set_cases values n m x' v e) [
      | inl w ↦ rw (w.0, w.1) derived
      | inr w ↦ p.value_derivable m v w.1
    ]

    -- no value falls
    grown : (m : ℕ) (u : E) → slice_get values m ≡ Some u → (v : E) × (slice_get (set values n x') m ≡ Some v) × is_below u v
    grown m u e =
        let there : m < length (set values n x') = rw (length-set values n x') (slice_get_within values m u e) in
        let found : (v : E) × (slice_get (set values n x') m ≡ Some v) = at_index (set values n x') m there in (
          found.0,
          found.1,
          elim (set_cases values n m x' found.0 found.1) [
            | inl w ↦ let old : slice_get values n ≡ Some u = subst (λ k. slice_get values k ≡ Some u) w.0 e in
                let same : x ≡ u = same_Some x u (sym ex ∙ old) in
                rw (w.1, ← same) joined.above_first
            | inr w ↦ let same : u ≡ found.0 = same_Some u found.0 (sym e ∙ w.1) in
                rw (← same) (order.reflexive u (derivable_own is_own is_below gives edges (p.value_derivable m u e)))
          ],
        )

    -- what is above the new values of n's predecessors is above the old ones
    above_old : (s : ℕ) (z : E) → is_own z → IsAbovePredecessors is_below edges (set values n x') s z → IsAbovePredecessors is_below edges values s z
    above_old s z oz above m u e eu =
        let g : (v : E) × (slice_get (set values n x') m ≡ Some v) × is_below u v = grown m u eu in
        order.transitive u g.0 z (derivable_own is_own is_below gives edges (p.value_derivable m u eu)) (derivable_own is_own is_below gives edges (new_derivable m g.0 g.1)) oz g.2 (above m g.0 e g.1)

    -- a value that has not risen need not flow on
    pub unspread : is_below x' x → (W : Type 0) (s : ℕ) (u z : E) → slice_get inflows s ≡ Some u → slice_get inflows s ≡ Some z → IsSpread is_own is_below (HasEdge edges n s) x' u z W
    unspread low W s u z eu ez =
        let same : z ≡ u = same_Some z u (sym ez ∙ eu) in
        let own_u : is_own u = derivable_own is_own is_below gives edges (p.inflow_derivable s u eu) in
        record {
          outcome = inl same;
          covers = λ edge. rw same (order.transitive x' x u joined.own own_x own_u low (p.covers n s x u edge ex eu));
          waiting = inr (rw same (order.reflexive u own_u));
        }

    module _ (inflows' : List E) (waits' : ℕ → Type 0) (same_length : length inflows' ≡ length inflows)
        (spread : (s : ℕ) (y z : E) → slice_get inflows s ≡ Some y → slice_get inflows' s ≡ Some z → IsSpread is_own is_below (HasEdge edges n s) x' y z (waits' s))
        (kept : (m : ℕ) → waits m → (m ≡ n) ⊎ waits' m) where
      -- the inflow that was there before
      before : (s : ℕ) (z : E) → slice_get inflows' s ≡ Some z → (u : E) × (slice_get inflows s ≡ Some u)
      before s z e = at_index inflows s (let h : s < length inflows' = slice_get_within inflows' s z e in rw same_length at h)

      flow_derivable : (s : ℕ) (z : E) → slice_get inflows' s ≡ Some z → Derivable is_own is_below gives edges (into s) z
      flow_derivable s z e =
          let b : (u : E) × (slice_get inflows s ≡ Some u) = before s z e in
          let old : Derivable is_own is_below gives edges (into s) b.0 = p.inflow_derivable s b.0 b.1 in
          elim (spread s b.0 z b.1 e).outcome [
            | inl same ↦ rw same old
            | inr w ↦ joins (into s) b.0 x' z old (flows n s x' w.0 derived) w.1
          ]

      -- no inflow falls
      raised : (s : ℕ) (u z : E) → slice_get inflows s ≡ Some u → slice_get inflows' s ≡ Some z → is_below u z
      raised s u z eu ez = elim (spread s u z eu ez).outcome [
        | inl same ↦ rw same (order.reflexive u (derivable_own is_own is_below gives edges (p.inflow_derivable s u eu)))
        | inr w ↦ w.1.above_first
      ]

      own_flow : (s : ℕ) (u : E) → slice_get inflows s ≡ Some u → is_own u
      own_flow s u e = derivable_own is_own is_below gives edges (p.inflow_derivable s u e)

      own_flow' : (s : ℕ) (z : E) → slice_get inflows' s ≡ Some z → is_own z
      own_flow' s z e = derivable_own is_own is_below gives edges (flow_derivable s z e)

      still_covers : (m s : ℕ) (v z : E) → HasEdge edges m s → slice_get (set values n x') m ≡ Some v → slice_get inflows' s ≡ Some z → is_below v z
      still_covers m s v z e ev ez =
          let b : (u : E) × (slice_get inflows s ≡ Some u) = before s z ez in
          elim (set_cases values n m x' v ev) [
            | inl w ↦ rw w.1 ((spread s b.0 z b.1 ez).covers (rw w.0 at e))
            | inr w ↦ order.transitive v b.0 z (derivable_own is_own is_below gives edges (new_derivable m v ev)) (own_flow s b.0 b.1) (own_flow' s z ez) (p.covers m s v b.0 e w.1 b.1) (raised s b.0 z b.1 ez)
          ]

      still_lowest : (s : ℕ) (z w : E) → slice_get inflows' s ≡ Some z → is_own w → IsAbovePredecessors is_below edges (set values n x') s w → is_below z w
      still_lowest s z w ez ow above =
          let b : (u : E) × (slice_get inflows s ≡ Some u) = before s z ez in
          let low : is_below b.0 w = p.lowest s b.0 w b.1 ow (above_old s w ow above) in
          let here : slice_get (set values n x') n ≡ Some x' =
          let found : (v : E) × (slice_get (set values n x') n ≡ Some v) × is_below x v = grown n x ex in
          elim (set_cases values n n x' found.0 found.1) [
            | inl k ↦ found.1 ∙ ap Some k.1
            | inr k ↦ absurd (k.0 refl)
          ] in
          elim (spread s b.0 z b.1 ez).outcome [
            | inl same ↦ rw same low
            | inr k ↦ k.1.least w ow low (above n x' k.0 here)
          ]

      still_settled : (s : ℕ) (v z : E) → slice_get (set values n x') s ≡ Some v → slice_get inflows' s ≡ Some z → waits' s ⊎ IsSettled is_own is_below gives edges nodes s z v
      still_settled s v z ev ez =
          let b : (u : E) × (slice_get inflows s ≡ Some u) = before s z ez in
          let up : is_below b.0 z = raised s b.0 z b.1 ez in
          let ou : is_own b.0 = own_flow s b.0 b.1 in
          let oz : is_own z = own_flow' s z ez in
          elim (spread s b.0 z b.1 ez).waiting [
            | inl waiting ↦ inl waiting
            | inr down ↦ elim (cases_eq s n) [
              | inl same ↦ inr (
                  let was : slice_get inflows n ≡ Some b.0 = subst (λ k. slice_get inflows k ≡ Some b.0) same b.1 in
                  let flow : y ≡ b.0 = same_Some y b.0 (sym ey ∙ was) in
                  let value : v ≡ x' = elim (set_cases values n s x' v ev) [ inl k ↦ k.1 | inr k ↦ absurd (k.0 same) ] in
                  record {
                    inflow = y;
                    outflow = out;
                    own_inflow = own_y;
                    own_outflow = own_out;
                    up = rw flow down;
                    down = rw flow up;
                    given = rw same given;
                    at_least = rw value joined.above_second;
                  })
              | inr other ↦ elim (set_cases values n s x' v ev) [
                | inl k ↦ absurd (other k.0)
                | inr k ↦ elim (p.settled s v b.0 k.1 b.1) [
                  | inl waiting ↦ elim (kept s waiting) [ inl same ↦ absurd (other same) | inr still ↦ inl still ]
                  | inr done ↦ inr (record {
                    inflow = done.inflow;
                    outflow = done.outflow;
                    own_inflow = done.own_inflow;
                    own_outflow = done.own_outflow;
                    up = order.transitive z b.0 done.inflow oz ou done.own_inflow down done.up;
                    down = order.transitive done.inflow b.0 z done.own_inflow ou oz done.down up;
                    given = done.given;
                    at_least = done.at_least;
                  })
                ]
              ]
            ]
          ]

      -- a node that is taken, given its value, and whose value flows on keeps all that
      pub advances : IsProgress is_own is_below gives edges nodes (set values n x') inflows' waits'
      advances = record {
        each_value = length-set values n x' ∙ p.each_value;
        each_inflow = same_length ∙ p.each_inflow;
        value_derivable = new_derivable;
        inflow_derivable = flow_derivable;
        covers = still_covers;
        lowest = still_lowest;
        settled = still_settled;
      }

  -- where nothing waits the values are the least solution
  pub finishes : IsMonotone is_own is_below gives nodes → ((m n : ℕ) → HasEdge edges m n → m < nodes) → (values inflows : List E) (waits : ℕ → Type 0) → IsProgress is_own is_below gives edges nodes values inflows waits → ((n : ℕ) → waits n → ⊥) → IsLeastSolution is_own is_below gives nodes edges values
  finishes monotone within values inflows waits p none =
      let solves : IsSolution is_own is_below gives nodes edges values = record {
        each_node = p.each_value;
        own = λ n x e. derivable_own is_own is_below gives edges (p.value_derivable n x e);
        at_least_step = λ n x e.
            let there : n < length inflows = let h : n < length values = slice_get_within values n x e in rw p.each_inflow (rw p.each_value at h) in
            let f : (y : E) × (slice_get inflows n ≡ Some y) = at_index inflows n there in
            let oy : is_own f.0 = derivable_own is_own is_below gives edges (p.inflow_derivable n f.0 f.1) in
            elim (p.settled n x f.0 e f.1) [
              | inl w ↦ absurd (none n w)
              | inr s ↦ (
                s.outflow,
                record {
                  inflow = s.inflow;
                  joined = record {
                    own = s.own_inflow;
                    above = λ m u edge eu. order.transitive u f.0 s.inflow (derivable_own is_own is_below gives edges (p.value_derivable m u eu)) oy s.own_inflow (p.covers m n u f.0 edge eu f.1) s.up;
                    least = λ z oz above. order.transitive s.inflow f.0 z s.own_inflow oy oz s.down (p.lowest n f.0 z f.1 oz above);
                  };
                  own = s.own_outflow;
                  given = s.given;
                },
                s.at_least,
              )
            ];
      } in
      record {
        solution = solves;
        least = λ others solution n x y ex ey. derivable_bounded is_own is_below gives edges nodes order monotone within others solution (p.value_derivable n x ex) y ey;
        at_most_step = λ n x e.
            let s : (z : E) × IsStep is_own is_below gives edges values n z × is_below z x = solves.at_least_step n x e in
            let made : IsStep is_own is_below gives edges values n s.0 = s.1 in
            let here : n < nodes = let h : n < length values = slice_get_within values n x e in rw p.each_value at h in
            (s.0, made, derivable_at_most is_own is_below gives edges nodes order monotone within values solves (p.value_derivable n x e) made.inflow s.0 here made.joined made.own made.given);
      }
