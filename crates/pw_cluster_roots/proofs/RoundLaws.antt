-- What a round keeps, and where no function is ready.
use Rattle.std.specs.Prelude.{ℕ, ◌≡◌, ◌<◌, ◌+◌, ◌⊎◌, ◌↔◌, ◌/◌, ◌%◌, ◌==◌, ◌-◌, ◌≤◌, Bool, true, false, Some, List, length, slice_get, slice_index, slice_set, Contains}
use Rattle.std.proofs.Common.{arith, refl, sym, ap, subst, ◌∙◌, inl, inr}
use Rattle.std.specs.Bool.{OnTrue, OnFalse}
use Rattle.std.specs.Int.{bit_at}
use Rattle.std.specs.List.{range_with_len}
use Rattle.std.proofs.lemmas.List.FromFn.{length-range_with_len, get_or-range_with_len}
use Rattle.std.proofs.lemmas.Bool.{cases_eq, cases_lt, eqb-true, eq-eqb}
use Rattle.std.proofs.lemmas.Option.{same_Some, slice_get_within}
use Rattle.std.proofs.lemmas.List.{get_or-set_same, get_or-set_other, length-set}
use Rattle.pw_fix.specs.Row.{Holds, member_count}
use Rattle.pw_fix.specs.RowLaws.{members_fit}
use Rattle.pw_fix.specs.declared.bit_row.BitRow.{BitRow}
use Rattle.pw_graph.specs.declared.graph.CallGraph.{CallGraph}
use Rattle.pw_graph.specs.CallGraph.{Calls, Path}
use Rattle.pw_graph.proofs.Members.{held_within, more_members}
use Rattle.pw_webs.specs.Walking.{Leads}
use Rattle.pw_clusters.specs.Clusters.{HaveRoot}
use Rattle.pw_cluster_roots.specs.Rounds.{HaveAll, IsRootBy, AreRootsAmong, MayBeInner, AreSettled, NoneReady}

pub held_or_not : (row : BitRow) (f : ℕ) → Holds row f ⊎ (Holds row f → ⊥)
held_or_not row f = cases_eq (bit_at (slice_index row.words.items (f / 64)) (f % 64)) 1

-- ---- a function is settled

-- the row of a function has those that call it
pub row_calls : (g : CallGraph) (callers : List (List ℕ)) (f : ℕ) (row : List ℕ) → ((a b : ℕ) → Leads callers a b ↔ Calls g b a) → slice_get callers f ≡ Some row → (c : ℕ) → Contains row c ↔ Calls g c f
row_calls g callers f row calls there c = (
  λ h. (calls f c).0 (record { row = row; at = there; stands = h }),
  λ k. let leads = (calls f c).1 k in subst (λ (l : List ℕ). Contains l c) (same_Some leads.row row (sym leads.at ∙ there)) leads.stands,
)

pub caller_below : (g : CallGraph) (c f : ℕ) → length g.calls ≡ length g.functions → Calls g c f → c < length g.functions
caller_below g c f rows calls = let lt = slice_get_within g.calls c calls.row calls.at in omega (arith, lt, rows)

module _ (g : CallGraph) (inner : BitRow) where
  one_settled : (old new : BitRow) (roots : List ℕ) (row : List ℕ) (place root : ℕ) → AreSettled g inner old roots → place < length g.functions → new.len ≡ old.len
      → ((c : ℕ) → Contains row c ↔ Calls g c place) → ((f : ℕ) → Holds inner f → (c : ℕ) × Calls g c f) → (Holds old place → ⊥) → ((c : ℕ) → Contains row c → Holds old c)
      → ((k : ℕ) → Holds new k ↔ ((k ≡ place) ⊎ Holds old k)) → IsRootBy roots row place root → AreSettled g inner new (slice_set roots place root)
  one_settled old new roots row place root s lt width callers called unsettled ready now by = record {
    each = length-set roots place (root) ∙ s.each;
    width = width ∙ s.width;
    outer = λ f lt out. (now f).1 (inr (s.outer f lt out));
    callers = λ f c h i calls. (now c).1 (inr (elim ((now f).0 h) [
      | inl here ↦ ready_for here c calls
      | inr before ↦ s.callers f c before i calls
    ]));
    of_callers = λ f r h i have. elim ((now f).0 h) [
      | inl here ↦ at_place here ∙ root_here r (subst (Holds inner) here i) (λ c k. sym (kept c (ready c k)) ∙ have c (to_f here ((callers c).0 k)))
      | inr before ↦ kept f before ∙ s.of_callers f r before i (λ c calls. sym (kept c (s.callers f c before i calls)) ∙ have c calls)
    ];
    itself = λ f h none. elim ((now f).0 h) [
      | inl here ↦ at_place here ∙ itself_here (λ r i have. none r (subst (Holds inner) (sym here) i) (λ c calls. have c (subst (Calls g c) here calls))) ∙ sym here
      | inr before ↦ kept f before ∙ s.itself f before (λ r i have. none r i (λ c calls. kept c (s.callers f c before i calls) ∙ have c calls))
    ];
  } where
    after : List ℕ
    after = slice_set roots place (root)

    -- what was settled is elsewhere, and keeps its root
    kept : (c : ℕ) → Holds old c → slice_index (slice_set roots place root) c ≡ slice_index roots c
    kept c h = get_or-set_other roots place c (root) 0 (λ same. unsettled (subst (Holds old) same h))

    at_place : {f : ℕ} → f ≡ place → slice_index (slice_set roots place root) f ≡ root
    at_place {f} here =
        let count = s.each in
        ap (slice_index (slice_set roots place root)) here ∙ get_or-set_same roots place (root) 0 (omega (arith, lt, count))

    to_f : {f c : ℕ} → f ≡ place → Calls g c place → Calls g c f
    to_f {f} {c} here calls = subst (Calls g c) (sym here) calls

    ready_for : {f : ℕ} → f ≡ place → (c : ℕ) → Calls g c f → Holds old c
    ready_for {f} here c calls = ready c ((callers c).1 (subst (Calls g c) here calls))

    root_here : (r : ℕ) → Holds inner place → HaveAll roots row r → root ≡ r
    root_here r i have = let k = called place i in by.of_callers r k.0 ((callers k.0).1 k.1) have

    -- it is inner, since it was not settled from the start
    is_inner : Holds inner place
    is_inner = elim (held_or_not inner place) [ inl i ↦ i | inr out ↦ absurd (unsettled (s.outer place lt out)) ]

    itself_here : ((r : ℕ) → Holds inner place → ((c : ℕ) → Calls g c place → slice_index (slice_set roots place root) c ≡ r) → ⊥) → root ≡ place
    itself_here none =
        by.itself (λ r have. none r is_inner (λ c calls. kept c (ready c ((callers c).1 calls)) ∙ have c ((callers c).1 calls)))

  -- ---- a round

  -- what a round keeps up to a place, where it began with some that were settled
  pub record IsRound (first settled : BitRow) (roots : List ℕ) (added : Bool) (place : ℕ) : Type 0 where
    pub are : AreSettled g inner settled roots
    pub more : (f : ℕ) → Holds first f → Holds settled f
    pub added_one : OnTrue added ((f : ℕ) × Holds settled f × ¬ Holds first f)
    pub none : OnFalse added ((f : ℕ) → f < place → ((c : ℕ) → Calls g c f → Holds settled c) → Holds settled f)

  pub begun : (first : BitRow) (roots : List ℕ) → AreSettled g inner first roots → IsRound first first roots false 0
  begun first roots are = record { are = are; more = λ f h. h; added_one = tt; none = λ f lt. absurd (omega (arith, lt)) }

  -- a function that a step settles
  pub round_more : (first settled new : BitRow) (roots news : List ℕ) (added next : Bool) (place root : ℕ) (row : List ℕ) → place < length g.functions → new.len ≡ settled.len → ((c : ℕ) → Contains row c ↔ Calls g c place)
      → ((f : ℕ) → Holds inner f → (c : ℕ) × Calls g c f) → IsRound first settled roots added place → next ≡ true → (Holds settled place → ⊥) → ((c : ℕ) → Contains row c → Holds settled c)
      → ((k : ℕ) → Holds new k ↔ ((k ≡ place) ⊎ Holds settled k)) → IsRootBy roots row place root → news ≡ slice_set roots place root → IsRound first new news next (place + 1)
  round_more first settled new roots news added next place root row lt width callers called k is unsettled ready now by written = record {
    are = subst (AreSettled g inner new) (sym written) (one_settled settled new roots row place root k.are lt width callers called unsettled ready now by);
    more = λ f h. (now f).1 (inr (k.more f h));
    added_one = subst (λ (b : Bool). OnTrue b ((f : ℕ) × Holds new f × ¬ Holds first f)) (sym is) (place, (now place).1 (inl refl), λ h. unsettled (k.more place h));
    none = subst (λ (b : Bool). OnFalse b ((f : ℕ) → f < place + 1 → ((c : ℕ) → Calls g c f → Holds new c) → Holds new f)) (sym is) tt;
  }

  kept_none : (settled : BitRow) (b : Bool) (place : ℕ) → (((c : ℕ) → Calls g c place → Holds settled c) → Holds settled place)
      → OnFalse b ((f : ℕ) → f < place → ((c : ℕ) → Calls g c f → Holds settled c) → Holds settled f) → OnFalse b ((f : ℕ) → f < place + 1 → ((c : ℕ) → Calls g c f → Holds settled c) → Holds settled f)
  kept_none settled true place back k = tt
  kept_none settled false place back k = λ f lt ready. elim (cases_eq f place) [
    | inl here ↦ subst (Holds settled) (sym here) (back (λ c calls. ready c (subst (Calls g c) (sym here) calls)))
    | inr other ↦ k f (below f lt other) ready
  ] where
    below : (f : ℕ) → f < place + 1 → (f ≡ place → ⊥) → f < place
    below f lt other = elim (cases_lt f place) [ inl lt ↦ lt | inr ge ↦ absurd (other (omega (arith, lt, ge))) ]

  -- one that it leaves
  pub round_same : (first settled new : BitRow) (roots news : List ℕ) (added next : Bool) (place : ℕ) (row : List ℕ) → ((c : ℕ) → Contains row c ↔ Calls g c place) → IsRound first settled roots added place → next ≡ added
      → new ≡ settled → news ≡ roots → (((c : ℕ) → Contains row c → Holds settled c) → Holds settled place) → IsRound first new news next (place + 1)
  round_same first settled new roots news added next place row callers k is same_settled same_roots back =
      subst (λ (s : BitRow). IsRound first s news next (place + 1)) (sym same_settled)
      (subst (λ (rs : List ℕ). IsRound first settled rs next (place + 1)) (sym same_roots)
      (subst (λ (b : Bool). IsRound first settled roots b (place + 1)) (sym is) (record {
        are = k.are;
        more = k.more;
        added_one = k.added_one;
        none = kept_none settled added place (λ ready. back (λ c h. ready c ((callers c).0 h))) k.none;
      })))

  pub none_ready : (first settled : BitRow) (roots : List ℕ) (added : Bool) (place : ℕ) → length g.functions ≤ place → IsRound first settled roots added place → OnFalse added (NoneReady g settled)
  none_ready first settled roots true place past k = tt
  none_ready first settled roots false place past k = λ f lt ready. k.none f (omega (arith, lt, past)) ready

  -- at the start all others are settled, each with itself
  pub started : (settled : BitRow) (roots : List ℕ) → roots ≡ range_with_len 0 (length g.functions) → inner.len ≡ length g.functions → settled.len ≡ inner.len → ((f : ℕ) → Holds settled f ↔ ((f < inner.len) × (Holds inner f → ⊥)))
      → AreSettled g inner settled roots
  started settled roots same width all holds = record {
    each = ap (λ (rs : List ℕ). length rs) same ∙ length-range_with_len 0 (length g.functions);
    width = all ∙ width;
    outer = λ f lt out. (holds f).1 (omega (arith, lt, width), out);
    callers = λ f c h i calls. absurd (((holds f).0 h).1 i);
    of_callers = λ f r h i have. absurd (((holds f).0 h).1 i);
    itself = λ f h none. let lt = ((holds f).0 h).0 in ap (λ (rs : List ℕ). slice_index rs f) same ∙ get_or-range_with_len 0 (length g.functions) f 0 (omega (arith, lt, width)) ∙ omega arith;
  }

  -- ---- the end

  -- where nothing more is ready, all are settled: else one came to call itself
  abbrev pub HoldsEverywhere : (ℕ → Type 0) → Type 0
  HoldsEverywhere P =
      ((f : ℕ) → f < length g.functions → P f ⊎ (Path g f f → ⊥)) → ((f : ℕ) → f < length g.functions → ((c : ℕ) → Calls g c f → P c) → P f) → (f : ℕ) → f < length g.functions → P f

  pub all_settled : (settled : BitRow) (roots : List ℕ) → HoldsEverywhere (Holds settled) → MayBeInner g inner → AreSettled g inner settled roots → NoneReady g settled → (f : ℕ) → f < length g.functions → Holds settled f
  all_settled settled roots everywhere may s none = everywhere once none where
    once : (f : ℕ) → f < length g.functions → Holds settled f ⊎ (Path g f f → ⊥)
    once f lt = elim (held_or_not inner f) [ inl i ↦ inr (may.once f i) | inr out ↦ inl (s.outer f lt out) ]

  pub roots_found : (settled : BitRow) (roots : List ℕ) → HoldsEverywhere (Holds settled) → MayBeInner g inner → AreSettled g inner settled roots → NoneReady g settled → AreRootsAmong g inner roots
  roots_found settled roots everywhere may s none =
      let all = all_settled settled roots everywhere may s none in
      record {
        each = s.each;
        of_callers = λ f r i have. let lt = held_within inner f i in let width = may.width in s.of_callers f r (all f (omega (arith, lt, width))) i have;
        itself = λ f lt out. s.itself f (all f lt) out;
      }

-- where one is settled more, fewer are left
pub fewer : (old new : BitRow) → new.len ≡ old.len → ((f : ℕ) → Holds old f → Holds new f) → (k : ℕ) × Holds new k × (Holds old k → ⊥) → new.len - member_count new < old.len - member_count old
fewer old new width more added =
    let one : member_count old < member_count new = more_members old new added.0 (sym width) more added.1 added.2 in
    let fit : member_count new ≤ new.len = members_fit new.len new refl in
    omega (arith, one, fit, width)

-- the same said of flags
abbrev pub FlagsEverywhere : CallGraph → Type 0
FlagsEverywhere g =
    (holds : ℕ → Bool) → length g.calls ≡ length g.functions → ((f : ℕ) → f < length g.functions → (holds f ≡ true) ⊎ (Path g f f → ⊥))
    → ((f : ℕ) → f < length g.functions → ((c : ℕ) → Calls g c f → holds c ≡ true) → holds f ≡ true) → (f : ℕ) → f < length g.functions → holds f ≡ true

abbrev bit_of : BitRow → ℕ → ℕ
bit_of row f = bit_at (slice_index row.words.items (f / 64)) (f % 64)

pub holds_everywhere : (g : CallGraph) (inner settled : BitRow) → length g.calls ≡ length g.functions → FlagsEverywhere g → HoldsEverywhere g inner (Holds settled)
holds_everywhere g inner settled rows law once from f lt =
    eqb-true (bit_of settled f) 1
    (law (λ q. bit_of settled q == 1) rows (λ q h. elim (once q h) [ inl k ↦ inl (eq-eqb (bit_of settled q) 1 k) | inr k ↦ inr k ])
    (λ q h all. eq-eqb (bit_of settled q) 1 (from q h (λ c calls. eqb-true (bit_of settled c) 1 (all c calls)))) f lt)
