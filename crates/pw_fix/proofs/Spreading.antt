-- What has flowed on after one successor more.
use Rattle.std.proofs.Common.{◌≡◌, ℕ, ◌+◌, ◌-◌, ◌<◌, ◌≤◌, List, length, arith, inl, inr, ◌⊎◌, get_or, set}
use Rattle.std.proofs.lemmas.List.Sums.{sum_by-set}
use Rattle.pw_fix.specs.Order.{IsPreorder, IsJoin}
use Rattle.pw_fix.specs.Spread.{IsSpread, room}

module _ {E : Type 0} (is_own : E → Type 0) (is_below : E → E → Type 0) (order : IsPreorder is_own is_below) where
  -- to join x twice is to join it once
  joins_again : (x y u z : E) → is_own x → is_own y → is_own u → IsJoin is_own is_below y x u → IsJoin is_own is_below u x z → IsJoin is_own is_below y x z
  joins_again x y u z ox oy ou j k = record {
    own = k.own;
    above_first = order.transitive y u z oy ou k.own j.above_first k.above_first;
    above_second = k.above_second;
    least = λ w ow yw xw. k.least w ow (j.least w ow yw xw) xw;
  }

  -- the successor s itself
  pub spread_here : (A B : Type 0) (x y u z : E) (before after : Type 0) → is_own x → is_own y → is_own u → B
      → IsSpread is_own is_below A x y u before → IsJoin is_own is_below u x z → (before → after) → after ⊎ is_below z u → IsSpread is_own is_below B x y z after
  spread_here A B x y u z before after ox oy ou here s j kept risen = record {
    outcome = inr (
      here,
      elim s.outcome [
        | inl same ↦ rw (← same) j
        | inr w ↦ joins_again x y u z ox oy ou w.1 j
      ],
    );
    covers = λ _. j.above_second;
    waiting = elim s.waiting [
      | inl w ↦ inl (kept w)
      | inr low ↦ elim risen [
        | inl w ↦ inl w
        | inr down ↦ inr (order.transitive z u y j.own ou oy down low)
      ]
    ];
  }

  -- another node
  pub spread_elsewhere : (A B : Type 0) (x y z : E) (before after : Type 0) → (A → B) → (B → A) → IsSpread is_own is_below A x y z before → (before → after) → IsSpread is_own is_below B x y z after
  spread_elsewhere A B x y z before after to from s kept = record {
    outcome = elim s.outcome [ inl same ↦ inl same | inr w ↦ inr (to w.0, w.1) ];
    covers = λ b. s.covers (from b);
    waiting = elim s.waiting [ inl w ↦ inl (kept w) | inr low ↦ inr low ];
  }

-- the room after an element's rank has grown, and where it stayed
pub room_shrinks : {E : Type 0} (rank : E → ℕ) (height : ℕ) (ys : List E) (i : ℕ) (y z : E) → i < length ys → get_or ys i y ≡ y → rank y < rank z → rank z ≤ height → room rank height (set ys i z) + 1 ≤ room rank height ys
room_shrinks rank height ys i y z h e grows fits =
    let s = sum_by-set (λ v. height - rank v) ys i z y h in
    let s' = rw e at s in omega arith

pub room_stays : {E : Type 0} (rank : E → ℕ) (height : ℕ) (ys : List E) (i : ℕ) (y z : E) → i < length ys → get_or ys i y ≡ y → rank z ≡ rank y → room rank height (set ys i z) ≤ room rank height ys
room_stays rank height ys i y z h e stays =
    let s = sum_by-set (λ v. height - rank v) ys i z y h in
    let s' = rw e at s in omega arith
