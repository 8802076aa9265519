-- A web of a file: its fields, and its rules beside the webs before it.
use Rattle.std.proofs.Common.{◌≡◌, ◌≢◌, ℕ, zero, suc, ◌<◌, Bool, true, List, [], ◌∷◌, refl, sym, ap, subst, ◌∙◌, lit<, arith}
use Rattle.std.specs.Prelude.{IsTrue, Option, Some, None, Contains, not, nat_lt, nat_le, ◌==◌, ◌&&◌}
use Rattle.std.specs.List.{AllByRecursion, list_all}
use Rattle.std.specs.Str.{bytes_eq}
use Rattle.std.specs.Cmp.{first_so, second_so}
use Rattle.std.specs.Cmp.Derive.{both_true}
use Rattle.std.proofs.lemmas.Bool.{ltb-true, lt-ltb, leb-true, le-leb, eqb-true, eq-eqb}
use Rattle.std.proofs.lemmas.Slice.Eq.{bytes_eq-Decides}
use Rattle.pw_value.specs.declared.value.Kind.{Kind}
use Rattle.pw_fields.specs.Fields.{u8_at, u32_at, flag_at, choice_at, u8, u32, flag, FitsU8, FitsU32}
use Rattle.pw_fields.specs.FieldLaws.{Spells}
use Rattle.pw_fields.specs.FieldNames.{name_at, name_index, IsNameTable}
use Rattle.pw_fields.proofs.FieldLaws.{checked_spells, u8_spells, u32_spells, flag_spells, choice_spells, mapped_spells}
use Rattle.pw_fields.proofs.FieldSteps.{finish, step, step_where, format}
use Rattle.pw_fields.proofs.NameLaws.{name_spells}
use Rattle.pw_files.specs.Kinds.{scalar, scalar_code, scalar_of, scalar_at}
use Rattle.pw_value.specs.ProgramNames.{same_truth}
use Rattle.pw_files.proofs.KindLaws.{scalar_spells, scalar_again}
use Rattle.pw_value.proofs.StartLaws.{same_forth, same_back}
use Rattle.pw_files.proofs.RisingLaws.{refit}
use Rattle.pw_db.specs.Limits.{first_register, last_register}
use Rattle.pw_db.specs.declared.database.Web.{Web}
use Rattle.pw_db.specs.declared.database.Role.{Role}
use Rattle.pw_db.specs.declared.database.Role.TheVariants.{Entry, Member}
use Rattle.pw_db.specs.Database.{IsWeb}
use Rattle.pw_db_sharing.proofs.SharingLaws.{not_true, not_by}
use Rattle.pw_db_file.specs.Spelling.{web, role_code}
use Rattle.pw_db_file.specs.Reading.{first_with, fits_first, number_at, global_at, kind_at, register_at, writes_at, role_of, role_at, web_at}
use Rattle.pw_db_file.proofs.EachTwoLaws.{IsFirst, first_number}

-- ---- the rules as tests

abbrev NumberRule : List Web → ℕ → Type 0
NumberRule own id = IsTrue (list_all (λ w. nat_lt w.id id) own)

abbrev GlobalRule : List Web → List Web → ℕ → List ℕ → Type 0
GlobalRule seen own id name = IsTrue (fits_first (first_with id seen) (λ w. bytes_eq w.global name) && list_all (λ w. not (bytes_eq w.global name)) own)

abbrev KindRule : List Web → ℕ → Kind → Type 0
KindRule seen id k = IsTrue (fits_first (first_with id seen) (λ w. scalar_code w.kind == scalar_code k))

abbrev RegisterRule : List Web → List Web → ℕ → ℕ → Type 0
RegisterRule seen own id r = IsTrue ((nat_le first_register r && nat_le r last_register) && (fits_first (first_with id seen) (λ w. w.reg == r) && list_all (λ w. not (w.reg == r)) own))

abbrev WritesRule : List Web → ℕ → Bool → Type 0
WritesRule seen id b = IsTrue (fits_first (first_with id seen) (λ w. same_truth w.writes b))

abbrev WebSteps : List (List ℕ) → List Web → List Web → Web × Role → Type 0
WebSteps names seen own w = (FitsU32 w.0.id × NumberRule own w.0.id) × ((Contains names w.0.global × GlobalRule seen own w.0.id w.0.global) × ((Unit {0} × KindRule seen w.0.id w.0.kind)
    × ((FitsU8 w.0.reg × RegisterRule seen own w.0.id w.0.reg) × ((Unit {0} × WritesRule seen w.0.id w.0.writes) × (Unit {0} × Unit {0})))))

role_back : (r : Role) → (role_of (role_code r) ≡ r) × FitsU8 (role_code r) × IsTrue (nat_lt (role_code r) 2)
role_back Entry = (refl, lit< tt, refl)
role_back Member = (refl, lit< tt, refl)

role_forth : (code : ℕ) → code < 2 → role_code (role_of code) ≡ code
role_forth zero h = refl
role_forth (suc zero) h = refl
role_forth (suc (suc code)) h = absurd (omega arith)

role_spells : Spells (λ r. u8 (role_code r)) (λ r. Unit {0}) role_at
unfolding role_at
role_spells = mapped_spells u8 (λ b. FitsU8 b × IsTrue (nat_lt b 2)) (λ r. Unit {0}) (choice_at 2) role_of role_code (choice_spells 2)
    (λ b fits. (role_forth b (ltb-true _ _ fits.1), tt))
    (λ r fits. let p = role_back r in (p.0, (p.1, p.2)))

number_spells : (own : List Web) → Spells u32 (λ id. FitsU32 id × NumberRule own id) (number_at own)
unfolding number_at
number_spells own = checked_spells u32 FitsU32 u32_at (λ id. list_all (λ w. nat_lt w.id id) own) u32_spells

global_spells : (names : List (List ℕ)) → IsNameTable names → (seen own : List Web) (id : ℕ) → Spells (name_index names) (λ g. Contains names g × GlobalRule seen own id g) (global_at names (first_with id seen) own)
unfolding global_at
global_spells names table seen own id = checked_spells (name_index names) (Contains names) (name_at names) (λ name. fits_first (first_with id seen) (λ w. bytes_eq w.global name) && list_all (λ w. not (bytes_eq w.global name)) own) (name_spells names table)

kind_spells : (seen : List Web) (id : ℕ) → Spells scalar (λ k. Unit {0} × KindRule seen id k) (kind_at (first_with id seen))
unfolding kind_at
kind_spells seen id = checked_spells scalar (λ k. Unit {0}) scalar_at (λ k. fits_first (first_with id seen) (λ w. scalar_code w.kind == scalar_code k)) scalar_spells

register_spells : (seen own : List Web) (id : ℕ) → Spells u8 (λ r. FitsU8 r × RegisterRule seen own id r) (register_at (first_with id seen) own)
unfolding register_at
register_spells seen own id = checked_spells u8 FitsU8 u8_at (λ r. (nat_le first_register r && nat_le r last_register) && (fits_first (first_with id seen) (λ w. w.reg == r) && list_all (λ w. not (w.reg == r)) own)) u8_spells

writes_spells : (seen : List Web) (id : ℕ) → Spells flag (λ b. Unit {0} × WritesRule seen id b) (writes_at (first_with id seen))
unfolding writes_at
writes_spells seen id = checked_spells flag (λ b. Unit {0}) flag_at (λ b. fits_first (first_with id seen) (λ w. same_truth w.writes b)) flag_spells

web_steps : (names : List (List ℕ)) → IsNameTable names → (seen own : List Web) → Spells (web names) (WebSteps names seen own) (web_at names seen own)
unfolding web_at
web_steps names table seen own = format (web names) (WebSteps names seen own) (web names) (WebSteps names seen own) _
    (step _ _ u32 (λ id. FitsU32 id × NumberRule own id) (number_at own) _ _ _ (λ w. w.0.id) (number_spells own)
    (λ id id_fits. step_where _ _ (name_index names) (λ g. Contains names g × GlobalRule seen own id g) (global_at names (first_with id seen) own) _ (λ w. Contains names w.0.global × GlobalRule seen own w.0.id w.0.global) _ _ (λ w. w.0.global)
    (global_spells names table seen own id)
    (λ w k h. (h.0, subst (λ i. GlobalRule seen own i w.0.global) (sym k.1) h.1)) (λ w k h. (h.0, subst (λ i. GlobalRule seen own i w.0.global) k.1 h.1))
    (λ global global_fits. step_where _ _ scalar (λ k. Unit {0} × KindRule seen id k) (kind_at (first_with id seen)) _ (λ w. Unit {0} × KindRule seen w.0.id w.0.kind) _ _ (λ w. w.0.kind)
    (kind_spells seen id)
    (λ w k h. (h.0, subst (λ i. KindRule seen i w.0.kind) (sym k.0.1) h.1)) (λ w k h. (h.0, subst (λ i. KindRule seen i w.0.kind) k.0.1 h.1))
    (λ kind kind_fits. step_where _ _ u8 (λ r. FitsU8 r × RegisterRule seen own id r) (register_at (first_with id seen) own) _ (λ w. FitsU8 w.0.reg × RegisterRule seen own w.0.id w.0.reg) _ _ (λ w. w.0.reg)
    (register_spells seen own id)
    (λ w k h. (h.0, subst (λ i. RegisterRule seen own i w.0.reg) (sym k.0.0.1) h.1)) (λ w k h. (h.0, subst (λ i. RegisterRule seen own i w.0.reg) k.0.0.1 h.1))
    (λ reg reg_fits. step_where _ _ flag (λ b. Unit {0} × WritesRule seen id b) (writes_at (first_with id seen)) _ (λ w. Unit {0} × WritesRule seen w.0.id w.0.writes) _ _ (λ w. w.0.writes)
    (writes_spells seen id)
    (λ w k h. (h.0, subst (λ i. WritesRule seen i w.0.writes) (sym k.0.0.0.1) h.1)) (λ w k h. (h.0, subst (λ i. WritesRule seen i w.0.writes) k.0.0.0.1 h.1))
    (λ writes writes_fit. step _ _ (λ r. u8 (role_code r)) (λ r. Unit {0}) role_at _ _ _ (λ w. w.1) role_spells
    (λ role role_fits. finish _ (record { id = id; global = global; kind = kind; reg = reg; writes = writes }, role) ((((((tt, refl), refl), refl), refl), refl), refl)
    (λ w k. sym (λ j. (record { id = k.0.0.0.0.0.1 j; global = k.0.0.0.0.1 j; kind = k.0.0.0.1 j; reg = k.0.0.1 j; writes = k.0.1 j }, k.1 j))))))))))
    (λ w. refl) (λ w h. h) (λ w h. h)

-- ---- the rules in words

-- a web of the file behind others: `seen` are those of the file, `own` those of the function
pub record FitsWeb (names : List (List ℕ)) (seen own : List Web) (w : Web) : Type 0 where
  pub id : FitsU32 w.id
  pub above : AllByRecursion (λ v. v.id < w.id) own
  pub named : Contains names w.global
  pub global : AllByRecursion (λ v. v.global ≢ w.global) own
  pub register : AllByRecursion (λ v. v.reg ≢ w.reg) own
  pub is : IsWeb w
  pub first : IsFirst seen w

all_forth : (test : Web → Bool) (P : Web → Type 0) → ((w : Web) → test w ≡ true → P w) → (xs : List Web) → list_all test xs ≡ true → AllByRecursion P xs
all_forth test P f [] e = tt
all_forth test P f (x ∷ xs) e = (f x (first_so (test x) (list_all test xs) e), all_forth test P f xs (second_so (test x) (list_all test xs) e))

all_back : (test : Web → Bool) (P : Web → Type 0) → ((w : Web) → P w → test w ≡ true) → (xs : List Web) → AllByRecursion P xs → list_all test xs ≡ true
all_back test P f [] all = refl
all_back test P f (x ∷ xs) all = both_true (f x all.0) (all_back test P f xs all.1)

-- all fields that the first web of the number must share with this one
first_forth_by : (f : Option Web) (w v : Web) → v.id ≡ w.id → f ≡ Some v → fits_first f (λ x. bytes_eq x.global w.global) ≡ true → fits_first f (λ x. scalar_code x.kind == scalar_code w.kind) ≡ true
    → fits_first f (λ x. x.reg == w.reg) ≡ true → fits_first f (λ x. same_truth x.writes w.writes) ≡ true → v ≡ w
first_forth_by None w v same is g k r b = absurd cc
first_forth_by (Some x) w v same is g k r b =
    let alike : x ≡ v = cc in
    let global : x.global ≡ w.global = (bytes_eq-Decides x.global w.global).0 g in
    let kind : x.kind ≡ w.kind = sym (scalar_again x.kind) ∙ ap scalar_of (eqb-true (scalar_code x.kind) (scalar_code w.kind) k) ∙ scalar_again w.kind in
    let reg : x.reg ≡ w.reg = eqb-true x.reg w.reg r in
    let writes : x.writes ≡ w.writes = same_forth x.writes w.writes b in
    let id : x.id ≡ w.id = ap (λ (z : Web). z.id) alike ∙ same in
    let whole : x ≡ w = λ j. record { id = id j; global = global j; kind = kind j; reg = reg j; writes = writes j } in
    sym alike ∙ whole

first_back : (f : Option Web) (w : Web) (test : Web → Bool) → test w ≡ true → ((v : Web) → f ≡ Some v → v ≡ w) → fits_first f test ≡ true
first_back None w test holds first = refl
first_back (Some v) w test holds first = ap test (first v refl) ∙ holds

web_forth : (names : List (List ℕ)) (seen own : List Web) (w : Web × Role) → WebSteps names seen own w → FitsWeb names seen own w.0
web_forth names seen own p h =
    let w = p.0 in
    let f = first_with w.id seen in
    let g = h.1.0.1 in
    let r = h.1.1.1.0.1 in
    let range = nat_le first_register w.reg && nat_le w.reg last_register in
    let fit = fits_first f (λ x. x.reg == w.reg) in
    let free = list_all (λ x. not (x.reg == w.reg)) own in
    let g_fit = fits_first f (λ x. bytes_eq x.global w.global) in
    let g_free = list_all (λ x. not (bytes_eq x.global w.global)) own in
    let within = first_so range (fit && free) r in
    record {
      id = h.0.0;
      above = all_forth (λ x. nat_lt x.id w.id) (λ x. x.id < w.id) (λ x e. ltb-true _ _ e) own h.0.1;
      named = h.1.0.0;
      global = all_forth (λ x. not (bytes_eq x.global w.global)) (λ x. x.global ≢ w.global) (λ x e same. not_true _ e ((bytes_eq-Decides x.global w.global).1 same)) own (second_so g_fit g_free g);
      register = all_forth (λ x. not (x.reg == w.reg)) (λ x. x.reg ≢ w.reg) (λ x e same. not_true _ e (eq-eqb _ _ same)) own (second_so fit free (second_so range (fit && free) r));
      is = record { low = leb-true _ _ (first_so (nat_le first_register w.reg) (nat_le w.reg last_register) within); high = leb-true _ _ (second_so (nat_le first_register w.reg) (nat_le w.reg last_register) within) };
      first = λ v e. first_forth_by f w v (first_number w.id seen v e) e (first_so g_fit g_free g) h.1.1.0.1 (first_so fit free (second_so range (fit && free) r)) h.1.1.1.1.0.1;
    }

web_back : (names : List (List ℕ)) (seen own : List Web) (w : Web × Role) → FitsWeb names seen own w.0 → WebSteps names seen own w
web_back names seen own p is =
    let w = p.0 in
    let f = first_with w.id seen in (
      (is.id, all_back (λ x. nat_lt x.id w.id) (λ x. x.id < w.id) (λ x lt. lt-ltb _ _ lt) own is.above),
      (
        (
          is.named,
          both_true (first_back f w (λ x. bytes_eq x.global w.global) ((bytes_eq-Decides w.global w.global).1 refl) is.first)
              (all_back (λ x. not (bytes_eq x.global w.global)) (λ x. x.global ≢ w.global) (λ x differs. not_by _ (λ e. differs ((bytes_eq-Decides x.global w.global).0 e))) own is.global),
        ),
        (
          (tt, first_back f w (λ x. scalar_code x.kind == scalar_code w.kind) (eq-eqb (scalar_code w.kind) (scalar_code w.kind) refl) is.first),
          (
            (
              omega (arith, is.is.high),
              both_true (both_true (le-leb _ _ is.is.low) (le-leb _ _ is.is.high))
                  (both_true (first_back f w (λ x. x.reg == w.reg) (eq-eqb w.reg w.reg refl) is.first) (all_back (λ x. not (x.reg == w.reg)) (λ x. x.reg ≢ w.reg) (λ x differs. not_by _ (λ e. differs (eqb-true _ _ e))) own is.register)),
            ),
            ((tt, first_back f w (λ x. same_truth x.writes w.writes) (same_back w.writes w.writes refl) is.first), (tt, tt)),
          ),
        ),
      ),
    )

pub web_spells : (names : List (List ℕ)) → IsNameTable names → (seen own : List Web) → Spells (web names) (λ w. FitsWeb names seen own w.0) (web_at names seen own)
web_spells names table seen own = refit (web names) (WebSteps names seen own) (λ w. FitsWeb names seen own w.0) _ (web_forth names seen own) (web_back names seen own) (web_steps names table seen own)
