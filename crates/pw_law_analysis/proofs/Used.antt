-- What summaries say that functions use is what their operations do.
use Rattle.std.proofs.Common.{◌≡◌, ℕ, zero, suc, ◌*◌, ◌<◌, Bool, true, List, [], ◌∷◌, map, refl, sym, ap, subst, ◌∙◌, arith, inl}
use Rattle.std.specs.Prelude.{Contains, Some, slice_get, min, count_by}
use Rattle.std.specs.List.{sum_by}
use Rattle.std.specs.Str.{bytes_eq}
use Rattle.std.proofs.lemmas.Slice.Eq.{bytes_eq-Decides}
use Rattle.std.proofs.lemmas.Option.{same_Some}
use Rattle.pw_flow.specs.declared.flow.Op.{Op}
use Rattle.pw_flow.specs.declared.flow.Op.TheVariants.{LoadG, StoreG}
use Rattle.pw_flow.specs.declared.flow.Block.{Block}
use Rattle.pw_flow.specs.declared.flow.FlowFn.{FlowFn}
use Rattle.pw_flow.specs.declared.flow.FlowModule.{FlowModule}
use Rattle.pw_run_languages.specs.Programs.{Program, functions_of}
use Rattle.pw_files.proofs.Standing.{Has, has_by, contains_by, has_map, has_map_back, has_flat, has_flat_back}
use Rattle.pw_summary.specs.declared.summary.Uses.{Uses}
use Rattle.pw_summary.specs.declared.summary.Summary.{Summary}
use Rattle.pw_summarise.specs.Summarises.{referenced, weight, is_read, is_write, weighted, reference, in_function, function_entry, function_entries, IsUsesOf, AreUsesOf}
use Rattle.pw_graph.specs.Program.{IsUseOf, HasWeights}
use Rattle.pw_graph.proofs.Lists.{at_has}
use Rattle.pw_run_languages.specs.LawfulPrograms.{ops_of, eligible_names, read_by, written_by, IsProgram}
use Rattle.pw_law_analysis.specs.SummaryGraphs.{AllSummarise}
use Rattle.pw_law_analysis.proofs.Lists.{has_filter, has_filter_back, one_named, sum_has, has_sum, count_has, has_count, eights, right_positive, times_positive}
use Rattle.pw_law_analysis.proofs.Addresses.{summary_of, module_of, by_op}
use Rattle.pw_law_analysis.proofs.Shapes.{functions_distinct}

-- ---- a function and what it uses

record UsesAt (fs : List FlowFn) (entry : List ℕ × List ℕ) (u : Uses) : Type 0 where
  function : FlowFn
  there : Has function fs
  entered : function_entry function ≡ entry
  uses : IsUsesOf function u

uses_at : (fs : List FlowFn) (entries : List (List ℕ × List ℕ)) (us : List Uses) → AreUsesOf fs entries us → (k : ℕ) (e : List ℕ × List ℕ) → slice_get entries k ≡ Some e → (u : Uses) × (slice_get us k ≡ Some u) × UsesAt fs e u
uses_at fs [] us are k e at = absurd cc
uses_at fs (entry ∷ entries) [] are k e at = absurd are
uses_at fs (entry ∷ entries) (u ∷ us) are zero e at =
    (u, refl, record { function = are.0.0; there = has_by are.0.0 fs are.0.1; entered = are.0.2 ∙ same_Some entry e at; uses = are.0.3 })
uses_at fs (entry ∷ entries) (u ∷ us) are (suc k) e at = uses_at fs entries us are.1 k e at

-- a function of the program uses this
pub record UsesOf (p : Program) (f : List ℕ) (u : Uses) : Type 0 where
  pub function : FlowFn
  pub there : Has function (functions_of p)
  pub name : function.name ≡ f
  pub uses : IsUsesOf function u

module _ (p : Program) (lawful : IsProgram p) (ss : List Summary) (all : AllSummarise p.modules ss) where
  pub use_forth : (f : List ℕ) (u : Uses) → IsUseOf ss f u → UsesOf p f u
  use_forth f u is =
      let m = module_of p.modules ss all is.summary (has_by is.summary ss is.stands) in
      let r = uses_at m.0.functions is.summary.functions is.summary.uses m.2.uses is.place (f, is.shape) is.at in
      let same : r.0 ≡ u = same_Some r.0 u (sym r.1 ∙ is.uses) in
      record {
        function = r.2.function;
        there = has_flat (λ (m : FlowModule). m.functions) m.0 r.2.function p.modules m.1 r.2.there;
        name = ap (λ (e : List ℕ × List ℕ). e.0) r.2.entered;
        uses = subst (λ (u : Uses). IsUsesOf r.2.function u) same r.2.uses;
      }

  pub use_back : (f : FlowFn) → Has f (functions_of p) → (u : Uses) × IsUseOf ss f.name u × IsUsesOf f u
  use_back f h =
      let m = has_flat_back (λ (m : FlowModule). m.functions) f p.modules h in
      let s = summary_of p.modules ss all m.0 m.1 in
      let own = has_by (function_entry f) s.0.functions ((s.2.functions.of (function_entry f)).1 (contains_by (function_entry f) (function_entries m.0) (has_map function_entry f m.0.functions m.2))) in
      let k = at_has s.0.functions (function_entry f) own in
      let r = uses_at m.0.functions s.0.functions s.0.uses s.2.uses k.0 (function_entry f) k.1 in
      let other : Has r.2.function (functions_of p) = has_flat (λ (m : FlowModule). m.functions) m.0 r.2.function p.modules m.1 r.2.there in
      let same : r.2.function ≡ f = one_named (λ (f : FlowFn). f.name) (functions_of p) (functions_distinct p lawful) r.2.function f other h (ap (λ (e : List ℕ × List ℕ). e.0) r.2.entered) in (
        r.0,
        record { summary = s.0; stands = contains_by s.0 ss s.1; place = k.0; shape = f.shape; at = k.1; uses = r.1 },
        subst (λ (f : FlowFn). IsUsesOf f r.0) same r.2.uses,
      )

-- ---- weights

weighed_op : (test : Op → Bool) (f : FlowFn) → 0 < weighted test f → (o : Op) × Has o (ops_of f) × (test o ≡ true)
weighed_op test f lt =
    let weigh = λ (b : Block). weight b.depth * count_by test b.ops in
    let more : 0 < sum_by weigh f.blocks = omega (arith, lt) in
    let b = sum_has weigh f.blocks more in
    let o = count_has test b.0.ops (right_positive (weight b.0.depth) (count_by test b.0.ops) b.2) in
    (o.0, has_flat (λ (b : Block). b.ops) b.0 o.0 f.blocks b.1 o.1, o.2)

op_weighed : (test : Op → Bool) (f : FlowFn) (o : Op) → Has o (ops_of f) → test o ≡ true → 0 < weighted test f
op_weighed test f o h e =
    let weigh = λ (b : Block). weight b.depth * count_by test b.ops in
    let b = has_flat_back (λ (b : Block). b.ops) o f.blocks h in
    let some = times_positive (weight b.0.depth) (count_by test b.0.ops) (eights (min 4 b.0.depth)) (has_count test b.0.ops o b.2 e) in
    let more : 0 < sum_by weigh f.blocks = has_sum weigh f.blocks b.0 b.1 some in
    omega (arith, more)

-- ---- reads and writes

module _ (p : Program) where
  read_there : (o : Op) (v : List ℕ) → is_read v o ≡ true → Has v (eligible_names p) → Has v (read_by p o)
  read_there (LoadG t g k) v e h = has_filter (bytes_eq g) v (eligible_names p) h e
  read_there _ v e h = absurd cc

  read_where : (o : Op) (v : List ℕ) → Has v (read_by p o) → (is_read v o ≡ true) × Has v (eligible_names p) × Has v (referenced o)
  read_where (LoadG t g k) v h = let r = has_filter_back (bytes_eq g) v (eligible_names p) h in (r.1, r.0, inl ((bytes_eq-Decides g v).0 r.1))
  read_where _ v h = absurd h

  write_there : (o : Op) (v : List ℕ) → is_write v o ≡ true → Has v (eligible_names p) → Has v (written_by p o)
  write_there (StoreG g a k) v e h = has_filter (bytes_eq g) v (eligible_names p) h e
  write_there _ v e h = absurd cc

  write_where : (o : Op) (v : List ℕ) → Has v (written_by p o) → (is_write v o ≡ true) × Has v (eligible_names p) × Has v (referenced o)
  write_where (StoreG g a k) v h = let r = has_filter_back (bytes_eq g) v (eligible_names p) h in (r.1, r.0, inl ((bytes_eq-Decides g v).0 r.1))
  write_where _ v h = absurd h

-- the weights of a global in a function are those of its reads and writes there
weights_are : (f : FlowFn) (u : Uses) (v : List ℕ) (reads writes : ℕ) → IsUsesOf f u → Contains u.refs (v, reads, writes) → (weighted (is_read v) f ≡ reads) × (weighted (is_write v) f ≡ writes)
weights_are f u v reads writes is h =
    let r = has_map_back (reference f) (v, reads, writes) (in_function referenced f) (has_by (v, reads, writes) (map (reference f) (in_function referenced f)) ((is.refs.of (v, reads, writes)).0 h)) in
    let name : r.0 ≡ v = ap (λ (x : List ℕ × ℕ × ℕ). x.0) r.2 in
    let same : reference f v ≡ (v, reads, writes) = subst (λ (n : List ℕ). reference f n ≡ (v, reads, writes)) name r.2 in
    (ap (λ (x : List ℕ × ℕ × ℕ). x.1) same, ap (λ (x : List ℕ × ℕ × ℕ). x.2) same)

module _ (p : Program) (lawful : IsProgram p) (ss : List Summary) (all : AllSummarise p.modules ss) where
  pub record Reading (f v : List ℕ) : Type 0 where
    pub function : FlowFn
    pub there : Has function (functions_of p)
    pub name : function.name ≡ f
    pub op : Op
    pub at : Has op (ops_of function)
    pub read : Has v (read_by p op)

  pub record Writing (f v : List ℕ) : Type 0 where
    pub function : FlowFn
    pub there : Has function (functions_of p)
    pub name : function.name ≡ f
    pub op : Op
    pub at : Has op (ops_of function)
    pub written : Has v (written_by p op)

  pub reading : (f v : List ℕ) (reads writes : ℕ) → HasWeights ss f v reads writes → 0 < reads → Has v (eligible_names p) → Reading f v
  reading f v reads writes has lt eligible =
      let u = use_forth p lawful ss all f has.u has.uses in
      let w = weights_are u.function has.u v reads writes u.uses has.stands in
      let o = weighed_op (is_read v) u.function (subst (λ (n : ℕ). 0 < n) (sym w.0) lt) in
      record { function = u.function; there = u.there; name = u.name; op = o.0; at = o.1; read = read_there p o.0 v o.2 eligible }

  pub writing : (f v : List ℕ) (reads writes : ℕ) → HasWeights ss f v reads writes → 0 < writes → Has v (eligible_names p) → Writing f v
  writing f v reads writes has lt eligible =
      let u = use_forth p lawful ss all f has.u has.uses in
      let w = weights_are u.function has.u v reads writes u.uses has.stands in
      let o = weighed_op (is_write v) u.function (subst (λ (n : ℕ). 0 < n) (sym w.1) lt) in
      record { function = u.function; there = u.there; name = u.name; op = o.0; at = o.1; written = write_there p o.0 v o.2 eligible }

  weights_there : (f : FlowFn) (o : Op) (v : List ℕ) → Has f (functions_of p) → Has o (ops_of f) → Has v (referenced o) → HasWeights ss f.name v (weighted (is_read v) f) (weighted (is_write v) f)
  weights_there f o v there at h =
      let u = use_back p lawful ss all f there in
      let names = in_function referenced f in
      let own = has_map (reference f) v names (by_op referenced f o v at h) in
      record { u = u.0; uses = u.1; stands = (u.2.refs.of (reference f v)).1 (contains_by (reference f v) (map (reference f) names) own) }

  pub read_weighed : (f : FlowFn) (o : Op) (v : List ℕ) → Has f (functions_of p) → Has o (ops_of f) → Has v (read_by p o) → (0 < weighted (is_read v) f) × HasWeights ss f.name v (weighted (is_read v) f) (weighted (is_write v) f) × Has v (eligible_names p)
  read_weighed f o v there at h = let r = read_where p o v h in (op_weighed (is_read v) f o at r.0, weights_there f o v there at r.2, r.1)

  pub write_weighed : (f : FlowFn) (o : Op) (v : List ℕ) → Has f (functions_of p) → Has o (ops_of f) → Has v (written_by p o) → (0 < weighted (is_write v) f) × HasWeights ss f.name v (weighted (is_read v) f) (weighted (is_write v) f) × Has v (eligible_names p)
  write_weighed f o v there at h = let r = write_where p o v h in (op_weighed (is_write v) f o at r.0, weights_there f o v there at r.2, r.1)
